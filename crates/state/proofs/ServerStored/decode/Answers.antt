use Rattle.state.specs.ServerOctets.{server_of}
use Rattle.state.proofs.ServerStored.decode.Goals as goal

pub returns : goal.returns
unfolding server_of
returns c = cc
