use Rattle.digest.specs.Sha1.{round}
use Rattle.digest.proofs.sha1_rounds.round_of.Goals as goal

pub returns : goal.returns
unfolding round
returns c = cc
