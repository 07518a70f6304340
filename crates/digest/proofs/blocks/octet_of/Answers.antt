use Rattle.digest.specs.Blocks.{octet_of}
use Rattle.digest.proofs.blocks.octet_of.Goals as goal

pub returns : goal.returns
unfolding octet_of
returns c = cc
