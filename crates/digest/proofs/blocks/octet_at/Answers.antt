use Rattle.digest.specs.Blocks.{octet_at}
use Rattle.digest.proofs.blocks.octet_at.Goals as goal

pub returns : goal.returns
unfolding octet_at
returns c = cc
