use Rattle.octets.proofs.Exits.{exits}
use Rattle.digest.proofs.Padding.{padding}
use Rattle.digest.proofs.blocks.Message.padded_at.Goals as goal

pub returns-then-k-n : goal.returns-then-k-n
returns-then-k-n c = search (exits, padding)

pub returns-then-k-n-2 : goal.returns-then-k-n-2
returns-then-k-n-2 c = search (exits, padding)

pub returns-then-k-start : goal.returns-then-k-start
returns-then-k-start c = search (exits, padding)

pub returns : goal.returns
returns c = search (exits, padding)
