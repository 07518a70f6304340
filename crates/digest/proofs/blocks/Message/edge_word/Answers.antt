use Rattle.digest.specs.Blocks.{word_at}
use Rattle.digest.proofs.blocks.Message.edge_word.Goals as goal

pub returns : goal.returns
unfolding word_at
returns c = cc
