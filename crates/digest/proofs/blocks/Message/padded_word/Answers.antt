use Rattle.std.proofs.Common.{arith, rules}
use Rattle.digest.proofs.Padding.{four_word, zero_word}
use Rattle.digest.proofs.blocks.Message.padded_word.Goals as goal

pub returns-then-k-n : goal.returns-then-k-n
returns-then-k-n c = four_word _ _ _ _ _ (omega arith) c.four.ensures c.word_of.ensures

pub returns-then-k-start : goal.returns-then-k-start
returns-then-k-start c = search (rules, zero_word)
