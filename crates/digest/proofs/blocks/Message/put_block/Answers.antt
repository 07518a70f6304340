use Rattle.std.proofs.Common.{rules}
use Rattle.digest.proofs.Padding.{block_done, four_word}
use Rattle.digest.proofs.blocks.Message.put_block.Goals as goal

pub returns-then-i-self : goal.returns-then-i-self
returns-then-i-self g c = block_done _ _ _ _ c.put_words.ensures.0 (λ j h. let called = c.put_words.ensures.1 j h in search (rules, four_word))

pub returns : goal.returns
returns g c = block_done _ _ _ _ c.put_words-2.ensures.0 (λ j h. let called = c.put_words-2.ensures.1 j h in search rules)
