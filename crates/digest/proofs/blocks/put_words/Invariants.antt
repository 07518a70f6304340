use Rattle.std.proofs.Common.{◌≡◌, ℕ, ◌<◌, length, get_or}
use Rattle.digest.proofs.blocks.put_words.Given as goal

abbrev pub invariant-loop-j : goal.invariant-loop-j
invariant-loop-j g l = (length l.b ≡ 16) × ((k : ℕ) → k < l.j → goal.F-post g l.word k (get_or l.b k 0))
