use Rattle.std.proofs.Common.{length, get_or}
use Rattle.des.proofs.Joins.{Joined}
use Rattle.des.proofs.word_of.Given as goal

abbrev pub invariant-loop-x : goal.invariant-loop-x
invariant-loop-x l = Joined (length l.p) 8 (λ k. get_or l.p k 0) l.acc l.x-index
