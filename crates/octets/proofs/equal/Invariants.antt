use Rattle.std.proofs.Common.{length}
use Rattle.octets.proofs.Scans.{Compared}
use Rattle.octets.proofs.equal.Given as goal

abbrev pub invariant-loop-x : goal.invariant-loop-x
invariant-loop-x l = Compared l.a l.b l.d (length l.yielded)
