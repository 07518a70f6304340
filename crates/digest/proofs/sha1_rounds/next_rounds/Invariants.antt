use Rattle.digest.proofs.Schedules.{Ring}
use Rattle.digest.proofs.sha1_rounds.next_rounds.Given as goal

abbrev pub invariant-loop-k : goal.invariant-loop-k
invariant-loop-k l = Ring l.t l.n l.fn.w l.fn.r l.w l.q l.k
