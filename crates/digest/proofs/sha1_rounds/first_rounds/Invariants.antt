use Rattle.std.proofs.Common.{get_or}
use Rattle.octets.proofs.Loops.{Turned}
use Rattle.digest.specs.Sha1.{round}
use Rattle.digest.proofs.sha1_rounds.first_rounds.Given as goal

abbrev pub invariant-loop-t : goal.invariant-loop-t
invariant-loop-t l = Turned 16 round (λ k. get_or l.w k 0) l.fn.r l.q l.t
