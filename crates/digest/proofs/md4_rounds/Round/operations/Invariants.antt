use Rattle.std.proofs.Common.{◌%◌, get_or}
use Rattle.octets.proofs.Loops.{Turned}
use Rattle.digest.specs.Md4.{operation}
use Rattle.digest.proofs.md4_rounds.Round.operations.Given as goal

abbrev pub invariant-loop-t : goal.invariant-loop-t
invariant-loop-t l = Turned 16 (λ k. operation l.self (get_or l.shifts (k % 4) 0)) (λ k. get_or l.block (get_or l.places k 0) 0) l.fn.r l.q l.t
