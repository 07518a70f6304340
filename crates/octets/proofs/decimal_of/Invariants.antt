use Rattle.octets.proofs.Decimals.{Spelled}
use Rattle.octets.proofs.decimal_of.Given as goal

abbrev pub invariant-loop-i : goal.invariant-loop-i
invariant-loop-i l = Spelled l.n l.space l.i l.left
