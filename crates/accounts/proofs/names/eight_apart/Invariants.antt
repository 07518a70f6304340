use Rattle.accounts.proofs.Compares.{Masked}
use Rattle.accounts.proofs.names.eight_apart.Given as goal

abbrev pub invariant-loop-i : goal.invariant-loop-i
invariant-loop-i l = Masked l.a l.b l.mask l.end l.d l.i
