use Rattle.std.proofs.Common.{length}
use Rattle.std.specs.Str.{chars}
use Rattle.password.proofs.Characters.{Counted}
use Rattle.password.proofs.put_units.Given as goal

abbrev pub invariant-loop-c : goal.invariant-loop-c
invariant-loop-c l = Counted (chars l.text) l.units l.n (length l.yielded)
