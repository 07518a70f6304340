use Rattle.std.proofs.Common.{◌≡◌, length, drop}
use Rattle.octets.proofs.Appends.{Laid}
use Rattle.console.specs.Inner.{visible}
use Rattle.console.proofs.show_into.Given as goal

abbrev pub invariant-loop-x : goal.invariant-loop-x
invariant-loop-x l = Laid (visible l.s) l.initial.dst l.n l.dst (visible (drop l.x-index l.s)) × (length l.dst ≡ length l.initial.dst)
