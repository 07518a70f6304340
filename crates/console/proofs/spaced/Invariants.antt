use Rattle.octets.proofs.Loops.{Filled}
use Rattle.console.specs.Inner.{spaced_at}
use Rattle.console.proofs.spaced.Given as goal

abbrev pub invariant-loop-i : goal.invariant-loop-i
invariant-loop-i l = Filled 48 (spaced_at l.s) l.x-items l.i
