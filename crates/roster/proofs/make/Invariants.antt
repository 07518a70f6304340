use lib.ListN.{length}
use Rattle.roster.proofs.Makes.{Making}
use Rattle.roster.proofs.make.Given as goal

abbrev pub invariant-loop-left : goal.invariant-loop-left
invariant-loop-left l = Making l.text l.fn.table l.table l.lines l.len l.left

abbrev pub decreases-loop-left : goal.decreases-loop-left
decreases-loop-left l = length l.left
