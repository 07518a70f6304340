use lib.ListN.{length}
use Rattle.accounts.proofs.Walks.{Walking}
use Rattle.accounts.proofs.walking.walk.Given as goal

abbrev pub invariant-loop-left : goal.invariant-loop-left
invariant-loop-left g l = Walking g.V.Visit.kept l.table l.fn.start l.known l.left

abbrev pub decreases-loop-left : goal.decreases-loop-left
decreases-loop-left g l = length l.left
