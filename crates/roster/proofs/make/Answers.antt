use Rattle.std.proofs.Common.{◌∙◌}
use Rattle.roster.proofs.Makes.{told_fault, making_more}
use Rattle.roster.proofs.Laws.{behind}
use Rattle.roster.proofs.make.Goals as goal

pub returns-in-Err : goal.returns-in-Err
returns-in-Err c =
    told_fault _ _ _ _ _ _ _ _ _ c.loop-left.invariant c.loop-left-test.true c.field_before-line.ensures c.trim.ensures _ c.in-Err.ensures

pub loop-left-preserved : goal.loop-left-preserved
loop-left-preserved c =
    making_more _ _ _ _ _ _ _ _ _ c.loop-left.invariant c.loop-left-test.true c.field_before-line.ensures c.trim.ensures _ _ c.in-Ok.ensures c.take_line.auto.table (c.rest-left.ensures ∙ behind 10 _ _ c.field_before-line.ensures)
