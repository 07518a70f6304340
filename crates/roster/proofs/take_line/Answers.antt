use Rattle.roster.proofs.Makes.{take_account}
use Rattle.roster.proofs.take_line.Goals as goal

pub returns : goal.returns
returns c = take_account _ _ _ c.requires c.in-Ok-Some.entry (rw c.in-Ok-Some.field-0-is at c.in-Ok-Some.ensures) _ _ c.part-name.ensures _ _ c.append_account.ensures c.ok_or.ensures.value
