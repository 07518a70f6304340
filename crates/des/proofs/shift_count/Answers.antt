use Rattle.std.proofs.Common.{refl}
use Rattle.des.specs.Tables.{shift_table}
use Rattle.des.proofs.Rows.{shift_few}
use Rattle.des.proofs.shift_count.Goals as goal

pub returns : goal.returns
unfolding shift_table
returns c = (refl, shift_few _ _ c.requires refl)
