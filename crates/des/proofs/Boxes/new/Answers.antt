use Rattle.std.proofs.Common.{refl}
use Rattle.des.specs.Tables.{s_table}
use Rattle.des.proofs.Boxes.new.Goals as goal

pub invariant_of-result : goal.invariant_of-result
unfolding s_table
invariant_of-result c = record { are = refl }
