use Rattle.std.proofs.Common.{arith}
use Rattle.des.specs.Tables.{e_table, p_table}
use Rattle.des.proofs.Selections.{selection, permutation}
use Rattle.des.proofs.Halves.{cipher_is}
use Rattle.des.proofs.Boxes.cipher_function.Goals as goal

pub permuted-e-requires : goal.permuted-e-requires
unfolding e_table
permuted-e-requires c = (omega arith, selection)

pub permuted-requires : goal.permuted-requires
unfolding p_table
permuted-requires c = (omega arith, permutation)

pub returns : goal.returns
unfolding e_table p_table
returns c = cipher_is _ _ _ _ _ c.permuted-e.ensures c.substitute-bits.ensures c.permuted.ensures
