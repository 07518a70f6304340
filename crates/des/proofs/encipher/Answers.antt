use Rattle.std.proofs.Common.{◌∙◌, arith, rules}
use Rattle.des.specs.Tables.{ip_table, fp_table, pc1_table}
use Rattle.des.proofs.Words.{be_octets}
use Rattle.des.proofs.Joins.{octets_in}
use Rattle.des.proofs.Selections.{initial, final, choice_1}
use Rattle.des.proofs.Halves.{enciphered_is}
use Rattle.des.proofs.encipher.Goals as goal

pub permuted-cd-requires : goal.permuted-cd-requires
unfolding pc1_table
permuted-cd-requires c = (omega arith, choice_1)

pub permuted-initial-requires : goal.permuted-initial-requires
unfolding ip_table
permuted-initial-requires c = (omega arith, initial)

pub permuted-w-requires : goal.permuted-w-requires
unfolding fp_table
permuted-w-requires c = (omega arith, final)

pub returns : goal.returns
unfolding ip_table fp_table pc1_table
returns c =
    enciphered_is _ _ _ _ _ _ _ _ _ _
    (octets_in 8 _ _ c.word_of.ensures (search rules))
    c.permuted-cd.ensures
    (octets_in 8 _ _ c.word_of-2.ensures (search rules))
    c.permuted-initial.ensures
    c.rounds.ensures
    c.swap-preoutput.ensures
    c.permuted-w.ensures
    (c.to_be_bytes.ensures ∙ be_octets _)
