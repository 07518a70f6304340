use Rattle.std.proofs.Common.{arith}
use Rattle.des.specs.Tables.{pc2_table}
use Rattle.des.proofs.Selections.{choice_2}
use Rattle.des.proofs.Halves.{round_more, halves}
use Rattle.des.proofs.rounds.Goals as goal

pub loop-n-init : goal.loop-n-init
loop-n-init c = search halves

pub permuted-key-requires : goal.permuted-key-requires
unfolding pc2_table
permuted-key-requires c = (omega arith, choice_2)

pub loop-n-preserved : goal.loop-n-preserved
unfolding pc2_table
loop-n-preserved c = round_more c.loop-n.invariant c.loop-n-test.true c.shift-cd.ensures c.permuted-key.ensures c.round-lr.ensures
