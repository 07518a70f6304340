use Rattle.std.proofs.Common.{arith}
use Rattle.des.proofs.Joins.{octet_more, words}
use Rattle.des.proofs.word_of.Goals as goal

pub loop-x-init : goal.loop-x-init
loop-x-init c = search words

pub overflow_mul-acc : goal.overflow_mul-acc
overflow_mul-acc c = search words

pub loop-x-preserved : goal.loop-x-preserved
loop-x-preserved c = octet_more c.loop-x.invariant (omega arith) (omega arith) c.from.ensures

pub returns : goal.returns
returns c = search words
