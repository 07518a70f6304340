use Rattle.std.proofs.Common.{arith, rules}
use Rattle.des.proofs.Joins.{named_as, named_more, named_done, named_most, named_shift, named_room, named_double, naming}
use Rattle.des.proofs.permuted.Goals as goal

pub loop-i-init : goal.loop-i-init
loop-i-init g c = search naming

pub loop-j-init : goal.loop-j-init
loop-j-init g c = search naming

pub overflow_mul-acc : goal.overflow_mul-acc
overflow_mul-acc g c =
    let fits = named_double c.requires c.loop-j.invariant (omega arith) c.from-k.ensures in
    search rules

pub overflow_sub-acc : goal.overflow_sub-acc
overflow_sub-acc g c = named_most c.requires c.loop-j.invariant (omega arith) c.from-k.ensures

pub overflow_shr-acc : goal.overflow_shr-acc
overflow_shr-acc g c = named_shift c.requires c.loop-j.invariant (omega arith) c.from-k.ensures

pub overflow_add-acc : goal.overflow_add-acc
overflow_add-acc g c =
    let fits = named_room c.requires c.loop-j.invariant (omega arith) c.from-k.ensures in
    search rules

pub loop-j-preserved : goal.loop-j-preserved
loop-j-preserved g c = named_more c.requires c.loop-j.invariant (omega arith) c.from-k.ensures (omega arith)

pub loop-i-preserved : goal.loop-i-preserved
loop-i-preserved g c = named_as c.loop-j.invariant (omega arith)

pub returns : goal.returns
returns g c = named_done c.requires c.loop-i.invariant (omega (arith, c.requires.rows))
