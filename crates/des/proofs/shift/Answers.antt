use Rattle.std.proofs.Common.{◌∙◌, arith}
use Rattle.des.proofs.Halves.{shift_is}
use Rattle.des.proofs.shift.Goals as goal

pub returns : goal.returns
returns c =
    let counted = c.shift_count.ensures in
    shift_is _ _ _ _ _ (omega arith) (c.from-s.ensures ∙ counted.0) c.rotate-c.ensures c.rotate-d.ensures
