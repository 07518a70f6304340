use Rattle.std.proofs.Common.{rules}
use Rattle.des.proofs.Halves.{box_is}
use Rattle.des.proofs.Boxes.box_at.Goals as goal

pub returns : goal.returns
returns c = box_is _ _ _ (search rules) c.looked_up.ensures
