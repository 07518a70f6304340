use Rattle.des.proofs.Halves.{halves}
use Rattle.des.proofs.Boxes.round.Goals as goal

pub returns : goal.returns
returns c = search halves
