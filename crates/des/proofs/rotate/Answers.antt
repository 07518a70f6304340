use Rattle.des.proofs.Halves.{halves}
use Rattle.des.proofs.rotate.Goals as goal

pub returns : goal.returns
returns c = search halves
