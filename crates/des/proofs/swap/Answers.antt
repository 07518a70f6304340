use Rattle.std.proofs.Common.{ap, ◌∙◌, arith}
use Rattle.des.specs.Inner.{bits_in}
use Rattle.des.proofs.Halves.{swap_is}
use Rattle.des.proofs.swap.Goals as goal

pub returns : goal.returns
returns c = ap (bits_in 64) c.rotate_left.ensures ∙ swap_is c.args.lr (omega arith)
