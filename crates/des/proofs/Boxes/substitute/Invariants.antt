use Rattle.des.specs.Des.{box_of}
use Rattle.des.specs.Inner.{bits_in}
use Rattle.des.proofs.Joins.{Joined}
use Rattle.des.proofs.Boxes.substitute.Given as goal

abbrev pub invariant-loop-n : goal.invariant-loop-n
invariant-loop-n l = Joined 8 4 (box_of (bits_in 48 l.w)) l.acc l.n
