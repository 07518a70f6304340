use Rattle.std.proofs.Common.{◌∙◌, arith}
use Rattle.des.specs.Des.{substituted}
use Rattle.des.proofs.Joins.{four_more, words}
use Rattle.des.proofs.Boxes.substitute.Goals as goal

pub loop-n-init : goal.loop-n-init
loop-n-init c = search words

pub loop-n-preserved : goal.loop-n-preserved
loop-n-preserved c =
    four_more c.loop-n.invariant c.loop-n-test.true (omega (arith, c.box_at.ensures.1)) (c.from.ensures ∙ c.box_at.ensures.0)

pub returns : goal.returns
unfolding substituted
returns c = search words
