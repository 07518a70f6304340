use Rattle.std.proofs.Common.{arith}
use lib.Seq.{length-take-le}
use Rattle.mschap.proofs.Pieces.{units_octets}
use Rattle.mschap.proofs.unit_octets.Goals as goal

pub returns : goal.returns
returns c = units_octets _ _ c.min-n.result _ c.min-n.ensures c.put_units.ensures (length-take-le _ _ (omega (arith, c.min-n.ensures)))
