use Rattle.octets.proofs.Loops.{filling}
use Rattle.mschap.proofs.put_units.Goals as goal

pub loop-k-init : goal.loop-k-init
loop-k-init c = search filling

pub loop-k-preserved : goal.loop-k-preserved
loop-k-preserved c = search filling
