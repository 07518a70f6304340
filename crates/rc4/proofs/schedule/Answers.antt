use Rattle.octets.proofs.Loops.{turning}
use Rattle.rc4.proofs.Mixing.{schedule_done}
use Rattle.rc4.proofs.schedule.Goals as goal

pub loop-i-init : goal.loop-i-init
loop-i-init c = search turning

pub loop-i-preserved : goal.loop-i-preserved
loop-i-preserved c = search turning

pub returns : goal.returns
returns c = search (turning, schedule_done)
