use Rattle.octets.proofs.Loops.{turning}
use Rattle.digest.proofs.sha1_rounds.first_rounds.Goals as goal

pub loop-t-init : goal.loop-t-init
loop-t-init c = search turning

pub loop-t-preserved : goal.loop-t-preserved
loop-t-preserved c = search turning

pub returns : goal.returns
returns c = search turning
