use Rattle.octets.proofs.Scans.{numbering}
use Rattle.octets.proofs.number_of.Goals as goal

pub loop-x-preserved : goal.loop-x-preserved
loop-x-preserved c = search numbering
