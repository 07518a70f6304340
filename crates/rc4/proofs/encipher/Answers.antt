use Rattle.rc4.proofs.Mixing.{mixing}
use Rattle.rc4.proofs.encipher.Goals as goal

pub loop-x-init : goal.loop-x-init
loop-x-init c = search mixing

pub loop-x-preserved : goal.loop-x-preserved
loop-x-preserved c = search mixing

pub returns : goal.returns
returns c = search mixing
