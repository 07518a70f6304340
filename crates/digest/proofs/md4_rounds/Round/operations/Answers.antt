use Rattle.digest.proofs.Operations.{md4_loops}
use Rattle.digest.proofs.md4_rounds.Round.operations.Goals as goal

pub loop-t-init : goal.loop-t-init
loop-t-init c = search md4_loops

pub operation-q-requires : goal.operation-q-requires
operation-q-requires c = search md4_loops

pub loop-t-preserved : goal.loop-t-preserved
loop-t-preserved c = search md4_loops

pub returns : goal.returns
returns c = search md4_loops
