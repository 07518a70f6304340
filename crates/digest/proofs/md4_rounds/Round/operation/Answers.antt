use Rattle.digest.proofs.Operations.{operated}
use Rattle.digest.proofs.md4_rounds.Round.operation.Goals as goal

pub returns : goal.returns
returns c = operated _ _ _ _ _ _ _ c.requires.0 c.requires.1 c.function-f.ensures c.constant-k.ensures c.rotate_left.ensures
