use Rattle.state.proofs.Trips.{length_read}
use Rattle.state.proofs.length_at.Goals as goal

pub returns : goal.returns
returns c = length_read _ _ _ _ c.array_at.ensures c.from_le_bytes.ensures
