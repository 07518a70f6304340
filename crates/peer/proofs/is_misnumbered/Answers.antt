use Rattle.peer.proofs.Moves.{misnumbered_so, misnumbered_not}
use Rattle.peer.proofs.is_misnumbered.Goals as goal

pub returns-then-is_sent : goal.returns-then-is_sent
returns-then-is_sent c = misnumbered_so _ _ _ _ _ c.is_sent.ensures c.is_request.ensures c.if-is_sent.true

pub returns-else-is_sent : goal.returns-else-is_sent
returns-else-is_sent c = misnumbered_not _ _ _ _ c.is_sent.ensures c.if-is_sent.false
