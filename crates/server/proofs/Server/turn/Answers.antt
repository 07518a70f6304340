use Rattle.server.proofs.Laws.{turn_refused, turn_given}
use Rattle.server.proofs.Server.turn.Goals as goal

pub returns-in_err-k : goal.returns-in_err-k
returns-in_err-k c = turn_refused _ _ _ _ c.in_err-k.ensures c.from_residual.ensures.1

pub returns : goal.returns
returns c = turn_given _ _ _ _ c.in_ok-k.ensures c.checked.ensures
