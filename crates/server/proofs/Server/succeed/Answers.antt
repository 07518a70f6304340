use Rattle.server.proofs.Laws.{success_fits, unsent, sent_few, sent_asks}
use Rattle.server.proofs.Server.succeed.Goals as goal

pub returns-in_err-n : goal.returns-in_err-n
returns-in_err-n c = rw (← c.next_id-id.ensures) (unsent _ _ _ _ _ _ _ _ c.in_err-n.ensures c.from_residual.ensures.1)

pub ask-requires : goal.ask-requires
ask-requires c = sent_few _ _ _ _ c.in_ok-n.ensures (success_fits _ _)

pub returns : goal.returns
returns c = rw (← c.next_id-id.ensures) (sent_asks _ _ _ _ c.in_ok-n.ensures _ _ _ _ _ _ _ c.ask.ensures)
