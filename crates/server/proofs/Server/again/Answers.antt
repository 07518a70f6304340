use Rattle.answer.proofs.Outcomes.{does}
use Rattle.std.proofs.Common.{length}
use Rattle.server.specs.State.{stored_request}
use Rattle.server.specs.Calls.{resend_of}
use Rattle.server.proofs.Laws.{unsent, was_sent, resend_past}
use Rattle.server.proofs.Server.again.Goals as goal

pub returns-then-not-is_sent : goal.returns-then-not-is_sent
unfolding resend_of
returns-then-not-is_sent c = search does

pub returns-in_err-n : goal.returns-in_err-n
unfolding stored_request
returns-in_err-n c =
    rw (resend_past c.args.self.now (length c.args.reply.now) _ c.is_sent.ensures c.if-not-is_sent.false, ← (rw c.from.ensures at c.part.ensures))
    (unsent _ _ _ _ _ _ _ _ c.in_err-n.ensures c.from_residual.ensures.1)

pub returns : goal.returns
unfolding stored_request
returns c =
    rw (resend_past c.args.self.now (length c.args.reply.now) _ c.is_sent.ensures c.if-not-is_sent.false, ← (rw c.from.ensures at c.part.ensures))
    (was_sent _ _ _ _ _ _ _ c.in_ok-n.ensures)
