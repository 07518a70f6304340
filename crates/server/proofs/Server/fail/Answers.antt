use Rattle.answer.proofs.Outcomes.{does}
use Rattle.octets.proofs.Exits.{gave}
use Rattle.std.proofs.Common.{length}
use Rattle.server.specs.Calls.{fail_of}
use Rattle.server.proofs.Laws.{failure_fits, unsent, sent_few, sent_asks, fail_past}
use Rattle.server.proofs.Server.fail.Goals as goal

pub returns-then-equal : goal.returns-then-equal
unfolding fail_of
returns-then-equal c = search (does, gave)

pub returns-in_err-n : goal.returns-in_err-n
returns-in_err-n c =
    rw (fail_past c.args.f c.args.self.now c.args.fresh (length c.args.reply.now) _ c.equal.ensures c.if-equal.false, ← c.next_id-id.ensures)
    (unsent _ _ _ _ _ _ _ _ c.in_err-n.ensures c.from_residual.ensures.1)

pub ask-requires : goal.ask-requires
ask-requires c = sent_few _ _ _ _ c.in_ok-n.ensures (failure_fits _ _ _ _)

pub returns : goal.returns
returns c =
    rw (fail_past c.args.f c.args.self.now c.args.fresh (length c.args.reply.now) _ c.equal.ensures c.if-equal.false, ← c.next_id-id.ensures)
    (sent_asks _ _ _ _ c.in_ok-n.ensures _ _ _ _ _ _ _ c.ask.ensures)
