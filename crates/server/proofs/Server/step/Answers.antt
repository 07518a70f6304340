use Rattle.std.proofs.Common.{refl, length}
use Rattle.server.specs.Calls.{taken_by}
use Rattle.server.proofs.Laws.{unsent, closed, closes, packet_refused, packet_taken, taken_not}
use Rattle.server.proofs.Server.step.Goals as goal

pub returns-in_err-k : goal.returns-in_err-k
returns-in_err-k c = packet_refused _ _ _ _ _ _ _ _ c.in_err-k.ensures c.from_residual.ensures.1

pub returns-in-ChallengeSent : goal.returns-in-ChallengeSent
unfolding taken_by
returns-in-ChallengeSent c =
    rw (packet_taken c.args.self.now c.args.packet.now c.args.table.now c.args.fresh (length c.args.reply.now) _ c.in_ok-k.ensures _ c.in-ChallengeSent.is)
    (rw c.verdict-verdict.ensures at c.judged.ensures)

pub returns-in_err-n-in-SuccessRequestSent : goal.returns-in_err-n-in-SuccessRequestSent
unfolding taken_by
returns-in_err-n-in-SuccessRequestSent c =
    rw (packet_taken c.args.self.now c.args.packet.now c.args.table.now c.args.fresh (length c.args.reply.now) _ c.in_ok-k.ensures _ c.in-SuccessRequestSent.is)
    (unsent _ _ _ _ _ _ _ _ (closed _ _ _ _ _ c.in_err-n-in-SuccessRequestSent.ensures refl) c.from_residual-in_err-n-in-SuccessRequestSent.ensures.1)

pub returns-in_ok-n-in-SuccessRequestSent : goal.returns-in_ok-n-in-SuccessRequestSent
unfolding taken_by
returns-in_ok-n-in-SuccessRequestSent c =
    rw (packet_taken c.args.self.now c.args.packet.now c.args.table.now c.args.fresh (length c.args.reply.now) _ c.in_ok-k.ensures _ c.in-SuccessRequestSent.is)
    (closes _ _ _ _ _ _ _ _ _ c.in_ok-n-in-SuccessRequestSent.ensures refl c.close.ensures)

pub returns-in_err-m-in-FailureRequestSent : goal.returns-in_err-m-in-FailureRequestSent
unfolding taken_by
returns-in_err-m-in-FailureRequestSent c =
    rw (packet_taken c.args.self.now c.args.packet.now c.args.table.now c.args.fresh (length c.args.reply.now) _ c.in_ok-k.ensures _ c.in-FailureRequestSent.is)
    (unsent _ _ _ _ _ _ _ _ (closed _ _ _ _ _ c.in_err-m-in-FailureRequestSent.ensures refl) c.from_residual-in_err-m-in-FailureRequestSent.ensures.1)

pub returns-in_ok-m-in-FailureRequestSent : goal.returns-in_ok-m-in-FailureRequestSent
unfolding taken_by
returns-in_ok-m-in-FailureRequestSent c =
    rw (packet_taken c.args.self.now c.args.packet.now c.args.table.now c.args.fresh (length c.args.reply.now) _ c.in_ok-k.ensures _ c.in-FailureRequestSent.is)
    (closes _ _ _ _ _ _ _ _ _ c.in_ok-m-in-FailureRequestSent.ensures refl c.close-in-FailureRequestSent.ensures)

pub returns-in-Begin : goal.returns-in-Begin
returns-in-Begin c =
    rw (taken_not c.args.self.now c.args.packet.now c.args.table.now c.args.fresh (length c.args.reply.now) _ c.in_ok-k.ensures c.in-Begin.is)
    (record { answered = refl; count = refl; left = refl; written = refl })
