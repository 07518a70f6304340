use mathlib.Core.Path.{refl, ap}
use mathlib.Core.Bool.{not}
use native.Mathlib.Omega.{arith}
use Rattle.answer.proofs.Outcomes.{does_by}
use Rattle.peer.specs.State.{right_digits, staged, answered}
use Rattle.peer.proofs.Moves.{confirms, confirms_not}
use Rattle.peer.proofs.Replies.{bare, sent_part, replied, not_replied, quiet}
use Rattle.peer.proofs.Peer.confirm.Goals as goal

pub returns-then-not-equal : goal.returns-then-not-equal
unfolding right_digits staged
returns-then-not-equal c =
    does_by _ _ _ _ _ _ _ (rw c.said.ensures (quiet _ _ _)) (confirms_not _ _ _ _ _ _ _ _ c.part-digits.ensures c.authenticator_digits-right.ensures c.equal.ensures (ap not c.if-not-equal.true))

pub returns-in_err-n : goal.returns-in_err-n
unfolding right_digits
returns-in_err-n c =
    does_by _ _ _ _ _ _ _ (not_replied _ _ _ _ _ _ _ (bare _ _ _ _ _ refl c.in_err-n.ensures) c.from_residual.ensures.1) (confirms _ _ _ _ _ _ _ _ c.part-digits.ensures c.authenticator_digits-right.ensures c.equal.ensures (ap not c.if-not-equal.false))

pub sent-requires : goal.sent-requires
sent-requires c = rw (sent_part _ _ _ _ _ (bare _ _ _ _ _ refl c.in_ok-n.ensures) c.part.ensures) (omega arith)

pub returns : goal.returns
unfolding right_digits answered
returns c =
    let d = bare _ _ _ _ _ refl c.in_ok-n.ensures in
    does_by _ _ _ _ _ _ _ (replied _ _ _ _ _ _ _ _ d c.wrote.ensures (rw (sent_part _ _ _ _ _ d c.part.ensures, c.keep_request.ensures) at c.sent.ensures)) (confirms _ _ _ _ _ _ _ _ c.part-digits.ensures c.authenticator_digits-right.ensures c.equal.ensures (ap not c.if-not-equal.false))
