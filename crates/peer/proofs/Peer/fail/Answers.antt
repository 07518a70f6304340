use mathlib.Core.Path.{refl}
use native.Mathlib.Omega.{arith}
use Rattle.peer.specs.State.{answered}
use Rattle.peer.proofs.Replies.{bare, sent_part, replied, not_replied}
use Rattle.peer.proofs.Peer.fail.Goals as goal

pub returns-in_err-n : goal.returns-in_err-n
returns-in_err-n c = not_replied _ _ _ _ _ _ _ (bare _ _ _ _ _ refl c.in_err-n.ensures) c.from_residual.ensures.1

pub sent-requires : goal.sent-requires
sent-requires c = rw (sent_part _ _ _ _ _ (bare _ _ _ _ _ refl c.in_ok-n.ensures) c.part.ensures) (omega arith)

pub returns : goal.returns
unfolding answered
returns c =
    let d = bare _ _ _ _ _ refl c.in_ok-n.ensures in
    replied _ _ _ _ _ _ _ _ d c.wrote.ensures (rw (sent_part _ _ _ _ _ d c.part.ensures, c.keep_request.ensures) at c.sent.ensures)
