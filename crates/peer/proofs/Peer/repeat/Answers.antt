use mathlib.Core.Path.{refl}
use Rattle.peer.proofs.Replies.{replied, not_replied}
use Rattle.peer.proofs.Peer.repeat.Goals as goal

pub returns-in_err-n : goal.returns-in_err-n
returns-in_err-n c = not_replied _ _ _ _ _ _ _ (rw c.last_reply.ensures at c.in_err-n.ensures) c.from_residual.ensures.1

pub returns : goal.returns
returns c = replied _ _ _ _ _ _ _ _ (rw c.last_reply.ensures at c.in_ok-n.ensures) c.wrote.ensures refl
