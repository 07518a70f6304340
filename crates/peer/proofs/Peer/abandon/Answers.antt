use Rattle.octets.proofs.Exits.{pick_true, pick_false}
use Rattle.peer.specs.State.{staged}
use Rattle.peer.specs.Calls.{give_up_of}
use Rattle.peer.proofs.Moves.{not_waiting}
use Rattle.peer.proofs.Replies.{quiet}
use Rattle.peer.proofs.Peer.abandon.Goals as goal

pub returns-then-ne : goal.returns-then-ne
unfolding give_up_of
returns-then-ne c = rw (pick_true _ _ _ (not_waiting _ _ _ c.ne.ensures c.if-ne.true)) (quiet _ _ _)

pub returns : goal.returns
unfolding give_up_of staged
returns c = rw (c.said.ensures, pick_false _ _ _ (not_waiting _ _ _ c.ne.ensures c.if-ne.false)) (quiet _ _ _)
