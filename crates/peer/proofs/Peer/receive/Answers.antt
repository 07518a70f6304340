use Rattle.answer.proofs.Outcomes.{does_by}
use Rattle.peer.proofs.Replies.{refuses_by}
use Rattle.peer.proofs.Texts.{within, received, received_not}
use Rattle.peer.proofs.Peer.receive.Goals as goal

pub invariant_of-take : goal.invariant_of-take
invariant_of-take c = record { few = within _ _ _ _ c.requires c.in_ok-packet.was c.part-octets.ensures }

pub returns-in_err-packet : goal.returns-in_err-packet
returns-in_err-packet c = does_by _ _ _ _ _ _ _ (refuses_by _ _ _ _ c.from_residual.ensures.1) (received_not _ _ _ _ _ _ _ c.in_err-packet.was)

pub returns : goal.returns
returns c = does_by _ _ _ _ _ _ _ c.take.ensures (received _ _ _ _ _ _ _ _ c.in_ok-packet.was c.part-octets.ensures)
