use Rattle.calls.specs.Ends.{server_packet_at}
use mathlib.Core.Path.{sym, ◌∙◌}
use Rattle.octets.proofs.Exits.{pick_true}
use Rattle.calls.proofs.Laws.{leaves, packet_ended}
use Rattle.calls.proofs.server_packet.Goals as goal

pub returns-then-state-ne-OCTETS : goal.returns-then-state-ne-OCTETS
unfolding server_packet_at
returns-then-state-ne-OCTETS c = search leaves

pub returns-in_default : goal.returns-in_default
unfolding server_packet_at
returns-in_default c = search (leaves, c.in_default.ensures.1)

pub returns : goal.returns
unfolding server_packet_at
returns c = packet_ended _ _ _ _ _ _ _ _ _ _ _ c.packet-step.ensures c.keep.ensures c.decode.ensures c.in-Ok.ensures.1.same ∙ sym (pick_true _ _ _ (search leaves))
