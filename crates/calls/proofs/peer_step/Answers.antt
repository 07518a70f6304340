use Rattle.calls.specs.Ends.{peer_step_at}
use mathlib.Core.Path.{sym, ◌∙◌}
use Rattle.octets.proofs.Exits.{pick_true}
use Rattle.calls.proofs.Laws.{leaves, step_ended}
use Rattle.calls.proofs.peer_step.Goals as goal

pub returns-then-state-ne-OCTETS : goal.returns-then-state-ne-OCTETS
unfolding peer_step_at
returns-then-state-ne-OCTETS c = search leaves

pub returns-in_default : goal.returns-in_default
unfolding peer_step_at
returns-in_default c = search (leaves, c.in_default.ensures.1)

pub returns : goal.returns
unfolding peer_step_at
returns c = step_ended _ _ _ _ _ _ _ _ _ _ c.step-step.ensures c.keep.ensures c.decode.ensures c.in-Ok.ensures.1.same ∙ sym (pick_true _ _ _ (search leaves))
