use Rattle.calls.specs.Ends.{peer_supply_at}
use mathlib.Core.Path.{sym, ◌∙◌}
use Rattle.octets.proofs.Exits.{pick_true}
use Rattle.calls.proofs.Laws.{leaves, supply_ended}
use Rattle.calls.proofs.peer_supply.Goals as goal

pub returns-then-state-ne-OCTETS : goal.returns-then-state-ne-OCTETS
unfolding peer_supply_at
returns-then-state-ne-OCTETS c = search leaves

pub returns-in_default : goal.returns-in_default
unfolding peer_supply_at
returns-in_default c = search (leaves, c.in_default.ensures.1)

pub returns-in_default-try_from : goal.returns-in_default-try_from
unfolding peer_supply_at
returns-in_default-try_from c = search (leaves, c.in_default-try_from.ensures.1)

pub returns : goal.returns
unfolding peer_supply_at
returns c = supply_ended _ _ _ _ _ _ _ _ _ _ _ _ c.supply-step.ensures c.keep.ensures c.decode.ensures c.in-Ok.ensures.1.same c.in-Ok-try_from.ensures.1.same ∙ sym (pick_true _ _ _ (search leaves))
