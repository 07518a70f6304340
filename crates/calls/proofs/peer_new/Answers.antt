use Rattle.calls.specs.Ends.{peer_new_at}
use mathlib.Core.Path.{sym, ◌∙◌}
use Rattle.octets.proofs.Exits.{pick_true}
use Rattle.calls.proofs.Laws.{leaves, new_begun}
use Rattle.calls.proofs.peer_new.Goals as goal

pub returns-then-state-ne-OCTETS : goal.returns-then-state-ne-OCTETS
unfolding peer_new_at
returns-then-state-ne-OCTETS c = search leaves

pub returns-in_default : goal.returns-in_default
unfolding peer_new_at
returns-in_default c = search (leaves, c.in_default.ensures.1)

pub returns : goal.returns
unfolding peer_new_at
returns c = new_begun _ _ _ _ _ _ _ c.new-step.ensures c.in-Ok.ensures.1.same c.encode.ensures c.if-state-ne-OCTETS.false c.word_replied.ensures ∙ sym (pick_true _ _ _ (search leaves))
