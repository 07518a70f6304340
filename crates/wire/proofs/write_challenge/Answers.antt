use mathlib.Core.Path.{sym, ◌∙◌}
use Rattle.octets.proofs.Exits.{pick_true}
use Rattle.wire.specs.Calls.{challenge_at}
use Rattle.wire.proofs.Laws.{sizes, challenge_wrote}
use Rattle.wire.proofs.write_challenge.Goals as goal

pub returns-in_default : goal.returns-in_default
unfolding challenge_at
returns-in_default c = search (sizes, c.in_default.ensures.1)

pub returns : goal.returns
unfolding challenge_at
returns c = challenge_wrote _ _ _ _ _ _ _ _ _ _ c.write_challenge.ensures c.ids_of.ensures c.in-Ok.ensures.1.same c.word_written.ensures ∙ sym (pick_true _ _ _ (search sizes))
