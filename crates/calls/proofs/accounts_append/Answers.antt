use Rattle.calls.specs.Stateless.{accounts_append_at}
use mathlib.Core.Path.{sym, ◌∙◌}
use Rattle.octets.proofs.Exits.{pick_true}
use Rattle.calls.proofs.Laws.{makes, append_wrote}
use Rattle.calls.proofs.accounts_append.Goals as goal

pub returns-in_default : goal.returns-in_default
unfolding accounts_append_at
returns-in_default c = search (makes, c.in_default.ensures.1)

pub returns : goal.returns
unfolding accounts_append_at
returns c = append_wrote _ _ _ _ _ _ _ _ _ c.append.ensures c.in-Ok.ensures.1.same c.word_written.ensures ∙ sym (pick_true _ _ _ (search makes))
