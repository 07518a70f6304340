use mathlib.Core.Path.{sym, ◌∙◌}
use Rattle.octets.proofs.Exits.{pick_true}
use Rattle.wire.specs.Calls.{response_at}
use Rattle.wire.proofs.Laws.{sizes, response_wrote}
use Rattle.wire.proofs.write_response.Goals as goal

pub returns-in_default : goal.returns-in_default
unfolding response_at
returns-in_default c = search (sizes, c.in_default.ensures.1)

pub returns-in_default-try_from : goal.returns-in_default-try_from
unfolding response_at
returns-in_default-try_from c = search (sizes, c.in_default-try_from.ensures.1)

pub returns : goal.returns
unfolding response_at
returns c = response_wrote _ _ _ _ _ _ _ _ _ _ _ _ c.write_response.ensures c.ids_of.ensures c.in-Ok.ensures.1.same c.in-Ok-try_from.ensures.1.same c.word_written.ensures ∙ sym (pick_true _ _ _ (search sizes))
