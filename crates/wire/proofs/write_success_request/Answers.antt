use mathlib.Core.Path.{sym, ◌∙◌}
use Rattle.octets.proofs.Exits.{pick_true}
use Rattle.wire.specs.Calls.{success_request_at}
use Rattle.wire.proofs.Laws.{sizes, success_request_wrote}
use Rattle.wire.proofs.write_success_request.Goals as goal

pub returns-in_default : goal.returns-in_default
unfolding success_request_at
returns-in_default c = search (sizes, c.in_default.ensures.1)

pub returns : goal.returns
unfolding success_request_at
returns c = success_request_wrote _ _ _ _ _ _ _ _ _ _ c.write_success_request.ensures c.ids_of.ensures c.in-Ok.ensures.1.same c.word_written.ensures ∙ sym (pick_true _ _ _ (search sizes))
