use mathlib.Core.Path.{sym, ◌∙◌}
use native.Mathlib.Omega.{arith}
use Rattle.octets.proofs.Exits.{below, pick_true}
use Rattle.wire.specs.Calls.{failure_request_at}
use Rattle.wire.proofs.Laws.{sizes, retry_unformed, failure_request_wrote}
use Rattle.wire.proofs.write_failure_request.Goals as goal

pub returns-in_default : goal.returns-in_default
unfolding failure_request_at
returns-in_default c = search (sizes, c.in_default.ensures.1)

pub returns-in_default-try_from : goal.returns-in_default-try_from
returns-in_default-try_from c = retry_unformed _ _ _ _ _ _ _ c.in-Ok.ensures.1.long (below c.args.retry 2 (λ l. absurd (c.in_default-try_from.ensures (omega arith))) (λ l. l))

pub returns : goal.returns
unfolding failure_request_at
returns c = failure_request_wrote _ _ _ _ _ _ _ _ _ _ _ _ _ c.write_failure_request.ensures c.ids_of.ensures c.in-Ok.ensures.1.same c.in-Ok-try_from.ensures.1 c.word_written.ensures ∙ sym (pick_true _ _ _ (search sizes))
