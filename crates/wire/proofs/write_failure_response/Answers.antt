use Rattle.wire.specs.Calls.{failure_response_at}
use Rattle.wire.proofs.Laws.{wrote_so}
use Rattle.wire.proofs.write_failure_response.Goals as goal

pub returns : goal.returns
unfolding failure_response_at
returns c = wrote_so _ _ _ _ _ c.write_failure_response.ensures c.word_written.ensures
