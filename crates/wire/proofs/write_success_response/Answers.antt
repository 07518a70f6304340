use Rattle.wire.specs.Calls.{success_response_at}
use Rattle.wire.proofs.Laws.{wrote_so}
use Rattle.wire.proofs.write_success_response.Goals as goal

pub returns : goal.returns
unfolding success_response_at
returns c = wrote_so _ _ _ _ _ c.write_success_response.ensures c.word_written.ensures
