use Rattle.wire.specs.Calls.{eap_failure_at}
use Rattle.wire.proofs.Laws.{wrote_so}
use Rattle.wire.proofs.write_eap_failure.Goals as goal

pub returns : goal.returns
unfolding eap_failure_at
returns c = wrote_so _ _ _ _ _ c.write_eap_failure.ensures c.word_written.ensures
