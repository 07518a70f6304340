use Rattle.wire.specs.Calls.{eap_success_at}
use Rattle.wire.proofs.Laws.{wrote_so}
use Rattle.wire.proofs.write_eap_success.Goals as goal

pub returns : goal.returns
unfolding eap_success_at
returns c = wrote_so _ _ _ _ _ c.write_eap_success.ensures c.word_written.ensures
