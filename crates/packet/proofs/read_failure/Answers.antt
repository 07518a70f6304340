use Rattle.packet.proofs.Steps.{failure_read}
use Rattle.packet.proofs.read_failure.Goals as goal

pub returns : goal.returns
returns c = failure_read _ _ _ _ _ _ c.in_ok-ms_length.ensures c.in_ok-e.ensures c.chap_packet.ensures c.failure_kind.ensures c.decimal_at.ensures
