use Rattle.wire.specs.Calls.{read_at}
use Rattle.wire.proofs.Laws.{sizes, read_by, made_by}
use Rattle.wire.proofs.read.Goals as goal

pub returns-then-out-ne-READING_OCTETS : goal.returns-then-out-ne-READING_OCTETS
unfolding read_at
returns-then-out-ne-READING_OCTETS c = search sizes

pub returns-in-0 : goal.returns-in-0
unfolding read_at
returns-in-0 c = search (sizes, read_by, c.in-0.is)

pub returns-in-1 : goal.returns-in-1
unfolding read_at
returns-in-1 c = search (sizes, read_by, c.in-1.is)

pub returns-in_default : goal.returns-in_default
unfolding read_at
returns-in_default c = search (sizes, made_by)
