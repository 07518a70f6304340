use Rattle.calls.specs.Ends.{peer_give_up_at}
use Rattle.calls.proofs.Laws.{leaves}
use Rattle.calls.proofs.peer_give_up.Goals as goal

pub returns-then-state-ne-OCTETS : goal.returns-then-state-ne-OCTETS
unfolding peer_give_up_at
returns-then-state-ne-OCTETS c = search leaves

pub returns : goal.returns
unfolding peer_give_up_at
returns c = search leaves
