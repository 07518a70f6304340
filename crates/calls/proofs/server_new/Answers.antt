use Rattle.calls.specs.Ends.{server_new_at}
use Rattle.calls.proofs.Laws.{leaves}
use Rattle.calls.proofs.server_new.Goals as goal

pub returns-then-state-ne-OCTETS : goal.returns-then-state-ne-OCTETS
unfolding server_new_at
returns-then-state-ne-OCTETS c = search leaves

pub returns : goal.returns
unfolding server_new_at
returns c = search leaves
