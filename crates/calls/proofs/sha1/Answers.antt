use Rattle.calls.specs.Stateless.{sha1_at}
use Rattle.calls.proofs.Laws.{makes}
use Rattle.calls.proofs.sha1.Goals as goal

pub returns-then-out-ne20 : goal.returns-then-out-ne20
unfolding sha1_at
returns-then-out-ne20 c = search makes

pub returns : goal.returns
unfolding sha1_at
returns c = search makes
