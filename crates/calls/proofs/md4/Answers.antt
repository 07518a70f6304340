use Rattle.calls.specs.Stateless.{md4_at}
use Rattle.calls.proofs.Laws.{makes}
use Rattle.calls.proofs.md4.Goals as goal

pub returns-then-out-ne16 : goal.returns-then-out-ne16
unfolding md4_at
returns-then-out-ne16 c = search makes

pub returns : goal.returns
unfolding md4_at
returns c = search makes
