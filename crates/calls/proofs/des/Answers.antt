use Rattle.calls.specs.Stateless.{des_at}
use Rattle.calls.proofs.Laws.{makes}
use Rattle.calls.proofs.des.Goals as goal

pub returns-in_default : goal.returns-in_default
unfolding des_at
returns-in_default c = search (makes, c.in_default.ensures.1)

pub returns-in_default-try_from : goal.returns-in_default-try_from
unfolding des_at
returns-in_default-try_from c = search (makes, c.in_default-try_from.ensures.1)

pub returns-then-out-ne8 : goal.returns-then-out-ne8
unfolding des_at
returns-then-out-ne8 c = search makes

pub returns : goal.returns
unfolding des_at
returns c = search makes
