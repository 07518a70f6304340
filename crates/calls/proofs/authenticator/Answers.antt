use Rattle.calls.specs.Stateless.{authenticator_at}
use Rattle.calls.proofs.Laws.{makes}
use Rattle.calls.proofs.authenticator.Goals as goal

pub returns-in_default : goal.returns-in_default
unfolding authenticator_at
returns-in_default c = search (makes, c.in_default.ensures.1)

pub returns-in_default-try_from : goal.returns-in_default-try_from
unfolding authenticator_at
returns-in_default-try_from c = search (makes, c.in_default-try_from.ensures.1)

pub returns-in_default-try_from-2 : goal.returns-in_default-try_from-2
unfolding authenticator_at
returns-in_default-try_from-2 c = search (makes, c.in_default-try_from-2.ensures.1)

pub returns-in_default-try_from-3 : goal.returns-in_default-try_from-3
unfolding authenticator_at
returns-in_default-try_from-3 c = search (makes, c.in_default-try_from-3.ensures.1)

pub returns-then-out-ne20 : goal.returns-then-out-ne20
unfolding authenticator_at
returns-then-out-ne20 c = search makes

pub returns : goal.returns
unfolding authenticator_at
returns c = search makes
