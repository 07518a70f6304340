use Rattle.calls.specs.Stateless.{nt_response_at}
use Rattle.calls.proofs.Laws.{makes}
use Rattle.calls.proofs.nt_response.Goals as goal

pub returns-in_default : goal.returns-in_default
unfolding nt_response_at
returns-in_default c = search (makes, c.in_default.ensures.1)

pub returns-in_default-try_from : goal.returns-in_default-try_from
unfolding nt_response_at
returns-in_default-try_from c = search (makes, c.in_default-try_from.ensures.1)

pub returns-in_default-try_from-2 : goal.returns-in_default-try_from-2
unfolding nt_response_at
returns-in_default-try_from-2 c = search (makes, c.in_default-try_from-2.ensures.1)

pub returns-then-out-ne24 : goal.returns-then-out-ne24
unfolding nt_response_at
returns-then-out-ne24 c = search makes

pub returns : goal.returns
unfolding nt_response_at
returns c = search makes
