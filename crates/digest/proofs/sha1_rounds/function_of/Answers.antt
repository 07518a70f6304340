use Rattle.octets.proofs.Exits.{exits}
use Rattle.digest.specs.Sha1.{function}
use Rattle.digest.proofs.sha1_rounds.function_of.Goals as goal

pub returns-then-t-lt20 : goal.returns-then-t-lt20
unfolding function
returns-then-t-lt20 c = search exits

pub returns-then-t-lt40 : goal.returns-then-t-lt40
unfolding function
returns-then-t-lt40 c = search exits

pub returns-then-t-lt60 : goal.returns-then-t-lt60
unfolding function
returns-then-t-lt60 c = search exits

pub returns : goal.returns
unfolding function
returns c = search exits
