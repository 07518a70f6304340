use Rattle.octets.proofs.Exits.{exits}
use Rattle.digest.specs.Sha1.{constant}
use Rattle.digest.proofs.sha1_rounds.constant_of.Goals as goal

pub returns-then-t-lt20 : goal.returns-then-t-lt20
unfolding constant
returns-then-t-lt20 c = search exits

pub returns-then-t-lt40 : goal.returns-then-t-lt40
unfolding constant
returns-then-t-lt40 c = search exits

pub returns-then-t-lt60 : goal.returns-then-t-lt60
unfolding constant
returns-then-t-lt60 c = search exits

pub returns : goal.returns
unfolding constant
returns c = search exits
