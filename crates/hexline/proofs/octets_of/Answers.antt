use Rattle.hexline.proofs.Walks.{telling}
use Rattle.hexline.proofs.octets_of.Goals as goal

pub returns-in-Some : goal.returns-in-Some
returns-in-Some c = search telling

pub returns-then-out-n : goal.returns-then-out-n
returns-then-out-n c = search telling

pub returns : goal.returns
returns c = search telling
