use Rattle.octets.proofs.Appends.{laid_more, laid_done}
use Rattle.writers.proofs.Layouts.{laid_challenge}
use Rattle.writers.proofs.put_challenge.Goals as goal

pub returns : goal.returns
returns c =
    laid_done c.append.ensures
    (laid_more c.append-at-2.ensures
    (laid_more c.append-at.ensures
    (laid_more c.put_header-at.ensures
    (laid_challenge _ _ _ _ _ c.requires.0 c.requires.2))))
