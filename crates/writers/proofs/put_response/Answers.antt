use Rattle.octets.proofs.Appends.{laid_more, laid_done}
use Rattle.writers.proofs.Layouts.{laid_response}
use Rattle.writers.proofs.put_response.Goals as goal

pub returns : goal.returns
returns c =
    laid_done c.append.ensures
    (laid_more c.append-at-5.ensures
    (laid_more c.append-at-4.ensures
    (laid_more c.append-at-3.ensures
    (laid_more c.append-at-2.ensures
    (laid_more c.append-at.ensures
    (laid_more c.put_header-at.ensures
    (laid_response _ _ _ _ _ _ c.requires.0 c.requires.1 c.requires.3)))))))
