use Rattle.octets.proofs.Appends.{laid_more, laid_done}
use Rattle.std.proofs.Common.{rules}
use Rattle.change.proofs.Layouts.{laid_change}
use Rattle.change.proofs.put_change.Goals as goal

pub returns : goal.returns
returns c =
    laid_done c.append.ensures
    (laid_more c.append-at-5.ensures
    (laid_more c.append-at-4.ensures
    (laid_more c.append-at-3.ensures
    (laid_more c.append-at-2.ensures
    (laid_more c.append-at.ensures
    (laid_more c.put_header-at.ensures
    (laid_change _ _ _ _ _ _ (search rules) (search rules) (search rules) (search rules) _ c.requires)))))))
