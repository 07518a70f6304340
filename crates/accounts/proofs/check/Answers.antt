use Rattle.std.proofs.lemmas.Result.{err_from_is_err_and}
use Rattle.accounts.proofs.Walks.{check_good, check_bad}
use Rattle.accounts.proofs.check.Goals as goal

pub returns-in_err-walk : goal.returns-in_err-walk
returns-in_err-walk c =
    let p = err_from_is_err_and c.from_residual.result c.from_residual.ensures.1 in
    rw (p.1, p.2) (check_bad _ _ _ _ c.in_err-walk.ensures)

pub returns : goal.returns
returns c = check_good _ _ _ _ c.in_ok-walk.ensures
