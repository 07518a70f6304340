use Rattle.std.proofs.Common.{refl}
use Rattle.std.proofs.lemmas.Result.{err_from_is_err_and}
use Rattle.accounts.specs.declared.Search.{Search}
use Rattle.accounts.proofs.Walks.{look_good, look_bad}
use Rattle.accounts.proofs.look.Goals as goal

pub returns-in_err-found : goal.returns-in_err-found
returns-in_err-found c =
    let p = err_from_is_err_and c.from_residual.result c.from_residual.ensures.1 in
    rw (p.1, p.2) (look_bad _ (λ (s : Search). s.known) (λ (s : Search). s.sought.now.user.now) (λ k at r. refl) (λ k at r. refl) _ _ _ c.in_err-found.ensures)

pub returns : goal.returns
returns c =
    look_good _ (λ (s : Search). s.known) (λ (s : Search). s.sought.now.user.now) (λ k at r. refl) (λ k at r. refl) _ _ _ refl c.in_ok-found.ensures
