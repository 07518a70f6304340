use Rattle.std.proofs.lemmas.Result.{err_from_is_err_and}
use Rattle.digest.proofs.Digests.{md4_done, md4_refuses}
use Rattle.digest.proofs.md4.Goals as goal

pub returns-in_err-message : goal.returns-in_err-message
returns-in_err-message c =
    let p = err_from_is_err_and c.from_residual.result c.from_residual.ensures.1 in
    rw (p.1, p.2) (md4_refuses _ _ c.in_err-message.ensures.0 c.in_err-message.ensures.1)

pub returns : goal.returns
returns c =
    md4_done _ _ _ _ c.in_ok-message.message.short c.in_ok-message.ensures.0 c.in_ok-message.ensures.1 c.digest.ensures
