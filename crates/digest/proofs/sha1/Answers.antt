use Rattle.std.proofs.lemmas.Result.{err_from_is_err_and}
use Rattle.digest.proofs.Digests.{sha1_done, sha1_refuses}
use Rattle.digest.proofs.sha1.Goals as goal

pub returns-in_err-message : goal.returns-in_err-message
returns-in_err-message c =
    let p = err_from_is_err_and c.from_residual.result c.from_residual.ensures.1 in
    rw (p.1, p.2) (sha1_refuses _ _ c.in_err-message.ensures.0 c.in_err-message.ensures.1)

pub returns : goal.returns
returns c =
    sha1_done _ _ _ _ c.in_ok-message.message.short c.in_ok-message.ensures.0 c.in_ok-message.ensures.1 c.digest.ensures
