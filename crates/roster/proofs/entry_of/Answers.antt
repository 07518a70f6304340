use Rattle.std.proofs.lemmas.Result.{err_from_is_err_and}
use Rattle.roster.proofs.Fields.{line_long, line_fault}
use Rattle.roster.proofs.entry_of.Goals as goal

pub returns-then-n-gt256 : goal.returns-then-n-gt256
returns-then-n-gt256 c =
    rw c.bad-then-n-gt256.ensures (line_long _ _ c.if-s-eq0.false c.octet_is.ensures c.if-octet_is.false _ c.in-Some.ensures c.if-n-eq0.false c.if-n-gt256.true)

pub returns-in_err-entry : goal.returns-in_err-entry
returns-in_err-entry c =
    let p = err_from_is_err_and c.from_residual.result c.from_residual.ensures.1 in
    rw (p.1, p.2) (line_fault _ _ c.if-s-eq0.false c.octet_is.ensures c.if-octet_is.false _ c.in-Some.ensures c.if-n-eq0.false c.if-n-gt256.false _ c.in_err-entry.ensures)
