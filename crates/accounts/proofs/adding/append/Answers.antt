use Rattle.std.proofs.lemmas.Result.{err_from_is_err_and}
use Rattle.accounts.proofs.Laying.{append_malformed, append_ready, append_grows}
use Rattle.accounts.proofs.adding.append.Goals as goal

pub returns-in_err-look : goal.returns-in_err-look
returns-in_err-look c =
    let p = err_from_is_err_and c.from_residual.result c.from_residual.ensures.1 in
    rw (p.1, p.2) (append_malformed _ _ _ _ _ c.if-table-used.false _ c.part.ensures _ c.in_err-look.ensures)

pub grow-requires : goal.grow-requires
grow-requires c = append_ready _ c.args.hash _ _ _ c.if-table-used.false _ c.part.ensures _ c.in_ok-look.ensures _ c.is_code.ensures c.if-not-is_code.false c.if-name-gt-MAX_NAME.false

pub returns : goal.returns
returns c = append_grows _ _ _ _ _ c.if-table-used.false _ c.part.ensures _ c.in_ok-look.ensures _ c.is_code.ensures c.if-not-is_code.false _ _ c.if-name-gt-MAX_NAME.false c.grow.ensures
