use Rattle.std.proofs.Common.{◌<◌, rules}
use Rattle.server.proofs.Laws.{failure_sent}
use Rattle.server.proofs.failure_request.Goals as goal

pub returns : goal.returns
returns c =
    let few : c.args.f.error < 65536 = search rules in
    rw (← c.from-error.ensures) (failure_sent _ _ _ _ _ _ c.ids_of.ensures _ _ _ _ (rw c.from-error.ensures few) c.from-retry.ensures c.write_failure_request.ensures)
