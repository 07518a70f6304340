use Rattle.server.proofs.Laws.{success_sent}
use Rattle.server.proofs.success_request.Goals as goal

pub returns : goal.returns
returns c = success_sent _ _ _ _ _ _ c.ids_of.ensures _ c.write_success_request.ensures
