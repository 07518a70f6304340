use Rattle.calls.proofs.Laws.{given_ok, given_err}
use Rattle.calls.proofs.give.Goals as goal

pub returns-in-Ok : goal.returns-in-Ok
returns-in-Ok g c = given_ok _ _ _ _ _ _ c.in-Ok.is c.copy_from_slice.ensures.after c.word.ensures

pub returns-in-Err : goal.returns-in-Err
returns-in-Err g c = given_err _ _ _ _ _ _ c.in-Err.is c.from.ensures c.word-in-Err.ensures
