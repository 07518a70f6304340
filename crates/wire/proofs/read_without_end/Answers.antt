use mathlib.Core.Path.{refl}
use Rattle.std.specs.Prelude.{Ok, Err}
use Rattle.wire.proofs.Laws.{frame_refused, frame_so}
use Rattle.wire.proofs.read_without_end.Goals as goal

pub returns-in-Ok : goal.returns-in-Ok
returns-in-Ok c = frame_so _ (Ok c.in-Ok.field-0) _ _ c.in-Ok.ensures refl c.word.ensures

pub returns-in-Err : goal.returns-in-Err
returns-in-Err c = frame_refused _ (Err c.in-Err.why) _ _ _ c.in-Err.ensures refl c.from.ensures c.word-in-Err.ensures
