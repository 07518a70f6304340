use Rattle.std.proofs.Common.{arith}
use Rattle.console.proofs.Texts.{visible_done}
use Rattle.console.proofs.show_into.Goals as goal

pub returns : goal.returns
returns c = visible_done c.args.s.now _ _ _ _ c.loop-x.x-index c.loop-x.invariant.0 (omega arith)
