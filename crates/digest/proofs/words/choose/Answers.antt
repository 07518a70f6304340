use Rattle.std.proofs.Common.{arith}
use Rattle.digest.proofs.Bits.{choose_is}
use Rattle.digest.proofs.words.choose.Goals as goal

pub returns : goal.returns
returns c = choose_is _ _ _ (omega arith) (omega arith) (omega arith)
