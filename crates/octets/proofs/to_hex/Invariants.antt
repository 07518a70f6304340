use Rattle.std.proofs.Common.{length}
use Rattle.octets.proofs.Loops.{Filled}
use Rattle.octets.specs.Octets.{hex_at}
use Rattle.octets.proofs.to_hex.Given as goal

abbrev pub invariant-loop-k : goal.invariant-loop-k
invariant-loop-k l = Filled (length l.initial.dst) (hex_at l.src) l.dst l.k
