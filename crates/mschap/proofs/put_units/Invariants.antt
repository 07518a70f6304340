use Rattle.std.proofs.Common.{length}
use Rattle.octets.proofs.Loops.{Filled}
use Rattle.mschap.specs.Responses.{unit_octet}
use Rattle.mschap.proofs.put_units.Given as goal

abbrev pub invariant-loop-k : goal.invariant-loop-k
invariant-loop-k l = Filled (length l.initial.dst) (unit_octet l.units) l.dst l.k
