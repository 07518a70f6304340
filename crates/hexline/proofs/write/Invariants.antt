use Rattle.std.proofs.Common.{length, drop}
use Rattle.octets.proofs.Appends.{Laid}
use Rattle.hexline.specs.Line.{octets_of}
use Rattle.hexline.proofs.write.Given as goal

abbrev pub invariant-loop-x : goal.invariant-loop-x
invariant-loop-x l = Laid (octets_of l.line) l.initial.out l.n l.out (drop (length l.yielded) (octets_of l.line))
