use Rattle.octets.proofs.Scans.{Numbered}
use Rattle.octets.proofs.number_of.Given as goal

abbrev pub invariant-loop-x : goal.invariant-loop-x
invariant-loop-x l = Numbered l.s l.acc l.x-index
