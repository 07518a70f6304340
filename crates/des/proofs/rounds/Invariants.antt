use Rattle.des.proofs.Halves.{Rounded}
use Rattle.des.proofs.rounds.Given as goal

abbrev pub invariant-loop-n : goal.invariant-loop-n
invariant-loop-n l = Rounded l.fn.first l.fn.initial l.cd l.lr l.n
