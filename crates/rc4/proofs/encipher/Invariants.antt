use Rattle.rc4.proofs.Mixing.{Ciphering}
use Rattle.rc4.proofs.encipher.Given as goal

abbrev pub invariant-loop-x : goal.invariant-loop-x
invariant-loop-x l = Ciphering l.fn.m l.initial.state.s l.state l.m l.i l.x-index
