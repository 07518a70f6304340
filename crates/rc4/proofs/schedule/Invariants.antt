use Rattle.std.proofs.Common.{◌%◌, get_or}
use Rattle.octets.proofs.Loops.{Turned}
use Rattle.rc4.specs.Rc4.{mixed}
use Rattle.rc4.proofs.schedule.Given as goal

abbrev pub invariant-loop-i : goal.invariant-loop-i
invariant-loop-i l = Turned 256 mixed (λ k. get_or l.key (k % 16) 0) l.initial.state l.state l.i
