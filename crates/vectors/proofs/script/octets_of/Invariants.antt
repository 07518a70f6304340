use Rattle.std.proofs.Common.{◌≤◌, length}
use Rattle.vectors.proofs.script.octets_of.Given as goal

abbrev pub invariant-loop-text : goal.invariant-loop-text
invariant-loop-text l = l.n ≤ length l.dst
