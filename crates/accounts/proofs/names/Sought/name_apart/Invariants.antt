use Rattle.std.proofs.Common.{◌-◌}
use Rattle.accounts.proofs.Compares.{Ended}
use Rattle.accounts.proofs.names.Sought.name_apart.Given as goal

abbrev pub invariant-loop-behind : goal.invariant-loop-behind
invariant-loop-behind l = Ended l.item l.self.own.now l.d (l.n - l.behind)
