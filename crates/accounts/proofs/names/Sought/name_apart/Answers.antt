use Rattle.std.proofs.Common.{◌≡◌, ◌+◌, ◌-◌, length}
use native.Mathlib.Omega.{arith}
use Rattle.accounts.proofs.Compares.{ended_first, ended_more, ended_done}
use Rattle.accounts.proofs.names.Sought.name_apart.Goals as goal

pub loop-behind-init : goal.loop-behind-init
loop-behind-init c = ended_first _ _ _ c.requires.0 c.requires.1 (omega arith)

pub loop-behind-preserved : goal.loop-behind-preserved
loop-behind-preserved c =
    let n = length c.args.item.now - 22 in
    let z : n - (c.loop-behind.behind + 8) ≡ n - c.loop-behind.behind - 8 = omega arith in
    rw z (ended_more _ _ _ _ c.loop-behind.invariant _ _ c.args.self.now.own_is c.end_apart-d.ensures)

pub returns : goal.returns
returns c = ended_done _ _ _ _ c.loop-behind.invariant (omega arith)

pub returns-2 : goal.returns-2
returns-2 c = ended_done _ _ _ _ (ended_more _ _ _ _ c.loop-behind.invariant _ _ c.args.self.now.own_is c.end_apart-d.ensures) (omega arith)
