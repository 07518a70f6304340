use Rattle.std.proofs.Common.{◌+◌, ◌*◌}
use Rattle.des.proofs.Joins.{Named}
use Rattle.des.proofs.permuted.Given as goal

abbrev pub invariant-loop-i : goal.invariant-loop-i
invariant-loop-i g l = Named g.row.BITS l.w l.table l.acc (8 * l.i)

abbrev pub invariant-loop-j : goal.invariant-loop-j
invariant-loop-j g l = Named g.row.BITS l.w l.table l.acc (8 * l.i + l.j)
