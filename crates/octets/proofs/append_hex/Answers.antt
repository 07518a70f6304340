use Rattle.std.proofs.Common.{rules}
use Rattle.octets.proofs.Appends.{append_cells_not, append_cells}
use Rattle.octets.proofs.append_hex.Goals as goal

pub returns-in-Some : goal.returns-in-Some
returns-in-Some c = append_cells _ _ _ _ _ _ c.in-Some.ensures.0 c.in-Some.ensures.1 c.to_hex.ensures

pub returns-in-None : goal.returns-in-None
returns-in-None c = search (rules, append_cells_not)
