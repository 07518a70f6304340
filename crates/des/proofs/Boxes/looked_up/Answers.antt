use Rattle.std.proofs.Common.{rules}
use Rattle.des.proofs.Rows.{lookup_in}
use Rattle.des.proofs.Boxes.looked_up.Goals as goal

pub returns : goal.returns
returns c = search (rules, lookup_in)
