use Rattle.std.proofs.Common.{rules}
use Rattle.octets.proofs.Appends.{append_not, append_part}
use Rattle.octets.proofs.append.Goals as goal

pub returns-in-Some : goal.returns-in-Some
returns-in-Some c = append_part _ _ _ _ _ c.in-Some.ensures.0 c.in-Some.ensures.1 c.copy.ensures

pub returns-in-None : goal.returns-in-None
returns-in-None c = search (rules, append_not)
