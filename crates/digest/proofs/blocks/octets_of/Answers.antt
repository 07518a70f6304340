use native.Mathlib.Omega.{arith}
use Rattle.std.proofs.Common.{rules}
use Rattle.octets.proofs.Scans.{cells_below}
use Rattle.digest.specs.Blocks.{octet_at}
use Rattle.digest.proofs.blocks.octets_of.Goals as goal

pub returns : goal.returns
returns g c = cells_below _ (octet_at c.args.order c.args.ws.now) _ g.row.N (λ i r q l k. search rules) _ g.row.N (omega arith) c.from_fn.ensures.items
