use Rattle.std.proofs.Common.{rules}
use Rattle.octets.specs.Octets.{unhex_at}
use Rattle.octets.proofs.Scans.{cells_from_fn}
use Rattle.octets.proofs.from_hex.Goals as goal

pub returns : goal.returns
returns c = cells_from_fn _ (unhex_at c.args.d.now) _ (λ i r q k. search rules) _ 16 c.from_fn.ensures.items
