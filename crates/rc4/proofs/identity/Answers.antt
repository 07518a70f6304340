use Rattle.std.proofs.Common.{rules}
use Rattle.octets.proofs.Scans.{cells_from_fn}
use Rattle.rc4.proofs.identity.Goals as goal

pub returns : goal.returns
returns c = cells_from_fn _ (λ k. k) _ (λ i r q k. search rules) _ 256 c.from_fn.ensures.items
