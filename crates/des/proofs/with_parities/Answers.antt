use native.Mathlib.Omega.{arith}
use Rattle.std.proofs.Common.{rules}
use Rattle.octets.proofs.Scans.{cells_below}
use Rattle.des.specs.Inner.{bits_in}
use Rattle.des.specs.Keys.{key_octet}
use Rattle.des.proofs.Words.{parity_at}
use Rattle.des.proofs.with_parities.Goals as goal

pub returns : goal.returns
returns c = cells_below _ (key_octet (bits_in 56 c.args.w)) _ 8 (λ i r q l k. search (rules, parity_at)) _ 8 (omega arith) c.from_fn.ensures.items
