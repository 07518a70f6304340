use Rattle.std.proofs.Common.{ℕ, ◌/◌, ◌%◌, List, get_or, refl, ap, ◌∙◌, arith}
use Rattle.mschap.proofs.Pieces.{octet_is}
use Rattle.mschap.proofs.unit_octet.Goals as goal

pub returns : goal.returns
returns c =
    let k = c.args.k in
    let bound = c.type_inv.units (k / 2) in
    ap (λ (l : List ℕ). get_or l (k % 2) 0) c.to_le_bytes.ensures ∙ octet_is c.args.units.now k _ refl (omega arith)
