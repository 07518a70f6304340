use Rattle.calls.specs.Stateless.{password_hash_at}
use Rattle.calls.proofs.Laws.{makes, units_given}
use Rattle.std.proofs.Common.{rules}
use native.Mathlib.Omega.{arith}
use mathlib.Core.Path.{sym, ◌∙◌}
use Rattle.octets.proofs.Exits.{not_so, not_otherwise, pick_true}
use Rattle.octets.proofs.Scans.{cells_from_fn}
use Rattle.calls.specs.Stateless.{unit_at}
use Rattle.calls.proofs.password_hash.Goals as goal

pub returns-then-out-ne16 : goal.returns-then-out-ne16
unfolding password_hash_at
returns-then-out-ne16 c = search makes

pub returns-then-units-ne0 : goal.returns-then-units-ne0
unfolding password_hash_at
returns-then-units-ne0 c = search (makes, not_so, not_otherwise)

pub returns-then-units-gt512 : goal.returns-then-units-gt512
unfolding password_hash_at
returns-then-units-gt512 c = search (makes, not_so, not_otherwise)

pub returns : goal.returns
unfolding password_hash_at
returns c =
    let units = cells_from_fn _ (unit_at c.args.units.now) _ (λ i r q k. search rules) _ 256 c.from_fn-units.ensures.items in
    units_given _ _ _ _ _ _ _ c.password_hash.ensures units (omega arith) (omega arith) c.give.ensures ∙ sym (pick_true _ _ _ (search (makes, not_otherwise)))
