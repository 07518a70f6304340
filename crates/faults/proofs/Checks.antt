-- A check at the end of a function, in the definitions' form.
use Prim.Native.Nat.{ℕ}
use mathlib.Core.Path.{◌≡◌, sym, ap, ◌∙◌}
use mathlib.Core.Bool.{Bool, true, false, not}
use Rattle.std.specs.Prelude.{Result, Ok, Err, MatchResult}
use Rattle.octets.specs.Choice.{pick}
use Rattle.octets.proofs.Exits.{exits, pick_true, pick_false}
use Rattle.faults.specs.Numbers.{found}

pub checked : {E : Type 0} (number : E → ℕ) (r : Result Unit E) (h : Bool) (why : E) → MatchResult r (λ _. h ≡ true) (λ e. (h ≡ false) × (e ≡ why)) → found number r ≡ pick (not h) (number why) 0
checked number (Ok x) h why t = sym (pick_false _ _ _ (ap not t))
checked number (Err e) h why t = ap number t.1 ∙ sym (pick_true _ _ _ (ap not t.0))

pub ruleset checks = (exits, checked)
