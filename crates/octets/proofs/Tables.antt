-- A rule of a table, shown at all of its entries by one test that is computed.
use Prim.Native.Nat.{ℕ, zero, suc, ◌<◌}
use native.Mathlib.Nat.{le_of_suc-le-suc, not-suc-le-zero, eq-or-lt_of_le}
use mathlib.Core.Logic.{⊎_elim}
use mathlib.Core.Path.{◌≡◌}
use mathlib.Core.Bool.{Bool, true, false, ◌&&◌}

-- whether the test f passes at every number below n
unfoldable pub below : ℕ → (ℕ → Bool) → Bool
below zero f = true
below (suc n) f = f n && below n f

pub first_of : (a b : Bool) → (a && b) ≡ true → a ≡ true
first_of true b e = cc
first_of false b e = e

pub second_of : (a b : Bool) → (a && b) ≡ true → b ≡ true
second_of true b e = e
second_of false b e = cc

pub at_each : (n : ℕ) (f : ℕ → Bool) → below n f ≡ true → (k : ℕ) → k < n → f k ≡ true
unfolding below
at_each zero f e k h = absurd (not-suc-le-zero h)
at_each (suc n) f e k h =
    ⊎_elim (λ i. rw i (first_of (f n) (below n f) e)) (λ l. at_each n f (second_of (f n) (below n f) e) k l) (eq-or-lt_of_le (le_of_suc-le-suc h))
