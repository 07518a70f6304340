-- One answer for every exit of a decision: `search exits` where it has calls, `search wide` where it has none.
use Prim.Native.Nat.{ℕ, ◌<◌, ◌≤◌}
use mathlib.Core.Path.{◌≡◌, refl, sym, ap, ◌∙◌}
use mathlib.Core.Bool.{Bool, true, false, not, ◌&&◌, ◌||◌}
use native.Mathlib.Omega.{arith}
use lib.Dec.{eqb, ltb}
use borrow.Author.Rules.{rules}
use borrow.Author.Tests.{ltb-true, ltb-false, lt-ltb, le-ltb, le-leb, lt-leb, eq-eqb, ne_eqb}
use Rattle.octets.specs.Choice.{pick}

pub pick_true : {A : Type 0} (b : Bool) (x y : A) → b ≡ true → pick b x y ≡ x
unfolding pick
pick_true b x y t = ap (λ (o : Bool). pick o x y) t

pub pick_false : {A : Type 0} (b : Bool) (x y : A) → b ≡ false → pick b x y ≡ y
unfolding pick
pick_false b x y t = ap (λ (o : Bool). pick o x y) t

-- what holds of both choices holds of the choice
pub arms : {A : Type 0} (P : A → Type 0) (b : Bool) {x y : A} → P x → P y → P (pick b x y)
unfolding pick
arms P true p q = p
arms P false p q = q

-- the same with what the test says
pub picked : {A : Type 0} (P : A → Type 0) (b : Bool) {x y : A} → (b ≡ true → P x) → (b ≡ false → P y) → P (pick b x y)
unfolding pick
picked P true f g = f refl
picked P false f g = g refl

-- what a chain of tests that holds says of its first
pub passed : (a b : Bool) → pick a false b ≡ true → (a ≡ false) × (b ≡ true)
unfolding pick
passed true b e = (sym e, cc)
passed false b e = (refl, e)

pub both : (a b : Bool) → (a && b) ≡ true → (a ≡ true) × (b ≡ true)
both true b e = (refl, e)
both false b e = (e, cc)

pub clash : {A : Type 0} {b : Bool} → b ≡ false → b ≡ true → A
clash p q = let z : ◌≡◌ {A = ℕ} 0 1 = cc in absurd (omega arith)

-- two tests in a row both hold
pub pick_both : (a b : Bool) → pick a b false ≡ true → (a ≡ true) × (b ≡ true)
unfolding pick
pick_both true b e = (refl, e)
pick_both false b e = (e, cc)

-- the two cases of a test, and of a comparison
pub tested : {A : Type 0} (b : Bool) → (b ≡ true → A) → (b ≡ false → A) → A
tested true f g = f refl
tested false f g = g refl

pub below : {A : Type 0} (a b : ℕ) → (a < b → A) → (b ≤ a → A) → A
below a b f g = tested (ltb a b) (λ e. f (ltb-true a b e)) (λ e. g (ltb-false a b e))

-- `if f(..)` and `if !f(..)`: r is what the call gave, b what its contract says of it
pub gave : (b r v : Bool) → r ≡ b → r ≡ v → b ≡ v
gave b r v e t = sym e ∙ t

pub gave_not : (b r v : Bool) → r ≡ b → not r ≡ v → not b ≡ v
gave_not b r v e t = sym (ap not e) ∙ t

pub gave_true : (b r : Bool) → r ≡ b → not r ≡ false → b ≡ true
gave_true b true e t = sym e
gave_true b false e t = sym e ∙ sym t

pub gave_false : (b r : Bool) → r ≡ b → not r ≡ true → b ≡ false
gave_false b true e t = sym e ∙ sym t
gave_false b false e t = sym e

-- a number n that a call gave: its definition m passes the tests that n passed
pub came_lt : (n m k : ℕ) → n ≡ m → n < k → ltb m k ≡ true
came_lt n m k e h = lt-ltb _ _ (rw e at h)

pub came_ge : (n m k : ℕ) → n ≡ m → k ≤ n → ltb m k ≡ false
came_ge n m k e h = le-ltb _ _ (rw e at h)

pub came_gt : (n m k : ℕ) → n ≡ m → k < n → ltb k m ≡ true
came_gt n m k e h = lt-ltb _ _ (rw e at h)

pub came_le : (n m k : ℕ) → n ≡ m → n ≤ k → ltb k m ≡ false
came_le n m k e h = le-ltb _ _ (rw e at h)

pub came_eq : (n m k : ℕ) → n ≡ m → n ≡ k → eqb m k ≡ true
came_eq n m k e h = eq-eqb _ _ (sym e ∙ h)

pub came_ne : (n m k : ℕ) → n ≡ m → (n ≡ k → ⊥) → eqb m k ≡ false
came_ne n m k e h = ne_eqb _ _ (λ p. h (e ∙ p))

-- a number that is known is no other
pub other : (a b k : ℕ) → a ≡ k → eqb k b ≡ false → eqb a b ≡ false
other a b k e h = ap (λ (n : ℕ). eqb n b) e ∙ h

pub not_so : (b : Bool) → b ≡ true → not b ≡ false
not_so b t = ap not t

pub not_otherwise : (b : Bool) → b ≡ false → not b ≡ true
not_otherwise b t = ap not t

pub or_first : (a b : Bool) → a ≡ true → (a || b) ≡ true
or_first a b p = ap (λ (o : Bool). o || b) p

pub or_second : (a b : Bool) → a ≡ false → b ≡ true → (a || b) ≡ true
or_second a b p q = ap (λ (o : Bool). o || b) p ∙ q

pub or_none : (a b : Bool) → a ≡ false → b ≡ false → (a || b) ≡ false
or_none a b p q = ap (λ (o : Bool). o || b) p ∙ q

pub and_both : (a b : Bool) → a ≡ true → b ≡ true → (a && b) ≡ true
and_both a b p q = ap (λ (o : Bool). o && b) p ∙ q

pub and_first : (a b : Bool) → a ≡ false → (a && b) ≡ false
and_first a b p = ap (λ (o : Bool). o && b) p

pub and_second : (a b : Bool) → a ≡ true → b ≡ false → (a && b) ≡ false
and_second a b p q = ap (λ (o : Bool). o && b) p ∙ q

pub ruleset tests = (pick_true, pick_false, lt-ltb, le-ltb, le-leb, lt-leb, eq-eqb, ne_eqb)

-- in the definition's order, with calls
pub ruleset exits = (rules, pick_true, pick_false, lt-ltb, le-ltb, eq-eqb, ne_eqb, gave_not)

-- no calls; the definition in any order, with `&&`, `||`, `not`
pub ruleset wide = (rules, tests, other, not_so, not_otherwise, or_first, or_second, or_none, and_both, and_first, and_second)
