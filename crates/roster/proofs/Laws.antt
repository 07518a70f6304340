-- Places of octets in a line: `search places`.
use Prim.Native.Nat.{ℕ, suc, ◌+◌, ◌-◌, ◌≤◌, ◌<◌}
use mathlib.Core.Path.{◌≡◌, refl, sym}
use mathlib.Core.List.{List, [], ◌∷◌}
use mathlib.Core.Bool.{Bool, true, false, cond}
use native.Mathlib.Omega.{arith}
use lib.ListN.{length, take, drop, length-drop, drop_of_length-le}
use lib.Seq.{take_all, length-take-le}
use lib.Dec.{eqb, ltb}
use borrow.Author.Rules.{rules}
use borrow.Author.Tests.{ltb-true, ltb-false}
use Rattle.std.specs.Prelude.{Option, Some, None, position}
use Rattle.std.specs.List.{position_or_len}
use Rattle.std.proofs.lemmas.List.Recursion.{is_position_or_len}
use Rattle.octets.specs.Choice.{pick}
use Rattle.octets.proofs.Exits.{pick_true, pick_false, arms, tested}
use Rattle.roster.specs.Lines.{upto, has, before, after}

-- ---- the place of an octet
pub upto_most : (x : ℕ) (s : List ℕ) → upto x s ≤ length s
unfolding upto
upto_most x [] = omega arith
upto_most x (y ∷ s) = let h = upto_most x s in arms (λ (n : ℕ). n ≤ length (y ∷ s)) (eqb y x) (omega arith) (omega arith)

upto_first : (x : ℕ) (s : List ℕ) → upto x s ≡ position_or_len (λ y. eqb y x) s
unfolding upto pick
upto_first x s = is_position_or_len (upto x) (λ y. eqb y x) refl (λ y ys. chosen (eqb y x) (upto x ys)) s
  where
    chosen : (b : Bool) (n : ℕ) → pick b 0 (suc n) ≡ cond b 0 (1 + n)
    chosen true n = refl
    chosen false n = omega arith

abbrev pub place_in : ℕ → List ℕ → Option ℕ
place_in x s = position (λ y. eqb y x) s

-- what a search finds
place_is : (x : ℕ) (s : List ℕ) → place_in x s ≡ pick (has x s) (Some (upto x s)) None
unfolding has pick
place_is x s = rw (← upto_first x s) (chosen (ltb (upto x s) (length s)))
  where
    chosen : (b : Bool) → cond b (Some (upto x s)) None ≡ pick b (Some (upto x s)) None
    chosen true = refl
    chosen false = refl

module _ (x : ℕ) (s : List ℕ) where
  module _ (n : ℕ) (e : Some n ≡ place_in x s) where
    pub place_has : has x s ≡ true
    place_has = tested (has x s) (λ t. t) (λ t. absurd (cc (e, place_is x s, pick_false (has x s) (Some (upto x s)) None t)))

    pub place_upto : n ≡ upto x s
    place_upto = cc (e, place_is x s, pick_true (has x s) (Some (upto x s)) None place_has)

    pub place_inside : n < length s
    unfolding has
    place_inside = let h = ltb-true _ _ place_has in omega (arith, place_upto)

    pub place_before : take n s ≡ before x s
    unfolding before
    place_before = rw place_upto

    pub place_after : take (length s - (n + 1)) (drop (n + 1) s) ≡ after x s
    unfolding after
    place_after = rw (← place_upto) (take_all (length s - (n + 1)) (drop (n + 1) s) (omega (arith, length-drop (n + 1) s)))

  module _ (e : None ≡ place_in x s) where
    pub nowhere_has : has x s ≡ false
    nowhere_has = tested (has x s) (λ t. absurd (cc (e, place_is x s, pick_true (has x s) (Some (upto x s)) None t))) (λ t. t)

    nowhere_upto : upto x s ≡ length s
    unfolding has
    nowhere_upto = let h = ltb-false _ _ nowhere_has in omega (arith, upto_most x s)

    pub nowhere_before : s ≡ before x s
    unfolding before
    nowhere_before = sym (take_all (upto x s) s (omega (arith, nowhere_upto)))

    pub nowhere_after : [] ≡ after x s
    unfolding after
    nowhere_after = let h : length s ≤ upto x s + 1 = omega (arith, nowhere_upto) in sym (drop_of_length-le s h)

-- what stands behind a field and the octet that ends it
pub behind : (x : ℕ) (s field : List ℕ) → field ≡ before x s → drop (length field + 1) s ≡ after x s
unfolding before after
behind x s field e = let h : length field ≡ upto x s = rw e (length-take-le (upto x s) s (upto_most x s)) in rw h refl

pub ruleset places = (rules, place_inside, place_before, place_after, nowhere_before, nowhere_after)
