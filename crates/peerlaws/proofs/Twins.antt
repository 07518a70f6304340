-- Two lists that differ at 1 at most, where the Identifier stands.
use Prim.Native.Nat.{ℕ, zero, suc, ◌+◌, ◌≤◌, ◌<◌}
use mathlib.Core.Path.{◌≡◌, refl, sym, ap, ◌∙◌}
use mathlib.Core.List.{List, ◌∷◌}
use native.Mathlib.Omega.{arith}
use lib.ListN.{length, get_or, take, drop, set, length-take, length-drop, length-set, get_or-eq_default}
use lib.Seq.{get_or-take, get_or-drop, get_or-set_same, get_or-set_other, ext_get_or}
use Rattle.octets.specs.Lists.{sized, part}
use Rattle.octets.proofs.Exits.{below}
use Rattle.octets.proofs.Lists.{length_sized, get_or_sized}

pub record Twin (q q' : List ℕ) : Type 0 where
  pub size : length q ≡ length q'
  pub octet : (k : ℕ) → (k ≡ 1 → ⊥) → get_or q k 0 ≡ get_or q' k 0

pub twin : (a i j : ℕ) (x : List ℕ) → Twin (a ∷ i ∷ x) (a ∷ j ∷ x)
twin a i j x = record { size = refl; octet = go }
  where
    go : (k : ℕ) → (k ≡ 1 → ⊥) → get_or (a ∷ i ∷ x) k 0 ≡ get_or (a ∷ j ∷ x) k 0
    go zero n = refl
    go (suc zero) n = absurd (n refl)
    go (suc (suc k)) n = refl

pub twin_take : (q q' : List ℕ) (n : ℕ) → Twin q q' → Twin (take n q) (take n q')
twin_take q q' n t =
    record {
      size = omega (arith, length-take n q, length-take n q', t.size);
      octet = λ k h. below k n
          (λ l. get_or-take n q k 0 l ∙ t.octet k h ∙ sym (get_or-take n q' k 0 l))
          (λ l. get_or-eq_default (take n q) 0 (omega (arith, length-take n q)) ∙ sym (get_or-eq_default (take n q') 0 (omega (arith, length-take n q'))));
    }

pub twin_sized : (q q' : List ℕ) (n : ℕ) → Twin q q' → Twin (sized n q) (sized n q')
twin_sized q q' n t =
    record {
      size = length_sized n q ∙ sym (length_sized n q');
      octet = λ k h. below k n
          (λ l. get_or_sized n q k l ∙ t.octet k h ∙ sym (get_or_sized n q' k l))
          (λ l. get_or-eq_default (sized n q) 0 (rw (length_sized n q) l) ∙ sym (get_or-eq_default (sized n q') 0 (rw (length_sized n q') l)));
    }

-- with the same octet at 1 they are one list
pub twin_set : (q q' : List ℕ) → Twin q q' → set q 1 0 ≡ set q' 1 0
twin_set q q' t =
    ext_get_or 0 (set q 1 0) (set q' 1 0) (length-set q 1 0 ∙ t.size ∙ sym (length-set q' 1 0))
    (λ k l. tell k (rw (length-set q 1 0) at l))
  where
    tell : (k : ℕ) → k < length q → get_or (set q 1 0) k 0 ≡ get_or (set q' 1 0) k 0
    tell zero l = get_or-set_other q 1 zero 0 0 (λ e. absurd (omega arith)) ∙ t.octet zero (λ e. absurd (omega arith)) ∙ sym (get_or-set_other q' 1 zero 0 0 (λ e. absurd (omega arith)))
    tell (suc zero) l = get_or-set_same q 1 0 0 l ∙ sym (get_or-set_same q' 1 0 0 (rw t.size at l))
    tell (suc (suc k)) l = get_or-set_other q 1 (suc (suc k)) 0 0 (λ e. absurd (omega arith)) ∙ t.octet (suc (suc k)) (λ e. absurd (omega arith)) ∙ sym (get_or-set_other q' 1 (suc (suc k)) 0 0 (λ e. absurd (omega arith)))

-- ---- what is read past 1
module _ (q q' : List ℕ) (t : Twin q q') where
  pub drops : (n : ℕ) → 2 ≤ n → drop n q ≡ drop n q'
  drops n h =
      ext_get_or 0 (drop n q) (drop n q') (omega (arith, length-drop n q, length-drop n q', t.size))
      (λ k l. get_or-drop n q k 0 ∙ t.octet (n + k) (λ e. absurd (omega arith)) ∙ sym (get_or-drop n q' k 0))

  pub parts : (i n : ℕ) → 2 ≤ i → part q i n ≡ part q' i n
  parts i n h = ap (take n) (drops i h)
