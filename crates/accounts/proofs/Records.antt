-- Laws of records end to end: the framing of one, the first, the list of all.
use Prim.Native.Nat.{ℕ, zero, suc, ◌-◌, ◌<◌, ◌≤◌}
use native.Mathlib.Nat.{not-suc-le-zero, le_of_suc-le-suc}
use native.Mathlib.Omega.{arith}
use mathlib.Core.Path.{◌≡◌, refl, sym, ap, ◌∙◌}
use mathlib.Core.List.{List, [], ◌∷◌}
use mathlib.Core.Bool.{Bool, true, false, ◌&&◌}
use lib.ListN.{length, take, drop}
use lib.Seq.{length-take-le}
use borrow.Author.Rules.{rules}
use borrow.Author.Tests.{le-leb, lt-leb, leb-true}
use Rattle.octets.specs.declared.Order.TheVariants.{Little}
use Rattle.octets.proofs.Parts.{number_take}
use Rattle.octets.proofs.Exits.{below, pick_true, pick_false, tested, both, and_both, and_first, and_second}
use Rattle.accounts.specs.Inner.{IsFirst, IsNone}
use Rattle.octets.specs.Lists.{sized}
use Rattle.octets.specs.Octets.{number_at}
use Rattle.octets.proofs.Lists.{get_or_sized}
use Rattle.std.specs.Int.{w16, from_le_bytes}
use lib.Seq.{get_or-drop}
use lib.ListN.{get_or}
use Rattle.accounts.specs.Accounts.{code_of, record_good}
use Rattle.accounts.specs.Records.{length_of, framed, cut, records, every}

-- ---- a code's octets, the low one first
pub code_read : (r octets : List ℕ) (n : ℕ) → octets ≡ sized 2 (drop 4 r) → n ≡ from_le_bytes w16 octets → n ≡ code_of r
unfolding number_at
code_read r octets n e f =
    let low : get_or octets 0 0 ≡ get_or r 4 0 = rw e (get_or_sized 2 (drop 4 r) 0 (omega arith) ∙ get_or-drop 4 r 0 0) in
    let high : get_or octets 1 0 ≡ get_or r 5 0 = rw e (get_or_sized 2 (drop 4 r) 1 (omega arith) ∙ get_or-drop 4 r 1 0) in
    f ∙ rw (low, high) (omega arith)

-- ---- framing
pub record Framed (r : List ℕ) : Type 0 where
  pub low : 4 ≤ length_of r
  pub high : length_of r ≤ length r

pub framed_so : (r : List ℕ) → framed r ≡ true → Framed r
unfolding framed
framed_so r e =
    let p = both _ _ e in
    record { low = leb-true _ _ p.0; high = leb-true _ _ p.1 }

pub so_framed : (r : List ℕ) → Framed r → framed r ≡ true
unfolding framed
so_framed r f = and_both _ _ (le-leb _ _ f.low) (le-leb _ _ f.high)

-- ---- the first record, as the code finds it
module _ (l : List ℕ) (n : ℕ) (e : n ≡ length_of l) where
  pub none_short : n < 4 → IsNone l
  unfolding framed
  none_short h = and_first _ _ (and_first _ _ (lt-leb _ _ (rw e at h)))

  pub none_past : 4 ≤ n → length l < n → IsNone l
  unfolding framed
  none_past h k = and_first _ _ (and_second _ _ (le-leb _ _ (rw e at h)) (lt-leb _ _ (rw e at k)))

  module _ (h : 4 ≤ n) (k : n ≤ length l) (b : Bool) (g : b ≡ record_good (take n l)) where
    good : b ≡ record_good (take (length_of l) l)
    good = rw (← e) g

    pub none_bad : b ≡ false → IsNone l
    none_bad z = and_second _ _ (so_framed l (record { low = omega arith; high = omega arith })) (sym good ∙ z)

    pub first_here : b ≡ true → IsFirst l (take n l)
    first_here z = record { framed = so_framed l (record { low = omega arith; high = omega arith }); is = rw e refl; good = sym g ∙ z }

-- fewer than 4 octets left over
pub none_few : (l : List ℕ) → length l < 4 → IsNone l
none_few l h = below (length_of l) 4 (λ n. none_short l (length_of l) refl n) (λ n. none_past l (length_of l) refl n (omega arith))

pub ruleset firsts = (rules, none_few, none_short, none_past, none_bad, first_here)

-- ---- the list of records
cut_skip : (k : ℕ) (l : List ℕ) → k ≤ length l → cut k l ≡ cut 0 (drop k l)
unfolding cut
cut_skip zero l h = refl
cut_skip (suc k) [] h = absurd (not-suc-le-zero h)
cut_skip (suc k) (x ∷ xs) h = cut_skip k xs (le_of_suc-le-suc h)

-- the record that r begins with comes first
pub records_next : (r : List ℕ) → framed r ≡ true → records r ≡ take (length_of r) r ∷ records (drop (length_of r) r)
unfolding records cut
records_next [] e = let f = framed_so [] e in absurd (omega arith)
records_next (x ∷ xs) e =
    let f = framed_so (x ∷ xs) e in
    let n : ℕ = length_of (x ∷ xs) in
    let p : suc (n - 1) ≡ n = omega arith in
    pick_true _ _ _ e ∙ ap (λ (rs : List (List ℕ)). take n (x ∷ xs) ∷ rs) (cut_skip (n - 1) xs (omega arith) ∙ ap (λ (m : ℕ). cut 0 (drop m (x ∷ xs))) p)

-- where r begins with none, it is the last piece
pub records_stop : (r : List ℕ) → 0 < length r → framed r ≡ false → records r ≡ r ∷ []
unfolding records cut
records_stop [] h e = absurd (not-suc-le-zero h)
records_stop (x ∷ xs) h e = pick_false _ _ _ e

-- a record that is cut off is framed too, and as long as its length says
pub framed_take : (r : List ℕ) → framed r ≡ true → (framed (take (length_of r) r) ≡ true) × (length (take (length_of r) r) ≡ length_of r)
framed_take r e =
    let f = framed_so r e in
    let l = length-take-le (length_of r) r f.high in
    let n = number_take Little (length_of r) r 0 (omega arith) in
    (so_framed _ (record { low = omega arith; high = omega arith }), l)

-- ---- the first record and the list: it is the next of the list, and where there is none the list is not good
pub record Next (l q : List ℕ) : Type 0 where
  pub framed : framed q ≡ true
  pub some : 4 ≤ length q
  pub fits : length q ≤ length l
  pub is : records l ≡ q ∷ records (drop (length q) l)

pub next : (l q : List ℕ) → IsFirst l q → Next l q
next l q f =
    let p = framed_take l f.framed in
    let n : length q ≡ length_of l = ap length f.is ∙ p.1 in
    let r = framed_so l f.framed in
    record {
      framed = rw f.is p.0;
      some = omega arith;
      fits = omega arith;
      is = records_next l f.framed ∙ rw (← f.is, ← n);
    }

abbrev pub good_all : List (List ℕ) → Bool
good_all rs = every (λ r. framed r && record_good r) rs

pub none_good : (l : List ℕ) → 0 < length l → IsNone l → good_all (records l) ≡ false
unfolding every
none_good l h z = tested (framed l) bad (λ f. ap good_all (records_stop l h f) ∙ pick_false _ _ _ (and_first _ _ f))
  where
    bad : framed l ≡ true → good_all (records l) ≡ false
    bad f =
        let g : record_good (take (length_of l) l) ≡ false = sym (ap (λ (b : Bool). b && record_good (take (length_of l) l)) f) ∙ z in
        ap good_all (records_next l f) ∙ pick_false _ _ _ (and_second _ _ (framed_take l f).0 g)

pub ends : (l : List ℕ) → length l ≡ 0 → records l ≡ []
unfolding records cut
ends [] h = refl
ends (x ∷ l) h = absurd (omega arith)
