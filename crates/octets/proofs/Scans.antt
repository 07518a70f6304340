-- What this crate's loops and iterators give.
use Prim.Native.Nat.{ℕ, zero, suc, ◌+◌, ◌-◌, ◌*◌, ◌<◌, ◌≤◌}
use mathlib.Core.Path.{◌≡◌, refl, sym, ap, ◌∙◌}
use mathlib.Core.List.{List, [], ◌∷◌, ◌++◌}
use mathlib.Core.Bool.{Bool, true, false}
use native.Mathlib.Nat.{add-zero, add-suc, le_refl}
use native.Mathlib.Numerals.{add-one}
use native.Mathlib.Omega.{arith}
use lib.ListN.{replicate, length, get_or, take, drop, length-take, length-drop, drop_of_length-le, get_or-eq_default}
use lib.Seq.{drop-cons, get_or-take, ext_get_or}
use lib.Dec.{eqb}
use lib.Bits.{bit_or, bit_xor, or_zero_r, xor_self, or_add_and, xor_add_and, and_le_l, and_le_r}
use borrow.Author.Rules.{rules}
use borrow.Author.Tests.{eq-eqb, ne_eqb, eqb-true}
use Rattle.std.specs.List.{list_all}
use Rattle.std.specs.Fn.{Called}
use Rattle.std.specs.Array.{IsFromFnResult, IsFromFnResultFrom}
use Rattle.std.proofs.lemmas.List.{drop-replicate}
use denote.Param.Members.{Mut}
use Rattle.octets.specs.Choice.{pick}
use Rattle.octets.specs.Lists.{cells, sized}
use Rattle.octets.specs.Octets.{same, is_hex, all_hex, hex_value, unhex_at, is_digit, digits, digit_value, number_from}
use Rattle.octets.proofs.Exits.{pick_true, pick_false, tested}
use Rattle.octets.proofs.Lists.{length_cells, get_or_cells, cells_same, over_zeros}

pub get_or_past : (s : List ℕ) (i : ℕ) → length s ≤ i → 0 ≡ get_or s i 0
get_or_past s i h = sym (get_or-eq_default s 0 h)

-- ---- a slice filled by what another has, and then by zeros
sized_front : (n : ℕ) (s : List ℕ) → sized n (take n s) ≡ sized n s
unfolding sized
sized_front n s = cells_same n _ _ (λ j l. get_or-take n s j 0 l)

pub fill_zeros : (d src t f z : List ℕ) → t ≡ take (length d) (drop 0 src) → f ≡ t → z ≡ replicate (length (drop (length t) d)) 0 → f ++ z ≡ sized (length d) src
fill_zeros d src t f z e g h =
    let n = length d in
    let k : length t ≤ n = omega (arith, ap length e, length-take n src) in
    let m : length (drop (length t) d) ≡ n - length t = length-drop (length t) d in
    let w : drop (length t) (replicate n 0) ≡ z = drop-replicate (length t) n 0 ∙ sym (h ∙ ap (λ (j : ℕ). replicate j 0) m) in
    ap (λ (x : List ℕ). x ++ z) g ∙ ap (λ (x : List ℕ). t ++ x) (sym w) ∙ over_zeros n t k ∙ ap (sized n) e ∙ sized_front n src

-- ---- equality
pub same_refl : (a : List ℕ) → same a a ≡ true
unfolding same
same_refl [] = refl
same_refl (x ∷ xs) = pick_true _ _ _ (eq-eqb x x refl) ∙ same_refl xs

pub same_true : (a b : List ℕ) → same a b ≡ true → a ≡ b
unfolding same pick
same_true [] [] e = refl
same_true [] (y ∷ ys) e = let z : ◌≡◌ {A = ℕ} 0 1 = cc in absurd (omega arith)
same_true (x ∷ xs) [] e = let z : ◌≡◌ {A = ℕ} 0 1 = cc in absurd (omega arith)
same_true (x ∷ xs) (y ∷ ys) e = go (eqb x y) refl e (same_true xs ys)
  where
    go : (t : Bool) → eqb x y ≡ t → pick t (same xs ys) false ≡ true → (same xs ys ≡ true → xs ≡ ys) → x ∷ xs ≡ y ∷ ys
    go true h e f = let p : x ≡ y = eqb-true x y h in let q : xs ≡ ys = f e in cc
    go false h e f = let z : ◌≡◌ {A = ℕ} 0 1 = cc in absurd (omega arith)

no_less : (t : Bool) {r : Bool} → false ≡ r → false ≡ pick t r false
unfolding pick
no_less true e = e
no_less false e = refl

pub same_other : (a b : List ℕ) → (length a ≡ length b → ⊥) → false ≡ same a b
unfolding same
same_other [] [] h = absurd (h refl)
same_other [] (y ∷ ys) h = refl
same_other (x ∷ xs) [] h = refl
same_other (x ∷ xs) (y ∷ ys) h = no_less (eqb x y) (same_other xs ys (λ e. h (ap suc e)))

-- d is 0 exactly where the first i octets are the same
pub record Compared (a b : List ℕ) (d i : ℕ) : Type 0 where
  pub long : length a ≡ length b
  pub most : i ≤ length a
  pub is : same a b ≡ pick (eqb d 0) (same (drop i a) (drop i b)) false

pub compare_none : {a b : List ℕ} → length a ≡ length b → Compared a b 0 0
unfolding pick
compare_none e = record { long = e; most = omega arith; is = refl }

none : (t : Bool) → pick t false false ≡ false
unfolding pick
none true = refl
none false = refl

-- no bit of two octets differs only where they are equal, and no bit of two numbers is set only where both are 0
compare_step : (t : Bool) (d x y : ℕ) (r : Bool) → eqb x y ≡ t → pick (eqb d 0) (pick t r false) false ≡ pick (eqb (bit_or d (bit_xor x y)) 0) r false
unfolding pick
compare_step true d x y r e =
    let p : x ≡ y = eqb-true x y e in
    let h : bit_or d (bit_xor x y) ≡ d = ap (λ (z : ℕ). bit_or d (bit_xor x z)) (sym p) ∙ ap (bit_or d) (xor_self x) ∙ or_zero_r d in
    rw h
compare_step false d x y r e = none (eqb d 0) ∙ sym (pick_false _ _ _ (ne_eqb _ 0 differ))
  where
    differ : bit_or d (bit_xor x y) ≡ 0 → ⊥
    differ z =
        let s : x ≡ y = omega (arith, or_add_and d (bit_xor x y), and_le_l d (bit_xor x y), xor_add_and x y, and_le_l x y, and_le_r x y) in
        let t : true ≡ false = sym (eq-eqb x y s) ∙ e in
        let c : ◌≡◌ {A = ℕ} 0 1 = cc in
        omega arith

pub compare_more : {a b : List ℕ} {d i : ℕ} → Compared a b d i → i < length a → Compared a b (bit_or d (bit_xor (get_or a i 0) (get_or b i 0))) (i + 1)
unfolding same
compare_more {a} {b} {d} {i} p h =
    let k : i < length b = omega arith in
    record {
      long = p.long;
      most = omega arith;
      is = p.is ∙ rw (add-one i, drop-cons a i 0 h, drop-cons b i 0 k) (compare_step (eqb (get_or a i 0) (get_or b i 0)) d (get_or a i 0) (get_or b i 0) _ refl);
    }

whole : (t : Bool) → pick t true false ≡ t
unfolding pick
whole true = refl
whole false = refl

pub compare_done : {a b : List ℕ} {d i : ℕ} → Compared a b d i → length a ≤ i → eqb d 0 ≡ same a b
unfolding same
compare_done {a} {b} {d} {i} p h =
    let k : length b ≤ i = omega arith in
    sym (p.is ∙ simp (drop_of_length-le a h, drop_of_length-le b k) (whole (eqb d 0)))

-- ---- hex digits
pub hex_all : (either : Bool) (s : List ℕ) → list_all (is_hex either) s ≡ all_hex either s
unfolding all_hex pick
hex_all either [] = refl
hex_all either (x ∷ xs) = tested (is_hex either x) (λ t. rw t (hex_all either xs)) (λ t. rw t)

pub unhex_past : (d : List ℕ) (k : ℕ) → length d ≤ k → 0 ≡ unhex_at d k
unfolding unhex_at hex_value pick
unhex_past d k h =
    let e : length d ≤ k * 2 = omega arith in
    let f : length d ≤ k * 2 + 1 = omega arith in
    rw (← get_or_past d (k * 2) e, ← get_or_past d (k * 2 + 1) f)

-- ---- decimal digits
pub digits_hit : (x : ℕ) (xs : List ℕ) → is_digit x ≡ false → digits (x ∷ xs) ≡ 0
unfolding digits
digits_hit x xs e = pick_false _ _ _ e

pub digits_miss : (x : ℕ) (xs : List ℕ) → is_digit x ≡ true → digits (x ∷ xs) ≡ digits xs + 1
unfolding digits
digits_miss x xs e = pick_true _ _ _ e ∙ omega arith

-- powers of ten
unfoldable pub ten : ℕ → ℕ
ten zero = 1
ten (suc n) = 10 * ten n

ten_up : (n k : ℕ) → ten n ≤ ten (n + k)
unfolding ten
ten_up n zero = rw add-zero (le_refl (ten n))
ten_up n (suc k) = rw add-suc (omega (arith, ten_up n k))

ten_small : (n : ℕ) → n ≤ 10 → ten n ≤ 10000000000
unfolding ten
ten_small n h =
    let e : n + (10 - n) ≡ 10 = omega arith in
    rw e at (ten_up n (10 - n))

ten_more : (n : ℕ) → ten (n + 1) ≡ 10 * ten n
unfolding ten
ten_more n = rw add-one

-- acc is the number of the first i of at most ten digits
pub record Numbered (s : List ℕ) (acc i : ℕ) : Type 0 where
  pub few : length s ≤ 10
  pub most : i ≤ length s
  pub is : number_from 0 s ≡ number_from acc (drop i s)
  pub bound : acc + 23 ≤ 23 * ten i
  pub tens : ten i ≤ 10000000000

pub number_none : {s : List ℕ} → length s ≤ 10 → Numbered s 0 0
unfolding ten
number_none h = record { few = h; most = omega arith; is = refl; bound = omega arith; tens = omega arith }

pub number_more : {s : List ℕ} {acc i d : ℕ} → Numbered s acc i → i < length s → d ≡ digit_value (get_or s i 0) → d < 208 → Numbered s (acc * 10 + d) (i + 1)
unfolding number_from
number_more {s} {acc} {i} {d} p h e k =
    let t = ten_more i in
    record {
      few = p.few;
      most = omega arith;
      is = p.is ∙ rw (add-one, drop-cons s i 0 h, e);
      bound = omega arith;
      tens = ten_small (i + 1) (omega arith);
    }

pub number_done : {s : List ℕ} {acc i : ℕ} → Numbered s acc i → length s ≤ i → acc ≡ number_from 0 s
unfolding number_from
number_done {s} {acc} {i} p h = sym (p.is ∙ simp (drop_of_length-le s h))

pub ruleset numbering = (rules, number_none, number_more, number_done)

-- ---- an array whose places a closure gives, each below m
module _ {F : Type 0} (g : Mut F (ℕ × Unit {0}) ℕ) (h : ℕ → ℕ) (f : F) (m : ℕ) (pure : (i r : ℕ) (q : F) → i < m → Called g f (i, tt) r q → (q ≡ f) × (r ≡ h i)) where
  each_from_fn : (f' : F) (ys : List ℕ) (i n k : ℕ) → f' ≡ f → i + n ≤ m → IsFromFnResultFrom g f' ys i n → k < n → get_or ys (i + k) 0 ≡ h (i + k)
  each_from_fn f' ys i zero k e b p l = absurd (omega arith)
  each_from_fn f' ys i (suc n) zero e b p l =
      let z : i + 0 ≡ i = omega arith in
      rw z (p.2.1 0 ∙ (pure i p.1 p.0 (omega arith) (rw e at p.3)).1)
  each_from_fn f' ys i (suc n) (suc k) e b p l =
      let z : i + suc k ≡ i + 1 + k = omega arith in
      rw z (each_from_fn p.0 ys (i + 1) n k (pure i p.1 p.0 (omega arith) (rw e at p.3)).0 (omega arith) p.4 (omega arith))

  pub cells_below : (ys : List ℕ) (n : ℕ) → n ≤ m → IsFromFnResult g f ys n → ys ≡ cells n h
  cells_below ys n b p =
      ext_get_or 0 ys (cells n h) (p.long ∙ sym (length_cells n h))
      (λ k l. let z : 0 + k ≡ k = omega arith in rw z at (each_from_fn f ys 0 n k refl (omega arith) p.each (omega (arith, p.long))) ∙ sym (get_or_cells n h k (omega (arith, p.long))))

-- and one that gives each place, whatever it is
module _ {F : Type 0} (g : Mut F (ℕ × Unit {0}) ℕ) (h : ℕ → ℕ) (f : F) (pure : (i r : ℕ) (q : F) → Called g f (i, tt) r q → (q ≡ f) × (r ≡ h i)) where
  pub cells_from_fn : (ys : List ℕ) (n : ℕ) → IsFromFnResult g f ys n → ys ≡ cells n h
  cells_from_fn ys n p = cells_below g h f n (λ i r q l. pure i r q) ys n (omega arith) p
