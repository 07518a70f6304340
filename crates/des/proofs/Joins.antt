-- Loops that make a word, and one answer for every need: `search words`.
use Prim.Native.Nat.{ℕ, zero, suc, ◌+◌, ◌-◌, ◌*◌, ◌/◌, ◌%◌, ◌^◌, ◌<◌, ◌≤◌}
use native.Mathlib.Nat.{le_of_suc-le-suc, not-suc-le-zero, lt_of_lt_of_le, add-zero, pow-suc, mul-one, mul-add}
use native.Mathlib.Numerals.{add-one}
use native.Mathlib.Omega.{arith}
use mathlib.Core.Path.{◌≡◌, refl, sym, ap, ap₂, ◌∙◌, subst}
use mathlib.Core.Bool.{true, ◌&&◌}
use mathlib.Core.List.{List, [], ◌∷◌, ◌++◌}
use lib.Arith.{digits_lt}
use lib.Dec.{ltb, leb}
use lib.Pow.{pow_pos, pow-add, pow_mono}
use lib.ListN.{length, get_or}
use borrow.Author.Rules.{rules}
use borrow.Author.Tests.{ltb-true, leb-true}
use Rattle.octets.specs.Lists.{cells, sized}
use Rattle.octets.proofs.Lists.{sized_own}
use Rattle.octets.proofs.Tables.{first_of, second_of}
use Rattle.octets.proofs.Loops.{loops}
use Rattle.des.specs.Bits.{bit_at, permuted, bit_of, bits_of}
use Rattle.des.specs.Inner.{bits_in, Word, names, Table}
use Rattle.des.proofs.Numbers.{in_suc}
use Rattle.des.proofs.Words.{bit_in, in_append, octet_at_lem, parity_at, of_one, of_append}

-- ---- a table: acc has the first i bits that it names
named_at : (n : ℕ) (table : List ℕ) (i : ℕ) → names n table ≡ true → i < length table → (0 < get_or table i 0) × (get_or table i 0 ≤ n)
unfolding names
named_at n [] i e h = absurd (not-suc-le-zero h)
named_at n (k ∷ table) zero e h =
    let f : (ltb 0 k && leb k n) ≡ true = first_of (ltb 0 k && leb k n) (names n table) e in
    (ltb-true 0 k (first_of (ltb 0 k) (leb k n) f), leb-true k n (second_of (ltb 0 k) (leb k n) f))
named_at n (k ∷ table) (suc i) e h = named_at n table i (second_of (ltb 0 k && leb k n) (names n table) e) (le_of_suc-le-suc h)

pub record Named (n w : ℕ) (table : List ℕ) (acc i : ℕ) : Type 0 where
  pub bound : acc < 2 ^ i
  pub is : bits_in i acc ≡ cells i (λ j. bit_at (bits_in n w) (get_or table j 0))

pub named_none : {n w : ℕ} {table : List ℕ} → Named n w table 0 0
unfolding bits_in cells
named_none = record { bound = omega arith; is = refl }

pub named_as : {n w : ℕ} {table : List ℕ} {acc i j : ℕ} → Named n w table acc i → i ≡ j → Named n w table acc j
named_as {n} {w} {table} {acc} p e = subst (Named n w table acc) e p

module _ {size n w : ℕ} {table : List ℕ} {acc i k : ℕ} (t : Table size n table) (p : Named n w table acc i) (h : i < size) (f : k ≡ get_or table i 0) where
  at : (0 < k) × (k ≤ n)
  at = rw f (named_at n table i t.names (omega (arith, t.long)))

  pub named_most : k ≤ n
  named_most = at.1

  pub named_shift : n - k < 64
  named_shift = omega (arith, at.0, t.most)

  next_bound : acc * 2 + w / 2 ^ (n - k) % 2 < 2 ^ (i + 1)
  next_bound =
      let e : 2 ^ (i + 1) ≡ 2 ^ i * 2 = rw add-one (pow-suc 2 i) in
      omega (arith, p.bound)

  pub named_room : acc * 2 + w / 2 ^ (n - k) % 2 < 2 ^ 64
  named_room = lt_of_lt_of_le next_bound (pow_mono {i = i + 1} {j = 64} (omega (arith, t.short)))

  pub named_double : acc * 2 < 2 ^ 64
  named_double = omega (arith, named_room)

  pub named_more : {j : ℕ} → j ≡ i + 1 → Named n w table (acc * 2 + w / 2 ^ (n - k) % 2) j
  unfolding cells
  named_more e =
      let b = w / 2 ^ (n - k) % 2 in
      let q : (acc * 2 + b) / 2 ≡ acc = omega arith in
      let r : (acc * 2 + b) % 2 ≡ b = omega arith in
      named_as
      (record {
        bound = next_bound;
        is = rw add-one (in_suc i (acc * 2 + b) ∙ ap₂ (λ (x y : ℕ). bits_in i x ++ (y ∷ [])) q (r ∙ bit_in n w k at.0 at.1 ∙ ap (bit_at (bits_in n w)) f) ∙ ap (λ (x : List ℕ). x ++ (bit_at (bits_in n w) (get_or table i 0) ∷ [])) p.is);
      })
      (sym e)

pub named_done : {size n w : ℕ} {table : List ℕ} {acc i : ℕ} → Table size n table → Named n w table acc i → i ≡ size → Word size (permuted table (bits_in n w)) acc
unfolding permuted
named_done {size} {n} {w} {table} {acc} {i} t p e =
    record {
      small = rw e at p.bound;
      is = (rw e at p.is) ∙ ap (λ (k : ℕ). cells k (λ j. bit_at (bits_in n w) (get_or table j 0))) (sym t.long);
    }

-- ---- numbers of w bits: acc joins the first i of n
pub record Joined (n w : ℕ) (f : ℕ → ℕ) (acc i : ℕ) : Type 0 where
  pub few : n ≤ 8
  pub most : i ≤ n
  pub bound : acc < 2 ^ (w * i)
  pub is : bits_in (w * i) acc ≡ bits_of w (cells i f)

pub join_none : {n w : ℕ} {f : ℕ → ℕ} → n ≤ 8 → Joined n w f 0 0
unfolding bits_in bits_of cells
join_none {n} {w} {f} h =
    let z : w * 0 ≡ 0 = omega arith in
    record {
      few = h;
      most = omega arith;
      bound = pow_pos (w * 0);
      is = ap (λ (k : ℕ). bits_in k 0) z ∙ sym (ap (λ (k : ℕ). cells k (bit_of w [])) z);
    }

module _ {n w : ℕ} {f : ℕ → ℕ} {acc i x : ℕ} (p : Joined n w f acc i) (some : 0 < w) (h : x < 2 ^ w) where
  bounded : acc * 2 ^ w + x < 2 ^ (w * i + w)
  bounded = rw (pow-add 2 (w * i) w) (digits_lt p.bound h)

  room : w * i + w ≤ 64 → acc * 2 ^ w + x < 2 ^ 64
  room l = lt_of_lt_of_le bounded (pow_mono l)

  joined : i < n → x ≡ f i → Joined n w f (acc * 2 ^ w + x) (i + 1)
  unfolding cells
  joined l e =
      let k : w * (i + 1) ≡ w * i + w = mul-add w i 1 ∙ ap (λ (j : ℕ). w * i + j) (mul-one w) in
      let s : i + 1 ≡ suc i = add-one i in
      record {
        few = p.few;
        most = omega arith;
        bound = rw k bounded;
        is =
            ap (λ (j : ℕ). bits_in j (acc * 2 ^ w + x)) k
            ∙ in_append (w * i) w acc x h
            ∙ ap₂ (λ (a b : List ℕ). a ++ b) p.is (sym (of_one w x some))
            ∙ sym (of_append w (cells i f) (x ∷ []) some)
            ∙ ap (λ (y : ℕ). bits_of w (cells i f ++ (y ∷ []))) e
            ∙ ap (λ (j : ℕ). bits_of w (cells j f)) (sym s);
      }

module _ {n : ℕ} {f : ℕ → ℕ} {acc i : ℕ} (p : Joined n 8 f acc i) (l : i < n) where
  pub octet_shift : acc * 256 < 2 ^ 64
  octet_shift = rw (← add-zero (acc * 256)) (room {x = 0} p (omega arith) (omega arith) (omega arith))

  pub octet_room : {x : ℕ} → x < 256 → acc * 256 + x < 2 ^ 64
  octet_room h = room p (omega arith) h (omega arith)

  pub octet_more : {x : ℕ} → x < 256 → x ≡ f i → Joined n 8 f (acc * 256 + x) (i + 1)
  octet_more h e = joined p (omega arith) h l e

module _ {n : ℕ} {f : ℕ → ℕ} {acc i : ℕ} (p : Joined n 4 f acc i) (l : i < n) where
  pub four_shift : acc * 16 < 2 ^ 64
  four_shift = rw (← add-zero (acc * 16)) (room {x = 0} p (omega arith) (omega arith) (omega arith))

  pub four_room : {x : ℕ} → x < 16 → acc * 16 + x < 2 ^ 64
  four_room h = room p (omega arith) h (omega arith)

  pub four_more : {x : ℕ} → x < 16 → x ≡ f i → Joined n 4 f (acc * 16 + x) (i + 1)
  four_more h e = joined p (omega arith) h l e

-- all of them are those of the list s
pub octets_done : (s : List ℕ) {acc i : ℕ} → Joined (length s) 8 (λ k. get_or s k 0) acc i → length s ≤ i → Word (8 * length s) (bits_of 8 s) acc
unfolding sized
octets_done s {acc} {i} p h =
    let e : i ≡ length s = omega arith in
    record { small = rw e at p.bound; is = (rw e at p.is) ∙ ap (bits_of 8) (sized_own (length s) s refl) }

pub octets_in : (n : ℕ) (s : List ℕ) (w : ℕ) → Word (8 * length s) (bits_of 8 s) w → length s ≡ n → bits_in (8 * n) w ≡ bits_of 8 s
octets_in n s w p e = ap (λ (k : ℕ). bits_in (8 * k) w) (sym e) ∙ p.is

pub fours_done : {f : ℕ → ℕ} {acc i : ℕ} → Joined 8 4 f acc i → 8 ≤ i → bits_in 32 acc ≡ bits_of 4 (cells 8 f)
fours_done {f} {acc} {i} p h =
    let e : i ≡ 8 = omega arith in
    rw e at p.is

pub ruleset naming = (rules, named_none, named_as, named_more, named_done, named_most, named_shift, named_room, named_double)

pub ruleset words = (loops, octet_at_lem, parity_at, join_none, octet_shift, octet_room, octet_more, octets_done, four_shift, four_room, four_more, fours_done)
