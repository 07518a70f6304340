-- Laws of the rounds, and one answer for every need: `search halves`.
use Prim.Native.Nat.{ℕ, suc, ◌+◌, ◌-◌, ◌*◌, ◌/◌, ◌%◌, ◌^◌, ◌<◌, ◌≤◌}
use native.Mathlib.Nat.{lt_of_lt_of_le, add-zero, mod-lt, mul-mod_left}
use native.Mathlib.Numerals.{add-one}
use native.Mathlib.Omega.{arith}
use mathlib.Core.Path.{◌≡◌, refl, sym, ap, ap₂, ◌∙◌, subst}
use mathlib.Core.List.{List, ◌++◌}
use lib.Arith.{digits_lt}
use lib.Bits.{bit_or, bit_xor, xor_lt}
use mir.Syntax.{w64}
use Rattle.std.specs.Int.{rotate_left}
use Rattle.std.proofs.lemmas.Nat.{or_shifted}
use lib.Pow.{pow_pos, pow-add, pow_mono, shr_lt, shl-shr, mod-pow-add, mod-mod-pow}
use lib.ListN.{length, get_or, take, drop, length-append, length-drop, get_or-append}
use lib.Seq.{length-take-le, take-append_seam, drop-append_seam, get_or-take, get_or-drop, get_or-append-add, ext_get_or}
use Rattle.octets.specs.Lists.{cells}
use Rattle.octets.proofs.Exits.{below}
use Rattle.octets.proofs.Lists.{length_cells, get_or_cells, cells_same}
use Rattle.octets.proofs.Loops.{loops}
use Rattle.des.specs.Tables.{ip_table, fp_table, pc1_table, e_table, p_table, pc2_table, shift_table, s_table}
use Rattle.des.specs.Bits.{permuted, xored, bits_of, group_at}
use Rattle.des.specs.Inner.{bits_in, Word}
use Rattle.des.specs.Des.{place_of, box_of, substituted, cipher_function, shifted_at, shifted, halves_of, round_of, rounds_of, swapped, enciphered}
use Rattle.des.specs.Rows.{LookedUp}
use Rattle.des.proofs.Numbers.{length_in}
use Rattle.des.proofs.Words.{in_append, in_split, in_xor, cells_append, six_at}

-- ---- a word of m bits and one of n
join_lt : (m n a b : ℕ) → a < 2 ^ m → b < 2 ^ n → a * 2 ^ n + b < 2 ^ (m + n)
join_lt m n a b h k = subst (λ (x : ℕ). a * 2 ^ n + b < x) (sym (pow-add 2 m n)) (digits_lt h k)

module _ (m n w : ℕ) where
  first_bits : take m (bits_in (m + n) w) ≡ bits_in m (w / 2 ^ n)
  first_bits =
      let a = bits_in m (w / 2 ^ n) in
      let b = bits_in n (w % 2 ^ n) in
      ap₂ take (sym (length_in m (w / 2 ^ n))) (in_split m n w) ∙ take-append_seam a b

  last_bits : drop m (bits_in (m + n) w) ≡ bits_in n (w % 2 ^ n)
  last_bits =
      let a = bits_in m (w / 2 ^ n) in
      let b = bits_in n (w % 2 ^ n) in
      ap₂ drop (sym (length_in m (w / 2 ^ n))) (in_split m n w) ∙ drop-append_seam a b

-- ---- a box
pub box_is : (w n r : ℕ) → n < 8 → LookedUp (place_of n (w / 2 ^ (42 - 6 * n) % 64)) r → (r ≡ box_of (bits_in 48 w) n) × (r < 16)
box_is w n r h p = (p.is ∙ ap (λ (x : ℕ). get_or s_table (place_of n x) 0) (six_at w n h), p.small)

-- ---- f(R, K)
pub cipher_is : (right key e b r : ℕ) → Word 48 (permuted e_table (bits_in 32 right)) e → bits_in 32 b ≡ substituted (bits_in 48 (bit_xor e key)) → Word 32 (permuted p_table (bits_in 32 b)) r → Word 32 (cipher_function (bits_in 32 right) (bits_in 48 key)) r
unfolding cipher_function
cipher_is right key e b r p q t =
    record {
      small = t.small;
      is = t.is ∙ ap (permuted p_table) (q ∙ ap substituted (in_xor 48 e key ∙ ap (λ (l : List ℕ). xored l (bits_in 48 key)) p.is));
    }

-- ---- L and R
module _ (lr : ℕ) (fits : lr < 2 ^ 64) where
  left_lt : lr / 2 ^ 32 < 2 ^ 32
  left_lt = shr_lt 32 32 fits

  right_lt : lr % 2 ^ 32 < 2 ^ 32
  right_lt = mod-lt lr (pow_pos 32)

  turned_half : rotate_left w64 lr 32 ≡ lr % 2 ^ 32 * 2 ^ 32 + lr / 2 ^ 32
  turned_half =
      let e : lr * 2 ^ 32 % 2 ^ 64 ≡ lr % 2 ^ 32 * 2 ^ 32 = omega arith in
      ap (λ (n : ℕ). bit_or n (lr / 2 ^ 32)) e ∙ or_shifted (lr % 2 ^ 32) 32 (lr / 2 ^ 32) left_lt

  pub swap_is : bits_in 64 (rotate_left w64 lr 32) ≡ swapped (bits_in 64 lr)
  unfolding swapped
  swap_is = ap (bits_in 64) turned_half ∙ in_append 32 32 (lr % 2 ^ 32) (lr / 2 ^ 32) left_lt ∙ sym (ap₂ (λ (a b : List ℕ). a ++ b) (last_bits 32 32 lr) (first_bits 32 32 lr))

  module _ (key f : ℕ) (p : Word 32 (cipher_function (bits_in 32 (lr % 4294967296)) (bits_in 48 key)) f) where
    sum_lt : bit_xor (lr / 2 ^ 32) f < 2 ^ 32
    sum_lt = xor_lt 32 (lr / 2 ^ 32) f left_lt p.small

    pub round_fits : lr % 4294967296 * 4294967296 + bit_xor (lr / 4294967296) f < 2 ^ 64
    round_fits = join_lt 32 32 (lr % 2 ^ 32) (bit_xor (lr / 2 ^ 32) f) right_lt sum_lt

    pub round_is : bits_in 64 (lr % 4294967296 * 4294967296 + bit_xor (lr / 4294967296) f) ≡ round_of (bits_in 64 lr) (bits_in 48 key)
    unfolding round_of
    round_is =
        in_append 32 32 (lr % 2 ^ 32) (bit_xor (lr / 2 ^ 32) f) sum_lt
        ∙ ap (λ (l : List ℕ). bits_in 32 (lr % 2 ^ 32) ++ l) (in_xor 32 (lr / 2 ^ 32) f ∙ ap (xored (bits_in 32 (lr / 2 ^ 32))) p.is)
        ∙ sym (ap₂ (λ (l r : List ℕ). r ++ xored l (cipher_function r (bits_in 48 key))) (first_bits 32 32 lr) (last_bits 32 32 lr))

-- ---- C and D
module _ (s : ℕ) (few : s ≤ 28) where
  turned : (h : List ℕ) → length h ≡ 28 → cells 28 (λ j. get_or h ((j + s) % 28) 0) ≡ drop s h ++ take s h
  turned h e =
      let d : length (drop s h) ≡ 28 - s = length-drop s h ∙ ap (λ (n : ℕ). n - s) e in
      let t : length (take s h) ≡ s = length-take-le s h (omega arith) in
      let l : length (drop s h ++ take s h) ≡ 28 = length-append (drop s h) (take s h) ∙ omega arith in
      ext_get_or 0 (cells 28 (λ j. get_or h ((j + s) % 28) 0)) (drop s h ++ take s h) (length_cells 28 _ ∙ sym l)
      (λ j i.
      let k : j < 28 = rw (length_cells 28 (λ j. get_or h ((j + s) % 28) 0)) at i in
      get_or_cells 28 (λ j. get_or h ((j + s) % 28) 0) j k
      ∙ below j (28 - s)
      (λ a.
      let p : (j + s) % 28 ≡ s + j = omega arith in
      ap (λ (n : ℕ). get_or h n 0) p ∙ sym (get_or-append (drop s h) (take s h) 0 j (omega arith) ∙ get_or-drop s h j 0))
      (λ a.
      let p : (j + s) % 28 ≡ j + s - 28 = omega arith in
      let q : j ≡ length (drop s h) + (j + s - 28) = omega arith in
      ap (λ (n : ℕ). get_or h n 0) p
      ∙ sym (ap (λ (n : ℕ). get_or (drop s h ++ take s h) n 0) q ∙ get_or-append-add (drop s h) (take s h) (j + s - 28) 0 ∙ get_or-take s h (j + s - 28) 0 (omega arith))))

  shifted_halves : (a b : List ℕ) → length a ≡ 28 → length b ≡ 28 → shifted s (a ++ b) ≡ (drop s a ++ take s a) ++ (drop s b ++ take s b)
  unfolding shifted
  shifted_halves a b e f =
      cells_append 28 28 (shifted_at s (a ++ b))
      ∙ ap₂ (λ (x y : List ℕ). x ++ y)
      (cells_same 28 (shifted_at s (a ++ b)) (λ j. get_or a ((j + s) % 28) 0)
      (λ j h.
      let p : 28 * (j / 28) + (j % 28 + s) % 28 ≡ (j + s) % 28 = omega arith in
      ap (λ (n : ℕ). get_or (a ++ b) n 0) p ∙ get_or-append a b 0 ((j + s) % 28) (omega arith))
      ∙ turned a e)
      (cells_same 28 (λ j. shifted_at s (a ++ b) (28 + j)) (λ j. get_or b ((j + s) % 28) 0)
      (λ j h.
      let p : 28 * ((28 + j) / 28) + ((28 + j) % 28 + s) % 28 ≡ length a + (j + s) % 28 = omega arith in
      ap (λ (n : ℕ). get_or (a ++ b) n 0) p ∙ get_or-append-add a b ((j + s) % 28) 0)
      ∙ turned b f)

  module _ (w : ℕ) (small : w < 2 ^ 28) where
    rotation : w * 2 ^ s % 2 ^ 64 % 268435456 + w / 2 ^ (28 - s) ≡ w % 2 ^ (28 - s) * 2 ^ s + w / 2 ^ (28 - s)
    rotation =
        let k : 28 - s + s ≡ 28 = omega arith in
        ap (λ (n : ℕ). n + w / 2 ^ (28 - s))
        (mod-mod-pow (w * 2 ^ s) 36 28
        ∙ ap (λ (n : ℕ). w * 2 ^ s % 2 ^ n) (sym k)
        ∙ mod-pow-add (w * 2 ^ s) (28 - s) s
        ∙ ap₂ (λ (x y : ℕ). x % 2 ^ (28 - s) * 2 ^ s + y) (shl-shr w s) (mul-mod_left w (2 ^ s))
        ∙ add-zero (w % 2 ^ (28 - s) * 2 ^ s))

    high_lt : w / 2 ^ (28 - s) < 2 ^ s
    high_lt =
        let k : s + (28 - s) ≡ 28 = omega arith in
        shr_lt s (28 - s) (rw k small)

    pub rotate_is : Word 28 (drop s (bits_in 28 w) ++ take s (bits_in 28 w)) (w * 2 ^ s % 2 ^ 64 % 268435456 + w / 2 ^ (28 - s))
    rotate_is =
        let k : 28 - s + s ≡ 28 = omega arith in
        let j : s + (28 - s) ≡ 28 = omega arith in
        let low : w % 2 ^ (28 - s) < 2 ^ (28 - s) = mod-lt w (pow_pos (28 - s)) in
        let lt : w % 2 ^ (28 - s) * 2 ^ s + w / 2 ^ (28 - s) < 2 ^ 28 = rw k at (join_lt (28 - s) s _ _ low high_lt) in
        let bits : bits_in 28 (w % 2 ^ (28 - s) * 2 ^ s + w / 2 ^ (28 - s)) ≡ bits_in (28 - s) (w % 2 ^ (28 - s)) ++ bits_in s (w / 2 ^ (28 - s)) =
        rw k at (in_append (28 - s) s (w % 2 ^ (28 - s)) (w / 2 ^ (28 - s)) high_lt)
        in
        let first : take s (bits_in 28 w) ≡ bits_in s (w / 2 ^ (28 - s)) = rw j at (first_bits s (28 - s) w) in
        let last : drop s (bits_in 28 w) ≡ bits_in (28 - s) (w % 2 ^ (28 - s)) = rw j at (last_bits s (28 - s) w) in
        record {
          small = rw rotation lt;
          is = ap (bits_in 28) rotation ∙ bits ∙ sym (ap₂ (λ (a b : List ℕ). a ++ b) last first);
        }

    pub rotate_fits : w * 2 ^ s % 2 ^ 64 % 268435456 + w / 2 ^ (28 - s) < 2 ^ 64
    rotate_fits = lt_of_lt_of_le rotate_is.small (pow_mono {i = 28} {j = 64} (omega arith))

module _ (cd c d s u : ℕ) (few : s ≤ 2) (e : s ≡ u)
    (p : Word 28 (drop s (bits_in 28 (cd / 268435456)) ++ take s (bits_in 28 (cd / 268435456))) c)
    (q : Word 28 (drop s (bits_in 28 (cd % 268435456)) ++ take s (bits_in 28 (cd % 268435456))) d) where
  pub shift_is : Word 56 (shifted u (bits_in 56 cd)) (c * 268435456 + d)
  shift_is =
      record {
        small = join_lt 28 28 c d p.small q.small;
        is =
            in_append 28 28 c d q.small
            ∙ ap₂ (λ (a b : List ℕ). a ++ b) p.is q.is
            ∙ sym (shifted_halves s (omega arith) (bits_in 28 (cd / 2 ^ 28)) (bits_in 28 (cd % 2 ^ 28)) (length_in 28 _) (length_in 28 _))
            ∙ ap₂ shifted e (sym (in_split 28 28 cd));
      }

-- ---- sixteen rounds, n of them done
pub record Rounded (cd₀ lr₀ cd lr n : ℕ) : Type 0 where
  pub most : n ≤ 16
  pub small : cd < 2 ^ 56
  pub keyed : bits_in 56 cd ≡ halves_of (bits_in 56 cd₀) n
  pub is : bits_in 64 lr ≡ rounds_of (bits_in 56 cd₀) (bits_in 64 lr₀) n

pub round_none : {cd lr : ℕ} → cd < 2 ^ 56 → Rounded cd lr cd lr 0
unfolding halves_of rounds_of
round_none h = record { most = omega arith; small = h; keyed = refl; is = refl }

pub round_more : {cd₀ lr₀ cd lr cd' lr' key n : ℕ} → Rounded cd₀ lr₀ cd lr n → n < 16 → Word 56 (shifted (get_or shift_table n 0) (bits_in 56 cd)) cd' → Word 48 (permuted pc2_table (bits_in 56 cd')) key → bits_in 64 lr' ≡ round_of (bits_in 64 lr) (bits_in 48 key) → Rounded cd₀ lr₀ cd' lr' (n + 1)
unfolding halves_of rounds_of
round_more {cd₀} {lr₀} {cd} {lr} {cd'} {lr'} {key} {n} p h c k l =
    let keyed : bits_in 56 cd' ≡ halves_of (bits_in 56 cd₀) (suc n) = c.is ∙ ap (shifted (get_or shift_table n 0)) p.keyed in
    record {
      most = omega arith;
      small = c.small;
      keyed = rw add-one keyed;
      is = rw add-one (l ∙ ap₂ round_of p.is (k.is ∙ ap (permuted pc2_table) keyed));
    }

pub round_done : {cd₀ lr₀ cd lr n : ℕ} → Rounded cd₀ lr₀ cd lr n → 16 ≤ n → bits_in 64 lr ≡ rounds_of (bits_in 56 cd₀) (bits_in 64 lr₀) 16
round_done {cd₀} {lr₀} {cd} {lr} {n} p h =
    let e : n ≡ 16 = omega arith in
    p.is ∙ ap (rounds_of (bits_in 56 cd₀) (bits_in 64 lr₀)) e

-- ---- a block
pub enciphered_is : (key block : List ℕ) (k b cd lr₀ lr s f : ℕ) (r : List ℕ) → bits_in 64 k ≡ bits_of 8 key → Word 56 (permuted pc1_table (bits_in 64 k)) cd → bits_in 64 b ≡ bits_of 8 block → Word 64 (permuted ip_table (bits_in 64 b)) lr₀ → bits_in 64 lr ≡ rounds_of (bits_in 56 cd) (bits_in 64 lr₀) 16 → bits_in 64 s ≡ swapped (bits_in 64 lr) → Word 64 (permuted fp_table (bits_in 64 s)) f → r ≡ cells 8 (group_at 8 (bits_in 64 f)) → r ≡ enciphered key block
unfolding enciphered
enciphered_is key block k b cd lr₀ lr s f r ek ec eb ei el es ef er =
    er
    ∙ ap (λ (l : List ℕ). cells 8 (group_at 8 l))
    (ef.is ∙ ap (permuted fp_table) (es ∙ ap swapped (el ∙ ap₂ (λ (x y : List ℕ). rounds_of x y 16) (ec.is ∙ ap (permuted pc1_table) ek) (ei.is ∙ ap (permuted ip_table) eb))))

-- it is eight octets
pub length_enciphered : (key block : List ℕ) → length (enciphered key block) ≡ 8
unfolding enciphered
length_enciphered key block = length_cells 8 _

pub ruleset halves = (loops, round_fits, round_is, rotate_is, rotate_fits, box_is, cipher_is, shift_is, round_none, round_more, round_done)
