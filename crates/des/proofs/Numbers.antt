-- Bits make a number, and a number has its bits: nothing is lost on the way, at any width.
use Prim.Native.Nat.{ℕ, zero, suc, ◌+◌, ◌-◌, ◌*◌, ◌/◌, ◌%◌, ◌^◌, ◌<◌, ◌≤◌}
use native.Mathlib.Nat.{pow-suc, mul_assoc, mul_comm, mul-suc, add-mul, mul-le-mul_left, mod-lt, mod-one, mod-eq_of_lt, div-one, div-eq_of_lt, div-add-mod, div-lt_iff_lt-mul, mul-add-div, mul-add-mod_self_left}
use native.Mathlib.Omega.{arith}
use mathlib.Core.Path.{◌≡◌, refl, sym, ap, ap₂, ◌∙◌, subst}
use mathlib.Core.List.{List, [], ◌∷◌, ◌++◌}
use lib.Arith.{digits_lt}
use lib.Pow.{high, shr-shr, mod-pow-add}
use lib.ListN.{length, get_or, take, drop, length-drop}
use lib.Seq.{split_at, length-take-le, get_or-take, get_or-drop, ext_get_or}
use Rattle.octets.specs.Lists.{cells, part}
use Rattle.octets.proofs.Lists.{length_cells, get_or_cells, cells_same}
use Rattle.des.specs.Bits.{bit_of, bits_of, number_on, group_at}
use Rattle.des.specs.Inner.{bits_in}

pub length_bits : (w : ℕ) (s : List ℕ) → length (bits_of w s) ≡ w * length s
unfolding bits_of
length_bits w s = length_cells (w * length s) (bit_of w s)

pub get_or_bits : (w : ℕ) (s : List ℕ) (i : ℕ) → i < w * length s → get_or (bits_of w s) i 0 ≡ bit_of w s i
unfolding bits_of
get_or_bits w s i h = get_or_cells (w * length s) (bit_of w s) i h

pub length_in : (n w : ℕ) → length (bits_in n w) ≡ n
unfolding bits_in
length_in n w = length_cells n _

pub get_or_in : (n w i : ℕ) → i < n → get_or (bits_in n w) i 0 ≡ w / 2 ^ (n - 1 - i) % 2
unfolding bits_in
get_or_in n w i h = get_or_cells n _ i h

-- ---- the number of bits in two parts
pub number_append : (acc : ℕ) (a b : List ℕ) → number_on acc (a ++ b) ≡ number_on (number_on acc a) b
unfolding number_on
number_append acc [] b = refl
number_append acc (x ∷ a) b = number_append (2 * acc + x % 2) a b

pub number_acc : (acc : ℕ) (b : List ℕ) → number_on acc b ≡ acc * 2 ^ length b + number_on 0 b
unfolding number_on
number_acc acc [] = omega arith
number_acc acc (x ∷ b) =
    let P = 2 ^ length b in
    let t = x % 2 in
    let p : 2 ^ suc (length b) ≡ P * 2 = pow-suc 2 (length b) in
    let e : number_on (2 * acc + t) b ≡ (2 * acc + t) * P + number_on 0 b = number_acc (2 * acc + t) b in
    let f : number_on (2 * 0 + t) b ≡ (2 * 0 + t) * P + number_on 0 b = number_acc (2 * 0 + t) b in
    let g : (2 * acc + t) * P ≡ 2 * acc * P + t * P = add-mul (2 * acc) t P in
    let h : (2 * 0 + t) * P ≡ 2 * 0 * P + t * P = add-mul (2 * 0) t P in
    let i : 2 * acc * P ≡ 2 * (acc * P) = mul_assoc 2 acc P in
    let j : acc * 2 ^ suc (length b) ≡ acc * P * 2 = ap (λ (n : ℕ). acc * n) p ∙ sym (mul_assoc acc P 2) in
    e ∙ (omega arith) ∙ ap₂ (λ (m n : ℕ). m + n) (sym j) (sym f)

pub number_lt : (b : List ℕ) → number_on 0 b < 2 ^ length b
unfolding number_on
number_lt [] = omega arith
number_lt (x ∷ b) =
    let P = 2 ^ length b in
    let d : (2 * 0 + x % 2) * P + number_on 0 b < 2 * P = digits_lt (omega arith) (number_lt b) in
    subst (λ (n : ℕ). n < 2 ^ suc (length b)) (sym (number_acc (2 * 0 + x % 2) b))
    (subst (λ (n : ℕ). (2 * 0 + x % 2) * P + number_on 0 b < n) (mul_comm 2 P ∙ sym (pow-suc 2 (length b))) d)

-- ---- bit j of the number of w bits
pub number_bit : (w : ℕ) (m : List ℕ) (j : ℕ) → length m ≡ w → j < w → number_on 0 m / 2 ^ (w - 1 - j) % 2 ≡ get_or m j 0 % 2
unfolding number_on
number_bit w m j e h =
    let b = get_or m j 0 in
    let z = drop (suc j) m in
    let n : length z ≡ w - 1 - j = length-drop (suc j) m ∙ omega arith in
    let x = number_on 0 (take j m) in
    let s : number_on 0 m ≡ (2 * x + b % 2) * 2 ^ length z + number_on 0 z =
    ap (number_on 0) (split_at m j 0 (omega arith)) ∙ number_append 0 (take j m) (b ∷ z) ∙ number_acc (2 * x + b % 2) z
    in
    ap₂ (λ (y k : ℕ). y / 2 ^ k % 2) s (sym n) ∙ ap (λ (y : ℕ). y % 2) (high (2 * x + b % 2) (length z) (number_lt z)) ∙ omega arith

-- ---- the bits of a word, the last one apart
pub in_suc : (n w : ℕ) → bits_in (suc n) w ≡ bits_in n (w / 2) ++ (w % 2 ∷ [])
unfolding bits_in cells
in_suc n w =
    let same : cells n (λ i. w / 2 ^ (suc n - 1 - i) % 2) ≡ bits_in n (w / 2) =
    cells_same n (λ i. w / 2 ^ (suc n - 1 - i) % 2) (λ i. w / 2 / 2 ^ (n - 1 - i) % 2)
    (λ i h. let k : suc n - 1 - i ≡ 1 + (n - 1 - i) = omega arith in ap (λ (j : ℕ). w / 2 ^ j % 2) k ∙ ap (λ (x : ℕ). x % 2) (sym (shr-shr w 1 (n - 1 - i))))
    in
    let z : suc n - 1 - n ≡ 0 = omega arith in
    ap₂ (λ (l : List ℕ) (x : ℕ). l ++ (x ∷ [])) same (ap (λ (j : ℕ). w / 2 ^ j % 2) z ∙ ap (λ (x : ℕ). x % 2) (div-one w))

-- the number that they make
pub bits_number : (n w : ℕ) → number_on 0 (bits_in n w) ≡ w % 2 ^ n
unfolding number_on bits_in cells
bits_number zero w = sym (mod-one w)
bits_number (suc n) w =
    let k : n + 1 ≡ suc n = omega arith in
    ap (number_on 0) (in_suc n w)
    ∙ number_append 0 (bits_in n (w / 2)) (w % 2 ∷ [])
    ∙ ap (λ (m : ℕ). 2 * m + w % 2 % 2) (bits_number n (w / 2))
    ∙ omega (arith, mod-pow-add w n 1)
    ∙ ap (λ (j : ℕ). w % 2 ^ j) k

-- ---- cut into groups of w, and back
module _ (w n : ℕ) (some : 0 < w) where
  -- place i is place i % w of group i / w, which lies in w * n bits
  group_of : (i : ℕ) → i < w * n → i / w < n
  group_of i h = (div-lt_iff_lt-mul some).1 (rw (mul_comm n w) h)

  group_ends : (q : ℕ) → q < n → w * q + w ≤ w * n
  group_ends q h = omega (arith, mul-le-mul_left w h, mul-suc w q)

  part_long : (b : List ℕ) (q : ℕ) → length b ≡ w * n → q < n → length (part b (w * q) w) ≡ w
  part_long b q e h = length-take-le w (drop (w * q) b) (omega (arith, length-drop (w * q) b, group_ends q h))

  -- the bits of the numbers that bits make
  pub groups_bits : (b : List ℕ) → length b ≡ w * n → ((i : ℕ) → i < w * n → get_or b i 0 < 2) → bits_of w (cells n (group_at w b)) ≡ b
  unfolding bit_of
  groups_bits b e small =
      let long : length (bits_of w (cells n (group_at w b))) ≡ w * n = length_bits w (cells n (group_at w b)) ∙ ap (λ (k : ℕ). w * k) (length_cells n (group_at w b)) in
      ext_get_or 0 (bits_of w (cells n (group_at w b))) b (long ∙ sym e) (λ i h. at i (rw long at h))
    where
      at : (i : ℕ) → i < w * n → get_or (bits_of w (cells n (group_at w b))) i 0 ≡ get_or b i 0
      at i h =
          let q = i / w in
          let j = i % w in
          let l : q < n = group_of i h in
          let k : j < w = mod-lt i some in
          get_or_bits w (cells n (group_at w b)) i (rw (length_cells n (group_at w b)) h)
          ∙ ap (λ (x : ℕ). x / 2 ^ (w - 1 - j) % 2) (get_or_cells n (group_at w b) q l)
          ∙ number_bit w (part b (w * q) w) j (part_long b q e l) k
          ∙ ap (λ (x : ℕ). x % 2) (get_or-take w (drop (w * q) b) j 0 k ∙ get_or-drop (w * q) b j 0 ∙ ap (λ (p : ℕ). get_or b p 0) (div-add-mod i w))
          ∙ mod-eq_of_lt (small i h)

  -- the numbers that the bits of numbers make
  pub bits_groups : (s : List ℕ) → length s ≡ n → ((q : ℕ) → q < n → get_or s q 0 < 2 ^ w) → cells n (group_at w (bits_of w s)) ≡ s
  unfolding bit_of
  bits_groups s e small =
      ext_get_or 0 (cells n (group_at w (bits_of w s))) s (length_cells n (group_at w (bits_of w s)) ∙ sym e)
      (λ q h. let l : q < n = rw (length_cells n (group_at w (bits_of w s))) at h in get_or_cells n (group_at w (bits_of w s)) q l ∙ number q l)
    where
      long : length (bits_of w s) ≡ w * n
      long = length_bits w s ∙ ap (λ (k : ℕ). w * k) e

      bit : (q j : ℕ) → q < n → j < w → get_or (part (bits_of w s) (w * q) w) j 0 ≡ get_or s q 0 / 2 ^ (w - 1 - j) % 2
      bit q j l k =
          let d : (w * q + j) / w ≡ q = mul-add-div some q j ∙ omega (arith, div-eq_of_lt k) in
          let m : (w * q + j) % w ≡ j = mul-add-mod_self_left w q j ∙ mod-eq_of_lt k in
          let i : w * q + j < w * length s = omega (arith, group_ends q l, ap (λ (t : ℕ). w * t) e) in
          get_or-take w (drop (w * q) (bits_of w s)) j 0 k
          ∙ get_or-drop (w * q) (bits_of w s) j 0
          ∙ get_or_bits w s (w * q + j) i
          ∙ ap₂ (λ (x y : ℕ). get_or s x 0 / 2 ^ (w - 1 - y) % 2) d m

      number : (q : ℕ) → q < n → group_at w (bits_of w s) q ≡ get_or s q 0
      number q l =
          let same : part (bits_of w s) (w * q) w ≡ bits_in w (get_or s q 0) =
          ext_get_or 0 (part (bits_of w s) (w * q) w) (bits_in w (get_or s q 0))
          (part_long (bits_of w s) q long l ∙ sym (length_in w (get_or s q 0)))
          (λ j h. let k : j < w = rw (part_long (bits_of w s) q long l) at h in bit q j l k ∙ sym (get_or_in w (get_or s q 0) j k))
          in
          ap (number_on 0) same ∙ bits_number w (get_or s q 0) ∙ mod-eq_of_lt (small q l)
