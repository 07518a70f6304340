-- Words stand for their bits: cut, joined and added.
use Prim.Native.Nat.{ℕ, zero, suc, ◌+◌, ◌-◌, ◌*◌, ◌/◌, ◌%◌, ◌^◌, ◌<◌, ◌≤◌}
use native.Mathlib.Nat.{le_of_suc-le-suc, not-suc-le-zero, suc_inj, pow-suc, mul-one, mul-add, mul_comm, mod-lt, mod-eq_of_lt, div-one, div-eq_of_lt, div-lt_iff_lt-mul, mul-add-div, mul-add-mod_self_left}
use native.Mathlib.Omega.{arith}
use mathlib.Core.Path.{◌≡◌, refl, sym, ap, ap₂, ◌∙◌}
use mathlib.Core.List.{List, [], ◌∷◌, ◌++◌, append_assoc, append-nil}
use lib.Bits.{bit_xor, block_half, block_odd, xor_add_and, xor_shr}
use lib.Pow.{pow_pos, split, shr-shr}
use lib.ListN.{length, get_or, drop, length-append, length-drop, get_or-append}
use lib.Seq.{length-take-le, get_or-take, get_or-drop, get_or-append-add, ext_get_or}
use Rattle.std.specs.Int.{to_be_bytes}
use mir.Syntax.{w64}
use Rattle.octets.specs.Lists.{cells, part}
use Rattle.octets.proofs.Lists.{cells_same}
use Rattle.des.specs.Bits.{bit_at, sum_of, xored, bit_of, bits_of, number_on, group_at}
use Rattle.des.specs.Inner.{bits_in}
use Rattle.des.specs.Keys.{with_parity, key_octet}
use Rattle.des.proofs.Numbers.{length_in, get_or_in, in_suc, bits_number}

-- bit k, counted from 1
pub bit_in : (n w k : ℕ) → 0 < k → k ≤ n → w / 2 ^ (n - k) % 2 ≡ bit_at (bits_in n w) k
bit_in n w zero p h = absurd (omega arith)
bit_in n w (suc k) p h =
    let e : n - suc k ≡ n - 1 - k = omega arith in
    ap (λ (j : ℕ). w / 2 ^ j % 2) e ∙ sym (get_or_in n w k (omega arith))

-- ---- two words in one
pub in_append : (m n a b : ℕ) → b < 2 ^ n → bits_in (m + n) (a * 2 ^ n + b) ≡ bits_in m a ++ bits_in n b
unfolding bits_in cells
in_append m zero a b h =
    let k : m + 0 ≡ m = omega arith in
    let x : a * 1 + b ≡ a = omega arith in
    ap₂ bits_in k x ∙ sym (append-nil (bits_in m a))
in_append m (suc n) a b h =
    let k : m + suc n ≡ suc (m + n) = omega arith in
    let x = a * 2 ^ suc n + b in
    ap (λ (j : ℕ). bits_in j x) k
    ∙ in_suc (m + n) x
    ∙ ap₂ (λ (y z : ℕ). bits_in (m + n) y ++ (z ∷ [])) (block_half a n b) (block_odd a n b)
    ∙ ap (λ (l : List ℕ). l ++ (b % 2 ∷ [])) (in_append m n a (b / 2) (omega (arith, pow-suc 2 n)))
    ∙ append_assoc (bits_in m a) (bits_in n (b / 2)) (b % 2 ∷ [])
    ∙ ap (λ (l : List ℕ). bits_in m a ++ l) (sym (in_suc n b))

pub in_split : (m n w : ℕ) → bits_in (m + n) w ≡ bits_in m (w / 2 ^ n) ++ bits_in n (w % 2 ^ n)
in_split m n w = ap (bits_in (m + n)) (sym (split w n)) ∙ in_append m n (w / 2 ^ n) (w % 2 ^ n) (mod-lt w (pow_pos n))

-- ---- the sum
length_xored : (a b : List ℕ) → length a ≡ length b → length (xored a b) ≡ length a
unfolding xored
length_xored [] b e = refl
length_xored (x ∷ a) [] e = absurd (omega arith)
length_xored (x ∷ a) (y ∷ b) e = ap suc (length_xored a b (suc_inj e))

get_or_xored : (a b : List ℕ) (i : ℕ) → length a ≡ length b → i < length a → get_or (xored a b) i 0 ≡ sum_of (get_or a i 0) (get_or b i 0)
unfolding xored
get_or_xored [] b i e h = absurd (not-suc-le-zero h)
get_or_xored (x ∷ a) [] i e h = absurd (omega arith)
get_or_xored (x ∷ a) (y ∷ b) zero e h = refl
get_or_xored (x ∷ a) (y ∷ b) (suc i) e h = get_or_xored a b i (suc_inj e) (le_of_suc-le-suc h)

pub in_xor : (n a b : ℕ) → bits_in n (bit_xor a b) ≡ xored (bits_in n a) (bits_in n b)
in_xor n a b =
    let l : length (bits_in n a) ≡ length (bits_in n b) = length_in n a ∙ sym (length_in n b) in
    let m : length (xored (bits_in n a) (bits_in n b)) ≡ n = length_xored (bits_in n a) (bits_in n b) l ∙ length_in n a in
    ext_get_or 0 (bits_in n (bit_xor a b)) (xored (bits_in n a) (bits_in n b)) (length_in n (bit_xor a b) ∙ sym m)
    (λ i h.
    let k : i < n = rw (length_in n (bit_xor a b)) at h in
    get_or_in n (bit_xor a b) i k
    ∙ xor_bit a b (n - 1 - i)
    ∙ sym (get_or_xored (bits_in n a) (bits_in n b) i l (rw (length_in n a) k) ∙ ap₂ sum_of (get_or_in n a i k) (get_or_in n b i k)))
  where
    xor_bit : (a b k : ℕ) → bit_xor a b / 2 ^ k % 2 ≡ sum_of (a / 2 ^ k % 2) (b / 2 ^ k % 2)
    xor_bit a b k = ap (λ (x : ℕ). x % 2) (xor_shr a b k) ∙ omega (arith, xor_add_and (a / 2 ^ k) (b / 2 ^ k))

-- ---- number n of the numbers of w bits
group_in : (m w n k x : ℕ) → w * n + w + k ≡ m → group_at w (bits_in m x) n ≡ x / 2 ^ k % 2 ^ w
group_in m w n k x e =
    let l : length (part (bits_in m x) (w * n) w) ≡ w = length-take-le w (drop (w * n) (bits_in m x)) (omega (arith, length-drop (w * n) (bits_in m x), length_in m x)) in
    let same : part (bits_in m x) (w * n) w ≡ bits_in w (x / 2 ^ k) =
    ext_get_or 0 (part (bits_in m x) (w * n) w) (bits_in w (x / 2 ^ k)) (l ∙ sym (length_in w (x / 2 ^ k)))
    (λ j h.
    let i : j < w = rw l at h in
    let p : m - 1 - (w * n + j) ≡ k + (w - 1 - j) = omega arith in
    get_or-take w (drop (w * n) (bits_in m x)) j 0 i
    ∙ get_or-drop (w * n) (bits_in m x) j 0
    ∙ get_or_in m x (w * n + j) (omega arith)
    ∙ ap (λ (t : ℕ). x / 2 ^ t % 2) p
    ∙ ap (λ (t : ℕ). t % 2) (sym (shr-shr x k (w - 1 - j)))
    ∙ sym (get_or_in w (x / 2 ^ k) j i))
    in
    ap (number_on 0) same ∙ bits_number w (x / 2 ^ k)

pub octet_at_lem : (w i : ℕ) → i < 8 → w / 2 ^ (56 - 8 * i) % 256 ≡ group_at 8 (bits_in 64 w) i
octet_at_lem w i h = sym (group_in 64 8 i (56 - 8 * i) w (omega arith))

pub be_octets : (w : ℕ) → to_be_bytes w64 w ≡ cells 8 (group_at 8 (bits_in 64 w))
unfolding cells
be_octets w =
    let at : (i : ℕ) → i < 8 → w / 2 ^ (56 - 8 * i) % 256 ≡ group_at 8 (bits_in 64 w) i = octet_at_lem w in
    let last : w % 256 ≡ group_at 8 (bits_in 64 w) 7 = ap (λ (x : ℕ). x % 256) (sym (div-one w)) ∙ at 7 (omega arith) in
    λ i. at 0 (omega arith) i ∷ at 1 (omega arith) i ∷ at 2 (omega arith) i ∷ at 3 (omega arith) i ∷ at 4 (omega arith) i ∷ at 5 (omega arith) i ∷ at 6 (omega arith) i ∷ last i ∷ []

seven_at : (w i : ℕ) → i < 8 → w / 2 ^ (49 - 7 * i) % 128 ≡ group_at 7 (bits_in 56 w) i
seven_at w i h = sym (group_in 56 7 i (49 - 7 * i) w (omega arith))

pub parity_at : (w i r : ℕ) → i < 8 → r ≡ with_parity (w / 2 ^ (49 - 7 * i) % 128) → r ≡ key_octet (bits_in 56 w) i
parity_at w i r h e = e ∙ ap with_parity (seven_at w i h)

pub six_at : (w n : ℕ) → n < 8 → w / 2 ^ (42 - 6 * n) % 64 ≡ group_at 6 (bits_in 48 w) n
six_at w n h = sym (group_in 48 6 n (42 - 6 * n) w (omega arith))

-- ---- the bits of numbers, one after the other
pub cells_append : (a b : ℕ) (f : ℕ → ℕ) → cells (a + b) f ≡ cells a f ++ cells b (λ j. f (a + j))
unfolding cells
cells_append a zero f =
    let e : a + 0 ≡ a = omega arith in
    ap (λ (k : ℕ). cells k f) e ∙ sym (append-nil (cells a f))
cells_append a (suc b) f =
    let e : a + suc b ≡ suc (a + b) = omega arith in
    ap (λ (k : ℕ). cells k f) e
    ∙ ap (λ (l : List ℕ). l ++ (f (a + b) ∷ [])) (cells_append a b f)
    ∙ append_assoc (cells a f) (cells b (λ j. f (a + j))) (f (a + b) ∷ [])

pub of_one : (w x : ℕ) → 0 < w → bits_of w (x ∷ []) ≡ bits_in w x
unfolding bits_of bit_of bits_in
of_one w x some =
    ap (λ (k : ℕ). cells k (bit_of w (x ∷ []))) (mul-one w)
    ∙ cells_same w (bit_of w (x ∷ [])) (λ i. x / 2 ^ (w - 1 - i) % 2)
    (λ i h. ap₂ (λ (q r : ℕ). get_or (x ∷ []) q 0 / 2 ^ (w - 1 - r) % 2) (div-eq_of_lt h) (mod-eq_of_lt h))

pub of_append : (w : ℕ) (s t : List ℕ) → 0 < w → bits_of w (s ++ t) ≡ bits_of w s ++ bits_of w t
unfolding bits_of bit_of
of_append w s t some =
    let n = length s in
    ap (λ (k : ℕ). cells k (bit_of w (s ++ t))) (ap (λ (k : ℕ). w * k) (length-append s t) ∙ mul-add w n (length t))
    ∙ cells_append (w * n) (w * length t) (bit_of w (s ++ t))
    ∙ ap₂ (λ (a b : List ℕ). a ++ b)
    (cells_same (w * n) (bit_of w (s ++ t)) (bit_of w s)
    (λ i h.
    let q : i / w < n = (div-lt_iff_lt-mul some).1 (rw (mul_comm n w) h) in
    ap (λ (x : ℕ). x / 2 ^ (w - 1 - i % w) % 2) (get_or-append s t 0 (i / w) q)))
    (cells_same (w * length t) (λ j. bit_of w (s ++ t) (w * n + j)) (bit_of w t)
    (λ j h.
    ap₂ (λ (q r : ℕ). get_or (s ++ t) q 0 / 2 ^ (w - 1 - r) % 2) (mul-add-div some n j) (mul-add-mod_self_left w n j)
    ∙ ap (λ (x : ℕ). x / 2 ^ (w - 1 - j % w) % 2) (get_or-append-add s t (j / w) 0)))
