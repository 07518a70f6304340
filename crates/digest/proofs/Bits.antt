-- Words turned and chosen as the code does it.
use Rattle.std.proofs.Common.{◌≡◌, ℕ, zero, suc, ◌-◌, ◌*◌, ◌/◌, ◌%◌, ◌^◌, ◌<◌, refl, pow-suc, arith}
use lib.Bits.{bit_and, bit_or, bit_xor, and_shr, or_shr, xor_shr, and_mod, or_mod, xor_mod}
use mir.Syntax.{w32}
use Rattle.std.specs.Int.{rotate_left}
use Rattle.digest.specs.Words.{rotl, choose}

-- the method's rotation is the standards'
pub rotl_is : (x s : ℕ) → 0 < s → s < 32 → rotate_left w32 x s ≡ rotl s x
rotl_is x s h k =
    let d : s % 32 ≡ s = omega arith in
    let e : (32 - s % 32) % 32 ≡ 32 - s = omega arith in
    λ i. bit_or ((x * 2 ^ d i) % 2 ^ 32) (x / 2 ^ e i)

-- ---- each bit of x chooses a bit of y or z, ones being the number whose bits are all set
abbrev Chosen : ℕ → ℕ → ℕ → ℕ → Type 0
Chosen ones x y z = bit_xor z (bit_and x (bit_xor y z)) ≡ bit_or (bit_and x y) (bit_and (ones - x) z)

bit : (P : ℕ → Type 0) → P 0 → P 1 → (x : ℕ) → x < 2 → P x
bit P p q zero h = p
bit P p q (suc zero) h = q
bit P p q (suc (suc x)) h = absurd (omega arith)

chosen_bit : (x y z : ℕ) → x < 2 → y < 2 → z < 2 → Chosen 1 x y z
chosen_bit x y z h i j = bit (λ a. Chosen 1 a y z) (by 0 refl refl refl refl) (by 1 refl refl refl refl) x h
  where
    by : (a : ℕ) → Chosen 1 a 0 0 → Chosen 1 a 0 1 → Chosen 1 a 1 0 → Chosen 1 a 1 1 → Chosen 1 a y z
    by a p q r s = bit (λ b. Chosen 1 a b z) (bit (Chosen 1 a 0) p q z j) (bit (Chosen 1 a 1) r s z j) y i

chosen : (k x y z : ℕ) → x < 2 ^ k → y < 2 ^ k → z < 2 ^ k → Chosen (2 ^ k - 1) x y z
chosen zero x y z h i j =
    let a : x ≡ 0 = omega arith in
    let b : z ≡ 0 = omega arith in
    rw (a, b) refl
chosen (suc k) x y z h i j =
    let p = pow-suc 2 k in
    let n : (2 ^ suc k - 1 - x) / 2 ≡ 2 ^ k - 1 - x / 2 = omega arith in
    let m : (2 ^ suc k - 1 - x) % 2 ≡ 1 - x % 2 = omega arith in
    halves _ _
    (rw (xor_shr _ _ 1, and_shr _ _ 1, xor_shr y z 1, or_shr _ _ 1, and_shr x y 1, and_shr _ z 1, n) (chosen k (x / 2) (y / 2) (z / 2) (omega arith) (omega arith) (omega arith)))
    (rw (xor_mod _ _ 1, and_mod _ _ 1, xor_mod y z 1, or_mod _ _ 1, and_mod x y 1, and_mod _ z 1, m) (chosen_bit (x % 2) (y % 2) (z % 2) (omega arith) (omega arith) (omega arith)))
  where
    halves : (a b : ℕ) → a / 2 ≡ b / 2 → a % 2 ≡ b % 2 → a ≡ b
    halves a b h k = omega arith

pub choose_is : (x y z : ℕ) → x < 2 ^ 32 → y < 2 ^ 32 → z < 2 ^ 32 → bit_xor z (bit_and x (bit_xor y z)) ≡ choose x y z
choose_is = chosen 32
