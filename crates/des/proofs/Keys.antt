-- Every octet of a key has an odd number of ones, and the seven octets can be read back from the eight.
use Prim.Native.Nat.{ℕ, ◌+◌, ◌-◌, ◌*◌, ◌/◌, ◌%◌, ◌<◌}
use native.Mathlib.Nat.{mod-lt}
use native.Mathlib.Omega.{arith}
use mathlib.Core.Path.{◌≡◌, ap, ◌∙◌}
use mathlib.Core.List.{List}
use lib.Count.{ones, ones_step}
use lib.ListN.{length, get_or}
use Rattle.octets.specs.Lists.{cells}
use Rattle.octets.proofs.Lists.{length_cells, get_or_cells, cells_same}
use Rattle.des.specs.Bits.{bit_of, bits_of, group_at}
use Rattle.des.specs.Keys.{with_parity, key_octet, key_octets, seven_of, KeysEight, KeysOdd, KeysBack}
use Rattle.des.proofs.Numbers.{length_bits, get_or_bits, groups_bits, bits_groups}

-- the low bit b makes the number of ones odd
ones_low : (n b : ℕ) → b < 2 → ones (2 * n + b) ≡ b + ones n
ones_low n b h =
    let p : (2 * n + b) % 2 ≡ b = omega arith in
    let q : (2 * n + b) / 2 ≡ n = omega arith in
    ones_step (2 * n + b) ∙ λ i. p i + ones (q i)

parity_odd : (n : ℕ) → ones (with_parity n) % 2 ≡ 1
parity_odd n =
    let z : 2 * n ≡ 2 * n + 0 = omega arith in
    let e : ones (2 * n) ≡ 0 + ones n = ap ones z ∙ ones_low n 0 (omega arith) in
    let f : ones (with_parity n) ≡ 1 - ones (2 * n) % 2 + ones n = ones_low n (1 - ones (2 * n) % 2) (omega arith) in
    omega arith

parity_half : (n : ℕ) → with_parity n / 2 ≡ n
parity_half n = omega arith

pub length_key : KeysEight
unfolding key_octets
length_key k = length_cells 8 (key_octet (bits_of 8 k))

pub key_odd : KeysOdd
unfolding key_octets
key_odd k i h = ap (λ (x : ℕ). ones x % 2) (get_or_cells 8 (key_octet (bits_of 8 k)) i h) ∙ parity_odd (group_at 7 (bits_of 8 k) i)

pub key_back : KeysBack
unfolding key_octets seven_of bit_of
key_back k e small =
    let b = bits_of 8 k in
    let long : length b ≡ 56 = length_bits 8 k ∙ omega arith in
    let halves : cells 8 (λ i. get_or (key_octets k) i 0 / 2) ≡ cells 8 (group_at 7 b) =
    cells_same 8 (λ i. get_or (key_octets k) i 0 / 2) (group_at 7 b)
    (λ i h. ap (λ (x : ℕ). x / 2) (get_or_cells 8 (key_octet b) i h) ∙ parity_half (group_at 7 b i))
    in
    let bit : (i : ℕ) → i < 56 → get_or b i 0 < 2 = λ i h. rw (get_or_bits 8 k i (omega arith)) (mod-lt _ (omega arith)) in
    let same : bits_of 7 (cells 8 (λ i. get_or (key_octets k) i 0 / 2)) ≡ b = ap (bits_of 7) halves ∙ groups_bits 7 8 (omega arith) b long bit in
    ap (λ (l : List ℕ). cells 7 (group_at 8 l)) same ∙ bits_groups 8 7 (omega arith) k e small
