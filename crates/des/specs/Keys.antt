-- 01, "Response arithmetic": "Each key's 56 bits become eight octets of seven, and the low bit of each is set so that the octet has an odd
-- number of ones."
use Rattle.std.specs.Prelude.{ℕ, ◌+◌, ◌-◌, ◌*◌, ◌/◌, ◌%◌, ◌<◌, ◌≡◌, List, length, get_or}
use Rattle.std.specs.Int.Count.{ones}
use Rattle.octets.specs.Lists.{cells}
use Rattle.des.specs.Bits.{bits_of, group_at}

-- seven bits, and the low bit
abbrev pub with_parity : ℕ → ℕ
with_parity n = 2 * n + (1 - ones (2 * n) % 2)

-- octet i of the eight, from 56 bits
abbrev pub key_octet : List ℕ → ℕ → ℕ
key_octet bits i = with_parity (group_at 7 bits i)

unfoldable pub key_octets : List ℕ → List ℕ
key_octets k = cells 8 (key_octet (bits_of 8 k))

-- the seven octets that eight octets of seven bits hold, whatever their low bits
unfoldable pub seven_of : List ℕ → List ℕ
seven_of k = cells 7 (group_at 8 (bits_of 7 (cells 8 (λ i. get_or k i 0 / 2))))

-- ---- a key has eight octets, every one of which has an odd number of ones, and the seven octets can be read back
abbrev pub KeysEight : Type 0
KeysEight = (k : List ℕ) → length (key_octets k) ≡ 8

abbrev pub KeysOdd : Type 0
KeysOdd = (k : List ℕ) (i : ℕ) → i < 8 → ones (get_or (key_octets k) i 0) % 2 ≡ 1

abbrev pub KeysBack : Type 0
KeysBack = (k : List ℕ) → length k ≡ 7 → ((i : ℕ) → i < 7 → get_or k i 0 < 256) → seven_of (key_octets k) ≡ k
