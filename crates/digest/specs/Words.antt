-- Words of 32 bits, as numbers below 2 ^ 32 (RFC 1320, 2; FIPS 180-1, 3).
use Rattle.std.specs.Prelude.{ℕ, ◌+◌, ◌-◌, ◌*◌, ◌/◌, ◌%◌, ◌^◌, bit_and, bit_or, bit_xor}

-- X + Y, the sum modulo 2 ^ 32
abbrev pub plus : ℕ → ℕ → ℕ
plus x y = (x + y) % 2 ^ 32

-- X <<< s, or S^s(X): the circular shift to the left by s places, s below 32
abbrev pub rotl : ℕ → ℕ → ℕ
rotl s x = bit_or ((x * 2 ^ s) % 2 ^ 32) (x / 2 ^ (32 - s))

-- not(X)
abbrev pub complement : ℕ → ℕ
complement x = (2 ^ 32 - 1) - x

-- ---- the functions of three words that both digests have (RFC 1320, 3.4: F, G and H; FIPS 180-1, 5)
-- XY v not(X) Z: each bit of x chooses a bit of y or z
abbrev pub choose : ℕ → ℕ → ℕ → ℕ
choose x y z = bit_or (bit_and x y) (bit_and (complement x) z)

-- XY v XZ v YZ: the bit that two of the three have
abbrev pub majority : ℕ → ℕ → ℕ → ℕ
majority x y z = bit_or (bit_or (bit_and x y) (bit_and x z)) (bit_and y z)

-- X xor Y xor Z
abbrev pub parity : ℕ → ℕ → ℕ → ℕ
parity x y z = bit_xor (bit_xor x y) z
