-- A text in UTF-8 as UTF-16 units: RFC 3629, section 3, and RFC 2781, section 2.1. Of octets that are not UTF-8 these are
-- some units, which nobody asks for.
use Rattle.std.specs.Prelude.{ℕ, zero, suc, ◌+◌, ◌-◌, ◌*◌, ◌/◌, ◌%◌, List, [], ◌∷◌, ◌++◌, get_or, ltb, eqb}
use Rattle.octets.specs.Choice.{pick}
use Rattle.password.specs.Utf8.{size_of}

-- ---- the number of a character of octets a, b, c, d: 7 bits; 5 and 6; 4, 6 and 6; 3, 6, 6 and 6
unfoldable pub point_of_two : ℕ → ℕ → ℕ
point_of_two a b = a % 32 * 64 + b % 64

unfoldable pub point_of_three : ℕ → ℕ → ℕ → ℕ
point_of_three a b c = a % 16 * 4096 + b % 64 * 64 + c % 64

unfoldable pub point_of_four : ℕ → ℕ → ℕ → ℕ → ℕ
point_of_four a b c d = a % 8 * 262144 + b % 64 * 4096 + c % 64 * 64 + d % 64

unfoldable pub point_with : ℕ → ℕ → ℕ → ℕ → ℕ → ℕ
point_with n a b c d =
    pick (ltb n 2) a
    (pick (ltb n 3) (point_of_two a b)
    (pick (ltb n 4) (point_of_three a b c)
    (point_of_four a b c d)))

unfoldable pub point_of : ℕ → List ℕ → ℕ
point_of n s = point_with n (get_or s 0 0) (get_or s 1 0) (get_or s 2 0) (get_or s 3 0)

-- ---- its units: the number, or from 65,536 on two surrogates, each with ten bits of what is above it
unfoldable pub first_unit : ℕ → ℕ
first_unit p = pick (ltb p 65536) p (55296 + (p - 65536) / 1024)

unfoldable pub second_unit : ℕ → ℕ
second_unit p = 56320 + (p - 65536) % 1024

unfoldable pub units_of : ℕ → List ℕ
units_of p = pick (ltb p 65536) (first_unit p ∷ []) (first_unit p ∷ second_unit p ∷ [])

-- from a character of n octets to the next; where no character begins, one octet
unfoldable pub stride_of : ℕ → ℕ
stride_of n = pick (eqb n 0) 1 n

-- ---- the units of all characters, after k octets that are passed over
unfoldable pub units_after : ℕ → List ℕ → List ℕ
units_after k [] = []
units_after (suc k) (x ∷ xs) = units_after k xs
units_after zero (x ∷ xs) = units_of (point_of (size_of (x ∷ xs)) (x ∷ xs)) ++ units_after (stride_of (size_of (x ∷ xs)) - 1) xs

unfoldable pub utf16 : List ℕ → List ℕ
utf16 s = units_after 0 s
