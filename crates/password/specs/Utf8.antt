-- RFC 3629, section 4: the octets of a text in UTF-8.
use Rattle.std.specs.Prelude.{ℕ, zero, suc, ◌-◌, List, [], ◌∷◌, Bool, true, false, not, get_or, ltb, eqb}
use Rattle.octets.specs.Choice.{pick}

-- how many octets a character has by its first octet: 00-7F, C2-DF, E0-EF, F0-F4; 0 where no character begins
unfoldable pub size_by : ℕ → ℕ
size_by a =
    pick (ltb a 128) 1
    (pick (ltb a 194) 0
    (pick (ltb a 224) 2
    (pick (ltb a 240) 3
    (pick (ltb a 245) 4 0))))

unfoldable pub within : ℕ → ℕ → ℕ → Bool
within low high x = pick (ltb x low) false (pick (ltb high x) false true)

-- the second octet after a: "E0 A0-BF", "F0 90-BF", "ED 80-9F", "F4 80-8F", and else 80-BF
unfoldable pub lowest : ℕ → ℕ
lowest a = pick (eqb a 224) 160 (pick (eqb a 240) 144 128)

unfoldable pub highest : ℕ → ℕ
highest a = pick (eqb a 237) 159 (pick (eqb a 244) 143 191)

-- "UTF8-tail = %x80-BF"
unfoldable pub is_tail : ℕ → Bool
is_tail x = within 128 191 x

-- a character of n octets, the first four of them a, b, c, d (0 past the end): n, or 0 where they break the form
unfoldable pub size_with : ℕ → ℕ → ℕ → ℕ → ℕ → ℕ
size_with n a b c d =
    pick (ltb n 2) n
    (pick (not (within (lowest a) (highest a) b)) 0
    (pick (ltb n 3) n
    (pick (not (is_tail c)) 0
    (pick (ltb n 4) n
    (pick (not (is_tail d)) 0 n)))))

-- the size of the character that s begins with; 0 where it begins with none
unfoldable pub size_of : List ℕ → ℕ
size_of s = size_with (size_by (get_or s 0 0)) (get_or s 0 0) (get_or s 1 0) (get_or s 2 0) (get_or s 3 0)

-- whether characters stand end to end, after k octets that are passed over
unfoldable pub formed_after : ℕ → List ℕ → Bool
formed_after k [] = true
formed_after (suc k) (x ∷ xs) = formed_after k xs
formed_after zero (x ∷ xs) = pick (eqb (size_of (x ∷ xs)) 0) false (formed_after (size_of (x ∷ xs) - 1) xs)

unfoldable pub is_utf8 : List ℕ → Bool
is_utf8 s = formed_after 0 s
