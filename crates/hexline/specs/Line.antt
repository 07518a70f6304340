-- A line of text as octets. It is pieces end to end: an octet, which is two hex digits of either case; an octet with `0x` or `0X`
-- directly before it; a blank (space, tab, carriage return) or a colon.
use Rattle.std.specs.Prelude.{ℕ, zero, suc, ◌-◌, List, [], ◌∷◌, ◌++◌, Bool, true, ◌&&◌, ◌||◌, length, get_or, drop, ltb, eqb, Result, Ok, Err}
use Rattle.octets.specs.Choice.{pick}
use Rattle.octets.specs.Lists.{over}
use Rattle.octets.specs.Octets.{stands_at, hex_stands, unhex_at}
use Rattle.hexline.specs.declared.HexError.{HexError}
use Rattle.hexline.specs.declared.HexError.TheVariants.{BadAt, TooMany}

-- ---- the piece at the front of a line
-- space, tab, carriage return, colon
unfoldable pub is_gap : ℕ → Bool
is_gap x = eqb x 32 || (eqb x 9 || (eqb x 13 || eqb x 58))

-- `0x` or `0X`
unfoldable pub has_mark : List ℕ → Bool
has_mark s = stands_at s 0 (48 ∷ 120 ∷ []) || stands_at s 0 (48 ∷ 88 ∷ [])

-- how long it is: an octet 2, and 4 with its mark; else 1, which has to be a blank or a colon
unfoldable pub size_of : List ℕ → ℕ
size_of s = pick (hex_stands true s 0 2) 2 (pick (has_mark s && hex_stands true s 2 2) 4 1)

unfoldable pub is_piece : List ℕ → Bool
is_piece s = pick (eqb (size_of s) 1) (is_gap (get_or s 0 0)) true

-- the octet of its last two digits, if it is one
unfoldable pub octet_in : List ℕ → List ℕ
octet_in s = pick (eqb (size_of s) 1) [] (unhex_at (drop (size_of s - 2) s) 0 ∷ [])

-- ---- a line, after k characters that are passed over
-- its octets
unfoldable pub octets_from : ℕ → List ℕ → List ℕ
octets_from k [] = []
octets_from (suc k) (x ∷ xs) = octets_from k xs
octets_from zero (x ∷ xs) = octet_in (x ∷ xs) ++ octets_from (size_of (x ∷ xs) - 1) xs

-- the place of the first character that begins no piece, or the end
unfoldable pub place_from : ℕ → List ℕ → ℕ
place_from k [] = 0
place_from (suc k) (x ∷ xs) = suc (place_from k xs)
place_from zero (x ∷ xs) = pick (is_piece (x ∷ xs)) (suc (place_from (size_of (x ∷ xs) - 1) xs)) 0

-- ---- what is answered, where there is room for so many octets, and what is left in their place
abbrev pub octets_of : List ℕ → List ℕ
octets_of line = octets_from 0 line

unfoldable pub parsed_of : ℕ → List ℕ → Result ℕ HexError
parsed_of room line =
    pick (ltb (place_from 0 line) (length line)) (Err (BadAt (place_from 0 line)))
    (pick (ltb room (length (octets_of line))) (Err TooMany)
    (Ok (length (octets_of line))))

abbrev pub left : Result ℕ HexError → List ℕ → List ℕ → List ℕ
left (Ok n) line out = over (octets_of line) out
left (Err why) line out = out
