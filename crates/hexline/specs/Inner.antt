-- What this crate's private functions promise each other.
use Rattle.std.specs.Prelude.{ℕ, zero, suc, ◌+◌, ◌-◌, ◌<◌, ◌≡◌, length, List, [], ◌∷◌, Option, None, Some, drop, eqb}
use Rattle.octets.specs.Choice.{pick}
use Rattle.octets.specs.Octets.{unhex_at}
use Rattle.hexline.specs.Line.{size_of, place_from}

-- the octet of a piece, if it is one
unfoldable pub octet_of : List ℕ → Option ℕ
octet_of s = pick (eqb (size_of s) 1) None (Some (unhex_at (drop (size_of s - 2) s) 0))

-- the pieces of a line, each with what follows it, after k characters that are passed over
unfoldable pub pieces_from : ℕ → List ℕ → List (List ℕ)
pieces_from k [] = []
pieces_from (suc k) (x ∷ xs) = pieces_from k xs
pieces_from zero (x ∷ xs) = (x ∷ xs) ∷ pieces_from (size_of (x ∷ xs) - 1) xs

abbrev pub pieces_of : List ℕ → List (List ℕ)
pieces_of line = pieces_from 0 line

-- s is what is left of the line from the first character on that begins no piece
pub record Unread (line s : List ℕ) : Type 0 where
  pub place : place_from 0 line + length s ≡ length line
  pub some : 0 < length s
