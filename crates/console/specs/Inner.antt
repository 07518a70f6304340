-- What this crate's private functions promise each other: octets as a reader sees them.
use Rattle.std.specs.Prelude.{ℕ, ◌+◌, ◌*◌, ◌/◌, ◌%◌, ◌≡◌, List, [], ◌∷◌, ◌++◌, length, take, ltb, eqb}
use Rattle.octets.specs.Choice.{pick}
use Rattle.octets.specs.Octets.{hex_at}

-- ---- hex digits, two to an octet, with a space after each octet
unfoldable pub spaced_at : List ℕ → ℕ → ℕ
spaced_at s k = pick (eqb (k % 3) 2) 32 (hex_at s (k / 3 * 2 + k % 3))

-- ---- text: printable ASCII as it is, but with a backslash before a quotation mark and a backslash, and any other octet as
-- `\x` and two hex digits
abbrev pub escaped : ℕ → List ℕ
escaped x = 92 ∷ 120 ∷ hex_at (x ∷ []) 0 ∷ hex_at (x ∷ []) 1 ∷ []

unfoldable pub shown_plain : ℕ → List ℕ
shown_plain x = pick (eqb x 34) (92 ∷ x ∷ []) (pick (eqb x 92) (92 ∷ x ∷ []) (x ∷ []))

unfoldable pub shown_as : ℕ → List ℕ
shown_as x = pick (ltb x 32) (escaped x) (pick (ltb x 127) (shown_plain x) (escaped x))

unfoldable pub visible : List ℕ → List ℕ
visible [] = []
visible (x ∷ xs) = shown_as x ++ visible xs

-- the first n octets of a list are q
pub record Fronts (q octets : List ℕ) (n : ℕ) : Type 0 where
  pub front : take n octets ≡ q
  pub count : length q ≡ n
