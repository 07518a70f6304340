-- 01, "Response arithmetic": "every one of their 32 rows holds each of 0 to 15 once".
use Rattle.std.specs.Prelude.{ℕ, ◌+◌, ◌*◌, ◌/◌, ◌<◌, ◌≡◌, List, [], ◌∷◌, eqb, length, get_or}
use Rattle.octets.specs.Choice.{pick}
use Rattle.octets.specs.Lists.{part}
use Rattle.des.specs.Tables.{s_table}

-- how often v stands in a list
unfoldable pub count : ℕ → List ℕ → ℕ
count v [] = 0
count v (x ∷ xs) = pick (eqb v x) 1 0 + count v xs

-- row r of the 32
unfoldable pub row_of : ℕ → List ℕ
row_of r = part s_table (16 * r) 16

-- a permutation of 0 to 15
pub record Permutation (row : List ℕ) : Type 0 where
  pub long : length row ≡ 16
  pub each : (v : ℕ) → v < 16 → count v row ≡ 1

abbrev pub RowsPermute : Type 0
RowsPermute = (r : ℕ) → r < 32 → Permutation (row_of r)

-- v was looked up at a place of the table: it is below 16, and no other number of its row is the same
pub record LookedUp (place v : ℕ) : Type 0 where
  pub is : v ≡ get_or s_table place 0
  pub small : v < 16
  pub once : count v (row_of (place / 16)) ≡ 1
