-- 01, "Response arithmetic": the user of a name.
use Rattle.std.specs.Prelude.{ℕ, suc, List, [], ◌∷◌, eqb, drop}
use Rattle.octets.specs.Choice.{pick}

-- the place after the first backslash of octets that stand from i on; 0 where there is none
unfoldable pub start_from : ℕ → List ℕ → ℕ
start_from i [] = 0
start_from i (x ∷ xs) = pick (eqb x 92) (suc i) (start_from (suc i) xs)

-- where the user begins in a name
unfoldable pub user_start : List ℕ → ℕ
user_start name = start_from 0 name

-- "the Response name after its first backslash, or all of it if it has none"
unfoldable pub user_of : List ℕ → List ℕ
user_of name = drop (user_start name) name
