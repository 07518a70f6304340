-- 01, "Account table": the record of an account, and a table with an account more.
use Rattle.std.specs.Prelude.{ℕ, ◌≡◌, ◌<◌, Option, Some, None, ◌+◌, ◌/◌, ◌%◌, List, [], ◌∷◌, ◌++◌, not, length, take, ltb}
use Rattle.octets.specs.Choice.{pick}
use Rattle.octets.specs.Lists.{Appended}
use Rattle.answer.specs.Outcome.{Outcome, outcome, refused, fitting}
use Rattle.answer.specs.Sizes.{max_name}
use Rattle.accounts.specs.Accounts.{is_code, well_formed}

-- "length (2 octets, little-endian, counting the whole record), kind (2 octets, little-endian) ..": kind 1, code
abbrev pub account_head : ℕ → ℕ → List ℕ
account_head l code = (l % 256) ∷ (l / 256) ∷ 1 ∷ 0 ∷ (code % 256) ∷ (code / 256) ∷ []

-- ".. code (2 octets little-endian ..), hash 16, name"
unfoldable pub account_record : ℕ → List ℕ → List ℕ → List ℕ
account_record code hash name = account_head (22 + length name) code ++ hash ++ name

-- no octets for what has no record: a code that is not one of the five, or a name of more than 256 octets
unfoldable pub record_for : ℕ → List ℕ → List ℕ → List ℕ
record_for code hash name = pick (not (is_code code)) [] (pick (ltb max_name (length name)) [] (account_record code hash name))

-- where the next record goes: none after one that was not appended
abbrev pub next_or : ℕ → Option ℕ → ℕ
next_or at None = at
next_or at (Some next) = next

-- the octets q were put into d from `at`, and r is the place after them; none where d stays as it is
pub record AppendedAt (d : List ℕ) (at : ℕ) (q : List ℕ) (r : Option ℕ) (after : List ℕ) : Type 0 where
  pub appended : Appended d at q (next_or at r) after
  pub further : (next : ℕ) → r ≡ Some next → at < next

-- ---- appending an account to the table t, in a buffer of room octets
abbrev pub max_table : ℕ
max_table = 65536

-- 20 where the longer table would be none ("0 to 65,536 (more is malformed)"), and where it is longer than the buffer
unfoldable pub grown : ℕ → List ℕ → ℕ → List ℕ → List ℕ → Outcome (Unit {0})
grown room t code hash name = fitting room tt (fitting max_table tt (outcome 0 (t ++ account_record code hash name) tt))

-- "know only 10 to 17, 21, 23, 20, in that order, and else answer 0 with their result": 23 for what has no record
unfoldable pub append_of : ℕ → List ℕ → ℕ → List ℕ → List ℕ → Outcome (Unit {0})
append_of room t code hash name =
    pick (not (well_formed t)) (refused 21 tt)
    (pick (not (is_code code)) (refused 23 tt)
    (pick (ltb max_name (length name)) (refused 23 tt)
    (grown room t code hash name)))

-- the table is the buffer's first octets, as many as are used: 23 before all else where the buffer has fewer
unfoldable pub append_in : List ℕ → ℕ → ℕ → List ℕ → List ℕ → Outcome (Unit {0})
append_in buffer used code hash name =
    pick (ltb (length buffer) used) (refused 23 tt) (append_of (length buffer) (take used buffer) code hash name)
