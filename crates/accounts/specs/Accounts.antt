-- 01, "Account table": the account table, and the account of a user.
use Rattle.std.specs.Prelude.{ℕ, ◌+◌, List, [], ◌∷◌, Bool, true, false, not, ◌||◌, Option, Some, None, Result, Ok, Err, length, drop, ltb, eqb}
use Rattle.octets.specs.Choice.{pick}
use Rattle.octets.specs.Lists.{part}
use Rattle.octets.specs.Octets.{number_at, same}
use Rattle.octets.specs.declared.Order.TheVariants.{Little}
use Rattle.answer.specs.declared.Refusal.{Refusal}
use Rattle.answer.specs.declared.Refusal.TheVariants.{BadTable}
use Rattle.answer.specs.Outcome.{Told, gives, refuses}
use Rattle.answer.specs.Results.{told_by}
use Rattle.answer.specs.Sizes.{max_name}
use Rattle.accounts.specs.Records.{kind_of, records, sound}
use Rattle.accounts.specs.declared.Account.{Account}

-- ---- well formed
-- "Kind 1: code (2 octets little-endian: 0, 646, 647, 648 or 649), hash 16, name; record length 22 to 278"
abbrev pub code_of : List ℕ → ℕ
code_of r = number_at Little r 4

abbrev pub hash_of : List ℕ → List ℕ
hash_of r = part r 6 16

abbrev pub record_name : List ℕ → List ℕ
record_name r = drop 22 r

unfoldable pub is_code : ℕ → Bool
is_code c = eqb c 0 || (eqb c 646 || (eqb c 647 || (eqb c 648 || eqb c 649)))

unfoldable pub account_good : List ℕ → Bool
account_good r = pick (ltb (length r) 22) false (pick (ltb 278 (length r)) false (is_code (code_of r)))

-- the test of a record by its kind: "Other kinds are skipped"
unfoldable pub record_good : List ℕ → Bool
record_good r = pick (eqb (kind_of r) 1) (account_good r) true

-- "Lent octets, 0 to 65,536 (more is malformed), records end to end. .. Anything else, at any record, is malformed."
unfoldable pub well_formed : List ℕ → Bool
well_formed t = pick (ltb 65536 (length t)) false (sound record_good t)

-- ---- "The account of a user is the first kind-1 record whose name equals the user octet for octet."
unfoldable pub is_account_of : List ℕ → List ℕ → Bool
is_account_of user r = pick (eqb (kind_of r) 1) (same (record_name r) user) false

-- a record, and its place: where its first octet stands in the table
pub record Placed : Type 0 where
  pub place : ℕ
  pub octets : List ℕ

abbrev pub placed : ℕ → List ℕ → Placed
placed at r = record { place = at; octets = r }

-- of records end to end from the place `at`: the first that is an account of the user; no octets, at their end, where none is
unfoldable pub first_from : ℕ → List ℕ → List (List ℕ) → Placed
first_from at user [] = placed at []
first_from at user (r ∷ rs) = pick (is_account_of user r) (placed at r) (first_from (at + length r) user rs)

unfoldable pub account_of : List ℕ → List ℕ → Placed
account_of t user = first_from 0 user (records t)

abbrev pub record_of : List ℕ → List ℕ → List ℕ
record_of t user = (account_of t user).octets

-- ---- what the calls answer, by 01, "What a call answers"
-- 21, and else 0
unfoldable pub check_number : List ℕ → ℕ
check_number t = pick (not (well_formed t)) 21 0

-- no account, or one: its code, and where in the table its hash begins
pub data Lookup : Type 0 where
  absent : Lookup
  account : (code hash : ℕ) → Lookup

unfoldable pub lookup_of : List ℕ → Placed → Lookup
lookup_of user e = pick (is_account_of user e.octets) (account (code_of e.octets) (e.place + 6)) absent

-- the same as plain values: the account's code and place, or zeros; a refusal where the table is not well formed
abbrev pub looked : ℕ → ℕ → Account
looked code hash = record { code = code; hash = hash }

abbrev pub looked_in : Lookup → Account
looked_in absent = looked 0 0
looked_in (account code hash) = looked code hash

unfoldable pub looked_of : List ℕ → List ℕ → Result Account Refusal
looked_of t user = pick (well_formed t) (Ok (looked_in (lookup_of user (account_of t user)))) (Err BadTable)

-- 21, then 23 for a user of more than 256 octets, and else 0 with the account or none
unfoldable pub find_told : List ℕ → List ℕ → Told Lookup
find_told t user =
    pick (not (well_formed t)) (refuses 21 absent)
    (pick (ltb max_name (length user)) (refuses 23 absent)
    (gives (lookup_of user (account_of t user))))

abbrev pub found_in : Option Account → Lookup
found_in None = absent
found_in (Some a) = account a.code a.hash

abbrev pub told_found : Result (Option Account) Refusal → Told Lookup
told_found r = told_by found_in absent r
