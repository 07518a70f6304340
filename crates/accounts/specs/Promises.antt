-- The table's definitions and calls are exactly the relations of Table; and what holds of accounts that are added.
use Rattle.std.specs.Prelude.{ℕ, ◌+◌, ◌<◌, ◌≤◌, ◌≡◌, true, false, Option, Result, List, ◌++◌, length, take}
use Rattle.octets.specs.Choice.{pick}
use Rattle.octets.specs.Lists.{part}
use Rattle.octets.specs.Octets.{same}
use Rattle.answer.specs.Outcome.{Outcome, outcome, refused, Does}
use Rattle.answer.specs.Promises.{Exactly}
use Rattle.answer.specs.Sizes.{max_name}
use Rattle.accounts.specs.Records.{records}
use Rattle.accounts.specs.Accounts.{is_code, well_formed, is_account_of, account_of, record_of, absent, account, lookup_of, check_number, find_told, told_found}
use Rattle.accounts.specs.Account.{account_record, max_table, append_in}
use Rattle.accounts.specs.declared.Account.{Account}
use Rattle.answer.specs.declared.Refusal.{Refusal}
use Rattle.accounts.specs.Table.{IsTable, Checks, Tells}

-- a well-formed table is good records end to end, and in one way alone
pub record TablesExact : Type 0 where
  pub does : (t : List ℕ) → well_formed t ≡ true → IsTable t (records t)
  pub only : (t : List ℕ) (rs : List (List ℕ)) → IsTable t rs → (well_formed t ≡ true) × (records t ≡ rs)

-- `check` answers this number
abbrev pub ChecksExact : Type 0
ChecksExact = (t : List ℕ) → Exactly (Checks t) (check_number t)

-- `find` tells this
abbrev pub LookupsExact : Type 0
LookupsExact = (t user : List ℕ) → Exactly (Tells t user) (find_told t user)

-- and two answers of `find` that tell the same are one answer
abbrev pub FoundApart : Type 0
FoundApart = (a b : Result (Option Account) Refusal) → told_found a ≡ told_found b → a ≡ b

-- ---- accounts that are added
-- what is found in a table with an account more: what was found before it, or else this account under its name
abbrev pub FoundIn : List ℕ → ℕ → List ℕ → List ℕ → Type 0
FoundIn t code name after =
    (user : List ℕ)
    → lookup_of user (account_of after user)
    ≡ pick (is_account_of user (record_of t user)) (lookup_of user (account_of t user)) (pick (same name user) (account code (length t + 6)) absent)

abbrev pub AddedFound : Type 0
AddedFound =
    (t : List ℕ) (code : ℕ) (hash name : List ℕ) → well_formed t ≡ true → length hash ≡ 16 → length name ≤ max_name → is_code code ≡ true
    → FoundIn t code name (t ++ account_record code hash name)

-- and its hash stands there
abbrev pub AddedHash : Type 0
AddedHash = (t : List ℕ) (code : ℕ) (hash name : List ℕ) → length hash ≡ 16 → part (t ++ account_record code hash name) (length t + 6) 16 ≡ hash

-- ---- `append`: the first `used` octets of a buffer are a well-formed table, and the arguments have a record
pub record Appending (buffer : List ℕ) (used code : ℕ) (name : List ℕ) : Type 0 where
  pub inside : used ≤ length buffer
  pub formed : well_formed (take used buffer) ≡ true
  pub known : is_code code ≡ true
  pub short : length name ≤ max_name

-- its answers: each where its condition holds and none before it does
pub data Appends (buffer : List ℕ) (used code : ℕ) (hash name : List ℕ) : Outcome (Unit {0}) → Type 0 where
  past : length buffer < used → Appends buffer used code hash name (refused 23 tt)
  malformed : used ≤ length buffer → well_formed (take used buffer) ≡ false → Appends buffer used code hash name (refused 21 tt)
  no_code : used ≤ length buffer → well_formed (take used buffer) ≡ true → is_code code ≡ false → Appends buffer used code hash name (refused 23 tt)
  long_name : used ≤ length buffer → well_formed (take used buffer) ≡ true → is_code code ≡ true → max_name < length name → Appends buffer used code hash name (refused 23 tt)
  no_table : Appending buffer used code name → max_table < length (take used buffer ++ account_record code hash name) → Appends buffer used code hash name (refused 20 tt)
  no_room : Appending buffer used code name → length (take used buffer ++ account_record code hash name) ≤ max_table → length buffer < length (take used buffer ++ account_record code hash name) →
      Appends buffer used code hash name (refused 20 tt)
  appends : Appending buffer used code name → length (take used buffer ++ account_record code hash name) ≤ max_table → length (take used buffer ++ account_record code hash name) ≤ length buffer →
      Appends buffer used code hash name (outcome 0 (take used buffer ++ account_record code hash name) tt)

abbrev pub AppendsExact : Type 0
AppendsExact = (buffer : List ℕ) (used code : ℕ) (hash name : List ℕ) → Exactly (Appends buffer used code hash name) (append_in buffer used code hash name)

-- a call that answered 0 and n made a table of n octets; before it the table had `used`. P tells of the two
abbrev pub Always : (List ℕ → ℕ → List ℕ → List ℕ → List ℕ → Type 0) → Type 0
Always P =
    (buffer after hash name : List ℕ) (used code n : ℕ) → length hash ≡ 16 → Does (append_in buffer used code hash name) 0 n tt buffer after
    → P (take used buffer) code hash name (take n after)

-- it is well formed
abbrev pub AppendedFormed : Type 0
AppendedFormed = Always (λ t code hash name after. well_formed after ≡ true)

-- every user has in it the account that it had before, or else the new one if it has its name
abbrev pub AppendedFound : Type 0
AppendedFound = Always (λ t code hash name after. FoundIn t code name after)

-- and the new one's hash stands there
abbrev pub AppendedHash : Type 0
AppendedHash = Always (λ t code hash name after. part after (length t + 6) 16 ≡ hash)
