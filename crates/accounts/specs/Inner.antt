-- What this crate's private functions promise each other.
use Rattle.std.specs.Prelude.{ℕ, ◌≡◌, ◌+◌, List, [], ◌∷◌, true, false, not, ◌&&◌, Result, Ok, Err, length, take, replicate, eqb}
use Rattle.octets.specs.Choice.{pick}
use Rattle.octets.specs.Lists.{put}
use Rattle.answer.specs.declared.Refusal.{Refusal}
use Rattle.answer.specs.declared.Refusal.TheVariants.{BadTable}
use Rattle.accounts.specs.Records.{length_of, framed, records}
use Rattle.accounts.specs.Accounts.{code_of, record_good, well_formed, is_account_of, Lookup, absent, account}
use Rattle.accounts.specs.declared.Account.{Account}

-- q is the record that l begins with, and keeps to its form
pub record IsFirst (l q : List ℕ) : Type 0 where
  pub framed : framed l ≡ true
  pub is : q ≡ take (length_of l) l
  pub good : record_good q ≡ true

-- l begins with no record that keeps to its form
abbrev pub IsNone : List ℕ → Type 0
IsNone l = (framed l && record_good (take (length_of l) l)) ≡ false

-- what a walk makes of the records rs, the first of which stands at `at`
unfoldable pub kept_from : {K : Type 0} → (K → ℕ → List ℕ → K) → K → ℕ → List (List ℕ) → K
kept_from keep k at [] = k
kept_from keep k at (r ∷ rs) = kept_from keep (keep k at r) (at + length r) rs

unfoldable pub walked : {K : Type 0} → (K → ℕ → List ℕ → K) → K → List ℕ → Result K Refusal
walked keep k t = pick (well_formed t) (Ok (kept_from keep k 0 (records t))) (Err BadTable)

-- the account known before the record r, whose place is `at`, and else r's if it is the user's
abbrev pub kept : List ℕ → Account → ℕ → List ℕ → Account
kept user k at r = pick (not (is_account_of user r)) k (pick (eqb k.hash 0) (record { code = code_of r; hash = at + 6 }) k)

-- what a name is compared with: eight zeros, the user's octets, and zeros after them
unfoldable pub sought : List ℕ → List ℕ
sought user = put (replicate 264 0) 8 (take 256 user)

-- no bit for the eight octets before a name, and every bit for those of the name
unfoldable pub name_mask : List ℕ
name_mask = put (replicate 264 255) 0 (replicate 8 0)

-- what `look` gave, as a lookup: none where the place is 0
abbrev pub lookup_in : Account → Lookup
lookup_in a = pick (eqb a.hash 0) absent (account a.code a.hash)
