-- 01, "Account table", said by relations, with no walk over the octets.
use Rattle.std.specs.Prelude.{ℕ, ◌+◌, ◌<◌, ◌≤◌, ◌≡◌, true, length}
use mathlib.Core.List.{List, [], ◌∷◌, ◌++◌, flatten}
use Rattle.answer.specs.Outcome.{Told, gives, refuses}
use Rattle.answer.specs.Sizes.{max_name}
use Rattle.accounts.specs.Records.{length_of, kind_of}
use Rattle.accounts.specs.Accounts.{code_of, record_name, is_code, Placed, Lookup, absent, account}

pub data All {A : Type 0} (P : A → Type 0) : List A → Type 0 where
  none : All P []
  more : {x : A} {xs : List A} → P x → All P xs → All P (x ∷ xs)

-- ---- tables
-- "length (.. counting the whole record)", "length 4 or more"
pub record IsRecord (r : List ℕ) : Type 0 where
  pub least : 4 ≤ length r
  pub counted : length_of r ≡ length r

-- "code (.. 0, 646, 647, 648 or 649), hash 16, name; record length 22 to 278"
pub record IsAccount (r : List ℕ) : Type 0 where
  pub least : 22 ≤ length r
  pub most : length r ≤ 278
  pub code : is_code (code_of r) ≡ true

pub record IsGood (r : List ℕ) : Type 0 where
  pub form : IsRecord r
  pub account : kind_of r ≡ 1 → IsAccount r

-- t is well formed: "0 to 65,536", and the records rs "end to end"
pub record IsTable (t : List ℕ) (rs : List (List ℕ)) : Type 0 where
  pub size : length t ≤ 65536
  pub joined : t ≡ flatten rs
  pub good : All IsGood rs

-- ---- accounts
-- r is a "kind-1 record whose name equals the user"
pub record Names (user r : List ℕ) : Type 0 where
  pub kind : kind_of r ≡ 1
  pub name : record_name r ≡ user

abbrev pub NoneNames : List ℕ → List (List ℕ) → Type 0
NoneNames user rs = All (λ r. Names user r → ⊥) rs

-- of rs, end to end from the place `at`, e is the first that names the user
pub record FirstNames (user : List ℕ) (at : ℕ) (rs : List (List ℕ)) (e : Placed) : Type 0 where
  pub before : List (List ℕ)
  pub after : List (List ℕ)
  pub split : rs ≡ before ++ e.octets ∷ after
  pub none : NoneNames user before
  pub here : Names user e.octets
  pub place : e.place ≡ at + length (flatten before)

-- ---- what the calls answer: 21, then 23, and else 0
pub data Checks (t : List ℕ) : ℕ → Type 0 where
  checks_malformed : ((rs : List (List ℕ)) → IsTable t rs → ⊥) → Checks t 21
  checks_formed : (rs : List (List ℕ)) → IsTable t rs → Checks t 0

pub data Tells (t user : List ℕ) : Told Lookup → Type 0 where
  tells_malformed : ((rs : List (List ℕ)) → IsTable t rs → ⊥) → Tells t user (refuses 21 absent)
  tells_long : (rs : List (List ℕ)) → IsTable t rs → max_name < length user → Tells t user (refuses 23 absent)
  tells_absent : (rs : List (List ℕ)) → IsTable t rs → length user ≤ max_name → NoneNames user rs → Tells t user (gives absent)
  tells_account : (rs : List (List ℕ)) → IsTable t rs → length user ≤ max_name → (e : Placed) → FirstNames user 0 rs e → Tells t user (gives (account (code_of e.octets) (e.place + 6)))
