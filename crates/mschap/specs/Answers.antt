-- 01, "What a call answers" and "Sizes": 23 for a name, a user or a password of more than 256; else 0. Beside a 23 these have zeros, and the
-- code hands out nothing.
use Rattle.std.specs.Prelude.{ℕ, List, Result, ltb, length, replicate}
use Rattle.octets.specs.Choice.{pick}
use Rattle.answer.specs.declared.Refusal.{Refusal}
use Rattle.answer.specs.Outcome.{Told, gives, refuses}
use Rattle.answer.specs.Results.{told_by}
use Rattle.mschap.specs.Users.{user_start, user_of}
use Rattle.mschap.specs.Responses.{password_hash, challenge_hash, nt_response, authenticator_of}
use Rattle.mschap.specs.declared.User.{User}

-- what is given for an argument of some size: x up to 256, and else zero
unfoldable pub limited : {A : Type 0} → ℕ → A → A → Told A
limited size zero x = pick (ltb 256 size) (refuses 23 zero) (gives x)

-- where a part of a list lies
pub record Place : Type 0 where
  pub start : ℕ
  pub len : ℕ

unfoldable pub password_hash_told : List ℕ → Told (List ℕ)
password_hash_told units = limited (length units) (replicate 16 0) (password_hash units)

unfoldable pub user_told : List ℕ → Told Place
user_told name = limited (length name) (record { start = 0; len = 0 }) (record { start = user_start name; len = length (user_of name) })

unfoldable pub challenge_hash_told : List ℕ → List ℕ → List ℕ → Told (List ℕ)
challenge_hash_told peer authenticator user = limited (length user) (replicate 8 0) (challenge_hash peer authenticator user)

unfoldable pub nt_response_told : List ℕ → List ℕ → List ℕ → List ℕ → Told (List ℕ)
nt_response_told authenticator peer user hash = limited (length user) (replicate 24 0) (nt_response authenticator peer user hash)

unfoldable pub authenticator_told : List ℕ → List ℕ → List ℕ → List ℕ → List ℕ → Told (List ℕ)
authenticator_told hash response peer authenticator user = limited (length user) (replicate 20 0) (authenticator_of hash response peer authenticator user)

-- ---- what the functions return, in the paper's numbers
abbrev pub told_password_hash : Result (List ℕ) Refusal → Told (List ℕ)
told_password_hash r = told_by (λ h. h) (replicate 16 0) r

abbrev pub told_user : Result User Refusal → Told Place
told_user r = told_by (λ (u : User). record { start = u.start; len = u.len }) (record { start = 0; len = 0 }) r

abbrev pub told_challenge_hash : Result (List ℕ) Refusal → Told (List ℕ)
told_challenge_hash r = told_by (λ h. h) (replicate 8 0) r

abbrev pub told_nt_response : Result (List ℕ) Refusal → Told (List ℕ)
told_nt_response r = told_by (λ h. h) (replicate 24 0) r

abbrev pub told_authenticator : Result (List ℕ) Refusal → Told (List ℕ)
told_authenticator r = told_by (λ h. h) (replicate 20 0) r
