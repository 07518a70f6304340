-- What callers know of the arithmetic: the length of each result, and what is given for users of at most 256 octets.
use Prim.Native.Nat.{ℕ, ◌≤◌, ◌<◌}
use Rattle.std.proofs.Common.{Result, Ok, Err}
use mathlib.Core.Path.{◌≡◌, refl, sym, ap, ◌∙◌}
use mathlib.Core.List.{List, ◌++◌}
use native.Mathlib.Omega.{arith}
use lib.ListN.{length, get_or, replicate}
use lib.Seq.{length-take-le}
use Rattle.octets.proofs.Exits.{below}
use Rattle.octets.proofs.Lists.{length_cells}
use Rattle.answer.specs.Answer.{refusal_of}
use Rattle.answer.specs.Outcome.{Told, gives}
use Rattle.answer.specs.Results.{told_by}
use Rattle.answer.specs.declared.Refusal.{Refusal}
use Rattle.answer.proofs.Apart.{refusals_listed}
use Rattle.digest.specs.Sha1.{sha1_of}
use Rattle.digest.proofs.Digests.{length_md4, length_sha1, sha1_octet}
use Rattle.mschap.specs.Users.{user_start, user_of}
use Rattle.mschap.specs.Responses.{password_hash, challenge_hash, block_of, nt_response, magic, padding, authenticator_of, digits_of}
use Rattle.mschap.specs.Promises.{ResponsesSized}
use Rattle.mschap.specs.Answers.{Place, password_hash_told, user_told, nt_response_told, authenticator_told, told_password_hash, told_user, told_nt_response, told_authenticator}
use Rattle.mschap.specs.declared.User.{User}
use Rattle.mschap.proofs.Answers.{given, given_not}
use Rattle.mschap.proofs.Pieces.{length_three, length_block}

-- ---- lengths
pub length_password_hash : (units : List ℕ) → length (password_hash units) ≡ 16
unfolding password_hash
length_password_hash units = length_md4 _

length_challenge_hash : (peer authenticator user : List ℕ) → length (challenge_hash peer authenticator user) ≡ 8
unfolding challenge_hash
length_challenge_hash peer authenticator user = length-take-le 8 (sha1_of (peer ++ authenticator ++ user)) (omega (arith, length_sha1 (peer ++ authenticator ++ user)))

pub length_nt_response : (authenticator peer user hash : List ℕ) → length (nt_response authenticator peer user hash) ≡ 24
unfolding nt_response
length_nt_response authenticator peer user hash =
    let c = challenge_hash peer authenticator user in
    length_three (block_of hash c 0) (block_of hash c 1) (block_of hash c 2) ∙ omega (arith, length_block hash c 0, length_block hash c 1, length_block hash c 2)

length_authenticator : (hash response peer authenticator user : List ℕ) → length (authenticator_of hash response peer authenticator user) ≡ 20
unfolding authenticator_of
length_authenticator hash response peer authenticator user = length_sha1 _

-- the authenticator string consists of octets
pub authenticator_octet : (hash response peer authenticator user : List ℕ) (k : ℕ) → get_or (authenticator_of hash response peer authenticator user) k 0 < 256
unfolding authenticator_of
authenticator_octet hash response peer authenticator user k = sha1_octet _ k

length_digits : (string : List ℕ) → length (digits_of string) ≡ 40
unfolding digits_of
length_digits string = length_cells 40 _

pub responses_sized : ResponsesSized
unfolding magic padding
responses_sized = record {
  challenge_hash = length_challenge_hash;
  nt_response = length_nt_response;
  authenticator = length_authenticator;
  digits = length_digits;
  constants = (refl, refl);
}

-- ---- what is given
pub password_hash_given : (units : List ℕ) → length units ≤ 256 → password_hash_told units ≡ gives (password_hash units)
unfolding password_hash_told
password_hash_given units h = sym (given _ _ _ _ h refl)

pub user_given : (name : List ℕ) → length name ≤ 256 → user_told name ≡ gives (record { start = user_start name; len = length (user_of name) })
unfolding user_told
user_given name h = sym (given _ _ _ _ h refl)

pub nt_response_given : (authenticator peer user hash : List ℕ) → length user ≤ 256 → nt_response_told authenticator peer user hash ≡ gives (nt_response authenticator peer user hash)
unfolding nt_response_told
nt_response_given authenticator peer user hash h = sym (given _ _ _ _ h refl)

pub authenticator_given : (hash response peer authenticator user : List ℕ) → length user ≤ 256 → authenticator_told hash response peer authenticator user ≡ gives (authenticator_of hash response peer authenticator user)
unfolding authenticator_told
authenticator_given hash response peer authenticator user h = sym (given _ _ _ _ h refl)

-- ---- what is returned, which is no refusal
value : {A : Type 0} {t : Told A} {x : A} → t ≡ gives x → t.value ≡ x
value {A} e = ap (λ (t : Told A). t.value) e

given_ok : {A : Type 0} (none x : A) (r : Result A Refusal) → told_by (λ y. y) none r ≡ gives x → r ≡ Ok x
given_ok {A} none x (Ok y) e = ap (λ (z : A). Ok z) (value e)
given_ok {A} none x (Err why) e = let listed = refusals_listed why in let z : refusal_of why ≡ 0 = ap (λ (t : Told A). t.number) e in absurd (omega arith)

pub password_hash_made : (h units : List ℕ) → told_password_hash (Ok h) ≡ password_hash_told units → (h ≡ password_hash units) × (length units ≤ 256)
unfolding password_hash_told
password_hash_made h units e =
    below 256 (length units)
    (λ l. let z = ap (λ (t : Told (List ℕ)). t.number) (e ∙ sym (given_not _ (replicate 16 0) (password_hash units) l)) in absurd (omega arith))
    (λ g. (value (e ∙ sym (given _ (replicate 16 0) _ (password_hash units) g refl)), g))

pub password_hash_refused : (why : Refusal) (units : List ℕ) → told_password_hash (Err why) ≡ password_hash_told units → (refusal_of why ≡ 23) × (256 < length units)
unfolding password_hash_told
password_hash_refused why units e =
    let listed = refusals_listed why in
    below 256 (length units)
    (λ l. (ap (λ (t : Told (List ℕ)). t.number) (e ∙ sym (given_not _ (replicate 16 0) (password_hash units) l)), l))
    (λ g. let z = ap (λ (t : Told (List ℕ)). t.number) (e ∙ sym (given _ (replicate 16 0) _ (password_hash units) g refl)) in absurd (omega arith))

pub user_place : (r : User) (name : List ℕ) → told_user (Ok r) ≡ user_told name → length name ≤ 256 → (r.start ≡ user_start name) × (r.len ≡ length (user_of name))
user_place r name e h =
    let p = value (e ∙ user_given name h) in
    (ap (λ (q : Place). q.start) p, ap (λ (q : Place). q.len) p)

pub password_hash_ok : (r : Result (List ℕ) Refusal) (units : List ℕ) → told_password_hash r ≡ password_hash_told units → length units ≤ 256 → r ≡ Ok (password_hash units)
password_hash_ok r units e h = given_ok _ _ r (e ∙ password_hash_given units h)

pub nt_response_ok : (r : Result (List ℕ) Refusal) (authenticator peer user hash : List ℕ) → told_nt_response r ≡ nt_response_told authenticator peer user hash → length user ≤ 256 → r ≡ Ok (nt_response authenticator peer user hash)
nt_response_ok r authenticator peer user hash e h = given_ok _ _ r (e ∙ nt_response_given authenticator peer user hash h)

pub authenticator_ok : (r : Result (List ℕ) Refusal) (hash response peer authenticator user : List ℕ) → told_authenticator r ≡ authenticator_told hash response peer authenticator user → length user ≤ 256 → r ≡ Ok (authenticator_of hash response peer authenticator user)
authenticator_ok r hash response peer authenticator user e h = given_ok _ _ r (e ∙ authenticator_given hash response peer authenticator user h)
