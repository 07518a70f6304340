-- What holds of the user of a name, and of the sizes of what is computed.
use Rattle.std.specs.Prelude.{ℕ, ◌<◌, ◌≡◌, List, ◌∷◌, ◌++◌, length, get_or}
use Rattle.octets.specs.Lists.{part}
use Rattle.mschap.specs.Users.{user_start, user_of}
use Rattle.mschap.specs.Responses.{challenge_hash, nt_response, magic, padding, authenticator_of, digits_of}

-- no backslash stands in p
abbrev pub Plain : List ℕ → Type 0
Plain p = (k : ℕ) → k < length p → get_or p k 0 ≡ 92 → ⊥

-- "the Response name after its first backslash, or all of it if it has none"; it lies in the name from `user_start` on
pub record UsersExact : Type 0 where
  pub after : (p u : List ℕ) → Plain p → user_of (p ++ (92 ∷ u)) ≡ u
  pub all : (p : List ℕ) → Plain p → user_of p ≡ p
  pub within : (name : List ℕ) → part name (user_start name) (length (user_of name)) ≡ user_of name

-- the challenge hash is the "first 8 octets of SHA-1", an NT-Response three blocks of the cipher, a string the octets of SHA-1, in two digits each; and the two
-- constants have "39 octets" and "41 octets"
pub record ResponsesSized : Type 0 where
  pub challenge_hash : (peer authenticator user : List ℕ) → length (challenge_hash peer authenticator user) ≡ 8
  pub nt_response : (authenticator peer user hash : List ℕ) → length (nt_response authenticator peer user hash) ≡ 24
  pub authenticator : (hash response peer challenge user : List ℕ) → length (authenticator_of hash response peer challenge user) ≡ 20
  pub digits : (string : List ℕ) → length (digits_of string) ≡ 40
  pub constants : (length magic ≡ 39) × (length padding ≡ 41)
