-- What holds of a password change: what is sent comes back, what is valid, and what a damaged one comes to.
use Rattle.std.specs.Prelude.{ℕ, ◌-◌, ◌*◌, ◌%◌, ◌≤◌, ◌<◌, ◌≡◌, true, is_some, List, ◌++◌, length, get_or}
use Rattle.octets.specs.Lists.{part}
use Rattle.answer.specs.Sizes.{max_name}
use Rattle.digest.specs.Md4.{md4_of}
use Rattle.mschap.specs.Responses.{password_hash, nt_response, authenticator_of}
use Rattle.packet.specs.Reader.{at}
use Rattle.change.specs.Forms.{block_octets, encrypted_hash_at, change_challenge_place, change_response_place}
use Rattle.change.specs.Change.{password_octets, password_block, length_in, octets_in, deciphered_block, new_password, encrypted_hash, invalid, valid, checked_of}
use Rattle.change.specs.Writing.{change_to, renewal_to}

-- ---- a password's hash is MD4 of its octets
abbrev pub HashOfOctets : Type 0
HashOfOctets = (units : List ℕ) → password_hash units ≡ md4_of (password_octets units)

-- ---- for every old hash, new password of 0 to 256 units and random octets: the block holds that password, for whoever has the old hash; and the change is valid
pub record RoundTrip : Type 0 where
  pub octets : (old units random : List ℕ) → length units ≤ 256 → octets_in (deciphered_block old (password_block old units random)) ≡ password_octets units
  pub hash : (old units random : List ℕ) → length units ≤ 256 → new_password old (password_block old units random) ≡ record { valid = true; hash = password_hash units }
  pub checked : (old challenge peer user units random : List ℕ) → length units ≤ 256 → length user ≤ max_name →
      checked_of old challenge peer user (password_block old units random) (encrypted_hash old (password_hash units)) (nt_response challenge peer user (password_hash units))
      ≡ valid (password_hash units) (authenticator_of (password_hash units) (nt_response challenge peer user (password_hash units)) peer challenge user)
  -- the fields of the packet that is sent, whatever follows it, to a server with the old password's hash
  pub carried : (id chapid : ℕ) (authenticator own user old new filler pad : List ℕ) → length own ≡ 16 → length new ≤ 256 → length user ≤ max_name →
      let q = change_to id chapid authenticator own user old new filler ++ pad in
      let kept = renewal_to authenticator own user new in
      checked_of (password_hash old) authenticator (at q change_challenge_place) user (part q 9 block_octets) (part q encrypted_hash_at 16) (at q change_response_place) ≡ valid kept.hash kept.string

-- ---- "a valid one (block length, encrypted hash and NT-Response all right)": the new hash is that of the octets which the block holds
pub record Valid (old challenge peer user block encrypted response : List ℕ) : Type 0 where
  pub user_short : length user ≤ max_name
  pub length_right : (new_password old block).valid ≡ true
  pub hash_right : encrypted ≡ encrypted_hash old (new_password old block).hash
  pub response_right : response ≡ nt_response challenge peer user (new_password old block).hash

-- a change is valid exactly then; and what is handed out with it, or zeros
pub record CheckExact : Type 0 where
  pub taken : (old challenge peer user block encrypted response : List ℕ) → Valid old challenge peer user block encrypted response →
      checked_of old challenge peer user block encrypted response
      ≡ valid (new_password old block).hash (authenticator_of (new_password old block).hash response peer challenge user)
  pub only : (old challenge peer user block encrypted response : List ℕ) → is_some (checked_of old challenge peer user block encrypted response) ≡ true →
      Valid old challenge peer user block encrypted response
  pub refused : (old challenge peer user block encrypted response : List ℕ) → (Valid old challenge peer user block encrypted response → ⊥) →
      checked_of old challenge peer user block encrypted response ≡ invalid

-- ---- what damage does to a change to the password `units`, of which `encrypted` and `response` are whatever comes
pub record Damaged (old challenge peer user units random : List ℕ) : Type 0 where
  -- another encrypted hash, or another NT-Response
  pub other_hash : (encrypted response : List ℕ) → (encrypted ≡ encrypted_hash old (password_hash units) → ⊥) →
      checked_of old challenge peer user (password_block old units random) encrypted response ≡ invalid
  pub other_response : (encrypted response : List ℕ) → (response ≡ nt_response challenge peer user (password_hash units) → ⊥) →
      checked_of old challenge peer user (password_block old units random) encrypted response ≡ invalid
  -- a block with another octet 514 or 515, which are the high ones of the length
  pub high_octet : (block encrypted response : List ℕ) (k : ℕ) → 513 < k → k < block_octets → (get_or block k 0 ≡ get_or (password_block old units random) k 0 → ⊥) →
      checked_of old challenge peer user block encrypted response ≡ invalid
  -- a block that differs at most in the random octets before the password is as good as the one that was made
  pub filler : (block encrypted response : List ℕ) → ((k : ℕ) → 512 - 2 * length units ≤ k → k < block_octets → get_or block k 0 ≡ get_or (password_block old units random) k 0) →
      (new_password old block ≡ new_password old (password_block old units random))
      × (checked_of old challenge peer user block encrypted response ≡ checked_of old challenge peer user (password_block old units random) encrypted response)
  -- one whose length is as it was, whatever stands before it, has a valid length
  pub length_kept : (block : List ℕ) → ((k : ℕ) → 512 ≤ k → k < block_octets → get_or block k 0 ≡ get_or (password_block old units random) k 0) → (new_password old block).valid ≡ true

abbrev pub DamageTold : Type 0
DamageTold = (old challenge peer user units random : List ℕ) → length units ≤ 256 → Damaged old challenge peer user units random

-- "odd or over-512 password lengths", whatever else comes
pub record BadLengths : Type 0 where
  pub odd : (old challenge peer user block encrypted response : List ℕ) → length_in (deciphered_block old block) % 2 ≡ 1 →
      checked_of old challenge peer user block encrypted response ≡ invalid
  pub over : (old challenge peer user block encrypted response : List ℕ) → 512 < length_in (deciphered_block old block) →
      checked_of old challenge peer user block encrypted response ≡ invalid

-- ---- a changed octet of the password, or a server whose old hash is not the one that the change was made under: the block then holds other octets, and the
-- change is valid exactly if their number is a length and both values that were sent for the password `units` are also those for the hash of these octets
pub record Coincides (old own challenge peer user block units : List ℕ) : Type 0 where
  pub length_right : (new_password own block).valid ≡ true
  pub hashes : encrypted_hash old (password_hash units) ≡ encrypted_hash own (new_password own block).hash
  pub responses : nt_response challenge peer user (password_hash units) ≡ nt_response challenge peer user (new_password own block).hash

pub record Coincidence : Type 0 where
  pub taken : (old own challenge peer user block units : List ℕ) → length user ≤ max_name → Coincides old own challenge peer user block units →
      is_some (checked_of own challenge peer user block (encrypted_hash old (password_hash units)) (nt_response challenge peer user (password_hash units))) ≡ true
  pub refused : (old own challenge peer user block units : List ℕ) → (Coincides old own challenge peer user block units → ⊥) →
      checked_of own challenge peer user block (encrypted_hash old (password_hash units)) (nt_response challenge peer user (password_hash units)) ≡ invalid
