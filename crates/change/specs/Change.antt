-- 02, [2], and RFC 2759, 8.9 to 8.13: the new password under the old hash, and the old hash under the new one.
use Rattle.std.specs.Prelude.{ℕ, ◌+◌, ◌-◌, ◌*◌, ◌/◌, ◌%◌, Bool, false, not, ◌&&◌, List, [], ◌∷◌, ◌++◌, ltb, eqb, length, get_or, take, drop, Option, Some, None}
use Rattle.octets.specs.Choice.{pick}
use Rattle.octets.specs.Lists.{cells, sized, part}
use Rattle.octets.specs.Octets.{same}
use Rattle.answer.specs.Sizes.{max_name}
use Rattle.digest.specs.Md4.{md4_of}
use Rattle.des.specs.Des as des
use Rattle.des.specs.Keys.{key_octets}
use Rattle.mschap.specs.Responses.{unit_octet, nt_response, authenticator_of}
use Rattle.rc4.specs.Rc4 as rc4
use Rattle.change.specs.declared.NewPassword.{NewPassword}
use Rattle.change.specs.declared.Renewal.{Renewal}
use Rattle.change.specs.Forms.{block_octets}

-- ---- the password's units, each low octet first: `password_hash` is MD4 of them
unfoldable pub password_octets : List ℕ → List ℕ
password_octets units = cells (2 * length units) (unit_octet units)

-- ---- "the 516-octet password block (length little-endian)"
-- a number in four octets, the low one first
unfoldable pub four_octets : ℕ → List ℕ
four_octets n = n % 256 ∷ n / 256 % 256 ∷ n / 65536 % 256 ∷ n / 16777216 % 256 ∷ []

-- random octets; the password's octets, which end at 511; and then their number
unfoldable pub plain_block : List ℕ → List ℕ → List ℕ
plain_block units random =
    let n = 2 * length units in
    sized (512 - n) random ++ (password_octets units ++ four_octets n)

-- enciphered under the old hash
unfoldable pub password_block : List ℕ → List ℕ → List ℕ → List ℕ
password_block old units random = rc4.enciphered old (plain_block units random)

-- ---- what a deciphered block holds
unfoldable pub length_in : List ℕ → ℕ
length_in b = get_or b 512 0 + get_or b 513 0 * 256 + get_or b 514 0 * 65536 + get_or b 515 0 * 16777216

-- "odd or over-512 password lengths in the block count as invalid"
unfoldable pub is_length : ℕ → Bool
is_length n = pick (ltb 512 n) false (eqb (n % 2) 0)

-- that many octets before 512, or all of them
unfoldable pub octets_in : List ℕ → List ℕ
octets_in b = drop (512 - length_in b) (take 512 b)

-- whether its length is one, and the hash of the password
unfoldable pub password_in : List ℕ → NewPassword
password_in b = record { valid = is_length (length_in b); hash = md4_of (octets_in b) }

-- the same of a block under the old hash
unfoldable pub deciphered_block : List ℕ → List ℕ → List ℕ
deciphered_block old block = rc4.enciphered old (sized block_octets block)

unfoldable pub new_password : List ℕ → List ℕ → NewPassword
new_password old block = password_in (deciphered_block old block)

-- ---- "the encrypted hash": DES of the old hash's first eight octets under the new one's first seven, and then of the next eight under the next seven
unfoldable pub hash_half : List ℕ → List ℕ → ℕ → List ℕ
hash_half old new j = des.enciphered (key_octets (part new (7 * j) 7)) (part old (8 * j) 8)

unfoldable pub encrypted_hash : List ℕ → List ℕ → List ℕ
encrypted_hash old new = hash_half old new 0 ++ hash_half old new 1

-- ---- what the server makes of a change, by the user's old hash and its own challenge
abbrev pub invalid : Option Renewal
invalid = None

-- with the new hash and the authenticator string's octets
abbrev pub valid : List ℕ → List ℕ → Option Renewal
valid hash string = Some (record { hash = hash; string = string })

-- "block length, encrypted hash and NT-Response all right", for the password that the block holds
unfoldable pub all_right : List ℕ → List ℕ → List ℕ → List ℕ → NewPassword → List ℕ → List ℕ → Bool
all_right old challenge peer user new encrypted response =
    new.valid && (same encrypted (encrypted_hash old new.hash) && same response (nt_response challenge peer user new.hash))

unfoldable pub chosen : Bool → List ℕ → List ℕ → Option Renewal
chosen right hash string = pick (not right) invalid (valid hash string)

-- a user of more than 256 octets is nobody's
unfoldable pub checked_of : List ℕ → List ℕ → List ℕ → List ℕ → List ℕ → List ℕ → List ℕ → Option Renewal
checked_of old challenge peer user block encrypted response =
    let new = new_password old block in
    pick (ltb max_name (length user)) invalid
    (chosen (all_right old challenge peer user new encrypted response) new.hash (authenticator_of new.hash response peer challenge user))
