-- 01, "Response arithmetic": the hashes, the NT-Response and the authenticator string (RFC 2759, 8).
use Rattle.std.specs.Prelude.{ℕ, ◌*◌, ◌/◌, ◌%◌, List, [], ◌∷◌, ◌++◌, eqb, length, get_or, take, replicate}
use Rattle.octets.specs.Choice.{pick}
use Rattle.octets.specs.Lists.{cells, part}
use Rattle.octets.specs.Octets.{hex_at}
use Rattle.digest.specs.Md4.{md4_of}
use Rattle.digest.specs.Sha1.{sha1_of}
use Rattle.des.specs.Des.{enciphered}
use Rattle.des.specs.Keys.{key_octets}

-- ---- the password hash
-- octet k of UTF-16 units is the low half of a unit where k is even, and else the high half
unfoldable pub half_of : ℕ → ℕ → ℕ
half_of unit k = pick (eqb (k % 2) 0) (unit % 256) (unit / 256)

abbrev pub unit_octet : List ℕ → ℕ → ℕ
unit_octet units k = half_of (get_or units (k / 2) 0) k

-- "MD4 of the units, each low octet first"
unfoldable pub password_hash : List ℕ → List ℕ
password_hash units = md4_of (cells (2 * length units) (unit_octet units))

-- ---- "first 8 octets of SHA-1 over peer challenge, authenticator challenge, user"
unfoldable pub challenge_hash : List ℕ → List ℕ → List ℕ → List ℕ
challenge_hash peer authenticator user = take 8 (sha1_of (peer ++ authenticator ++ user))

-- ---- the NT-Response
-- "the hash with five zeros appended, cut in three 7-octet DES keys": key j of the three, counted from 0
unfoldable pub key_part : List ℕ → ℕ → List ℕ
key_part hash j = part (hash ++ replicate 5 0) (7 * j) 7

-- "each enciphering the challenge hash"
unfoldable pub block_of : List ℕ → List ℕ → ℕ → List ℕ
block_of hash challenge j = enciphered (key_octets (key_part hash j)) challenge

unfoldable pub nt_response : List ℕ → List ℕ → List ℕ → List ℕ → List ℕ
nt_response authenticator peer user hash =
    let challenge = challenge_hash peer authenticator user in
    block_of hash challenge 0 ++ block_of hash challenge 1 ++ block_of hash challenge 2

-- ---- the authenticator string
-- "Magic server to client signing constant" (39 octets)
unfoldable pub magic : List ℕ
magic =
    77 ∷ 97 ∷ 103 ∷ 105 ∷ 99 ∷ 32 ∷ 115 ∷ 101 ∷ 114 ∷ 118 ∷ 101 ∷ 114 ∷ 32
    ∷ 116 ∷ 111 ∷ 32 ∷ 99 ∷ 108 ∷ 105 ∷ 101 ∷ 110 ∷ 116 ∷ 32 ∷ 115 ∷ 105 ∷ 103
    ∷ 110 ∷ 105 ∷ 110 ∷ 103 ∷ 32 ∷ 99 ∷ 111 ∷ 110 ∷ 115 ∷ 116 ∷ 97 ∷ 110 ∷ 116 ∷ []

-- "Pad to make it do more than one iteration" (41 octets)
unfoldable pub padding : List ℕ
padding =
    80 ∷ 97 ∷ 100 ∷ 32 ∷ 116 ∷ 111 ∷ 32 ∷ 109 ∷ 97 ∷ 107 ∷ 101 ∷ 32 ∷ 105
    ∷ 116 ∷ 32 ∷ 100 ∷ 111 ∷ 32 ∷ 109 ∷ 111 ∷ 114 ∷ 101 ∷ 32 ∷ 116 ∷ 104 ∷ 97
    ∷ 110 ∷ 32 ∷ 111 ∷ 110 ∷ 101 ∷ 32 ∷ 105 ∷ 116 ∷ 101 ∷ 114 ∷ 97 ∷ 116 ∷ 105
    ∷ 111 ∷ 110 ∷ []

-- "SHA-1 over MD4 of the hash, NT-Response and `Magic ..`; then SHA-1 over that digest, the challenge hash and `Pad ..`"
unfoldable pub authenticator_of : List ℕ → List ℕ → List ℕ → List ℕ → List ℕ → List ℕ
authenticator_of hash response peer authenticator user =
    let first = sha1_of (md4_of hash ++ response ++ magic) in
    sha1_of (first ++ challenge_hash peer authenticator user ++ padding)

-- its 40 hex digits, A to F in upper case
unfoldable pub digits_of : List ℕ → List ℕ
digits_of string = cells 40 (hex_at string)
