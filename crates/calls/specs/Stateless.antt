-- The calls without a state at the boundary: the sizes first, then the call.
use Rattle.std.specs.Prelude.{ℕ, ◌*◌, ◌/◌, ◌%◌, List, Bool, not, ◌&&◌, length, ltb, eqb}
use Rattle.octets.specs.Choice.{pick}
use Rattle.octets.specs.Lists.{cells}
use Rattle.octets.specs.Octets.{number_at}
use Rattle.octets.specs.declared.Order.TheVariants.{Little}
use Rattle.accounts.specs.Account.{append_in}
use Rattle.digest.specs.Md4.{md4_told}
use Rattle.digest.specs.Sha1.{sha1_told}
use Rattle.des.specs.Des.{enciphered}
use Rattle.mschap.specs.Answers.{password_hash_told, nt_response_told, authenticator_told}
use Rattle.calls.specs.Done.{Made, made, given_by, wrote}

-- the version of the calls, 0.4.0: major * 10000 + minor * 100 + patch
abbrev pub version : ℕ
version = 400

abbrev pub has : ℕ → List ℕ → Bool
has n s = eqb (length s) n

-- an account appended to the table that is the buffer's first octets, as many as are used
unfoldable pub accounts_append_at : List ℕ → ℕ → ℕ → List ℕ → List ℕ → Made
accounts_append_at buffer used code hash name = pick (has 16 hash) (wrote (append_in buffer used code hash name) buffer) (made 23 buffer)

unfoldable pub md4_at : List ℕ → List ℕ → Made
md4_at message output = pick (has 16 output) (given_by (md4_told message) output) (made 23 output)

unfoldable pub sha1_at : List ℕ → List ℕ → Made
sha1_at message output = pick (has 20 output) (given_by (sha1_told message) output) (made 23 output)

-- UTF-16 units from octets, the low octet of each first
unfoldable pub unit_at : List ℕ → ℕ → ℕ
unit_at octets k = number_at Little octets (k * 2)

unfoldable pub units_of : List ℕ → List ℕ
units_of octets = cells (length octets / 2) (unit_at octets)

unfoldable pub password_hash_at : List ℕ → List ℕ → Made
password_hash_at octets output =
    pick (has 16 output && (eqb (length octets % 2) 0 && not (ltb 512 (length octets))))
    (given_by (password_hash_told (units_of octets)) output)
    (made 23 output)

unfoldable pub des_at : List ℕ → List ℕ → List ℕ → Made
des_at key block output =
    pick (has 8 key && (has 8 block && has 8 output)) (made 0 (enciphered key block)) (made 23 output)

unfoldable pub nt_response_at : List ℕ → List ℕ → List ℕ → List ℕ → List ℕ → Made
nt_response_at authenticator peer user hash output =
    pick (has 16 authenticator && (has 16 peer && (has 16 hash && has 24 output)))
    (given_by (nt_response_told authenticator peer user hash) output)
    (made 23 output)

unfoldable pub authenticator_at : List ℕ → List ℕ → List ℕ → List ℕ → List ℕ → List ℕ → Made
authenticator_at hash response peer authenticator user output =
    pick (has 16 hash && (has 24 response && (has 16 peer && (has 16 authenticator && has 20 output))))
    (given_by (authenticator_told hash response peer authenticator user) output)
    (made 23 output)
