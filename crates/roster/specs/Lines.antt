-- The lines that an account table is made of: name, a tab, password or `hash=` and 32 hex digits, and, if it is not 0,
-- a tab and the code. Empty lines and those that begin with `#` are passed over.
use Rattle.std.specs.Prelude.{ℕ, suc, ◌+◌, ◌-◌, List, [], ◌∷◌, Bool, true, not, Option, Some, None, Result, Ok, Err, length, take, drop, ltb, eqb}
use Rattle.octets.specs.Choice.{pick}
use Rattle.octets.specs.Lists.{cells}
use Rattle.octets.specs.Octets.{octet_is, same, stands_at, hex_stands, unhex_at}
use Rattle.password.specs.Hashed.{hashed_of}
use Rattle.password.specs.declared.PasswordError.{PasswordError}
use Rattle.password.specs.declared.PasswordError.TheVariants as unspelt
use Rattle.roster.specs.declared.LineError.{LineError}
use Rattle.roster.specs.declared.LineError.TheVariants as error
use Rattle.roster.specs.declared.Entry.{Entry}
use Rattle.roster.specs.declared.BadLine.{BadLine}

-- ---- fields
-- the place of the first x, or the end
unfoldable pub upto : ℕ → List ℕ → ℕ
upto x [] = 0
upto x (y ∷ ys) = pick (eqb y x) 0 (suc (upto x ys))

-- what stands before the first x, and what stands after it
unfoldable pub before : ℕ → List ℕ → List ℕ
before x s = take (upto x s) s

unfoldable pub after : ℕ → List ℕ → List ℕ
after x s = drop (upto x s + 1) s

-- whether x stands in s
unfoldable pub has : ℕ → List ℕ → Bool
has x s = ltb (upto x s) (length s)

-- a line without the carriage return at its end
unfoldable pub trimmed : List ℕ → List ℕ
trimmed s = pick (eqb (length s) 0) s (pick (not (octet_is s (length s - 1) 13)) s (take (length s - 1) s))

-- ---- the second field
-- `hash=`
abbrev pub word_hash : List ℕ
word_hash = 104 ∷ 97 ∷ 115 ∷ 104 ∷ 61 ∷ []

unfoldable pub hex_secret : List ℕ → Result (List ℕ) LineError
hex_secret s =
    pick (not (eqb (length s) 37)) (Err error.BadHash)
    (pick (not (hex_stands true s 5 32)) (Err error.BadHash)
    (Ok (cells 16 (unhex_at (drop 5 s)))))

abbrev pub error_of : PasswordError → LineError
error_of unspelt.NotUtf8 = error.NotUtf8
error_of unspelt.TooLong = error.LongPassword

abbrev pub spelt : Result (List ℕ) PasswordError → Result (List ℕ) LineError
spelt (Ok hash) = Ok hash
spelt (Err why) = Err (error_of why)

unfoldable pub secret_of : List ℕ → Result (List ℕ) LineError
secret_of s = pick (stands_at s 0 word_hash) (hex_secret s) (spelt (hashed_of s))

-- ---- the third field
-- `0`, `646`, `647`, `648` or `649`, and no other
unfoldable pub code_in : List ℕ → Option ℕ
code_in s =
    pick (same s (48 ∷ [])) (Some 0)
    (pick (same s (54 ∷ 52 ∷ 54 ∷ [])) (Some 646)
    (pick (same s (54 ∷ 52 ∷ 55 ∷ [])) (Some 647)
    (pick (same s (54 ∷ 52 ∷ 56 ∷ [])) (Some 648)
    (pick (same s (54 ∷ 52 ∷ 57 ∷ [])) (Some 649) None))))

-- after the name: no third field is code 0
unfoldable pub code_after : List ℕ → Option ℕ
code_after rest = pick (not (has 9 rest)) (Some 0) (code_in (after 9 rest))

-- ---- a line
abbrev pub entry : ℕ → List ℕ → ℕ → Entry
entry code hash namelen = record { code = code; hash = hash; namelen = namelen }

-- what is wrong with a line, beside the code and the name's length where its password alone will not do
abbrev pub bad : LineError → ℕ → ℕ → BadLine
bad why code namelen = record { why = why; code = code; namelen = namelen }

-- `#`
abbrev pub hash_mark : ℕ
hash_mark = 35

-- with a name of n octets
abbrev pub entry_by : Option ℕ → Result (List ℕ) LineError → ℕ → Result Entry BadLine
entry_by None secret n = Err (bad error.BadCode 0 0)
entry_by (Some code) (Err why) n = Err (bad why code n)
entry_by (Some code) (Ok hash) n = Ok (entry code hash n)

unfoldable pub entry_with : List ℕ → ℕ → Result Entry BadLine
entry_with s n = entry_by (code_after (after 9 s)) (secret_of (before 9 (after 9 s))) n

abbrev pub some_entry : Result Entry BadLine → Result (Option Entry) BadLine
some_entry (Ok e) = Ok (Some e)
some_entry (Err why) = Err why

-- the account of a line, none, or what is wrong with it
unfoldable pub entry_of : List ℕ → Result (Option Entry) BadLine
entry_of s =
    pick (eqb (length s) 0) (Ok None)
    (pick (octet_is s 0 hash_mark) (Ok None)
    (pick (not (has 9 s)) (Err (bad error.NoPassword 0 0))
    (pick (eqb (upto 9 s) 0) (Err (bad error.NoName 0 0))
    (pick (ltb 256 (upto 9 s)) (Err (bad error.LongName 0 0))
    (some_entry (entry_with s (upto 9 s)))))))
