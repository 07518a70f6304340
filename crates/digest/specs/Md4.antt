-- MD4 (RFC 1320).
use Rattle.std.specs.Prelude.{ℕ, ◌%◌, List, [], ◌∷◌, length, replicate, nat_lt, slice_index, Result}
use Rattle.octets.specs.Choice.{pick}
use Rattle.octets.specs.Lists.{cells, turns}
use Rattle.octets.specs.declared.Order.TheVariants.{Little}
use Rattle.answer.specs.declared.Refusal.{Refusal}
use Rattle.answer.specs.Outcome.{Told, gives, refuses}
use Rattle.answer.specs.Results.{told_by}
use Rattle.digest.specs.Words.{plus, rotl, choose, majority, parity}
use Rattle.digest.specs.Blocks.{octet_at, chained}
use Rattle.digest.specs.declared.md4_rounds.Buffer.{Buffer}
use Rattle.digest.specs.declared.md4_rounds.Round.{Round}
use Rattle.digest.specs.declared.md4_rounds.Round.TheVariants.{First, Second, Third}

-- 3.3
abbrev pub initial : Buffer
initial = record { a = 0x67452301; b = 0xEFCDAB89; c = 0x98BADCFE; d = 0x10325476 }

-- ---- 3.4: the operations [abcd k s] of a round
-- the function, and the constant that is added; the first round adds none
abbrev pub function : Round → ℕ → ℕ → ℕ → ℕ
function First x y z = choose x y z
function Second x y z = majority x y z
function Third x y z = parity x y z

abbrev pub constant : Round → ℕ
constant First = 0
constant Second = 0x5A827999
constant Third = 0x6ED9EBA1

-- the k of the sixteen operations
abbrev pub places : Round → List ℕ
places First = 0 ∷ 1 ∷ 2 ∷ 3 ∷ 4 ∷ 5 ∷ 6 ∷ 7 ∷ 8 ∷ 9 ∷ 10 ∷ 11 ∷ 12 ∷ 13 ∷ 14 ∷ 15 ∷ []
places Second = 0 ∷ 4 ∷ 8 ∷ 12 ∷ 1 ∷ 5 ∷ 9 ∷ 13 ∷ 2 ∷ 6 ∷ 10 ∷ 14 ∷ 3 ∷ 7 ∷ 11 ∷ 15 ∷ []
places Third = 0 ∷ 8 ∷ 4 ∷ 12 ∷ 2 ∷ 10 ∷ 6 ∷ 14 ∷ 1 ∷ 9 ∷ 5 ∷ 13 ∷ 3 ∷ 11 ∷ 7 ∷ 15 ∷ []

-- the s of each four operations
abbrev pub shifts : Round → List ℕ
shifts First = 3 ∷ 7 ∷ 11 ∷ 19 ∷ []
shifts Second = 3 ∷ 5 ∷ 9 ∷ 13 ∷ []
shifts Third = 3 ∷ 9 ∷ 11 ∷ 15 ∷ []

-- [abcd k s], x being X[k]: a = (a + f(b, c, d) + X[k] + constant) <<< s. The next operation is [dabc ..], so the registers move up by one
unfoldable pub operation : Round → ℕ → ℕ → Buffer → Buffer
operation n s x r =
    record {
      a = r.d;
      b = rotl s (plus (plus (plus r.a (function n r.b r.c r.d)) x) (constant n));
      c = r.b;
      d = r.c;
    }

-- the sixteen operations of a round
unfoldable pub round : Round → List ℕ → Buffer → Buffer
round n block r = turns (λ t. operation n (slice_index (shifts n) (t % 4))) (λ t. slice_index block (slice_index (places n) t)) r 16

abbrev pub sum : Buffer → Buffer → Buffer
sum r s = record { a = plus r.a s.a; b = plus r.b s.b; c = plus r.c s.c; d = plus r.d s.d }

-- the three rounds, and the buffer before them added
unfoldable pub compressed : List ℕ → Buffer → Buffer
compressed block r = sum r (round Third block (round Second block (round First block r)))

-- 3.5: the four words, low octet first
unfoldable pub output : Buffer → List ℕ
output r = cells 16 (octet_at Little (r.a ∷ r.b ∷ r.c ∷ r.d ∷ []))

-- the digest of a message
unfoldable pub md4_of : List ℕ → List ℕ
md4_of m = output (chained compressed Little m initial)

-- 01, "What a call answers": 23 for more than 65,536 octets
unfoldable pub md4_told : List ℕ → Told (List ℕ)
md4_told m = pick (nat_lt 65536 (length m)) (refuses 23 (replicate 16 0)) (gives (md4_of m))

-- what the call answers, and the octets that it hands out
abbrev pub told_md4 : Result (List ℕ) Refusal → Told (List ℕ)
told_md4 = told_by (λ l. l) (replicate 16 0)
