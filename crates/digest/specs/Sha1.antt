-- SHA-1 (FIPS 180-1).
use Rattle.std.specs.Prelude.{ℕ, zero, suc, ◌+◌, ◌-◌, List, [], ◌∷◌, ◌++◌, length, replicate, bit_xor, nat_lt, slice_index, Result}
use Rattle.octets.specs.Choice.{pick}
use Rattle.octets.specs.Lists.{cells, turns}
use Rattle.octets.specs.declared.Order.TheVariants.{Big}
use Rattle.answer.specs.declared.Refusal.{Refusal}
use Rattle.answer.specs.Outcome.{Told, gives, refuses}
use Rattle.answer.specs.Results.{told_by}
use Rattle.digest.specs.Words.{plus, rotl, choose, majority, parity}
use Rattle.digest.specs.Blocks.{octet_at, chained}
use Rattle.digest.specs.declared.sha1_rounds.Buffer.{Buffer}

-- 5: f(t; x, y, z)
unfoldable pub function : ℕ → ℕ → ℕ → ℕ → ℕ
function t x y z =
    pick (nat_lt t 20) (choose x y z)
    (pick (nat_lt t 40) (parity x y z)
    (pick (nat_lt t 60) (majority x y z) (parity x y z)))

-- 6: K(t)
unfoldable pub constant : ℕ → ℕ
constant t =
    pick (nat_lt t 20) 0x5A827999
    (pick (nat_lt t 40) 0x6ED9EBA1
    (pick (nat_lt t 60) 0x8F1BBCDC 0xCA62C1D6))

-- 7: H0 to H4
abbrev pub initial : Buffer
initial = record { a = 0x67452301; b = 0xEFCDAB89; c = 0x98BADCFE; d = 0x10325476; e = 0xC3D2E1F0 }

-- 7, b: W(t) from the words before it
unfoldable pub next_word : List ℕ → ℕ → ℕ
next_word w t = rotl 1 (bit_xor (bit_xor (bit_xor (slice_index w (t - 3)) (slice_index w (t - 8))) (slice_index w (t - 14))) (slice_index w (t - 16)))

-- the words w and n more
unfoldable pub extended : List ℕ → ℕ → List ℕ
extended w zero = w
extended w (suc n) = extended w n ++ (next_word (extended w n) (length w + n) ∷ [])

-- 7, a and b: W(0) to W(79), the first sixteen being the block's
abbrev pub schedule : List ℕ → List ℕ
schedule block = extended block 64

-- 7, d: one round with the word w
unfoldable pub round : ℕ → ℕ → Buffer → Buffer
round t w r =
    record {
      a = plus (plus (plus (plus (rotl 5 r.a) (function t r.b r.c r.d)) r.e) w) (constant t);
      b = r.a;
      c = rotl 30 r.b;
      d = r.c;
      e = r.d;
    }

-- n rounds over the schedule w, from round t on
unfoldable pub rounds : ℕ → ℕ → List ℕ → Buffer → Buffer
rounds t n w r = turns (λ k. round (t + k)) (λ k. slice_index w (t + k)) r n

abbrev pub sum : Buffer → Buffer → Buffer
sum r s =
    record {
      a = plus r.a s.a;
      b = plus r.b s.b;
      c = plus r.c s.c;
      d = plus r.d s.d;
      e = plus r.e s.e;
    }

-- 7, c to e: the eighty rounds, and the buffer before them added
unfoldable pub compressed : List ℕ → Buffer → Buffer
compressed block r = sum r (rounds 0 80 (schedule block) r)

-- 7: the five words, high octet first
unfoldable pub output : Buffer → List ℕ
output r = cells 20 (octet_at Big (r.a ∷ r.b ∷ r.c ∷ r.d ∷ r.e ∷ []))

-- the digest of a message
unfoldable pub sha1_of : List ℕ → List ℕ
sha1_of m = output (chained compressed Big m initial)

-- 01, "What a call answers": 23 for more than 65,536 octets
unfoldable pub sha1_told : List ℕ → Told (List ℕ)
sha1_told m = pick (nat_lt 65536 (length m)) (refuses 23 (replicate 20 0)) (gives (sha1_of m))

-- what the call answers, and the octets that it hands out
abbrev pub told_sha1 : Result (List ℕ) Refusal → Told (List ℕ)
told_sha1 = told_by (λ l. l) (replicate 20 0)
