-- Octets of numbers, the padded message, its words and blocks (RFC 1320, 2 to 3.4; FIPS 180-1, 2, 4 and 7).
-- The two digests differ here in the order of a number's octets alone: MD4 has the low one first, SHA-1 the high one.
use Rattle.std.specs.Prelude.{◌≡◌, ℕ, ◌+◌, ◌-◌, ◌*◌, ◌/◌, ◌%◌, ◌^◌, List, ◌∷◌, ◌++◌, length, replicate, slice_index}
use Rattle.octets.specs.Lists.{cells, turns}
use Rattle.octets.specs.declared.Order.{Order}
use Rattle.octets.specs.declared.Order.TheVariants.{Little, Big}

-- ---- octets of numbers
-- how many octets of a number of n octets have a lower weight than octet i
abbrev pub weight : Order → ℕ → ℕ → ℕ
weight Little n i = i
weight Big n i = n - 1 - i

-- octet i of the number x, of n octets
unfoldable pub octet_of : Order → ℕ → ℕ → ℕ → ℕ
octet_of o n x i = x / 2 ^ (8 * weight o n i) % 256

-- octet i of the words ws, four to a word
unfoldable pub octet_at : Order → List ℕ → ℕ → ℕ
octet_at o ws i = octet_of o 4 (slice_index ws (i / 4)) (i % 4)

-- the word of four octets
abbrev pub word_of : Order → ℕ → ℕ → ℕ → ℕ → ℕ
word_of Little a b c d = a + b * 2 ^ 8 + c * 2 ^ 16 + d * 2 ^ 24
word_of Big a b c d = a * 2 ^ 24 + b * 2 ^ 16 + c * 2 ^ 8 + d

-- ---- the padded message (RFC 1320, 3.1 and 3.2; FIPS 180-1, 4)
-- how many blocks of 64 octets hold n octets, the octet 128 and the eight octets of the length
abbrev pub block_count : ℕ → ℕ
block_count n = (n + 9 + 63) / 64

-- the message; the octet 128, which is a bit 1 and seven bits 0; zeros up to the last eight octets of the last block; and there the
-- length of the message in bits
unfoldable pub padded : Order → List ℕ → List ℕ
padded o m = m ++ (128 ∷ replicate (block_count (length m) * 64 - (length m + 9)) 0) ++ cells 8 (octet_of o 8 (length m * 8))

-- it fills its blocks
abbrev pub PaddedFills : Type 0
PaddedFills = (o : Order) (m : List ℕ) → length (padded o m) ≡ block_count (length m) * 64

-- ---- words and blocks
-- the word of the octets k to k + 3 of l
unfoldable pub word_at : Order → List ℕ → ℕ → ℕ
word_at o l k = word_of o (slice_index l k) (slice_index l (k + 1)) (slice_index l (k + 2)) (slice_index l (k + 3))

-- the sixteen words of block i
unfoldable pub block_at : Order → List ℕ → ℕ → List ℕ
block_at o m i = cells 16 (λ j. word_at o (padded o m) (i * 64 + j * 4))

-- the buffer s after all blocks, each taken in by f
unfoldable pub chained : {S : Type 0} → (List ℕ → S → S) → Order → List ℕ → S → S
chained f o m s = turns (λ i. f) (block_at o m) s (block_count (length m))
