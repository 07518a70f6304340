-- The padded message, octet by octet; its words inside the message; its blocks, one after the other.
use Rattle.std.proofs.Common.{◌≡◌, ℕ, suc, ◌+◌, ◌-◌, ◌*◌, ◌<◌, ◌≤◌, List, [], ◌∷◌, ◌++◌, length, get_or, replicate, sym, refl, ap, ◌∙◌, arith, length-append, get_or-append-add}
use lib.ListN.{length-replicate, get_or-append}
use Rattle.std.proofs.lemmas.List.{get_or-replicate}
use lib.Seq.{get_or-append_seam}
use Rattle.octets.specs.Lists.{cells, sized, turns}
use Rattle.octets.specs.declared.Order.{Order}
use Rattle.octets.specs.declared.Order.TheVariants.{Little, Big}
use Rattle.octets.proofs.Loops.{Turned, turn_done, turning}
use Rattle.octets.proofs.Lists.{length_cells, get_or_cells, cells_same, sized_own}
use Rattle.digest.specs.Blocks.{octet_of, word_of, block_count, padded, PaddedFills, word_at, block_at, chained}

-- the message, the octet 128 and the zeros
front : List ℕ → List ℕ
front m = m ++ (128 ∷ replicate (block_count (length m) * 64 - (length m + 9)) 0)

length_front : (m : List ℕ) → length (front m) ≡ block_count (length m) * 64 - 8
unfolding front
length_front m = simp (length-append, length-replicate) (omega arith)

pub length_padded : PaddedFills
unfolding padded front
length_padded o m = length-append (front m) (cells 8 (octet_of o 8 (length m * 8))) ∙ omega (arith, length_front m, length_cells 8 (octet_of o 8 (length m * 8)))

-- up to the length
in_front : (o : Order) (m : List ℕ) (k : ℕ) → k < block_count (length m) * 64 - 8 → get_or (padded o m) k 0 ≡ get_or (front m) k 0
unfolding padded front
in_front o m k h = get_or-append (front m) _ 0 k (omega (arith, length_front m))

-- ---- octet k: of the message, the octet 128, a zero, an octet of the length
pub padded_message : (o : Order) (m : List ℕ) (k : ℕ) → k < length m → get_or m k 0 ≡ get_or (padded o m) k 0
unfolding front
padded_message o m k h = sym (in_front o m k (omega arith) ∙ get_or-append m _ 0 k h)

pub padded_one : (o : Order) (m : List ℕ) (k : ℕ) → k ≡ length m → 128 ≡ get_or (padded o m) k 0
unfolding front
padded_one o m k e = rw e (sym (in_front o m (length m) (omega arith) ∙ get_or-append_seam m 128 _ 0))

pub padded_zero : (o : Order) (m : List ℕ) (k b : ℕ) → b ≡ block_count (length m) → length m ≤ k → (k ≡ length m → ⊥) → k < b * 64 - 8 → 0 ≡ get_or (padded o m) k 0
unfolding front
padded_zero o m k b p h d l =
    let e : k ≡ length m + suc (k - length m - 1) = omega arith in
    sym (in_front o m k (omega arith) ∙ ap (λ (j : ℕ). get_or (front m) j 0) e ∙ get_or-append-add m _ (suc (k - length m - 1)) 0 ∙ get_or-replicate (block_count (length m) * 64 - (length m + 9)) (k - length m - 1) 0 0 (omega arith))

pub padded_length : (o : Order) (m : List ℕ) (k b x : ℕ) → b ≡ block_count (length m) → b * 64 - 8 ≤ k → k < block_count (length m) * 64 → x ≡ octet_of o 8 (length m * 8) (k - (b * 64 - 8)) → x ≡ get_or (padded o m) k 0
unfolding padded front
padded_length o m k b x p h l e =
    let j = k - (b * 64 - 8) in
    let i : k ≡ length (front m) + j = omega (arith, length_front m) in
    e ∙ sym (ap (λ (n : ℕ). get_or (padded o m) n 0) i ∙ get_or-append-add (front m) _ j 0 ∙ get_or_cells 8 (octet_of o 8 (length m * 8)) j (omega arith))

-- ---- a word of which the message has all four octets
pub inner : (o : Order) (m : List ℕ) (k w : ℕ) → k + 4 ≤ length m → w ≡ word_of o (get_or m k 0) (get_or m (k + 1) 0) (get_or m (k + 2) 0) (get_or m (k + 3) 0) → w ≡ word_at o (padded o m) k
unfolding word_at
inner o m k w h e =
    let p = padded_message o m k (omega arith) in
    let q = padded_message o m (k + 1) (omega arith) in
    let r = padded_message o m (k + 2) (omega arith) in
    let s = padded_message o m (k + 3) (omega arith) in
    e ∙ (λ i. word_of o (p i) (q i) (r i) (s i))

pub four_word : (o : Order) (m four : List ℕ) (k w : ℕ) → k + 4 ≤ length m → four ≡ get_or m k 0 ∷ get_or m (k + 1) 0 ∷ get_or m (k + 2) 0 ∷ get_or m (k + 3) 0 ∷ [] → w ≡ word_of o (get_or four 0 0) (get_or four 1 0) (get_or four 2 0) (get_or four 3 0) → w ≡ word_at o (padded o m) k
four_word o m four k w h e f = inner o m k w h (f ∙ (λ i. word_of o (get_or (e i) 0 0) (get_or (e i) 1 0) (get_or (e i) 2 0) (get_or (e i) 3 0)))

-- a word of zeros
zero_octets : (o : Order) → word_of o 0 0 0 0 ≡ 0
zero_octets Little = refl
zero_octets Big = refl

pub zero_word : (o : Order) (m : List ℕ) (k b : ℕ) → b ≡ block_count (length m) → length m < k → k + 4 ≤ b * 64 - 8 → 0 ≡ word_at o (padded o m) k
unfolding word_at
zero_word o m k b p h l = sym (zero_octets o) ∙ (λ i. word_of o (at k (omega arith) (omega arith) i) (at (k + 1) (omega arith) (omega arith) i) (at (k + 2) (omega arith) (omega arith) i) (at (k + 3) (omega arith) (omega arith) i))
  where
    at : (j : ℕ) → length m < j → j < b * 64 - 8 → 0 ≡ get_or (padded o m) j 0
    at j g f = padded_zero o m j b p (omega arith) (λ e. absurd (omega arith)) f

pub ruleset padding = (padded_message, padded_one, padded_zero, padded_length)

-- ---- a block, word by word
pub block_done : (o : Order) (m : List ℕ) (i : ℕ) (b : List ℕ) → length b ≡ 16 → ((j : ℕ) → j < 16 → get_or b j 0 ≡ word_at o (padded o m) (i * 64 + j * 4)) → b ≡ block_at o m i
unfolding block_at sized
block_done o m i b e f = sym (sized_own 16 b e) ∙ cells_same 16 (λ j. get_or b j 0) (λ j. word_at o (padded o m) (i * 64 + j * 4)) f

-- ---- every block was taken in
pub chain_done : {S : Type 0} (f : List ℕ → S → S) (o : Order) (m : List ℕ) (s q : S) (n i : ℕ) → Turned n (λ k. f) (block_at o m) s q i → n ≤ i → n ≡ block_count (length m) → q ≡ chained f o m s
unfolding chained
chain_done f o m s q n i p h e = turn_done p h ∙ ap (turns (λ k. f) (block_at o m) s) e

pub ruleset chains = (turning, chain_done)
