-- What callers need of the two digests, so that none opens their definitions.
use Rattle.std.proofs.Common.{Result, Ok, Err, ◌≡◌, ℕ, ◌<◌, ◌≤◌, List, length, get_or, sym, ap, ◌∙◌, subst, arith, le-ltb, lt-ltb}
use Rattle.octets.specs.Lists.{cells}
use Rattle.octets.specs.declared.Order.{Order}
use Rattle.octets.specs.declared.Order.TheVariants.{Little, Big}
use Rattle.octets.proofs.Exits.{below, pick_true, pick_false}
use Rattle.octets.proofs.Lists.{length_cells, get_or_cells}
use Rattle.octets.proofs.Scans.{get_or_past}
use Rattle.answer.specs.Outcome.{Told, gives}
use Rattle.digest.specs.Blocks.{octet_of, octet_at, chained}
use Rattle.digest.specs.Md4.{initial, compressed, output, md4_of, md4_told, told_md4}
use Rattle.digest.specs.Sha1 as sha1
use Rattle.digest.specs.Sha1.{sha1_of, sha1_told, told_sha1}
use Rattle.answer.specs.Answer.{refusal_of}
use Rattle.answer.specs.declared.Refusal.{Refusal}
use Rattle.answer.specs.declared.Refusal.TheVariants.{BadArgument}
use Rattle.answer.proofs.Apart.{refusals_listed}

-- ---- a digest has a fixed length
pub length_md4 : (m : List ℕ) → length (md4_of m) ≡ 16
unfolding md4_of output
length_md4 m = length_cells 16 _

pub length_sha1 : (m : List ℕ) → length (sha1_of m) ≡ 20
unfolding sha1_of sha1.output
length_sha1 m = length_cells 20 _

-- ---- and consists of octets
octets_below : (o : Order) (ws : List ℕ) (n k : ℕ) → get_or (cells n (octet_at o ws)) k 0 < 256
unfolding octet_at octet_of
octets_below o ws n k =
    below k n
    (λ h. rw (get_or_cells n (octet_at o ws) k h) (omega arith))
    (λ h. rw (← get_or_past (cells n (octet_at o ws)) k (rw (length_cells n (octet_at o ws)) h)) (omega arith))

pub sha1_octet : (m : List ℕ) (k : ℕ) → get_or (sha1_of m) k 0 < 256
unfolding sha1_of sha1.output
sha1_octet m k = octets_below _ _ 20 k

-- ---- the answer to a message of its size, and the octets beside it
pub md4_gives : (m : List ℕ) → length m ≤ 65536 → md4_told m ≡ gives (md4_of m)
unfolding md4_told
md4_gives m h = pick_false _ _ _ (le-ltb _ _ h)

pub sha1_gives : (m : List ℕ) → length m ≤ 65536 → sha1_told m ≡ gives (sha1_of m)
unfolding sha1_told
sha1_gives m h = pick_false _ _ _ (le-ltb _ _ h)

pub md4_done : (m l d : List ℕ) (o : Order) → length l ≤ 65536 → o ≡ Little → l ≡ m → d ≡ output (chained compressed o l initial) → told_md4 (Ok d) ≡ md4_told m
unfolding md4_of
md4_done m l d o h e f g =
    let same = g ∙ (λ i. output (chained compressed (e i) (f i) initial)) in
    ap (λ (q : List ℕ). gives q) same ∙ sym (md4_gives m (subst (λ (q : List ℕ). length q ≤ 65536) f h))

pub md4_refuses : (m : List ℕ) (why : Refusal) → why ≡ BadArgument → 65536 < length m → told_md4 (Err why) ≡ md4_told m
unfolding md4_told
md4_refuses m why e h = ap (λ (w : Refusal). told_md4 (Err w)) e ∙ sym (pick_true _ _ _ (lt-ltb _ _ h))

pub sha1_done : (m l d : List ℕ) (o : Order) → length l ≤ 65536 → o ≡ Big → l ≡ m → d ≡ sha1.output (chained sha1.compressed o l sha1.initial) → told_sha1 (Ok d) ≡ sha1_told m
unfolding sha1_of
sha1_done m l d o h e f g =
    let same = g ∙ (λ i. sha1.output (chained sha1.compressed (e i) (f i) sha1.initial)) in
    ap (λ (q : List ℕ). gives q) same ∙ sym (sha1_gives m (subst (λ (q : List ℕ). length q ≤ 65536) f h))

pub sha1_refuses : (m : List ℕ) (why : Refusal) → why ≡ BadArgument → 65536 < length m → told_sha1 (Err why) ≡ sha1_told m
unfolding sha1_told
sha1_refuses m why e h = ap (λ (w : Refusal). told_sha1 (Err w)) e ∙ sym (pick_true _ _ _ (lt-ltb _ _ h))

md4_octets : (r l m : List ℕ) → told_md4 (Ok r) ≡ md4_told l → l ≡ m → length m ≤ 65536 → r ≡ md4_of m
md4_octets r l m e f h = ap (λ (t : Told (List ℕ)). t.value) (e ∙ ap md4_told f ∙ md4_gives m h)

sha1_octets : (r l m : List ℕ) → told_sha1 (Ok r) ≡ sha1_told l → l ≡ m → length m ≤ 65536 → r ≡ sha1_of m
sha1_octets r l m e f h = ap (λ (t : Told (List ℕ)). t.value) (e ∙ ap sha1_told f ∙ sha1_gives m h)

-- which is no refusal
unrefused : {A : Type 0} (why : Refusal) → refusal_of why ≡ 0 → A
unrefused why e = let listed = refusals_listed why in absurd (omega arith)

pub md4_ok : (r : Result (List ℕ) Refusal) (l m : List ℕ) → told_md4 r ≡ md4_told l → l ≡ m → length m ≤ 65536 → r ≡ Ok (md4_of m)
md4_ok (Ok r) l m e f h = ap (λ (q : List ℕ). Ok q) (md4_octets r l m e f h)
md4_ok (Err why) l m e f h = unrefused why (ap (λ (t : Told (List ℕ)). t.number) (e ∙ ap md4_told f ∙ md4_gives m h))

pub sha1_ok : (r : Result (List ℕ) Refusal) (l m : List ℕ) → told_sha1 r ≡ sha1_told l → l ≡ m → length m ≤ 65536 → r ≡ Ok (sha1_of m)
sha1_ok (Ok r) l m e f h = ap (λ (q : List ℕ). Ok q) (sha1_octets r l m e f h)
sha1_ok (Err why) l m e f h = unrefused why (ap (λ (t : Told (List ℕ)). t.number) (e ∙ ap sha1_told f ∙ sha1_gives m h))
