-- The schedule of SHA-1 in sixteen places, and the rounds over it, one part after the other.
use Rattle.std.proofs.Common.{◌≡◌, ℕ, zero, suc, ◌+◌, ◌-◌, ◌%◌, ◌<◌, ◌≤◌, List, [], ◌∷◌, ◌++◌, length, get_or, drop, set, sym, refl, ap, ◌∙◌, add-zero, add_assoc, add-suc, add-one, arith, length-append, length-drop, length-set, get_or-drop, get_or-set_other, get_or-set_same, drop-drop, ext_get_or, rules}
use native.Mathlib.Decide.{ℕ_discrete}
use lib.Bits.{bit_xor}
use lib.ListN.{get_or-append}
use lib.Seq.{drop-append-le, get_or-append_seam}
use Rattle.octets.specs.Lists.{cells, sized, turns}
use Rattle.octets.proofs.Lists.{length_cells, get_or_cells, cells_same, sized_own}
use Rattle.digest.specs.Words.{rotl}
use Rattle.digest.specs.Sha1.{next_word, extended, schedule, round, rounds}
use Rattle.digest.specs.declared.sha1_rounds.Buffer.{Buffer}

-- ---- words added to others
length_extended : (w : List ℕ) (n : ℕ) → length (extended w n) ≡ length w + n
unfolding extended
length_extended w zero = sym (add-zero (length w))
length_extended w (suc n) = length-append (extended w n) _ ∙ omega (arith, length_extended w n)

-- m words more and n words more are m + n words more
extended_more : (w : List ℕ) (m n : ℕ) → extended (extended w m) n ≡ extended w (m + n)
unfolding extended
extended_more w m zero = ap (extended w) (sym (add-zero m))
extended_more w m (suc n) =
    let k : length (extended w m) + n ≡ length w + (m + n) = omega (arith, length_extended w m) in
    rw add-suc (λ i. extended_more w m n i ++ (next_word (extended_more w m n i) (k i) ∷ []))

-- words that are added change none before them
extended_on : (w : List ℕ) (m n i : ℕ) → i < length w + m → get_or (extended w (m + n)) i 0 ≡ get_or (extended w m) i 0
unfolding extended
extended_on w m zero i h = ap (λ (k : ℕ). get_or (extended w k) i 0) (add-zero m)
extended_on w m (suc n) i h =
    rw add-suc (get_or-append (extended w (m + n)) _ 0 i (omega (arith, length_extended w (m + n))) ∙ extended_on w m n i h)

extended_front : (w : List ℕ) (m n i : ℕ) → m ≤ n → i < length w + m → get_or (extended w n) i 0 ≡ get_or (extended w m) i 0
extended_front w m n i h l =
    let e : n ≡ m + (n - m) = omega arith in
    ap (λ (k : ℕ). get_or (extended w k) i 0) e ∙ extended_on w m (n - m) i l

-- the next word is made of the sixteen before it
next_as : (l m : List ℕ) (j k : ℕ) → ((d : ℕ) → 0 < d → d ≤ 16 → get_or l (j - d) 0 ≡ get_or m (k - d) 0) → next_word l j ≡ next_word m k
unfolding next_word
next_as l m j k e =
    let a = e 3 (omega arith) (omega arith) in
    let b = e 8 (omega arith) (omega arith) in
    let c = e 14 (omega arith) (omega arith) in
    let d = e 16 (omega arith) (omega arith) in
    λ i. rotl 1 (bit_xor (bit_xor (bit_xor (a i) (b i)) (c i)) (d i))

last_word : (w : List ℕ) (k : ℕ) → get_or (extended w (suc k)) (length w + k) 0 ≡ next_word (extended w k) (length w + k)
unfolding extended
last_word w k = ap (λ (j : ℕ). get_or (extended w (suc k)) j 0) (sym (length_extended w k)) ∙ get_or-append_seam (extended w k) _ [] 0

-- each word that was added is the next one of those before it
extended_word : (w : List ℕ) (n k : ℕ) → 16 ≤ length w → k < n → get_or (extended w n) (length w + k) 0 ≡ next_word (extended w n) (length w + k)
extended_word w n k h l =
    extended_front w (suc k) n (length w + k) (omega arith) (omega arith)
    ∙ last_word w k
    ∙ next_as (extended w k) (extended w n) (length w + k) (length w + k) (λ d g s. sym (extended_front w k n (length w + k - d) (omega arith) (omega arith)))

-- of a list the last sixteen words are enough
extended_drop : (w : List ℕ) (t n : ℕ) → t + 16 ≤ length w → extended (drop t w) n ≡ drop t (extended w n)
unfolding extended
extended_drop w t zero h = refl
extended_drop w t (suc n) h =
    let e = extended_drop w t n h in
    let l = length_extended w n in
    let x : next_word (extended (drop t w) n) (length (drop t w) + n) ≡ next_word (extended w n) (length w + n) =
    ap (λ (v : List ℕ). next_word v (length (drop t w) + n)) e ∙ next_as _ _ _ _ before in
    (λ i. e i ++ (x i ∷ [])) ∙ sym (drop-append-le t (extended w n) _ (omega arith))
  where
    before : (d : ℕ) → 0 < d → d ≤ 16 → get_or (drop t (extended w n)) (length (drop t w) + n - d) 0 ≡ get_or (extended w n) (length w + n - d) 0
    before d g s =
        let k : t + (length (drop t w) + n - d) ≡ length w + n - d = omega (arith, length-drop t w) in
        get_or-drop t (extended w n) (length (drop t w) + n - d) 0 ∙ ap (λ (j : ℕ). get_or (extended w n) j 0) k

-- ---- sixteen places
-- the sixteen words before W(t): W(i) stands in place i % 16
abbrev pub last_at : ℕ → List ℕ → List ℕ
last_at t w = cells 16 (λ k. get_or w ((t + k) % 16) 0)

-- W(t) of w, for t from 16 on
abbrev mixed : List ℕ → ℕ → ℕ
mixed w t = rotl 1 (bit_xor (bit_xor (bit_xor (get_or w ((t + 13) % 16) 0) (get_or w ((t + 8) % 16) 0)) (get_or w ((t + 2) % 16) 0)) (get_or w (t % 16) 0))

-- k of n rounds from t on were made; v are the sixteen places before them, w after: for the last sixteen i, place (t + i) % 16 holds word i
pub record Ring (t n : ℕ) (v : List ℕ) (r : Buffer) (w : List ℕ) (q : Buffer) (k : ℕ) : Type 0 where
  pub long : length w ≡ 16
  pub most : k ≤ n
  pub last : (i : ℕ) → k ≤ i → i < k + 16 → get_or w ((t + i) % 16) 0 ≡ get_or (extended (last_at t v) n) i 0
  pub is : q ≡ turns (λ j. round (t + j)) (λ j. get_or (extended (last_at t v) n) (16 + j) 0) r k

pub ring_none : {t n : ℕ} {v : List ℕ} {r : Buffer} → length v ≡ 16 → Ring t n v r v r 0
unfolding extended turns
ring_none {t} {n} {v} {r} e =
    record {
      long = e;
      most = omega arith;
      last = λ i h l. sym (extended_front (last_at t v) 0 n i (omega arith) (omega (arith, length_cells 16 (λ k. get_or v ((t + k) % 16) 0))) ∙ get_or_cells 16 (λ k. get_or v ((t + k) % 16) 0) i l);
      is = refl;
    }

ring_word : (t n : ℕ) (v : List ℕ) (r : Buffer) (w : List ℕ) (q : Buffer) (k : ℕ) → Ring t n v r w q k → k < n → mixed w (t + k) ≡ get_or (extended (last_at t v) n) (16 + k) 0
unfolding next_word
ring_word t n v r w q k p h =
    let z = length_cells 16 (λ j. get_or v ((t + j) % 16) 0) in
    let a = at 3 (k + 13) (t + k + 13) (omega arith) (omega arith) (omega arith) (omega arith) in
    let b = at 8 (k + 8) (t + k + 8) (omega arith) (omega arith) (omega arith) (omega arith) in
    let c = at 14 (k + 2) (t + k + 2) (omega arith) (omega arith) (omega arith) (omega arith) in
    let d = at 16 k (t + k) (omega arith) (omega arith) (omega arith) (omega arith) in
    let m : 16 + k ≡ length (last_at t v) + k = omega arith in
    (λ i. rotl 1 (bit_xor (bit_xor (bit_xor (a i) (b i)) (c i)) (d i))) ∙ sym (ap (λ (j : ℕ). get_or (extended (last_at t v) n) j 0) m ∙ extended_word (last_at t v) n k (omega arith) h)
  where
    at : (d i j : ℕ) → k ≤ i → i < k + 16 → j ≡ t + i → i ≡ length (last_at t v) + k - d → get_or w (j % 16) 0 ≡ get_or (extended (last_at t v) n) (length (last_at t v) + k - d) 0
    at d i j g l e m = ap (λ (x : ℕ). get_or w (x % 16) 0) e ∙ p.last i g l ∙ ap (λ (x : ℕ). get_or (extended (last_at t v) n) x 0) m

pub ring_more : {t n : ℕ} {v : List ℕ} {r : Buffer} {w : List ℕ} {q q' : Buffer} {k x : ℕ} → Ring t n v r w q k → k < n → x ≡ mixed w (t + k) → q' ≡ round (t + k) x q → Ring t n v r (set w ((t + k) % 16) x) q' (k + 1)
unfolding turns
ring_more {t} {n} {v} {r} {w} {q} {q'} {k} {x} p h e f =
    record {
      long = length-set w ((t + k) % 16) x ∙ p.long;
      most = omega arith;
      last = λ i g l. by i g l (ℕ_discrete i (k + 16));
      is = rw add-one (f ∙ (λ i. round (t + k) (word i) (p.is i)));
    }
  where
    word : x ≡ get_or (extended (last_at t v) n) (16 + k) 0
    word = e ∙ ring_word t n v r w q k p h

    by : (i : ℕ) → k + 1 ≤ i → i < k + 1 + 16 → Dec (i ≡ k + 16) → get_or (set w ((t + k) % 16) x) ((t + i) % 16) 0 ≡ get_or (extended (last_at t v) n) i 0
    by i g l (yes d) =
        let a : (t + i) % 16 ≡ (t + k) % 16 = omega arith in
        let b : i ≡ 16 + k = omega arith in
        rw (a, b) (get_or-set_same w ((t + k) % 16) x 0 (omega arith) ∙ word)
    by i g l (no d) = get_or-set_other w ((t + k) % 16) ((t + i) % 16) x 0 (λ a. absurd (omega arith)) ∙ p.last i (omega arith) (omega arith)

pub ring_words : {t n : ℕ} {v : List ℕ} {r : Buffer} {w : List ℕ} {q : Buffer} {k : ℕ} → Ring t n v r w q k → n ≤ k → cells 16 (λ j. get_or w ((t + n + j) % 16) 0) ≡ drop n (extended (last_at t v) n)
ring_words {t} {n} {v} {r} {w} {q} {k} p h =
    let z = length_cells 16 (λ j. get_or v ((t + j) % 16) 0) in
    let m : length (last_at (t + n) w) ≡ length (drop n (extended (last_at t v) n)) = omega (arith, length_cells 16 (λ j. get_or w ((t + n + j) % 16) 0), length-drop n (extended (last_at t v) n), length_extended (last_at t v) n) in
    ext_get_or 0 (last_at (t + n) w) (drop n (extended (last_at t v) n)) m (λ i l. place i (omega (arith, length_cells 16 (λ j. get_or w ((t + n + j) % 16) 0))))
  where
    place : (i : ℕ) → i < 16 → get_or (last_at (t + n) w) i 0 ≡ get_or (drop n (extended (last_at t v) n)) i 0
    place i l =
        let a : t + n + i ≡ t + (n + i) = omega arith in
        get_or_cells 16 (λ j. get_or w ((t + n + j) % 16) 0) i l ∙ ap (λ (j : ℕ). get_or w (j % 16) 0) a ∙ p.last (n + i) (omega arith) (omega arith) ∙ sym (get_or-drop n (extended (last_at t v) n) i 0)

pub ring_done : {t n : ℕ} {v : List ℕ} {r : Buffer} {w : List ℕ} {q : Buffer} {k : ℕ} → Ring t n v r w q k → n ≤ k → q ≡ turns (λ j. round (t + j)) (λ j. get_or (extended (last_at t v) n) (16 + j) 0) r n
ring_done {t} {n} {v} {r} {w} {q} {k} p h =
    let e : k ≡ n = omega arith in
    p.is ∙ ap (turns (λ j. round (t + j)) (λ j. get_or (extended (last_at t v) n) (16 + j) 0) r) e

-- ---- the rounds
-- n rounds after m rounds are m + n rounds
rounds_more : (t m n : ℕ) (w : List ℕ) (r : Buffer) → rounds (t + m) n w (rounds t m w r) ≡ rounds t (m + n) w r
unfolding rounds turns
rounds_more t m zero w r = ap (λ (k : ℕ). rounds t k w r) (sym (add-zero m))
rounds_more t m (suc n) w r =
    let e = add_assoc t m n in
    rw add-suc (λ i. round (e i) (get_or w (e i) 0) (rounds_more t m n w r i))

turns_same : {A B : Type 0} (f g : ℕ → B → A → A) (x y : ℕ → B) (s : A) (n : ℕ) → ((k : ℕ) → k < n → (a : A) → f k (x k) a ≡ g k (y k) a) → turns f x s n ≡ turns g y s n
unfolding turns
turns_same f g x y s zero e = refl
turns_same f g x y s (suc n) e = ap (f n (x n)) (turns_same f g x y s n (λ k h. e k (omega arith))) ∙ e n (omega arith) (turns g y s n)

-- t rounds after the first sixteen were made, and v are the sixteen words before the next one
pub record Reached (block : List ℕ) (r : Buffer) (t : ℕ) (v : List ℕ) (q : Buffer) : Type 0 where
  pub words : v ≡ drop t (extended block t)
  pub is : q ≡ rounds 0 (16 + t) (schedule block) r

pub reached_first : (block : List ℕ) (r q : Buffer) → length block ≡ 16 → q ≡ turns round (λ k. get_or block k 0) r 16 → Reached block r 0 (last_at 16 block) q
unfolding extended rounds sized
reached_first block r q e f =
    record {
      words = cells_same 16 (λ k. get_or block ((16 + k) % 16) 0) (λ k. get_or block k 0) place ∙ sized_own 16 block e;
      is = f ∙ turns_same round (λ k. round (0 + k)) (λ k. get_or block k 0) (λ k. get_or (schedule block) (0 + k) 0) r 16 same;
    }
  where
    place : (k : ℕ) → k < 16 → get_or block ((16 + k) % 16) 0 ≡ get_or block k 0
    place k h =
        let i : (16 + k) % 16 ≡ k = omega arith in
        ap (λ (j : ℕ). get_or block j 0) i

    same : (k : ℕ) → k < 16 → (a : Buffer) → round k (get_or block k 0) a ≡ round (0 + k) (get_or (schedule block) (0 + k) 0) a
    same k h a =
        let i : k ≡ 0 + k = omega arith in
        ap (λ (x : ℕ). round k x a) (sym (extended_front block 0 64 k (omega arith) (omega arith))) ∙ ap (λ (j : ℕ). round j (get_or (schedule block) j 0) a) i

pub reached_next : (block : List ℕ) (r : Buffer) (t n : ℕ) {v w : List ℕ} {q q' : Buffer} → length block ≡ 16 → t + n ≤ 64 → Reached block r t v q → w ≡ drop n (extended v n) → q' ≡ turns (λ k. round (16 + t + k)) (λ k. get_or (extended v n) (16 + k) 0) q n → Reached block r (t + n) w q'
unfolding rounds
reached_next block r t n {v} {w} {q} {q'} e h p a b =
    let l : 16 + t + n ≡ 16 + (t + n) = omega arith in
    let m : 16 + t ≡ 0 + (16 + t) = omega arith in
    record {
      words = a ∙ ap (drop n) more ∙ drop-drop n t (extended block (t + n));
      is = b ∙ turns_same (λ k. round (16 + t + k)) (λ k. round (16 + t + k)) _ (λ k. get_or (schedule block) (16 + t + k) 0) q n (λ k g x. ap (λ (y : ℕ). round (16 + t + k) y x) (word k g))
          ∙ (λ i. rounds (m i) n (schedule block) (p.is i)) ∙ rounds_more 0 (16 + t) n (schedule block) r ∙ ap (λ (j : ℕ). rounds 0 j (schedule block) r) l;
    }
  where
    more : extended v n ≡ drop t (extended block (t + n))
    more = ap (λ (d : List ℕ). extended d n) p.words ∙ extended_drop (extended block t) t n (omega (arith, length_extended block t)) ∙ ap (drop t) (extended_more block t n)

    word : (k : ℕ) → k < n → get_or (extended v n) (16 + k) 0 ≡ get_or (schedule block) (16 + t + k) 0
    word k g =
        let i : t + (16 + k) ≡ 16 + t + k = omega arith in
        ap (λ (d : List ℕ). get_or d (16 + k) 0) more ∙ get_or-drop t (extended block (t + n)) (16 + k) 0 ∙ ap (λ (j : ℕ). get_or (extended block (t + n)) j 0) i
        ∙ sym (extended_front block (t + n) 64 (16 + t + k) h (omega arith))

pub ruleset sha1_loops = (rules, ring_none, ring_more)
