-- Laws of lists by their elements, and of octets put into others.
use Prim.Native.Nat.{ℕ, zero, suc, ◌+◌, ◌-◌, ◌≤◌, ◌<◌}
use native.Mathlib.Nat.{le_of_suc-le-suc, not-suc-le-zero, eq-or-lt_of_le}
use native.Mathlib.Numerals.{add-one}
use native.Mathlib.Omega.{arith}
use mathlib.Core.Logic.{⊎_elim}
use mathlib.Core.Path.{◌≡◌, refl, sym, ap, ◌∙◌}
use mathlib.Core.List.{List, [], ◌∷◌, ◌++◌, append_assoc, append-nil}
use lib.ListN.{length, take, drop, get_or, replicate, length-append, length-drop, length-replicate, get_or-replicate, drop_of_length-le, get_or-append, get_or-eq_default}
use lib.Seq.{length-take-le, get_or-take, take-append_seam, drop-append-add, drop-drop, get_or-append-add, get_or-drop, get_or_at, ext_get_or}
use borrow.Author.Tests.{le-leb}
use Rattle.octets.specs.Lists.{cells, sized, over, pasted, put}
use Rattle.octets.proofs.Exits.{below, pick_true}

pub length_cells : (n : ℕ) (f : ℕ → ℕ) → length (cells n f) ≡ n
unfolding cells
length_cells zero f = refl
length_cells (suc n) f = length-append (cells n f) (f n ∷ []) ∙ ap (λ (k : ℕ). k + 1) (length_cells n f) ∙ add-one n

pub get_or_cells : (n : ℕ) (f : ℕ → ℕ) (k : ℕ) → k < n → get_or (cells n f) k 0 ≡ f k
unfolding cells
get_or_cells zero f k h = absurd (not-suc-le-zero h)
get_or_cells (suc n) f k h =
    ⊎_elim
    (λ e. rw e (get_or_at (cells n f) (f n) [] 0 n (length_cells n f)))
    (λ l. get_or-append (cells n f) (f n ∷ []) 0 k (rw (length_cells n f) l) ∙ get_or_cells n f k l)
    (eq-or-lt_of_le (le_of_suc-le-suc h))

pub cells_same : (n : ℕ) (f g : ℕ → ℕ) → ((k : ℕ) → k < n → f k ≡ g k) → cells n f ≡ cells n g
cells_same n f g h =
    ext_get_or 0 (cells n f) (cells n g) (length_cells n f ∙ sym (length_cells n g))
    (λ k l. let i : k < n = rw (length_cells n f) at l in get_or_cells n f k i ∙ h k i ∙ sym (get_or_cells n g k i))

pub length_sized : (n : ℕ) (s : List ℕ) → length (sized n s) ≡ n
unfolding sized
length_sized n s = length_cells n (λ k. get_or s k 0)

pub get_or_sized : (n : ℕ) (s : List ℕ) (k : ℕ) → k < n → get_or (sized n s) k 0 ≡ get_or s k 0
unfolding sized
get_or_sized n s k h = get_or_cells n (λ j. get_or s j 0) k h

pub sized_take : (n : ℕ) (s : List ℕ) → n ≤ length s → sized n s ≡ take n s
sized_take n s h =
    ext_get_or 0 (sized n s) (take n s) (length_sized n s ∙ sym (length-take-le n s h))
    (λ i l. let k : i < n = rw (length_sized n s) at l in get_or_sized n s i k ∙ sym (get_or-take n s i 0 k))

-- zeros after s read as nothing does
get_or_replicated : (n k : ℕ) → ◌≡◌ {A = ℕ} (get_or (replicate n 0) k 0) 0
get_or_replicated zero k = refl
get_or_replicated (suc n) zero = refl
get_or_replicated (suc n) (suc k) = get_or_replicated n k

pub get_or_zeros : (s : List ℕ) (n k : ℕ) → get_or (s ++ replicate n 0) k 0 ≡ get_or s k 0
get_or_zeros [] n k = get_or_replicated n k
get_or_zeros (x ∷ s) n zero = refl
get_or_zeros (x ∷ s) n (suc k) = get_or_zeros s n k

-- a list of n octets, with whatever follows it
pub sized_append : (n : ℕ) (s t : List ℕ) → length s ≡ n → sized n (s ++ t) ≡ s
sized_append n s t e =
    ext_get_or 0 (sized n (s ++ t)) s (length_sized n (s ++ t) ∙ sym e)
    (λ i h. let k : i < n = rw (length_sized n (s ++ t)) at h in get_or_sized n (s ++ t) i k ∙ get_or-append s t 0 i (omega arith))

pub sized_own : (n : ℕ) (s : List ℕ) → length s ≡ n → sized n s ≡ s
sized_own n s e = ap (sized n) (sym (append-nil s)) ∙ sized_append n s [] e

-- octets over zeros: the octets, and zeros after them
pub over_zeros : (n : ℕ) (s : List ℕ) → length s ≤ n → over s (replicate n 0) ≡ sized n s
over_zeros n s h = ext_get_or 0 (over s (replicate n 0)) (sized n s) (all ∙ sym (length_sized n s)) at
  where
    all : length (over s (replicate n 0)) ≡ n
    all = simp (length-append, length-drop, length-replicate) (omega arith)

    past : (i : ℕ) → i < n → length s ≤ i → get_or (over s (replicate n 0)) i 0 ≡ 0
    past i k l =
        let e : i ≡ length s + (i - length s) = omega arith in
        let m : length s + (i - length s) < n = omega arith in
        ap (λ (j : ℕ). get_or (over s (replicate n 0)) j 0) e
        ∙ get_or-append-add s (drop (length s) (replicate n 0)) (i - length s) 0
        ∙ get_or-drop (length s) (replicate n 0) (i - length s) 0
        ∙ get_or-replicate n (length s + (i - length s)) 0 0 m

    at : (i : ℕ) → i < length (over s (replicate n 0)) → get_or (over s (replicate n 0)) i 0 ≡ get_or (sized n s) i 0
    at i k =
        let k' : i < n = rw all at k in
        below i (length s)
        (λ l. get_or-append s (drop (length s) (replicate n 0)) 0 i l ∙ sym (get_or_sized n s i k'))
        (λ l. past i k' l ∙ sym (get_or-eq_default s 0 l) ∙ sym (get_or_sized n s i k'))

-- the front of a padded list is the list
pub take_sized : (n : ℕ) (s : List ℕ) → length s ≤ n → take (length s) (sized n s) ≡ s
take_sized n s h = rw (← over_zeros n s h) (take-append_seam s (drop (length s) (replicate n 0)))

-- the front of a list so sized is the list sized to it
pub take_sized_sized : (i n : ℕ) (s : List ℕ) → i ≤ n → take i (sized n s) ≡ sized i s
unfolding sized
take_sized_sized i n s h =
    let k : i ≤ length (sized n s) = omega (arith, length_sized n s) in
    sym (sized_take i (sized n s) k) ∙ cells_same i (λ j. get_or (sized n s) j 0) (λ j. get_or s j 0) (λ j l. get_or_sized n s j (omega arith))

pub put_fits : (d s : List ℕ) (i : ℕ) → i + length s ≤ length d → put d i s ≡ take i d ++ s ++ drop (i + length s) d
unfolding put pasted
put_fits d s i h = pick_true _ _ _ (le-leb _ _ h)

-- what is put after w is written after w
pub put_over : (w v old : List ℕ) (n : ℕ) → n ≡ length w → n + length v ≤ length old → put (over w old) n v ≡ over (w ++ v) old
put_over w v old n e h =
    let k : length w + length v ≤ length (over w old) = omega (arith, length-append w (drop (length w) old), length-drop (length w) old) in
    ap (λ (m : ℕ). put (over w old) m v) e ∙ put_fits (over w old) v (length w) k ∙ simp (take-append_seam, drop-append-add, drop-drop, length-append)

pub put_front : (d q : List ℕ) → length q ≤ length d → put d 0 q ≡ over q d
put_front d q h = put_over [] q d 0 refl (omega arith)

put_as_over : (d a : List ℕ) (i : ℕ) → i + length a ≤ length d → put d i a ≡ over (take i d ++ a) d
put_as_over d a i h =
    let k : length (take i d) ≡ i = length-take-le i d (omega arith) in
    let n : length (take i d ++ a) ≡ i + length a = length-append (take i d) a ∙ ap (λ (m : ℕ). m + length a) k in
    put_fits d a i h ∙ ap (λ (m : ℕ). (take i d ++ a) ++ drop m d) (sym n)

-- two parts put one after the other are one part
pub put_put : (d a b : List ℕ) (i j : ℕ) → j ≡ i + length a → j + length b ≤ length d → put (put d i a) j b ≡ put d i (a ++ b)
put_put d a b i j e h =
    let k : length (take i d) ≡ i = length-take-le i d (omega arith) in
    let n : j ≡ length (take i d ++ a) = omega (arith, length-append (take i d) a) in
    ap (λ (l : List ℕ). put l j b) (put_as_over d a i (omega arith))
    ∙ put_over (take i d ++ a) b d j n h
    ∙ ap (λ (w : List ℕ). over w d) (append_assoc (take i d) a b)
    ∙ sym (put_as_over d (a ++ b) i (omega (arith, length-append a b)))

-- and so are three
pub put_three : (d a b c l1 l2 l3 : List ℕ) (i j k : ℕ) → l1 ≡ put d i a → l2 ≡ put l1 j b → l3 ≡ put l2 k c → j ≡ i + length a → k ≡ j + length b → k + length c ≤ length d → l3 ≡ put d i (a ++ b ++ c)
put_three d a b c l1 l2 l3 i j k e1 e2 e3 hj hk h =
    e3 ∙ ap (λ (l : List ℕ). put l k c) (e2 ∙ ap (λ (l : List ℕ). put l j b) e1 ∙ put_put d a b i j hj (omega arith))
    ∙ put_put d (a ++ b) c i k (omega (arith, length-append a b)) h

-- a part as long as the list takes its place
pub put_whole : (d s : List ℕ) → length s ≡ length d → put d 0 s ≡ s
put_whole d s e =
    let z : drop (length s) d ≡ [] = drop_of_length-le d {i = length s} (omega arith) in
    put_front d s (omega arith) ∙ rw z (append-nil s)
