-- Appending: the exits of one append, and a list laid down part by part.
use Prim.Native.Nat.{ℕ, ◌+◌, ◌-◌, ◌≤◌, ◌<◌}
use mathlib.Core.Path.{◌≡◌, refl, sym, ap, ◌∙◌}
use mathlib.Core.List.{List, [], ◌++◌, append_assoc, append-nil}
use native.Mathlib.Omega.{arith}
use lib.ListN.{length, take, drop, length-append, length-drop}
use lib.Seq.{length-take-le, drop-drop}
use borrow.Rule.Slice.PartMut.{put_mid}
use borrow.Author.Tests.{le-leb, lt-leb}
use Rattle.octets.specs.Lists.{cells, over, put, next_at, Appended}
use Rattle.octets.proofs.Exits.{pick_true, pick_false}
use Rattle.octets.proofs.Lists.{length_cells, put_fits, put_over, put_front}

next_fits : (d s : List ℕ) (i : ℕ) → i + length s ≤ length d → next_at d i s ≡ i + length s
unfolding next_at
next_fits d s i h = pick_true _ _ _ (le-leb _ _ h)

next_not : (d s : List ℕ) (i : ℕ) → length d < i + length s → next_at d i s ≡ i
unfolding next_at
next_not d s i h = pick_false _ _ _ (lt-leb _ _ h)

put_not : (d s : List ℕ) (i : ℕ) → length d < i + length s → d ≡ put d i s
unfolding put
put_not d s i h = sym (pick_false _ _ _ (lt-leb _ _ h))

-- there is no room for s
pub append_not : (d s : List ℕ) (i : ℕ) → length d < i + length s → Appended d i s i d
append_not d s i h = record { place = sym (next_not d s i h); now = put_not d s i h }

-- a part of d was lent, and s written there
pub append_part : (d s l : List ℕ) (i end : ℕ) → end ≡ i + length s → end ≤ length d → l ≡ s → Appended d i s end (put_mid i (end - i) d l)
append_part d s l i end e h w =
    let k : i + length s ≤ length d = omega arith in
    let z : i + (end - i) ≡ i + length s = omega arith in
    record {
      place = e ∙ sym (next_fits d s i k);
      now = rw (w, drop-drop, z) (sym (append_assoc (take i d) s (drop (i + length s) d)) ∙ sym (put_fits d s i k));
    }

-- the same of n octets by their places
pub append_cells_not : (d : List ℕ) (f : ℕ → ℕ) (i n : ℕ) → length d < i + n → Appended d i (cells n f) i d
append_cells_not d f i n h = append_not d (cells n f) i (omega (arith, length_cells n f))

pub append_cells : (d l : List ℕ) (f : ℕ → ℕ) (i n end : ℕ) → end ≡ i + n → end ≤ length d → l ≡ cells (length (take (end - i) (drop i d))) f → Appended d i (cells n f) end (put_mid i (end - i) d l)
append_cells d l f i n end e h w =
    let m : length (take (end - i) (drop i d)) ≡ n = length-take-le (end - i) (drop i d) (omega (arith, length-drop i d)) ∙ omega arith in
    append_part d (cells n f) l i end (omega (arith, length_cells n f)) h (rw m at w)

pub appended_by : (d s t l : List ℕ) (i n : ℕ) → Appended d i s n l → s ≡ t → Appended d i t n l
appended_by d s t l i n p e = rw e at p

-- what is appended at the front of a list that has room for it
pub appended_front : (d q l : List ℕ) (n : ℕ) → length q ≤ length d → Appended d 0 q n l → (n ≡ length q) × (l ≡ over q d)
appended_front d q l n h p = (p.place ∙ next_fits d q 0 (omega arith) ∙ omega arith, p.now ∙ put_front d q h)

-- n octets of q stand at the front of l, the rest of q is to come, and the rest of l is old's
pub record Laid (q old : List ℕ) (n : ℕ) (l rest : List ℕ) : Type 0 where
  pub front : List ℕ
  pub whole : front ++ rest ≡ q
  pub size : length front ≡ n
  pub room : length q ≤ length old
  pub now : l ≡ over front old

-- a list of n octets, for which there is room
pub laid_none : {q old : List ℕ} {n : ℕ} → length q ≡ n → n ≤ length old → Laid q old 0 old q
laid_none e h = record { front = []; whole = refl; size = refl; room = rw e h; now = refl }

pub laid_more : {q old : List ℕ} {n n' : ℕ} {l l' v rest : List ℕ} → Appended l n v n' l' → Laid q old n l (v ++ rest) → Laid q old n' l' rest
laid_more {q} {old} {n} {n'} {l} {l'} {v} {rest} a p =
    let w = p.front in
    let e : length q ≡ length w + (length v + length rest) = sym (ap length p.whole) ∙ length-append w (v ++ rest) ∙ ap (λ (k : ℕ). length w + k) (length-append v rest) in
    let h : n + length v ≤ length old = omega arith in
    let k : length l ≡ length old = ap length p.now ∙ omega (arith, length-append w (drop (length w) old), length-drop (length w) old) in
    record {
      front = w ++ v;
      whole = append_assoc w v rest ∙ p.whole;
      size = length-append w v ∙ sym (a.place ∙ next_fits l v n (omega arith) ∙ omega arith);
      room = p.room;
      now = a.now ∙ ap (λ (m : List ℕ). put m n v) p.now ∙ put_over w v old n (sym p.size) h;
    }

-- nothing is to come
laid_all : (q old l : List ℕ) (n : ℕ) → Laid q old n l [] → Appended old 0 q n l
laid_all q old l n p =
    let e : p.front ≡ q = sym (append-nil p.front) ∙ p.whole in
    record {
      place = sym p.size ∙ ap length e ∙ sym (next_fits old q 0 (omega arith) ∙ omega arith);
      now = p.now ∙ ap (λ (w : List ℕ). over w old) e ∙ sym (put_front old q p.room);
    }

-- the last part
pub laid_done : {q old : List ℕ} {n n' : ℕ} {l l' v : List ℕ} → Appended l n v n' l' → Laid q old n l v → Appended old 0 q n' l'
laid_done {q} {old} {n} {n'} {l} {l'} {v} a p =
    let p' : Laid q old n l (v ++ []) = rw (append-nil v) p in
    laid_all q old l' n' (laid_more a p')
