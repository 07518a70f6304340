-- What a buffer holds after a state was written to it.
use Prim.Native.Nat.{ℕ}
use native.Mathlib.Omega.{arith}
use mathlib.Core.Path.{◌≡◌, sym, ap, ◌∙◌}
use mathlib.Core.List.{List, [], ◌∷◌, flatten, append-nil}
use lib.ListN.{length, drop, drop_of_length-le}
use borrow.Author.Tests.{eq-eqb, ne_eqb}
use Rattle.octets.specs.Lists.{over, Appended}
use Rattle.octets.proofs.Exits.{pick_true, pick_false}
use Rattle.octets.proofs.Appends.{Laid, laid_none, laid_more}
use Rattle.state.specs.Stored.{stored}

pub stored_so : (n : ℕ) (q s : List ℕ) → length s ≡ n → stored n q s ≡ q
unfolding stored
stored_so n q s h = pick_true _ _ _ (eq-eqb _ _ h)

pub stored_not : (n : ℕ) (q s : List ℕ) → (length s ≡ n → ⊥) → s ≡ stored n q s
unfolding stored
stored_not n q s h = sym (pick_false _ _ _ (ne_eqb _ _ h))

-- xs were appended to d from i, one after the other; next is the place after them
pub data AllAppended : List ℕ → ℕ → List (List ℕ) → ℕ → List ℕ → Type 0 where
  none : {d : List ℕ} {i : ℕ} → AllAppended d i [] i d
  more : {d x between after : List ℕ} {xs : List (List ℕ)} {i j next : ℕ} → Appended d i x j between → AllAppended between j xs next after → AllAppended d i (x ∷ xs) next after

laid_all : {q old d l : List ℕ} {xs : List (List ℕ)} {i n : ℕ} → Laid q old i d (flatten xs) → AllAppended d i xs n l → Laid q old n l []
unfolding flatten
laid_all p none = p
laid_all p (more a rest) = laid_all (laid_more a p) rest

-- all the parts of a list, where there is room for just these
pub stored_all : {xs : List (List ℕ)} {s l : List ℕ} {m n : ℕ} → AllAppended s 0 xs m l → length s ≡ n → length (flatten xs) ≡ n → l ≡ stored n (flatten xs) s
stored_all {xs} {s} {l} {m} {n} a h k =
    let p : Laid (flatten xs) s m l [] = laid_all (laid_none k (omega arith)) a in
    let e : p.front ≡ flatten xs = sym (append-nil p.front) ∙ p.whole in
    let z : drop (length (flatten xs)) s ≡ [] = drop_of_length-le s {i = length (flatten xs)} (omega arith) in
    p.now ∙ ap (λ (w : List ℕ). over w s) e ∙ rw z (append-nil (flatten xs)) ∙ sym (stored_so n (flatten xs) s h)
