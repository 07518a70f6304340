-- What holds at each turn of a loop, and one answer for every need: `search loops`.
use Prim.Native.Nat.{ℕ, ◌+◌, ◌<◌, ◌≤◌}
use mathlib.Core.Path.{◌≡◌, refl, sym, ap, ◌∙◌}
use mathlib.Core.List.{List, [], ◌∷◌, ◌++◌}
use native.Mathlib.Numerals.{add-one}
use native.Mathlib.Omega.{arith}
use lib.ListN.{length, take, set, length-set}
use lib.Seq.{take-suc-set, take_all}
use borrow.Author.Rules.{rules}
use Rattle.octets.specs.Lists.{cells, turns}

-- ---- filling: i elements of dst, n long, are f's
pub record Filled (n : ℕ) (f : ℕ → ℕ) (dst : List ℕ) (i : ℕ) : Type 0 where
  pub long : length dst ≡ n
  pub most : i ≤ n
  pub front : take i dst ≡ cells i f

pub fill_none : {n : ℕ} {f : ℕ → ℕ} {dst : List ℕ} → length dst ≡ n → Filled n f dst 0
unfolding cells
fill_none {n} e = record { long = e; most = omega arith; front = refl }

pub fill_more : {n : ℕ} {f : ℕ → ℕ} {dst : List ℕ} {i a : ℕ} → Filled n f dst i → i < n → a ≡ f i → Filled n f (set dst i a) (i + 1)
unfolding cells
fill_more {n} {f} {dst} {i} {a} p h e =
    let h' : i < length dst = omega arith in
    record {
      long = length-set dst i a ∙ p.long;
      most = omega arith;
      front = rw add-one (take-suc-set dst i a h' ∙ ap (λ (l : List ℕ). l ++ (a ∷ [])) p.front ∙ ap (λ (x : ℕ). cells i f ++ (x ∷ [])) e);
    }

pub fill_done : {n : ℕ} {f : ℕ → ℕ} {dst : List ℕ} {i : ℕ} → Filled n f dst i → n ≤ i → dst ≡ cells n f
fill_done {n} {f} {dst} {i} p h =
    let e : i ≡ n = omega arith in
    sym (take_all i dst (omega arith)) ∙ p.front ∙ ap (λ (k : ℕ). cells k f) e

-- ---- folding: r is s after t turns of n
pub record Turned {A B : Type 0} (n : ℕ) (f : ℕ → B → A → A) (x : ℕ → B) (s r : A) (t : ℕ) : Type 0 where
  pub most : t ≤ n
  pub is : r ≡ turns f x s t

pub turn_none : {A B : Type 0} {n : ℕ} {f : ℕ → B → A → A} {x : ℕ → B} {s : A} → Turned n f x s s 0
unfolding turns
turn_none = record { most = omega arith; is = refl }

pub turn_more : {A B : Type 0} {n : ℕ} {f : ℕ → B → A → A} {x : ℕ → B} {s r r' : A} {y : B} {t : ℕ} → Turned n f x s r t → t < n → r' ≡ f t y r → y ≡ x t → Turned n f x s r' (t + 1)
unfolding turns
turn_more {A} {B} {n} {f} {x} {s} {r} {r'} {y} {t} p h e k =
    record { most = omega arith; is = rw add-one (e ∙ ap (λ (z : B). f t z r) k ∙ ap (f t (x t)) p.is) }

pub turn_done : {A B : Type 0} {n : ℕ} {f : ℕ → B → A → A} {x : ℕ → B} {s r : A} {t : ℕ} → Turned n f x s r t → n ≤ t → r ≡ turns f x s n
turn_done {A} {B} {n} {f} {x} {s} {r} {t} p h =
    let e : t ≡ n = omega arith in
    p.is ∙ ap (turns f x s) e

pub ruleset filling = (rules, fill_none, fill_more, fill_done)

pub ruleset turning = (rules, turn_none, turn_more, turn_done)

pub ruleset loops = (filling, turning)
