-- The user's place in a name.
use Prim.Native.Nat.{ℕ, zero, suc, ◌+◌, ◌≤◌, ◌<◌, suc-le-suc}
use mathlib.Core.Path.{◌≡◌, refl, sym, ap, ◌∙◌}
use mathlib.Core.List.{List, [], ◌∷◌, ◌++◌}
use mathlib.Core.Bool.{false}
use native.Mathlib.Omega.{arith}
use lib.Dec.{eqb}
use lib.ListN.{length, get_or, drop, length-drop, drop_of_length-le}
use lib.Seq.{drop-cons, drop-append-add, take-length}
use borrow.Author.Tests.{eq-eqb, ne_eqb}
use Rattle.octets.specs.Choice.{pick}
use Rattle.octets.specs.Lists.{part}
use Rattle.octets.proofs.Exits.{pick_true, pick_false, arms}
use Rattle.mschap.specs.Users.{start_from, user_start, user_of}
use Rattle.mschap.specs.Promises.{Plain, UsersExact}

start_more : (s : List ℕ) (i : ℕ) → i < length s → (get_or s i 0 ≡ 92 → ⊥) → start_from i (drop i s) ≡ start_from (suc i) (drop (suc i) s)
unfolding start_from
start_more s i h e = rw (drop-cons s i 0 h) (pick_false _ _ _ (ne_eqb _ _ e))

-- i octets are passed, none of them a backslash
start_on : (s : List ℕ) (i : ℕ) → i ≤ length s → ((k : ℕ) → k < i → get_or s k 0 ≡ 92 → ⊥) → user_start s ≡ start_from i (drop i s)
unfolding user_start
start_on s zero h f = refl
start_on s (suc i) h f = start_on s i (omega arith) (λ k l. f k (omega arith)) ∙ start_more s i h (f i (omega arith))

pub start_found : (s : List ℕ) (i : ℕ) → i < length s → get_or s i 0 ≡ 92 → ((k : ℕ) → k < i → get_or s k 0 ≡ 92 → ⊥) → i + 1 ≡ user_start s
unfolding start_from
start_found s i h e f =
    let here : start_from i (drop i s) ≡ suc i = rw (drop-cons s i 0 h) (pick_true _ _ _ (eq-eqb _ _ e)) in
    sym (start_on s i (omega arith) f ∙ here ∙ omega arith)

pub start_none : (s : List ℕ) → ((k : ℕ) → k < length s → get_or s k 0 ≡ 92 → ⊥) → 0 ≡ user_start s
unfolding start_from
start_none s f = sym (start_on s (length s) (omega arith) f ∙ simp (drop_of_length-le s {i = length s} (omega arith)))

start_most : (i : ℕ) (s : List ℕ) → start_from i s ≤ i + length s
unfolding start_from
start_most i [] = omega arith
start_most i (x ∷ s) =
    let h = start_most (suc i) s in
    arms (λ (n : ℕ). n ≤ i + length (x ∷ s)) (eqb x 92) (omega arith) (omega arith)

-- ---- for callers
pub user_start_lem : (name : List ℕ) → user_start name ≤ length name
unfolding user_start
user_start_lem name = omega (arith, start_most 0 name)

-- the user lies at the end of the name
pub user_ends : (name : List ℕ) → user_start name + length (user_of name) ≡ length name
unfolding user_of
user_ends name = omega (arith, user_start_lem name, length-drop (user_start name) name)

user_part : (name : List ℕ) → part name (user_start name) (length (user_of name)) ≡ user_of name
unfolding user_of
user_part name = take-length (drop (user_start name) name)

pub user_shorter : (name : List ℕ) → length (user_of name) ≤ length name
user_shorter name = omega (arith, user_ends name)

-- ---- the user by the name's form
plain_rest : (x : ℕ) (p : List ℕ) → Plain (x ∷ p) → Plain p
plain_rest x p h k l = h (suc k) (suc-le-suc l)

plain_first : (x : ℕ) (p : List ℕ) → Plain (x ∷ p) → eqb x 92 ≡ false
plain_first x p h = ne_eqb x 92 (h 0 (omega arith))

start_after : (i : ℕ) (p u : List ℕ) → Plain p → start_from i (p ++ (92 ∷ u)) ≡ i + length p + 1
unfolding start_from pick
start_after i [] u h = omega arith
start_after i (x ∷ p) u h = pick_false _ _ _ (plain_first x p h) ∙ start_after (suc i) p u (plain_rest x p h) ∙ omega arith

start_nowhere : (i : ℕ) (p : List ℕ) → Plain p → start_from i p ≡ 0
unfolding start_from
start_nowhere i [] h = refl
start_nowhere i (x ∷ p) h = pick_false _ _ _ (plain_first x p h) ∙ start_nowhere (suc i) p (plain_rest x p h)

-- what stands after the first backslash
user_after : (p u : List ℕ) → Plain p → user_of (p ++ (92 ∷ u)) ≡ u
unfolding user_of user_start
user_after p u h =
    let e : start_from 0 (p ++ (92 ∷ u)) ≡ length p + 1 = start_after 0 p u h ∙ omega arith in
    ap (λ (n : ℕ). drop n (p ++ (92 ∷ u))) e ∙ drop-append-add p (92 ∷ u) 1

-- all of a name that has none
user_all : (p : List ℕ) → Plain p → user_of p ≡ p
unfolding user_of user_start
user_all p h = ap (λ (n : ℕ). drop n p) (start_nowhere 0 p h)

pub users_exact : UsersExact
users_exact = record { after = user_after; all = user_all; within = user_part }
