-- Answers: 23 for what is too large, and one answer for every exit: `search answers`.
use Prim.Native.Nat.{ℕ, ◌-◌, ◌≤◌, ◌<◌}
use mathlib.Core.Path.{◌≡◌, sym, ap, ◌∙◌}
use mathlib.Core.List.{List}
use lib.ListN.{length, length-drop}
use borrow.Author.Rules.{rules}
use borrow.Author.Tests.{lt-ltb, le-ltb}
use Rattle.octets.proofs.Exits.{pick_true, pick_false}
use Rattle.answer.specs.Outcome.{gives, refuses}
use Rattle.mschap.specs.Users.{user_start, user_of}
use Rattle.mschap.specs.Answers.{limited, Place}

pub given : {A : Type 0} (size : ℕ) (zero x r : A) → size ≤ 256 → r ≡ x → gives r ≡ limited size zero x
unfolding limited
given {A} size zero x r h e = ap (λ (y : A). gives y) e ∙ sym (pick_false _ _ _ (le-ltb _ _ h))

pub given_not : {A : Type 0} (size : ℕ) (zero x : A) → 256 < size → refuses 23 zero ≡ limited size zero x
unfolding limited
given_not size zero x h = sym (pick_true _ _ _ (lt-ltb _ _ h))

-- the user's place
pub place_is : (name : List ℕ) (start : ℕ) → start ≡ user_start name → ◌≡◌ {A = Place} (record { start = start; len = length name - start }) (record { start = user_start name; len = length (user_of name) })
unfolding user_of
place_is name start e =
    let k : length (user_of name) ≡ length name - user_start name = length-drop (user_start name) name in
    cc

pub ruleset answers = (rules, given, given_not, place_is)
