-- The number of an answer is one of the list, and tells answers apart.
use Prim.Native.Nat.{ℕ}
use mathlib.Core.Path.{◌≡◌, refl, sym, ap, ◌∙◌}
use mathlib.Core.List.{List, [], ◌∷◌}
use mathlib.Core.Logic.{inl, inr}
use native.Mathlib.Omega.{arith}
use lib.ListN.{get_or}
use Rattle.answer.specs.Answer.{refusal_of, number_of}
use Rattle.answer.specs.Promises.{IsRefusal, NumbersListed, NumbersApart}
use Rattle.std.specs.Prelude.{Result, Ok, Err}
use Rattle.answer.specs.declared.Done.{Done}
use Rattle.answer.specs.declared.Done.TheVariants.{Written, NeedsCredentials, Authenticated, Ended}
use Rattle.answer.specs.declared.Refusal.{Refusal}
use Rattle.answer.specs.declared.Refusal.TheVariants.{Short, BadLength, TooLong, BadCode, BadType, BadOpCode, BadMsLength, BadForm, WrongIdentifier, NotTaken, NoRoom, BadTable, SameChallenge, BadArgument}

-- the answer of each number from 0 to 23; 4 to 9 are no answer's numbers, and anything stands there
answers : List (Result Done Refusal)
answers =
    Ok Written ∷ Ok NeedsCredentials ∷ Ok Authenticated ∷ Ok Ended
    ∷ Ok Written ∷ Ok Written ∷ Ok Written ∷ Ok Written ∷ Ok Written ∷ Ok Written
    ∷ Err Short ∷ Err BadLength ∷ Err TooLong ∷ Err BadCode ∷ Err BadType
    ∷ Err BadOpCode ∷ Err BadMsLength ∷ Err BadForm ∷ Err WrongIdentifier ∷ Err NotTaken
    ∷ Err NoRoom ∷ Err BadTable ∷ Err SameChallenge ∷ Err BadArgument ∷ []

back : (a : Result Done Refusal) → get_or answers (number_of a) (Ok Written) ≡ a
unfolding answers
back (Ok Written) = refl
back (Ok NeedsCredentials) = refl
back (Ok Authenticated) = refl
back (Ok Ended) = refl
back (Err Short) = refl
back (Err BadLength) = refl
back (Err TooLong) = refl
back (Err BadCode) = refl
back (Err BadType) = refl
back (Err BadOpCode) = refl
back (Err BadMsLength) = refl
back (Err BadForm) = refl
back (Err WrongIdentifier) = refl
back (Err NotTaken) = refl
back (Err NoRoom) = refl
back (Err BadTable) = refl
back (Err SameChallenge) = refl
back (Err BadArgument) = refl

pub numbers_apart : NumbersApart
numbers_apart a b e = sym (back a) ∙ ap (λ (n : ℕ). get_or answers n (Ok Written)) e ∙ back b

-- ---- "What a call answers": 0 to 3 and 10 to 23
pub refusals_listed : (why : Refusal) → IsRefusal (refusal_of why)
refusals_listed Short = (omega arith, omega arith)
refusals_listed BadLength = (omega arith, omega arith)
refusals_listed TooLong = (omega arith, omega arith)
refusals_listed BadCode = (omega arith, omega arith)
refusals_listed BadType = (omega arith, omega arith)
refusals_listed BadOpCode = (omega arith, omega arith)
refusals_listed BadMsLength = (omega arith, omega arith)
refusals_listed BadForm = (omega arith, omega arith)
refusals_listed WrongIdentifier = (omega arith, omega arith)
refusals_listed NotTaken = (omega arith, omega arith)
refusals_listed NoRoom = (omega arith, omega arith)
refusals_listed BadTable = (omega arith, omega arith)
refusals_listed SameChallenge = (omega arith, omega arith)
refusals_listed BadArgument = (omega arith, omega arith)

pub numbers_listed : NumbersListed
numbers_listed (Ok Written) = inl (omega arith)
numbers_listed (Ok NeedsCredentials) = inl (omega arith)
numbers_listed (Ok Authenticated) = inl (omega arith)
numbers_listed (Ok Ended) = inl (omega arith)
numbers_listed (Err why) = inr (refusals_listed why)
