-- What holds of the numbers; and what it is for a relation to be exact.
use Rattle.std.specs.Prelude.{ℕ, ◌≤◌, ◌≡◌, ◌⊎◌, Result}
use Rattle.answer.specs.declared.Done.{Done}
use Rattle.answer.specs.declared.Refusal.{Refusal}
use Rattle.answer.specs.Answer.{number_of}

-- a number of the table of "What a call answers", and one of its refusals
abbrev pub IsRefusal : ℕ → Type 0
IsRefusal k = (10 ≤ k) × (k ≤ 23)

abbrev pub IsListed : ℕ → Type 0
IsListed k = (k ≤ 3) ⊎ IsRefusal k

abbrev pub NumbersListed : Type 0
NumbersListed = (a : Result Done Refusal) → IsListed (number_of a)

-- two answers with one number are one answer
abbrev pub NumbersApart : Type 0
NumbersApart = (a b : Result Done Refusal) → number_of a ≡ number_of b → a ≡ b

-- ---- of all values R allows x alone: "given exactly when its condition holds", where R has a constructor for each answer and its condition
abbrev pub Exactly : {A : Type 0} → (A → Type 0) → A → Type 0
Exactly {A} R x = R x × ((y : A) → R y → y ≡ x)
