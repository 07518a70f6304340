-- First refusals.
use Prim.Native.Nat.{ℕ, zero, suc}
use native.Mathlib.Omega.{arith}
use mathlib.Core.Path.{◌≡◌, refl, sym, subst}
use mathlib.Core.Bool.{false}
use lib.Dec.{eqb}
use borrow.Author.Tests.{ne_eqb}
use Rattle.answer.specs.Answer.{refusal_of}
use Rattle.answer.specs.declared.Refusal.{Refusal}
use Rattle.answer.specs.Outcome.{refuses, told}
use Rattle.answer.proofs.Apart.{refusals_listed}

-- the number of a refusal is not 0
pub refusal_some : (why : Refusal) → eqb (refusal_of why) 0 ≡ false
refusal_some why = let h = refusals_listed why in ne_eqb (refusal_of why) 0 (λ z. omega (arith, h.0))

pub told_number : {A : Type 0} (k : ℕ) (none x : A) → (told k none x).number ≡ k
unfolding told
told_number zero none x = refl
told_number (suc k) none x = refl

-- what was refused
pub told_refuses : {A : Type 0} (k n : ℕ) (none x : A) → n ≡ k → eqb k 0 ≡ false → refuses k none ≡ told n none x
unfolding told
told_refuses {A} k n none x e z = subst (λ (m : ℕ). refuses k none ≡ told m none x) (sym e) (go k z)
  where
    go : (k : ℕ) → eqb k 0 ≡ false → refuses k none ≡ told k none x
    go zero z = let y : ◌≡◌ {A = ℕ} 0 1 = cc in absurd (omega arith)
    go (suc k) z = refl
