-- `told_found` tells the answers of `find` apart.
use mathlib.Core.Path.{◌≡◌, ap}
use native.Mathlib.Omega.{arith}
use Rattle.std.specs.Prelude.{Option, Some, None, Result, Ok, Err}
use Rattle.answer.specs.Outcome.{Told}
use Rattle.answer.specs.Answer.{refusal_of}
use Rattle.answer.specs.declared.Done.{Done}
use Rattle.answer.specs.declared.Refusal.{Refusal}
use Rattle.answer.proofs.Apart.{numbers_apart, refusals_listed}
use Rattle.accounts.specs.Accounts.{Lookup, found_in}
use Rattle.accounts.specs.Promises.{FoundApart}
use Rattle.accounts.specs.declared.Account.{Account}

refusals_apart : (x y : Refusal) → refusal_of x ≡ refusal_of y → x ≡ y
refusals_apart x y e = let f : ◌≡◌ {A = Result Done Refusal} (Err x) (Err y) = numbers_apart (Err x) (Err y) e in cc

lookups_apart : (x y : Option Account) → found_in x ≡ found_in y → x ≡ y
lookups_apart None None e = cc
lookups_apart None (Some b) e = absurd (cc)
lookups_apart (Some a) None e = absurd (cc)
lookups_apart (Some a) (Some b) e = let p : a.code ≡ b.code = cc in let q : a.hash ≡ b.hash = cc in (λ j. Some (record { code = p j; hash = q j }))

pub found_apart : FoundApart
found_apart (Ok x) (Ok y) e = ap Ok (lookups_apart x y (ap (λ (r : Told Lookup). r.value) e))
found_apart (Ok x) (Err why) e = let n = ap (λ (r : Told Lookup). r.number) e in absurd (omega (arith, refusals_listed why))
found_apart (Err why) (Ok y) e = let n = ap (λ (r : Told Lookup). r.number) e in absurd (omega (arith, refusals_listed why))
found_apart (Err x) (Err y) e = ap Err (refusals_apart x y (ap (λ (r : Told Lookup). r.number) e))
