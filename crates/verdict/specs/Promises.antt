-- Which verdict a Response gets, said by a relation: it is Right exactly where the Response is right.
use Rattle.std.specs.Prelude.{ℕ, ◌≡◌, true, false, List}
use Rattle.answer.specs.Promises.{Exactly}
use Rattle.accounts.specs.Accounts.{code_of, hash_of, well_formed, record_of}
use Rattle.mschap.specs.Users.{user_of}
use Rattle.mschap.specs.Responses.{authenticator_of}
use Rattle.verdict.specs.declared.Verdict.{Verdict}
use Rattle.verdict.specs.Verdict.{Right, bad_table, wrong, right, judge_of}

pub data Judges (challenge peer response user table : List ℕ) : Verdict → Type 0 where
  judges_malformed : well_formed table ≡ false → Judges challenge peer response user table bad_table
  judges_wrong : well_formed table ≡ true → (Right challenge peer response user table → ⊥) → Judges challenge peer response user table wrong
  judges_right : well_formed table ≡ true → Right challenge peer response user table
      → Judges challenge peer response user table (right (code_of (record_of table user)) (authenticator_of (hash_of (record_of table user)) response peer challenge user))

abbrev pub VerdictsExact : Type 0
VerdictsExact = (challenge peer response name table : List ℕ) → Exactly (Judges challenge peer response (user_of name) table) (judge_of challenge peer response name table)
