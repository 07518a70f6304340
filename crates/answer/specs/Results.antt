-- 01, "What a call answers", of a call that gives a Result: the number and n, and what it hands out.
use Rattle.std.specs.Prelude.{ℕ, List, Result, Ok, Err}
use Rattle.answer.specs.declared.Refusal.{Refusal}
use Rattle.answer.specs.declared.Reply.{Reply}
use Rattle.answer.specs.Answer.{refusal_of, done_of}
use Rattle.answer.specs.Outcome.{Told, gives, refuses, Outcome, Does}

-- 0, or the number of the refusal
abbrev pub refusal_in : {A : Type 0} → Result A Refusal → ℕ
refusal_in (Ok x) = 0
refusal_in (Err why) = refusal_of why

-- ---- a stateless call that hands something out: beside a refusal stands `none`, which means nothing
abbrev pub told_by : {A B : Type 0} → (A → B) → B → Result A Refusal → Told B
told_by f none (Ok x) = gives (f x)
told_by f none (Err why) = refuses (refusal_of why) none

-- ---- a writer, which hands out L
abbrev pub count_in : Result ℕ Refusal → ℕ
count_in (Ok n) = n
count_in (Err why) = 0

-- a writer did what o says
abbrev pub Writes : Outcome (Unit {0}) → Result ℕ Refusal → List ℕ → List ℕ → Type 0
Writes o r before after = Does o (refusal_in r) (count_in r) tt before after

-- ---- a call with a reply buffer
abbrev pub reply_number : Result Reply Refusal → ℕ
reply_number (Ok r) = done_of r.done
reply_number (Err why) = refusal_of why

abbrev pub reply_count : Result Reply Refusal → ℕ
reply_count (Ok r) = r.n
reply_count (Err why) = 0

-- a call did what o says, and left the state s
abbrev pub Replies : {S : Type 0} → Outcome S → Result Reply Refusal → S → List ℕ → List ℕ → Type 0
Replies o r s before after = Does o (reply_number r) (reply_count r) s before after
