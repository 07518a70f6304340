-- The table that lines make.
use Rattle.std.specs.Prelude.{ℕ, suc, ◌+◌, ◌≡◌, List, [], ◌∷◌, ◌++◌, Option, Some, None, Result, Ok, Err, is_err, length, take, ltb, eqb}
use Rattle.octets.specs.Choice.{pick}
use Rattle.octets.specs.Lists.{over}
use Rattle.accounts.specs.Account.{record_for}
use Rattle.roster.specs.Lines.{trimmed, entry_of}
use Rattle.roster.specs.declared.Entry.{Entry}
use Rattle.roster.specs.declared.BadLine.{BadLine}
use Rattle.roster.specs.declared.LineError.{LineError}
use Rattle.roster.specs.declared.LineError.TheVariants.{Full}

-- ---- the lines of a text: what its line feeds part, and what stands after the last of them
abbrev pub beginning : ℕ → List (List ℕ) → List (List ℕ)
beginning x [] = (x ∷ []) ∷ []
beginning x (l ∷ ls) = (x ∷ l) ∷ ls

unfoldable pub lines_of : List ℕ → List (List ℕ)
lines_of [] = []
lines_of (x ∷ xs) = pick (eqb x 10) ([] ∷ lines_of xs) (beginning x (lines_of xs))

-- ---- what a line adds
-- what is wrong with a line, if anything, and the table after it
pub record AfterLine : Type 0 where
  pub ended : Result (Unit {0}) LineError
  pub table : List ℕ

abbrev pub after_line : Result (Unit {0}) LineError → List ℕ → AfterLine
after_line r t = record { ended = r; table = t }

-- the table t with the record q at its end, where both fit the room
unfoldable pub added_to : ℕ → List ℕ → List ℕ → List ℕ
added_to room t q = pick (ltb room (length t + length q)) t (t ++ q)

-- a line's record: the name is its first octets
unfoldable pub record_in : Entry → List ℕ → List ℕ
record_in e s = record_for e.code e.hash (take e.namelen s)

-- a record that adds nothing did not fit
unfoldable pub added_by : Result (Option Entry) BadLine → ℕ → List ℕ → List ℕ → AfterLine
added_by (Err bad) room t s = after_line (Err bad.why) t
added_by (Ok None) room t s = after_line (Ok tt) t
added_by (Ok (Some e)) room t s =
    pick (eqb (length (added_to room t (record_in e s))) (length t)) (after_line (Err Full) (added_to room t (record_in e s)))
    (after_line (Ok tt) (added_to room t (record_in e s)))

unfoldable pub added_line : ℕ → List ℕ → List ℕ → AfterLine
added_line room t s = added_by (entry_of s) room t s

-- ---- what all lines make: up to the first that is wrong
pub record All : Type 0 where
  pub last : AfterLine
  pub lines : ℕ

abbrev pub all : AfterLine → ℕ → All
all r k = record { last = r; lines = k }

-- k lines made the table t, and the lines ls are to come
unfoldable pub made_from : ℕ → ℕ → List ℕ → List (List ℕ) → All
made_from room k t [] = all (after_line (Ok tt) t) k
made_from room k t (l ∷ ls) =
    pick (is_err (added_line room t (trimmed l)).ended) (all (added_line room t (trimmed l)) (suc k))
    (made_from room (suc k) (added_line room t (trimmed l)).table ls)

unfoldable pub made_of : ℕ → List ℕ → All
made_of room text = pick (ltb 65536 room) (all (after_line (Err Full) []) 0) (made_from room 0 [] (lines_of text))

-- the table stands at the front of the buffer, and the rest of it is as before
pub record Makes (o : AfterLine) (ended : Result (Unit {0}) LineError) (n : ℕ) (before after : List ℕ) : Type 0 where
  pub told : ended ≡ o.ended
  pub count : n ≡ length o.table
  pub written : after ≡ over o.table before

-- what a line is told as, and how long the table is then, which had n octets
abbrev pub ended_in : Result ℕ LineError → Result (Unit {0}) LineError
ended_in (Ok next) = Ok tt
ended_in (Err why) = Err why

abbrev pub len_in : Result ℕ LineError → ℕ → ℕ
len_in (Ok next) n = next
len_in (Err why) n = n

abbrev pub Takes : AfterLine → Result ℕ LineError → ℕ → List ℕ → List ℕ → Type 0
Takes o r n before after = Makes o (ended_in r) (len_in r n) before after

-- what is told of a text: how it ended, how long the table is, how many lines were read
pub record MadeBy (text before after : List ℕ) (ended : Result (Unit {0}) LineError) (len lines : ℕ) : Type 0 where
  pub makes : Makes (made_of (length before) text).last ended len before after
  pub count : lines ≡ (made_of (length before) text).lines
