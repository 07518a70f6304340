-- 01, "What a call answers": the number of each answer.
use Rattle.std.specs.Prelude.{ℕ, Result, Ok, Err}
use Rattle.answer.specs.declared.Done.{Done}
use Rattle.answer.specs.declared.Done.TheVariants.{Written, NeedsCredentials, Authenticated, Ended}
use Rattle.answer.specs.declared.Refusal.{Refusal}
use Rattle.answer.specs.declared.Refusal.TheVariants.{Short, BadLength, TooLong, BadCode, BadType, BadOpCode, BadMsLength, BadForm, WrongIdentifier, NotTaken, NoRoom, BadTable, SameChallenge, BadArgument}

abbrev pub refusal_of : Refusal → ℕ
refusal_of Short = 10
refusal_of BadLength = 11
refusal_of TooLong = 12
refusal_of BadCode = 13
refusal_of BadType = 14
refusal_of BadOpCode = 15
refusal_of BadMsLength = 16
refusal_of BadForm = 17
refusal_of WrongIdentifier = 18
refusal_of NotTaken = 19
refusal_of NoRoom = 20
refusal_of BadTable = 21
refusal_of SameChallenge = 22
refusal_of BadArgument = 23

abbrev pub done_of : Done → ℕ
done_of Written = 0
done_of NeedsCredentials = 1
done_of Authenticated = 2
done_of Ended = 3

-- the number of what was done, or of the refusal
abbrev pub number_of : Result Done Refusal → ℕ
number_of (Ok done) = done_of done
number_of (Err why) = refusal_of why
