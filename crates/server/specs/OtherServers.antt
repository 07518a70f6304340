-- The wrong-guess rule has teeth: it is false of a server that tells 647 before the response is found right, and of one that counts a retry only for
-- known names.
use Rattle.std.specs.Prelude.{ℕ, true, List, [], length, ◌==◌}
use Rattle.octets.specs.Choice.{pick}
use Rattle.answer.specs.Outcome.{Outcome, refused}
use Rattle.packet.specs.declared.Packet.{Packet}
use Rattle.accounts.specs.Accounts.{code_of, record_of}
use Rattle.mschap.specs.Users.{user_of}
use Rattle.verdict.specs.declared.Verdict.{Verdict}
use Rattle.verdict.specs.Verdict.{right}
use Rattle.server.specs.declared.Server.{Server}
use Rattle.server.specs.declared.Stage.{Stage}
use Rattle.server.specs.declared.Stage.TheVariants.{Begin, ChallengeSent, SuccessRequestSent, FailureRequestSent, Success, Failed}
use Rattle.server.specs.Moves.{turn_of}
use Rattle.server.specs.Calls.{authentication_failure, fail_of, response_name, verdict_of, judged_by, taken_by}
use Rattle.server.specs.Runs.{starts, brings, resends, answered, Step, server_step}
use Rattle.server.specs.Guess.{WrongGuessRule}

-- ---- a server that judges in its own way, by the record of the user's account and the verdict, and does all else as this page's
abbrev pub Judging : Type 0
Judging = List ℕ → Verdict → Server → List ℕ → ℕ → Outcome Server

abbrev pub taken_as : Judging → Stage → Packet → Server → List ℕ → List ℕ → List ℕ → ℕ → Outcome Server
taken_as j Begin k s p table fresh room = taken_by Begin k s p table fresh room
taken_as j ChallengeSent k s p table fresh room = j (record_of table (user_of (response_name k p))) (verdict_of s k p table) s fresh room
taken_as j SuccessRequestSent k s p table fresh room = taken_by SuccessRequestSent k s p table fresh room
taken_as j FailureRequestSent k s p table fresh room = taken_by FailureRequestSent k s p table fresh room
taken_as j Success k s p table fresh room = taken_by Success k s p table fresh room
taken_as j Failed k s p table fresh room = taken_by Failed k s p table fresh room

abbrev pub judges_as : Judging → Step
judges_as j s (starts id challenge name retries reply) = server_step s (starts id challenge name retries reply)
judges_as j s (brings p table fresh reply) =
    answered (pick ((turn_of s p).number == 0) (taken_as j s.stage (turn_of s p).value s p table fresh (length reply)) (refused (turn_of s p).number s)) reply
judges_as j s (resends reply) = server_step s (resends reply)

-- ---- a server that tells 647 before the response is found right
abbrev pub tells_early : Judging
tells_early q v s fresh room = judged_by (pick (code_of q == 647) (right 647 []) v) s fresh room

abbrev pub TellsEarlyBreaks : Type 0
TellsEarlyBreaks = WrongGuessRule (judges_as tells_early) → ⊥

-- ---- a server that counts a retry only for known names
abbrev pub counts_known : Judging
counts_known q v s fresh room =
    pick (length q == 0) (fail_of (record { stage = s.stage; retries = s.retries; error = authentication_failure; retry = true }) s fresh room) (judged_by v s fresh room)

abbrev pub CountsKnownBreaks : Type 0
CountsKnownBreaks = WrongGuessRule (judges_as counts_known) → ⊥
