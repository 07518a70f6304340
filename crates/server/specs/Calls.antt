-- 01, "What a call answers" and "The server's moves": what each call of the server does. s is the state before it, room the length of the reply buffer.
use Rattle.std.specs.Prelude.{ℕ, ◌-◌, Bool, true, false, not, List, length, drop, ◌==◌, nat_lt, Result, Ok, Err}
use Rattle.octets.specs.Choice.{pick}
use Rattle.octets.specs.Lists.{part, sized}
use Rattle.octets.specs.Octets.{same}
use Rattle.answer.specs.Answer.{refusal_of}
use Rattle.answer.specs.Outcome.{Outcome, outcome, refused, fitting}
use Rattle.answer.specs.Sizes.{max_name, max_retries}
use Rattle.answer.specs.declared.Identifier.{Identifier}
use Rattle.answer.specs.declared.Refusal.{Refusal}
use Rattle.answer.specs.declared.Refusal.TheVariants.{BadTable}
use Rattle.packet.specs.declared.Packet.{Packet}
use Rattle.packet.specs.Forms.{eap_success, eap_failure}
use Rattle.verdict.specs.declared.Verdict.{Verdict}
use Rattle.verdict.specs.declared.Verdict.TheVariants.{Malformed, Wrong, Right}
use Rattle.verdict.specs.Verdict.{judge_of}
use Rattle.packet.specs.Reader.{challenge_in}
use Rattle.server.specs.declared.Due.{Due}
use Rattle.server.specs.declared.Due.TheVariants as due
use Rattle.server.specs.declared.Failure.{Failure}
use Rattle.server.specs.declared.Stage.{Stage}
use Rattle.server.specs.declared.Stage.TheVariants.{Begin, ChallengeSent, SuccessRequestSent, FailureRequestSent, Success, Failed}
use Rattle.server.specs.declared.Server.{Server}
use Rattle.server.specs.State.{stored_request, next_id, challenge_to, success_to, retry_digit, failure_to, asked, staged}
use Rattle.server.specs.Moves.{begins, sent, turn_of}

-- ---- what goes out, where there is room
-- the request q, and the state waits for its answer
abbrev pub asking : Server → Stage → Identifier → List ℕ → ℕ → List ℕ → Outcome Server
asking s stage id challenge retries q = outcome 0 q (asked stage id challenge retries q s)

abbrev pub succeeding : Server → List ℕ → Outcome Server
succeeding s string =
    asking s SuccessRequestSent (next_id s.request.id) s.request.challenge s.retries (success_to (next_id s.request.id) string)

-- "Every Failure Request carries the lent fresh 16 octets as C, and they become the outstanding challenge."
abbrev pub failing : Server → Failure → List ℕ → Outcome Server
failing s f fresh =
    asking s f.stage (next_id s.request.id) fresh f.retries (failure_to (next_id s.request.id) f.error (retry_digit f.retry) fresh)

-- "A reply of the peer, and EAP Success or Failure, has the Identifier of the packet it answers."
abbrev pub authenticated : Server → Packet → Outcome Server
authenticated s k = outcome 2 (eap_success k.id.0) (staged Success s)

abbrev pub ended : Server → Packet → Outcome Server
ended s k = outcome 3 (eap_failure k.id.0) (staged Failed s)

-- ---- start: 19, 23, 20
-- "a server's own 1 to 256", "retry count 0 to 10"
unfoldable pub start_fits : ℕ → ℕ → Bool
start_fits n retries = pick (n == 0) false (pick (nat_lt max_name n) false (pick (nat_lt max_retries retries) false true))

unfoldable pub start_of : Server → Identifier → List ℕ → List ℕ → ℕ → ℕ → Outcome Server
start_of s id challenge name retries room =
    pick (not (begins s.stage)) (refused 19 s)
    (pick (not (start_fits (length name) retries)) (refused 23 s)
    (fitting room s (asking s ChallengeSent id challenge retries (challenge_to id challenge name))))

-- ---- what is due by a verdict
-- "E=691"
abbrev pub authentication_failure : ℕ
authentication_failure = 691

-- "R=1, one retry fewer, stage kept"
abbrev pub retryable : Server → Failure
retryable s = record { stage = s.stage; retries = s.retries - 1; error = authentication_failure; retry = true }

-- "R=0, FAILURE_REQUEST_SENT"
abbrev pub final : Server → ℕ → Failure
final s error = record { stage = FailureRequestSent; retries = s.retries; error = error; retry = false }

-- "Right and code 0: Success Request, SUCCESS_REQUEST_SENT. Right and code not 0: Failure Request with that code, R=0, FAILURE_REQUEST_SENT.
-- Wrong, or no such account: E=691; with retries left R=1, one retry fewer, stage kept; else R=0, FAILURE_REQUEST_SENT."
unfoldable pub due_of : Verdict → Server → Result Due Refusal
due_of Malformed s = Err BadTable
due_of (Right code string) s = pick (code == 0) (Ok (due.Success string)) (Ok (due.Failure (final s code)))
due_of Wrong s = pick (s.retries == 0) (Ok (due.Failure (final s authentication_failure))) (Ok (due.Failure (retryable s)))

-- 22: "fresh challenge equals the outstanding one, and a Failure Request is due"; then 20
unfoldable pub fail_of : Failure → Server → List ℕ → ℕ → Outcome Server
fail_of f s fresh room = pick (same fresh s.request.challenge) (refused 22 s) (fitting room s (failing s f fresh))

-- what is due, done
unfoldable pub act_of : Result Due Refusal → Server → List ℕ → ℕ → Outcome Server
act_of (Err why) s fresh room = refused (refusal_of why) s
act_of (Ok (due.Success string)) s fresh room = fitting room s (succeeding s string)
act_of (Ok (due.Failure f)) s fresh room = fail_of f s fresh room

-- ---- the verdict on a Response p, of which k was read: the octets at k's places
unfoldable pub nt_response_of : Packet → List ℕ → List ℕ
nt_response_of k p = sized 24 (drop k.response.start p)

unfoldable pub response_name : Packet → List ℕ → List ℕ
response_name k p = part p k.tail.start k.tail.len

unfoldable pub verdict_of : Server → Packet → List ℕ → List ℕ → Verdict
verdict_of s k p table = judge_of s.request.challenge (challenge_in k p) (nt_response_of k p) (response_name k p) table

-- 21, 22, 20 and the move
unfoldable pub judged_by : Verdict → Server → List ℕ → ℕ → Outcome Server
judged_by v s fresh room = act_of (due_of v s) s fresh room

-- ---- the packet: 10 to 19 by the turn, and then by the stage, since it takes one kind alone
unfoldable pub taken_by : Stage → Packet → Server → List ℕ → List ℕ → List ℕ → ℕ → Outcome Server
taken_by Begin k s p table fresh room = refused 19 s
taken_by ChallengeSent k s p table fresh room = judged_by (verdict_of s k p table) s fresh room
taken_by SuccessRequestSent k s p table fresh room = fitting room s (authenticated s k)
taken_by FailureRequestSent k s p table fresh room = fitting room s (ended s k)
taken_by Success k s p table fresh room = refused 19 s
taken_by Failed k s p table fresh room = refused 19 s

unfoldable pub packet_of : Server → List ℕ → List ℕ → List ℕ → ℕ → Outcome Server
packet_of s p table fresh room =
    pick ((turn_of s p).number == 0) (taken_by s.stage (turn_of s p).value s p table fresh room) (refused (turn_of s p).number s)

-- ---- resend: 19, 20
unfoldable pub resend_of : Server → ℕ → Outcome Server
resend_of s room = pick (not (sent s.stage)) (refused 19 s) (fitting room s (outcome 0 (stored_request s) s))
