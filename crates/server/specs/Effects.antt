-- 01, "What a call answers" and "The server's moves", said by relations: what a call does, and which refusal it gives. proofs/Effects shows that every call
-- does this, and nothing else.
use Rattle.std.specs.Prelude.{◌≡◌, ℕ, ◌<◌, ◌≤◌, true, false, List, length, ◌≢◌}
use Rattle.answer.specs.Outcome.{gives, Outcome, outcome, refused}
use Rattle.answer.specs.Promises.{Exactly}
use Rattle.answer.specs.Sizes.{max_name, max_retries}
use Rattle.answer.specs.declared.Identifier.{Identifier}
use Rattle.packet.specs.declared.End.TheVariants as end
use Rattle.packet.specs.declared.Packet.{Packet}
use Rattle.packet.specs.Reader.{read_packet, challenge_in}
use Rattle.accounts.specs.Accounts.{well_formed}
use Rattle.mschap.specs.Users.{user_of}
use Rattle.verdict.specs.declared.Verdict.{Verdict}
use Rattle.verdict.specs.Verdict.{wrong, right}
use Rattle.verdict.specs.Promises.{Judges}
use Rattle.server.specs.declared.Failure.{Failure}
use Rattle.server.specs.declared.Stage.TheVariants.{Begin, ChallengeSent, SuccessRequestSent, FailureRequestSent}
use Rattle.server.specs.declared.Server.{Server}
use Rattle.server.specs.State.{stored_request, challenge_to}
use Rattle.server.specs.Moves.{sent, takes, misnumbered, Taken}
use Rattle.server.specs.Calls.{asking, succeeding, failing, authenticated, ended, authentication_failure, retryable, final, nt_response_of, response_name}
use Rattle.server.specs.Runs.{Call, starts, brings, resends, reply_of, outcome_of}

-- "a server's own 1 to 256", "retry count 0 to 10"
pub record StartFits (name : List ℕ) (retries : ℕ) : Type 0 where
  pub some : 1 ≤ length name
  pub few : length name ≤ max_name
  pub count : retries ≤ max_retries

-- the packet is a Response, "which is then judged": this is the verdict
pub record Verdicts (s : Server) (packet table : List ℕ) (v : Verdict) : Type 0 where
  pub response : Packet
  pub taken : Taken s packet ChallengeSent response
  pub is : Judges s.request.challenge (challenge_in response packet) (nt_response_of response packet) (user_of (response_name response packet)) table v

-- the Failure Request that a verdict brings
pub data Denies (s : Server) : Verdict → Failure → Type 0 where
  -- "Right and code not 0: Failure Request with that code, R=0, FAILURE_REQUEST_SENT."
  barred : (code : ℕ) (string : List ℕ) → (code ≢ 0) → Denies s (right code string) (final s code)
  -- "Wrong, or no such account: E=691; with retries left R=1, one retry fewer, stage kept"
  again : (s.retries ≢ 0) → Denies s wrong (retryable s)
  -- "else R=0, FAILURE_REQUEST_SENT"
  last : s.retries ≡ 0 → Denies s wrong (final s authentication_failure)

-- ---- the refusals but 20, each with its number
pub data Refuses (s : Server) : Call (List ℕ) → ℕ → Type 0 where
  -- a start: 19, 23. "Start (19 outside BEGIN)"
  begun : {id : Identifier} {challenge name : List ℕ} {retries : ℕ} {reply : List ℕ} → (s.stage ≢ Begin) → Refuses s (starts id challenge name retries reply) 19
  misfit : {id : Identifier} {challenge name : List ℕ} {retries : ℕ} {reply : List ℕ} → s.stage ≡ Begin → (StartFits name retries → ⊥) → Refuses s (starts id challenge name retries reply) 23
  -- a packet: "10 to 17, then .. 19, 18, 21, 22"
  unread : {packet table fresh reply : List ℕ} (k : ℕ) → 10 ≤ k → (read_packet end.Server packet).number ≡ k → Refuses s (brings packet table fresh reply) k
  untaken : {packet table fresh reply : List ℕ} (x : Packet) → read_packet end.Server packet ≡ gives x → takes s.stage x.kind ≡ false → Refuses s (brings packet table fresh reply) 19
  misnumbering : {packet table fresh reply : List ℕ} (x : Packet) → read_packet end.Server packet ≡ gives x → takes s.stage x.kind ≡ true → misnumbered s x ≡ true
      → Refuses s (brings packet table fresh reply) 18
  -- "An end gives 21 only for a Response it would judge."
  malformed : {packet table fresh reply : List ℕ} (x : Packet) → Taken s packet ChallengeSent x → well_formed table ≡ false → Refuses s (brings packet table fresh reply) 21
  -- "fresh challenge equals the outstanding one, and a Failure Request is due"
  stale : {packet table fresh reply : List ℕ} (v : Verdict) (f : Failure) → Verdicts s packet table v → Denies s v f → fresh ≡ s.request.challenge → Refuses s (brings packet table fresh reply) 22
  -- a resend: "in the stages ending in SENT, state unchanged; elsewhere 19"
  unsent : {reply : List ℕ} → sent s.stage ≡ false → Refuses s (resends reply) 19

-- ---- the moves
pub data Moves (s : Server) : Call (List ℕ) → Outcome Server → Type 0 where
  -- "writes the Challenge and goes to CHALLENGE_SENT"
  starting : {id : Identifier} {challenge name : List ℕ} {retries : ℕ} {reply : List ℕ} → s.stage ≡ Begin → StartFits name retries
      → Moves s (starts id challenge name retries reply) (asking s ChallengeSent id challenge retries (challenge_to id challenge name))
  -- "Right and code 0: Success Request, SUCCESS_REQUEST_SENT."
  granting : {packet table fresh reply : List ℕ} (string : List ℕ) → Verdicts s packet table (right 0 string) → Moves s (brings packet table fresh reply) (succeeding s string)
  -- "Every Failure Request carries the lent fresh 16 octets as C, and they become the outstanding challenge."
  denying : {packet table fresh reply : List ℕ} (v : Verdict) (f : Failure) → Verdicts s packet table v → Denies s v f → (fresh ≢ s.request.challenge)
      → Moves s (brings packet table fresh reply) (failing s f fresh)
  -- "SUCCESS_REQUEST_SENT takes Success Response: answer 2."
  confirming : {packet table fresh reply : List ℕ} (x : Packet) → Taken s packet SuccessRequestSent x → Moves s (brings packet table fresh reply) (authenticated s x)
  -- "FAILURE_REQUEST_SENT takes Failure Response: answer 3."
  ending : {packet table fresh reply : List ℕ} (x : Packet) → Taken s packet FailureRequestSent x → Moves s (brings packet table fresh reply) (ended s x)
  -- "A resend call writes the outstanding request again in the stages ending in SENT, state unchanged"
  resending : {reply : List ℕ} → sent s.stage ≡ true → Moves s (resends reply) (outcome 0 (stored_request s) s)

-- ---- what a call does. 20, "reply longer than the buffer", comes last
pub data Effect (s : Server) (c : Call (List ℕ)) : Outcome Server → Type 0 where
  refuses : (k : ℕ) → Refuses s c k → Effect s c (refused k s)
  no_room : {o : Outcome Server} → Moves s c o → length (reply_of c) < length o.octets → Effect s c (refused 20 s)
  moves : {o : Outcome Server} → Moves s c o → length o.octets ≤ length (reply_of c) → Effect s c o

-- "Each is given exactly when its condition holds and none earlier in the order does."
abbrev pub EffectsExact : Type 0
EffectsExact = (s : Server) (c : Call (List ℕ)) → Exactly (Effect s c) (outcome_of s c)
