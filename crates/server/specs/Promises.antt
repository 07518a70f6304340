-- What holds of the server's end as a whole: over every state that can be handed in, and over lists of calls.
use Rattle.std.specs.Prelude.{◌≡◌, ℕ, ◌+◌, ◌%◌, ◌≤◌, true, ◌⊎◌, List, [], ◌∷◌, length, ◌==◌, ◌≢◌, slice_index, slice_index_or}
use Rattle.octets.specs.Choice.{pick}
use Rattle.octets.specs.Lists.{over}
use Rattle.answer.specs.Outcome.{Outcome, outcome, fitting, Does}
use Rattle.answer.specs.Runs.{after}
use Rattle.packet.specs.Forms.{eap_success, eap_failure}
use Rattle.server.specs.declared.Stage.TheVariants.{Success, Failed}
use Rattle.server.specs.declared.Server.{Server}
use Rattle.server.specs.State.{request_room, stored_request, IsServer}
use Rattle.server.specs.Moves.{sent}
use Rattle.server.specs.Runs.{Call, starts, brings, resends, reply_of, outcome_of, left, server_step, Lent, AllLent}

-- ---- 1. "What a call answers": the number, n, the state and the buffer that the call c can leave, where it took the state s
-- its refusals. "Order for a packet: 10 to 17, .. 19, 18, 21, 22, 20. For other calls: 19, 23, 20."
abbrev pub CanRefuse : Call (List ℕ) → ℕ → Type 0
CanRefuse (starts id challenge name retries reply) k = (k ≡ 19) ⊎ ((k ≡ 23) ⊎ (k ≡ 20))
CanRefuse (brings packet table fresh reply) k = (10 ≤ k) × (k ≤ 22)
CanRefuse (resends reply) k = (k ≡ 19) ⊎ (k ≡ 20)

pub data Leaves (s : Server) (c : Call (List ℕ)) : (k n : ℕ) (s' : Server) (b : List ℕ) → Type 0 where
  written : (q : List ℕ) (s' : Server) → length q ≤ length (reply_of c) → sent s'.stage ≡ true → Leaves s c 0 (length q) s' (over q (reply_of c))
  authenticated : (id : ℕ) (s' : Server) → 4 ≤ length (reply_of c) → s'.stage ≡ Success → Leaves s c 2 4 s' (over (eap_success id) (reply_of c))
  ended : (id : ℕ) (s' : Server) → 4 ≤ length (reply_of c) → s'.stage ≡ Failed → Leaves s c 3 4 s' (over (eap_failure id) (reply_of c))
  -- "Numbers from 10 up change no state and no lent octet, and n = 0."
  refusal : (k : ℕ) → CanRefuse c k → Leaves s c k 0 s (reply_of c)

abbrev pub AnswersLeave : Type 0
AnswersLeave = (s : Server) (c : Call (List ℕ)) (k n : ℕ) (s' : Server) (b : List ℕ) → Does (outcome_of s c) k n s' (reply_of c) b → Leaves s c k n s' b

-- ---- 2. "Every later request has the next Identifier; after 255 comes 0.", "The server writes them equal"
-- the request has the two numbers that are outstanding after it, and they are one number
pub record Numbered (number : ℕ) (o : Outcome Server) : Type 0 where
  pub id : o.state.request.id.0 ≡ number
  pub chapid : o.state.request.chapid.0 ≡ number
  pub written_id : slice_index_or o.octets 1 0 ≡ number
  pub written_chapid : slice_index_or o.octets 6 0 ≡ number

-- a start has the lent Identifier, and a packet the next one
abbrev pub request_number : Server → Call (List ℕ) → ℕ
request_number s (starts id challenge name retries reply) = id.0
request_number s (brings packet table fresh reply) = (s.request.id.0 + 1) % 256
request_number s (resends reply) = s.request.id.0

-- start and packet, which can make a request; a resend repeats one
abbrev pub Asks : Call (List ℕ) → Type 0
Asks (starts id challenge name retries reply) = Unit {0}
Asks (brings packet table fresh reply) = Unit {0}
Asks (resends reply) = ⊥

abbrev pub RequestsNumbered : Type 0
RequestsNumbered = (s : Server) (c : Call (List ℕ)) → Asks c → (outcome_of s c).number ≡ 0 → Numbered (request_number s c) (outcome_of s c)

-- ---- 3. "EAP Success or Failure, has the Identifier of the packet it answers"
pub record Answers (packet : List ℕ) (o : Outcome Server) : Type 0 where
  pub success : o.number ≡ 2 → o.octets ≡ eap_success (slice_index packet 1)
  pub failure : o.number ≡ 3 → o.octets ≡ eap_failure (slice_index packet 1)

abbrev pub ClosingAnswers : Type 0
ClosingAnswers = (s : Server) (packet table fresh reply : List ℕ) → Answers packet (outcome_of s (brings packet table fresh reply))

-- ---- 4. The outstanding request
-- after a call, q being the one before it
abbrev pub request_after : Call (List ℕ) → Outcome Server → List ℕ → List ℕ
request_after (starts id challenge name retries reply) o q = pick (o.number == 0) o.octets q
request_after (brings packet table fresh reply) o q = pick (o.number == 0) o.octets q
request_after (resends reply) o q = q

-- the state keeps the request that a call wrote, whole, and else the one that it had
abbrev pub StoredAfter : Type 0
StoredAfter = (s : Server) (c : Call (List ℕ)) → Lent c → stored_request (outcome_of s c).state ≡ request_after c (outcome_of s c) (stored_request s)

-- the last request that calls wrote, q being the one before them
unfoldable pub last_request : Server → List ℕ → List (Call (List ℕ)) → List ℕ
last_request s q [] = q
last_request s q (c ∷ cs) = last_request (outcome_of s c).state (request_after c (outcome_of s c) q) cs

-- "A resend call writes the outstanding request again in the stages ending in SENT, state unchanged": after any calls cs
abbrev pub ResendsLast : Type 0
ResendsLast =
    (s s' : Server) (cs : List (Call (List ℕ))) (reply : List ℕ) → AllLent cs → s' ≡ after left server_step s cs → sent s'.stage ≡ true →
    outcome_of s' (resends reply) ≡ fitting (length reply) s' (outcome 0 (last_request s (stored_request s) cs) s')

-- ---- 5. A reply buffer of `REQUEST_ROOM` octets is enough: of every value of the struct
abbrev pub RoomEnough : Type 0
RoomEnough = (s : Server) (c : Call (List ℕ)) → IsServer s → Lent c → request_room ≤ length (reply_of c) → (outcome_of s c).number ≢ 20
