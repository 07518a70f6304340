-- One server's calls, with all that is lent with them, and what a call answers.
use Rattle.std.specs.Prelude.{◌≡◌, ℕ, List, [], ◌∷◌, length}
use Rattle.octets.specs.Lists.{over}
use Rattle.octets.specs.Octets.{AreOctets}
use Rattle.answer.specs.Outcome.{Outcome, Does}
use Rattle.answer.specs.Runs.{after}
use Rattle.answer.specs.declared.Identifier.{Identifier}
use Rattle.server.specs.declared.Server.{Server}
use Rattle.server.specs.State.{initial}
use Rattle.server.specs.Calls.{start_of, packet_of, resend_of}

-- "the start, packet and resend calls". T is what stands for the account table: the last of a call is the reply buffer beforehand.
-- "A call on the server's state that a later request brings joins the list."
pub data Call (T : Type 0) : Type 0 where
  starts : (id : Identifier) (challenge name : List ℕ) (retries : ℕ) (reply : List ℕ) → Call T
  brings : (packet : List ℕ) (table : T) (fresh reply : List ℕ) → Call T
  resends : (reply : List ℕ) → Call T

abbrev pub reply_of : {T : Type 0} → Call T → List ℕ
reply_of (starts id challenge name retries reply) = reply
reply_of (brings packet table fresh reply) = reply
reply_of (resends reply) = reply

abbrev pub outcome_of : Server → Call (List ℕ) → Outcome Server
outcome_of s (starts id challenge name retries reply) = start_of s id challenge name retries (length reply)
outcome_of s (brings packet table fresh reply) = packet_of s packet table fresh (length reply)
outcome_of s (resends reply) = resend_of s (length reply)

-- "An answer is here its number, n and all else that the call hands out or writes": the whole buffer, and the state after the call
pub record Answered : Type 0 where
  pub number : ℕ
  pub n : ℕ
  pub reply : List ℕ
  pub state : Server

abbrev pub answered : Outcome Server → List ℕ → Answered
answered o reply = record { number = o.number; n = length o.octets; reply = over o.octets reply; state = o.state }

-- what a call's contract says of its result and of the buffer is its answer
abbrev pub ContractAnswers : Type 0
ContractAnswers =
    (o : Outcome Server) (k n : ℕ) (s : Server) (before after : List ℕ) → Does o k n s before after →
    record { number = k; n = n; reply = after; state = s } ≡ answered o before

-- the state that a call leaves: with it `run` and `after` of answer/specs/Runs are lists of calls
abbrev pub left : Answered → Server
left a = a.state

-- a way to answer a call, in any state
abbrev pub Step : Type 0
Step = Server → Call (List ℕ) → Answered

-- "this page's server": the contracts of start, packet and resend promise this answer
unfoldable pub server_step : Step
server_step s c = answered (outcome_of s c) (reply_of c)

-- ---- what can be lent: challenges "are values of 16 octets and can't have another size"
abbrev pub Lent : Call (List ℕ) → Type 0
Lent (starts id challenge name retries reply) = length challenge ≡ 16
Lent (brings packet table fresh reply) = (length fresh ≡ 16) × AreOctets fresh
Lent (resends reply) = Unit {0}

abbrev pub AllLent : List (Call (List ℕ)) → Type 0
AllLent [] = Unit {0}
AllLent (c ∷ cs) = Lent c × AllLent cs

-- any calls on from a new server leave s
pub record Reached (s : Server) : Type 0 where
  pub calls : List (Call (List ℕ))
  pub lent : AllLent calls
  pub is : s ≡ after left server_step initial calls
