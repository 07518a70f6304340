-- Where no Response is judged right, each fresh challenge differs from the outstanding one and there is room, the server reaches FAILED after the
-- retries and a Failure Response.
use Rattle.std.specs.Prelude.{◌≡◌, ℕ, ◌+◌, ◌≤◌, List, [], ◌∷◌, map, length}
use Rattle.answer.specs.Outcome.{outcome}
use Rattle.answer.specs.Runs.{after}
use Rattle.answer.specs.declared.Identifier.{Identifier}
use Rattle.packet.specs.declared.Packet.{Packet}
use Rattle.packet.specs.Forms.{challenge_name_at, failure_response, eap_failure}
use Rattle.server.specs.declared.Server.{Server}
use Rattle.server.specs.declared.Stage.TheVariants.{ChallengeSent, FailureRequestSent, Failed}
use Rattle.server.specs.State.{initial, staged}
use Rattle.server.specs.Moves.{Taken}
use Rattle.server.specs.Runs.{Call, starts, brings, answered, left, server_step}
use Rattle.server.specs.Guess.{NotRight}
use Rattle.server.specs.Effects.{StartFits}

-- a packet with the table, the fresh challenge and the buffer that come with it
pub record Try : Type 0 where
  pub packet : List ℕ
  pub table : List ℕ
  pub fresh : List ℕ
  pub reply : List ℕ

abbrev pub call_of : Try → Call (List ℕ)
call_of g = brings g.packet g.table g.fresh g.reply

-- it is a Response that is judged and not right, the fresh challenge differs from the outstanding one, and there is room for a Failure Request
pub record WrongTry (s : Server) (g : Try) : Type 0 where
  pub response : Packet
  pub taken : Taken s g.packet ChallengeSent response
  pub unright : NotRight s (call_of g)
  pub differs : g.fresh ≡ s.request.challenge → ⊥
  pub room : 60 ≤ length g.reply

abbrev pub WrongTries : Server → List Try → Type 0
WrongTries s [] = Unit {0}
WrongTries s (g ∷ gs) = WrongTry s g × WrongTries (left (server_step s (call_of g))) gs

-- as many wrong tries as there are retries, and one more
abbrev pub Exhausted : Type 0
Exhausted =
    (s : Server) (gs : List Try) → s.stage ≡ ChallengeSent → length gs ≡ s.retries + 1 → WrongTries s gs →
    (after left server_step s (map call_of gs)).stage ≡ FailureRequestSent

-- then a Failure Response under the outstanding Identifier
abbrev pub EndsFailed : Type 0
EndsFailed =
    (s : Server) (table fresh reply : List ℕ) → s.stage ≡ FailureRequestSent → 4 ≤ length reply →
    server_step s (brings (failure_response s.request.id.0) table fresh reply) ≡ answered (outcome 3 (eap_failure s.request.id.0) (staged Failed s)) reply

-- and from a new server on: a start, as many wrong tries as its retry count and one more, and a Failure Response; s is the state before that
abbrev pub Fails : Type 0
Fails =
    (id : Identifier) (challenge name : List ℕ) (retries : ℕ) (reply : List ℕ) (gs : List Try) (s : Server) (table fresh buffer : List ℕ) →
    length challenge ≡ 16 → StartFits name retries → challenge_name_at + length name ≤ length reply →
    length gs ≡ retries + 1 → WrongTries (left (server_step initial (starts id challenge name retries reply))) gs →
    s ≡ after left server_step initial (starts id challenge name retries reply ∷ map call_of gs) → 4 ≤ length buffer →
    server_step s (brings (failure_response s.request.id.0) table fresh buffer) ≡ answered (outcome 3 (eap_failure s.request.id.0) (staged Failed s)) buffer
