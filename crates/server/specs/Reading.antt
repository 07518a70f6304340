-- What a call writes reads back at the peer's end as the packet meant; and so does the outstanding request, over any calls on from a new server.
use Rattle.std.specs.Prelude.{◌≡◌, ℕ, ◌≤◌, true, ◌⊎◌, List, [], ◌++◌, length}
use Rattle.octets.specs.Lists.{cells}
use Rattle.octets.specs.Octets.{number_at, hex_at}
use Rattle.octets.specs.declared.Order.TheVariants.{Big}
use Rattle.answer.specs.Outcome.{gives, Outcome}
use Rattle.answer.specs.declared.Identifier.{Identifier}
use Rattle.packet.specs.declared.End.TheVariants as end
use Rattle.packet.specs.declared.Kind.{Kind}
use Rattle.packet.specs.declared.Kind.TheVariants as kind
use Rattle.packet.specs.declared.Packet.{Packet}
use Rattle.packet.specs.Forms.{with_text, eap_success, eap_failure}
use Rattle.packet.specs.Learned.{Learned, Learns, learned, challenge_learned, success_reading, failure_reading, bare_learned}
use Rattle.packet.specs.Reader.{read_packet}
use Rattle.server.specs.declared.Failure.{Failure}
use Rattle.server.specs.declared.Stage.{Stage}
use Rattle.server.specs.declared.Stage.TheVariants.{Begin, ChallengeSent, SuccessRequestSent, FailureRequestSent, Success, Failed}
use Rattle.server.specs.declared.Server.{Server}
use Rattle.server.specs.State.{stored_request, next_id, challenge_to, success_to, retry_digit, failure_to}
use Rattle.server.specs.Moves.{sent}
use Rattle.server.specs.Runs.{Call, resends, server_step, Lent, Reached}
use Rattle.server.specs.Effects.{Moves, starting, granting, denying, confirming, ending, resending}
use Rattle.server.specs.Promises.{Asks}

-- ---- the peer's end reads q, whatever padding follows, and learns l of it; L is the length of q, which is n
pub record PeerReads (q : List ℕ) (l : Learned) : Type 0 where
  pub learns : (pad : List ℕ) → Learns end.Peer (q ++ pad) l
  pub size : l.packet.length ≡ length q

abbrev pub ChallengeMeant : Identifier → List ℕ → List ℕ → Type 0
ChallengeMeant id challenge name = PeerReads (challenge_to id challenge name) (challenge_learned id.0 id.0 challenge name)

-- under the next Identifier. L = 54
abbrev pub SuccessMeant : Identifier → List ℕ → Type 0
SuccessMeant id string = PeerReads (success_to id string) (learned (success_reading id.0 id.0 (with_text [])) [] (cells 40 (hex_at string)) [])

-- E has three digits, and the text, which is empty, starts at L = 60
abbrev pub FailureMeant : Identifier → Failure → List ℕ → Type 0
FailureMeant id f fresh =
    PeerReads (failure_to id f.error (retry_digit f.retry) fresh)
    (learned (failure_reading id.0 id.0 f.error (retry_digit f.retry) 3 60 []) (cells 32 (hex_at fresh)) [] [])

-- the packet that a move writes. A resend writes what is stored
module _ (s : Server) where
  abbrev pub Meant : {c : Call (List ℕ)} {o : Outcome Server} → Moves s c o → Type 0
  Meant (starting {id} {challenge} {name} b f) = ChallengeMeant id challenge name
  Meant (granting string v) = SuccessMeant (next_id s.request.id) string
  Meant (denying {fresh = fresh} v f x d n) = FailureMeant (next_id s.request.id) f fresh
  Meant (confirming x t) = PeerReads (eap_success x.id.0) (bare_learned kind.EapSuccess x.id.0 4)
  Meant (ending x t) = PeerReads (eap_failure x.id.0) (bare_learned kind.EapFailure x.id.0 4)
  Meant (resending e) = Unit {0}

abbrev pub MovesReadBack : Type 0
MovesReadBack = (s : Server) (c : Call (List ℕ)) (o : Outcome Server) → Lent c → (m : Moves s c o) → Meant s m

-- "n equals the written packet's L"
abbrev pub CountIsLength : Type 0
CountIsLength = (s : Server) (c : Call (List ℕ)) → Lent c → Asks c → (server_step s c).number ≤ 3 → (server_step s c).n ≡ number_at Big (server_step s c).reply 2

-- ---- the outstanding request
-- the kind of request that a stage has outstanding
abbrev pub Waits : Stage → Kind → Type 0
Waits Begin k = ⊥
Waits ChallengeSent k = (k ≡ kind.Challenge) ⊎ (k ≡ kind.RetryRequest)
Waits SuccessRequestSent k = k ≡ kind.SuccessRequest
Waits FailureRequestSent k = k ≡ kind.FailureRequest
Waits Success k = ⊥
Waits Failed k = ⊥

-- it reads back, whole and under the outstanding numbers; L is its length
pub record Outstanding (s : Server) : Type 0 where
  pub packet : Packet
  pub reads : (pad : List ℕ) → read_packet end.Peer (stored_request s ++ pad) ≡ gives packet
  pub waits : Waits s.stage packet.kind
  pub id : packet.id.0 ≡ s.request.id.0
  pub chapid : packet.chapid.0 ≡ s.request.chapid.0
  pub size : packet.length ≡ length (stored_request s)

abbrev pub OutstandingReads : Type 0
OutstandingReads = (s : Server) → Reached s → sent s.stage ≡ true → Outstanding s

-- a resend then has n = L, and what it writes is read as that packet
abbrev pub ResendsRead : Type 0
ResendsRead =
    (s : Server) (q : Outstanding s) (reply : List ℕ) → sent s.stage ≡ true → length (stored_request s) ≤ length reply →
    ((server_step s (resends reply)).number ≡ 0) × (((server_step s (resends reply)).n ≡ q.packet.length)
    × (read_packet end.Peer (server_step s (resends reply)).reply ≡ gives q.packet))
