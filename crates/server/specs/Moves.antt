-- 01, "The server's moves": what each stage takes, and the turn of a packet. No table is read here.
use Rattle.std.specs.Prelude.{◌≡◌, ℕ, Bool, true, false, not, ◌&&◌, ◌||◌, List, ◌==◌}
use Rattle.octets.specs.Choice.{pick}
use Rattle.answer.specs.Outcome.{Told, gives, told}
use Rattle.packet.specs.declared.End.TheVariants as end
use Rattle.packet.specs.declared.Kind.{Kind}
use Rattle.packet.specs.declared.Kind.TheVariants.{Response, SuccessResponse, FailureResponse}
use Rattle.packet.specs.declared.Packet.{Packet}
use Rattle.packet.specs.Kinds.{is_kind}
use Rattle.packet.specs.Reader.{no_packet, read_packet}
use Rattle.server.specs.declared.Stage.{Stage}
use Rattle.server.specs.declared.Stage.TheVariants.{Begin, ChallengeSent, SuccessRequestSent, FailureRequestSent, Success, Failed}
use Rattle.server.specs.declared.Server.{Server}

-- start is 19 outside BEGIN
abbrev pub begins : Stage → Bool
begins Begin = true
begins ChallengeSent = false
begins SuccessRequestSent = false
begins FailureRequestSent = false
begins Success = false
begins Failed = false

-- resend is 19 outside "the stages ending in SENT"
abbrev pub sent : Stage → Bool
sent Begin = false
sent ChallengeSent = true
sent SuccessRequestSent = true
sent FailureRequestSent = true
sent Success = false
sent Failed = false

-- "CHALLENGE_SENT takes Response", "SUCCESS_REQUEST_SENT takes Success Response", "FAILURE_REQUEST_SENT takes Failure Response"
abbrev pub takes : Stage → Kind → Bool
takes Begin k = false
takes ChallengeSent k = is_kind Response k
takes SuccessRequestSent k = is_kind SuccessResponse k
takes FailureRequestSent k = is_kind FailureResponse k
takes Success k = false
takes Failed k = false

-- 18: "Identifier, or a Response's MS-CHAPv2-ID, differs from the outstanding one"
unfoldable pub misnumbered : Server → Packet → Bool
misnumbered s k = not (k.id.0 == s.request.id.0) || (is_kind Response k.kind && not (k.chapid.0 == s.request.chapid.0))

-- the first refusal of 10 to 19 where t was read, 0 for none: "10 to 17, .. 19, 18"
unfoldable pub turn_refusal : Server → Told Packet → ℕ
turn_refusal s t =
    pick (not (t.number == 0)) t.number
    (pick (not (takes s.stage t.value.kind)) 19
    (pick (misnumbered s t.value) 18 0))

-- the turn of a packet: that refusal, or what was read
unfoldable pub turn_of : Server → List ℕ → Told Packet
turn_of s p = told (turn_refusal s (read_packet end.Server p)) no_packet (read_packet end.Server p).value

-- none of 10 to 19 holds: the packet was read as k, the stage is g and takes it, and its numbers are the outstanding ones
pub record Taken (s : Server) (packet : List ℕ) (g : Stage) (k : Packet) : Type 0 where
  pub reads : read_packet end.Server packet ≡ gives k
  pub stage : s.stage ≡ g
  pub kind : takes g k.kind ≡ true
  pub numbered : misnumbered s k ≡ false
