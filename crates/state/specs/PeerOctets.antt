-- A peer's state as octets: the layout of include/zirgumtak.h.
use Rattle.std.specs.Prelude.{ℕ, ◌+◌, ◌/◌, ◌%◌, get_or, drop}
use mathlib.Core.List.{List, [], ◌∷◌, flatten}
use Rattle.octets.specs.Lists.{sized}
use Rattle.octets.specs.Octets.{number_at}
use Rattle.octets.specs.declared.Order.TheVariants.{Little}
use Rattle.peer.specs.declared.Stage.{Stage}
use Rattle.peer.specs.declared.Stage.TheVariants.{Begin, ChallengeResponseSent, SuccessResponseSent, FailureResponseSent, Waiting, Success, Failed}
use Rattle.peer.specs.declared.Peer.{Peer}
use Rattle.answer.specs.Sizes.{max_packet, max_name}
use Rattle.peer.specs.State.{reply_room}

-- where each array begins, after eight octets of numbers
abbrev pub hash_at : ℕ
hash_at = 8

abbrev pub authenticator_at : ℕ
authenticator_at = hash_at + 16

abbrev pub own_at : ℕ
own_at = authenticator_at + 16

abbrev pub name_at : ℕ
name_at = own_at + 16

abbrev pub request_at : ℕ
request_at = name_at + max_name

abbrev pub reply_at : ℕ
reply_at = request_at + max_packet

abbrev pub expected_at : ℕ
expected_at = reply_at + reply_room

abbrev pub peer_octets : ℕ
peer_octets = expected_at + 20

abbrev pub peer_stage_number : Stage → ℕ
peer_stage_number Begin = 0
peer_stage_number ChallengeResponseSent = 1
peer_stage_number SuccessResponseSent = 2
peer_stage_number FailureResponseSent = 3
peer_stage_number Waiting = 4
peer_stage_number Success = 5
peer_stage_number Failed = 6

-- any other number reads as FAILED
unfoldable pub peer_stage_of : ℕ → Stage
peer_stage_of n = get_or (Begin ∷ ChallengeResponseSent ∷ SuccessResponseSent ∷ FailureResponseSent ∷ Waiting ∷ Success ∷ []) n Failed

-- the peer that octets stand for; octets past the end count as 0
unfoldable pub peer_of : List ℕ → Peer
peer_of s = record {
  stage = peer_stage_of (get_or s 0 0);
  credentials = record { name = sized max_name (drop name_at s); namelen = number_at Little s 2; hash = sized 16 (drop hash_at s) };
  challenges = record { authenticator = sized 16 (drop authenticator_at s); own = sized 16 (drop own_at s); chapid = record { 0 = get_or s 1 0 }; expected = sized 20 (drop expected_at s) };
  request = sized max_packet (drop request_at s);
  requestlen = number_at Little s 4;
  reply = sized reply_room (drop reply_at s);
  replylen = number_at Little s 6;
}

abbrev pub peer_numbers : Peer → List ℕ
peer_numbers p =
    peer_stage_number p.stage ∷ p.challenges.chapid.0
    ∷ p.credentials.namelen % 256 ∷ p.credentials.namelen / 256
    ∷ p.requestlen % 256 ∷ p.requestlen / 256
    ∷ p.replylen % 256 ∷ p.replylen / 256 ∷ []

-- the fields in their order: the numbers, then the arrays
abbrev pub peer_fields : Peer → List (List ℕ)
peer_fields p =
    peer_numbers p
    ∷ p.credentials.hash ∷ p.challenges.authenticator ∷ p.challenges.own
    ∷ p.credentials.name ∷ p.request ∷ p.reply
    ∷ p.challenges.expected
    ∷ []

unfoldable pub octets_of_peer : Peer → List ℕ
octets_of_peer p = flatten (peer_fields p)
