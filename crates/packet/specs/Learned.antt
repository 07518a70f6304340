-- What a reader learns of a packet: all its octets, but for padding; and what was written.
use Rattle.std.specs.Prelude.{ℕ, ◌+◌, ◌≤◌, ◌≡◌, ◌⊎◌, true, false, List, [], ◌++◌, length, get_or, take, drop, eqb}
use Rattle.octets.specs.Choice.{pick}
use Rattle.octets.specs.Lists.{cells, pasted}
use Rattle.octets.specs.Octets.{AreOctets, all_hex, unhex_at, number}
use Rattle.answer.specs.Outcome.{gives}
use Rattle.answer.specs.Sizes.{max_packet, max_name}
use Rattle.packet.specs.declared.End.{End}
use Rattle.packet.specs.declared.End.TheVariants.{Peer, Server}
use Rattle.packet.specs.declared.Kind.{Kind}
use Rattle.packet.specs.declared.Kind.TheVariants.{Challenge, Response, SuccessRequest, FailureRequest, RetryRequest, SuccessResponse, FailureResponse, EapSuccess, EapFailure}
use Rattle.packet.specs.declared.Place.{Place}
use Rattle.packet.specs.declared.Packet.{Packet}
use Rattle.packet.specs.Forms.{challenge_name_at, max_challenge_name, response_name_at, success_tail_at, success_text_at, Tail, no_tail, with_text, success_message, FailureSpelling, failure_message, chap_packet, challenge_packet, response_packet, success_response, failure_response, eap_success, eap_failure}
use Rattle.packet.specs.Frame.{cut_of}
use Rattle.packet.specs.Reader.{challenge_place, nt_response_place, string_place, place, nowhere, at, reading, failure_of, read_packet}

-- the reading, and the octets at its three places
pub record Learned : Type 0 where
  pub packet : Packet
  pub challenge : List ℕ
  pub response : List ℕ
  pub tail : List ℕ

-- at this end p reads, and tells that much
pub record Learns (end : End) (p : List ℕ) (l : Learned) : Type 0 where
  pub reads : read_packet end p ≡ gives l.packet
  pub challenge_is : at p l.packet.challenge ≡ l.challenge
  pub response_is : at p l.packet.response ≡ l.response
  pub tail_is : at p l.packet.tail ≡ l.tail

-- ---- 1. Two packets that read alike
-- packets of which the same is learned are the same octets up to L. Leading zeros of E and V show too: they move the places
abbrev pub ReadAlike : Type 0
ReadAlike = (end end' : End) (p p' : List ℕ) (l : Learned) → AreOctets p → AreOctets p' → Learns end p l → Learns end' p' l → cut_of p ≡ cut_of p'

-- where a Failure Request's C is taken as its 16 octets, the case of its 32 digits is free, and nothing else
abbrev pub sixteen_of : List ℕ → List ℕ
sixteen_of c = cells 16 (unhex_at c)

abbrev pub HasC : Kind → Type 0
HasC kind = (kind ≡ FailureRequest) ⊎ (kind ≡ RetryRequest)

-- the same digit, in either case
pub data SameDigit : ℕ → ℕ → Type 0 where
  equal : (x : ℕ) → SameDigit x x
  upper_lower : (x : ℕ) → 65 ≤ x → x ≤ 70 → SameDigit x (x + 32)
  lower_upper : (x : ℕ) → 65 ≤ x → x ≤ 70 → SameDigit (x + 32) x

-- q' is q, with digits at C that differ in their case alone
pub record SameButForCase (q q' : List ℕ) (x : Packet) : Type 0 where
  pub outside : q' ≡ pasted q x.challenge.start (at q' x.challenge)
  pub digits : (k : ℕ) → SameDigit (get_or (at q x.challenge) k 0) (get_or (at q' x.challenge) k 0)

abbrev pub ReadAlikeButForCase : Type 0
ReadAlikeButForCase =
    (p p' : List ℕ) (x : Packet) → AreOctets p → AreOctets p' → read_packet Peer p ≡ gives x → read_packet Peer p' ≡ gives x → HasC x.kind →
    sixteen_of (at p x.challenge) ≡ sixteen_of (at p' x.challenge) → at p x.tail ≡ at p' x.tail →
    SameButForCase (cut_of p) (cut_of p') x

-- ---- 2. What is written reads back at the right end, whatever padding follows it
-- what is learned of each packet
abbrev pub learned : Packet → List ℕ → List ℕ → List ℕ → Learned
learned x challenge response tail = record { packet = x; challenge = challenge; response = response; tail = tail }

abbrev pub challenge_learned : ℕ → ℕ → List ℕ → List ℕ → Learned
challenge_learned id chapid challenge name =
    learned (reading Challenge id chapid (challenge_name_at + length name) 0 challenge_place nowhere (place challenge_name_at (length name))) challenge [] name

abbrev pub response_learned : ℕ → ℕ → List ℕ → List ℕ → List ℕ → Learned
response_learned id chapid peer response name =
    learned (reading Response id chapid (response_name_at + length name) 0 challenge_place nt_response_place (place response_name_at (length name))) peer response name

-- with or without a tail: the text goes from its start to L
abbrev pub text_start : Tail → ℕ
text_start no_tail = success_tail_at
text_start (with_text text) = success_text_at

abbrev pub text_of : Tail → List ℕ
text_of no_tail = []
text_of (with_text text) = text

abbrev pub success_reading : ℕ → ℕ → Tail → Packet
success_reading id chapid tail = reading SuccessRequest id chapid (text_start tail + length (text_of tail)) 0 nowhere string_place (place (text_start tail) (length (text_of tail)))

-- E has a digits, and the text starts at t
abbrev pub failure_reading : ℕ → ℕ → ℕ → ℕ → ℕ → ℕ → List ℕ → Packet
failure_reading id chapid error retry a t text = reading (failure_of retry) id chapid (t + length text) error (place (18 + a) 32) nowhere (place t (length text))

-- the four with no MS-CHAPv2-ID and no places; l is L
abbrev pub bare_learned : Kind → ℕ → ℕ → Learned
bare_learned kind id l = learned (reading kind id 0 l 0 nowhere nowhere nowhere) [] [] []

abbrev pub SuccessReads : Type 0
SuccessReads =
    (id chapid : ℕ) (s : List ℕ) (tail : Tail) (pad : List ℕ) → length s ≡ 40 → all_hex false s ≡ true → (success_reading id chapid tail).length ≤ max_packet →
    Learns Peer (chap_packet 1 3 id chapid (success_message s tail) ++ pad) (learned (success_reading id chapid tail) [] s (text_of tail))

pub record WrittenReadsBack : Type 0 where
  pub challenge : (id chapid : ℕ) (challenge name pad : List ℕ) → length challenge ≡ 16 → 1 ≤ length name → length name ≤ max_challenge_name →
      Learns Peer (challenge_packet id chapid challenge name ++ pad) (challenge_learned id chapid challenge name)
  pub response : (id chapid : ℕ) (peer response name pad : List ℕ) → length peer ≡ 16 → length response ≡ 24 → length name ≤ max_name →
      Learns Server (response_packet id chapid peer response name ++ pad) (response_learned id chapid peer response name)
  pub success_request : SuccessReads
  pub failure_request : (id chapid : ℕ) (e : List ℕ) (retry : ℕ) (c v text pad : List ℕ) → FailureSpelling e retry c v → 56 + length e + length v + length text ≤ max_packet →
      Learns Peer (chap_packet 1 4 id chapid (failure_message e (48 + retry) c v text) ++ pad)
      (learned (failure_reading id chapid (number e) retry (length e) (56 + length e + length v) text) c [] text)
  pub success_response : (id : ℕ) (pad : List ℕ) → Learns Server (success_response id ++ pad) (bare_learned SuccessResponse id 6)
  pub failure_response : (id : ℕ) (pad : List ℕ) → Learns Server (failure_response id ++ pad) (bare_learned FailureResponse id 6)
  pub eap_success : (id : ℕ) (pad : List ℕ) → Learns Peer (eap_success id ++ pad) (bare_learned EapSuccess id 4)
  pub eap_failure : (id : ℕ) (pad : List ℕ) → Learns Peer (eap_failure id ++ pad) (bare_learned EapFailure id 4)

-- ---- 3. 02 [1]: "no two Success messages have the same reading". A reading x of p holds places: what it tells is the digits at its response, and by the
-- place of its text whether there is a tail, and the text
unfoldable pub tail_in : Place → List ℕ → Tail
tail_in a p = pick (eqb a.start success_tail_at) no_tail (with_text (at p a))

-- the message, from 9 to L
abbrev pub message_in : Packet → List ℕ → List ℕ
message_in x p = drop 9 (take x.length p)

abbrev pub SuccessMessagesApart : Type 0
SuccessMessagesApart =
    (p p' : List ℕ) (x x' : Packet) → read_packet Peer p ≡ gives x → read_packet Peer p' ≡ gives x' → x.kind ≡ SuccessRequest → x'.kind ≡ SuccessRequest →
    at p x.response ≡ at p' x'.response → tail_in x.tail p ≡ tail_in x'.tail p' →
    message_in x p ≡ message_in x' p'
