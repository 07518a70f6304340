-- What the reader and the writers answer at the boundary, and that the octets of a reading tell it whole.
use Rattle.std.specs.Prelude.{ℕ, ◌+◌, ◌*◌, ◌≡◌, List, get_or}
use Rattle.octets.specs.Octets.{number_at}
use Rattle.octets.specs.declared.Order.TheVariants.{Little}
use Rattle.answer.specs.Outcome.{gives}
use Rattle.answer.specs.Promises.{IsRefusal}
use Rattle.packet.specs.declared.End.{End}
use Rattle.packet.specs.declared.Packet.{Packet}
use Rattle.packet.specs.declared.Place.{Place}
use Rattle.packet.specs.Kinds.{kind_number}
use Rattle.packet.specs.Reader.{place, read_packet}
use Rattle.packet.specs.Texts.{text_place}
use Rattle.calls.specs.Done.{word_of, word_telling, Made, made}
use Rattle.calls.specs.Promises.{WritesAt}
use Rattle.wire.specs.Readings.{octets_of_reading}
use Rattle.wire.specs.Calls.{read_at, challenge_at, response_at, success_request_at, failure_request_at, success_response_at, failure_response_at, eap_success_at, eap_failure_at}

-- ---- 0 with the whole reading and the place of the text, or a refusal that leaves the output
pub data ReadsAt (packet out : List ℕ) : Made → Type 0 where
  reads : (end : End) (x : Packet) → read_packet end packet ≡ gives x → ReadsAt packet out (made (word_telling 0 0 (text_place end packet)) (octets_of_reading x))
  refuses : (k : ℕ) → IsRefusal k → ReadsAt packet out (made (word_of k 0) out)

pub record WireAnswers : Type 0 where
  pub read : (end : ℕ) (packet out : List ℕ) → ReadsAt packet out (read_at end packet out)
  pub challenge : (id chapid : ℕ) (challenge name out : List ℕ) → WritesAt out (challenge_at id chapid challenge name out)
  pub response : (id chapid : ℕ) (peer response name out : List ℕ) → WritesAt out (response_at id chapid peer response name out)
  pub success_request : (id chapid : ℕ) (string text out : List ℕ) → WritesAt out (success_request_at id chapid string text out)
  pub failure_request : (id chapid error retry : ℕ) (challenge text out : List ℕ) → WritesAt out (failure_request_at id chapid error retry challenge text out)
  pub success_response : (id : ℕ) (out : List ℕ) → WritesAt out (success_response_at id out)
  pub failure_response : (id : ℕ) (out : List ℕ) → WritesAt out (failure_response_at id out)
  pub eap_success : (id : ℕ) (out : List ℕ) → WritesAt out (eap_success_at id out)
  pub eap_failure : (id : ℕ) (out : List ℕ) → WritesAt out (eap_failure_at id out)

-- ---- the fields of a reading, where the header has them: s are its octets
abbrev pub place_at : List ℕ → ℕ → Place
place_at s i = place (number_at Little s i) (number_at Little s (i + 2))

abbrev pub eight_at : List ℕ → ℕ → ℕ
eight_at s i =
    number_at Little s i + number_at Little s (i + 2) * 65536 + number_at Little s (i + 4) * 4294967296 + number_at Little s (i + 6) * 281474976710656

pub record Holds (s : List ℕ) (x : Packet) : Type 0 where
  pub kind : get_or s 0 0 ≡ kind_number x.kind
  pub id : get_or s 1 0 ≡ x.id.0
  pub chapid : get_or s 2 0 ≡ x.chapid.0
  pub length : number_at Little s 3 ≡ x.length
  pub error : eight_at s 5 ≡ x.error
  pub challenge : place_at s 13 ≡ x.challenge
  pub response : place_at s 17 ≡ x.response
  pub tail : place_at s 21 ≡ x.tail

abbrev pub ReadingTold : Type 0
ReadingTold = (end : End) (packet : List ℕ) (x : Packet) → read_packet end packet ≡ gives x → Holds (octets_of_reading x) x
