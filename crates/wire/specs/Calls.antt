-- The reader and the stateless writers at the boundary: the sizes first, then the call.
use Rattle.std.specs.Prelude.{ℕ, List, ◌&&◌, length, eqb}
use Rattle.octets.specs.Choice.{pick}
use Rattle.answer.specs.Outcome.{Told}
use Rattle.packet.specs.declared.End.TheVariants as end
use Rattle.packet.specs.declared.Packet.{Packet}
use Rattle.packet.specs.Frame.{frame_of}
use Rattle.packet.specs.Reader.{read_packet}
use Rattle.packet.specs.Texts.{text_told}
use Rattle.writers.specs.Writers.{write_challenge, write_response, write_success_request, write_failure_request, write_success_response, write_failure_response, write_eap_success, write_eap_failure}
use Rattle.calls.specs.Done.{word_of, word_telling, Made, made, wrote}
use Rattle.calls.specs.Stateless.{has}
use Rattle.wire.specs.Readings.{reading_octets, octets_of_reading}

-- ---- the reader. t is what it gives; a refusal writes nothing
unfoldable pub told_in : Told Packet → List ℕ → Made
told_in t out = made (word_telling t.number 0 (text_told t)) (pick (eqb t.number 0) (octets_of_reading t.value) out)

-- for an end that is none, 23 after 10 to 12, which are the same for both ends; t is L, or one of those
unfoldable pub without_end : Told ℕ → ℕ
without_end t = pick (eqb t.number 0) 23 t.number

-- an end is 0, the peer, or 1, the server
unfoldable pub read_at : ℕ → List ℕ → List ℕ → Made
read_at e packet out =
    pick (has reading_octets out)
    (pick (eqb e 0) (told_in (read_packet end.Peer packet) out)
    (pick (eqb e 1) (told_in (read_packet end.Server packet) out)
    (made (word_of (without_end (frame_of packet)) 0) out)))
    (made 23 out)

-- ---- the writers
unfoldable pub challenge_at : ℕ → ℕ → List ℕ → List ℕ → List ℕ → Made
challenge_at id chapid challenge name out =
    pick (has 16 challenge) (wrote (write_challenge id chapid challenge name (length out)) out) (made 23 out)

unfoldable pub response_at : ℕ → ℕ → List ℕ → List ℕ → List ℕ → List ℕ → Made
response_at id chapid peer response name out =
    pick (has 16 peer && has 24 response) (wrote (write_response id chapid peer response name (length out)) out) (made 23 out)

unfoldable pub success_request_at : ℕ → ℕ → List ℕ → List ℕ → List ℕ → Made
success_request_at id chapid string text out =
    pick (has 20 string) (wrote (write_success_request id chapid string text (length out)) out) (made 23 out)

unfoldable pub failure_request_at : ℕ → ℕ → ℕ → ℕ → List ℕ → List ℕ → List ℕ → Made
failure_request_at id chapid error retry challenge text out =
    pick (has 16 challenge) (wrote (write_failure_request id chapid error retry challenge text (length out)) out) (made 23 out)

unfoldable pub success_response_at : ℕ → List ℕ → Made
success_response_at id out = wrote (write_success_response id (length out)) out

unfoldable pub failure_response_at : ℕ → List ℕ → Made
failure_response_at id out = wrote (write_failure_response id (length out)) out

unfoldable pub eap_success_at : ℕ → List ℕ → Made
eap_success_at id out = wrote (write_eap_success id (length out)) out

unfoldable pub eap_failure_at : ℕ → List ℕ → Made
eap_failure_at id out = wrote (write_eap_failure id (length out)) out
