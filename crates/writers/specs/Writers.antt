-- What the stateless writers do, one for each row of the packet table. Arguments are the packet's, and then the room in the buffer.
use Rattle.std.specs.Prelude.{ℕ, ◌<◌, ◌≤◌, ◌≡◌, ◌⊎◌, List, Bool, true, not, ◌&&◌, length, ltb, leb, Result, Ok, Err}
use Rattle.octets.specs.Choice.{pick}
use Rattle.answer.specs.declared.Refusal.{Refusal}
use Rattle.answer.specs.Answer.{refusal_of}
use Rattle.answer.specs.Sizes.{max_packet, max_name}
use Rattle.answer.specs.Outcome.{Outcome, outcome, refused, fitting}
use Rattle.packet.specs.Forms.{challenge_packet, response_packet, success_request, failure_request, success_response, failure_response, eap_success, eap_failure}

-- 0 and the octets q, or 20
abbrev pub sends : ℕ → List ℕ → Outcome (Unit {0})
sends room q = fitting room tt (outcome 0 q tt)

-- 01, "What a call answers": "a writer gives 23 for what has no form above or needs L over 1,020", then 20; else 0 and the packet
unfoldable pub writing : Bool → ℕ → List ℕ → Outcome (Unit {0})
writing formed room q =
    pick (not formed) (refused 23 tt)
    (pick (ltb max_packet (length q)) (refused 23 tt)
    (sends room q))

-- the two last tests of a packet of l octets
abbrev pub HasRoom : ℕ → ℕ → Result (Unit {0}) Refusal → Type 0
HasRoom l room (Ok x) = (l ≤ max_packet) × (l ≤ room)
HasRoom l room (Err why) = ((refusal_of why ≡ 23) × (max_packet < l)) ⊎ ((refusal_of why ≡ 20) × ((l ≤ max_packet) × (room < l)))

-- a name of one octet or more
abbrev pub write_challenge : ℕ → ℕ → List ℕ → List ℕ → ℕ → Outcome (Unit {0})
write_challenge id chapid challenge name room = writing (leb 1 (length name)) room (challenge_packet id chapid challenge name)

-- a name of 0 to 256 octets
abbrev pub write_response : ℕ → ℕ → List ℕ → List ℕ → List ℕ → ℕ → Outcome (Unit {0})
write_response id chapid peer response name room = writing (leb (length name) max_name) room (response_packet id chapid peer response name)

abbrev pub write_success_request : ℕ → ℕ → List ℕ → List ℕ → ℕ → Outcome (Unit {0})
write_success_request id chapid string text room = writing true room (success_request id chapid string text)

-- E of 1 to 10 digits, and R 0 or 1
abbrev pub write_failure_request : ℕ → ℕ → ℕ → ℕ → List ℕ → List ℕ → ℕ → Outcome (Unit {0})
write_failure_request id chapid error retry challenge text room =
    writing (leb error 9999999999 && leb retry 1) room (failure_request id chapid error retry challenge text)

abbrev pub write_success_response : ℕ → ℕ → Outcome (Unit {0})
write_success_response id room = writing true room (success_response id)

abbrev pub write_failure_response : ℕ → ℕ → Outcome (Unit {0})
write_failure_response id room = writing true room (failure_response id)

abbrev pub write_eap_success : ℕ → ℕ → Outcome (Unit {0})
write_eap_success id room = writing true room (eap_success id)

abbrev pub write_eap_failure : ℕ → ℕ → Outcome (Unit {0})
write_eap_failure id room = writing true room (eap_failure id)
