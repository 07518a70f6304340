-- How long each packet is.
use Prim.Native.Nat.{ℕ, ◌+◌, ◌≤◌}
use mathlib.Core.Path.{◌≡◌, sym, ◌∙◌}
use mathlib.Core.List.{List, [], ◌∷◌, ◌++◌}
use native.Mathlib.Omega.{arith}
use lib.ListN.{length, length-append}
use Rattle.octets.specs.Lists.{cells}
use Rattle.octets.specs.Octets.{hex_at, decimal}
use Rattle.octets.proofs.Lists.{length_cells}
use Rattle.octets.proofs.Decimals.{length_decimal_3}
use Rattle.packet.specs.Forms.{challenge_name_at, response_name_at, success_tail_at, success_text_at, Tail, with_text, tail_octets, success_message, failure_message, header, chap_packet, challenge_packet, response_packet, success_request, failure_request}

pub length_chap_packet : (code op id chapid : ℕ) (body : List ℕ) → length (chap_packet code op id chapid body) ≡ 9 + length body
unfolding chap_packet header
length_chap_packet code op id chapid body = omega arith

pub length_challenge_packet : (id chapid : ℕ) (challenge name : List ℕ) → length challenge ≡ 16 → length (challenge_packet id chapid challenge name) ≡ challenge_name_at + length name
unfolding challenge_packet
length_challenge_packet id chapid challenge name e = omega (arith, length_chap_packet 1 1 id chapid (16 ∷ (challenge ++ name)), length-append challenge name)

pub length_response_packet : (id chapid : ℕ) (peer response name : List ℕ) → length peer ≡ 16 → length response ≡ 24 → length (response_packet id chapid peer response name) ≡ response_name_at + length name
unfolding response_packet
length_response_packet id chapid peer response name e f =
    simp (length_chap_packet, length-append) (omega arith)

pub length_success : (id chapid : ℕ) (s : List ℕ) (tail : Tail) → length s ≡ 40 → length (chap_packet 1 3 id chapid (success_message s tail)) ≡ success_tail_at + length (tail_octets tail)
unfolding success_message
length_success id chapid s tail e = simp (length_chap_packet, length-append) (omega arith)

pub length_success_request : (id chapid : ℕ) (string text : List ℕ) → length (success_request id chapid string text) ≡ success_text_at + length text
unfolding success_request
length_success_request id chapid string text = length_success id chapid (cells 40 (hex_at string)) (with_text text) (length_cells 40 (hex_at string)) ∙ omega arith

pub length_failure : (id chapid : ℕ) (e : List ℕ) (r : ℕ) (c v text : List ℕ) → length c ≡ 32 → length (chap_packet 1 4 id chapid (failure_message e r c v text)) ≡ 56 + length e + length v + length text
unfolding failure_message
length_failure id chapid e r c v text h = simp (length_chap_packet, length-append) (omega arith)

-- E has d digits
pub length_failure_request : (id chapid error retry d : ℕ) (challenge text : List ℕ) → d ≡ length (decimal error) → length (failure_request id chapid error retry challenge text) ≡ 57 + d + length text
unfolding failure_request
length_failure_request id chapid error retry d challenge text e =
    length_failure id chapid (decimal error) (48 + retry) (cells 32 (hex_at challenge)) (51 ∷ []) text (length_cells 32 (hex_at challenge)) ∙ omega arith

-- the one that the server writes
pub length_failure_request_60 : (id chapid error retry : ℕ) (challenge : List ℕ) → 100 ≤ error → error ≤ 999 → length (failure_request id chapid error retry challenge []) ≡ 60
length_failure_request_60 id chapid error retry challenge h k =
    length_failure_request id chapid error retry 3 challenge [] (sym (length_decimal_3 error h k))
