-- 01, "Packet forms": the octets of each packet, and which octets are one for an end.
use Rattle.std.specs.Prelude.{ℕ, ◌+◌, ◌-◌, ◌/◌, ◌%◌, ◌≤◌, ◌≡◌, true, false, List, [], ◌∷◌, ◌++◌, length}
use Rattle.answer.specs.Sizes.{max_packet, max_name}
use Rattle.octets.specs.Lists.{cells}
use Rattle.octets.specs.Octets.{all_hex, hex_at, digits, number, decimal}
use Rattle.packet.specs.declared.End.{End}
use Rattle.packet.specs.declared.End.TheVariants.{Peer, Server}

-- ---- places and sizes
-- a Challenge's name, 1 to 994 octets
abbrev pub challenge_name_at : ℕ
challenge_name_at = 26

abbrev pub max_challenge_name : ℕ
max_challenge_name = max_packet - challenge_name_at

-- a Response's name
abbrev pub response_name_at : ℕ
response_name_at = 59

-- a Success Request's tail, and the text in it
abbrev pub success_tail_at : ℕ
success_tail_at = 51

abbrev pub success_text_at : ℕ
success_text_at = 54

-- ---- the two messages, in ASCII: `S=`, `E=`, ` R=`, ` C=`, ` V=`, ` M=`
abbrev pub word_s : List ℕ
word_s = 83 ∷ 61 ∷ []

abbrev pub word_e : List ℕ
word_e = 69 ∷ 61 ∷ []

abbrev pub word_r : List ℕ
word_r = 32 ∷ 82 ∷ 61 ∷ []

abbrev pub word_c : List ℕ
word_c = 32 ∷ 67 ∷ 61 ∷ []

abbrev pub word_v : List ℕ
word_v = 32 ∷ 86 ∷ 61 ∷ []

abbrev pub word_m : List ℕ
word_m = 32 ∷ 77 ∷ 61 ∷ []

-- 02 [1]: "After the digits either nothing follows, or ` M=` and any octets"
pub data Tail : Type 0 where
  no_tail : Tail
  with_text : List ℕ → Tail

abbrev pub tail_octets : Tail → List ℕ
tail_octets no_tail = []
tail_octets (with_text text) = word_m ++ text

-- `S=`, 40 digits, and the tail
unfoldable pub success_message : List ℕ → Tail → List ℕ
success_message s tail = word_s ++ (s ++ tail_octets tail)

-- `E=` 1 to 10 digits, ` R=` a digit, ` C=` 32 digits, ` V=` 1 to 10 digits, ` M=`, then any octets or none
unfoldable pub failure_message : List ℕ → ℕ → List ℕ → List ℕ → List ℕ → List ℕ
failure_message e r c v text = word_e ++ (e ++ (word_r ++ (r ∷ (word_c ++ (c ++ (word_v ++ (v ++ (word_m ++ text))))))))

-- what the parts of a Failure message are: 1 to 10 digits, R 0 or 1, 32 hex digits of either case, 1 to 10 digits whose number is 3
pub record FailureSpelling (e : List ℕ) (retry : ℕ) (c v : List ℕ) : Type 0 where
  pub e_digits : digits e ≡ length e
  pub e_some : 1 ≤ length e
  pub e_few : length e ≤ 10
  pub bit : retry ≤ 1
  pub c_size : length c ≡ 32
  pub c_hex : all_hex true c ≡ true
  pub v_digits : digits v ≡ length v
  pub v_some : 1 ≤ length v
  pub v_few : length v ≤ 10
  pub v_three : number v ≡ 3

-- ---- the first four packets: Code, Identifier, L, Type 26, OpCode, MS-CHAPv2-ID, MS-Length = L - 5, and the rest
unfoldable pub header : ℕ → ℕ → ℕ → ℕ → ℕ → List ℕ
header code op id chapid l = code ∷ id ∷ (l / 256) ∷ (l % 256) ∷ 26 ∷ op ∷ chapid ∷ ((l - 5) / 256) ∷ ((l - 5) % 256) ∷ []

unfoldable pub chap_packet : ℕ → ℕ → ℕ → ℕ → List ℕ → List ℕ
chap_packet code op id chapid body = header code op id chapid (9 + length body) ++ body

-- Value-Size 16, challenge, name
unfoldable pub challenge_packet : ℕ → ℕ → List ℕ → List ℕ → List ℕ
challenge_packet id chapid challenge name = chap_packet 1 1 id chapid (16 ∷ (challenge ++ name))

abbrev pub eight_zeros : List ℕ
eight_zeros = 0 ∷ 0 ∷ 0 ∷ 0 ∷ 0 ∷ 0 ∷ 0 ∷ 0 ∷ []

-- Value-Size 49, peer challenge, eight zeros, NT-Response, flags zero, name
unfoldable pub response_packet : ℕ → ℕ → List ℕ → List ℕ → List ℕ → List ℕ
response_packet id chapid peer response name = chap_packet 2 2 id chapid (49 ∷ (peer ++ (eight_zeros ++ (response ++ (0 ∷ name)))))

-- the string of 20 octets in upper case, and a tail
unfoldable pub success_request : ℕ → ℕ → List ℕ → List ℕ → List ℕ
success_request id chapid string text = chap_packet 1 3 id chapid (success_message (cells 40 (hex_at string)) (with_text text))

-- no leading zeros, R as its digit, C in upper case, V=3
unfoldable pub failure_request : ℕ → ℕ → ℕ → ℕ → List ℕ → List ℕ → List ℕ
failure_request id chapid error retry challenge text =
    chap_packet 1 4 id chapid (failure_message (decimal error) (48 + retry) (cells 32 (hex_at challenge)) (51 ∷ []) text)

-- ---- the others
abbrev pub success_response : ℕ → List ℕ
success_response id = 2 ∷ id ∷ 0 ∷ 6 ∷ 26 ∷ 3 ∷ []

abbrev pub failure_response : ℕ → List ℕ
failure_response id = 2 ∷ id ∷ 0 ∷ 6 ∷ 26 ∷ 4 ∷ []

abbrev pub eap_success : ℕ → List ℕ
eap_success id = 3 ∷ id ∷ 0 ∷ 4 ∷ []

abbrev pub eap_failure : ℕ → List ℕ
eap_failure id = 4 ∷ id ∷ 0 ∷ 4 ∷ []

-- ---- which octets are a packet for an end: one constructor for each row of the table
pub data Formed : End → List ℕ → Type 0 where
  a_challenge : (id chapid : ℕ) (challenge name : List ℕ) → length challenge ≡ 16 → 1 ≤ length name → Formed Peer (challenge_packet id chapid challenge name)
  a_response : (id chapid : ℕ) (peer response name : List ℕ) → length peer ≡ 16 → length response ≡ 24 → length name ≤ max_name → Formed Server (response_packet id chapid peer response name)
  a_success_request : (id chapid : ℕ) (s : List ℕ) (tail : Tail) → length s ≡ 40 → all_hex false s ≡ true → Formed Peer (chap_packet 1 3 id chapid (success_message s tail))
  a_failure_request : (id chapid : ℕ) (e : List ℕ) (retry : ℕ) (c v text : List ℕ) → FailureSpelling e retry c v → Formed Peer (chap_packet 1 4 id chapid (failure_message e (48 + retry) c v text))
  a_success_response : (id : ℕ) → Formed Server (success_response id)
  a_failure_response : (id : ℕ) → Formed Server (failure_response id)
  an_eap_success : (id : ℕ) → Formed Peer (eap_success id)
  an_eap_failure : (id : ℕ) → Formed Peer (eap_failure id)
