-- What a packet reads as, at each end. 01, "What a call answers": 10 to 17, in that order; "Packet forms": the table, row by row.
use Rattle.std.specs.Prelude.{ℕ, ◌+◌, ◌-◌, List, Bool, Result, true, false, not, ◌&&◌, ◌||◌, length, get_or, drop, ltb, leb, eqb}
use Rattle.octets.specs.Choice.{pick}
use Rattle.octets.specs.Lists.{part, sized}
use Rattle.octets.specs.Octets.{octet_is, stands_at, number_at, hex_stands, digits, number}
use Rattle.octets.specs.declared.Order.TheVariants.{Big}
use Rattle.answer.specs.Results.{told_by}
use Rattle.answer.specs.declared.Refusal.{Refusal}
use Rattle.answer.specs.Outcome.{Told, gives, refuses}
use Rattle.answer.specs.Sizes.{max_name}
use Rattle.packet.specs.Forms.{challenge_name_at, response_name_at, success_tail_at, success_text_at, word_s, word_e, word_r, word_c, word_v, word_m, eight_zeros}
use Rattle.packet.specs.Frame.{code_of, with_type, framed, typed}
use Rattle.packet.specs.declared.End.{End}
use Rattle.packet.specs.declared.End.TheVariants.{Peer, Server}
use Rattle.packet.specs.declared.Kind.{Kind}
use Rattle.packet.specs.declared.Kind.TheVariants.{Challenge, Response, SuccessRequest, FailureRequest, RetryRequest, SuccessResponse, FailureResponse, EapSuccess, EapFailure}
use Rattle.packet.specs.declared.Place.{Place}
use Rattle.packet.specs.declared.Packet.{Packet}

abbrev pub place : ℕ → ℕ → Place
place start len = record { start = start; len = len }

abbrev pub nowhere : Place
nowhere = place 0 0

-- a Challenge's challenge and a Response's peer challenge; the NT-Response; the digits of `S=`
abbrev pub challenge_place : Place
challenge_place = place 10 16

abbrev pub nt_response_place : Place
nt_response_place = place 34 24

abbrev pub string_place : Place
string_place = place 11 40

-- the octets of p at a place
abbrev pub at : List ℕ → Place → List ℕ
at p a = part p a.start a.len

-- the 16 octets of a Challenge's or a Response's challenge
unfoldable pub challenge_in : Packet → List ℕ → List ℕ
challenge_in k q = sized 16 (drop k.challenge.start q)

-- kind, Identifier, MS-CHAPv2-ID, L, the number of E=, and the three places
abbrev pub reading : Kind → ℕ → ℕ → ℕ → ℕ → Place → Place → Place → Packet
reading kind id chapid l error challenge response tail =
    record { kind = kind; id = record { 0 = id }; chapid = record { 0 = chapid }; length = l; error = error; challenge = challenge; response = response; tail = tail }

-- what stands beside a refusal, and means nothing
abbrev pub no_packet : Packet
no_packet = reading Challenge 0 0 0 0 nowhere nowhere nowhere

abbrev pub refusal : ℕ → Told Packet
refusal k = refuses k no_packet

abbrev pub told_reading : Result Packet Refusal → Told Packet
told_reading = told_by (λ x. x) no_packet

-- ---- 16 and 17: the rows of the table. q is a packet, cut at L
-- 16 "L under 9, or MS-Length not L - 5 (first four packets)", 17 "the rest breaks its form above"; the name or text goes from tail to L
unfoldable pub chap_row : Kind → List ℕ → Bool → ℕ → Place → Place → ℕ → Told Packet
chap_row kind q formed error challenge response tail =
    pick (ltb (length q) 9 || not (eqb (number_at Big q 7) (length q - 5))) (refusal 16)
    (pick (not formed) (refusal 17)
    (gives (reading kind (get_or q 1 0) (get_or q 6 0) (length q) error challenge response (place tail (length (drop tail q))))))

-- "Value-Size 16 at 9, challenge 10..25, name from 26, one octet or more"
unfoldable pub challenge_formed : List ℕ → Bool
challenge_formed q = pick (leb (length q) challenge_name_at) false (octet_is q 9 16)

unfoldable pub read_challenge : List ℕ → Told Packet
read_challenge q = chap_row Challenge q (challenge_formed q) 0 challenge_place nowhere challenge_name_at

-- "Value-Size 49 at 9, peer challenge 10..25, eight zeros 26..33, NT-Response 34..57, flags 58 zero, name from 59, 0 to 256 octets"
unfoldable pub response_formed : List ℕ → Bool
response_formed q =
    pick (ltb (length q) response_name_at) false
    (pick (ltb (response_name_at + max_name) (length q)) false
    (pick (not (octet_is q 9 49)) false
    (pick (not (stands_at q 26 eight_zeros)) false
    (octet_is q 58 0))))

unfoldable pub read_response : List ℕ → Told Packet
read_response q = chap_row Response q (response_formed q) 0 challenge_place nt_response_place response_name_at

-- "message from 9": "`S=`, 40 hex digits with A to F in upper case", and 02 [1]: "After the digits either nothing follows, or ` M=` and any octets"
unfoldable pub success_formed : List ℕ → Bool
success_formed q =
    pick (not (stands_at q 9 word_s)) false
    (pick (not (hex_stands false q 11 40)) false
    (eqb (length q) success_tail_at || stands_at q success_tail_at word_m))

-- where the text starts: at L where there is no tail
unfoldable pub text_at : List ℕ → ℕ
text_at q = pick (eqb (length q) success_tail_at) success_tail_at success_text_at

unfoldable pub read_success : List ℕ → Told Packet
read_success q = chap_row SuccessRequest q (success_formed q) 0 nowhere string_place (text_at q)

-- "`E=` 1 to 10 digits, ` R=` 0 or 1, ` C=` 32 hex digits of either case, ` V=` 1 to 10 digits whose number is 3, ` M=`, then any octets or
-- none": e digits after `E=`, and v after ` V=`
unfoldable pub failure_formed : List ℕ → ℕ → ℕ → Bool
failure_formed q e v =
    pick (not (stands_at q 9 word_e)) false
    (pick (not (leb 1 e && leb e 10)) false
    (pick (not (stands_at q (11 + e) word_r)) false
    (pick (not (octet_is q (14 + e) 48 || octet_is q (14 + e) 49)) false
    (pick (not (stands_at q (15 + e) word_c)) false
    (pick (not (hex_stands true q (18 + e) 32)) false
    (pick (not (stands_at q (50 + e) word_v)) false
    (pick (not ((leb 1 v && leb v 10) && eqb (number (part q (53 + e) v)) 3)) false
    (stands_at q (53 + e + v) word_m))))))))

-- a Failure Request's kind, by its R
unfoldable pub failure_of : ℕ → Kind
failure_of retry = pick (eqb retry 1) RetryRequest FailureRequest

unfoldable pub failure_row : List ℕ → ℕ → ℕ → Told Packet
failure_row q e v = chap_row (failure_of (get_or q (14 + e) 0 - 48)) q (failure_formed q e v) (number (part q 11 e)) (place (18 + e) 32) nowhere (56 + e + v)

abbrev pub error_digits : List ℕ → ℕ
error_digits q = digits (drop 11 q)

unfoldable pub read_failure : List ℕ → Told Packet
read_failure q = failure_row q (error_digits q) (digits (drop (53 + error_digits q) q))

-- "L = 6, nothing after OpCode"; "L = 4"
unfoldable pub read_bare : Kind → ℕ → List ℕ → Told Packet
read_bare kind l q = pick (not (eqb (length q) l)) (refusal 17) (gives (reading kind (get_or q 1 0) 0 (length q) 0 nowhere nowhere nowhere))

-- ---- 13 to 15
-- "peer 1, 3, 4; server 2"
abbrev pub code_for : End → ℕ → Bool
code_for Peer code = eqb code 1 || (eqb code 3 || eqb code 4)
code_for Server code = eqb code 2

-- the table's columns Code and OpCode; 15 is "not one of the table for that Code"
unfoldable pub row_of : ℕ → ℕ → List ℕ → Told Packet
row_of code op q =
    pick (eqb code 1) (pick (eqb op 1) (read_challenge q) (pick (eqb op 3) (read_success q) (pick (eqb op 4) (read_failure q) (refusal 15))))
    (pick (eqb code 2) (pick (eqb op 2) (read_response q) (pick (eqb op 3) (read_bare SuccessResponse 6 q) (pick (eqb op 4) (read_bare FailureResponse 6 q) (refusal 15))))
    (pick (eqb code 3) (read_bare EapSuccess 4 q) (read_bare EapFailure 4 q)))

-- or "no OpCode"
unfoldable pub opened : List ℕ → Told Packet
opened q = pick (with_type (code_of q) && ltb (length q) 6) (refusal 15) (row_of (code_of q) (get_or q 5 0) q)

unfoldable pub read_cut : End → List ℕ → Told Packet
read_cut end q = typed refusal (code_for end) 26 opened q

-- ---- 10 to 12, of the octets lent
unfoldable pub read_packet : End → List ℕ → Told Packet
read_packet end p = framed refusal (read_cut end) p
