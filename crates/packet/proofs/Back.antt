-- What is written reads back, at the right end, whatever padding follows.
use Prim.Native.Nat.{ℕ, ◌+◌, ◌-◌, ◌≤◌, ◌<◌}
use mathlib.Core.Path.{◌≡◌, refl, sym, ap, ◌∙◌}
use mathlib.Core.List.{List, [], ◌∷◌, ◌++◌}
use mathlib.Core.Bool.{Bool, true, false, not, ◌||◌}
use native.Mathlib.Omega.{arith}
use lib.ListN.{length, get_or, take, drop, length-append}
use lib.Seq.{take-length}
use lib.Dec.{eqb}
use borrow.Author.Tests.{le-ltb, le-leb, lt-leb, eq-eqb, ne_eqb}
use Rattle.octets.specs.Choice.{pick}
use Rattle.octets.specs.Lists.{part, cells}
use Rattle.octets.specs.Octets.{number_at, octet_is, stands_at, AreOctets, all_hex, hex_at, unhex_at, digits, is_digit, number, number_from, decimal}
use Rattle.octets.specs.declared.Order.TheVariants.{Big}
use Rattle.octets.proofs.Exits.{pick_true, pick_false, below, or_first, or_second, or_none, and_both}
use Rattle.octets.proofs.Lists.{length_cells}
use Rattle.octets.proofs.Decimals.{digits_append, digits_decimal, some_decimal, few_decimal, number_decimal}
use Rattle.octets.proofs.Hex.{all_hex_of, unhex_hex}
use Rattle.octets.proofs.Parts.{part_pad, part_from, drop_next, get_or_from, octet_from, stands_from, hex_from}
use Rattle.answer.specs.Outcome.{gives}
use Rattle.answer.specs.Sizes.{max_packet, max_name}
use Rattle.packet.specs.declared.End.{End}
use Rattle.packet.specs.declared.End.TheVariants.{Peer, Server}
use Rattle.packet.specs.declared.Kind.{Kind}
use Rattle.packet.specs.declared.Kind.TheVariants.{Challenge, Response, SuccessRequest, SuccessResponse, FailureResponse, EapSuccess, EapFailure}
use Rattle.packet.specs.declared.Packet.{Packet}
use Rattle.packet.specs.declared.Place.{Place}
use Rattle.packet.specs.Frame.{code_of}
use Rattle.packet.specs.Forms.{challenge_name_at, max_challenge_name, response_name_at, success_tail_at, success_text_at, word_s, word_e, word_r, word_c, word_v, word_m, eight_zeros, Tail, no_tail, with_text, tail_octets, success_message, FailureSpelling, failure_message, header, chap_packet, challenge_packet, response_packet, success_request, failure_request, success_response, failure_response, eap_success, eap_failure}
use Rattle.packet.specs.Learned.{Learns, learned, text_start, text_of, success_reading, failure_reading, SuccessReads, WrittenReadsBack}
use Rattle.packet.specs.Inner.{at_peer, at_server, at_end}
use Rattle.packet.specs.Reader.{challenge_place, nt_response_place, string_place, refusal, chap_row, challenge_formed, read_challenge, response_formed, read_response, success_formed, text_at, read_success, failure_formed, failure_of, failure_row, error_digits, read_failure, read_bare, read_cut, read_packet, reading, place, nowhere, at}
use Rattle.packet.proofs.Frames.{framed_whole}
use Rattle.packet.proofs.Ends.{at_end_lem}
use Rattle.packet.proofs.Sizes.{length_chap_packet, length_challenge_packet, length_response_packet, length_success, length_failure}

-- q reads as x, with these octets at x's places, whatever follows q: for callers
pub record Back (end : End) (q : List ℕ) (x : Packet) (challenge response tail : List ℕ) : Type 0 where
  pub reads : (pad : List ℕ) → read_packet end (q ++ pad) ≡ gives x
  pub challenge_is : (pad : List ℕ) → at (q ++ pad) x.challenge ≡ challenge
  pub response_is : (pad : List ℕ) → at (q ++ pad) x.response ≡ response
  pub tail_is : (pad : List ℕ) → at (q ++ pad) x.tail ≡ tail

pub learns : {end : End} {q : List ℕ} {x : Packet} {challenge response tail : List ℕ} → Back end q x challenge response tail → (pad : List ℕ) → Learns end (q ++ pad) (learned x challenge response tail)
learns b pad = record { reads = b.reads pad; challenge_is = b.challenge_is pad; response_is = b.response_is pad; tail_is = b.tail_is pad }

-- ---- a packet q of l octets, whose Length field says so
whole : (end : End) (q pad : List ℕ) (l : ℕ) → length q ≡ l → 4 ≤ l → l ≤ max_packet → number_at Big (q ++ pad) 2 ≡ l → read_packet end (q ++ pad) ≡ read_cut end q
unfolding read_packet
whole end q pad l e h k n = framed_whole refusal (read_cut end) q pad l e h n ∙ pick_false _ _ _ (le-ltb _ _ k)

bare_whole : (end : End) (q pad : List ℕ) (l : ℕ) → length q ≡ l → 4 ≤ l → l ≤ max_packet → number_at Big (q ++ pad) 2 ≡ l → read_packet end (q ++ pad) ≡ at_end end (code_of q) (get_or q 4 0) (get_or q 5 0) q
bare_whole end q pad l e h k n = whole end q pad l e h k n ∙ at_end_lem end q

-- one of the first four
module _ (code op id chapid : ℕ) (body : List ℕ) (l : ℕ) (size : 9 + length body ≡ l) (most : l ≤ max_packet) where
  abbrev chap : List ℕ
  chap = chap_packet code op id chapid body

  chap_length : length chap ≡ l
  chap_length = length_chap_packet code op id chapid body ∙ size

  chap_whole : (end : End) (pad : List ℕ) → read_packet end (chap ++ pad) ≡ at_end end code 26 op chap
  unfolding chap_packet header number_at
  chap_whole end pad = whole end chap pad l chap_length (omega arith) most (omega arith) ∙ at_end_lem end chap

  chap_reads : (kind : Kind) (formed : Bool) (error : ℕ) (challenge response : Place) (at : ℕ) (tail : List ℕ) → formed ≡ true → drop at chap ≡ tail →
      chap_row kind chap formed error challenge response at ≡ gives (reading kind id chapid l error challenge response (place at (length tail)))
  unfolding chap_row chap_packet header number_at
  chap_reads kind formed error challenge response at tail form t =
      let n = chap_length in
      let a : 9 ≤ length chap = omega arith in
      let b : number_at Big chap 7 ≡ length chap - 5 = omega arith in
      pick_false _ _ _ (or_none _ _ (le-ltb _ _ a) (ap not (eq-eqb _ _ b))) ∙ pick_false _ _ _ (ap not form)
      ∙ (λ j. gives (reading kind id chapid (chap_length j) error challenge response (place at (length (t j)))))

-- ---- each packet
module _ (id chapid : ℕ) (challenge name : List ℕ) (sixteen : length challenge ≡ 16) (some : 1 ≤ length name) (few : length name ≤ max_challenge_name) where
  abbrev challenge_q : List ℕ
  challenge_q = challenge_packet id chapid challenge name

  from_10 : drop 10 challenge_q ≡ challenge ++ name
  unfolding challenge_packet chap_packet header
  from_10 = refl

  from_26 : drop challenge_name_at challenge_q ≡ name
  from_26 = drop_next challenge_q challenge name 10 16 challenge_name_at from_10 sixteen refl

  challenge_form : challenge_formed challenge_q ≡ true
  unfolding challenge_formed challenge_packet chap_packet header
  challenge_form =
      let l : challenge_name_at < length challenge_q = omega (arith, length_challenge_packet id chapid challenge name sixteen) in
      pick_false _ _ _ (lt-leb _ _ l) ∙ octet_from challenge_q 16 (challenge ++ name) 9 refl

  pub challenge_back : Back Peer challenge_q (reading Challenge id chapid (challenge_name_at + length name) 0 challenge_place nowhere (place challenge_name_at (length name))) challenge [] name
  unfolding challenge_packet at_end at_peer read_challenge pick
  challenge_back =
      let body : List ℕ = 16 ∷ (challenge ++ name) in
      let l = length_challenge_packet id chapid challenge name sixteen in
      let size : 9 + length body ≡ challenge_name_at + length name = omega (arith, length-append challenge name) in
      record {
        reads = λ pad. chap_whole 1 1 id chapid body _ size (omega arith) Peer pad ∙ chap_reads 1 1 id chapid body _ size (omega arith) Challenge _ 0 challenge_place nowhere challenge_name_at name challenge_form from_26;
        challenge_is = λ pad. part_pad challenge_q pad 10 16 (omega arith) ∙ part_from challenge_q challenge name 10 16 from_10 sixteen;
        response_is = λ pad. refl;
        tail_is = λ pad. part_pad challenge_q pad challenge_name_at (length name) (omega arith) ∙ ap (take (length name)) from_26 ∙ take-length name;
      }

module _ (id chapid : ℕ) (peer response name : List ℕ) (sixteen : length peer ≡ 16) (long : length response ≡ 24) (few : length name ≤ max_name) where
  abbrev response_body : List ℕ
  response_body = 49 ∷ (peer ++ (eight_zeros ++ (response ++ (0 ∷ name))))

  abbrev response_q : List ℕ
  response_q = response_packet id chapid peer response name

  peer_from : drop 10 response_q ≡ peer ++ (eight_zeros ++ (response ++ (0 ∷ name)))
  unfolding response_packet chap_packet header
  peer_from = refl

  zeros_from : drop 26 response_q ≡ eight_zeros ++ (response ++ (0 ∷ name))
  zeros_from = drop_next response_q peer _ 10 16 26 peer_from sixteen refl

  response_from : drop 34 response_q ≡ response ++ (0 ∷ name)
  response_from = drop_next response_q eight_zeros _ 26 8 34 zeros_from refl refl

  flags_from : drop 58 response_q ≡ 0 ∷ name
  flags_from = drop_next response_q response _ 34 24 58 response_from long refl

  name_from : drop response_name_at response_q ≡ name
  name_from = drop_next response_q (0 ∷ []) name 58 1 response_name_at flags_from refl refl

  response_form : response_formed response_q ≡ true
  unfolding response_formed response_packet chap_packet header
  response_form =
      let l = length_response_packet id chapid peer response name sixteen long in
      let a : response_name_at ≤ length response_q = omega arith in
      let b : length response_q ≤ response_name_at + max_name = omega arith in
      pick_false _ _ _ (le-ltb _ _ a)
      ∙ pick_false _ _ _ (le-ltb _ _ b)
      ∙ pick_false _ _ _ (ap not (octet_from response_q 49 _ 9 refl))
      ∙ pick_false _ _ _ (ap not (stands_from response_q eight_zeros _ 26 zeros_from))
      ∙ octet_from response_q 0 name 58 flags_from

  pub response_back : Back Server response_q (reading Response id chapid (response_name_at + length name) 0 challenge_place nt_response_place (place response_name_at (length name))) peer response name
  unfolding response_packet at_end at_server read_response pick
  response_back =
      let l = length_response_packet id chapid peer response name sixteen long in
      let size : 9 + length response_body ≡ response_name_at + length name = simp length-append (omega arith) in
      record {
        reads = λ pad. chap_whole 2 2 id chapid response_body _ size (omega arith) Server pad ∙ chap_reads 2 2 id chapid response_body _ size (omega arith) Response _ 0 challenge_place nt_response_place response_name_at name response_form name_from;
        challenge_is = λ pad. part_pad response_q pad 10 16 (omega arith) ∙ part_from response_q peer _ 10 16 peer_from sixteen;
        response_is = λ pad. part_pad response_q pad 34 24 (omega arith) ∙ part_from response_q response _ 34 24 response_from long;
        tail_is = λ pad. part_pad response_q pad response_name_at (length name) (omega arith) ∙ ap (take (length name)) name_from ∙ take-length name;
      }

-- ---- a Success Request, with or without a tail
pub tail_size : (tail : Tail) → success_tail_at + length (tail_octets tail) ≡ text_start tail + length (text_of tail)
tail_size no_tail = refl
tail_size (with_text text) = omega arith

-- what follows the digits is read as the tail
record TailBack (q : List ℕ) (tail : Tail) : Type 0 where
  form : (eqb (length q) success_tail_at || stands_at q success_tail_at word_m) ≡ true
  start : text_at q ≡ text_start tail
  text : drop (text_start tail) q ≡ text_of tail

tail_back : (q : List ℕ) (tail : Tail) → length q ≡ success_tail_at + length (tail_octets tail) → drop success_tail_at q ≡ tail_octets tail → TailBack q tail
unfolding text_at
tail_back q no_tail n e =
    let t : eqb (length q) success_tail_at ≡ true = eq-eqb _ _ n in
    record { form = or_first _ _ t; start = pick_true _ _ _ t; text = e }
tail_back q (with_text text) n e =
    let f : eqb (length q) success_tail_at ≡ false = ne_eqb _ _ (λ (z : length q ≡ success_tail_at). absurd (omega arith)) in
    record { form = or_second _ _ f (stands_from q word_m text success_tail_at e); start = pick_false _ _ _ f; text = drop_next q word_m text success_tail_at 3 success_text_at e refl refl }

module _ (id chapid : ℕ) (s : List ℕ) (tail : Tail) (forty : length s ≡ 40) (upper : all_hex false s ≡ true) (few : (success_reading id chapid tail).length ≤ max_packet) where
  abbrev success_q : List ℕ
  success_q = chap_packet 1 3 id chapid (success_message s tail)

  s_from : drop 11 success_q ≡ s ++ tail_octets tail
  unfolding success_message chap_packet header
  s_from = refl

  success_length : length success_q ≡ success_tail_at + length (tail_octets tail)
  success_length = length_success id chapid s tail forty

  after_s : TailBack success_q tail
  after_s = tail_back success_q tail success_length (drop_next success_q s (tail_octets tail) 11 40 success_tail_at s_from forty refl)

  success_form : success_formed success_q ≡ true
  unfolding success_formed success_message chap_packet header
  success_form =
      pick_false _ _ _ (ap not (stands_from success_q word_s (s ++ tail_octets tail) 9 refl))
      ∙ pick_false _ _ _ (ap not (hex_from false success_q s (tail_octets tail) 11 40 s_from forty upper))
      ∙ after_s.form

  pub success_back : Back Peer success_q (success_reading id chapid tail) [] s (text_of tail)
  unfolding at_end at_peer read_success pick
  success_back =
      let l : length success_q ≡ text_start tail + length (text_of tail) = success_length ∙ tail_size tail in
      let size : 9 + length (success_message s tail) ≡ text_start tail + length (text_of tail) = sym (length_chap_packet 1 3 id chapid (success_message s tail)) ∙ l in
      let text : drop (text_at success_q) success_q ≡ text_of tail = ap (λ (a : ℕ). drop a success_q) after_s.start ∙ after_s.text in
      record {
        reads = λ pad. chap_whole 1 3 id chapid (success_message s tail) _ size few Peer pad
            ∙ chap_reads 1 3 id chapid (success_message s tail) _ size few SuccessRequest _ 0 nowhere string_place (text_at success_q) (text_of tail) success_form text
            ∙ (λ j. gives (reading SuccessRequest id chapid (text_start tail + length (text_of tail)) 0 nowhere string_place (place (after_s.start j) (length (text_of tail)))));
        challenge_is = λ pad. refl;
        response_is = λ pad. part_pad success_q pad 11 40 (omega (arith, success_length)) ∙ part_from success_q s (tail_octets tail) 11 40 s_from forty;
        tail_is = λ pad. part_pad success_q pad (text_start tail) (length (text_of tail)) (omega arith) ∙ ap (take (length (text_of tail))) after_s.text ∙ take-length (text_of tail);
      }

pub success_reads : SuccessReads
success_reads id chapid s tail pad forty upper few = learns (success_back id chapid s tail forty upper few) pad

-- ---- a Failure Request, its digits spelled in any way that is a form
-- the digit of R
bit_there : (q y : List ℕ) (i retry : ℕ) → retry ≤ 1 → drop i q ≡ (48 + retry) ∷ y → (octet_is q i 48 || octet_is q i 49) ≡ true
unfolding octet_is
bit_there q y i retry h e =
    let g : get_or q i 0 ≡ 48 + retry = get_or_from q (48 + retry) y i e in
    below retry 1
    (λ l. or_first _ _ (eq-eqb (get_or q i 0) 48 (omega arith)))
    (λ m. or_second _ _ (ne_eqb (get_or q i 0) 48 (omega arith)) (eq-eqb (get_or q i 0) 49 (omega arith)))

-- no digit is a space
no_digit : (s : List ℕ) → digits (32 ∷ s) ≡ 0
unfolding digits is_digit pick
no_digit s = refl

module _ (id chapid : ℕ) (e : List ℕ) (retry : ℕ) (c v text : List ℕ) (f : FailureSpelling e retry c v) (few : 56 + length e + length v + length text ≤ max_packet) where
  abbrev message : List ℕ
  message = failure_message e (48 + retry) c v text

  abbrev q : List ℕ
  q = chap_packet 1 4 id chapid message

  e_from : drop 11 q ≡ e ++ (word_r ++ ((48 + retry) ∷ (word_c ++ (c ++ (word_v ++ (v ++ (word_m ++ text)))))))
  unfolding failure_message chap_packet header
  e_from = refl

  r_from : drop (11 + length e) q ≡ word_r ++ ((48 + retry) ∷ (word_c ++ (c ++ (word_v ++ (v ++ (word_m ++ text))))))
  r_from = drop_next q e _ 11 (length e) (11 + length e) e_from refl refl

  bit_from : drop (14 + length e) q ≡ (48 + retry) ∷ (word_c ++ (c ++ (word_v ++ (v ++ (word_m ++ text)))))
  bit_from = drop_next q word_r _ (11 + length e) 3 (14 + length e) r_from refl (omega arith)

  c_from : drop (15 + length e) q ≡ word_c ++ (c ++ (word_v ++ (v ++ (word_m ++ text))))
  c_from = drop_next q ((48 + retry) ∷ []) _ (14 + length e) 1 (15 + length e) bit_from refl (omega arith)

  digits_from : drop (18 + length e) q ≡ c ++ (word_v ++ (v ++ (word_m ++ text)))
  digits_from = drop_next q word_c _ (15 + length e) 3 (18 + length e) c_from refl (omega arith)

  v_from : drop (50 + length e) q ≡ word_v ++ (v ++ (word_m ++ text))
  v_from = drop_next q c _ (18 + length e) 32 (50 + length e) digits_from f.c_size (omega arith)

  version_from : drop (53 + length e) q ≡ v ++ (word_m ++ text)
  version_from = drop_next q word_v _ (50 + length e) 3 (53 + length e) v_from refl (omega arith)

  end_from : drop (53 + length e + length v) q ≡ word_m ++ text
  end_from = drop_next q v _ (53 + length e) (length v) (53 + length e + length v) version_from refl refl

  words_from : drop (56 + length e + length v) q ≡ text
  words_from = drop_next q word_m text (53 + length e + length v) 3 (56 + length e + length v) end_from refl (omega arith)

  failure_form : failure_formed q (length e) (length v) ≡ true
  unfolding failure_formed failure_message chap_packet header
  failure_form =
      let n : number (part q (53 + length e) (length v)) ≡ 3 = ap number (part_from q v _ (53 + length e) (length v) version_from refl) ∙ f.v_three in
      pick_false _ _ _ (ap not (stands_from q word_e _ 9 refl))
      ∙ pick_false _ _ _ (ap not (and_both _ _ (le-leb _ _ f.e_some) (le-leb _ _ f.e_few)))
      ∙ pick_false _ _ _ (ap not (stands_from q word_r _ (11 + length e) r_from))
      ∙ pick_false _ _ _ (ap not (bit_there q _ (14 + length e) retry f.bit bit_from))
      ∙ pick_false _ _ _ (ap not (stands_from q word_c _ (15 + length e) c_from))
      ∙ pick_false _ _ _ (ap not (hex_from true q c _ (18 + length e) 32 digits_from f.c_size f.c_hex))
      ∙ pick_false _ _ _ (ap not (stands_from q word_v _ (50 + length e) v_from))
      ∙ pick_false _ _ _ (ap not (and_both _ _ (and_both _ _ (le-leb _ _ f.v_some) (le-leb _ _ f.v_few)) (eq-eqb _ _ n)))
      ∙ stands_from q word_m text (53 + length e + length v) end_from

  abbrev failure_reading_lem : Packet
  failure_reading_lem = failure_reading id chapid (number e) retry (length e) (56 + length e + length v) text

  failure_reads : read_failure q ≡ gives failure_reading_lem
  unfolding read_failure failure_row
  failure_reads =
      let size : 9 + length message ≡ 56 + length e + length v + length text = sym (length_chap_packet 1 4 id chapid message) ∙ length_failure id chapid e (48 + retry) c v text f.c_size in
      let a : error_digits q ≡ length e = ap digits e_from ∙ digits_append e _ f.e_digits (no_digit _) in
      let b : digits (drop (53 + error_digits q) q) ≡ length v = ap (λ (n : ℕ). digits (drop (53 + n) q)) a ∙ ap digits version_from ∙ digits_append v _ f.v_digits (no_digit _) in
      let g : get_or q (14 + length e) 0 ≡ 48 + retry = get_or_from q (48 + retry) _ (14 + length e) bit_from in
      let r : get_or q (14 + length e) 0 - 48 ≡ retry = omega arith in
      let n : number (part q 11 (length e)) ≡ number e = ap number (part_from q e _ 11 (length e) e_from refl) in
      (λ j. failure_row q (a j) (b j))
      ∙ chap_reads 1 4 id chapid message _ size few _ _ _ (place (18 + length e) 32) nowhere (56 + length e + length v) text failure_form words_from
      ∙ (λ j. gives (reading (failure_of (r j)) id chapid (56 + length e + length v + length text) (n j) (place (18 + length e) 32) nowhere (place (56 + length e + length v) (length text))))

  pub failure_back : Back Peer q failure_reading_lem c [] text
  unfolding at_end at_peer pick
  failure_back =
      let l = length_failure id chapid e (48 + retry) c v text f.c_size in
      let size : 9 + length message ≡ 56 + length e + length v + length text = sym (length_chap_packet 1 4 id chapid message) ∙ l in
      record {
        reads = λ pad. chap_whole 1 4 id chapid message _ size few Peer pad ∙ failure_reads;
        challenge_is = λ pad. part_pad q pad (18 + length e) 32 (omega arith) ∙ part_from q c _ (18 + length e) 32 digits_from f.c_size;
        response_is = λ pad. refl;
        tail_is = λ pad. part_pad q pad (56 + length e + length v) (length text) (omega arith) ∙ ap (take (length text)) words_from ∙ take-length text;
      }

-- ---- what the writers write
pub success_request_back : (id chapid : ℕ) (string text : List ℕ) → AreOctets string → success_text_at + length text ≤ max_packet → Back Peer (success_request id chapid string text) (reading SuccessRequest id chapid (success_text_at + length text) 0 nowhere string_place (place success_text_at (length text))) [] (cells 40 (hex_at string)) text
unfolding success_request
success_request_back id chapid string text o few =
    success_back id chapid (cells 40 (hex_at string)) (with_text text) (length_cells 40 (hex_at string)) (all_hex_of false string 40 o) few

pub failure_request_back : (id chapid error retry : ℕ) (challenge text : List ℕ) → error ≤ 9999999999 → retry ≤ 1 → AreOctets challenge → 57 + length (decimal error) + length text ≤ max_packet → Back Peer (failure_request id chapid error retry challenge text) (failure_reading id chapid error retry (length (decimal error)) (57 + length (decimal error)) text) (cells 32 (hex_at challenge)) [] text
unfolding failure_request digits is_digit pick number number_from
failure_request_back id chapid error retry challenge text h r o few =
    let d = length (decimal error) in
    let f : FailureSpelling (decimal error) retry (cells 32 (hex_at challenge)) (51 ∷ []) = record {
      e_digits = digits_decimal error;
      e_some = some_decimal error;
      e_few = few_decimal error;
      bit = r;
      c_size = length_cells 32 (hex_at challenge);
      c_hex = all_hex_of true challenge 32 o;
      v_digits = refl;
      v_some = omega arith;
      v_few = omega arith;
      v_three = refl;
    } in
    let a : 56 + d + 1 + length text ≡ 57 + d + length text = omega arith in
    let b : 56 + d + 1 ≡ 57 + d = omega arith in
    rw (a, b, number_decimal error h) at (failure_back id chapid (decimal error) retry (cells 32 (hex_at challenge)) (51 ∷ []) text f (omega arith))

-- C reads back
pub challenge_again : (challenge : List ℕ) → length challenge ≡ 16 → AreOctets challenge → cells 16 (unhex_at (cells 32 (hex_at challenge))) ≡ challenge
challenge_again challenge e o = unhex_hex challenge 16 e o

module _ (id : ℕ) where
  pub success_response_back : Back Server (success_response id) (reading SuccessResponse id 0 6 0 nowhere nowhere nowhere) [] [] []
  unfolding at_end at_server read_bare number_at pick
  success_response_back =
      record { reads = λ pad. bare_whole Server (success_response id) pad 6 refl (omega arith) (omega arith) refl; challenge_is = λ pad. refl; response_is = λ pad. refl; tail_is = λ pad. refl }

  pub failure_response_back : Back Server (failure_response id) (reading FailureResponse id 0 6 0 nowhere nowhere nowhere) [] [] []
  unfolding at_end at_server read_bare number_at pick
  failure_response_back =
      record { reads = λ pad. bare_whole Server (failure_response id) pad 6 refl (omega arith) (omega arith) refl; challenge_is = λ pad. refl; response_is = λ pad. refl; tail_is = λ pad. refl }

  pub eap_success_back : Back Peer (eap_success id) (reading EapSuccess id 0 4 0 nowhere nowhere nowhere) [] [] []
  unfolding at_end at_peer read_bare number_at pick
  eap_success_back =
      record { reads = λ pad. bare_whole Peer (eap_success id) pad 4 refl (omega arith) (omega arith) refl; challenge_is = λ pad. refl; response_is = λ pad. refl; tail_is = λ pad. refl }

  pub eap_failure_back : Back Peer (eap_failure id) (reading EapFailure id 0 4 0 nowhere nowhere nowhere) [] [] []
  unfolding at_end at_peer read_bare number_at pick
  eap_failure_back =
      record { reads = λ pad. bare_whole Peer (eap_failure id) pad 4 refl (omega arith) (omega arith) refl; challenge_is = λ pad. refl; response_is = λ pad. refl; tail_is = λ pad. refl }

pub written_reads_back : WrittenReadsBack
written_reads_back = record {
  challenge = λ id chapid challenge name pad e h k. learns (challenge_back id chapid challenge name e h k) pad;
  response = λ id chapid peer response name pad e f h. learns (response_back id chapid peer response name e f h) pad;
  success_request = success_reads;
  failure_request = λ id chapid e retry c v text pad f h. learns (failure_back id chapid e retry c v text f h) pad;
  success_response = λ id pad. learns (success_response_back id) pad;
  failure_response = λ id pad. learns (failure_response_back id) pad;
  eap_success = λ id pad. learns (eap_success_back id) pad;
  eap_failure = λ id pad. learns (eap_failure_back id) pad;
}
