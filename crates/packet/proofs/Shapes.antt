-- What each packet's own form tells, where it is read: the places, their sizes, and all its octets. q is the packet, cut at L.
use Prim.Native.Nat.{ℕ, ◌+◌, ◌-◌, ◌/◌, ◌%◌, ◌≤◌, ◌<◌}
use mathlib.Core.Path.{◌≡◌, refl, sym, ap, ◌∙◌}
use mathlib.Core.List.{List, [], ◌∷◌, ◌++◌}
use mathlib.Core.Bool.{Bool, true, false, not, ◌&&◌, ◌||◌}
use native.Mathlib.Omega.{arith}
use lib.ListN.{length, get_or, drop, length-drop, take-append-drop}
use lib.Seq.{take-length}
use lib.Dec.{ltb, leb, eqb}
use borrow.Author.Tests.{ltb-false, leb-false, leb-true, eqb-true, eq-eqb, not-false}
use Rattle.octets.specs.Lists.{cells, sized, part}
use Rattle.octets.specs.Octets.{AreOctets, octet_is, stands_at, number_at, all_hex, digits, number}
use Rattle.octets.specs.declared.Order.TheVariants.{Big}
use Rattle.octets.specs.Choice.{pick}
use Rattle.octets.proofs.Exits.{both, passed, picked, tested, clash}
use Rattle.octets.proofs.Lists.{sized_own}
use Rattle.octets.proofs.Decimals.{digits_front}
use Rattle.octets.proofs.Parts.{octet_is_lem, cut, cut_one, sized_part, length_part, part_inside, rest_none, stands_is, hex_stands_long, hex_stands_hex}
use Rattle.packet.specs.declared.Kind.{Kind}
use Rattle.packet.specs.declared.Kind.TheVariants.{Challenge, Response, SuccessRequest}
use Rattle.packet.specs.declared.Packet.{Packet}
use Rattle.packet.specs.declared.Place.{Place}
use Rattle.answer.specs.Outcome.{Told, gives}
use Rattle.answer.specs.Sizes.{max_name}
use Rattle.packet.specs.Forms.{challenge_name_at, response_name_at, success_tail_at, success_text_at, word_s, word_e, word_r, word_c, word_v, word_m, eight_zeros, tail_octets, success_message, FailureSpelling, failure_message, header, chap_packet, challenge_packet, response_packet}
use Rattle.packet.specs.Learned.{tail_in}
use Rattle.packet.proofs.Frames.{neither}
use Rattle.packet.specs.Reader.{challenge_place, nt_response_place, string_place, refusal, reading, place, nowhere, chap_row, challenge_formed, read_challenge, response_formed, read_response, success_formed, text_at, read_success, failure_formed, failure_of, failure_row, read_failure, read_bare}

-- ---- what was not refused
pub passed_on : (b : Bool) (k : ℕ) (t : Told Packet) (x : Packet) → eqb k 0 ≡ false → pick b (refusal k) t ≡ gives x → (b ≡ false) × (t ≡ gives x)
unfolding pick
passed_on true k t x z e = clash z (eq-eqb k 0 (ap (λ (t : Told Packet). t.number) e))
passed_on false k t x z e = (refl, e)

given : {x y : Packet} → gives y ≡ gives x → x ≡ y
given e = sym (ap (λ (t : Told Packet). t.value) e)

-- from a to L
abbrev from : ℕ → List ℕ → Place
from a q = place a (length (drop a q))

record ChapShape (q : List ℕ) (formed : Bool) (x y : Packet) : Type 0 where
  long : 9 ≤ length q
  ms_length : number_at Big q 7 ≡ length q - 5
  form : formed ≡ true
  reads : x ≡ y

chap_shape : (kind : Kind) (q : List ℕ) (formed : Bool) (error : ℕ) (challenge response : Place) (tail : ℕ) (x : Packet) → chap_row kind q formed error challenge response tail ≡ gives x →
    ChapShape q formed x (reading kind (get_or q 1 0) (get_or q 6 0) (length q) error challenge response (from tail q))
unfolding chap_row
chap_shape kind q formed error challenge response tail x e =
    let a = passed_on (ltb (length q) 9 || not (eqb (number_at Big q 7) (length q - 5))) 16 _ x refl e in
    let l = neither _ _ a.0 in
    let b = passed_on (not formed) 17 _ x refl a.1 in
    record { long = ltb-false _ _ l.0; ms_length = eqb-true _ _ (not-false _ l.1); form = not-false _ b.0; reads = given b.1 }

-- ---- the first nine octets
-- Code, Type, OpCode and L
pub record Head (q : List ℕ) (code op : ℕ) : Type 0 where
  pub code_is : get_or q 0 0 ≡ code
  pub type_is : get_or q 4 0 ≡ 26
  pub op_is : get_or q 5 0 ≡ op
  pub size_is : number_at Big q 2 ≡ length q

front : (q : List ℕ) → 9 ≤ length q → q ≡ sized 9 q ++ drop 9 q
front q h = sym (take-append-drop 9 q) ∙ ap (λ (l : List ℕ). l ++ drop 9 q) (sym (sized_part q 0 9 (omega arith)))

chap_is : (q : List ℕ) (code op : ℕ) → Head q code op → 9 ≤ length q → number_at Big q 7 ≡ length q - 5 → AreOctets q → q ≡ chap_packet code op (get_or q 1 0) (get_or q 6 0) (drop 9 q)
unfolding chap_packet header number_at sized cells
chap_is q code op h k m o =
    let l : 9 + length (drop 9 q) ≡ length q = omega (arith, length-drop 9 q) in
    let b2 = o 2 in
    let b3 = o 3 in
    let b8 = o 8 in
    let s = h.size_is in
    let hi : get_or q 2 0 ≡ (9 + length (drop 9 q)) / 256 = omega arith in
    let lo : get_or q 3 0 ≡ (9 + length (drop 9 q)) % 256 = omega arith in
    let mhi : get_or q 7 0 ≡ (9 + length (drop 9 q) - 5) / 256 = omega arith in
    let mlo : get_or q 8 0 ≡ (9 + length (drop 9 q) - 5) % 256 = omega arith in
    front q k ∙ (λ j. (h.code_is j ∷ get_or q 1 0 ∷ hi j ∷ lo j ∷ h.type_is j ∷ h.op_is j ∷ get_or q 6 0 ∷ mhi j ∷ mlo j ∷ []) ++ drop 9 q)

-- ---- each packet
pub record ChallengeShape (q : List ℕ) (x : Packet) : Type 0 where
  pub least : challenge_name_at < length q
  pub reads : x ≡ reading Challenge (get_or q 1 0) (get_or q 6 0) (length q) 0 challenge_place nowhere (from challenge_name_at q)
  pub is : AreOctets q → q ≡ challenge_packet (get_or q 1 0) (get_or q 6 0) (part q 10 16) (drop challenge_name_at q)

pub challenge_shape : (q : List ℕ) (x : Packet) → Head q 1 1 → read_challenge q ≡ gives x → ChallengeShape q x
unfolding read_challenge challenge_formed challenge_packet
challenge_shape q x h e =
    let c = chap_shape _ q _ _ _ _ _ x e in
    let u = passed _ _ c.form in
    let l : challenge_name_at < length q = leb-false _ _ u.0 in
    let body : drop 9 q ≡ 16 ∷ (part q 10 16 ++ drop challenge_name_at q) =
    cut_one q 9 10 16 _ refl (omega arith) (octet_is_lem q 9 16 u.1)
    (cut q 10 16 challenge_name_at _ _ refl refl refl) in
    record {
      least = l;
      reads = c.reads;
      is = λ o. chap_is q 1 1 h c.long c.ms_length o ∙ ap (chap_packet 1 1 (get_or q 1 0) (get_or q 6 0)) body;
    }

pub record ResponseShape (q : List ℕ) (x : Packet) : Type 0 where
  pub least : response_name_at ≤ length q
  pub most : length q ≤ response_name_at + max_name
  pub reads : x ≡ reading Response (get_or q 1 0) (get_or q 6 0) (length q) 0 challenge_place nt_response_place (from response_name_at q)
  pub is : AreOctets q → q ≡ response_packet (get_or q 1 0) (get_or q 6 0) (part q 10 16) (part q 34 24) (drop response_name_at q)

pub response_shape : (q : List ℕ) (x : Packet) → Head q 2 2 → read_response q ≡ gives x → ResponseShape q x
unfolding read_response response_formed response_packet
response_shape q x h e =
    let c = chap_shape _ q _ _ _ _ _ x e in
    let u1 = passed _ _ c.form in
    let u2 = passed _ _ u1.1 in
    let u3 = passed _ _ u2.1 in
    let u4 = passed _ _ u3.1 in
    let l : response_name_at ≤ length q = ltb-false _ _ u1.0 in
    let body : drop 9 q ≡ 49 ∷ (part q 10 16 ++ (eight_zeros ++ (part q 34 24 ++ (0 ∷ drop response_name_at q)))) =
    cut_one q 9 10 49 _ refl (omega arith) (octet_is_lem q 9 49 (not-false _ u3.0))
    (cut q 10 16 26 _ _ refl refl
    (cut q 26 8 34 _ _ refl (stands_is q 26 eight_zeros (not-false _ u4.0))
    (cut q 34 24 58 _ _ refl refl
    (cut_one q 58 response_name_at 0 _ refl (omega arith) (octet_is_lem q 58 0 u4.1) refl)))) in
    record {
      least = l;
      most = ltb-false _ _ u2.0;
      reads = c.reads;
      is = λ o. chap_is q 2 2 h c.long c.ms_length o ∙ ap (chap_packet 2 2 (get_or q 1 0) (get_or q 6 0)) body;
    }

-- what follows the digits is the tail that the place of the text tells of
after_digits : (q : List ℕ) → success_tail_at ≤ length q → (eqb (length q) success_tail_at || stands_at q success_tail_at word_m) ≡ true → (text_at q ≤ length q) × (drop success_tail_at q ≡ tail_octets (tail_in (from (text_at q) q) q))
unfolding text_at tail_in pick
after_digits q l e =
    let P : ℕ → Type 0 = λ (a : ℕ). (a ≤ length q) × (drop success_tail_at q ≡ tail_octets (tail_in (from a q) q)) in
    picked P (eqb (length q) success_tail_at)
    (λ t. let n : length q ≡ success_tail_at = eqb-true _ _ t in (l, sym (rest_none q success_tail_at (omega arith))))
    (λ f.
    let m : part q success_tail_at 3 ≡ word_m = stands_is q success_tail_at word_m (sym (ap (λ (b : Bool). b || stands_at q success_tail_at word_m) f) ∙ e) in
    (part_inside q success_tail_at 3 (ap length m) (omega arith), cut q success_tail_at 3 success_text_at _ _ refl m (sym (take-length (drop success_text_at q)))))

pub record SuccessShape (q : List ℕ) (x : Packet) : Type 0 where
  pub least : success_tail_at ≤ length q
  pub text : text_at q ≤ length q
  pub upper : all_hex false (part q 11 40) ≡ true
  pub reads : x ≡ reading SuccessRequest (get_or q 1 0) (get_or q 6 0) (length q) 0 nowhere string_place (from (text_at q) q)
  pub message : drop 9 q ≡ success_message (part q 11 40) (tail_in x.tail q)
  pub is : AreOctets q → q ≡ chap_packet 1 3 (get_or q 1 0) (get_or q 6 0) (success_message (part q 11 40) (tail_in x.tail q))

pub success_shape : (q : List ℕ) (x : Packet) → Head q 1 3 → read_success q ≡ gives x → SuccessShape q x
unfolding read_success success_formed success_message
success_shape q x h e =
    let c = chap_shape _ q _ _ _ _ _ x e in
    let u1 = passed _ _ c.form in
    let u2 = passed _ _ u1.1 in
    let n : length (part q 11 40) ≡ 40 = hex_stands_long false q 11 40 (not-false _ u2.0) in
    let l : success_tail_at ≤ length q = part_inside q 11 40 n (omega arith) in
    let t = after_digits q l u2.1 in
    let u : all_hex false (part q 11 40) ≡ true = hex_stands_hex false q 11 40 (not-false _ u2.0) in
    let body : drop 9 q ≡ success_message (part q 11 40) (tail_in x.tail q) =
    cut q 9 2 11 _ _ refl (stands_is q 9 word_s (not-false _ u1.0))
    (cut q 11 40 success_tail_at _ _ refl refl t.1)
    ∙ ap (λ (y : Packet). success_message (part q 11 40) (tail_in y.tail q)) (sym c.reads) in
    record {
      least = l;
      text = t.0;
      upper = u;
      reads = c.reads;
      message = body;
      is = λ o. chap_is q 1 3 h c.long c.ms_length o ∙ ap (chap_packet 1 3 (get_or q 1 0) (get_or q 6 0)) body;
    }

-- ---- a Failure Request has a digits of E and b of V
pub record FailureShape (q : List ℕ) (x : Packet) : Type 0 where
  pub a : ℕ
  pub b : ℕ
  pub retry : ℕ
  pub least : 56 + a + b ≤ length q
  pub spelling : FailureSpelling (part q 11 a) retry (part q (18 + a) 32) (part q (53 + a) b)
  pub reads : x ≡ reading (failure_of retry) (get_or q 1 0) (get_or q 6 0) (length q) (number (part q 11 a)) (place (18 + a) 32) nowhere (from (56 + a + b) q)
  pub is : AreOctets q → q ≡ chap_packet 1 4 (get_or q 1 0) (get_or q 6 0) (failure_message (part q 11 a) (48 + retry) (part q (18 + a) 32) (part q (53 + a) b) (drop (56 + a + b) q))

-- R's digit
bit_told : (q : List ℕ) (i : ℕ) → (octet_is q i 48 || octet_is q i 49) ≡ true → (get_or q i 0 - 48 ≤ 1) × (get_or q i 0 ≡ 48 + (get_or q i 0 - 48))
bit_told q i e =
    tested (octet_is q i 48)
    (λ t. let z = octet_is_lem q i 48 t in (omega arith, omega arith))
    (λ t. let z = octet_is_lem q i 49 (sym (ap (λ (b : Bool). b || octet_is q i 49) t) ∙ e) in (omega arith, omega arith))

-- 1 to 10 digits
few_told : (n : ℕ) → (leb 1 n && leb n 10) ≡ true → (1 ≤ n) × (n ≤ 10)
few_told n e = let u = both _ _ e in (leb-true _ _ u.0, leb-true _ _ u.1)

pub failure_shape : (q : List ℕ) (x : Packet) → Head q 1 4 → read_failure q ≡ gives x → FailureShape q x
unfolding read_failure failure_row failure_formed failure_message
failure_shape q x h e =
    let a = digits (drop 11 q) in
    let b = digits (drop (53 + a) q) in
    let retry = get_or q (14 + a) 0 - 48 in
    let c = chap_shape _ q _ _ _ _ _ x e in
    let u1 = passed _ _ c.form in
    let u2 = passed _ _ u1.1 in
    let u3 = passed _ _ u2.1 in
    let u4 = passed _ _ u3.1 in
    let u5 = passed _ _ u4.1 in
    let u6 = passed _ _ u5.1 in
    let u7 = passed _ _ u6.1 in
    let u8 = passed _ _ u7.1 in
    let v = both _ _ (not-false _ u8.0) in
    let m : part q (53 + a + b) 3 ≡ word_m = stands_is q (53 + a + b) word_m u8.1 in
    let l : 53 + a + b + 3 ≤ length q = part_inside q (53 + a + b) 3 (ap length m) (omega arith) in
    let r = bit_told q (14 + a) (not-false _ u4.0) in
    let ae = few_told a (not-false _ u2.0) in
    let be = few_told b v.0 in
    let da = digits_front (drop 11 q) in
    let db = digits_front (drop (53 + a) q) in
    let na : length (part q 11 a) ≡ a = length_part q 11 a (omega arith) in
    let nb : length (part q (53 + a) b) ≡ b = length_part q (53 + a) b (omega arith) in
    let body : drop 9 q ≡ failure_message (part q 11 a) (48 + retry) (part q (18 + a) 32) (part q (53 + a) b) (drop (56 + a + b) q) =
    cut q 9 2 11 _ _ refl (stands_is q 9 word_e (not-false _ u1.0))
    (cut q 11 a (11 + a) _ _ refl refl
    (cut q (11 + a) 3 (14 + a) _ _ (omega arith) (stands_is q (11 + a) word_r (not-false _ u3.0))
    (cut_one q (14 + a) (15 + a) (48 + retry) _ (omega arith) (omega arith) r.1
    (cut q (15 + a) 3 (18 + a) _ _ (omega arith) (stands_is q (15 + a) word_c (not-false _ u5.0))
    (cut q (18 + a) 32 (50 + a) _ _ (omega arith) refl
    (cut q (50 + a) 3 (53 + a) _ _ (omega arith) (stands_is q (50 + a) word_v (not-false _ u7.0))
    (cut q (53 + a) b (53 + a + b) _ _ refl refl
    (cut q (53 + a + b) 3 (56 + a + b) _ _ (omega arith) m refl)))))))) in
    record {
      a = a;
      b = b;
      retry = retry;
      least = omega arith;
      spelling = record {
        e_digits = da.1 ∙ sym na;
        e_some = rw na ae.0;
        e_few = rw na ae.1;
        bit = r.0;
        c_size = hex_stands_long true q (18 + a) 32 (not-false _ u6.0);
        c_hex = hex_stands_hex true q (18 + a) 32 (not-false _ u6.0);
        v_digits = db.1 ∙ sym nb;
        v_some = rw nb be.0;
        v_few = rw nb be.1;
        v_three = eqb-true _ _ v.1;
      };
      reads = c.reads;
      is = λ o. chap_is q 1 4 h c.long c.ms_length o ∙ ap (chap_packet 1 4 (get_or q 1 0) (get_or q 6 0)) body;
    }

-- ---- a packet with no MS-CHAPv2-ID
pub record BareShape (kind : Kind) (q packet : List ℕ) (x : Packet) : Type 0 where
  pub reads : x ≡ reading kind (get_or q 1 0) 0 (length q) 0 nowhere nowhere nowhere
  pub is : q ≡ packet

bare_so : (kind : Kind) (l : ℕ) (q : List ℕ) (x : Packet) → read_bare kind l q ≡ gives x → (length q ≡ l) × (x ≡ reading kind (get_or q 1 0) 0 (length q) 0 nowhere nowhere nowhere)
unfolding read_bare
bare_so kind l q x e = let a = passed_on (not (eqb (length q) l)) 17 _ x refl e in (eqb-true _ _ (not-false _ a.0), given a.1)

-- L = 6
pub bare_response_shape : (kind : Kind) (op : ℕ) (q : List ℕ) (x : Packet) → Head q 2 op → read_bare kind 6 q ≡ gives x → BareShape kind q (2 ∷ get_or q 1 0 ∷ 0 ∷ 6 ∷ 26 ∷ op ∷ []) x
unfolding number_at sized cells
bare_response_shape kind op q x h e =
    let b = bare_so kind 6 q x e in
    let l = b.0 in
    let n = h.size_is in
    let hi : get_or q 2 0 ≡ 0 = omega arith in
    let lo : get_or q 3 0 ≡ 6 = omega arith in
    record { reads = b.1; is = sym (sized_own 6 q l) ∙ (λ j. h.code_is j ∷ get_or q 1 0 ∷ hi j ∷ lo j ∷ h.type_is j ∷ h.op_is j ∷ []) }

-- L = 4, with Code alone
pub bare_eap_shape : (kind : Kind) (code : ℕ) (q : List ℕ) (x : Packet) → get_or q 0 0 ≡ code → number_at Big q 2 ≡ length q → read_bare kind 4 q ≡ gives x → BareShape kind q (code ∷ get_or q 1 0 ∷ 0 ∷ 4 ∷ []) x
unfolding number_at sized cells
bare_eap_shape kind code q x c n e =
    let b = bare_so kind 4 q x e in
    let l = b.0 in
    let hi : get_or q 2 0 ≡ 0 = omega arith in
    let lo : get_or q 3 0 ≡ 4 = omega arith in
    record { reads = b.1; is = sym (sized_own 4 q l) ∙ (λ j. c j ∷ get_or q 1 0 ∷ hi j ∷ lo j ∷ []) }
