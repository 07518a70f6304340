-- Two packets that read alike, with the same octets at the reading's places, are the same octets up to L.
use Prim.Native.Nat.{ℕ, zero, suc, ◌+◌, ◌≤◌}
use mathlib.Core.Path.{◌≡◌, refl, sym, ap, subst, ◌∙◌}
use mathlib.Core.List.{List}
use native.Mathlib.Omega.{arith}
use lib.ListN.{length, get_or, take, drop, length-take, take-append-drop}
use lib.Dec.{eqb}
use lib.Seq.{take-length}
use Rattle.octets.specs.Lists.{part}
use Rattle.octets.specs.Octets.{AreOctets}
use Rattle.octets.specs.Choice.{pick}
use Rattle.octets.proofs.Parts.{length_part, part_pad}
use Rattle.octets.proofs.Decimals.{number_apart}
use Rattle.answer.specs.Outcome.{gives}
use Rattle.packet.specs.declared.End.{End}
use Rattle.packet.specs.declared.End.TheVariants.{Peer}
use Rattle.packet.specs.declared.Kind.{Kind}
use Rattle.packet.specs.declared.Kind.TheVariants.{Challenge, Response, SuccessRequest, FailureRequest, RetryRequest, SuccessResponse, FailureResponse, EapSuccess, EapFailure}
use Rattle.packet.specs.declared.Packet.{Packet}
use Rattle.packet.specs.declared.Place.{Place}
use Rattle.packet.specs.Forms.{challenge_name_at, response_name_at, success_tail_at, no_tail, with_text, success_message, failure_message, chap_packet, challenge_packet, response_packet, success_response, failure_response, eap_success, eap_failure}
use Rattle.packet.specs.Kinds.{kind_number}
use Rattle.packet.specs.Learned.{ReadAlike, tail_in, message_in, SuccessMessagesApart}
use Rattle.packet.specs.Reader.{at, failure_of, read_packet}
use Rattle.packet.proofs.Shapes.{ChallengeShape, ResponseShape, SuccessShape, FailureShape}
use Rattle.packet.proofs.Readings.{tells, Shape}
use Rattle.packet.proofs.Places.{reading_tells}
use Rattle.packet.proofs.Exact.{cut_octets}

-- the same octets at the places of a reading x
record SameAt (p p' : List ℕ) (x : Packet) : Type 0 where
  challenge : at p x.challenge ≡ at p' x.challenge
  response : at p x.response ≡ at p' x.response
  tail : at p x.tail ≡ at p' x.tail

-- ---- what two readings x of q and q' have in common
module _ (x y y' : Packet) (r : x ≡ y) (r' : x ≡ y') where
  alike : y ≡ y'
  alike = sym r ∙ r'

  same_id : y.id.0 ≡ y'.id.0
  same_id = ap (λ (z : Packet). z.id.0) alike

  same_chapid : y.chapid.0 ≡ y'.chapid.0
  same_chapid = ap (λ (z : Packet). z.chapid.0) alike

  same_at : (q q' : List ℕ) (place : Packet → Place) → at q (place x) ≡ at q' (place x) → at q (place y) ≡ at q' (place y')
  same_at q q' place e = ap (λ (z : Packet). at q (place z)) (sym r) ∙ e ∙ ap (λ (z : Packet). at q' (place z)) r'

-- R tells the two kinds apart
retry_number : (r : ℕ) → r ≤ 1 → kind_number (failure_of r) ≡ 3 + r
unfolding failure_of pick
retry_number zero h = refl
retry_number (suc zero) h = refl
retry_number (suc (suc r)) h = absurd (omega arith)

-- ---- Failure Requests
-- q with other digits at C
abbrev pub with_c : (q : List ℕ) (x : Packet) → FailureShape q x → List ℕ → List ℕ
with_c q x s c = chap_packet 1 4 (get_or q 1 0) (get_or q 6 0) (failure_message (part q 11 s.a) (48 + s.retry) c (part q (53 + s.a) s.b) (drop (56 + s.a + s.b) q))

-- where C and the text stand tells how many digits E and V have, so that their numbers tell the digits
pub failures_but : (q q' : List ℕ) (x : Packet) → AreOctets q → (s : FailureShape q x) (s' : FailureShape q' x) → at q x.tail ≡ at q' x.tail → q ≡ with_c q' x s' (part q (18 + s'.a) 32)
failures_but q q' x o s s' same =
    let y = alike x _ _ s.reads s'.reads in
    let i = same_id x _ _ s.reads s'.reads in
    let c = same_chapid x _ _ s.reads s'.reads in
    let k = ap (λ (z : Packet). z.kind) y in
    let n = ap (λ (z : Packet). z.error) y in
    let at_c : 18 + s.a ≡ 18 + s'.a = ap (λ (z : Packet). z.challenge.start) y in
    let at-t : 56 + s.a + s.b ≡ 56 + s'.a + s'.b = ap (λ (z : Packet). z.tail.start) y in
    let f = s.spelling in
    let f' = s'.spelling in
    let r : s.retry ≡ s'.retry = omega (arith, sym (retry_number s.retry f.bit) ∙ ap kind_number k ∙ retry_number s'.retry f'.bit) in
    let l = s.least in
    let l' = s'.least in
    let ea : length (part q 11 s.a) ≡ s.a = length_part q 11 s.a (omega arith) in
    let ea' : length (part q' 11 s'.a) ≡ s'.a = length_part q' 11 s'.a (omega arith) in
    let vb : length (part q (53 + s.a) s.b) ≡ s.b = length_part q (53 + s.a) s.b (omega arith) in
    let vb' : length (part q' (53 + s'.a) s'.b) ≡ s'.b = length_part q' (53 + s'.a) s'.b (omega arith) in
    let e = number_apart (part q 11 s.a) (part q' 11 s'.a) f.e_digits f'.e_digits (omega arith) f.e_few n in
    let v = number_apart (part q (53 + s.a) s.b) (part q' (53 + s'.a) s'.b) f.v_digits f'.v_digits (omega arith) f.v_few (f.v_three ∙ sym f'.v_three) in
    let t : drop (56 + s.a + s.b) q ≡ drop (56 + s'.a + s'.b) q' = sym (take-length (drop (56 + s.a + s.b) q)) ∙ same_at x _ _ s.reads s'.reads q q' (λ z. z.tail) same ∙ take-length (drop (56 + s'.a + s'.b) q') in
    s.is o ∙ (λ j. chap_packet 1 4 (i j) (c j) (failure_message (e j) (48 + r j) (part q (at_c j) 32) (v j) (t j)))

module _ (q q' : List ℕ) (x : Packet) (o : AreOctets q) (o' : AreOctets q') (same : SameAt q q' x) where
  challenges : ChallengeShape q x → ChallengeShape q' x → q ≡ q'
  challenges s s' =
      let i = same_id x _ _ s.reads s'.reads in
      let c = same_chapid x _ _ s.reads s'.reads in
      let a = same_at x _ _ s.reads s'.reads q q' (λ z. z.challenge) same.challenge in
      let t : drop challenge_name_at q ≡ drop challenge_name_at q' = sym (take-length (drop challenge_name_at q)) ∙ same_at x _ _ s.reads s'.reads q q' (λ z. z.tail) same.tail ∙ take-length (drop challenge_name_at q') in
      s.is o ∙ (λ j. challenge_packet (i j) (c j) (a j) (t j)) ∙ sym (s'.is o')

  responses : ResponseShape q x → ResponseShape q' x → q ≡ q'
  responses s s' =
      let i = same_id x _ _ s.reads s'.reads in
      let c = same_chapid x _ _ s.reads s'.reads in
      let a = same_at x _ _ s.reads s'.reads q q' (λ z. z.challenge) same.challenge in
      let b = same_at x _ _ s.reads s'.reads q q' (λ z. z.response) same.response in
      let t : drop response_name_at q ≡ drop response_name_at q' = sym (take-length (drop response_name_at q)) ∙ same_at x _ _ s.reads s'.reads q q' (λ z. z.tail) same.tail ∙ take-length (drop response_name_at q') in
      s.is o ∙ (λ j. response_packet (i j) (c j) (a j) (b j) (t j)) ∙ sym (s'.is o')

  tail_alike : tail_in x.tail q ≡ tail_in x.tail q'
  unfolding tail_in
  tail_alike = ap (λ (text : List ℕ). pick (eqb x.tail.start success_tail_at) no_tail (with_text text)) same.tail

  successes : SuccessShape q x → SuccessShape q' x → q ≡ q'
  successes s s' =
      let i = same_id x _ _ s.reads s'.reads in
      let c = same_chapid x _ _ s.reads s'.reads in
      let b = same_at x _ _ s.reads s'.reads q q' (λ z. z.response) same.response in
      s.is o ∙ (λ j. chap_packet 1 3 (i j) (c j) (success_message (b j) (tail_alike j))) ∙ sym (s'.is o')

  failures : FailureShape q x → FailureShape q' x → q ≡ q'
  failures s s' =
      let d : part q (18 + s'.a) 32 ≡ part q' (18 + s'.a) 32 = ap (λ (z : Packet). at q z.challenge) (sym s'.reads) ∙ same.challenge ∙ ap (λ (z : Packet). at q' z.challenge) s'.reads in
      failures_but q q' x o s s' same.tail ∙ ap (with_c q' x s') d ∙ sym (s'.is o')

  shapes : (k : Kind) → Shape k q x → Shape k q' x → q ≡ q'
  shapes Challenge s s' = challenges s s'
  shapes Response s s' = responses s s'
  shapes SuccessRequest s s' = successes s s'
  shapes FailureRequest s s' = failures s s'
  shapes RetryRequest s s' = failures s s'
  shapes SuccessResponse s s' = s.is ∙ ap success_response (same_id x _ _ s.reads s'.reads) ∙ sym s'.is
  shapes FailureResponse s s' = s.is ∙ ap failure_response (same_id x _ _ s.reads s'.reads) ∙ sym s'.is
  shapes EapSuccess s s' = s.is ∙ ap eap_success (same_id x _ _ s.reads s'.reads) ∙ sym s'.is
  shapes EapFailure s s' = s.is ∙ ap eap_failure (same_id x _ _ s.reads s'.reads) ∙ sym s'.is

-- ---- the octets lent
at_cut : (p : List ℕ) (n : ℕ) (a : Place) → n ≤ length p → a.start + a.len ≤ n → at (take n p) a ≡ at p a
at_cut p n a h k = sym (part_pad (take n p) (drop n p) a.start a.len (omega (arith, length-take n p))) ∙ ap (λ (l : List ℕ). at l a) (take-append-drop n p)

-- a reading's places, in the packet cut at L
pub record AtCut (p : List ℕ) (x : Packet) : Type 0 where
  pub challenge : at (take x.length p) x.challenge ≡ at p x.challenge
  pub response : at (take x.length p) x.response ≡ at p x.response
  pub tail : at (take x.length p) x.tail ≡ at p x.tail

pub places_cut : (end : End) (p : List ℕ) (x : Packet) → read_packet end p ≡ gives x → AtCut p x
places_cut end p x e =
    let t = reading_tells end p x e in
    let c = at_cut p x.length x.challenge t.inside t.places.challenge in
    let r = at_cut p x.length x.response t.inside t.places.response in
    let u = at_cut p x.length x.tail t.inside t.places.tail in
    record { challenge = c; response = r; tail = u }

pub read_alike : ReadAlike
read_alike end end' p p' l o o' s s' =
    let x = l.packet in
    let t = tells end p x s.reads in
    let t' = tells end' p' x s'.reads in
    let c = places_cut end p x s.reads in
    let c' = places_cut end' p' x s'.reads in
    let same : SameAt (take x.length p) (take x.length p') x = record {
      challenge = c.challenge ∙ s.challenge_is ∙ sym (c'.challenge ∙ s'.challenge_is);
      response = c.response ∙ s.response_is ∙ sym (c'.response ∙ s'.response_is);
      tail = c.tail ∙ s.tail_is ∙ sym (c'.tail ∙ s'.tail_is);
    } in
    ap (λ (n : ℕ). take n p) (sym t.size)
    ∙ shapes (take x.length p) (take x.length p') x (cut_octets p x.length o) (cut_octets p' x.length o') same x.kind t.shape t'.shape
    ∙ ap (λ (n : ℕ). take n p') t'.size

-- ---- a Success message, by what its reading tells
success_told : (p : List ℕ) (x : Packet) → read_packet Peer p ≡ gives x → x.kind ≡ SuccessRequest → message_in x p ≡ success_message (at p x.response) (tail_in x.tail p)
unfolding tail_in
success_told p x e k =
    let t = tells Peer p x e in
    let q = take x.length p in
    let c = places_cut Peer p x e in
    let s : SuccessShape q x = subst (λ (z : Kind). Shape z q x) k t.shape in
    let b : part q 11 40 ≡ at p x.response = ap (λ (z : Packet). at q z.response) (sym s.reads) ∙ c.response in
    s.message ∙ (λ j. success_message (b j) (pick (eqb x.tail.start success_tail_at) no_tail (with_text (c.tail j))))

pub success_messages_apart : SuccessMessagesApart
success_messages_apart p p' x x' e e' k k' b t = success_told p x e k ∙ (λ j. success_message (b j) (t j)) ∙ sym (success_told p' x' e' k')
