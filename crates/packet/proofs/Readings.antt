-- What the reader gives: a number from 10 to 17, or a reading, and what that tells. Padding does not matter.
use Prim.Native.Nat.{ℕ, ◌≤◌}
use mathlib.Core.Path.{◌≡◌, refl, sym, ap, subst, ◌∙◌}
use mathlib.Core.List.{List, ◌++◌}
use mathlib.Core.Bool.{Bool, true, false, not}
use native.Mathlib.Omega.{arith}
use lib.ListN.{length, get_or, take, drop, take-append-drop}
use lib.Seq.{length-take-le, get_or-take}
use lib.Dec.{leb, eqb}
use borrow.Author.Tests.{leb-true, eqb-true, eq-eqb, not-false}
use Rattle.octets.specs.Choice.{pick}
use Rattle.octets.specs.Octets.{number_at}
use Rattle.octets.specs.declared.Order.TheVariants.{Big}
use Rattle.octets.proofs.Exits.{arms, picked, clash}
use Rattle.octets.proofs.Parts.{number_take, number_append}
use Rattle.answer.specs.Outcome.{Told, gives}
use Rattle.answer.specs.Sizes.{max_packet}
use Rattle.packet.specs.declared.End.{End}
use Rattle.packet.specs.declared.End.TheVariants.{Peer, Server}
use Rattle.packet.specs.declared.Kind.{Kind}
use Rattle.packet.specs.declared.Kind.TheVariants.{Challenge, Response, SuccessRequest, FailureRequest, RetryRequest, SuccessResponse, FailureResponse, EapSuccess, EapFailure}
use Rattle.packet.specs.declared.Packet.{Packet}
use Rattle.packet.specs.declared.Place.{Place}
use Rattle.packet.specs.Promises.{end_of, ReadOrRefused, refused_by, read_as, ReaderAnswers, PaddingIgnored}
use Rattle.packet.specs.Forms.{success_response, failure_response, eap_success, eap_failure}
use Rattle.packet.specs.Frame.{code_of, length_of, cut_of, typed}
use Rattle.packet.specs.Inner.{at_peer, at_server, at_end}
use Rattle.packet.specs.Reader.{refusal, chap_row, read_challenge, read_response, read_success, failure_of, failure_row, read_failure, read_bare, row_of, opened, read_cut, read_packet}
use Rattle.packet.proofs.Frames.{framed_so, framed_whole}
use Rattle.packet.proofs.Ends.{at_end_lem}
use Rattle.packet.proofs.Shapes.{passed_on, Head, ChallengeShape, challenge_shape, ResponseShape, response_shape, SuccessShape, success_shape, FailureShape, failure_shape, BareShape, bare_response_shape, bare_eap_shape}

-- what a reading of a kind tells of the packet q
abbrev pub Shape : Kind → List ℕ → Packet → Type 0
Shape Challenge q x = ChallengeShape q x
Shape Response q x = ResponseShape q x
Shape SuccessRequest q x = SuccessShape q x
Shape FailureRequest q x = FailureShape q x
Shape RetryRequest q x = FailureShape q x
Shape SuccessResponse q x = BareShape SuccessResponse q (success_response (get_or q 1 0)) x
Shape FailureResponse q x = BareShape FailureResponse q (failure_response (get_or q 1 0)) x
Shape EapSuccess q x = BareShape EapSuccess q (eap_success (get_or q 1 0)) x
Shape EapFailure q x = BareShape EapFailure q (eap_failure (get_or q 1 0)) x

-- p was read as x at an end, and has the form of x's kind
pub record Shaped (end : End) (p : List ℕ) (x : Packet) : Type 0 where
  pub size : x.length ≡ number_at Big p 2
  pub least : 4 ≤ x.length
  pub most : x.length ≤ max_packet
  pub inside : x.length ≤ length p
  pub here : end_of x.kind ≡ end
  pub id_is : x.id.0 ≡ get_or p 1 0
  pub shape : Shape x.kind (take x.length p) x

-- ---- the same of the packet, cut at L
record Leaf (end : End) (q : List ℕ) (x : Packet) : Type 0 where
  size : x.length ≡ length q
  here : end_of x.kind ≡ end
  id_is : x.id.0 ≡ get_or q 1 0
  shape : Shape x.kind q x

leaf : (end : End) (kind : Kind) (q : List ℕ) (x y : Packet) → x ≡ y → y.length ≡ length q → y.id.0 ≡ get_or q 1 0 → y.kind ≡ kind → end_of kind ≡ end → Shape kind q x → Leaf end q x
leaf end kind q x y r l i k e s =
    let k' : x.kind ≡ kind = ap (λ (z : Packet). z.kind) r ∙ k in
    record { size = ap (λ (z : Packet). z.length) r ∙ l; here = ap end_of k' ∙ e; id_is = ap (λ (z : Packet). z.id.0) r ∙ i; shape = subst (λ (z : Kind). Shape z q x) (sym k') s }

-- a Failure Request is of one of two kinds
failure_leaf : (q : List ℕ) (x : Packet) → FailureShape q x → Leaf Peer q x
unfolding failure_of
failure_leaf q x s =
    leaf Peer (failure_of s.retry) q x _ s.reads refl refl refl
    (arms (λ (k : Kind). end_of k ≡ Peer) (eqb s.retry 1) refl refl) (arms (λ (k : Kind). Shape k q x) (eqb s.retry 1) s s)

-- a refusal reads nothing
unread : {A : Type 0} (k : ℕ) (x : Packet) → eqb k 0 ≡ false → refusal k ≡ gives x → A
unread k x z e = clash z (eq-eqb k 0 (ap (λ (t : Told Packet). t.number) e))

module _ (q : List ℕ) (x : Packet) (size : number_at Big q 2 ≡ length q) where
  -- a way by a test, and a test that refuses
  way : {end : End} (b : Bool) {l r : Told Packet} → (b ≡ true → l ≡ gives x → Leaf end q x) → (b ≡ false → r ≡ gives x → Leaf end q x) → pick b l r ≡ gives x → Leaf end q x
  way {end} b = picked (λ (t : Told Packet). t ≡ gives x → Leaf end q x) b

  past : {end : End} (b : Bool) (k : ℕ) {t : Told Packet} → eqb k 0 ≡ false → (b ≡ false → t ≡ gives x → Leaf end q x) → pick b (refusal k) t ≡ gives x → Leaf end q x
  past b k z f e = let u = passed_on b k _ x z e in f u.0 u.1

  head : {c op : ℕ} → not (eqb (code_of q) c) ≡ false → not (eqb (get_or q 4 0) 26) ≡ false → eqb (get_or q 5 0) op ≡ true → Head q c op
  head code type op = record { code_is = eqb-true _ _ (not-false _ code); type_is = eqb-true _ _ (not-false _ type); op_is = eqb-true _ _ op; size_is = size }

  leaf_at : (end : End) → at_end end (code_of q) (get_or q 4 0) (get_or q 5 0) q ≡ gives x → Leaf end q x
  unfolding at_end at_peer at_server
  leaf_at Peer =
      way _ (λ code e. let s = bare_eap_shape EapSuccess 3 q x (eqb-true _ _ code) size e in leaf Peer EapSuccess q x _ s.reads refl refl refl refl s) (λ _.
      way _ (λ code e. let s = bare_eap_shape EapFailure 4 q x (eqb-true _ _ code) size e in leaf Peer EapFailure q x _ s.reads refl refl refl refl s) (λ _.
      past _ 13 refl (λ code.
      past _ 14 refl (λ type.
      way _ (λ op e. let s = challenge_shape q x (head code type op) e in leaf Peer Challenge q x _ s.reads refl refl refl refl s) (λ _.
      way _ (λ op e. let s = success_shape q x (head code type op) e in leaf Peer SuccessRequest q x _ s.reads refl refl refl refl s) (λ _.
      way _ (λ op e. failure_leaf q x (failure_shape q x (head code type op) e)) (λ _.
      unread 15 x refl)))))))
  leaf_at Server =
      past _ 13 refl (λ code.
      past _ 14 refl (λ type.
      way _ (λ op e. let s = response_shape q x (head code type op) e in leaf Server Response q x _ s.reads refl refl refl refl s) (λ _.
      way _ (λ op e. let s = bare_response_shape SuccessResponse 3 q x (head code type op) e in leaf Server SuccessResponse q x _ s.reads refl refl refl refl s) (λ _.
      way _ (λ op e. let s = bare_response_shape FailureResponse 4 q x (head code type op) e in leaf Server FailureResponse q x _ s.reads refl refl refl refl s) (λ _.
      unread 15 x refl)))))

-- ---- what is read
pub tells : (end : End) (p : List ℕ) (x : Packet) → read_packet end p ≡ gives x → Shaped end p x
unfolding read_packet
tells end p x =
    framed_so refusal (read_cut end) (λ (t : Told Packet). t ≡ gives x → Shaped end p x) p (unread 10 x refl) (unread 11 x refl) (unread 12 x refl) (λ f e.
    let l = length_of p in
    let n : length (cut_of p) ≡ l = length-take-le l p f.inside in
    let s = leaf_at (cut_of p) x (number_take Big l p 2 (omega (arith, f.least)) ∙ sym n) end (sym (at_end_lem end (cut_of p)) ∙ e) in
    let z : x.length ≡ l = s.size ∙ n in
    record {
      size = z;
      least = rw z f.least;
      most = rw z f.most;
      inside = rw z f.inside;
      here = s.here;
      id_is = s.id_is ∙ get_or-take l p 1 0 (omega (arith, f.least));
      shape = subst (λ (k : ℕ). Shape x.kind (take k p) x) (sym z) s.shape;
    })

pub read_id : (end : End) (p : List ℕ) (x : Packet) → read_packet end p ≡ gives x → x.id.0 ≡ get_or p 1 0
read_id end p x e = (tells end p x e).id_is

-- ---- a number from 10 to 17, or a packet with the Identifier at 1
module _ (end : End) (p : List ℕ) where
  abbrev Case : Told Packet → Type 0
  Case t = read_packet end p ≡ t → ReadOrRefused p t

  no : (n : ℕ) → leb 10 n ≡ true → leb n 17 ≡ true → Case (refusal n)
  no n h l e = refused_by n (leb-true 10 n h) (leb-true n 17 l)

  chap_case : (kind : Kind) (q : List ℕ) (formed : Bool) (error : ℕ) (challenge response : Place) (tail : ℕ) → Case (chap_row kind q formed error challenge response tail)
  unfolding chap_row
  chap_case kind q formed error challenge response tail = arms Case _ (no 16 refl refl) (arms Case _ (no 17 refl refl) (λ e. read_as _ (read_id end p _ e)))

  bare_case : (kind : Kind) (l : ℕ) (q : List ℕ) → Case (read_bare kind l q)
  unfolding read_bare
  bare_case kind l q = arms Case _ (no 17 refl refl) (λ e. read_as _ (read_id end p _ e))

  row_case : (code op : ℕ) (q : List ℕ) → Case (row_of code op q)
  unfolding row_of read_challenge read_success read_failure read_response failure_row
  row_case code op q =
      arms Case _ (arms Case _ (chap_case _ q _ _ _ _ _) (arms Case _ (chap_case _ q _ _ _ _ _) (arms Case _ (chap_case _ q _ _ _ _ _) (no 15 refl refl))))
      (arms Case _ (arms Case _ (chap_case _ q _ _ _ _ _) (arms Case _ (bare_case _ 6 q) (arms Case _ (bare_case _ 6 q) (no 15 refl refl))))
      (arms Case _ (bare_case _ 4 q) (bare_case _ 4 q)))

  answer_case : ReadOrRefused p (read_packet end p)
  unfolding read_packet read_cut typed opened
  answer_case =
      framed_so refusal (read_cut end) Case p (no 10 refl refl) (no 11 refl refl) (no 12 refl refl)
      (λ _. arms Case _ (no 13 refl refl) (arms Case _ (no 14 refl refl) (arms Case _ (no 15 refl refl) (row_case _ _ (cut_of p))))) refl

pub read_or_refused : ReaderAnswers
read_or_refused end p = answer_case end p

-- L is within 1,020, whatever the answer
pub read_within : (end : End) (p : List ℕ) → (read_packet end p).value.length ≤ max_packet
read_within end p = go (read_or_refused end p) refl
  where
    go : {t : Told Packet} → ReadOrRefused p t → read_packet end p ≡ t → t.value.length ≤ max_packet
    go (refused_by n h l) e = omega arith
    go (read_as x i) e = (tells end p x e).most

-- ---- octets after L are padding
pub padding_ignored : PaddingIgnored
unfolding read_packet
padding_ignored end p pad h k =
    let l = number_at Big p 2 in
    let q = take l p in
    let n : length q ≡ l = length-take-le l p k in
    let s : length_of (q ++ pad) ≡ l = number_append Big q pad 2 (omega arith) ∙ number_take Big l p 2 (omega arith) in
    let t : q ++ drop l p ≡ p = take-append-drop l p in
    framed_whole refusal (read_cut end) q pad l n h s ∙ sym (framed_whole refusal (read_cut end) q (drop l p) l n h (ap length_of t)) ∙ ap (read_packet end) t

pub read_padded : (end : End) (p : List ℕ) (x : Packet) (pad : List ℕ) → read_packet end p ≡ gives x → read_packet end (take x.length p ++ pad) ≡ gives x
read_padded end p x pad e =
    let t = tells end p x e in
    ap (λ (n : ℕ). read_packet end (take n p ++ pad)) t.size ∙ padding_ignored end p pad (rw t.size at t.least) (rw t.size at t.inside) ∙ e
