-- What the code's steps give, put together.
use Prim.Native.Nat.{ℕ, ◌+◌, ◌-◌, ◌≤◌}
use mathlib.Core.Path.{◌≡◌, refl, sym, ap, ◌∙◌}
use mathlib.Core.Bool.{Bool, true, false, not, ◌&&◌, ◌||◌}
use mathlib.Core.List.{List}
use native.Mathlib.Omega.{arith}
use lib.ListN.{length, get_or, take, drop}
use lib.Dec.{ltb, leb, eqb}
use borrow.Author.Rules.{rules}
use borrow.Author.Tests.{eq-eqb, ne_eqb, eqb-true, eqb-false, leb-true}
use Rattle.std.specs.Prelude.{Result, Ok, Err}
use Rattle.octets.specs.Lists.{part}
use Rattle.octets.specs.Octets.{octet_is, number_at, digits, number}
use Rattle.octets.specs.declared.Order.TheVariants.{Big}
use Rattle.octets.proofs.Exits.{pick_true, pick_false, both, exits}
use Rattle.answer.specs.declared.Refusal.{Refusal}
use Rattle.answer.specs.declared.Refusal.TheVariants.{BadType, BadMsLength, BadForm}
use Rattle.answer.specs.Answer.{refusal_of}
use Rattle.answer.specs.Outcome.{Told, gives, refuses}
use Rattle.packet.specs.declared.End.{End}
use Rattle.packet.specs.declared.End.TheVariants.{Peer, Server}
use Rattle.packet.specs.declared.Kind.{Kind}
use Rattle.packet.specs.declared.Kind.TheVariants.{FailureRequest, RetryRequest, EapSuccess, EapFailure}
use Rattle.packet.specs.declared.Packet.{Packet}
use Rattle.packet.specs.declared.Place.{Place}
use Rattle.packet.specs.Frame.{frame_of, told_frame}
use Rattle.packet.specs.Inner.{FailureFormed, FailureUnlike, request, reply, at_peer, at_server, at_end}
use Rattle.packet.specs.Reader.{place, nowhere, no_packet, refusal, reading, chap_row, failure_formed, failure_of, failure_row, read_failure, read_bare, read_cut, read_packet}
use Rattle.packet.proofs.Frames.{frame_refused, frame_of_lem}
use Rattle.packet.proofs.Ends.{at_end_lem}

-- ---- a Failure Request's R
pub retry_so : (q : List ℕ) (i : ℕ) → octet_is q i 49 ≡ true → RetryRequest ≡ failure_of (get_or q i 0 - 48)
unfolding failure_of octet_is
retry_so q i t = let e = eqb-true (get_or q i 0) 49 t in sym (pick_true _ _ _ (eq-eqb (get_or q i 0 - 48) 1 (omega arith)))

pub no_retry : (q : List ℕ) (i : ℕ) → octet_is q i 49 ≡ false → FailureRequest ≡ failure_of (get_or q i 0 - 48)
unfolding failure_of octet_is
no_retry q i t = sym (pick_false _ _ _ (ne_eqb (get_or q i 0 - 48) 1 (λ z. eqb-false (get_or q i 0) 49 t (omega arith))))

-- ---- a row: 16, 17, or what is read. f is what the call that tests the form gave
abbrev bad : List ℕ → Bool
bad q = ltb (length q) 9 || not (eqb (number_at Big q 7) (length q - 5))

module _ (kind : Kind) (q : List ℕ) (formed : Bool) (error : ℕ) (challenge response : Place) (tail : ℕ) where
  pub row_short : (w : Refusal) → bad q ≡ true → w ≡ BadMsLength → refuses (refusal_of w) no_packet ≡ chap_row kind q formed error challenge response tail
  unfolding chap_row
  row_short w b e = ap (λ (w : Refusal). refuses (refusal_of w) no_packet) e ∙ sym (pick_true _ _ _ b)

  pub row_unlike : (f : Bool) (w : Refusal) → bad q ≡ false → f ≡ formed → not f ≡ true → w ≡ BadForm → refuses (refusal_of w) no_packet ≡ chap_row kind q formed error challenge response tail
  unfolding chap_row
  row_unlike f w b g n e = ap (λ (w : Refusal). refuses (refusal_of w) no_packet) e ∙ sym (pick_false _ _ _ b ∙ pick_true _ _ _ (ap not (sym g) ∙ n))

  pub row_read : (f : Bool) (x : Packet) → bad q ≡ false → f ≡ formed → not f ≡ false → x ≡ reading kind (get_or q 1 0) (get_or q 6 0) (length q) error challenge response (place tail (length (drop tail q)))
      → gives x ≡ chap_row kind q formed error challenge response tail
  unfolding chap_row
  row_read f x b g n e = ap gives e ∙ sym (pick_false _ _ _ b ∙ pick_false _ _ _ (ap not (sym g) ∙ n))

pub failure_short : (q : List ℕ) (w : Refusal) → bad q ≡ true → w ≡ BadMsLength → refuses (refusal_of w) no_packet ≡ read_failure q
unfolding read_failure failure_row
failure_short q w b e = row_short _ q _ _ _ _ _ w b e

pub failure_unlike : (q : List ℕ) (w : Refusal) → bad q ≡ false → FailureUnlike q → w ≡ BadForm → refuses (refusal_of w) no_packet ≡ read_failure q
unfolding read_failure failure_row
failure_unlike q w b u e = row_unlike _ q _ _ _ _ _ false w b (sym u) refl e

-- with its kind, its number of E and its challenge in place of a packet's
abbrev renewed : Packet → ℕ → Place → Packet
renewed b n c = record { kind = b.kind; id = b.id; chapid = b.chapid; length = b.length; error = n; challenge = c; response = b.response; tail = b.tail }

pub failure_read : (q : List ℕ) (e v n : ℕ) (kind : Kind) (b : Packet) → bad q ≡ false → FailureFormed q e v
    → b ≡ reading kind (get_or q 1 0) (get_or q 6 0) (length q) 0 nowhere nowhere (place (56 + e + v) (length (drop (56 + e + v) q)))
    → kind ≡ failure_of (get_or q (14 + e) 0 - 48) → n ≡ number (part q 11 e) → gives (renewed b n (place (18 + e) 32)) ≡ read_failure q
unfolding read_failure failure_row
failure_read q e v n kind b t f i k d =
    row_read _ q _ _ _ _ _ true _ t (sym f.formed) refl
    ((λ j. renewed (i j) n (place (18 + e) 32)) ∙ (λ j. reading (k j) (get_or q 1 0) (get_or q 6 0) (length q) (d j) (place (18 + e) 32) nowhere (place (56 + e + v) (length (drop (56 + e + v) q)))))
    ∙ (λ j. failure_row q (f.e_is j) (f.v_is j))

pub no_form : (w : Refusal) → w ≡ BadForm → refuses (refusal_of w) no_packet ≡ refusal 17
no_form w e = ap (λ (w : Refusal). refuses (refusal_of w) no_packet) e

-- ---- a Failure Request's digits
pub unlike : (q : List ℕ) (e : ℕ) → e ≡ digits (drop 11 q) → failure_formed q e (digits (drop (53 + e) q)) ≡ false → FailureUnlike q
unlike q e h f = (λ j. failure_formed q (sym h j) (digits (drop (53 + sym h j) q))) ∙ f

pub unlike_with : (q : List ℕ) (e v : ℕ) → e ≡ digits (drop 11 q) → v ≡ digits (drop (53 + e) q) → failure_formed q e v ≡ false → FailureUnlike q
unlike_with q e v h k f = unlike q e h (ap (failure_formed q e) (sym k) ∙ f)

few : (n : ℕ) → (leb 1 n && leb n 10) ≡ true → n ≤ 10
few n t = leb-true _ _ (both _ _ t).1

pub like : (q : List ℕ) (e v : ℕ) → e ≡ digits (drop 11 q) → v ≡ digits (drop (53 + e) q) → (leb 1 e && leb e 10) ≡ true → ((leb 1 v && leb v 10) && eqb (number (part q (53 + e) v)) 3) ≡ true → failure_formed q e v ≡ true → FailureFormed q e v
like q e v h k a b f = record { e_is = h; v_is = k ∙ (λ j. digits (drop (53 + h j) q)); e_few = few e a; v_few = few v (both _ _ b).0; formed = f }

pub ruleset forms = (exits, unlike, unlike_with, like)

pub ruleset rows = (exits, row_short, row_unlike, row_read, failure_short, failure_unlike, failure_read, no_form)

-- ---- a packet, cut at L, and the octets lent
module _ (end : End) (q : List ℕ) (c : ℕ) where
  -- at this end, with this Code
  here : (e : End) (n : ℕ) → end ≡ e → c ≡ get_or q 0 0 → c ≡ n → at_end e n (get_or q 4 0) (get_or q 5 0) q ≡ read_cut end q
  here e n h i k = (λ j. at_end (sym h j) ((sym k ∙ i) j) (get_or q 4 0) (get_or q 5 0) q) ∙ sym (at_end_lem end q)

  pub request_untyped : (w : Refusal) → end ≡ Peer → c ≡ get_or q 0 0 → c ≡ 1 → octet_is q 4 26 ≡ false → w ≡ BadType → refuses (refusal_of w) no_packet ≡ read_cut end q
  unfolding at_end at_peer octet_is
  request_untyped w h i k t g = ap (λ (w : Refusal). refuses (refusal_of w) no_packet) g ∙ sym (pick_false _ _ _ refl ∙ pick_false _ _ _ refl ∙ pick_false _ _ _ refl ∙ pick_true _ _ _ (ap not t)) ∙ here Peer 1 h i k

  pub request_cut : (op : ℕ) (t : Told Packet) → end ≡ Peer → c ≡ get_or q 0 0 → c ≡ 1 → octet_is q 4 26 ≡ true → op ≡ get_or q 5 0 → t ≡ request op q → t ≡ read_cut end q
  unfolding at_end at_peer octet_is
  request_cut op t h i k u o r = r ∙ ap (λ (n : ℕ). request n q) o ∙ sym (pick_false _ _ _ refl ∙ pick_false _ _ _ refl ∙ pick_false _ _ _ refl ∙ pick_false _ _ _ (ap not u)) ∙ here Peer 1 h i k

  pub eap_success_cut : (t : Told Packet) → end ≡ Peer → c ≡ get_or q 0 0 → c ≡ 3 → t ≡ read_bare EapSuccess 4 q → t ≡ read_cut end q
  unfolding at_end at_peer
  eap_success_cut t h i k r = r ∙ sym (pick_true _ _ _ refl) ∙ here Peer 3 h i k

  pub eap_failure_cut : (t : Told Packet) → end ≡ Peer → c ≡ get_or q 0 0 → c ≡ 4 → t ≡ read_bare EapFailure 4 q → t ≡ read_cut end q
  unfolding at_end at_peer
  eap_failure_cut t h i k r = r ∙ sym (pick_false _ _ _ refl ∙ pick_true _ _ _ refl) ∙ here Peer 4 h i k

  pub reply_untyped : (w : Refusal) → end ≡ Server → c ≡ get_or q 0 0 → c ≡ 2 → octet_is q 4 26 ≡ false → w ≡ BadType → refuses (refusal_of w) no_packet ≡ read_cut end q
  unfolding at_end at_server octet_is
  reply_untyped w h i k t g = ap (λ (w : Refusal). refuses (refusal_of w) no_packet) g ∙ sym (pick_false _ _ _ refl ∙ pick_true _ _ _ (ap not t)) ∙ here Server 2 h i k

  pub reply_cut : (op : ℕ) (t : Told Packet) → end ≡ Server → c ≡ get_or q 0 0 → c ≡ 2 → octet_is q 4 26 ≡ true → op ≡ get_or q 5 0 → t ≡ reply op q → t ≡ read_cut end q
  unfolding at_end at_server octet_is
  reply_cut op t h i k u o r = r ∙ ap (λ (n : ℕ). reply n q) o ∙ sym (pick_false _ _ _ refl ∙ pick_false _ _ _ (ap not u)) ∙ here Server 2 h i k

  pub other_at_peer : end ≡ Peer → c ≡ get_or q 0 0 → (c ≡ 1 → ⊥) → (c ≡ 3 → ⊥) → (c ≡ 4 → ⊥) → refusal 13 ≡ read_cut end q
  unfolding at_end at_peer
  other_at_peer h i n1 n3 n4 = sym (pick_false _ _ _ (ne_eqb c 3 n3) ∙ pick_false _ _ _ (ne_eqb c 4 n4) ∙ pick_true _ _ _ (ap not (ne_eqb c 1 n1))) ∙ here Peer c h i refl

  pub other_at_server : end ≡ Server → c ≡ get_or q 0 0 → (c ≡ 2 → ⊥) → refusal 13 ≡ read_cut end q
  unfolding at_end at_server
  other_at_server h i n2 = sym (pick_true _ _ _ (ap not (ne_eqb c 2 n2))) ∙ here Server c h i refl

pub ruleset cuts = (rules, request_untyped, request_cut, eap_success_cut, eap_failure_cut, reply_untyped, reply_cut, other_at_peer, other_at_server)

pub read_refused : (end : End) (r : Result ℕ Refusal) (p : List ℕ) (w : Refusal) → told_frame r ≡ frame_of p → r ≡ Err w → refusal (refusal_of w) ≡ read_packet end p
unfolding read_packet
read_refused end r p w is e = sym (frame_refused refusal (read_cut end) r p w is e)

pub read_on : (end : End) (r : Result ℕ Refusal) (p q : List ℕ) (l : ℕ) (t : Told Packet) → told_frame r ≡ frame_of p → r ≡ Ok l → q ≡ take l (drop 0 p) → t ≡ read_cut end q → t ≡ read_packet end p
unfolding read_packet
read_on end r p q l t is e c h = h ∙ ap (read_cut end) c ∙ sym (frame_of_lem refusal (read_cut end) r p l is e)

pub ruleset reads = (rules, read_refused, read_on)
