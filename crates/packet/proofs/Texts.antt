-- The text after `M=`: where a reading tells it to be, and what stands there.
use Prim.Native.Nat.{ℕ, ◌+◌, ◌≤◌}
use mathlib.Core.Path.{◌≡◌, refl, sym, ap, ◌∙◌}
use mathlib.Core.Bool.{true, false}
use mathlib.Core.List.{List}
use native.Mathlib.Omega.{arith}
use lib.ListN.{length, take, drop}
use lib.Seq.{length-take-le, take-add, drop_at}
use lib.Dec.{eqb}
use borrow.Author.Tests.{ne_eqb}
use Rattle.std.specs.Prelude.{Result, Ok, Err}
use Rattle.octets.specs.Lists.{part}
use Rattle.octets.proofs.Exits.{pick_true, pick_false, arms, clash, tested}
use Rattle.answer.specs.declared.Refusal.{Refusal}
use Rattle.answer.specs.Outcome.{Told, gives}
use Rattle.answer.specs.Sizes.{max_packet}
use Rattle.answer.proofs.Told.{refusal_some}
use Rattle.packet.specs.declared.End.{End}
use Rattle.packet.specs.declared.End.TheVariants.{Peer}
use Rattle.packet.specs.declared.Kind.{Kind}
use Rattle.packet.specs.declared.Kind.TheVariants.{Challenge, Response, SuccessRequest, FailureRequest, RetryRequest, SuccessResponse, FailureResponse, EapSuccess, EapFailure}
use Rattle.packet.specs.declared.Packet.{Packet}
use Rattle.packet.specs.declared.Place.{Place}
use Rattle.packet.specs.Frame.{length_of}
use Rattle.packet.specs.Kinds.{has_text}
use Rattle.packet.specs.Learned.{Learned, Learns}
use Rattle.packet.specs.Promises.{ToEnd, Long, ReadOrRefused, refused_by, read_as}
use Rattle.packet.specs.Reader.{nowhere, at, failure_of, told_reading, read_packet}
use Rattle.packet.specs.Texts.{text_in, text_told, text_place, text_part, IsRest, HandsBack, TextTold}
use Rattle.packet.proofs.Back.{written_reads_back}
use Rattle.packet.proofs.Places.{reading_tells}
use Rattle.packet.proofs.Readings.{read_or_refused}

-- ---- of a reading
pub text_refused : (x : Result Packet Refusal) (why : Refusal) → x ≡ Err why → nowhere ≡ text_told (told_reading x)
unfolding text_told
text_refused x why e = rw e (sym (pick_false _ _ _ (refusal_some why)))

pub text_read : (x : Result Packet Refusal) (k : Packet) (a : Place) → x ≡ Ok k → a ≡ text_in k → a ≡ text_told (told_reading x)
unfolding text_told
text_read x k a e h = rw e (h ∙ sym (pick_true _ _ _ refl))

-- ---- of octets
pub text_told_lem : (end : End) (p : List ℕ) (x : Packet) → read_packet end p ≡ gives x → text_place end p ≡ text_in x
unfolding text_place text_told
text_told_lem end p x e = ap text_told e ∙ pick_true _ _ _ refl

pub text_tail : (end : End) (p : List ℕ) (x : Packet) → read_packet end p ≡ gives x → has_text x.kind ≡ true → text_place end p ≡ x.tail
unfolding text_in
text_tail end p x e h = text_told_lem end p x e ∙ pick_true _ _ _ h

pub text_none : (end : End) (p : List ℕ) (x : Packet) → read_packet end p ≡ gives x → has_text x.kind ≡ false → text_place end p ≡ nowhere
unfolding text_in
text_none end p x e h = text_told_lem end p x e ∙ pick_false _ _ _ h

pub text_unread : (end : End) (p : List ℕ) → ((read_packet end p).number ≡ 0 → ⊥) → text_place end p ≡ nowhere
unfolding text_place text_told
text_unread end p h = pick_false _ _ _ (ne_eqb _ _ h)

-- a text goes on to L
to_end : (kind : Kind) (x : Packet) → has_text kind ≡ true → Long kind x → ToEnd x
to_end Challenge x h l = clash refl h
to_end Response x h l = clash refl h
to_end SuccessRequest x h l = l.1
to_end FailureRequest x h l = l.1
to_end RetryRequest x h l = l.1
to_end SuccessResponse x h l = clash refl h
to_end FailureResponse x h l = clash refl h
to_end EapSuccess x h l = clash refl h
to_end EapFailure x h l = clash refl h

-- from i to l
part_to_end : (p : List ℕ) (i n l : ℕ) → i + n ≡ l → l ≤ length p → part p i n ≡ drop i (take l p)
part_to_end p i n l e h =
    let f : length (take i p) ≡ i = length-take-le i p (omega arith) in
    sym (drop_at (take i p) (part p i n) i f) ∙ sym (ap (drop i) (take-add i n p)) ∙ ap (λ (m : ℕ). drop i (take m p)) e

is_rest : (end : End) (p : List ℕ) (x : Packet) → read_packet end p ≡ gives x → has_text x.kind ≡ true → IsRest end p
unfolding text_part
is_rest end p x e h =
    let t = reading_tells end p x e in
    let a = text_tail end p x e h in
    let z : (text_place end p).start + (text_place end p).len ≡ length_of p = (λ j. (a j).start + (a j).len) ∙ to_end x.kind x h t.long ∙ t.size in
    record { to_end = z; rest = part_to_end p _ _ (length_of p) z (rw t.size at t.inside) }

within : (end : End) (p : List ℕ) → (text_place end p).start + (text_place end p).len ≤ max_packet
within end p = go (read_or_refused end p) refl
  where
    go : {t : Told Packet} → ReadOrRefused p t → read_packet end p ≡ t → (text_place end p).start + (text_place end p).len ≤ max_packet
    go (refused_by n h l) f =
        let e : (read_packet end p).number ≡ n = ap (λ (t : Told Packet). t.number) f in
        rw (text_unread end p (λ z. omega arith)) (omega arith)
    go (read_as x i) f =
        tested (has_text x.kind)
        (λ t.
        let r = (is_rest end p x f t).to_end in
        let s = reading_tells end p x f in
        let z = s.size in
        let m = s.most in
        omega arith)
        (λ t. rw (text_none end p x f t) (omega arith))

-- ---- of the two messages
learned_text : (p : List ℕ) (l : Learned) → has_text l.packet.kind ≡ true → Learns Peer p l → HandsBack p l.packet.tail l.tail
unfolding text_part
learned_text p l h r =
    let a = text_tail Peer p l.packet r.reads h in
    record { lies = a; is = ap (at p) a ∙ r.tail_is }

failure_text : (retry : ℕ) → has_text (failure_of retry) ≡ true
unfolding failure_of
failure_text retry = arms (λ (k : Kind). has_text k ≡ true) (eqb retry 1) refl refl

pub text_is_told : TextTold
text_is_told = record {
  rest = is_rest;
  success = λ id chapid s tail pad e h k. learned_text _ _ refl (written_reads_back.success_request id chapid s tail pad e h k);
  failure = λ id chapid e retry c v text pad f h. learned_text _ _ (failure_text retry) (written_reads_back.failure_request id chapid e retry c v text pad f h);
  other = text_none;
  unread = text_unread;
  within = within;
}
