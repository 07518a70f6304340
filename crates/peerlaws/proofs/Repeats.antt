-- What a call that answers a request leaves stored: the request, and the reply that went out.
use Prim.Native.Nat.{ℕ, ◌≤◌}
use mathlib.Core.Path.{◌≡◌, refl, sym, ap, ◌∙◌}
use mathlib.Core.List.{List, [], ◌∷◌, ◌++◌, append-nil}
use mathlib.Core.Bool.{true}
use mathlib.Core.Logic.{inl, inr}
use native.Mathlib.Omega.{arith}
use lib.ListN.{length, take, replicate, length-take, length-replicate}
use lib.Dec.{ltb}
use lib.Seq.{length-take-le, take_all, take_at}
use Rattle.octets.specs.Octets.{number_at}
use Rattle.octets.specs.declared.Order.TheVariants.{Big}
use Rattle.octets.proofs.Exits.{arms}
use Rattle.answer.specs.Outcome.{gives, Outcome, outcome, fitting}
use Rattle.answer.specs.Runs as runs
use Rattle.answer.specs.Sizes.{max_packet, max_name}
use Rattle.packet.specs.declared.End.TheVariants as end
use Rattle.packet.specs.declared.Packet.{Packet}
use Rattle.packet.specs.Kinds.{is_request}
use Rattle.packet.specs.Reader.{read_packet, challenge_in}
use Rattle.peer.specs.declared.Peer.{Peer}
use Rattle.peer.specs.State.{reply_room, own_name, last_request, last_reply, last_id, last_chap_id, answered, responded, supplied as supplied_state}
use Rattle.peer.specs.Moves.{sent, waiting}
use Rattle.peer.specs.Calls.{response_in, step_of, response_by}
use Rattle.peerlaws.specs.Exact.{Repeats}
use Rattle.peerlaws.specs.Runs.{Call, step, supply, give_up, call_of, room_of, after, IsPeer, IsCall}
use Rattle.peerlaws.specs.Promises.{Leaves, written, credentials, authenticated, ended, refusal, Request, Answers, NoNewAnswer, NoNewAnswers, RepeatRule}
use Rattle.packet.proofs.Readings.{tells, read_padded}
use Rattle.octets.proofs.Lists.{take_sized}
use Rattle.peer.proofs.Replies.{length_response_to}
use Rattle.peerlaws.proofs.Forward.{cut_most, repeated}
use Rattle.peerlaws.proofs.Promises.{answers_leave}
use Rattle.peerlaws.proofs.Views.{Moved, responds, accepts, fails, waits, succeeds, ends, Stepped, stepped, Supplied, supplied}
use Rattle.peerlaws.proofs.Views as view

-- a packet that was read, cut at L, reads as the same
pub whole_request : (s : List ℕ) (k : Packet) → read_packet end.Peer s ≡ gives k → is_request k.kind ≡ true → Request (take k.length s)
whole_request s k e f =
    record {
      packet = k;
      reads = ap (read_packet end.Peer) (sym (append-nil (take k.length s))) ∙ read_padded end.Peer s k [] e;
      whole = sym (length-take-le k.length s (tells end.Peer s k e).inside);
      request = f;
    }

pub record Answering (s : Peer) (q w : List ℕ) : Type 0 where
  pub stage : sent s.stage ≡ true
  pub request : last_request s ≡ q
  pub reply : last_reply s ≡ w
  pub is : Request q

pub few : (p : Peer) → IsPeer p → length (own_name p) ≤ max_name
unfolding own_name
few p i = omega (arith, length-take p.credentials.namelen p.credentials.name, i.credentials.name)

module _ (p : Peer) (s random : List ℕ) (room : ℕ) (i : IsPeer p) (r : length random ≡ 16) where
  pub moved_stores : {o : Outcome Peer} (k : Packet) → read_packet end.Peer s ≡ gives k → Moved p k (take k.length s) random room o → o.number ≡ 0 → Answering o.state (take k.length s) o.octets
  unfolding responded answered last_request last_reply
  moved_stores k e m z = go m z
    where
      q : List ℕ
      q = take k.length s

      most : length q ≤ max_packet
      most = cut_most s k e

      go : {o : Outcome Peer} → Moved p k q random room o → o.number ≡ 0 → Answering o.state q o.octets
      go (responds f g h) z =
          let b : length (response_in p k q random) ≤ reply_room = omega (arith, few p i, length_response_to k.id.0 k.chapid.0 (challenge_in k q) random (own_name p) p.credentials.hash r) in
          record { stage = refl; request = take_sized max_packet q most; reply = take_sized reply_room (response_in p k q random) b; is = whole_request s k e (ap is_request g) }
      go (accepts f g d h) z = record { stage = refl; request = take_sized max_packet q most; reply = take_sized reply_room _ (omega arith); is = whole_request s k e (ap is_request g) }
      go (fails f g h) z = record { stage = refl; request = take_sized max_packet q most; reply = take_sized reply_room _ (omega arith); is = whole_request s k e (ap is_request g) }
      go (waits f g) z = absurd (omega arith)
      go (succeeds f) z = absurd (omega arith)
      go ends z = absurd (omega arith)

  step_stores : {o : Outcome Peer} → Stepped p s random room o → o.number ≡ 0 → Answering o.state (take (number_at Big s 2) s) o.octets
  step_stores (view.refuses n h l) z = absurd (omega arith)
  step_stores (view.repeats_it t h) z =
      let q = ap (λ (n : ℕ). take n s) (tells end.Peer s t.packet t.reads).size in
      rw (← q) (record { stage = t.stage; request = sym t.same; reply = refl; is = whole_request s t.packet t.reads t.request })
  step_stores (view.moves k e m) z = rw (← ap (λ (n : ℕ). take n s) (tells end.Peer s k e).size) (moved_stores k e m z)

pub supply_stores : (p : Peer) (name hash random : List ℕ) (room : ℕ) → length random ≡ 16 → {o : Outcome Peer} → Supplied p name hash random room o → o.number ≡ 0 → Request (last_request p) → Answering o.state (last_request p) o.octets
unfolding supplied_state response_by last_request last_reply
supply_stores p name hash random room r (view.refuses n h l) z t = absurd (omega arith)
supply_stores p name hash random room r (view.supplies_it w f h) z t =
    let b : length (response_by p name hash random) ≤ reply_room = omega (arith, length_response_to (last_id p) (last_chap_id p) p.challenges.authenticator random name hash r) in
    record { stage = refl; request = refl; reply = take_sized reply_room (response_by p name hash random) b; is = t }

waited : {p : Peer} {name hash random : List ℕ} {room : ℕ} {o : Outcome Peer} → Supplied p name hash random room o → o.number ≡ 0 → waiting p.stage ≡ true
waited (view.refuses n h l) z = absurd (omega arith)
waited (view.supplies_it w f l) z = ap waiting w

pub answer_stores : (p : Peer) (c : Call) (q : List ℕ) → IsPeer p → (waiting p.stage ≡ true → Request (last_request p)) → IsCall c → Answers p c q → Answering (call_of p c).state q (call_of p c).octets
unfolding call_of
answer_stores p (step s random room) q i t r a = rw a.1 (step_stores p s random room i r (stepped p s random room) a.0)
answer_stores p (supply name hash random room) q i t r a =
    let v = supplied p name hash random room in
    rw a.1 (supply_stores p name hash random room r.1 v a.0 (t (waited v a.0)))
answer_stores p give_up q i t r a = absurd a

-- ---- 3. The repeat rule
pub repeat_again : (p : Peer) (s random : List ℕ) (room : ℕ) → Repeats p s → step_of p s random room ≡ fitting room p (outcome 0 (last_reply p) p)
repeat_again p s random room t = repeated p s random room t.packet t.reads t.stage t.request t.same

-- a call that brings no new answer leaves the state as it is
left_same : {p s : Peer} {c : Call} {b a : List ℕ} {k n : ℕ} → Leaves p c b k n s a → 10 ≤ k → s ≡ p
left_same (written q s h f) n = absurd (omega arith)
left_same (credentials s f) n = absurd (omega arith)
left_same (authenticated s f) n = absurd (omega arith)
left_same (ended s f) n = absurd (omega arith)
left_same (refusal k h) n = refl

pub refused_same : (p : Peer) (c : Call) → 10 ≤ (call_of p c).number → (call_of p c).state ≡ p
refused_same p c n =
    left_same (answers_leave p c _ _ _ (replicate (room_of c) 0) _ (length-replicate {A = ℕ} (room_of c) 0) (record { answered = refl; count = refl; left = refl; written = refl })) n

again_same : (p : Peer) (room : ℕ) → (fitting room p (outcome 0 (last_reply p) p)).state ≡ p
unfolding fitting
again_same p room = arms (λ (o : Outcome Peer). o.state ≡ p) (ltb room (length (last_reply p))) refl refl

none_same : (p : Peer) (c : Call) → NoNewAnswer p c → (call_of p c).state ≡ p
unfolding call_of
none_same p c (inl n) = refused_same p c n
none_same p (step s random room) (inr t) = ap (λ (o : Outcome Peer). o.state) (repeat_again p s random room t) ∙ again_same p room
none_same p (supply name hash random room) (inr t) = absurd t
none_same p give_up (inr t) = absurd t

pub all_same : (p : Peer) (cs : List Call) → NoNewAnswers p cs → after p cs ≡ p
unfolding runs.after
all_same p [] t = refl
all_same p (c ∷ cs) t = all_same (call_of p c).state cs t.1 ∙ none_same p c t.0

-- a stored request with any padding
padded_repeats : (p : Peer) (q w pad : List ℕ) → Answering p q w → Repeats p (q ++ pad)
padded_repeats p q w pad a =
    let k = a.is.packet in
    let all : take k.length q ≡ q = take_all k.length q (omega (arith, a.is.whole)) in
    record {
      stage = a.stage;
      packet = k;
      reads = ap (λ (l : List ℕ). read_packet end.Peer (l ++ pad)) (sym all) ∙ read_padded end.Peer q k pad a.is.reads;
      request = a.is.request;
      same = take_at q pad k.length (sym a.is.whole) ∙ sym a.request;
    }

pub repeat_rule : RepeatRule
repeat_rule p i w p' c cs q pad random room r a t e =
    let same : p' ≡ (call_of p c).state = e ∙ all_same (call_of p c).state cs t in
    let keeps : Answering p' q (call_of p c).octets = rw same (answer_stores p c q i w r a) in
    repeat_again p' (q ++ pad) random room (padded_repeats p' q (call_of p c).octets pad keeps)
    ∙ ap (λ (x : List ℕ). fitting room p' (outcome 0 x p')) keeps.reply
