-- The promises 1, 2 and 5 of specs/Promises, by the cases of a call.
use Prim.Native.Nat.{ℕ}
use mathlib.Core.Path.{◌≡◌, refl, sym, ap, ◌∙◌}
use mathlib.Core.List.{List, []}
use mathlib.Core.Logic.{◌⊎◌, inl, inr}
use mathlib.Core.Bool.{Bool, true, false, not}
use native.Mathlib.Omega.{arith}
use lib.ListN.{length, get_or, take}
use lib.Dec.{eqb}
use borrow.Author.Tests.{ne_eqb}
use Rattle.octets.specs.Choice.{pick}
use Rattle.octets.specs.Lists.{over}
use Rattle.octets.specs.Octets.{octet_is, same}
use Rattle.octets.proofs.Exits.{pick_true, pick_false}
use Rattle.answer.specs.Outcome.{Told, gives, Outcome, refused, Does}
use Rattle.answer.proofs.Outcomes.{fitting_so}
use Rattle.packet.specs.declared.End.TheVariants as end
use Rattle.packet.specs.declared.Kind.{Kind}
use Rattle.packet.specs.declared.Packet.{Packet}
use Rattle.packet.specs.Reader.{read_packet}
use Rattle.packet.specs.Forms.{header, chap_packet, response_packet, success_response, failure_response}
use Rattle.peer.specs.declared.Stage.{Stage}
use Rattle.peer.specs.declared.Stage.TheVariants.{Waiting, Success, Failed}
use Rattle.peer.specs.declared.Peer.{Peer}
use Rattle.peer.specs.State.{last_request, last_reply, response_to, right_digits, staged, answered, responded, awaiting, supplied as supplied_state}
use Rattle.peer.specs.Moves.{takes, sent, repeats, turn_of}
use Rattle.peer.specs.Calls.{answer_of, left_by, response_in, moved_by, turn_in, taken_by, read_by, step_by, moved_of, step_of, response_by}
use Rattle.packet.specs.Promises.{ReadOrRefused, refused_by, read_as}
use Rattle.packet.proofs.Readings.{read_or_refused}
use Rattle.peerlaws.specs.Exact.{Repeats}
use Rattle.peerlaws.specs.Runs.{Call, step, supply, give_up, call_of}
use Rattle.peerlaws.specs.Promises.{Leaves, written, credentials, authenticated, ended, refusal, AnswersLeave, Confirms, SuccessOnlyIfRight, NoPacketTaken}
use Rattle.peerlaws.proofs.Views.{Moved, responds, accepts, fails, waits, succeeds, ends, Stepped, stepped, Supplied, supplied, GaveUp, gave_up}
use Rattle.peerlaws.proofs.Views as view

-- ---- 1
-- what the outcome o leaves
abbrev Left : Peer → Call → List ℕ → Outcome Peer → Type 0
Left p c b o = Leaves p c b o.number (length o.octets) o.state (over o.octets b)

module _ {p : Peer} {b : List ℕ} {room : ℕ} (e : length b ≡ room) where
  moved_leaves : {c : Call} {k : Packet} {q random : List ℕ} {o : Outcome Peer} → Moved p k q random room o → Left p c b o
  unfolding responded answered awaiting staged
  moved_leaves {c} {k} {q} {random} (responds f g h) = written (response_in p k q random) _ (rw (← e) at h) refl
  moved_leaves {c} {k} (accepts f g r h) = written (success_response k.id.0) _ (rw (← e) at h) refl
  moved_leaves {c} {k} (fails f g h) = written (failure_response k.id.0) _ (rw (← e) at h) refl
  moved_leaves (waits f g) = credentials _ refl
  moved_leaves (succeeds f) = authenticated _ refl
  moved_leaves ends = ended _ refl

  step_leaves : {s random : List ℕ} {o : Outcome Peer} → Stepped p s random room o → Left p (step s random room) b o
  step_leaves (view.refuses n h l) = refusal n (h, l)
  step_leaves (view.repeats_it r h) = written (last_reply p) _ (rw (← e) at h) r.stage
  step_leaves (view.moves k f m) = moved_leaves m

  supply_leaves : {name hash random : List ℕ} {o : Outcome Peer} → Supplied p name hash random room o → Left p (supply name hash random room) b o
  unfolding supplied_state
  supply_leaves (view.refuses n h l) = refusal n l
  supply_leaves {name} {hash} {random} (view.supplies_it w f h) = written (response_by p name hash random) _ (rw (← e) at h) refl

give_up_leaves : {p : Peer} {b : List ℕ} {o : Outcome Peer} → GaveUp p o → Left p give_up b o
unfolding staged
give_up_leaves (view.refuses n h l) = refusal n l
give_up_leaves (view.ends w) = ended _ refl

does_leave : {p : Peer} {c : Call} {o : Outcome Peer} {k n : ℕ} {s : Peer} {before after : List ℕ} → Does o k n s before after → Left p c before o → Leaves p c before k n s after
does_leave d l = rw (d.answered, d.count, d.left, d.written) l

pub answers_leave : AnswersLeave
unfolding call_of
answers_leave p (step s random room) k n t before after e d = does_leave d (step_leaves e (stepped p s random room))
answers_leave p (supply name hash random room) k n t before after e d = does_leave d (supply_leaves e (supplied p name hash random room))
answers_leave p give_up k n t before after e d = does_leave d (give_up_leaves (gave_up p))

-- ---- 2. OpCode is at 5
pub response_op : (id chapid : ℕ) (own response name : List ℕ) → get_or (response_packet id chapid own response name) 5 0 ≡ 2
unfolding response_packet chap_packet header
response_op id chapid own response name = refl

-- [] and octets with another OpCode are no Success Response
pub other : {A : Type 0} (q : List ℕ) (id x : ℕ) → get_or q 5 0 ≡ x → (x ≡ 3 → ⊥) → q ≡ success_response id → A
other q id x f n e = absurd (n (sym f ∙ ap (λ (l : List ℕ). get_or l 5 0) e))

pub moved_confirms : {p : Peer} {s random : List ℕ} {room id : ℕ} (k : Packet) {o : Outcome Peer} → read_packet end.Peer s ≡ gives k → Moved p k (take k.length s) random room o → o.octets ≡ success_response id → Confirms (right_digits p) p s × (o.number ≡ 0)
unfolding response_to
moved_confirms k e (responds f g h) z = other _ _ 2 (response_op _ _ _ _ _) (λ n. absurd (omega arith)) z
moved_confirms k e (accepts f g r h) z = (record { stage = f; packet = k; reads = e; success = g; right = r }, refl)
moved_confirms k e (fails f g h) z = other _ _ 4 refl (λ n. absurd (omega arith)) z
moved_confirms k e (waits f g) z = other [] _ 0 refl (λ n. absurd (omega arith)) z
moved_confirms k e (succeeds f) z = other [] _ 0 refl (λ n. absurd (omega arith)) z
moved_confirms k e ends z = other [] _ 0 refl (λ n. absurd (omega arith)) z

step_confirms : {p : Peer} {s random : List ℕ} {room id : ℕ} {o : Outcome Peer} → Stepped p s random room o → o.octets ≡ success_response id → Repeats p s ⊎ Confirms (right_digits p) p s
step_confirms (view.refuses n h l) z = other [] _ 0 refl (λ n. absurd (omega arith)) z
step_confirms (view.repeats_it r h) z = inl r
step_confirms (view.moves k e m) z = inr (moved_confirms k e m z).0

pub supply_confirms : {A : Type 0} {p : Peer} {name hash random : List ℕ} {room id : ℕ} {o : Outcome Peer} → Supplied p name hash random room o → o.octets ≡ success_response id → A
unfolding response_by response_to
supply_confirms (view.refuses n h l) z = other [] _ 0 refl (λ n. absurd (omega arith)) z
supply_confirms (view.supplies_it w f h) z = other _ _ 2 (response_op _ _ _ _ _) (λ n. absurd (omega arith)) z

pub give_up_confirms : {A : Type 0} {p : Peer} {id : ℕ} {o : Outcome Peer} → GaveUp p o → o.octets ≡ success_response id → A
give_up_confirms (view.refuses n h l) z = other [] _ 0 refl (λ n. absurd (omega arith)) z
give_up_confirms (view.ends w) z = other [] _ 0 refl (λ n. absurd (omega arith)) z

pub success_only_if_right : SuccessOnlyIfRight
unfolding call_of
success_only_if_right p (step s random room) id z = step_confirms (stepped p s random room) z
success_only_if_right p (supply name hash random room) id z = supply_confirms (supplied p name hash random room) z
success_only_if_right p give_up id z = give_up_confirms (gave_up p) z

-- ---- 5
none : (stage : Stage) (kind : Kind) (p : Peer) (k : Packet) (q random : List ℕ) (room : ℕ) (same known : Bool) → sent stage ≡ false → takes stage kind ≡ false → moved_of (turn_of stage kind same known) p k q random room ≡ refused 19 p
unfolding turn_of repeats moved_by answer_of left_by pick
none stage kind p k q random room same known e t =
    ap (λ m. moved_of m p k q random room) (pick_false _ _ _ (pick_true _ _ _ (ap not e)) ∙ pick_true _ _ _ (ap not t)) ∙ fitting_so room p (refused 19 p) (omega arith)

resting : (stage : Stage) (kind : Kind) → (stage ≡ Waiting) ⊎ ((stage ≡ Success) ⊎ (stage ≡ Failed)) → (sent stage ≡ false) × (takes stage kind ≡ false)
resting stage kind (inl e) = (ap sent e, ap (λ (g : Stage). takes g kind) e)
resting stage kind (inr (inl e)) = (ap sent e, ap (λ (g : Stage). takes g kind) e)
resting stage kind (inr (inr e)) = (ap sent e, ap (λ (g : Stage). takes g kind) e)

pub no_packet_taken : NoPacketTaken
unfolding step_of step_by read_by taken_by turn_in
no_packet_taken p s random room k h e = go (read_or_refused end.Peer s) e
  where
    go : {t : Told Packet} → ReadOrRefused s t → k ≡ t.number → read_by (right_digits p) t p s random room ≡ refused (pick (eqb k 0) 19 k) p
    go (refused_by n l m) f =
        let z : eqb n 0 ≡ false = ne_eqb n 0 (λ z. absurd (omega arith)) in
        rw f (pick_false _ _ _ z ∙ ap (λ (x : ℕ). refused x p) (sym (pick_false (eqb n 0) 19 n z)))
    go (read_as x i) f =
        let r = resting p.stage x.kind h in
        rw f (pick_true _ _ _ refl
        ∙ none p.stage x.kind p x (take x.length s) random room (same (take x.length s) (last_request p)) (octet_is (last_request p) 1 x.id.0) r.0 r.1
        ∙ ap (λ (n : ℕ). refused n p) (sym (pick_true true 19 0 refl)))
