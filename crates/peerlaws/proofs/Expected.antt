-- 02 [6]: the expected string is set where a Response is made, is the one that 01 defines, and changes no answer.
use Prim.Native.Nat.{ℕ}
use mathlib.Core.Path.{◌≡◌, refl, sym, ap, ◌∙◌}
use mathlib.Core.List.{List, [], ◌∷◌}
use mathlib.Core.Bool.{true, not}
use native.Mathlib.Omega.{arith}
use lib.ListN.{take, replicate}
use lib.Dec.{eqb}
use Rattle.octets.specs.Choice.{pick}
use Rattle.octets.specs.Octets.{octet_is, same}
use Rattle.octets.proofs.Exits.{arms, picked, clash}
use Rattle.octets.proofs.Lists.{take_sized}
use borrow.Author.Tests.{not-false}
use Rattle.answer.specs.Outcome.{Outcome, refused}
use Rattle.answer.specs.Runs.{run}
use Rattle.answer.specs.Sizes.{max_name}
use Rattle.packet.specs.declared.End.TheVariants as end
use Rattle.packet.specs.declared.Kind.{Kind}
use Rattle.packet.specs.declared.Kind.TheVariants.{Challenge, Response, SuccessRequest, FailureRequest, RetryRequest, SuccessResponse, FailureResponse, EapSuccess, EapFailure}
use Rattle.packet.specs.declared.Packet.{Packet}
use Rattle.packet.specs.Reader.{read_packet}
use Rattle.mschap.specs.Responses.{digits_of}
use Rattle.peer.specs.declared.Stage.{Stage}
use Rattle.peer.specs.declared.Stage.TheVariants.{Begin, ChallengeResponseSent, SuccessResponseSent, FailureResponseSent, Waiting, Success, Failed}
use Rattle.peer.specs.declared.Peer.{Peer}
use Rattle.peer.specs.State.{own_name, last_request, string_to, computed_string, right_digits, initial, staged, answered, responded, awaiting, supplied as supplied_state}
use Rattle.peer.specs.Moves.{takes, move_of, sent, repeats, misnumbered, turn_of}
use Rattle.peer.specs.Calls.{new_of, answer_of, moved_by, turn_in, taken_by, read_by, step_by, step_of}
use Rattle.peerlaws.specs.Runs.{Call, step, supply, give_up, call_of, AreCalls}
use Rattle.peerlaws.specs.Expected.{ResponseMade, ExpectedString, computing, outcomes, AnswersStay}
use Rattle.peerlaws.proofs.Views.{Moved, responds, accepts, fails, waits, succeeds, ends, Stepped, stepped, Supplied, supplied, GaveUp, gave_up}
use Rattle.peerlaws.proofs.Views as view
use Rattle.peerlaws.proofs.Consistent.{Invariant, made, call_holds, reached, kept_string}

-- ---- zero before
new_zero : (name hash : List ℕ) → (new_of name hash).state.challenges.expected ≡ replicate 20 0
unfolding new_of initial
new_zero name hash = arms (λ (o : Outcome Peer). o.state.challenges.expected ≡ replicate 20 0) _ refl refl

-- ---- set by a call that makes a Response
moved_sets : {p : Peer} {q random : List ℕ} {room : ℕ} (k : Packet) {o : Outcome Peer} → Moved p k q random room o → p.stage ≡ Begin → o.number ≡ 0 → o.state.challenges.expected ≡ computed_string o.state
unfolding responded computed_string own_name
moved_sets k (responds f g h) b z = refl
moved_sets k (accepts f g d h) b z = clash (ap sent b) (ap sent f)
moved_sets k (fails f g h) b z = clash (ap sent b) (ap sent f)
moved_sets k (waits f g) b z = absurd (omega arith)
moved_sets k (succeeds f) b z = absurd (omega arith)
moved_sets k ends b z = absurd (omega arith)

step_sets : {p : Peer} {s random : List ℕ} {room : ℕ} {o : Outcome Peer} → Stepped p s random room o → p.stage ≡ Begin → o.number ≡ 0 → o.state.challenges.expected ≡ computed_string o.state
step_sets (view.refuses n h l) b z = absurd (omega arith)
step_sets (view.repeats_it r h) b z = clash (ap sent b) r.stage
step_sets (view.moves k e m) b z = moved_sets k m b z

supply_sets : {p : Peer} {name hash random : List ℕ} {room : ℕ} {o : Outcome Peer} → Supplied p name hash random room o → o.number ≡ 0 → o.state.challenges.expected ≡ computed_string o.state
unfolding supplied_state computed_string own_name
supply_sets (view.refuses n h l) z = absurd (omega arith)
supply_sets {p} {name} {hash} {random} (view.supplies_it w f h) z = ap (λ (x : List ℕ). string_to p.challenges.authenticator random x hash) (sym (take_sized max_name name f))

call_sets : (p : Peer) (c : Call) → ResponseMade p c → (call_of p c).state.challenges.expected ≡ computed_string (call_of p c).state
unfolding call_of
call_sets p (step s random room) m = step_sets (stepped p s random room) m.0 m.1
call_sets p (supply name hash random room) m = supply_sets (supplied p name hash random room) m
call_sets p give_up m = absurd m

-- ---- left alone by any other
moved_leaves : {p : Peer} {q random : List ℕ} {room : ℕ} (k : Packet) {o : Outcome Peer} → Moved p k q random room o → ((p.stage ≡ Begin) × (o.number ≡ 0) → ⊥) → o.state.challenges.expected ≡ p.challenges.expected
unfolding answered awaiting staged
moved_leaves k (responds f g h) m = absurd (m (f, refl))
moved_leaves k (accepts f g d h) m = refl
moved_leaves k (fails f g h) m = refl
moved_leaves k (waits f g) m = refl
moved_leaves k (succeeds f) m = refl
moved_leaves k ends m = refl

step_leaves : {p : Peer} {s random : List ℕ} {room : ℕ} {o : Outcome Peer} → Stepped p s random room o → ((p.stage ≡ Begin) × (o.number ≡ 0) → ⊥) → o.state.challenges.expected ≡ p.challenges.expected
step_leaves (view.refuses n h l) m = refl
step_leaves (view.repeats_it r h) m = refl
step_leaves (view.moves k e x) m = moved_leaves k x m

supply_leaves : {p : Peer} {name hash random : List ℕ} {room : ℕ} {o : Outcome Peer} → Supplied p name hash random room o → (o.number ≡ 0 → ⊥) → o.state.challenges.expected ≡ p.challenges.expected
supply_leaves (view.refuses n h l) m = refl
supply_leaves (view.supplies_it w f h) m = absurd (m refl)

give_up_leaves : {p : Peer} {o : Outcome Peer} → GaveUp p o → o.state.challenges.expected ≡ p.challenges.expected
unfolding staged
give_up_leaves (view.refuses n h l) = refl
give_up_leaves (view.ends w) = refl

call_leaves : (p : Peer) (c : Call) → (ResponseMade p c → ⊥) → (call_of p c).state.challenges.expected ≡ p.challenges.expected
unfolding call_of
call_leaves p (step s random room) m = step_leaves (stepped p s random room) m
call_leaves p (supply name hash random room) m = supply_leaves (supplied p name hash random room) m
call_leaves p give_up m = give_up_leaves (gave_up p)

pub expected_string : ExpectedString
expected_string = record { zero = new_zero; set = call_sets; stays = call_leaves; right = λ p r f. kept_string p (reached p r) f }

-- ---- the digits count in CHALLENGE_RESPONSE_SENT alone
confirmed_there : (stage : Stage) → takes stage SuccessRequest ≡ true → stage ≡ ChallengeResponseSent
confirmed_there Begin t = clash refl t
confirmed_there ChallengeResponseSent t = refl
confirmed_there SuccessResponseSent t = clash refl t
confirmed_there FailureResponseSent t = clash refl t
confirmed_there Waiting t = clash refl t
confirmed_there Success t = clash refl t
confirmed_there Failed t = clash refl t

module _ (p : Peer) (right : List ℕ) (same-there : p.stage ≡ ChallengeResponseSent → right_digits p ≡ right) (random : List ℕ) (room : ℕ) where
  moves_alike : (k : Packet) (q : List ℕ) (kind : Kind) → takes p.stage kind ≡ true → moved_by (right_digits p) (move_of kind) p k q random room ≡ moved_by right (move_of kind) p k q random room
  unfolding moved_by answer_of
  moves_alike k q Challenge t = refl
  moves_alike k q Response t = refl
  moves_alike k q SuccessRequest t = ap (λ (d : List ℕ). moved_by d (move_of SuccessRequest) p k q random room) (same-there (confirmed_there p.stage t))
  moves_alike k q FailureRequest t = refl
  moves_alike k q RetryRequest t = refl
  moves_alike k q SuccessResponse t = refl
  moves_alike k q FailureResponse t = refl
  moves_alike k q EapSuccess t = refl
  moves_alike k q EapFailure t = refl

  taken_alike : (k : Packet) (q : List ℕ) → taken_by (right_digits p) p k q random room ≡ taken_by right p k q random room
  unfolding taken_by turn_in turn_of moved_by answer_of
  taken_alike k q =
      arms (λ m. moved_by (right_digits p) m p k q random room ≡ moved_by right m p k q random room) (repeats p.stage k.kind (same q (last_request p))) refl
      (picked (λ m. moved_by (right_digits p) m p k q random room ≡ moved_by right m p k q random room) (not (takes p.stage k.kind))
      (λ t. refl)
      (λ t. arms (λ m. moved_by (right_digits p) m p k q random room ≡ moved_by right m p k q random room) (misnumbered p.stage k.kind (octet_is (last_request p) 1 k.id.0)) refl
      (moves_alike k q k.kind (not-false _ t))))

  step_alike : (s : List ℕ) → step_of p s random room ≡ step_by right p s random room
  unfolding step_of step_by read_by
  step_alike s =
      let t = read_packet end.Peer s in
      ap (λ (o : Outcome Peer). pick (eqb t.number 0) o (refused t.number p)) (taken_alike t.value (take t.value.length s))

pub call_alike : (p : Peer) (c : Call) → Invariant p → call_of p c ≡ computing p c
unfolding call_of computing right_digits
call_alike p (step s random room) h = step_alike p (digits_of (computed_string p)) (λ f. ap digits_of (kept_string p h f)) random room s
call_alike p (supply name hash random room) h = refl
call_alike p give_up h = refl

-- ---- lists of calls
run_alike : (p : Peer) (cs : List Call) → AreCalls cs → Invariant p → outcomes call_of p cs ≡ outcomes computing p cs
unfolding run
run_alike p [] a h = refl
run_alike p (c ∷ cs) a h =
    ap (λ (os : List (Outcome Peer)). call_of p c ∷ os) (run_alike (call_of p c).state cs a.1 (call_holds p c a.0 h))
    ∙ ap (λ (o : Outcome Peer). o ∷ outcomes computing o.state cs) (call_alike p c h)

pub answers_stay : AnswersStay
answers_stay name hash cs p l a e = run_alike p cs a (rw e (made name hash l))
