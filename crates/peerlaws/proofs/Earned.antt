-- Over any calls on from a made peer: a Success Response, and answer 2, come only of the right string.
use Prim.Native.Nat.{ℕ}
use mathlib.Core.Path.{◌≡◌, refl, sym, ap, ◌∙◌}
use mathlib.Core.List.{List, [], ◌∷◌, ◌++◌}
use mathlib.Core.Bool.{true}
use mathlib.Core.Logic.{◌⊎◌, inl, inr}
use native.Mathlib.Omega.{arith}
use lib.ListN.{take}
use Rattle.octets.proofs.Exits.{arms, clash}
use Rattle.answer.specs.Outcome.{gives, Outcome}
use Rattle.answer.specs.Runs as runs
use Rattle.packet.specs.declared.End.TheVariants as end
use Rattle.packet.specs.declared.Packet.{Packet}
use Rattle.packet.specs.Reader.{read_packet}
use Rattle.packet.specs.Forms.{success_response}
use Rattle.mschap.specs.Responses.{digits_of}
use Rattle.peer.specs.declared.Stage.{Stage}
use Rattle.peer.specs.declared.Stage.TheVariants.{Begin, ChallengeResponseSent, SuccessResponseSent, FailureResponseSent, Waiting, Success, Failed}
use Rattle.peer.specs.declared.Peer.{Peer}
use Rattle.peer.specs.State.{last_reply, response_to, outstanding, computed_string, right_digits, initial, staged, answered, responded, awaiting, supplied as supplied_state}
use Rattle.peer.specs.Moves.{sent}
use Rattle.peer.specs.Calls.{new_of}
use Rattle.peerlaws.specs.Runs.{Call, step, supply, give_up, call_of, after, AreCalls}
use Rattle.peerlaws.specs.Promises.{Confirms, Accepts, SomeAccepts, SuccessEarned}
use Rattle.peerlaws.proofs.Promises.{response_op, other, moved_confirms, supply_confirms, give_up_confirms}
use Rattle.peerlaws.proofs.Views.{Moved, responds, accepts, fails, waits, succeeds, ends, Stepped, stepped, Supplied, supplied, GaveUp, gave_up}
use Rattle.peerlaws.proofs.Views as view
use Rattle.peerlaws.proofs.Consistent.{Keeps, Invariant, made, call_holds, after_holds, kept_string}

-- whether a stage is SUCCESS_RESPONSE_SENT, as a number
abbrev told : Stage → ℕ
told Begin = 0
told ChallengeResponseSent = 0
told SuccessResponseSent = 1
told FailureResponseSent = 0
told Waiting = 0
told Success = 0
told Failed = 0

apart : {A : Type 0} (stage : Stage) → told stage ≡ 0 → stage ≡ SuccessResponseSent → A
apart stage z e = let y : ◌≡◌ {A = ℕ} 0 1 = sym z ∙ ap told e in absurd (omega arith)

-- the packet that was accepted had the string that 01 defines
abbrev Earns : Peer → List ℕ → ℕ → Type 0
Earns p s n = Confirms (digits_of (computed_string p)) p s × (n ≡ 0)

earns : {p : Peer} {s : List ℕ} {n : ℕ} → Invariant p → Confirms (right_digits p) p s × (n ≡ 0) → Earns p s n
unfolding right_digits
earns {p} h f =
    let t = f.0 in
    (record { stage = t.stage; packet = t.packet; reads = t.reads; success = t.success; right = t.right ∙ ap digits_of (kept_string p h t.stage) }, f.1)

-- ---- the stage is entered by the right string alone
moved_enters : {p : Peer} {s random : List ℕ} {room : ℕ} → Invariant p → (k : Packet) {o : Outcome Peer} → read_packet end.Peer s ≡ gives k → Moved p k (take k.length s) random room o → o.state.stage ≡ SuccessResponseSent → Earns p s o.number
unfolding responded answered awaiting staged
moved_enters a k e (responds f g h) z = apart ChallengeResponseSent refl z
moved_enters a k e (accepts f g r h) z = earns a (record { stage = f; packet = k; reads = e; success = g; right = r }, refl)
moved_enters a k e (fails f g h) z = apart FailureResponseSent refl z
moved_enters a k e (waits f g) z = apart Waiting refl z
moved_enters a k e (succeeds f) z = apart Success refl z
moved_enters a k e ends z = apart Failed refl z

step_enters : {p : Peer} {s random : List ℕ} {room : ℕ} {o : Outcome Peer} → Invariant p → Stepped p s random room o → o.state.stage ≡ SuccessResponseSent → (p.stage ≡ SuccessResponseSent) ⊎ Earns p s o.number
step_enters a (view.refuses n h l) z = inl z
step_enters a (view.repeats_it r h) z = inl z
step_enters a (view.moves k e m) z = inr (moved_enters a k e m z)

supply_enters : {p : Peer} {name hash random : List ℕ} {room : ℕ} {o : Outcome Peer} → Supplied p name hash random room o → o.state.stage ≡ SuccessResponseSent → p.stage ≡ SuccessResponseSent
unfolding supplied_state
supply_enters (view.refuses n h l) z = z
supply_enters (view.supplies_it w f h) z = apart ChallengeResponseSent refl z

give_up_enters : {p : Peer} {o : Outcome Peer} → GaveUp p o → o.state.stage ≡ SuccessResponseSent → p.stage ≡ SuccessResponseSent
unfolding staged
give_up_enters (view.refuses n h l) z = z
give_up_enters (view.ends w) z = apart Failed refl z

enters : (p : Peer) (c : Call) → Invariant p → (call_of p c).state.stage ≡ SuccessResponseSent → (p.stage ≡ SuccessResponseSent) ⊎ Accepts p c
unfolding call_of
enters p (step s random room) h z = step_enters h (stepped p s random room) z
enters p (supply name hash random room) h z = inl (supply_enters (supplied p name hash random room) z)
enters p give_up h z = inl (give_up_enters (gave_up p) z)

-- ---- lists of calls
entered : (p : Peer) (cs : List Call) → AreCalls cs → Invariant p → (after p cs).stage ≡ SuccessResponseSent → (p.stage ≡ SuccessResponseSent) ⊎ SomeAccepts p cs
unfolding runs.after
entered p [] a h z = inl z
entered p (c ∷ cs) a h z = by (entered (call_of p c).state cs a.1 (call_holds p c a.0 h) z)
  where
    now : (p.stage ≡ SuccessResponseSent) ⊎ Accepts p c → (p.stage ≡ SuccessResponseSent) ⊎ (Accepts p c ⊎ SomeAccepts (call_of p c).state cs)
    now (inl f) = inl f
    now (inr f) = inr (inl f)

    by : ((call_of p c).state.stage ≡ SuccessResponseSent) ⊎ SomeAccepts (call_of p c).state cs → (p.stage ≡ SuccessResponseSent) ⊎ (Accepts p c ⊎ SomeAccepts (call_of p c).state cs)
    by (inl f) = now (enters p c h f)
    by (inr f) = inr (inr f)

before : (p : Peer) (cs ds : List Call) → SomeAccepts p cs → SomeAccepts p (cs ++ ds)
before p [] ds f = absurd f
before p (c ∷ cs) ds (inl f) = inl f
before p (c ∷ cs) ds (inr f) = inr (before (call_of p c).state cs ds f)

at_last : (p : Peer) (cs : List Call) (c : Call) → Accepts (after p cs) c → SomeAccepts p (cs ++ (c ∷ []))
unfolding runs.after
at_last p [] c f = inl f
at_last p (d ∷ cs) c f = inr (at_last (call_of p d).state cs c f)

-- a made peer is in BEGIN or FAILED
initial_apart : (name hash : List ℕ) → told (new_of name hash).state.stage ≡ 0
unfolding new_of initial
initial_apart name hash = arms (λ (o : Outcome Peer). told o.state.stage ≡ 0) _ refl refl

-- ---- a call that sends a Success Response or answers 2
-- a stored Success Response
kept_success : (stage : Stage) (p : Peer) (id : ℕ) → sent stage ≡ true → Keeps stage p → last_reply p ≡ success_response id → stage ≡ SuccessResponseSent
unfolding outstanding response_to
kept_success Begin p id f k z = clash refl f
kept_success ChallengeResponseSent p id f k z = other _ id 2 (response_op _ _ _ _ _) (λ n. absurd (omega arith)) (sym k.0 ∙ z)
kept_success SuccessResponseSent p id f k z = refl
kept_success FailureResponseSent p id f k z = other _ id 4 refl (λ n. absurd (omega arith)) (sym k.0 ∙ z)
kept_success Waiting p id f k z = clash refl f
kept_success Success p id f k z = clash refl f
kept_success Failed p id f k z = clash refl f

moved_sends : {p : Peer} {s random : List ℕ} {room id : ℕ} → Invariant p → (k : Packet) {o : Outcome Peer} → read_packet end.Peer s ≡ gives k → Moved p k (take k.length s) random room o → (o.octets ≡ success_response id) ⊎ (o.number ≡ 2) → (p.stage ≡ SuccessResponseSent) ⊎ Earns p s o.number
moved_sends a k e m (inl z) = inr (earns a (moved_confirms k e m z))
moved_sends a k e (responds f g h) (inr z) = absurd (omega arith)
moved_sends a k e (accepts f g r h) (inr z) = absurd (omega arith)
moved_sends a k e (fails f g h) (inr z) = absurd (omega arith)
moved_sends a k e (waits f g) (inr z) = absurd (omega arith)
moved_sends a k e (succeeds f) (inr z) = inl f
moved_sends a k e ends (inr z) = absurd (omega arith)

step_sends : {p : Peer} {s random : List ℕ} {room id : ℕ} {o : Outcome Peer} → Invariant p → Stepped p s random room o → (o.octets ≡ success_response id) ⊎ (o.number ≡ 2) → (p.stage ≡ SuccessResponseSent) ⊎ Earns p s o.number
step_sends a (view.refuses n h l) (inl z) = other [] _ 0 refl (λ n. absurd (omega arith)) z
step_sends a (view.refuses n h l) (inr z) = absurd (omega arith)
step_sends {p} a (view.repeats_it r h) (inl z) = inl (kept_success p.stage p _ r.stage a.keeps z)
step_sends a (view.repeats_it r h) (inr z) = absurd (omega arith)
step_sends a (view.moves k e m) z = moved_sends a k e m z

supply_sends : {A : Type 0} {p : Peer} {name hash random : List ℕ} {room id : ℕ} {o : Outcome Peer} → Supplied p name hash random room o → (o.octets ≡ success_response id) ⊎ (o.number ≡ 2) → A
supply_sends v (inl z) = supply_confirms v z
supply_sends (view.refuses n h l) (inr z) = absurd (omega arith)
supply_sends (view.supplies_it w f h) (inr z) = absurd (omega arith)

give_up_sends : {A : Type 0} {p : Peer} {id : ℕ} {o : Outcome Peer} → GaveUp p o → (o.octets ≡ success_response id) ⊎ (o.number ≡ 2) → A
give_up_sends v (inl z) = give_up_confirms v z
give_up_sends (view.refuses n h l) (inr z) = absurd (omega arith)
give_up_sends (view.ends w) (inr z) = absurd (omega arith)

sends : (p : Peer) (c : Call) (id : ℕ) → Invariant p → ((call_of p c).octets ≡ success_response id) ⊎ ((call_of p c).number ≡ 2) → (p.stage ≡ SuccessResponseSent) ⊎ Accepts p c
unfolding call_of
sends p (step s random room) id h z = step_sends h (stepped p s random room) z
sends p (supply name hash random room) id h z = supply_sends (supplied p name hash random room) z
sends p give_up id h z = give_up_sends (gave_up p) z

pub success_earned : SuccessEarned
success_earned name hash cs c p id l a e z = go (sends (after p cs) c id (after_holds p cs a here) z)
  where
    here : Invariant p
    here = rw e (made name hash l)

    come : (p.stage ≡ SuccessResponseSent) ⊎ SomeAccepts p cs → SomeAccepts p (cs ++ (c ∷ []))
    come (inl f) = apart p.stage (rw e (initial_apart name hash)) f
    come (inr f) = before p cs (c ∷ []) f

    go : ((after p cs).stage ≡ SuccessResponseSent) ⊎ Accepts (after p cs) c → SomeAccepts p (cs ++ (c ∷ []))
    go (inl f) = come (entered p cs a here f)
    go (inr f) = at_last p cs c f
