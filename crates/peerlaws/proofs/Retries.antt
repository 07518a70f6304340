-- What is kept of a packet, the Response after R=1, and what the random octets are used for.
use Prim.Native.Nat.{ℕ, ◌≤◌}
use mathlib.Core.Path.{◌≡◌, refl, sym, ap, ◌∙◌}
use mathlib.Core.List.{List}
use native.Mathlib.Omega.{arith}
use lib.ListN.{length, get_or, take}
use Rattle.octets.specs.Octets.{number_at}
use Rattle.octets.specs.declared.Order.TheVariants.{Big}
use Rattle.octets.proofs.Exits.{below, clash}
use Rattle.octets.proofs.Lists.{take_sized}
use Rattle.answer.specs.Outcome.{Told, gives, Outcome, outcome, fitting}
use Rattle.answer.specs.Sizes.{max_packet, max_name}
use Rattle.answer.proofs.Outcomes.{fitting_so, fitting_not}
use Rattle.packet.specs.declared.End.TheVariants as end
use Rattle.packet.specs.declared.Kind.TheVariants.{RetryRequest}
use Rattle.packet.specs.declared.Packet.{Packet}
use Rattle.packet.specs.Kinds.{is_request}
use Rattle.packet.specs.Reader.{read_packet, challenge_in}
use Rattle.packet.proofs.Readings.{tells}
use Rattle.peer.specs.declared.Stage.TheVariants.{Begin}
use Rattle.peer.specs.declared.Peer.{Peer}
use Rattle.peer.specs.State.{own_name, last_request, last_id, last_chap_id, response_to, answered, responded, awaiting, supplied}
use Rattle.peer.specs.Moves.{sent}
use Rattle.peer.specs.Calls.{renewed_in, response_in, step_of, response_by, resume_of, supply_of}
use Rattle.peer.proofs.Replies.{length_response_to}
use Rattle.peerlaws.specs.Exact.{Repeats, Misnumbered, responding, Row, challenge, right_string, other_string, no_retry, retry, eap_success, eap_failure, Steps, unread, repeat, not_taken, wrong_identifier, taken, supplying, Supplies}
use Rattle.peerlaws.specs.Exact as exact
use Rattle.peerlaws.specs.Promises.{RequestKept, RetryAnswersC, Responds, RandomOnlyInResponse, RandomOnlyInSupply}
use Rattle.peerlaws.proofs.Forward.{id_here, chap_here, cut_most, resumes_so}
use Rattle.peerlaws.proofs.Exact.{steps, step_exact, supplies, supply_exact}
use Rattle.peerlaws.proofs.Views.{Moved, responds, accepts, fails, waits, succeeds, ends, Stepped, stepped, Supplied}
use Rattle.peerlaws.proofs.Views as view
use Rattle.peerlaws.proofs.Repeats.{all_same}

-- ---- 8. The kept request
moved_request : {p : Peer} {random : List ℕ} {room : ℕ} (s : List ℕ) (k : Packet) {o : Outcome Peer} → read_packet end.Peer s ≡ gives k → Moved p k (take k.length s) random room o → o.number ≤ 1 → last_request o.state ≡ take k.length s
unfolding responded answered awaiting last_request
moved_request s k e (responds f g h) z = take_sized max_packet _ (cut_most s k e)
moved_request s k e (accepts f g r h) z = take_sized max_packet _ (cut_most s k e)
moved_request s k e (fails f g h) z = take_sized max_packet _ (cut_most s k e)
moved_request s k e (waits f g) z = take_sized max_packet _ (cut_most s k e)
moved_request s k e (succeeds f) z = absurd (omega arith)
moved_request s k e ends z = absurd (omega arith)

step_request : {p : Peer} {s random : List ℕ} {room : ℕ} {o : Outcome Peer} → Stepped p s random room o → o.number ≤ 1 → last_request o.state ≡ take (number_at Big s 2) s
step_request (view.refuses n h l) z = absurd (omega arith)
step_request {s = s} (view.repeats_it t h) z = sym t.same ∙ ap (λ (n : ℕ). take n s) (tells end.Peer s t.packet t.reads).size
step_request {s = s} (view.moves k e m) z = moved_request s k e m z ∙ ap (λ (n : ℕ). take n s) (tells end.Peer s k e).size

pub request_kept : RequestKept
request_kept p s random room z = step_request (stepped p s random room) z

-- ---- the Response to C
moved_retry : {p : Peer} {k : Packet} {q random : List ℕ} {room : ℕ} {o : Outcome Peer} → Moved p k q random room o → o.number ≡ 1 → (o.state ≡ awaiting (renewed_in k q) q p) × (k.kind ≡ RetryRequest)
moved_retry (responds f g h) z = absurd (omega arith)
moved_retry (accepts f g r h) z = absurd (omega arith)
moved_retry (fails f g h) z = absurd (omega arith)
moved_retry (waits f g) z = (refl, g)
moved_retry (succeeds f) z = absurd (omega arith)
moved_retry ends z = absurd (omega arith)

step_retry : {p : Peer} {s random : List ℕ} {room : ℕ} {o : Outcome Peer} (k : Packet) → read_packet end.Peer s ≡ gives k → Stepped p s random room o → o.number ≡ 1 → (o.state ≡ awaiting (renewed_in k (take k.length s)) (take k.length s) p) × (k.kind ≡ RetryRequest)
step_retry k e (view.refuses n h l) z = absurd (omega arith)
step_retry k e (view.repeats_it t h) z = absurd (omega arith)
step_retry {p} {s} k e (view.moves k' e' m) z =
    let w : k' ≡ k = ap (λ (t : Told Packet). t.value) (sym e' ∙ e) in
    let r = moved_retry m z in
    (r.0 ∙ ap (λ (x : Packet). awaiting (renewed_in x (take x.length s)) (take x.length s) p) w, sym (ap (λ (x : Packet). x.kind) w) ∙ r.1)

awaiting_supplies : (p : Peer) (k : Packet) (q name hash own : List ℕ) (room : ℕ) → length q ≤ max_packet → get_or q 1 0 ≡ k.id.0 → get_or q 6 0 ≡ k.chapid.0 → length name ≤ max_name → (w : List ℕ) → w ≡ response_to k.id.0 k.chapid.0 (renewed_in k q) own name hash →
    supply_of (awaiting (renewed_in k q) q p) name hash own room
    ≡ fitting room (awaiting (renewed_in k q) q p) (outcome 0 w (supplied name hash own k.chapid w (awaiting (renewed_in k q) q p)))
unfolding resume_of response_by awaiting last_id last_chap_id last_request
awaiting_supplies p k q name hash own room most e d h w f =
    let n = awaiting (renewed_in k q) q p in
    let t = take_sized max_packet q most in
    let i : last_id n ≡ k.id.0 = ap (λ (l : List ℕ). get_or l 1 0) t ∙ e in
    let c : last_chap_id n ≡ k.chapid.0 = ap (λ (l : List ℕ). get_or l 6 0) t ∙ d in
    let g : response_by n name hash own ≡ w = (λ j. response_to (i j) (c j) (renewed_in k q) own name hash) ∙ sym f in
    resumes_so n name hash own room refl h ∙ (λ j. fitting room n (outcome 0 (g j) (supplied name hash own (record { 0 = c j }) (g j) n)))

pub retry_answers_c : RetryAnswersC
retry_answers_c p p' s random room k cs name hash own w room' e z t f h is =
    let r = step_retry k e (stepped p s random room) z in
    let g : p' ≡ awaiting (renewed_in k (take k.length s)) (take k.length s) p = f ∙ all_same (step_of p s random room).state cs t ∙ r.0 in
    rw g (awaiting_supplies p k (take k.length s) name hash own room' (cut_most s k e) (id_here s k e) (chap_here s k e (ap is_request r.1)) h w is)

-- ---- 9. The random octets
-- two replies of one length: both go out, or none
fit_alike : (p n n' : Peer) (room : ℕ) (w w' : List ℕ) → length w ≡ length w'
    → ((fitting room p (outcome 0 w n)).number ≡ (fitting room p (outcome 0 w' n')).number)
    × (((fitting room p (outcome 0 w n)).number ≡ 0 → ⊥) → fitting room p (outcome 0 w n) ≡ fitting room p (outcome 0 w' n'))
fit_alike p n n' room w w' e =
    below room (length w)
    (λ h. rw (fitting_not room p (outcome 0 w n) h, fitting_not room p (outcome 0 w' n') (rw e at h)) (refl, λ z. refl))
    (λ h. rw (fitting_so room p (outcome 0 w n) h, fitting_so room p (outcome 0 w' n') (rw e at h)) (refl, λ z. absurd (z refl)))

module _ (p : Peer) (s random other : List ℕ) (room : ℕ) (r : length random ≡ 16) (r' : length other ≡ 16) where
  abbrev Alike : Outcome Peer → Type 0
  Alike o = (o.number ≡ (step_of p s other room).number) × (((p.stage ≡ Begin) × (o.number ≡ 0) → ⊥) → o ≡ step_of p s other room)

  alike : (o : Outcome Peer) → Steps p s other room o → Alike o
  alike o t = let e = (step_exact p s other room).1 o t in (ap (λ (x : Outcome Peer). x.number) e, λ n. e)

  row_alike : (k : Packet) → read_packet end.Peer s ≡ gives k → (Repeats p s → ⊥) → (Misnumbered p k → ⊥) → {o : Outcome Peer} → Row p k (take k.length s) random room o → Alike o
  row_alike k e n m (challenge f g) =
      let q = take k.length s in
      let l : length (response_in p k q random) ≡ length (response_in p k q other) =
      length_response_to k.id.0 k.chapid.0 (challenge_in k q) random (own_name p) p.credentials.hash r ∙ sym (length_response_to k.id.0 k.chapid.0 (challenge_in k q) other (own_name p) p.credentials.hash r') in
      let a = fit_alike p (responding p k q random).state (responding p k q other).state room (response_in p k q random) (response_in p k q other) l in
      let x = (step_exact p s other room).1 _ (taken k e n m (challenge f g)) in
      (a.0 ∙ ap (λ (o : Outcome Peer). o.number) x, λ z. a.1 (λ y. z (f, y)) ∙ x)
  row_alike k e n m (right_string f g d) = alike _ (taken k e n m (right_string f g d))
  row_alike k e n m (other_string f g d) = alike _ (taken k e n m (other_string f g d))
  row_alike k e n m (no_retry f g) = alike _ (taken k e n m (no_retry f g))
  row_alike k e n m (retry f g) = alike _ (taken k e n m (retry f g))
  row_alike k e n m (eap_success f g) = alike _ (taken k e n m (eap_success f g))
  row_alike k e n m (eap_failure f g) = alike _ (taken k e n m (eap_failure f g))

  step_alike : {o : Outcome Peer} → Steps p s random room o → Alike o
  step_alike (unread n e h l) = alike _ (unread n e h l)
  step_alike (repeat t) = alike _ (repeat t)
  step_alike (not_taken k e n t) = alike _ (not_taken k e n t)
  step_alike (wrong_identifier k e n t m) = alike _ (wrong_identifier k e n t m)
  step_alike (taken k e n m t) = row_alike k e n m t

  moved_made : (k : Packet) {o : Outcome Peer} → read_packet end.Peer s ≡ gives k → Moved p k (take k.length s) random room o → step_of p s random room ≡ o → p.stage ≡ Begin → o.number ≡ 0 → Responds p s random room
  moved_made k e (responds f g h) is b z = record { packet = k; reads = e; challenge = g; is = is }
  moved_made k e (accepts f g d h) is b z = clash (ap sent b) (ap sent f)
  moved_made k e (fails f g h) is b z = clash (ap sent b) (ap sent f)
  moved_made k e (waits f g) is b z = absurd (omega arith)
  moved_made k e (succeeds f) is b z = absurd (omega arith)
  moved_made k e ends is b z = absurd (omega arith)

  step_made : {o : Outcome Peer} → Stepped p s random room o → step_of p s random room ≡ o → p.stage ≡ Begin → o.number ≡ 0 → Responds p s random room
  step_made (view.refuses n h l) is b z = absurd (omega arith)
  step_made (view.repeats_it t h) is b z = clash (ap sent b) t.stage
  step_made (view.moves k e m) is b z = moved_made k e m is b z

pub random_only_in_response : RandomOnlyInResponse
random_only_in_response p s random other room r r' =
    let a = step_alike p s random other room r r' (steps p s random room) in
    (a.0, a.1, λ m. step_made p s random other room r r' (stepped p s random room) refl m.0 m.1)

module _ (p : Peer) (name hash random other : List ℕ) (room : ℕ) (r : length random ≡ 16) (r' : length other ≡ 16) where
  abbrev AlikeSupply : Outcome Peer → Type 0
  AlikeSupply o = (o.number ≡ (supply_of p name hash other room).number) × ((o.number ≡ 0 → ⊥) → o ≡ supply_of p name hash other room)

  alike_supply : (o : Outcome Peer) → Supplies p name hash other room o → AlikeSupply o
  alike_supply o t = let e = (supply_exact p name hash other room).1 o t in (ap (λ (x : Outcome Peer). x.number) e, λ n. e)

  supply_alike : {o : Outcome Peer} → Supplies p name hash random room o → AlikeSupply o
  unfolding response_by
  supply_alike (exact.not_waiting n) = alike_supply _ (exact.not_waiting n)
  supply_alike (exact.too_long w h) = alike_supply _ (exact.too_long w h)
  supply_alike (exact.answers w h) =
      let l : length (response_by p name hash random) ≡ length (response_by p name hash other) =
      length_response_to (last_id p) (last_chap_id p) p.challenges.authenticator random name hash r ∙ sym (length_response_to (last_id p) (last_chap_id p) p.challenges.authenticator other name hash r') in
      let a = fit_alike p (supplying p name hash random).state (supplying p name hash other).state room (response_by p name hash random) (response_by p name hash other) l in
      let x = (supply_exact p name hash other room).1 _ (exact.answers w h) in
      (a.0 ∙ ap (λ (o : Outcome Peer). o.number) x, λ z. a.1 z ∙ x)

supply_made : {p : Peer} {name hash random : List ℕ} {room : ℕ} {o : Outcome Peer} → Supplied p name hash random room o → o.number ≡ 0 → o ≡ supplying p name hash random
supply_made (view.refuses n h l) z = absurd (omega arith)
supply_made (view.supplies_it w f h) z = refl

pub random_only_in_supply : RandomOnlyInSupply
random_only_in_supply p name hash random other room r r' =
    let a = supply_alike p name hash random other room r r' (supplies p name hash random room) in
    (a.0, a.1, supply_made (view.supplied p name hash random room))
