-- Over any calls on from a made peer: what the state keeps.
use Prim.Native.Nat.{ℕ}
use mathlib.Core.Path.{◌≡◌, refl, sym, ap, subst, ◌∙◌}
use mathlib.Core.List.{List, [], ◌∷◌}
use mathlib.Core.Bool.{true, ◌||◌}
use native.Mathlib.Omega.{arith}
use lib.ListN.{length, get_or, take}
use lib.Dec.{ltb}
use Rattle.octets.specs.Lists.{sized}
use Rattle.octets.specs.Octets.{number_at}
use Rattle.octets.specs.declared.Order.TheVariants.{Big}
use Rattle.octets.proofs.Exits.{arms, clash}
use Rattle.octets.proofs.Lists.{take_sized}
use Rattle.answer.specs.Outcome.{gives, Outcome, outcome, fitting}
use Rattle.answer.specs.Runs as runs
use Rattle.answer.specs.Sizes.{max_packet, max_name}
use Rattle.packet.specs.declared.End.TheVariants as end
use Rattle.packet.specs.declared.Packet.{Packet}
use Rattle.packet.specs.Kinds.{is_request}
use Rattle.packet.specs.Reader.{read_packet, challenge_in}
use Rattle.packet.specs.Forms.{header, chap_packet, response_packet, success_response, failure_response}
use Rattle.peer.specs.declared.Stage.{Stage}
use Rattle.peer.specs.declared.Stage.TheVariants.{Begin, ChallengeResponseSent, SuccessResponseSent, FailureResponseSent, Waiting, Success, Failed}
use Rattle.peer.specs.declared.Peer.{Peer}
use Rattle.peer.specs.State.{own_name, last_request, last_reply, last_id, last_chap_id, response_to, string_to, string_in, outstanding, computed_string, initial, staged, answered, responded, awaiting, supplied as supplied_state}
use Rattle.peer.specs.Moves.{sent, waiting}
use Rattle.peer.specs.Calls.{new_of, response_in, step_of, response_by}
use Rattle.peer.proofs.Replies.{string_made}
use Rattle.peerlaws.specs.Exact.{Repeats}
use Rattle.peerlaws.specs.Runs.{Call, step, supply, give_up, call_of, after, IsPeer, IsCall, AreCalls, Reached}
use Rattle.peerlaws.specs.Promises.{Request, RepeatRuleReached, StateConsistent}
use Rattle.peerlaws.proofs.Forward.{id_here, chap_here, cut_most}
use Rattle.peerlaws.proofs.Views.{Moved, responds, accepts, fails, waits, succeeds, ends, Stepped, stepped, Supplied, supplied, GaveUp, gave_up}
use Rattle.peerlaws.proofs.Views as view
use Rattle.peerlaws.proofs.Sizes.{new_is, call_is}
use Rattle.peerlaws.proofs.Repeats.{whole_request, Answering, moved_stores, supply_stores, repeat_again, repeat_rule}

-- what each stage keeps; a Response's MS-CHAPv2-ID is octet 6 of its request, and the expected string the one that its fields give
abbrev pub Keeps : Stage → Peer → Type 0
Keeps Begin p = Unit {0}
Keeps ChallengeResponseSent p = (last_reply p ≡ outstanding p) × Request (last_request p) × (p.challenges.chapid.0 ≡ get_or (last_request p) 6 0) × (p.challenges.expected ≡ computed_string p)
Keeps SuccessResponseSent p = (last_reply p ≡ success_response (last_id p)) × Request (last_request p)
Keeps FailureResponseSent p = (last_reply p ≡ failure_response (last_id p)) × Request (last_request p)
Keeps Waiting p = Request (last_request p)
Keeps Success p = Unit {0}
Keeps Failed p = Unit {0}

pub record Invariant (p : Peer) : Type 0 where
  pub is : IsPeer p
  pub keeps : Keeps p.stage p

-- ---- a made peer
pub made : (name hash : List ℕ) → length hash ≡ 16 → Invariant (new_of name hash).state
unfolding new_of initial
made name hash h = record { is = new_is name hash h; keeps = arms (λ (o : Outcome Peer). Keeps o.state.stage o.state) (ltb max_name (length name)) tt tt }

-- ---- what is kept
answering_id : (n : Peer) (q w : List ℕ) (i : ℕ) → Answering n q w → get_or q 1 0 ≡ i → last_id n ≡ i
unfolding last_id
answering_id n q w i a e = ap (λ (l : List ℕ). get_or l 1 0) a.request ∙ e

answering_request : (n : Peer) (q w : List ℕ) → Answering n q w → Request (last_request n)
answering_request n q w a = rw a.request a.is

-- ---- a step
module _ (p : Peer) (s random : List ℕ) (room : ℕ) (r : length random ≡ 16) (h : Invariant p) where
  moved_stays : {o : Outcome Peer} (k : Packet) → read_packet end.Peer s ≡ gives k → Moved p k (take k.length s) random room o → Keeps o.state.stage o.state
  unfolding responded outstanding computed_string own_name answered awaiting staged last_request
  moved_stays k e m = go m (moved_stores p s random room h.is r k e m)
    where
      q : List ℕ
      q = take k.length s

      go : {o : Outcome Peer} → Moved p k q random room o → (o.number ≡ 0 → Answering o.state q o.octets) → Keeps o.state.stage o.state
      go (responds f g l) a =
          let n = responded (challenge_in k q) random k.chapid q (response_in p k q random) p in
          let i = answering_id n q _ k.id.0 (a refl) (id_here s k e) in
          ((a refl).reply ∙ ap (λ (x : ℕ). response_to x k.chapid.0 (challenge_in k q) random (own_name p) p.credentials.hash) (sym i), answering_request n q _ (a refl), sym (chap_here s k e (ap is_request g)) ∙ ap (λ (l : List ℕ). get_or l 6 0) (sym (a refl).request), refl)
      go (accepts f g d l) a =
          let n = answered SuccessResponseSent q (success_response k.id.0) p in
          ((a refl).reply ∙ ap success_response (sym (answering_id n q _ k.id.0 (a refl) (id_here s k e))), answering_request n q _ (a refl))
      go (fails f g l) a =
          let n = answered FailureResponseSent q (failure_response k.id.0) p in
          ((a refl).reply ∙ ap failure_response (sym (answering_id n q _ k.id.0 (a refl) (id_here s k e))), answering_request n q _ (a refl))
      go (waits f g) a =
          let t : take (length q) (sized max_packet q) ≡ q = take_sized max_packet q (cut_most s k e) in
          rw t (whole_request s k e (ap is_request g))
      go (succeeds f) a = tt
      go ends a = tt

  step_stays : {o : Outcome Peer} → Stepped p s random room o → Keeps o.state.stage o.state
  step_stays (view.refuses n a b) = h.keeps
  step_stays (view.repeats_it t f) = h.keeps
  step_stays (view.moves k e m) = moved_stays k e m

-- ---- the other calls, and any list of them
supply_stays : (p : Peer) (name hash random : List ℕ) (room : ℕ) → length random ≡ 16 → Invariant p → {o : Outcome Peer} → Supplied p name hash random room o → Keeps o.state.stage o.state
unfolding supplied_state response_by outstanding computed_string own_name last_id last_chap_id last_request
supply_stays p name hash random room r h (view.refuses n a b) = h.keeps
supply_stays p name hash random room r h (view.supplies_it w f l) =
    let t : Keeps Waiting p = rw w at h.keeps in
    let a = supply_stores p name hash random room r (view.supplies_it w f l) refl t in
    let n = sym (take_sized max_name name f) in (
      a.reply ∙ ap (λ (x : List ℕ). response_to (last_id p) (last_chap_id p) p.challenges.authenticator random x hash) n,
      t,
      refl,
      ap (λ (x : List ℕ). string_to p.challenges.authenticator random x hash) n,
    )

give_up_stays : (p : Peer) → Invariant p → {o : Outcome Peer} → GaveUp p o → Keeps o.state.stage o.state
unfolding staged
give_up_stays p h (view.refuses n a b) = h.keeps
give_up_stays p h (view.ends w) = tt

call_stays : (p : Peer) (c : Call) → IsCall c → Invariant p → Keeps (call_of p c).state.stage (call_of p c).state
unfolding call_of
call_stays p (step s random room) r h = step_stays p s random room r h (stepped p s random room)
call_stays p (supply name hash random room) r h = supply_stays p name hash random room r.1 h (supplied p name hash random room)
call_stays p give_up r h = give_up_stays p h (gave_up p)

pub call_holds : (p : Peer) (c : Call) → IsCall c → Invariant p → Invariant (call_of p c).state
call_holds p c r h = record { is = call_is p c r h.is; keeps = call_stays p c r h }

pub after_holds : (p : Peer) (cs : List Call) → AreCalls cs → Invariant p → Invariant (after p cs)
unfolding runs.after
after_holds p [] a h = h
after_holds p (c ∷ cs) a h = after_holds (call_of p c).state cs a.1 (call_holds p c a.0 h)

pub reached : (p : Peer) → Reached p → Invariant p
reached p r = rw r.is (after_holds (new_of r.name r.hash).state r.calls r.are (made r.name r.hash r.sixteen))

-- ---- 7
chap_size : (code op id chapid : ℕ) (body : List ℕ) → length (chap_packet code op id chapid body) ≡ number_at Big (chap_packet code op id chapid body) 2
unfolding chap_packet header number_at
chap_size code op id chapid body = omega arith

pub kept_size : (stage : Stage) (p : Peer) → sent stage ≡ true → Keeps stage p → length (last_reply p) ≡ number_at Big (last_reply p) 2
unfolding outstanding response_to response_packet number_at
kept_size Begin p f k = clash refl f
kept_size ChallengeResponseSent p f k = rw k.0 (chap_size 2 2 _ _ _)
kept_size SuccessResponseSent p f k = rw k.0
kept_size FailureResponseSent p f k = rw k.0
kept_size Waiting p f k = clash refl f
kept_size Success p f k = clash refl f
kept_size Failed p f k = clash refl f

kept_request : (stage : Stage) (p : Peer) → (sent stage || waiting stage) ≡ true → Keeps stage p → Request (last_request p)
kept_request Begin p f k = clash refl f
kept_request ChallengeResponseSent p f k = k.1
kept_request SuccessResponseSent p f k = k.1
kept_request FailureResponseSent p f k = k.1
kept_request Waiting p f k = k
kept_request Success p f k = clash refl f
kept_request Failed p f k = clash refl f

kept_response : (p : Peer) → Invariant p → p.stage ≡ ChallengeResponseSent → Keeps ChallengeResponseSent p
kept_response p h f = subst (λ (x : Stage). Keeps x p) f h.keeps

-- "they equal the value defined in 01 while a Response is outstanding"
pub kept_string : (p : Peer) → Invariant p → p.stage ≡ ChallengeResponseSent → p.challenges.expected ≡ computed_string p
kept_string p h f = (kept_response p h f).3

or_waits : (stage : Stage) → waiting stage ≡ true → (sent stage || waiting stage) ≡ true
or_waits Begin e = e
or_waits ChallengeResponseSent e = refl
or_waits SuccessResponseSent e = refl
or_waits FailureResponseSent e = refl
or_waits Waiting e = refl
or_waits Success e = e
or_waits Failed e = e

pub waits_request : (p : Peer) → Invariant p → waiting p.stage ≡ true → Request (last_request p)
waits_request p h w = kept_request p.stage p (or_waits p.stage w) h.keeps

-- the stored reply went out
again_sends : (p : Peer) (room : ℕ) → (fitting room p (outcome 0 (last_reply p) p)).number ≡ 0 → (fitting room p (outcome 0 (last_reply p) p)).octets ≡ last_reply p
unfolding fitting
again_sends p room = arms (λ (o : Outcome Peer). o.number ≡ 0 → o.octets ≡ last_reply p) (ltb room (length (last_reply p))) (λ z. absurd (omega arith)) (λ z. refl)

-- the same by the octets of the outstanding Response
kept_by_octets : (p : Peer) → Invariant p → p.stage ≡ ChallengeResponseSent → p.challenges.expected ≡ string_in p.credentials.hash p.challenges.authenticator (last_reply p)
unfolding computed_string outstanding
kept_by_octets p h f =
    kept_string p h f
    ∙ sym (string_made (last_id p) p.challenges.chapid.0 p.challenges.authenticator p.challenges.own (own_name p) p.credentials.hash h.is.challenges.own)
    ∙ ap (string_in p.credentials.hash p.challenges.authenticator) (sym (kept_response p h f).0)

again_size : (p : Peer) (s random : List ℕ) (room : ℕ) → Repeats p s → (step_of p s random room).number ≡ 0 → (step_of p s random room).octets ≡ last_reply p
again_size p s random room t z = let e = repeat_again p s random room t in ap (λ (o : Outcome Peer). o.octets) e ∙ again_sends p room (sym (ap (λ (o : Outcome Peer). o.number) e) ∙ z)

pub state_consistent : StateConsistent
state_consistent p r =
    let h = reached p r in
    record {
      response = λ f. (kept_response p h f).0;
      string = kept_by_octets p h;
      size = λ s random room t z. ap length (again_size p s random room t z) ∙ kept_size p.stage p t.stage h.keeps;
      request = λ f. kept_request p.stage p f h.keeps;
    }

-- ---- 3, of a state that calls make
pub repeat_rule_reached : RepeatRuleReached
repeat_rule_reached p r = let h = reached p r in repeat_rule p h.is (waits_request p h)
