-- Runs of the peer at the boundary.
use Prim.Native.Nat.{ℕ}
use mathlib.Core.Path.{◌≡◌, refl, sym, ap, ◌∙◌}
use mathlib.Core.List.{List, [], ◌∷◌}
use mathlib.Core.Bool.{◌&&◌}
use lib.ListN.{length}
use lib.Dec.{ltb}
use borrow.Author.Tests.{eqb-true, eq-eqb}
use Rattle.octets.specs.Choice.{pick}
use Rattle.octets.specs.Lists.{over}
use Rattle.octets.proofs.Exits.{pick_true, arms, picked, both}
use Rattle.answer.specs.Outcome.{Outcome, refused}
use Rattle.answer.specs.Runs.{run}
use Rattle.peer.specs.declared.Peer.{Peer}
use Rattle.packet.specs.declared.End.TheVariants as end
use Rattle.packet.specs.declared.Place.{Place}
use Rattle.packet.specs.Reader.{nowhere}
use Rattle.packet.specs.Texts.{text_place}
use Rattle.peer.specs.Calls.{new_of, text_by, step_text}
use Rattle.peerlaws.specs.Runs.{Call, step, supply, give_up, call_of, IsPeer, IsCall}
use Rattle.peerlaws.specs.Expected.{computing}
use Rattle.peerlaws.proofs.Sizes.{new_is, call_is}
use Rattle.peerlaws.proofs.Repeats.{refused_same}
use Rattle.peerlaws.proofs.Consistent.{Invariant, made, call_holds}
use Rattle.peerlaws.proofs.Expected.{call_alike}
use Rattle.state.specs.PeerOctets.{peer_octets, peer_of, octets_of_peer}
use Rattle.state.proofs.Trips.{peer_back, is_peer_lem, length_octets_of_peer}
use Rattle.calls.specs.Done.{ended, telling}
use Rattle.calls.specs.Ends.{is_peer, is_sixteen, begun, peer_new_at, peer_step_at, peer_supply_at, peer_give_up_at}
use Rattle.calls.specs.Run.{Shown, shown, PeerCall, makes, steps, supplies, gives_up, peer_reply, peer_text, peer_call_at, peer_call_by, peer_call, PeerCarried, AnswersStayAt}
use Rattle.calls.proofs.Carry.{Shows, carry, Proper, telling_shows, ended_shows, sized_shows}
use Rattle.calls.proofs.Laws.{word_quiet}

-- ---- a call on the state: it leaves a value of the struct, and a refused one the state that it took
peer_proper : (c : Call) (s : List ℕ) → IsCall c → Proper IsPeer (peer_of s) (call_of (peer_of s) c)
peer_proper c s r = record { is = call_is (peer_of s) c r (is_peer_lem s); still = refused_same (peer_of s) c }

peer_told : (text : Place) (c : Call) (s reply : List ℕ) → length s ≡ peer_octets → IsCall c → Shows peer_of peer_octets (telling (text_by (call_of (peer_of s) c).number text) (ended octets_of_peer (call_of (peer_of s) c) s reply)) text (call_of (peer_of s) c) reply
peer_told text c s reply h r = telling_shows octets_of_peer peer_of IsPeer peer_octets peer_back length_octets_of_peer text (call_of (peer_of s) c) s reply h (peer_proper c s r)

peer_ended : (c : Call) (s reply : List ℕ) → length s ≡ peer_octets → IsCall c → Shows peer_of peer_octets (ended octets_of_peer (call_of (peer_of s) c) s reply) nowhere (call_of (peer_of s) c) reply
peer_ended c s reply h r = ended_shows octets_of_peer peer_of IsPeer peer_octets peer_back length_octets_of_peer (call_of (peer_of s) c) s reply h (peer_proper c s r)

-- ---- a peer that is made
new_quiet : (name hash : List ℕ) → (new_of name hash).octets ≡ []
unfolding new_of
new_quiet name hash = arms (λ (o : Outcome Peer). o.octets ≡ []) (ltb 256 (length name)) refl refl

new_shows : (name hash : List ℕ) → length hash ≡ 16 → Shows peer_of peer_octets (begun (new_of name hash)) nowhere (new_of name hash) []
unfolding begun
new_shows name hash h =
    let o = new_of name hash in
    let z = new_is name hash h in
    let q : [] ≡ over o.octets [] = sym (ap (λ (w : List ℕ). over w []) (new_quiet name hash)) in
    record {
      same = (λ i. record { word = sym (word_quiet o.number (length o.octets)) i; reply = q i; state = peer_back o.state z i });
      long = length_octets_of_peer o.state z;
    }

peer_shows : (c : PeerCall) (s : List ℕ) → length s ≡ peer_octets → Shows peer_of peer_octets (peer_call_at s c) (peer_text c) (peer_call (peer_of s) c) (peer_reply c)
unfolding peer_new_at peer_step_at peer_supply_at peer_give_up_at step_text call_of
peer_shows (makes name hash) s h =
    sized_shows peer_of peer_octets (is_peer s) (is_sixteen hash) _ s [] nowhere _ (eq-eqb _ _ h) h (λ e. new_shows name hash (eqb-true _ _ e))
peer_shows (steps packet random reply) s h =
    sized_shows peer_of peer_octets (is_peer s) (is_sixteen random) _ s reply (text_place end.Peer packet) _ (eq-eqb _ _ h) h (λ e. peer_told (text_place end.Peer packet) (step packet random (length reply)) s reply h (eqb-true _ _ e))
peer_shows (supplies name hash random reply) s h =
    sized_shows peer_of peer_octets (is_peer s) (is_sixteen hash && is_sixteen random) _ s reply nowhere _ (eq-eqb _ _ h) h
    (λ e.
    let f = both (is_sixteen hash) (is_sixteen random) e in
    peer_ended (supply name hash random (length reply)) s reply h (eqb-true _ _ f.0, eqb-true _ _ f.1))
peer_shows gives_up s h = rw (pick_true (is_peer s) _ _ (eq-eqb _ _ h)) (peer_ended give_up s [] h tt)

pub peer_carried : PeerCarried
peer_carried = carry peer_of peer_octets peer_call_at peer_call peer_text peer_reply peer_shows

-- ---- 02 [6]: the peer that computes the string when a Success Request comes
computing_same : (p : Peer) (c : PeerCall) → Invariant p → peer_call p c ≡ peer_call_by computing p c
computing_same p (makes name hash) h = refl
computing_same p (steps packet random reply) h = ap (λ (o : Outcome Peer). pick (is_sixteen random) o (refused 23 p)) (call_alike p (step packet random (length reply)) h)
computing_same p (supplies name hash random reply) h =
    ap (λ (o : Outcome Peer). pick (is_sixteen hash && is_sixteen random) o (refused 23 p)) (call_alike p (supply name hash random (length reply)) h)
computing_same p gives_up h = call_alike p give_up h

stays_so : (p : Peer) (c : PeerCall) → Invariant p → Invariant (peer_call p c).state
stays_so p (makes name hash) h = picked (λ (o : Outcome Peer). Invariant o.state) (is_sixteen hash) (λ e. made name hash (eqb-true _ _ e)) (λ e. h)
stays_so p (steps packet random reply) h =
    picked (λ (o : Outcome Peer). Invariant o.state) (is_sixteen random) (λ e. call_holds p (step packet random (length reply)) (eqb-true _ _ e) h) (λ e. h)
stays_so p (supplies name hash random reply) h =
    picked (λ (o : Outcome Peer). Invariant o.state) (is_sixteen hash && is_sixteen random)
    (λ e.
    let f = both (is_sixteen hash) (is_sixteen random) e in
    call_holds p (supply name hash random (length reply)) (eqb-true _ _ f.0, eqb-true _ _ f.1) h)
    (λ e. h)
stays_so p gives_up h = call_holds p give_up tt h

abbrev shown_run : (Peer → Call → Outcome Peer) → Peer → List PeerCall → List (Shown Peer)
shown_run call p cs = run (λ (v : Shown Peer). v.state) (λ (p : Peer) (c : PeerCall). shown (peer_text c) (peer_call_by call p c) (peer_reply c)) p cs

runs_same : (p : Peer) (cs : List PeerCall) → Invariant p → shown_run call_of p cs ≡ shown_run computing p cs
unfolding run
runs_same p [] h = refl
runs_same p (c ∷ cs) h =
    ap (λ (vs : List (Shown Peer)). shown (peer_text c) (peer_call p c) (peer_reply c) ∷ vs) (runs_same (peer_call p c).state cs (stays_so p c h))
    ∙ ap (λ (o : Outcome Peer). shown (peer_text c) o (peer_reply c) ∷ shown_run computing o.state cs) (computing_same p c h)

pub answers_stay_at : AnswersStayAt
unfolding run
answers_stay_at name hash cs s h e =
    let t : peer_call (peer_of s) (makes name hash) ≡ new_of name hash = pick_true _ _ _ (eq-eqb _ _ e) in
    peer_carried (makes name hash ∷ cs) s h
    ∙ ap (λ (vs : List (Shown Peer)). shown nowhere (peer_call (peer_of s) (makes name hash)) [] ∷ vs) (runs_same (peer_call (peer_of s) (makes name hash)).state cs (rw t (made name hash e)))
