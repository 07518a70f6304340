-- Every call answers a number of the list, and a refusal changes nothing.
use Prim.Native.Nat.{ℕ, ◌≤◌}
use native.Mathlib.Omega.{arith}
use mathlib.Core.Path.{◌≡◌, refl, sym, ap, subst, ◌∙◌}
use mathlib.Core.List.{List, []}
use mathlib.Core.Bool.{Bool, true, false, ◌&&◌}
use mathlib.Core.Logic.{◌⊎◌, inl, inr, ⊎_elim}
use lib.ListN.{length}
use lib.Dec.{ltb}
use borrow.Author.Tests.{eqb-true, ltb-true, le-ltb}
use Rattle.octets.specs.Choice.{pick}
use Rattle.octets.proofs.Exits.{arms, picked, tested, both, pick_true, pick_false}
use Rattle.answer.specs.Outcome.{outcome}
use Rattle.answer.specs.Promises.{IsRefusal}
use Rattle.answer.specs.Sizes.{max_name}
use Rattle.peer.specs.declared.Peer.{Peer}
use Rattle.peer.specs.declared.Stage.TheVariants.{Begin}
use Rattle.peer.specs.State.{initial}
use Rattle.peer.specs.Calls.{new_of, text_by, step_text}
use Rattle.peerlaws.specs.Runs.{Call, step, supply, give_up, call_of, room_of, IsPeer, IsCall}
use Rattle.peerlaws.specs.Promises.{CanRefuse, Leaves, written, credentials, authenticated, ended, refusal}
use Rattle.peerlaws.proofs.Promises.{answers_leave}
use Rattle.peerlaws.proofs.Sizes.{new_is, call_is}
use Rattle.packet.specs.declared.End.TheVariants as end
use Rattle.packet.specs.declared.Place.{Place}
use Rattle.packet.specs.Forms.{eap_success, eap_failure}
use Rattle.packet.specs.Reader.{nowhere}
use Rattle.packet.specs.Texts.{text_place}
use Rattle.server.specs.declared.Server.{Server}
use Rattle.server.specs.State.{initial as initial-server}
use Rattle.server.specs.Runs as server
use Rattle.server.specs.Runs.{starts, brings, resends, reply_of, server_step}
use Rattle.server.specs.Promises as server-promises
use Rattle.server.proofs.Promises.{answers_leave as server-answers}
use Rattle.state.specs.PeerOctets.{peer_octets, peer_of, octets_of_peer}
use Rattle.state.specs.ServerOctets.{server_of, octets_of_server}
use Rattle.state.proofs.Trips.{is_peer_lem, length_octets_of_peer, is_server_lem, length_octets_of_server}
use Rattle.calls.specs.Done as at
use Rattle.calls.specs.Done.{word_of, text_bits, word_telling, done, unsized, telling}
use Rattle.calls.specs.Ends.{is_peer, is_server, is_sixteen, begun, peer_new_at, peer_step_at, peer_supply_at, peer_give_up_at, server_new_at}
use Rattle.calls.specs.Run.{makes, steps, supplies, gives_up, renews, calls, are_sixteen}
use Rattle.calls.specs.Promises as promises
use Rattle.calls.specs.Promises.{WordBack, AnswersAt, MakesFailed, PeerAnswersAt, ServerAnswersAt}
use Rattle.calls.proofs.Laws.{number_back, n_back, start_back, len_back, word_small, word_none, telling_quiet}
use Rattle.calls.proofs.ServerRuns.{proper, is_initial, changes, told_in, told_at}

pub word_back : WordBack
word_back = record { number = number_back; n = n_back; start = start_back; len = len_back; small = word_small; none = word_none }

-- ---- a slice of the wrong size
unsized_at : (s b : List ℕ) (text : Place) → AnswersAt s b text (unsized s b)
unfolding word_of
unsized_at s b text = promises.refuses 23 (omega arith, omega arith)

-- a call that tells no text
quiet : (k n : ℕ) {s b s' b' : List ℕ} → AnswersAt s b nowhere (done (word_telling k n nowhere) s' b') → AnswersAt s b nowhere (done (word_of k n) s' b')
quiet k n {s} {b} {s'} {b'} a = subst (λ (w : ℕ). AnswersAt s b nowhere (done w s' b')) (word_none k n) a

-- ---- the peer
refusal_listed : (c : Call) (k : ℕ) → CanRefuse c k → IsRefusal k
refusal_listed (step s random room) k r = (r.0, omega (arith, r.1))
refusal_listed (supply name hash random room) k r =
    ⊎_elim (λ e. (omega arith, omega arith)) (λ f. ⊎_elim (λ e. (omega arith, omega arith)) (λ e. (omega arith, omega arith)) f) r
refusal_listed give_up k r = (omega arith, omega arith)

leaves_at : {p s' : Peer} {c : Call} {b b' : List ℕ} {k n : ℕ} (text : Place) (s : List ℕ) → Leaves p c b k n s' b' → length (octets_of_peer s') ≡ length s
    → AnswersAt s b text (done (word_telling k n (text_by k text)) (pick (ltb k 10) (octets_of_peer s') s) b')
unfolding pick text_by
leaves_at text s (written q s' f g) l = promises.answers 0 q (octets_of_peer s') (omega arith) f l
leaves_at text s (credentials s' g) l = promises.answers 1 [] (octets_of_peer s') (omega arith) (omega arith) l
leaves_at text s (authenticated s' g) l = promises.answers 2 [] (octets_of_peer s') (omega arith) (omega arith) l
leaves_at text s (ended s' g) l = promises.answers 3 [] (octets_of_peer s') (omega arith) (omega arith) l
leaves_at {p} {c = c} {b} text s (refusal k r) l =
    let i = refusal_listed c k r in
    let f = le-ltb k 10 i.0 in
    rw (pick_false (ltb k 10) (octets_of_peer p) s f, pick_false (ltb k 10) text nowhere f, word_none k 0) (promises.refuses k i)

call_at : (text : Place) (c : Call) (s b : List ℕ) → length b ≡ room_of c → length s ≡ peer_octets → IsCall c → AnswersAt s b text (telling (text_by (call_of (peer_of s) c).number text) (at.ended octets_of_peer (call_of (peer_of s) c) s b))
unfolding at.ended telling
call_at text c s b h l r =
    leaves_at text s (answers_leave (peer_of s) c _ _ _ b _ h (record { answered = refl; count = refl; left = refl; written = refl }))
    (length_octets_of_peer _ (call_is (peer_of s) c r (is_peer_lem s)) ∙ sym l)

quiet_at : (c : Call) (s b : List ℕ) → length b ≡ room_of c → length s ≡ peer_octets → IsCall c → AnswersAt s b nowhere (at.ended octets_of_peer (call_of (peer_of s) c) s b)
quiet_at c s b h l r = subst (AnswersAt s b nowhere) (telling_quiet _ _) (call_at nowhere c s b h l r)

-- a peer that is made
made_at : (s name hash : List ℕ) → (is_peer s && is_sixteen hash) ≡ true → ltb max_name (length name) ≡ false → AnswersAt s [] nowhere (begun (new_of name hash))
unfolding new_of begun
made_at s name hash e f =
    let g = both (is_peer s) (is_sixteen hash) e in
    let n : new_of name hash ≡ outcome 0 [] (initial Begin name hash) = pick_false _ _ _ f in
    let z : IsPeer (initial Begin name hash) = rw n at (new_is name hash (eqb-true _ _ g.1)) in
    rw n (quiet 0 0 (promises.answers 0 [] (octets_of_peer (initial Begin name hash)) (omega arith) (omega arith) (length_octets_of_peer _ z ∙ sym (eqb-true _ _ g.0))))

new_at : (s name hash : List ℕ) → AnswersAt s [] nowhere (peer_new_at s name hash) ⊎ MakesFailed s (makes name hash)
unfolding new_of begun peer_new_at
new_at s name hash =
    tested (is_peer s && is_sixteen hash)
    (λ e.
    tested (ltb max_name (length name)) (λ f. inr (e, ltb-true _ _ f, pick_true _ _ _ e ∙ ap begun (pick_true _ _ _ f)))
    (λ f. inl (rw (pick_true (is_peer s && is_sixteen hash) (begun (new_of name hash)) (unsized s []) e) (made_at s name hash e f))))
    (λ e. inl (rw (pick_false (is_peer s && is_sixteen hash) (begun (new_of name hash)) (unsized s []) e) (unsized_at s [] nowhere)))

pub peer_answers_at : PeerAnswersAt
unfolding peer_step_at peer_supply_at peer_give_up_at step_text call_of
peer_answers_at s (makes name hash) = new_at s name hash
peer_answers_at s (steps packet random reply) =
    let text = text_place end.Peer packet in
    inl (picked (AnswersAt s reply text) _ (λ e. let f = both (is_peer s) (is_sixteen random) e in call_at text (step packet random (length reply)) s reply refl (eqb-true _ _ f.0) (eqb-true _ _ f.1)) (λ e. unsized_at s reply text))
peer_answers_at s (supplies name hash random reply) =
    inl (picked (AnswersAt s reply nowhere) _
    (λ e.
    let f = both (is_peer s) (is_sixteen hash && is_sixteen random) e in
    let g = both (is_sixteen hash) (is_sixteen random) f.1 in
    quiet_at (supply name hash random (length reply)) s reply refl (eqb-true _ _ f.0) (eqb-true _ _ g.0, eqb-true _ _ g.1))
    (λ e. unsized_at s reply nowhere))
peer_answers_at s gives_up = inl (picked (AnswersAt s [] nowhere) _ (λ e. quiet_at give_up s [] refl (eqb-true _ _ e) tt) (λ e. unsized_at s [] nowhere))

-- ---- the server
can_refuse_listed : (c : server.Call (List ℕ)) (k : ℕ) → server-promises.CanRefuse c k → IsRefusal k
can_refuse_listed (starts id challenge name retries reply) k r =
    ⊎_elim (λ e. (omega arith, omega arith)) (λ f. ⊎_elim (λ e. (omega arith, omega arith)) (λ e. (omega arith, omega arith)) f) r
can_refuse_listed (brings packet table fresh reply) k r = (r.0, omega (arith, r.1))
can_refuse_listed (resends reply) k r = ⊎_elim (λ e. (omega arith, omega arith)) (λ e. (omega arith, omega arith)) r

-- the octets of the state after it, where the call writes them or not
left_long : (w : Bool) (s' : Server) (s : List ℕ) → length (octets_of_server s') ≡ length s → length (pick w (octets_of_server s') s) ≡ length s
left_long w s' s l = arms (λ (x : List ℕ). length x ≡ length s) w l refl

refused_still : (w : Bool) (k : ℕ) → 10 ≤ k → (w && ltb k 10) ≡ false
refused_still true k h = le-ltb k 10 h
refused_still false k h = refl

server_leaves_at : {p s' : Server} {c : server.Call (List ℕ)} {b' : List ℕ} {k n : ℕ} (w : Bool) (s : List ℕ) → server-promises.Leaves p c k n s' b' → length (octets_of_server s') ≡ length s
    → AnswersAt s (reply_of c) nowhere (done (word_of k n) (pick (w && ltb k 10) (octets_of_server s') s) b')
server_leaves_at w s (server-promises.written q s' f g) l = quiet 0 (length q) (promises.answers 0 q _ (omega arith) f (left_long (w && ltb 0 10) s' s l))
server_leaves_at w s (server-promises.authenticated id s' f g) l = quiet 2 4 (promises.answers 2 (eap_success id) _ (omega arith) f (left_long (w && ltb 2 10) s' s l))
server_leaves_at w s (server-promises.ended id s' f g) l = quiet 3 4 (promises.answers 3 (eap_failure id) _ (omega arith) f (left_long (w && ltb 3 10) s' s l))
server_leaves_at {p} {c = c} w s (server-promises.refusal k r) l =
    let i = can_refuse_listed c k r in
    rw (pick_false (w && ltb k 10) (octets_of_server p) s (refused_still w k i.0)) (promises.refuses k i)

server_call_at_lem : (c : server.Call (List ℕ)) (s : List ℕ) → (is_server s && are_sixteen c) ≡ true → AnswersAt s (reply_of c) nowhere (told_in (changes c) s (server_step (server_of s) c))
unfolding server_step
server_call_at_lem c s e =
    let f = both (is_server s) (are_sixteen c) e in
    server_leaves_at (changes c) s (server-answers (server_of s) c _ _ _ _ (record { answered = refl; count = refl; left = refl; written = refl }))
    (length_octets_of_server _ (proper (server_of s) c f.1 (is_server_lem s)).is ∙ sym (eqb-true _ _ f.0))

server_new_at_lem : (s : List ℕ) → AnswersAt s [] nowhere (server_new_at s)
unfolding server_new_at word_of text_bits
server_new_at_lem s =
    picked (AnswersAt s [] nowhere) (is_server s)
    (λ e. promises.answers 0 [] (octets_of_server initial-server) (omega arith) (omega arith) (length_octets_of_server initial-server is_initial ∙ sym (eqb-true _ _ e)))
    (λ e. unsized_at s [] nowhere)

pub server_answers_at : ServerAnswersAt
server_answers_at s renews = server_new_at_lem s
server_answers_at s (calls c) = rw (told_at c s) (picked (AnswersAt s (reply_of c) nowhere) _ (λ e. server_call_at_lem c s e) (λ e. unsized_at s (reply_of c) nowhere))
