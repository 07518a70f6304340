-- The octets of a state stay where the state does.
use Prim.Native.Nat.{ℕ}
use mathlib.Core.Path.{◌≡◌, refl, ap, ◌∙◌}
use mathlib.Core.List.{List, []}
use mathlib.Core.Bool.{Bool, true, false, ◌&&◌}
use lib.Dec.{ltb}
use Rattle.octets.specs.Choice.{pick}
use Rattle.octets.proofs.Exits.{arms}
use Rattle.answer.specs.Outcome.{Outcome, refused}
use Rattle.peer.specs.declared.Peer.{Peer}
use Rattle.peer.specs.Calls.{give_up_of}
use Rattle.peerlaws.specs.Runs.{call_of}
use Rattle.server.specs.State.{initial as initial-server}
use Rattle.server.specs.Runs.{starts, brings, resends}
use Rattle.state.specs.PeerOctets.{peer_of, octets_of_peer}
use Rattle.state.specs.ServerOctets.{server_of, octets_of_server}
use Rattle.state.proofs.Fields.{peer_octets_back, server_octets_back}
use Rattle.calls.specs.Done.{Done, done, unsized, ended, kept, telling}
use Rattle.calls.specs.Ends.{is_peer, is_server, is_sixteen, begun, peer_new_at, peer_step_at, peer_supply_at, peer_give_up_at, server_new_at, server_start_at, server_packet_at, server_resend_at}
use Rattle.calls.specs.Run.{makes, steps, supplies, gives_up, renews, calls}
use Rattle.calls.specs.Promises.{PeerStays, ServerStays, ResendLeaves}

-- d has the state that o leaves, unless it refuses
stays : {S : Type 0} (octetsOf : S → List ℕ) (a b : Bool) (d : Done) (o : Outcome S) (p : S) (s reply : List ℕ) → d.state ≡ pick (ltb o.number 10) (octetsOf o.state) s → octetsOf p ≡ s → (pick b o (refused 23 p)).state ≡ p
    → (pick (a && b) d (unsized s reply)).state ≡ s
unfolding pick
stays octetsOf true true d o p s reply f e h = f ∙ arms (λ (l : List ℕ). l ≡ s) (ltb o.number 10) (ap octetsOf h ∙ e) refl
stays octetsOf true false d o p s reply f e h = refl
stays octetsOf false b d o p s reply f e h = refl

new_stays : (a b : Bool) (o : Outcome Peer) (p : Peer) (s : List ℕ) → octets_of_peer p ≡ s → (pick b o (refused 23 p)).state ≡ p
    → (pick (a && b) (begun o) (unsized s [])).state ≡ s
unfolding pick begun
new_stays true true o p s e h = ap octets_of_peer h ∙ e
new_stays true false o p s e h = refl
new_stays false b o p s e h = refl

-- a call that takes no octets of a fixed size beside the state
alone_stays : (a : Bool) (o : Outcome Peer) (p : Peer) (s : List ℕ) → octets_of_peer p ≡ s → o.state ≡ p
    → (pick a (ended octets_of_peer o s []) (unsized s [])).state ≡ s
unfolding pick ended
alone_stays true o p s e h = arms (λ (l : List ℕ). l ≡ s) (ltb o.number 10) (ap octets_of_peer h ∙ e) refl
alone_stays false o p s e h = refl

pub peer_stays : PeerStays
unfolding peer_new_at peer_step_at peer_supply_at peer_give_up_at call_of ended telling
peer_stays s (makes name hash) z h = new_stays (is_peer s) (is_sixteen hash) _ (peer_of s) s (peer_octets_back s z) h
peer_stays s (steps packet random reply) z h = stays octets_of_peer (is_peer s) (is_sixteen random) _ _ (peer_of s) s reply refl (peer_octets_back s z) h
peer_stays s (supplies name hash random reply) z h = stays octets_of_peer (is_peer s) (is_sixteen hash && is_sixteen random) _ _ (peer_of s) s reply refl (peer_octets_back s z) h
peer_stays s gives_up z h = alone_stays (is_peer s) (give_up_of (peer_of s)) (peer_of s) s (peer_octets_back s z) h

new_server_stays : (a : Bool) (s : List ℕ) → octets_of_server initial-server ≡ s → (pick a (done 0 (octets_of_server initial-server) []) (unsized s [])).state ≡ s
unfolding pick
new_server_stays true s e = e
new_server_stays false s e = refl

pub resend_leaves : ResendLeaves
unfolding server_resend_at kept
resend_leaves s reply = arms (λ (d : Done). d.state ≡ s) (is_server s) refl refl

pub server_stays : ServerStays
unfolding server_new_at server_start_at server_packet_at ended pick
server_stays s renews z h = new_server_stays (is_server s) s (ap octets_of_server h ∙ server_octets_back s z)
server_stays s (calls (starts id challenge name retries reply)) z h = stays octets_of_server (is_server s) (is_sixteen challenge) _ _ (server_of s) s reply refl (server_octets_back s z) h
server_stays s (calls (brings packet table fresh reply)) z h = stays octets_of_server (is_server s) (is_sixteen fresh) _ _ (server_of s) s reply refl (server_octets_back s z) h
server_stays s (calls (resends reply)) z h = resend_leaves s reply
