-- The calls of both ends at the boundary: the sizes first, then the end's call on the state that the octets stand for.
use Rattle.std.specs.Prelude.{ℕ, List, [], Bool, ◌&&◌, length, eqb}
use Rattle.octets.specs.Choice.{pick}
use Rattle.answer.specs.Outcome.{Outcome}
use Rattle.peer.specs.declared.Peer.{Peer}
use Rattle.peer.specs.Calls.{new_of, step_of, step_text, supply_of, give_up_of}
use Rattle.server.specs.State.{initial}
use Rattle.server.specs.Calls.{start_of, packet_of, resend_of}
use Rattle.state.specs.PeerOctets.{peer_octets, peer_of, octets_of_peer}
use Rattle.state.specs.ServerOctets.{server_octets, server_of, octets_of_server}
use Rattle.calls.specs.Done.{word_of, Done, done, unsized, ended, kept, telling}

abbrev pub is_peer : List ℕ → Bool
is_peer state = eqb (length state) peer_octets

abbrev pub is_server : List ℕ → Bool
is_server state = eqb (length state) server_octets

-- sixteen octets: hashes, challenges, random octets
abbrev pub is_sixteen : List ℕ → Bool
is_sixteen s = eqb (length s) 16

-- ---- the peer
-- a peer that was made: it is written beside 23 too
unfoldable pub begun : Outcome Peer → Done
begun o = done (word_of o.number (length o.octets)) (octets_of_peer o.state) []

unfoldable pub peer_new_at : List ℕ → List ℕ → List ℕ → Done
peer_new_at state name hash =
    pick (is_peer state && is_sixteen hash)
    (begun (new_of name hash))
    (unsized state [])

unfoldable pub peer_step_at : List ℕ → List ℕ → List ℕ → List ℕ → Done
peer_step_at state packet random reply =
    pick (is_peer state && is_sixteen random)
    (telling (step_text (peer_of state) packet random (length reply)) (ended octets_of_peer (step_of (peer_of state) packet random (length reply)) state reply))
    (unsized state reply)

unfoldable pub peer_supply_at : List ℕ → List ℕ → List ℕ → List ℕ → List ℕ → Done
peer_supply_at state name hash random reply =
    pick (is_peer state && (is_sixteen hash && is_sixteen random))
    (ended octets_of_peer (supply_of (peer_of state) name hash random (length reply)) state reply)
    (unsized state reply)

unfoldable pub peer_give_up_at : List ℕ → Done
peer_give_up_at state =
    pick (is_peer state)
    (ended octets_of_peer (give_up_of (peer_of state)) state [])
    (unsized state [])

-- ---- the server
unfoldable pub server_new_at : List ℕ → Done
server_new_at state = pick (is_server state) (done 0 (octets_of_server initial) []) (unsized state [])

unfoldable pub server_start_at : List ℕ → ℕ → List ℕ → List ℕ → ℕ → List ℕ → Done
server_start_at state identifier challenge name retries reply =
    pick (is_server state && is_sixteen challenge)
    (ended octets_of_server (start_of (server_of state) (record { 0 = identifier }) challenge name retries (length reply)) state reply)
    (unsized state reply)

unfoldable pub server_packet_at : List ℕ → List ℕ → List ℕ → List ℕ → List ℕ → Done
server_packet_at state packet table fresh reply =
    pick (is_server state && is_sixteen fresh)
    (ended octets_of_server (packet_of (server_of state) packet table fresh (length reply)) state reply)
    (unsized state reply)

-- "state unchanged": its octets stay, whatever they are
unfoldable pub server_resend_at : List ℕ → List ℕ → Done
server_resend_at state reply =
    pick (is_server state)
    (kept (resend_of (server_of state) (length reply)) state reply)
    (unsized state reply)
