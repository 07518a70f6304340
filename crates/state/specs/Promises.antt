-- What holds of both ends' states as octets.
use Rattle.std.specs.Prelude.{ℕ, ◌≤◌, ◌≡◌, List, length, get_or}
use Rattle.octets.specs.Octets.{AreOctets}
use Rattle.peer.specs.declared.Peer.{Peer}
use Rattle.peerlaws.specs.Runs.{IsPeer}
use Rattle.server.specs.declared.Server.{Server}
use Rattle.server.specs.State.{IsServer}
use Rattle.state.specs.PeerOctets.{peer_octets, peer_of, octets_of_peer}
use Rattle.state.specs.ServerOctets.{server_octets, server_of, octets_of_server}

-- ---- any octets stand for a value of the struct
abbrev pub AnyOctetsStand : Type 0
AnyOctetsStand = (s : List ℕ) → IsPeer (peer_of s) × IsServer (server_of s)

-- ---- what is stored stands for the state
abbrev pub PeerBack : Type 0
PeerBack = (p : Peer) → IsPeer p → peer_of (octets_of_peer p) ≡ p

abbrev pub ServerBack : Type 0
ServerBack = (s : Server) → IsServer s → server_of (octets_of_server s) ≡ s

-- ---- octets of the state's size, the first of which is the number of a stage, are those of the state that they stand for. With another number there
-- they stand for a FAILED state, whose first octet is that of FAILED
pub record IsState (last size : ℕ) (s : List ℕ) : Type 0 where
  pub octets : AreOctets s
  pub long : length s ≡ size
  pub stage : get_or s 0 0 ≤ last

abbrev pub IsPeerState : List ℕ → Type 0
IsPeerState s = IsState 6 peer_octets s

abbrev pub IsServerState : List ℕ → Type 0
IsServerState s = IsState 5 server_octets s

abbrev pub PeerOctetsBack : Type 0
PeerOctetsBack = (s : List ℕ) → IsPeerState s → octets_of_peer (peer_of s) ≡ s

abbrev pub ServerOctetsBack : Type 0
ServerOctetsBack = (s : List ℕ) → IsServerState s → octets_of_server (server_of s) ≡ s
