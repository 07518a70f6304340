-- 01, "Marked cases, shown together by a single statement".
use Rattle.std.specs.Prelude.{ℕ, ◌≤◌, ◌≡◌, List, [], ◌∷◌, ◌++◌, replicate}
use Rattle.answer.specs.Outcome.{outcome, refused}
use Rattle.packet.specs.declared.End.TheVariants as end
use Rattle.packet.specs.declared.Kind.TheVariants as kind
use Rattle.packet.specs.Reader.{place, nowhere, reading, read_packet, refusal}
use Rattle.packet.specs.Learned.{Learns, learned}
use Rattle.writers.specs.Writers.{write_challenge}
use Rattle.mschap.specs.Users.{user_of}
use Rattle.peer.specs.declared.Peer.{Peer}
use Rattle.peer.specs.Calls.{step_of}
use Rattle.server.specs.declared.Server.{Server}
use Rattle.server.specs.declared.Stage.TheVariants as stage
use Rattle.server.specs.State.{staged}
use Rattle.server.specs.Calls.{packet_of}

-- the packet x is refused by the number k: by the reader, and by every peer or server
pub record AtPeer (x : List ℕ) (k : ℕ) : Type 0 where
  pub reads : read_packet end.Peer x ≡ refusal k
  pub steps : (p : Peer) (random : List ℕ) (room : ℕ) → step_of p x random room ≡ refused k p

pub record AtServer (x : List ℕ) (k : ℕ) : Type 0 where
  pub reads : read_packet end.Server x ≡ refusal k
  pub takes : (s : Server) (table fresh : List ℕ) (room : ℕ) → packet_of s x table fresh room ≡ refused k s

pub record AtBoth (x : List ℕ) (k : ℕ) : Type 0 where
  pub peer : AtPeer x k
  pub server : AtServer x k

-- `FRZ`
abbrev pub frz : List ℕ
frz = 70 ∷ 82 ∷ 90 ∷ []

-- with 29 octets of room or more the writer answers 0 with x, which goes over the buffer's front; and x reads back as that Challenge, L 29, whatever padding
-- follows
pub record IsWritten (x : List ℕ) : Type 0 where
  pub writes : (room : ℕ) → 29 ≤ room → write_challenge 1 1 (replicate 16 0) frz room ≡ outcome 0 x tt
  pub back : (pad : List ℕ) → Learns end.Peer (x ++ pad) (learned (reading kind.Challenge 1 1 29 0 (place 10 16) nowhere (place 26 3)) (replicate 16 0) [] frz)

pub record Marked : Type 0 where
  pub w1 : AtBoth [] 10
  pub w2 : AtBoth (1 ∷ 5 ∷ 0 ∷ 3 ∷ []) 11
  pub w3 : AtBoth (1 ∷ 5 ∷ 0 ∷ 5 ∷ []) 11
  pub w4 : AtPeer (2 ∷ 5 ∷ 0 ∷ 6 ∷ 26 ∷ 3 ∷ []) 13
  pub w5 : AtPeer (1 ∷ 5 ∷ 0 ∷ 4 ∷ []) 14
  pub w6 : AtPeer (1 ∷ 5 ∷ 0 ∷ 5 ∷ 26 ∷ []) 15
  pub w7 : AtPeer (1 ∷ 5 ∷ 0 ∷ 6 ∷ 26 ∷ 3 ∷ []) 16
  pub w8 : IsWritten ((1 ∷ 1 ∷ 0 ∷ 29 ∷ 26 ∷ 1 ∷ 1 ∷ 0 ∷ 24 ∷ 16 ∷ []) ++ replicate 16 0 ++ frz)
  pub w9 : AtPeer ((1 ∷ 1 ∷ 0 ∷ 26 ∷ 26 ∷ 1 ∷ 1 ∷ 0 ∷ 21 ∷ 16 ∷ []) ++ replicate 16 0) 17
  pub w10 : (s : Server) → s.stage ≡ stage.SuccessRequestSent → s.request.id.0 ≡ 7 → (table fresh : List ℕ) (room : ℕ) → 4 ≤ room
      → packet_of s (2 ∷ 7 ∷ 0 ∷ 6 ∷ 26 ∷ 3 ∷ []) table fresh room ≡ outcome 2 (3 ∷ 7 ∷ 0 ∷ 4 ∷ []) (staged stage.Success s)
  -- `CAMP\frz` and `frz\`
  pub w11 : user_of (67 ∷ 65 ∷ 77 ∷ 80 ∷ 92 ∷ 102 ∷ 114 ∷ 122 ∷ []) ≡ 102 ∷ 114 ∷ 122 ∷ []
  pub w12 : user_of (102 ∷ 114 ∷ 122 ∷ 92 ∷ []) ≡ []
