-- Calls on the peer's end, one after the other.
use Rattle.std.specs.Prelude.{ℕ, ◌≡◌, List, [], ◌∷◌, length}
use Rattle.answer.specs.Outcome.{Outcome}
use Rattle.answer.specs.Runs as runs
use Rattle.answer.specs.Sizes.{max_packet, max_name}
use Rattle.peer.specs.declared.Credentials.{Credentials}
use Rattle.peer.specs.declared.Challenges.{Challenges}
use Rattle.peer.specs.declared.Peer.{Peer}
use Rattle.peer.specs.State.{reply_room}
use Rattle.peer.specs.Calls.{new_of, step_of, supply_of, give_up_of}

-- room is the size of the lent buffer
pub data Call : Type 0 where
  step : (packet random : List ℕ) (room : ℕ) → Call
  supply : (name hash random : List ℕ) (room : ℕ) → Call
  give_up : Call

unfoldable pub call_of : Peer → Call → Outcome Peer
call_of p (step s random room) = step_of p s random room
call_of p (supply name hash random room) = supply_of p name hash random room
call_of p give_up = give_up_of p

abbrev pub room_of : Call → ℕ
room_of (step s random room) = room
room_of (supply name hash random room) = room
room_of give_up = 0

-- the state after a list of calls
abbrev pub after : Peer → List Call → Peer
after p cs = runs.after (λ (o : Outcome Peer). o.state) call_of p cs

-- hashes, challenges and random octets "are values of 16 octets and can't have another size", and so with the state's arrays:
-- here they are lists, whose types do not say so
pub record IsCredentials (c : Credentials) : Type 0 where
  pub name : length c.name ≡ max_name
  pub hash : length c.hash ≡ 16

pub record IsChallenges (c : Challenges) : Type 0 where
  pub authenticator : length c.authenticator ≡ 16
  pub own : length c.own ≡ 16
  pub expected : length c.expected ≡ 20

pub record IsPeer (p : Peer) : Type 0 where
  pub credentials : IsCredentials p.credentials
  pub challenges : IsChallenges p.challenges
  pub request : length p.request ≡ max_packet
  pub reply : length p.reply ≡ reply_room

abbrev pub IsCall : Call → Type 0
IsCall (step s random room) = length random ≡ 16
IsCall (supply name hash random room) = (length hash ≡ 16) × (length random ≡ 16)
IsCall give_up = Unit {0}

abbrev pub AreCalls : List Call → Type 0
AreCalls [] = Unit {0}
AreCalls (c ∷ cs) = IsCall c × AreCalls cs

-- any calls on from a made peer leave p
pub record Reached (p : Peer) : Type 0 where
  pub name : List ℕ
  pub hash : List ℕ
  pub calls : List Call
  pub sixteen : length hash ≡ 16
  pub are : AreCalls calls
  pub is : p ≡ after (new_of name hash).state calls
