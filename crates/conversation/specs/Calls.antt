-- 01, "The logger's moves (peer)" and "The server's moves", both ends together: a fresh peer and a fresh server, and every packet that one
-- writes is lent to the other.
use Rattle.std.specs.Prelude.{ℕ, List, [], ◌∷◌, ◌++◌}
use Rattle.answer.specs.Outcome.{Outcome}
use Rattle.answer.specs.declared.Identifier.{Identifier}
use Rattle.peer.specs.declared.Peer.{Peer}
use Rattle.peer.specs.Calls.{new_of, step_of, supply_of}
use Rattle.server.specs.declared.Server.{Server}
use Rattle.server.specs.State.{initial}
use Rattle.server.specs.Calls.{start_of, packet_of}

-- ---- what the callers lend
-- to the peer with a packet: padding after it, random octets, and a reply buffer of room octets
pub record ToPeer : Type 0 where
  pub padding : List ℕ
  pub random : List ℕ
  pub room : ℕ

-- to the server with a packet: padding after it, the account table, fresh octets, and a reply buffer of room octets
pub record ToServer : Type 0 where
  pub padding : List ℕ
  pub table : List ℕ
  pub fresh : List ℕ
  pub room : ℕ

-- what a Response is made of, beside the challenge
pub record Credentials : Type 0 where
  pub name : List ℕ
  pub hash : List ℕ
  pub random : List ℕ

pub record Login : Type 0 where
  -- "A peer is made from name and hash"; the random octets are those of its first Response
  pub credentials : Credentials
  -- "Start .. takes first Identifier, challenge, server name and retry count", and a reply buffer
  pub id : Identifier
  pub challenge : List ℕ
  pub server : List ℕ
  pub retries : ℕ
  pub room : ℕ
  -- the padding after the Challenge, and the room for the first Response
  pub padding : List ℕ
  pub response_room : ℕ
  -- what comes with the last Response, the request after it, the reply to that, and EAP Success or Failure
  pub at_response : ToServer
  pub at_request : ToPeer
  pub at_reply : ToServer
  pub at_end : ToPeer

-- the two ends, and the Response that is on its way between them
pub record Ends : Type 0 where
  pub server : Server
  pub peer : Peer
  pub response : List ℕ

-- ---- the calls: each takes the state that its end's last call left, and the octets that the other end wrote
-- up to the first Response
module _ (l : Login) where
  unfoldable pub made : Outcome Peer
  made = new_of l.credentials.name l.credentials.hash

  unfoldable pub started : Outcome Server
  started = start_of initial l.id l.challenge l.server l.retries l.room

  unfoldable pub responded : Outcome Peer
  responded = step_of made.state (started.octets ++ l.padding) l.credentials.random l.response_room

  unfoldable pub begun : Ends
  begun = record { server = started.state; peer = responded.state; response = responded.octets }

-- from the last Response on
module _ (l : Login) (b : Ends) where
  unfoldable pub judged : Outcome Server
  judged = packet_of b.server (b.response ++ l.at_response.padding) l.at_response.table l.at_response.fresh l.at_response.room

  unfoldable pub replied : Outcome Peer
  replied = step_of b.peer (judged.octets ++ l.at_request.padding) l.at_request.random l.at_request.room

  unfoldable pub closed : Outcome Server
  closed = packet_of judged.state (replied.octets ++ l.at_reply.padding) l.at_reply.table l.at_reply.fresh l.at_reply.room

  unfoldable pub ended : Outcome Peer
  ended = step_of replied.state (closed.octets ++ l.at_end.padding) l.at_end.random l.at_end.room

-- ---- in between, tries that are wrong: what comes with the Response and with the Failure Request R=1; and then "In WAITING the caller supplies
-- name, hash and random octets", with a reply buffer
pub record Try : Type 0 where
  pub at_response : ToServer
  pub at_request : ToPeer
  pub credentials : Credentials
  pub room : ℕ

module _ (b : Ends) (t : Try) where
  unfoldable pub denied : Outcome Server
  denied = packet_of b.server (b.response ++ t.at_response.padding) t.at_response.table t.at_response.fresh t.at_response.room

  unfoldable pub waited : Outcome Peer
  waited = step_of b.peer (denied.octets ++ t.at_request.padding) t.at_request.random t.at_request.room

  unfoldable pub supplied : Outcome Peer
  supplied = supply_of waited.state t.credentials.name t.credentials.hash t.credentials.random t.room

  unfoldable pub tried : Ends
  tried = record { server = denied.state; peer = supplied.state; response = supplied.octets }

unfoldable pub tried_all : Ends → List Try → Ends
tried_all b [] = b
tried_all b (t ∷ ts) = tried_all (tried b t) ts
