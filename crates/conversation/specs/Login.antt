-- A LOGIN SUCCEEDS: between a fresh peer and a fresh server, right account, for all names, hashes, challenges and random octets that fit.
use Rattle.std.specs.Prelude.{ℕ, ◌+◌, ◌≤◌, ◌≡◌, true, List, [], length}
use Rattle.answer.specs.Outcome.{outcome}
use Rattle.answer.specs.Sizes.{max_name, max_retries}
use Rattle.packet.specs.Forms.{challenge_name_at, response_name_at, success_text_at, response_packet, success_response, eap_success}
use Rattle.accounts.specs.Accounts.{code_of, hash_of, well_formed, is_account_of, record_of}
use Rattle.mschap.specs.Users.{user_of}
use Rattle.mschap.specs.Responses.{nt_response, authenticator_of}
use Rattle.peer.specs.declared.Peer.{Peer}
use Rattle.peer.specs.declared.Stage.TheVariants as peer_stage
use Rattle.peer.specs.State as peer
use Rattle.server.specs.declared.Server.{Server}
use Rattle.server.specs.declared.Stage.TheVariants as stage
use Rattle.server.specs.State as server
use Rattle.server.specs.State.{next_id, chap_of, challenge_to, success_to}
use Rattle.conversation.specs.Calls.{Credentials, Login, made, started, responded, begun, judged, replied, closed, ended}

-- ---- what fits. The Identifier, the paddings, and the fresh octets, the later tables and the later random octets are free
-- "names 0 to 256 octets", "random octets are values of 16 octets"; and no 20: there is room for the Response
pub record Responds (c : Credentials) (room : ℕ) : Type 0 where
  pub name : length c.name ≤ max_name
  pub random : length c.random ≡ 16
  pub response : response_name_at + length c.name ≤ room

pub record Fits (l : Login) : Type 0 where
  pub credentials : Responds l.credentials l.response_room
  -- "a server's own 1 to 256", "retry count 0 to 10", "challenges .. are values of 16 octets"
  pub server_some : 1 ≤ length l.server
  pub server_few : length l.server ≤ max_name
  pub retries : l.retries ≤ max_retries
  pub challenge : length l.challenge ≡ 16
  -- no 20: there is room for the Challenge, for the Success or Failure Response, and for EAP Success or Failure
  pub challenge_room : challenge_name_at + length l.server ≤ l.room
  pub reply_room : 6 ≤ l.at_request.room
  pub end_room : 4 ≤ l.at_reply.room

-- a table has an account of the user, with this code and this hash
pub record HasAccount (table user : List ℕ) (code : ℕ) (hash : List ℕ) : Type 0 where
  pub account : is_account_of user (record_of table user) ≡ true
  pub coded : code_of (record_of table user) ≡ code
  pub hashed : hash_of (record_of table user) ≡ hash

-- the right account: the table is well formed, and the user's account in it has code 0 and the peer's hash; and there is room for the Success Request
pub record RightAccount (l : Login) (c : Credentials) : Type 0 where
  pub formed : well_formed l.at_response.table ≡ true
  pub account : HasAccount l.at_response.table (user_of c.name) 0 c.hash
  pub request_room : success_text_at ≤ l.at_response.room

-- ---- the packets, and the states that they leave
module _ (l : Login) where
  abbrev name : List ℕ
  name = l.credentials.name

  abbrev hash : List ℕ
  hash = l.credentials.hash

  abbrev random : List ℕ
  random = l.credentials.random

  abbrev pub next : ℕ
  next = (next_id l.id).0

  unfoldable pub challenge_of : List ℕ
  challenge_of = challenge_to l.id l.challenge l.server

  unfoldable pub nt_response_of : List ℕ
  nt_response_of = nt_response l.challenge random (user_of name) hash

  unfoldable pub response_of : List ℕ
  response_of = response_packet l.id.0 (chap_of l.id).0 random nt_response_of name

  unfoldable pub string_of : List ℕ
  string_of = authenticator_of hash nt_response_of random l.challenge (user_of name)

  unfoldable pub success_of : List ℕ
  success_of = success_to (next_id l.id) string_of

  unfoldable pub challenging : Server
  challenging = server.asked stage.ChallengeSent l.id l.challenge l.retries challenge_of server.initial

  unfoldable pub responding : Peer
  responding = peer.responded l.challenge random (chap_of l.id) challenge_of response_of (peer.initial peer_stage.Begin name hash)

  unfoldable pub granting : Server
  granting = server.asked stage.SuccessRequestSent (next_id l.id) l.challenge l.retries success_of challenging

  unfoldable pub confirming : Peer
  confirming = peer.answered peer_stage.SuccessResponseSent success_of (success_response next) responding

-- ---- the whole outcome of every call: its number, its octets and the state after it. And both ends are in SUCCESS
pub record Succeeds (l : Login) : Type 0 where
  pub makes : made l ≡ outcome 0 [] (peer.initial peer_stage.Begin l.credentials.name l.credentials.hash)
  pub starts : started l ≡ outcome 0 (challenge_of l) (challenging l)
  pub responds : responded l ≡ outcome 0 (response_of l) (responding l)
  pub grants : judged l (begun l) ≡ outcome 0 (success_of l) (granting l)
  pub confirms : replied l (begun l) ≡ outcome 0 (success_response (next l)) (confirming l)
  pub closes : closed l (begun l) ≡ outcome 2 (eap_success (next l)) (server.staged stage.Success (granting l))
  pub ends : ended l (begun l) ≡ outcome 2 [] (peer.staged peer_stage.Success (confirming l))
  pub server_there : (closed l (begun l)).state.stage ≡ stage.Success
  pub peer_there : (ended l (begun l)).state.stage ≡ peer_stage.Success

abbrev pub LoginSucceeds : Type 0
LoginSucceeds = (l : Login) → Fits l → RightAccount l l.credentials → Succeeds l
