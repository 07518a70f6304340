-- 01, "The logger's moves (peer)": the state, and what each kind of move makes of it.
use Rattle.std.specs.Prelude.{ℕ, ◌+◌, List, length, get_or, take, drop, replicate}
use Rattle.octets.specs.Lists.{sized}
use Rattle.mschap.specs.Users.{user_of}
use Rattle.mschap.specs.Responses.{nt_response, authenticator_of, digits_of}
use Rattle.packet.specs.Forms.{response_name_at, response_packet}
use Rattle.packet.specs.Reader.{challenge_place, nt_response_place}
use Rattle.answer.specs.Sizes.{max_packet, max_name}
use Rattle.answer.specs.declared.ChapId.{ChapId}
use Rattle.peer.specs.declared.Stage.{Stage}
use Rattle.peer.specs.declared.Stage.TheVariants.{ChallengeResponseSent, Waiting}
use Rattle.peer.specs.declared.Credentials.{Credentials}
use Rattle.peer.specs.declared.Challenges.{Challenges}
use Rattle.peer.specs.declared.Peer.{Peer}

-- the longest reply, a Response with the longest name
abbrev pub reply_room : ℕ
reply_room = response_name_at + max_name

-- ---- what a state holds. A length past its array counts as the array's length
unfoldable pub own_name : Peer → List ℕ
own_name p = take p.credentials.namelen p.credentials.name

-- the last answered request; in WAITING, the kept one
unfoldable pub last_request : Peer → List ℕ
last_request p = take p.requestlen p.request

unfoldable pub last_reply : Peer → List ℕ
last_reply p = take p.replylen p.reply

-- the last answered request's Identifier and MS-CHAPv2-ID, 0 where there is none
unfoldable pub last_id : Peer → ℕ
last_id p = get_or (last_request p) 1 0

unfoldable pub last_chap_id : Peer → ℕ
last_chap_id p = get_or (last_request p) 6 0

-- ---- the arithmetic of a state: name and hash, the authenticator's challenge and the peer's own
-- the Response
unfoldable pub response_to : ℕ → ℕ → List ℕ → List ℕ → List ℕ → List ℕ → List ℕ
response_to id chapid authenticator own name hash =
    response_packet id chapid own (nt_response authenticator own (user_of name) hash) name

-- the authenticator string that is to answer it
unfoldable pub string_to : List ℕ → List ℕ → List ℕ → List ℕ → List ℕ
string_to authenticator own name hash =
    authenticator_of hash (nt_response authenticator own (user_of name) hash) own authenticator (user_of name)

-- the same, computed from the octets of the Response w
unfoldable pub string_in : List ℕ → List ℕ → List ℕ → List ℕ
string_in hash authenticator w =
    authenticator_of hash (sized 24 (drop nt_response_place.start w)) (sized 16 (drop challenge_place.start w)) authenticator (user_of (drop response_name_at w))

-- the outstanding Response
unfoldable pub outstanding : Peer → List ℕ
outstanding p = response_to (last_id p) p.challenges.chapid.0 p.challenges.authenticator p.challenges.own (own_name p) p.credentials.hash

-- "The peer's right string is the one so computed from its own hash and its outstanding Response."
unfoldable pub computed_string : Peer → List ℕ
computed_string p = string_to p.challenges.authenticator p.challenges.own (own_name p) p.credentials.hash

-- 02 [6]: "the kept octets are the right string", here as 40 digits
unfoldable pub right_digits : Peer → List ℕ
right_digits p = digits_of p.challenges.expected

-- ---- states after a move: "a move changes only what it names; fields not yet set are zero"
abbrev pub credentials_of : List ℕ → List ℕ → Credentials
credentials_of name hash = record { name = sized max_name name; namelen = length name; hash = hash }

abbrev pub challenges_of : List ℕ → List ℕ → ChapId → List ℕ → Challenges
challenges_of authenticator own chapid expected = record { authenticator = authenticator; own = own; chapid = chapid; expected = expected }

-- a made peer, and the FAILED one that stands beside number 23
unfoldable pub initial : Stage → List ℕ → List ℕ → Peer
initial stage name hash = record {
  stage = stage;
  credentials = credentials_of name hash;
  challenges = challenges_of (replicate 16 0) (replicate 16 0) (record { 0 = 0 }) (replicate 20 0);
  request = replicate max_packet 0;
  requestlen = 0;
  reply = replicate reply_room 0;
  replylen = 0;
}

-- the stage, the credentials and the challenges are new
abbrev pub at_stage : Stage → Credentials → Challenges → Peer → Peer
at_stage stage credentials challenges p =
    record { stage = stage; credentials = credentials; challenges = challenges; request = p.request; requestlen = p.requestlen; reply = p.reply; replylen = p.replylen }

-- the request q is stored
abbrev pub with_request : List ℕ → Peer → Peer
with_request q p =
    record { stage = p.stage; credentials = p.credentials; challenges = p.challenges; request = sized max_packet q; requestlen = length q; reply = p.reply; replylen = p.replylen }

-- the reply w is stored
abbrev pub with_reply : List ℕ → Peer → Peer
with_reply w p =
    record { stage = p.stage; credentials = p.credentials; challenges = p.challenges; request = p.request; requestlen = p.requestlen; reply = sized reply_room w; replylen = length w }

-- the stage alone
unfoldable pub staged : Stage → Peer → Peer
staged stage p = at_stage stage p.credentials p.challenges p

-- the request q was answered by w
unfoldable pub answered : Stage → List ℕ → List ℕ → Peer → Peer
answered stage q w p = at_stage stage p.credentials p.challenges (with_request q (with_reply w p))

-- the Challenge q was answered by the Response w
unfoldable pub responded : List ℕ → List ℕ → ChapId → List ℕ → List ℕ → Peer → Peer
responded authenticator own chapid q w p =
    at_stage ChallengeResponseSent p.credentials (challenges_of authenticator own chapid (string_to authenticator own (own_name p) p.credentials.hash)) (with_request q (with_reply w p))

-- "WAITING, keeping that request and C"
unfoldable pub awaiting : List ℕ → List ℕ → Peer → Peer
awaiting authenticator q p = at_stage Waiting p.credentials (challenges_of authenticator p.challenges.own p.challenges.chapid p.challenges.expected) (with_request q p)

-- new credentials answered C by the Response w
unfoldable pub supplied : List ℕ → List ℕ → List ℕ → ChapId → List ℕ → Peer → Peer
supplied name hash own chapid w p =
    at_stage ChallengeResponseSent (credentials_of name hash) (challenges_of p.challenges.authenticator own chapid (string_to p.challenges.authenticator own name hash)) (with_reply w p)
