-- What only this crate's private functions promise each other.
use Rattle.std.specs.Prelude.{ℕ, List, take, replicate, Result, Ok, Err}
use Rattle.answer.specs.Sizes.{max_packet}
use Rattle.answer.specs.declared.Refusal.{Refusal}
use Rattle.peer.specs.State.{reply_room, challenges_of}
use Rattle.peer.specs.declared.Credentials.{Credentials}
use Rattle.peer.specs.declared.Peer.{Peer}
use Rattle.peer.specs.declared.Sent.{Sent}
use Rattle.peer.specs.declared.Stage.{Stage}

-- a length past the array counts as the array's
abbrev pub name_in : Credentials → List ℕ
name_in c = take c.namelen c.name

-- the length of a Response, or 0 beside a refusal
abbrev pub sent_count : Result Sent Refusal → ℕ
sent_count (Ok s) = s.n
sent_count (Err why) = 0

-- a state to which nothing has come
abbrev pub starting : Stage → Credentials → Peer
starting stage credentials = record {
  stage = stage;
  credentials = credentials;
  challenges = challenges_of (replicate 16 0) (replicate 16 0) (record { 0 = 0 }) (replicate 20 0);
  request = replicate max_packet 0;
  requestlen = 0;
  reply = replicate reply_room 0;
  replylen = 0;
}
