-- Lists of calls on one state: at the boundary, over octets, and by value, over the state that the octets stand for.
use Rattle.std.specs.Prelude.{ℕ, ◌≡◌, List, [], ◌∷◌, map, Bool, true, ◌&&◌, length}
use Rattle.octets.specs.Choice.{pick}
use Rattle.octets.specs.Lists.{over}
use Rattle.answer.specs.Outcome.{Outcome, outcome, refused}
use Rattle.answer.specs.Runs.{run}
use Rattle.packet.specs.declared.End.TheVariants as end
use Rattle.packet.specs.declared.Place.{Place}
use Rattle.packet.specs.Reader.{nowhere}
use Rattle.packet.specs.Texts.{text_place}
use Rattle.peer.specs.declared.Peer.{Peer}
use Rattle.peer.specs.Calls.{new_of, text_by}
use Rattle.peerlaws.specs.Runs as peer
use Rattle.peerlaws.specs.Runs.{step, supply, give_up, call_of}
use Rattle.peerlaws.specs.Expected.{computing}
use Rattle.server.specs.declared.Server.{Server}
use Rattle.server.specs.State.{initial}
use Rattle.server.specs.Runs.{Call, starts, brings, resends, reply_of, outcome_of}
use Rattle.server.specs.Guess.{Side, one, two, lent_to, NotRight}
use Rattle.state.specs.PeerOctets.{peer_octets, peer_of}
use Rattle.state.specs.ServerOctets.{server_octets, server_of}
use Rattle.calls.specs.Done.{word_telling, Done}
use Rattle.calls.specs.Ends.{is_server, is_sixteen, peer_new_at, peer_step_at, peer_supply_at, peer_give_up_at, server_new_at, server_start_at, server_packet_at, server_resend_at}

-- what a call shows: its word, the whole reply buffer, and the state that its octets stand for
pub record Shown (S : Type 0) : Type 0 where
  pub word : ℕ
  pub reply : List ℕ
  pub state : S

abbrev pub shown_at : {S : Type 0} → (List ℕ → S) → Done → Shown S
shown_at decode d = record { word = d.word; reply = d.reply; state = decode d.state }

-- of a call that tells a text where it is not refused
abbrev pub shown : {S : Type 0} → Place → Outcome S → List ℕ → Shown S
shown text o reply = record { word = word_telling o.number (length o.octets) (text_by o.number text); reply = over o.octets reply; state = o.state }

-- calls at the boundary: each takes the octets that the last one left
abbrev pub run_at : {C : Type 0} → (List ℕ → C → Done) → List ℕ → List C → List Done
run_at call_at s cs = run (λ d. d.state) call_at s cs

-- A RUN AT THE BOUNDARY SHOWS WHAT THE RUN BY VALUE SHOWS: any octets of the state's size n, any list of calls, refused ones included
abbrev pub Carried : {S C : Type 0} → (List ℕ → S) → ℕ → (List ℕ → C → Done) → (S → C → Outcome S) → (C → Place) → (C → List ℕ) → Type 0
Carried {S} {C} decode n call_at call text reply =
    (cs : List C) (s : List ℕ) → length s ≡ n → map (shown_at decode) (run_at call_at s cs) ≡ run (λ v. v.state) (λ p c. shown (text c) (call p c) (reply c)) (decode s) cs

-- ---- the peer: a call with all that is lent with it; the last is the reply buffer
pub data PeerCall : Type 0 where
  makes : (name hash : List ℕ) → PeerCall
  steps : (packet random reply : List ℕ) → PeerCall
  supplies : (name hash random reply : List ℕ) → PeerCall
  gives_up : PeerCall

abbrev pub peer_reply : PeerCall → List ℕ
peer_reply (makes name hash) = []
peer_reply (steps packet random reply) = reply
peer_reply (supplies name hash random reply) = reply
peer_reply gives_up = []

-- the text of the packet that a step takes, where the reader tells it to be; the other calls have none
abbrev pub peer_text : PeerCall → Place
peer_text (makes name hash) = nowhere
peer_text (steps packet random reply) = text_place end.Peer packet
peer_text (supplies name hash random reply) = nowhere
peer_text gives_up = nowhere

abbrev pub peer_call_at : List ℕ → PeerCall → Done
peer_call_at s (makes name hash) = peer_new_at s name hash
peer_call_at s (steps packet random reply) = peer_step_at s packet random reply
peer_call_at s (supplies name hash random reply) = peer_supply_at s name hash random reply
peer_call_at s gives_up = peer_give_up_at s

-- by value, sixteen octets are sixteen; other sizes are 23
abbrev pub peer_call_by : (Peer → peer.Call → Outcome Peer) → Peer → PeerCall → Outcome Peer
peer_call_by call p (makes name hash) = pick (is_sixteen hash) (new_of name hash) (refused 23 p)
peer_call_by call p (steps packet random reply) = pick (is_sixteen random) (call p (step packet random (length reply))) (refused 23 p)
peer_call_by call p (supplies name hash random reply) = pick (is_sixteen hash && is_sixteen random) (call p (supply name hash random (length reply))) (refused 23 p)
peer_call_by call p gives_up = call p give_up

abbrev pub peer_call : Peer → PeerCall → Outcome Peer
peer_call p c = peer_call_by call_of p c

abbrev pub PeerCarried : Type 0
PeerCarried = Carried peer_of peer_octets peer_call_at peer_call peer_text peer_reply

-- 02 [6], "all answers stay as they are", at the boundary: any list of calls that begins by making a peer shows the words, the whole buffers and
-- the states of the peer that computes the string when a Success Request comes
abbrev pub AnswersStayAt : Type 0
AnswersStayAt =
    (name hash : List ℕ) (cs : List PeerCall) (s : List ℕ) → length s ≡ peer_octets → length hash ≡ 16 →
    map (shown_at peer_of) (run_at peer_call_at s (makes name hash ∷ cs))
    ≡ run (λ v. v.state) (λ p c. shown (peer_text c) (peer_call_by computing p c) (peer_reply c)) (peer_of s) (makes name hash ∷ cs)

-- ---- the server: a call on a state, or a new server in its place
pub data ServerCall (T : Type 0) : Type 0 where
  renews : ServerCall T
  calls : (c : Call T) → ServerCall T

abbrev pub server_reply : {T : Type 0} → ServerCall T → List ℕ
server_reply renews = []
server_reply (calls c) = reply_of c

abbrev pub server_call_at : List ℕ → ServerCall (List ℕ) → Done
server_call_at s renews = server_new_at s
server_call_at s (calls (starts id challenge name retries reply)) = server_start_at s id.0 challenge name retries reply
server_call_at s (calls (brings packet table fresh reply)) = server_packet_at s packet table fresh reply
server_call_at s (calls (resends reply)) = server_resend_at s reply

abbrev pub are_sixteen : {T : Type 0} → Call T → Bool
are_sixteen (starts id challenge name retries reply) = is_sixteen challenge
are_sixteen (brings packet table fresh reply) = is_sixteen fresh
are_sixteen (resends reply) = true

abbrev pub server_call : Server → ServerCall (List ℕ) → Outcome Server
server_call s renews = outcome 0 [] initial
server_call s (calls c) = pick (are_sixteen c) (outcome_of s c) (refused 23 s)

abbrev pub ServerCarried : Type 0
ServerCarried = Carried server_of server_octets server_call_at server_call (λ _. nowhere) server_reply

-- ---- the wrong-guess rule at the boundary
abbrev pub lent_at : Side → ServerCall (Side → List ℕ) → ServerCall (List ℕ)
lent_at x renews = renews
lent_at x (calls c) = calls (lent_to x c)

-- a call whose sizes are right, on the server that the octets stand for: its table is well formed, and no judged Response is right. A call that is
-- refused for a size judges nothing, and nothing is asked of it
abbrev pub NotRightAt : List ℕ → ServerCall (List ℕ) → Type 0
NotRightAt s renews = Unit {0}
NotRightAt s (calls c) = (is_server s && are_sixteen c) ≡ true → NotRight (server_of s) c

abbrev pub NoneRightAt : List ℕ → List (ServerCall (List ℕ)) → Type 0
NoneRightAt s [] = Unit {0}
NoneRightAt s (c ∷ cs) = NotRightAt s c × NoneRightAt (server_call_at s c).state cs

-- THE WRONG-GUESS RULE AT THE BOUNDARY: any octets for a state, of any size, and any list of calls, with slices of any size. Every word, every octet of
-- the reply buffers and of the states is the same
abbrev pub WrongGuessAt : Type 0
WrongGuessAt =
    (s : List ℕ) (cs : List (ServerCall (Side → List ℕ))) → ((x : Side) → NoneRightAt s (map (lent_at x) cs))
    → run_at server_call_at s (map (lent_at one) cs) ≡ run_at server_call_at s (map (lent_at two) cs)
