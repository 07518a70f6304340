-- 01, "What a call answers" and "The logger's moves (peer)": what each call of the peer does.
use Rattle.std.specs.Prelude.{ℕ, ◌≡◌, List, [], not, length, take, replicate, ltb, eqb}
use Rattle.octets.specs.Choice.{pick}
use Rattle.octets.specs.Lists.{part, cells}
use Rattle.octets.specs.Octets.{octet_is, same, unhex_at}
use Rattle.answer.specs.Outcome.{Told, Outcome, outcome, refused, fitting}
use Rattle.answer.specs.Results.{Replies}
use Rattle.answer.specs.Sizes.{max_name}
use Rattle.packet.specs.declared.End.TheVariants as end
use Rattle.packet.specs.declared.Packet.{Packet}
use Rattle.packet.specs.declared.Place.{Place}
use Rattle.packet.specs.Reader.{nowhere, read_packet, challenge_in}
use Rattle.packet.specs.Texts.{text_place}
use Rattle.packet.specs.Forms.{success_response, failure_response}
use Rattle.peer.specs.declared.Stage.{Stage}
use Rattle.peer.specs.declared.Stage.TheVariants.{Begin, SuccessResponseSent, FailureResponseSent, Success, Failed}
use Rattle.peer.specs.declared.Move.{Move}
use Rattle.peer.specs.declared.Move.TheVariants.{NotTaken, WrongIdentifier, Again, Respond, Confirm, Fail, Wait, Succeed, End}
use Rattle.peer.specs.declared.Peer.{Peer}
use Rattle.peer.specs.declared.PeerStep.{PeerStep}
use Rattle.peer.specs.State.{own_name, last_request, last_reply, last_id, last_chap_id, response_to, right_digits, initial, staged, answered, responded, awaiting, supplied}
use Rattle.peer.specs.Moves.{waiting, turn_of}

-- ---- made from name and hash: 0, or 23 and a FAILED peer, all else zero
unfoldable pub new_of : List ℕ → List ℕ → Outcome Peer
new_of name hash =
    pick (ltb max_name (length name)) (outcome 23 [] (initial Failed [] (replicate 16 0)))
    (outcome 0 [] (initial Begin name hash))

-- ---- a packet. q is its first L octets, k what was read of it
-- the 16 octets of C
unfoldable pub renewed_in : Packet → List ℕ → List ℕ
renewed_in k q = cells 16 (unhex_at (part q k.challenge.start 32))

-- a Success Request's 40 digits
unfoldable pub digits_in : Packet → List ℕ → List ℕ
digits_in k q = part q k.response.start 40

-- ---- what a move answers, were there room: its number, and its reply
abbrev pub says : ℕ → Outcome (Unit {0})
says n = outcome n [] tt

abbrev pub writes : List ℕ → Outcome (Unit {0})
writes w = outcome 0 w tt

-- to a Success Request, right string or other string: `right` has the right one's digits
unfoldable pub confirmation : Packet → List ℕ → List ℕ → Outcome (Unit {0})
confirmation k q right =
    pick (same (digits_in k q) right) (writes (success_response k.id.0))
    (says 3)

-- `response` is the Response, were the packet a Challenge; `last` is the stored reply
unfoldable pub answer_of : Move → Packet → List ℕ → List ℕ → List ℕ → List ℕ → Outcome (Unit {0})
answer_of NotTaken k q response right last = says 19
answer_of WrongIdentifier k q response right last = says 18
answer_of Again k q response right last = writes last
answer_of Respond k q response right last = writes response
answer_of Confirm k q response right last = confirmation k q right
answer_of Fail k q response right last = writes (failure_response k.id.0)
answer_of Wait k q response right last = says 1
answer_of Succeed k q response right last = says 2
answer_of End k q response right last = says 3

-- ---- what a number leaves, where w is the reply
-- 0: the next state. A repeat changes nothing
unfoldable pub next_of : Move → Packet → List ℕ → List ℕ → List ℕ → Peer → Peer
next_of NotTaken k q random w p = p
next_of WrongIdentifier k q random w p = p
next_of Again k q random w p = p
next_of Respond k q random w p = responded (challenge_in k q) random k.chapid q w p
next_of Confirm k q random w p = answered SuccessResponseSent q w p
next_of Fail k q random w p = answered FailureResponseSent q w p
next_of Wait k q random w p = p
next_of Succeed k q random w p = p
next_of End k q random w p = p

unfoldable pub left_by : ℕ → Move → Packet → List ℕ → List ℕ → List ℕ → Peer → Peer
left_by n m k q random w p =
    pick (eqb n 0) (next_of m k q random w p)
    (pick (eqb n 1) (awaiting (renewed_in k q) q p)
    (pick (eqb n 2) (staged Success p)
    (pick (eqb n 3) (staged Failed p)
    p)))

-- ---- a move: its answer a and what that leaves, or 20. `right` has the digits that a Success Request is held against
abbrev pub leaving : Outcome (Unit {0}) → Move → Packet → List ℕ → List ℕ → Peer → Outcome Peer
leaving a m k q random p = outcome a.number a.octets (left_by a.number m k q random a.octets p)

-- the Response to the Challenge q
abbrev pub response_in : Peer → Packet → List ℕ → List ℕ → List ℕ
response_in p k q random = response_to k.id.0 k.chapid.0 (challenge_in k q) random (own_name p) p.credentials.hash

unfoldable pub moved_by : List ℕ → Move → Peer → Packet → List ℕ → List ℕ → ℕ → Outcome Peer
moved_by right m p k q random room = fitting room p (leaving (answer_of m k q (response_in p k q random) right (last_reply p)) m k q random p)

-- the turn that a packet brings, where `last` is the last answered request. Its Identifier is octet 1
unfoldable pub turn_in : Stage → Packet → List ℕ → List ℕ → Move
turn_in stage k q last = turn_of stage k.kind (same q last) (octet_is last 1 k.id.0)

unfoldable pub taken_by : List ℕ → Peer → Packet → List ℕ → List ℕ → ℕ → Outcome Peer
taken_by right p k q random room = moved_by right (turn_in p.stage k q (last_request p)) p k q random room

-- 10 to 17, then the packet, whose octets after L are padding
unfoldable pub read_by : List ℕ → Told Packet → Peer → List ℕ → List ℕ → ℕ → Outcome Peer
read_by right t p s random room =
    pick (eqb t.number 0) (taken_by right p t.value (take t.value.length s) random room)
    (refused t.number p)

unfoldable pub step_by : List ℕ → Peer → List ℕ → List ℕ → ℕ → Outcome Peer
step_by right p s random room = read_by right (read_packet end.Peer s) p s random room

-- a Success Request is held against the kept octets
abbrev pub moved_of : Move → Peer → Packet → List ℕ → List ℕ → ℕ → Outcome Peer
moved_of m p k q random room = moved_by (right_digits p) m p k q random room

unfoldable pub step_of : Peer → List ℕ → List ℕ → ℕ → Outcome Peer
step_of p s random room = step_by (right_digits p) p s random room

-- ---- 02 [7]: "the peer's step as start and length (0 and 0 where it refuses or the packet is neither)"
-- what an answer tells of the text that the reader found: a number from 10 up refuses
unfoldable pub text_by : ℕ → Place → Place
text_by number text = pick (ltb number 10) text nowhere

unfoldable pub step_text : Peer → List ℕ → List ℕ → ℕ → Place
step_text p s random room = text_by (step_of p s random room).number (text_place end.Peer s)

-- a call did what o says, and told a text there; the calls that take no packet tell none
pub record DoesTelling (o : Outcome Peer) (text : Place) (r : PeerStep) (before after : List ℕ) : Type 0 where
  pub does : Replies o r.answer r.peer before after
  pub told : r.text ≡ text

-- ---- the two calls of WAITING: 19, 23, 20
-- "a Response to C follows, under the kept request's Identifier and MS-CHAPv2-ID"
unfoldable pub response_by : Peer → List ℕ → List ℕ → List ℕ → List ℕ
response_by p name hash random = response_to (last_id p) (last_chap_id p) p.challenges.authenticator random name hash

unfoldable pub resume_of : Peer → List ℕ → List ℕ → List ℕ → ℕ → Outcome Peer
resume_of p name hash random room =
    fitting room p (outcome 0 (response_by p name hash random) (supplied name hash random (record { 0 = last_chap_id p }) (response_by p name hash random) p))

unfoldable pub supply_of : Peer → List ℕ → List ℕ → List ℕ → ℕ → Outcome Peer
supply_of p name hash random room =
    pick (not (waiting p.stage)) (refused 19 p)
    (pick (ltb max_name (length name)) (refused 23 p)
    (resume_of p name hash random room))

unfoldable pub give_up_of : Peer → Outcome Peer
give_up_of p = pick (not (waiting p.stage)) (refused 19 p) (outcome 3 [] (staged Failed p))
