-- What holds of the peer's end as a whole: over every state that can be handed in, and over lists of calls.
use Rattle.std.specs.Prelude.{ℕ, ◌+◌, ◌≤◌, ◌≡◌, List, [], ◌∷◌, ◌++◌, true, false, ◌||◌, ◌⊎◌, length, get_or, take, set, eqb}
use Rattle.octets.specs.Choice.{pick}
use Rattle.octets.specs.Lists.{part, over}
use Rattle.octets.specs.Octets.{same, number_at, all_hex}
use Rattle.octets.specs.declared.Order.TheVariants.{Big}
use Rattle.answer.specs.Outcome.{gives, Outcome, outcome, refused, fitting, Does}
use Rattle.answer.specs.Sizes.{max_packet, max_name}
use Rattle.packet.specs.declared.End.TheVariants as end
use Rattle.packet.specs.declared.Kind.TheVariants as kind
use Rattle.packet.specs.declared.Packet.{Packet}
use Rattle.packet.specs.Kinds.{is_request}
use Rattle.packet.specs.Reader.{at, challenge_place, nt_response_place, read_packet, reading, place, nowhere}
use Rattle.packet.specs.Forms.{response_name_at, Tail, success_message, chap_packet, success_response}
use Rattle.mschap.specs.Users.{user_of}
use Rattle.mschap.specs.Responses.{nt_response, digits_of}
use Rattle.peer.specs.declared.Stage.{Stage}
use Rattle.peer.specs.declared.Stage.TheVariants.{Begin, ChallengeResponseSent, SuccessResponseSent, FailureResponseSent, Waiting, Success, Failed}
use Rattle.peer.specs.declared.Peer.{Peer}
use Rattle.peer.specs.State.{reply_room, own_name, last_request, last_reply, last_id, response_to, string_in, outstanding, computed_string, right_digits, staged, answered, supplied}
use Rattle.peer.specs.Moves.{takes, move_of, sent, waiting}
use Rattle.peer.specs.Calls.{new_of, renewed_in, digits_in, moved_of, step_of, supply_of}
use Rattle.peerlaws.specs.Exact.{Repeats, responding, supplying}
use Rattle.peerlaws.specs.Runs.{Call, step, supply, give_up, call_of, room_of, after, IsPeer, IsCall, AreCalls, Reached}

-- ---- 1. "What a call answers": the number, n, the state and the buffer that the call c can leave, where it took the state p and the buffer b
-- the numbers from 10 up that a packet can bring, and those of "other calls". What makes a peer is `NewExact`
abbrev pub CanRefuse : Call → ℕ → Type 0
CanRefuse (step s random room) k = (10 ≤ k) × (k ≤ 20)
CanRefuse (supply name hash random room) k = (k ≡ 19) ⊎ ((k ≡ 23) ⊎ (k ≡ 20))
CanRefuse give_up k = k ≡ 19

pub data Leaves (p : Peer) (c : Call) (b : List ℕ) : (k n : ℕ) (s : Peer) (b' : List ℕ) → Type 0 where
  written : (q : List ℕ) (s : Peer) → length q ≤ length b → sent s.stage ≡ true → Leaves p c b 0 (length q) s (over q b)
  credentials : (s : Peer) → s.stage ≡ Waiting → Leaves p c b 1 0 s b
  authenticated : (s : Peer) → s.stage ≡ Success → Leaves p c b 2 0 s b
  ended : (s : Peer) → s.stage ≡ Failed → Leaves p c b 3 0 s b
  -- "Numbers from 10 up change no state and no lent octet, and n = 0."
  refusal : (k : ℕ) → CanRefuse c k → Leaves p c b k 0 p b

abbrev pub AnswersLeave : Type 0
AnswersLeave =
    (p : Peer) (c : Call) (k n : ℕ) (s : Peer) (b b' : List ℕ) → length b ≡ room_of c → Does (call_of p c) k n s b b' →
    Leaves p c b k n s b'

-- ---- 2. A Success Response goes out first only in CHALLENGE_RESPONSE_SENT, and only for the right string
-- a Success Request with these digits
pub record Confirms (digits : List ℕ) (p : Peer) (s : List ℕ) : Type 0 where
  pub stage : p.stage ≡ ChallengeResponseSent
  pub packet : Packet
  pub reads : read_packet end.Peer s ≡ gives packet
  pub success : packet.kind ≡ kind.SuccessRequest
  pub right : digits_in packet (take packet.length s) ≡ digits

-- the call is a step, with such a packet
abbrev pub ByStep : (Peer → List ℕ → Type 0) → Peer → Call → Type 0
ByStep P p (step s random room) = P p s
ByStep P p (supply name hash random room) = ⊥
ByStep P p give_up = ⊥

abbrev pub SuccessOnlyIfRight : Type 0
SuccessOnlyIfRight = (p : Peer) (c : Call) (id : ℕ) → (call_of p c).octets ≡ success_response id → ByStep Repeats p c ⊎ ByStep (Confirms (right_digits p)) p c

-- "Success Request, right string" and "other string", at any tail: the digits alone decide
abbrev pub AnyTailTaken : Type 0
AnyTailTaken =
    (p : Peer) (i chapid : ℕ) (digits : List ℕ) (tail : Tail) (q pad random : List ℕ) (room : ℕ) →
    q ≡ chap_packet 1 3 i chapid (success_message digits tail) → length q ≤ max_packet → length digits ≡ 40 → all_hex false digits ≡ true →
    p.stage ≡ ChallengeResponseSent → (i ≡ last_id p → ⊥) →
    step_of p (q ++ pad) random room ≡ fitting room p
    (pick (same digits (right_digits p)) (outcome 0 (success_response i) (answered SuccessResponseSent q (success_response i) p))
    (outcome 3 [] (staged Failed p)))

-- one of the calls brought the string that 01 defines, and was answered 0
abbrev pub Accepts : Peer → Call → Type 0
Accepts p c = ByStep (Confirms (digits_of (computed_string p))) p c × ((call_of p c).number ≡ 0)

abbrev pub SomeAccepts : Peer → List Call → Type 0
SomeAccepts p [] = ⊥
SomeAccepts p (c ∷ cs) = Accepts p c ⊎ SomeAccepts (call_of p c).state cs

-- over any calls on from a made peer p, of which c is the last: no Success Response, and no answer 2, without it
abbrev pub SuccessEarned : Type 0
SuccessEarned =
    (name hash : List ℕ) (cs : List Call) (c : Call) (p : Peer) (id : ℕ) → length hash ≡ 16 → AreCalls cs → p ≡ (new_of name hash).state →
    ((call_of (after p cs) c).octets ≡ success_response id) ⊎ ((call_of (after p cs) c).number ≡ 2) → SomeAccepts p (cs ++ (c ∷ []))

-- ---- 3. The repeat rule
-- a whole packet that is a Request
pub record Request (q : List ℕ) : Type 0 where
  pub packet : Packet
  pub reads : read_packet end.Peer q ≡ gives packet
  pub whole : packet.length ≡ length q
  pub request : is_request packet.kind ≡ true

-- the call answered the request q: a packet's first L octets, or the kept request
abbrev pub Answers : Peer → Call → List ℕ → Type 0
Answers p (step s random room) q = ((step_of p s random room).number ≡ 0) × (q ≡ take (number_at Big s 2) s)
Answers p (supply name hash random room) q = ((supply_of p name hash random room).number ≡ 0) × (q ≡ last_request p)
Answers p give_up q = ⊥

-- a call that brings no new answer: it is refused, or the answered request came again
abbrev pub NoNewAnswer : Peer → Call → Type 0
NoNewAnswer p c = (10 ≤ (call_of p c).number) ⊎ ByStep Repeats p c

abbrev pub NoNewAnswers : Peer → List Call → Type 0
NoNewAnswers p [] = Unit {0}
NoNewAnswers p (c ∷ cs) = NoNewAnswer p c × NoNewAnswers (call_of p c).state cs

-- p' is the state after c, which answered q, and any such calls: q comes again, with any padding
abbrev pub Repeated : Peer → Type 0
Repeated p =
    (p' : Peer) (c : Call) (cs : List Call) (q pad random : List ℕ) (room : ℕ) →
    IsCall c → Answers p c q → NoNewAnswers (call_of p c).state cs → p' ≡ after (call_of p c).state cs →
    step_of p' (q ++ pad) random room ≡ fitting room p' (outcome 0 (call_of p c).octets p')

-- from any state, but that a WAITING one keeps a Request; from any state that calls make
abbrev pub RepeatRule : Type 0
RepeatRule = (p : Peer) → IsPeer p → (waiting p.stage ≡ true → Request (last_request p)) → Repeated p

abbrev pub RepeatRuleReached : Type 0
RepeatRuleReached = (p : Peer) → Reached p → Repeated p

-- ---- 4. Identifiers are compared for equality only: but for itself, an Identifier that is not the last answered one changes nothing
unfoldable pub unnumbered_state : Peer → Peer
unnumbered_state p =
    record { stage = p.stage; credentials = p.credentials; challenges = p.challenges; request = set p.request 1 0; requestlen = p.requestlen; reply = set p.reply 1 0; replylen = p.replylen }

-- an outcome with 0 for the Identifier in its reply, and in the request and the reply that the state stores
unfoldable pub unnumbered : Outcome Peer → Outcome Peer
unnumbered o = outcome o.number (set o.octets 1 0) (unnumbered_state o.state)

-- the Identifier is not the last answered one, of which only the SENT stages take note
abbrev pub Unlike : Peer → ℕ → Type 0
Unlike p i = sent p.stage ≡ true → i ≡ last_id p → ⊥

abbrev pub EqualityOnly : Type 0
EqualityOnly =
    (p : Peer) (code i j : ℕ) (rest random : List ℕ) (room : ℕ) → Unlike p i → Unlike p j →
    unnumbered (step_of p (code ∷ i ∷ rest) random room) ≡ unnumbered (step_of p (code ∷ j ∷ rest) random room)

-- ---- 5. "WAITING, SUCCESS, FAILED | no packet | 19"
-- 10 to 17 where the reader gives one, and else 19
abbrev pub NoPacketTaken : Type 0
NoPacketTaken =
    (p : Peer) (s random : List ℕ) (room k : ℕ) → (p.stage ≡ Waiting) ⊎ ((p.stage ≡ Success) ⊎ (p.stage ≡ Failed)) → k ≡ (read_packet end.Peer s).number →
    step_of p s random room ≡ refused (pick (eqb k 0) 19 k) p

-- ---- 6. Replies. The packet that a call answers
abbrev pub request_of : Peer → Call → List ℕ
request_of p (step s random room) = s
request_of p (supply name hash random room) = last_request p
request_of p give_up = []

-- what the server's reader makes of w, whatever padding follows
abbrev pub ReadsAs : List ℕ → Packet → Type 0
ReadsAs w x = (pad : List ℕ) → read_packet end.Server (w ++ pad) ≡ gives x

-- the reply w to that packet, where s is the state after the call: it has the packet's Identifier, and a Response has its MS-CHAPv2-ID too,
-- and the peer challenge, the NT-Response and the name of s
abbrev pub ReadsBack : List ℕ → Stage → Peer → List ℕ → Type 0
ReadsBack request Begin s w = ⊥
ReadsBack request ChallengeResponseSent s w =
    ReadsAs w (reading kind.Response (get_or request 1 0) (get_or request 6 0) (response_name_at + length (own_name s)) 0 challenge_place nt_response_place (place response_name_at (length (own_name s))))
    × (at w challenge_place ≡ s.challenges.own)
    × (at w nt_response_place ≡ nt_response s.challenges.authenticator s.challenges.own (user_of (own_name s)) s.credentials.hash)
    × (part w response_name_at (length (own_name s)) ≡ own_name s)
ReadsBack request SuccessResponseSent s w = ReadsAs w (reading kind.SuccessResponse (get_or request 1 0) 0 6 0 nowhere nowhere nowhere)
ReadsBack request FailureResponseSent s w = ReadsAs w (reading kind.FailureResponse (get_or request 1 0) 0 6 0 nowhere nowhere nowhere)
ReadsBack request Waiting s w = ⊥
ReadsBack request Success s w = ⊥
ReadsBack request Failed s w = ⊥

-- and n, which is how many octets it has, is its L
abbrev pub RepliesReadBack : Type 0
RepliesReadBack =
    (p : Peer) (c : Call) → Reached p → IsCall c → (call_of p c).number ≡ 0 →
    ReadsBack (request_of p c) (call_of p c).state.stage (call_of p c).state (call_of p c).octets
    × (length (call_of p c).octets ≡ number_at Big (call_of p c).octets 2)

-- "the peer takes any MS-CHAPv2-ID": k is read of the packet, a Request that the stage takes, and is asked for its Identifier alone
abbrev pub AnyChapIdTaken : Type 0
AnyChapIdTaken =
    (p : Peer) (s random : List ℕ) (room : ℕ) (k : Packet) → read_packet end.Peer s ≡ gives k →
    takes p.stage k.kind ≡ true → is_request k.kind ≡ true → Unlike p k.id.0 →
    step_of p s random room ≡ moved_of (move_of k.kind) p k (take k.length s) random room

-- ---- 7. Over any calls on from a made peer
pub record Consistent (p : Peer) : Type 0 where
  -- while a Response is outstanding, the stored reply is the Response that the state's name, hash and challenges give
  pub response : p.stage ≡ ChallengeResponseSent → last_reply p ≡ outstanding p
  -- "The peer's right string is the one so computed from its own hash and its outstanding Response."
  pub string : p.stage ≡ ChallengeResponseSent → p.challenges.expected ≡ string_in p.credentials.hash p.challenges.authenticator (last_reply p)
  -- n of a repeat is the stored packet's L
  pub size : (s random : List ℕ) (room : ℕ) → Repeats p s → (step_of p s random room).number ≡ 0 → length (step_of p s random room).octets ≡ number_at Big (last_reply p) 2
  -- what is kept as the request is one
  pub request : (sent p.stage || waiting p.stage) ≡ true → Request (last_request p)

abbrev pub StateConsistent : Type 0
StateConsistent = (p : Peer) → Reached p → Consistent p

-- ---- 8. "it keeps the last answered request"; "answer 1; WAITING, keeping that request and C"
abbrev pub RequestKept : Type 0
RequestKept =
    (p : Peer) (s random : List ℕ) (room : ℕ) → (step_of p s random room).number ≤ 1 →
    last_request (step_of p s random room).state ≡ take (number_at Big s 2) s

-- "a Response to C follows, under the kept request's Identifier and MS-CHAPv2-ID": k was read of the packet s, which was answered 1, and p'
-- is the state after it and any refused calls
abbrev pub RetryAnswersC : Type 0
RetryAnswersC =
    (p p' : Peer) (s random : List ℕ) (room : ℕ) (k : Packet) (cs : List Call) (name hash own w : List ℕ) (room' : ℕ) →
    read_packet end.Peer s ≡ gives k → (step_of p s random room).number ≡ 1 →
    NoNewAnswers (step_of p s random room).state cs → p' ≡ after (step_of p s random room).state cs → length name ≤ max_name →
    w ≡ response_to k.id.0 k.chapid.0 (renewed_in k (take k.length s)) own name hash →
    supply_of p' name hash own room' ≡ fitting room' p' (outcome 0 w (supplied name hash own k.chapid w p'))

-- ---- 9. The random octets are "used only as the peer challenge of a Response made in that step"
-- one is made exactly where a packet is answered 0 in BEGIN
abbrev pub MakesResponse : Peer → List ℕ → List ℕ → ℕ → Type 0
MakesResponse p s random room = (p.stage ≡ Begin) × ((step_of p s random room).number ≡ 0)

-- the packet is a Challenge, and the whole outcome its Response, of which they are the peer challenge
pub record Responds (p : Peer) (s random : List ℕ) (room : ℕ) : Type 0 where
  pub packet : Packet
  pub reads : read_packet end.Peer s ≡ gives packet
  pub challenge : packet.kind ≡ kind.Challenge
  pub is : step_of p s random room ≡ responding p packet (take packet.length s) random

abbrev pub RandomOnlyInResponse : Type 0
RandomOnlyInResponse =
    (p : Peer) (s random other : List ℕ) (room : ℕ) → length random ≡ 16 → length other ≡ 16 →
    ((step_of p s random room).number ≡ (step_of p s other room).number)
    × ((MakesResponse p s random room → ⊥) → step_of p s random room ≡ step_of p s other room)
    × (MakesResponse p s random room → Responds p s random room)

-- a supply that is answered 0 makes one
abbrev pub RandomOnlyInSupply : Type 0
RandomOnlyInSupply =
    (p : Peer) (name hash random other : List ℕ) (room : ℕ) → length random ≡ 16 → length other ≡ 16 →
    ((supply_of p name hash random room).number ≡ (supply_of p name hash other room).number)
    × (((supply_of p name hash random room).number ≡ 0 → ⊥) → supply_of p name hash random room ≡ supply_of p name hash other room)
    × ((supply_of p name hash random room).number ≡ 0 → supply_of p name hash random room ≡ supplying p name hash random)

-- ---- 10. A reply buffer of `REPLY_ROOM` is always enough: no call that has it is answered 20. It holds of every value of the struct, so of every
-- state that can be handed in, whatever its lengths say
abbrev pub HasRoom : Call → Type 0
HasRoom (step s random room) = reply_room ≤ room
HasRoom (supply name hash random room) = reply_room ≤ room
HasRoom give_up = Unit {0}

abbrev pub RoomEnough : Type 0
RoomEnough = (p : Peer) (c : Call) → IsPeer p → IsCall c → HasRoom c → (call_of p c).number ≡ 20 → ⊥
