-- 01, "What a call answers": "Each is given exactly when its condition holds and none earlier in the order does." Every answer of the peer's calls
-- with its condition; p is any state.
use Rattle.std.specs.Prelude.{ℕ, ◌≤◌, ◌<◌, ◌≡◌, List, [], true, false, length, take, replicate}
use Rattle.answer.specs.Outcome.{gives, Outcome, outcome, refused, fitting}
use Rattle.answer.specs.Promises.{Exactly}
use Rattle.answer.specs.Sizes.{max_name}
use Rattle.packet.specs.declared.End.TheVariants as end
use Rattle.packet.specs.declared.Kind.TheVariants as kind
use Rattle.packet.specs.declared.Packet.{Packet}
use Rattle.packet.specs.Kinds.{is_request}
use Rattle.packet.specs.Reader.{read_packet, challenge_in}
use Rattle.packet.specs.Forms.{success_response, failure_response}
use Rattle.peer.specs.declared.Stage.TheVariants.{Begin, ChallengeResponseSent, SuccessResponseSent, FailureResponseSent, Waiting, Success, Failed}
use Rattle.peer.specs.declared.Peer.{Peer}
use Rattle.peer.specs.State.{last_request, last_reply, last_id, last_chap_id, right_digits, initial, staged, answered, responded, awaiting, supplied}
use Rattle.peer.specs.Moves.{takes, sent}
use Rattle.peer.specs.Calls.{new_of, renewed_in, digits_in, response_in, step_of, response_by, supply_of, give_up_of}

-- ---- a packet: k is what was read of it, and q its first L octets
-- the repeat rule's case: "in the three SENT stages a Request whose first L octets equal the last answered request's"
pub record Repeats (p : Peer) (s : List ℕ) : Type 0 where
  pub stage : sent p.stage ≡ true
  pub packet : Packet
  pub reads : read_packet end.Peer s ≡ gives packet
  pub request : is_request packet.kind ≡ true
  pub same : take packet.length s ≡ last_request p

-- number 18's case: "another Request with the last answered Identifier, or an EAP Success or Failure whose Identifier differs from it"
pub data Misnumbered (p : Peer) (k : Packet) : Type 0 where
  another_request : sent p.stage ≡ true → is_request k.kind ≡ true → k.id.0 ≡ last_id p → Misnumbered p k
  other_end : sent p.stage ≡ true → is_request k.kind ≡ false → (k.id.0 ≡ last_id p → ⊥) → Misnumbered p k

-- the Response to the Challenge q, and what it leaves
abbrev pub responding : Peer → Packet → List ℕ → List ℕ → Outcome Peer
responding p k q random = outcome 0 (response_in p k q random) (responded (challenge_in k q) random k.chapid q (response_in p k q random) p)

-- the rows of the table, "Takes" and "Then". `fitting` is number 20
pub data Row (p : Peer) (k : Packet) (q random : List ℕ) (room : ℕ) : Outcome Peer → Type 0 where
  challenge : p.stage ≡ Begin → k.kind ≡ kind.Challenge → Row p k q random room (fitting room p (responding p k q random))
  right_string : p.stage ≡ ChallengeResponseSent → k.kind ≡ kind.SuccessRequest → digits_in k q ≡ right_digits p →
      Row p k q random room (fitting room p (outcome 0 (success_response k.id.0) (answered SuccessResponseSent q (success_response k.id.0) p)))
  other_string : p.stage ≡ ChallengeResponseSent → k.kind ≡ kind.SuccessRequest → (digits_in k q ≡ right_digits p → ⊥) →
      Row p k q random room (outcome 3 [] (staged Failed p))
  no_retry : p.stage ≡ ChallengeResponseSent → k.kind ≡ kind.FailureRequest →
      Row p k q random room (fitting room p (outcome 0 (failure_response k.id.0) (answered FailureResponseSent q (failure_response k.id.0) p)))
  retry : p.stage ≡ ChallengeResponseSent → k.kind ≡ kind.RetryRequest → Row p k q random room (outcome 1 [] (awaiting (renewed_in k q) q p))
  eap_success : p.stage ≡ SuccessResponseSent → k.kind ≡ kind.EapSuccess → Row p k q random room (outcome 2 [] (staged Success p))
  eap_failure : sent p.stage ≡ true → k.kind ≡ kind.EapFailure → Row p k q random room (outcome 3 [] (staged Failed p))

-- "Order for a packet: 10 to 17, then the repeat rule (peer), 19, 18, 21, 22, 20."
pub data Steps (p : Peer) (s random : List ℕ) (room : ℕ) : Outcome Peer → Type 0 where
  unread : (n : ℕ) → (read_packet end.Peer s).number ≡ n → 10 ≤ n → n ≤ 17 → Steps p s random room (refused n p)
  repeat : Repeats p s → Steps p s random room (fitting room p (outcome 0 (last_reply p) p))
  not_taken : (k : Packet) → read_packet end.Peer s ≡ gives k → (Repeats p s → ⊥) → takes p.stage k.kind ≡ false →
      Steps p s random room (refused 19 p)
  wrong_identifier : (k : Packet) → read_packet end.Peer s ≡ gives k → (Repeats p s → ⊥) → takes p.stage k.kind ≡ true → Misnumbered p k →
      Steps p s random room (refused 18 p)
  taken : (k : Packet) → read_packet end.Peer s ≡ gives k → (Repeats p s → ⊥) → (Misnumbered p k → ⊥) →
      {o : Outcome Peer} → Row p k (take k.length s) random room o → Steps p s random room o

abbrev pub StepExact : Type 0
StepExact = (p : Peer) (s random : List ℕ) (room : ℕ) → Exactly (Steps p s random room) (step_of p s random room)

-- ---- "For other calls: 19, 23, 20."
-- "a Response to C follows, under the kept request's Identifier and MS-CHAPv2-ID"
abbrev pub supplying : Peer → List ℕ → List ℕ → List ℕ → Outcome Peer
supplying p name hash random = outcome 0 (response_by p name hash random) (supplied name hash random (record { 0 = last_chap_id p }) (response_by p name hash random) p)

pub data Supplies (p : Peer) (name hash random : List ℕ) (room : ℕ) : Outcome Peer → Type 0 where
  not_waiting : (p.stage ≡ Waiting → ⊥) → Supplies p name hash random room (refused 19 p)
  too_long : p.stage ≡ Waiting → max_name < length name → Supplies p name hash random room (refused 23 p)
  answers : p.stage ≡ Waiting → length name ≤ max_name → Supplies p name hash random room (fitting room p (supplying p name hash random))

abbrev pub SupplyExact : Type 0
SupplyExact = (p : Peer) (name hash random : List ℕ) (room : ℕ) → Exactly (Supplies p name hash random room) (supply_of p name hash random room)

pub data GivesUp (p : Peer) : Outcome Peer → Type 0 where
  not_waiting : (p.stage ≡ Waiting → ⊥) → GivesUp p (refused 19 p)
  ends : p.stage ≡ Waiting → GivesUp p (outcome 3 [] (staged Failed p))

abbrev pub GiveUpExact : Type 0
GiveUpExact = (p : Peer) → Exactly (GivesUp p) (give_up_of p)

-- "A peer is made from name and hash (0, n = 0; or 23 and a FAILED peer, all else zero)"
pub data Makes (name hash : List ℕ) : Outcome Peer → Type 0 where
  too_long : max_name < length name → Makes name hash (outcome 23 [] (initial Failed [] (replicate 16 0)))
  makes : length name ≤ max_name → Makes name hash (outcome 0 [] (initial Begin name hash))

abbrev pub NewExact : Type 0
NewExact = (name hash : List ℕ) → Exactly (Makes name hash) (new_of name hash)
