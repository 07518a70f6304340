-- Every call, by what it does where a reply fits: the cases that each promise goes through.
use Prim.Native.Nat.{ℕ, ◌≤◌}
use mathlib.Core.Path.{◌≡◌, refl}
use mathlib.Core.List.{List, []}
use mathlib.Core.Logic.{◌⊎◌, inl, inr}
use native.Mathlib.Omega.{arith}
use lib.ListN.{length, take}
use Rattle.octets.proofs.Exits.{below}
use Rattle.answer.specs.Outcome.{gives, Outcome, outcome, refused, fitting}
use Rattle.answer.specs.Sizes.{max_name}
use Rattle.answer.proofs.Outcomes.{fitting_so, fitting_not}
use Rattle.packet.specs.declared.End.TheVariants as end
use Rattle.packet.specs.declared.Kind.TheVariants.{Challenge, SuccessRequest, FailureRequest, RetryRequest}
use Rattle.packet.specs.declared.Packet.{Packet}
use Rattle.packet.specs.Reader.{read_packet}
use Rattle.packet.specs.Forms.{success_response, failure_response}
use Rattle.peer.specs.declared.Stage.TheVariants.{Begin, ChallengeResponseSent, SuccessResponseSent, FailureResponseSent, Waiting, Success, Failed}
use Rattle.peer.specs.declared.Peer.{Peer}
use Rattle.peer.specs.State.{last_reply, right_digits, staged, answered, awaiting}
use Rattle.peer.specs.Calls.{renewed_in, digits_in, response_in, step_of, response_by, supply_of, give_up_of}
use Rattle.peerlaws.specs.Exact.{Repeats, responding, Row, challenge, right_string, other_string, no_retry, retry, eap_success, eap_failure, Steps, unread, repeat, not_taken, wrong_identifier, taken, supplying, Supplies, GivesUp}
use Rattle.peerlaws.specs.Exact as exact
use Rattle.peerlaws.proofs.Exact.{steps, supplies, gives_up_lem}

-- ---- a packet. q is what it is cut to, k what was read of it
pub data Moved (p : Peer) (k : Packet) (q random : List ℕ) (room : ℕ) : Outcome Peer → Type 0 where
  responds : p.stage ≡ Begin → k.kind ≡ Challenge → length (response_in p k q random) ≤ room → Moved p k q random room (responding p k q random)
  accepts : p.stage ≡ ChallengeResponseSent → k.kind ≡ SuccessRequest → digits_in k q ≡ right_digits p → 6 ≤ room → Moved p k q random room (outcome 0 (success_response k.id.0) (answered SuccessResponseSent q (success_response k.id.0) p))
  fails : p.stage ≡ ChallengeResponseSent → k.kind ≡ FailureRequest → 6 ≤ room → Moved p k q random room (outcome 0 (failure_response k.id.0) (answered FailureResponseSent q (failure_response k.id.0) p))
  waits : p.stage ≡ ChallengeResponseSent → k.kind ≡ RetryRequest → Moved p k q random room (outcome 1 [] (awaiting (renewed_in k q) q p))
  succeeds : p.stage ≡ SuccessResponseSent → Moved p k q random room (outcome 2 [] (staged Success p))
  ends : Moved p k q random room (outcome 3 [] (staged Failed p))

pub data Stepped (p : Peer) (s random : List ℕ) (room : ℕ) : Outcome Peer → Type 0 where
  refuses : (n : ℕ) → 10 ≤ n → n ≤ 20 → Stepped p s random room (refused n p)
  repeats_it : Repeats p s → length (last_reply p) ≤ room → Stepped p s random room (outcome 0 (last_reply p) p)
  moves : (k : Packet) → read_packet end.Peer s ≡ gives k → {o : Outcome Peer} → Moved p k (take k.length s) random room o → Stepped p s random room o

-- 20, or what fits
fits : (P : Outcome Peer → Type 0) (p next : Peer) (n : ℕ) (q : List ℕ) (room : ℕ) → P (refused 20 p) → (length q ≤ room → P (outcome n q next)) → P (fitting room p (outcome n q next))
fits P p next n q room x y =
    below room (length q)
    (λ h. rw (fitting_not room p (outcome n q next) h) x)
    (λ h. rw (fitting_so room p (outcome n q next) h) (y h))

module _ (p : Peer) (s random : List ℕ) (room : ℕ) where
  -- what was written, where it fits
  sending : (q : List ℕ) (next : Peer) → (length q ≤ room → Stepped p s random room (outcome 0 q next)) → Stepped p s random room (fitting room p (outcome 0 q next))
  sending q next m = fits (Stepped p s random room) p next 0 q room (refuses 20 (omega arith) (omega arith)) m

  row_seen : (k : Packet) → read_packet end.Peer s ≡ gives k → {o : Outcome Peer} → Row p k (take k.length s) random room o → Stepped p s random room o
  row_seen k e (challenge f g) = sending _ _ (λ h. moves k e (responds f g h))
  row_seen k e (right_string f g d) = sending _ _ (λ h. moves k e (accepts f g d h))
  row_seen k e (other_string f g n) = moves k e ends
  row_seen k e (no_retry f g) = sending _ _ (λ h. moves k e (fails f g h))
  row_seen k e (retry f g) = moves k e (waits f g)
  row_seen k e (eap_success f g) = moves k e (succeeds f)
  row_seen k e (eap_failure f g) = moves k e ends

  step_seen : {o : Outcome Peer} → Steps p s random room o → Stepped p s random room o
  step_seen (unread n e h l) = refuses n h (omega arith)
  step_seen (repeat r) = sending (last_reply p) p (repeats_it r)
  step_seen (not_taken k e n t) = refuses 19 (omega arith) (omega arith)
  step_seen (wrong_identifier k e n t m) = refuses 18 (omega arith) (omega arith)
  step_seen (taken k e n m r) = row_seen k e r

pub stepped : (p : Peer) (s random : List ℕ) (room : ℕ) → Stepped p s random room (step_of p s random room)
stepped p s random room = step_seen p s random room (steps p s random room)

-- ---- the two calls of WAITING
pub data Supplied (p : Peer) (name hash random : List ℕ) (room : ℕ) : Outcome Peer → Type 0 where
  refuses : (n : ℕ) → 10 ≤ n → (n ≡ 19) ⊎ ((n ≡ 23) ⊎ (n ≡ 20)) → Supplied p name hash random room (refused n p)
  supplies_it : p.stage ≡ Waiting → length name ≤ max_name → length (response_by p name hash random) ≤ room → Supplied p name hash random room (supplying p name hash random)

pub data GaveUp (p : Peer) : Outcome Peer → Type 0 where
  refuses : (n : ℕ) → 10 ≤ n → n ≡ 19 → GaveUp p (refused n p)
  ends : p.stage ≡ Waiting → GaveUp p (outcome 3 [] (staged Failed p))

supply_seen : {p : Peer} {name hash random : List ℕ} {room : ℕ} {o : Outcome Peer} → Supplies p name hash random room o → Supplied p name hash random room o
supply_seen (exact.not_waiting n) = refuses 19 (omega arith) (inl refl)
supply_seen (exact.too_long w h) = refuses 23 (omega arith) (inr (inl refl))
supply_seen {p} {name} {hash} {random} {room} (exact.answers w h) = fits (Supplied p name hash random room) p _ 0 _ room (refuses 20 (omega arith) (inr (inr refl))) (supplies_it w h)

give_up_seen : {p : Peer} {o : Outcome Peer} → GivesUp p o → GaveUp p o
give_up_seen (exact.not_waiting n) = refuses 19 (omega arith) refl
give_up_seen (exact.ends w) = ends w

pub supplied : (p : Peer) (name hash random : List ℕ) (room : ℕ) → Supplied p name hash random room (supply_of p name hash random room)
supplied p name hash random room = supply_seen (supplies p name hash random room)

pub gave_up : (p : Peer) → GaveUp p (give_up_of p)
gave_up p = give_up_seen (gives_up_lem p)
