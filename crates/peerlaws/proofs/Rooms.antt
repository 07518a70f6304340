-- A reply buffer of 315 octets is enough for every call.
use Prim.Native.Nat.{ℕ, ◌≤◌}
use mathlib.Core.Path.{◌≡◌, sym, ap, ◌∙◌}
use mathlib.Core.List.{List}
use native.Mathlib.Omega.{arith}
use lib.ListN.{length, length-take}
use Rattle.answer.specs.Outcome.{Outcome, outcome, fitting}
use Rattle.answer.proofs.Outcomes.{fitting_so}
use Rattle.packet.specs.declared.Packet.{Packet}
use Rattle.packet.specs.Reader.{challenge_in}
use Rattle.peer.specs.declared.Peer.{Peer}
use Rattle.peer.specs.State.{reply_room, own_name, last_reply, last_id, last_chap_id}
use Rattle.peer.specs.Calls.{response_by}
use Rattle.peer.proofs.Replies.{length_response_to}
use Rattle.peerlaws.specs.Runs.{step, supply, give_up, call_of, IsPeer}
use Rattle.peerlaws.specs.Exact.{Row, challenge, right_string, other_string, no_retry, retry, eap_success, eap_failure, Steps, unread, repeat, not_taken, wrong_identifier, taken, Supplies, GivesUp}
use Rattle.peerlaws.specs.Exact as exact
use Rattle.peerlaws.specs.Promises.{RoomEnough}
use Rattle.peerlaws.proofs.Exact.{steps, supplies, gives_up_lem}
use Rattle.peerlaws.proofs.Repeats.{few}

module _ (p : Peer) (i : IsPeer p) (room : ℕ) (roomy : reply_room ≤ room) where
  enough : (w : List ℕ) (n : Peer) → length w ≤ reply_room → (fitting room p (outcome 0 w n)).number ≡ 20 → ⊥
  enough w n h z =
      let y : ◌≡◌ {A = ℕ} 0 20 = sym (ap (λ (o : Outcome Peer). o.number) (fitting_so room p (outcome 0 w n) (omega arith))) ∙ z in
      omega arith

  stored : length (last_reply p) ≤ reply_room
  unfolding last_reply
  stored = omega (arith, length-take p.replylen p.reply, i.reply)

  row_enough : {k : Packet} {q random : List ℕ} {o : Outcome Peer} → length random ≡ 16 → Row p k q random room o → o.number ≡ 20 → ⊥
  row_enough {k} {q} {random} r (challenge f g) z = enough _ _ (omega (arith, few p i, length_response_to k.id.0 k.chapid.0 (challenge_in k q) random (own_name p) p.credentials.hash r)) z
  row_enough r (right_string f g d) z = enough _ _ (omega arith) z
  row_enough r (other_string f g n) z = omega arith
  row_enough r (no_retry f g) z = enough _ _ (omega arith) z
  row_enough r (retry f g) z = omega arith
  row_enough r (eap_success f g) z = omega arith
  row_enough r (eap_failure f g) z = omega arith

  step_enough : {s random : List ℕ} {o : Outcome Peer} → length random ≡ 16 → Steps p s random room o → o.number ≡ 20 → ⊥
  step_enough r (unread n e h l) z = omega arith
  step_enough r (repeat t) z = enough (last_reply p) p stored z
  step_enough r (not_taken k e n t) z = omega arith
  step_enough r (wrong_identifier k e n t m) z = omega arith
  step_enough r (taken k e n m t) z = row_enough r t z

  supply_enough : {name hash random : List ℕ} {o : Outcome Peer} → length random ≡ 16 → Supplies p name hash random room o → o.number ≡ 20 → ⊥
  unfolding response_by
  supply_enough r (exact.not_waiting n) z = omega arith
  supply_enough r (exact.too_long w h) z = omega arith
  supply_enough {name} {hash} {random} r (exact.answers w h) z = enough _ _ (omega (arith, length_response_to (last_id p) (last_chap_id p) p.challenges.authenticator random name hash r)) z

give_up_enough : {p : Peer} {o : Outcome Peer} → GivesUp p o → o.number ≡ 20 → ⊥
give_up_enough (exact.not_waiting n) z = omega arith
give_up_enough (exact.ends w) z = omega arith

pub room_enough : RoomEnough
unfolding call_of
room_enough p (step s random room) i r h z = step_enough p i room h r (steps p s random room) z
room_enough p (supply name hash random room) i r h z = supply_enough p i room h r.1 (supplies p name hash random room) z
room_enough p give_up i r h z = give_up_enough (gives_up_lem p) z
