-- What a step tells of the server's text.
use Prim.Native.Nat.{ℕ, ◌+◌, ◌≤◌, ◌<◌}
use mathlib.Core.Path.{◌≡◌, refl, ap, ◌∙◌}
use mathlib.Core.List.{List, ◌++◌}
use native.Mathlib.Omega.{arith}
use lib.ListN.{length}
use lib.Dec.{eqb}
use borrow.Author.Tests.{lt-ltb, le-ltb}
use Rattle.octets.proofs.Exits.{pick_true, pick_false, tested}
use Rattle.answer.specs.Outcome.{gives, Outcome}
use Rattle.answer.specs.Sizes.{max_packet}
use Rattle.answer.proofs.Outcomes.{fitting_so}
use Rattle.packet.specs.declared.End.TheVariants as end
use Rattle.packet.specs.declared.Packet.{Packet}
use Rattle.packet.specs.Forms.{FailureSpelling, failure_message, chap_packet}
use Rattle.packet.specs.Learned.{failure_reading}
use Rattle.octets.specs.Octets.{number}
use Rattle.packet.specs.Reader.{at, nowhere, failure_of, read_packet}
use Rattle.packet.specs.Texts.{text_place, text_part}
use Rattle.packet.proofs.Back.{written_reads_back}
use Rattle.packet.proofs.Texts.{text_is_told}
use Rattle.peer.specs.declared.Stage.TheVariants.{ChallengeResponseSent}
use Rattle.peer.specs.declared.Peer.{Peer}
use Rattle.peer.specs.State.{last_reply, last_id}
use Rattle.peer.specs.Calls.{step_of, text_by, step_text}
use Rattle.peerlaws.specs.Exact.{Repeats}
use Rattle.peerlaws.specs.Texts.{StepTells}
use Rattle.peerlaws.proofs.Forward.{fails_so, waits_so}
use Rattle.peerlaws.proofs.Repeats.{repeat_again}

module _ (p : Peer) (s random : List ℕ) (room : ℕ) where
  answered : (step_of p s random room).number < 10 → step_text p s random room ≡ text_place end.Peer s
  unfolding step_text text_by
  answered h = pick_true _ _ _ (lt-ltb _ _ h)

  refuses : 10 ≤ (step_of p s random room).number → step_text p s random room ≡ nowhere
  unfolding step_text text_by
  refuses h = pick_false _ _ _ (le-ltb _ _ h)

  -- an answer is told by its number
  answered_by : (o : Outcome Peer) → step_of p s random room ≡ o → o.number < 10 → step_text p s random room ≡ text_place end.Peer s
  answered_by o e h = answered (rw e h)

  repeated_tells : Repeats p s → length (last_reply p) ≤ room → step_text p s random room ≡ text_place end.Peer s
  repeated_tells t h = answered_by _ (repeat_again p s random room t ∙ fitting_so room p _ h) (omega arith)

  -- a Failure Request that is taken, by its R
  failure_told : (k : Packet) (retry : ℕ) → read_packet end.Peer s ≡ gives k → k.kind ≡ failure_of retry → p.stage ≡ ChallengeResponseSent → (k.id.0 ≡ last_id p → ⊥) → 6 ≤ room → step_text p s random room ≡ text_place end.Peer s
  unfolding failure_of
  failure_told k retry e f g d h =
      tested (eqb retry 1)
      (λ t. answered_by _ (waits_so p s random room k e g (f ∙ pick_true _ _ _ t) d) (omega arith))
      (λ t. answered_by _ (fails_so p s random room k e g (f ∙ pick_false _ _ _ t) d h) (omega arith))

failure_shown : (p : Peer) (i chapid : ℕ) (e : List ℕ) (retry : ℕ) (c v text pad random : List ℕ) (room : ℕ) (s : List ℕ) →
    s ≡ chap_packet 1 4 i chapid (failure_message e (48 + retry) c v text) ++ pad → FailureSpelling e retry c v → 56 + length e + length v + length text ≤ max_packet →
    p.stage ≡ ChallengeResponseSent → (i ≡ last_id p → ⊥) → 6 ≤ room → at s (step_text p s random room) ≡ text
unfolding text_part
failure_shown p i chapid e retry c v text pad random room s is f few g d h =
    let k = failure_reading i chapid (number e) retry (length e) (56 + length e + length v) text in
    let reads : read_packet end.Peer s ≡ gives k = ap (read_packet end.Peer) is ∙ (written_reads_back.failure_request i chapid e retry c v text pad f few).reads in
    ap (at s) (failure_told p s random room k retry reads refl g d h) ∙ ap (text_part end.Peer) is ∙ (text_is_told.failure i chapid e retry c v text pad f few).is

pub step_tells : StepTells
step_tells = record { answered = answered; refused = refuses; repeated = repeated_tells; failure = failure_shown }
