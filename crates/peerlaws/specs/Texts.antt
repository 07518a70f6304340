-- 02 [7], "Show the clerk why.": what a step tells of the server's text.
use Rattle.std.specs.Prelude.{ℕ, ◌+◌, ◌≤◌, ◌<◌, ◌≡◌, List, ◌++◌, length}
use Rattle.answer.specs.Sizes.{max_packet}
use Rattle.packet.specs.declared.End.TheVariants as end
use Rattle.packet.specs.Forms.{FailureSpelling, failure_message, chap_packet}
use Rattle.packet.specs.Reader.{at, nowhere}
use Rattle.packet.specs.Texts.{text_place}
use Rattle.peer.specs.declared.Stage.TheVariants.{ChallengeResponseSent}
use Rattle.peer.specs.declared.Peer.{Peer}
use Rattle.peer.specs.State.{last_reply, last_id}
use Rattle.peer.specs.Calls.{step_of, step_text}
use Rattle.peerlaws.specs.Exact.{Repeats}

-- "Everything that calls the two readers carries the longer promise, the peer's step as start and length (0 and 0 where it refuses or the packet is
-- neither)."
pub record StepTells : Type 0 where
  -- in every state, for every packet: a step that answers tells the reader's place, which is at 0 where the packet is neither
  pub answered : (p : Peer) (s random : List ℕ) (room : ℕ) → (step_of p s random room).number < 10 → step_text p s random room ≡ text_place end.Peer s
  pub refused : (p : Peer) (s random : List ℕ) (room : ℕ) → 10 ≤ (step_of p s random room).number → step_text p s random room ≡ nowhere
  -- a repeat that is answered
  pub repeated : (p : Peer) (s random : List ℕ) (room : ℕ) → Repeats p s → length (last_reply p) ≤ room → step_text p s random room ≡ text_place end.Peer s
  -- a Failure Request with any text, R=0 or R=1, where the peer takes it: the clerk is shown that text
  pub failure : (p : Peer) (i chapid : ℕ) (e : List ℕ) (retry : ℕ) (c v text pad random : List ℕ) (room : ℕ) (s : List ℕ) →
      s ≡ chap_packet 1 4 i chapid (failure_message e (48 + retry) c v text) ++ pad → FailureSpelling e retry c v → 56 + length e + length v + length text ≤ max_packet →
      p.stage ≡ ChallengeResponseSent → (i ≡ last_id p → ⊥) → 6 ≤ room → at s (step_text p s random room) ≡ text
