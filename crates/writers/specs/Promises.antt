-- What the writers answer, and that what they write reads back.
use Rattle.std.specs.Prelude.{ℕ, ◌+◌, ◌≤◌, ◌<◌, ◌≡◌, Bool, true, false, List, [], length}
use Rattle.octets.specs.Lists.{cells}
use Rattle.octets.specs.Octets.{AreOctets, hex_at, decimal}
use Rattle.answer.specs.Outcome.{Outcome, outcome, refused, Does}
use Rattle.answer.specs.Sizes.{max_packet}
use Rattle.packet.specs.declared.End.{End}
use Rattle.packet.specs.declared.End.TheVariants.{Peer, Server}
use Rattle.packet.specs.declared.Kind.TheVariants.{SuccessResponse, FailureResponse, EapSuccess, EapFailure}
use Rattle.packet.specs.Forms.{with_text}
use Rattle.packet.specs.Frame.{length_of}
use Rattle.packet.specs.Learned.{Learned, Learns, sixteen_of, learned, challenge_learned, response_learned, success_reading, failure_reading, bare_learned}
use Rattle.writers.specs.Writers.{writing, write_challenge, write_response, write_success_request, write_failure_request, write_success_response, write_failure_response, write_eap_success, write_eap_failure}

-- ---- "a writer gives 23 for what has no form above or needs L over 1,020", then 20; else 0 and the packet q. Every writer is `writing` of its packet
pub data Writes (formed : Bool) (room : ℕ) (q : List ℕ) : Outcome (Unit {0}) → Type 0 where
  no_form : formed ≡ false → Writes formed room q (refused 23 tt)
  too_long : formed ≡ true → max_packet < length q → Writes formed room q (refused 23 tt)
  no_room : formed ≡ true → length q ≤ max_packet → room < length q → Writes formed room q (refused 20 tt)
  writes : formed ≡ true → length q ≤ max_packet → length q ≤ room → Writes formed room q (outcome 0 q tt)

abbrev pub WritersAnswer : Type 0
WritersAnswer = (formed : Bool) (room : ℕ) (q : List ℕ) → Writes formed room q (writing formed room q)

-- ---- what was written
-- a buffer reads at an end, whatever stands in it after the packet, and tells l; "n is a writer's L"
pub record ReadsBack (end : End) (after : List ℕ) (n : ℕ) (l : Learned) : Type 0 where
  pub learns : Learns end after l
  pub n_told : n ≡ l.packet.length
  pub n_there : n ≡ length_of after

-- so does every buffer that a writer made of another, answering 0 and n; its argument is the room there
abbrev pub AlwaysReadsBack : (ℕ → Outcome (Unit {0})) → End → Learned → Type 0
AlwaysReadsBack write end l = (n : ℕ) (old after : List ℕ) → Does (write (length old)) 0 n tt old after → ReadsBack end after n l

pub record WritersReadBack : Type 0 where
  pub challenge : (id chapid : ℕ) (challenge name : List ℕ) → length challenge ≡ 16 →
      AlwaysReadsBack (write_challenge id chapid challenge name) Peer (challenge_learned id chapid challenge name)
  pub response : (id chapid : ℕ) (peer response name : List ℕ) → length peer ≡ 16 → length response ≡ 24 →
      AlwaysReadsBack (write_response id chapid peer response name) Server (response_learned id chapid peer response name)
  pub success_request : (id chapid : ℕ) (string text : List ℕ) → AreOctets string →
      AlwaysReadsBack (write_success_request id chapid string text) Peer (learned (success_reading id chapid (with_text text)) [] (cells 40 (hex_at string)) text)
  pub failure_request : (id chapid error retry : ℕ) (challenge text : List ℕ) → AreOctets challenge →
      AlwaysReadsBack (write_failure_request id chapid error retry challenge text) Peer
      (learned (failure_reading id chapid error retry (length (decimal error)) (57 + length (decimal error)) text) (cells 32 (hex_at challenge)) [] text)
  -- and the 32 digits of its C are the 16 octets
  pub failure_challenge : (challenge : List ℕ) → length challenge ≡ 16 → AreOctets challenge → sixteen_of (cells 32 (hex_at challenge)) ≡ challenge
  pub success_response : (id : ℕ) → AlwaysReadsBack (write_success_response id) Server (bare_learned SuccessResponse id 6)
  pub failure_response : (id : ℕ) → AlwaysReadsBack (write_failure_response id) Server (bare_learned FailureResponse id 6)
  pub eap_success : (id : ℕ) → AlwaysReadsBack (write_eap_success id) Peer (bare_learned EapSuccess id 4)
  pub eap_failure : (id : ℕ) → AlwaysReadsBack (write_eap_failure id) Peer (bare_learned EapFailure id 4)
