-- What this crate's private functions promise each other.
use Rattle.std.specs.Prelude.{ℕ, ◌+◌, ◌≤◌, ◌≡◌, List, Bool, Result, Ok, Err, true, false, not, drop, eqb}
use Rattle.octets.specs.Choice.{pick}
use Rattle.octets.specs.Octets.{digits}
use Rattle.answer.specs.Outcome.{Told}
use Rattle.answer.specs.declared.Refusal.{Refusal}
use Rattle.packet.specs.Reader.{refusal, read_challenge, read_response, read_success, failure_formed, error_digits, read_failure, read_bare}
use Rattle.packet.specs.declared.End.{End}
use Rattle.packet.specs.declared.End.TheVariants.{Peer, Server}
use Rattle.packet.specs.declared.Kind.TheVariants.{SuccessResponse, FailureResponse, EapSuccess, EapFailure}
use Rattle.packet.specs.declared.Packet.{Packet}

-- a check: the refusal w where the test b holds
abbrev pub RefusedIf : Bool → Refusal → Result Unit Refusal → Type 0
RefusedIf b w (Ok x) = b ≡ false
RefusedIf b w (Err why) = (b ≡ true) × (why ≡ w)

-- a Failure Request's message has the form, with e digits after `E=`, and v after ` V=`
pub record FailureFormed (q : List ℕ) (e v : ℕ) : Type 0 where
  pub e_is : e ≡ error_digits q
  pub v_is : v ≡ digits (drop (53 + error_digits q) q)
  pub e_few : e ≤ 10
  pub v_few : v ≤ 10
  pub formed : failure_formed q e v ≡ true

abbrev pub FailureUnlike : List ℕ → Type 0
FailureUnlike q = failure_formed q (error_digits q) (digits (drop (53 + error_digits q) q)) ≡ false

-- a packet with Code 1, and one with Code 2, by its OpCode
abbrev pub request : ℕ → List ℕ → Told Packet
request op q = pick (eqb op 1) (read_challenge q) (pick (eqb op 3) (read_success q) (pick (eqb op 4) (read_failure q) (refusal 15)))

abbrev pub reply : ℕ → List ℕ → Told Packet
reply op q = pick (eqb op 2) (read_response q) (pick (eqb op 3) (read_bare SuccessResponse 6 q) (pick (eqb op 4) (read_bare FailureResponse 6 q) (refusal 15)))

-- a packet by its Code, Type and OpCode: the Type and the OpCode count as 0 where there are none, which no packet has
unfoldable pub at_peer : ℕ → ℕ → ℕ → List ℕ → Told Packet
at_peer code type op q =
    pick (eqb code 3) (read_bare EapSuccess 4 q)
    (pick (eqb code 4) (read_bare EapFailure 4 q)
    (pick (not (eqb code 1)) (refusal 13)
    (pick (not (eqb type 26)) (refusal 14)
    (request op q))))

unfoldable pub at_server : ℕ → ℕ → ℕ → List ℕ → Told Packet
at_server code type op q =
    pick (not (eqb code 2)) (refusal 13)
    (pick (not (eqb type 26)) (refusal 14)
    (reply op q))

unfoldable pub at_end : End → ℕ → ℕ → ℕ → List ℕ → Told Packet
at_end Peer code type op q = at_peer code type op q
at_end Server code type op q = at_server code type op q
