-- 01, "How tight each statement is": "An end that works for the first packet and pretends later fails at WAITING and at the resend." Here the peer's
-- end, in WAITING.
use Rattle.std.specs.Prelude.{ℕ, ◌≡◌, List, [], length}
use Rattle.answer.specs.Outcome.{Outcome}
use Rattle.packet.specs.Forms.{failure_request}
use Rattle.peer.specs.declared.Peer.{Peer}
use Rattle.peer.specs.State.{awaiting}
use Rattle.peerlaws.specs.Runs.{Call, call_of, IsPeer, IsCall}

-- any way to answer the calls, of which the calls' contracts hold
abbrev pub Step : Type 0
Step = Peer → Call → Outcome Peer

abbrev pub Promised : Step → Type 0
Promised step = (p : Peer) (c : Call) → IsPeer p → IsCall c → step p c ≡ call_of p c

-- p in WAITING, keeping a Failure Request with R=1 and its C
abbrev pub keeping : Peer → ℕ → ℕ → List ℕ → Peer
keeping p id chapid c = awaiting c (failure_request id chapid 691 1 c []) p

-- it writes the same, whatever was kept
abbrev pub IgnoresIdentifier : Step → Type 0
IgnoresIdentifier step =
    (p : Peer) (call : Call) (id id' chapid : ℕ) (c : List ℕ) → IsPeer p → IsCall call → length c ≡ 16 →
    (step (keeping p id chapid c) call).octets ≡ (step (keeping p id' chapid c) call).octets

abbrev pub IgnoresChapId : Step → Type 0
IgnoresChapId step =
    (p : Peer) (call : Call) (id chapid chapid' : ℕ) (c : List ℕ) → IsPeer p → IsCall call → length c ≡ 16 →
    (step (keeping p id chapid c) call).octets ≡ (step (keeping p id chapid' c) call).octets

abbrev pub IgnoresC : Step → Type 0
IgnoresC step =
    (p : Peer) (call : Call) (id chapid : ℕ) (c c' : List ℕ) → IsPeer p → IsCall call → length c ≡ 16 → length c' ≡ 16 →
    (step (keeping p id chapid c) call).octets ≡ (step (keeping p id chapid c') call).octets

abbrev pub PretendsNot : Type 0
PretendsNot = (step : Step) → Promised step → (IgnoresIdentifier step → ⊥) × (IgnoresChapId step → ⊥) × (IgnoresC step → ⊥)
