-- 02 [6], "Work out the expected string once."
use Rattle.std.specs.Prelude.{ℕ, ◌≡◌, List, length, replicate}
use Rattle.answer.specs.Outcome.{Outcome}
use Rattle.answer.specs.Runs.{run}
use Rattle.mschap.specs.Responses.{digits_of}
use Rattle.peer.specs.declared.Stage.TheVariants.{ChallengeResponseSent}
use Rattle.peer.specs.declared.Peer.{Peer}
use Rattle.peer.specs.State.{computed_string}
use Rattle.peer.specs.Calls.{new_of, step_by, supply_of, give_up_of}
use Rattle.peerlaws.specs.Runs.{Call, step, supply, give_up, call_of, AreCalls, Reached}
use Rattle.peerlaws.specs.Promises.{MakesResponse}

-- ---- "compute the authenticator string's 20 octets when the Response is made and keep them in the state"
abbrev pub ResponseMade : Peer → Call → Type 0
ResponseMade p (step s random room) = MakesResponse p s random room
ResponseMade p (supply name hash random room) = (supply_of p name hash random room).number ≡ 0
ResponseMade p give_up = ⊥

pub record ExpectedString : Type 0 where
  pub zero : (name hash : List ℕ) → (new_of name hash).state.challenges.expected ≡ replicate 20 0
  -- in any state, a call that makes a Response sets them, and any other call leaves them
  pub set : (p : Peer) (c : Call) → ResponseMade p c → (call_of p c).state.challenges.expected ≡ computed_string (call_of p c).state
  pub stays : (p : Peer) (c : Call) → (ResponseMade p c → ⊥) → (call_of p c).state.challenges.expected ≡ p.challenges.expected
  -- "Over any calls on from a made peer, each taking the state the last one left, they equal the value defined in 01 while a Response is outstanding"
  pub right : (p : Peer) → Reached p → p.stage ≡ ChallengeResponseSent → p.challenges.expected ≡ computed_string p

-- ---- "and all answers stay as they are": 01's peer without [6]. It computes the string when a Success Request comes, and never looks at the kept one
unfoldable pub computing : Peer → Call → Outcome Peer
computing p (step s random room) = step_by (digits_of (computed_string p)) p s random room
computing p (supply name hash random room) = supply_of p name hash random room
computing p give_up = give_up_of p

-- what the calls give, one after the other: the numbers, the octets written, and the states
abbrev pub outcomes : (Peer → Call → Outcome Peer) → Peer → List Call → List (Outcome Peer)
outcomes call p cs = run (λ (o : Outcome Peer). o.state) call p cs

abbrev pub AnswersStay : Type 0
AnswersStay = (name hash : List ℕ) (cs : List Call) (p : Peer) → length hash ≡ 16 → AreCalls cs → p ≡ (new_of name hash).state → outcomes call_of p cs ≡ outcomes computing p cs
