-- Every call leaves a value of the struct: its arrays keep their sizes.
use Prim.Native.Nat.{ℕ}
use mathlib.Core.Path.{◌≡◌}
use mathlib.Core.List.{List, []}
use lib.ListN.{length, length-replicate}
use lib.Dec.{ltb}
use Rattle.octets.proofs.Exits.{arms}
use Rattle.octets.proofs.Lists.{length_cells, length_sized}
use Rattle.answer.specs.Outcome.{Outcome}
use Rattle.answer.specs.Sizes.{max_packet, max_name}
use Rattle.answer.specs.declared.ChapId.{ChapId}
use Rattle.mschap.proofs.Responses.{responses_sized}
use Rattle.packet.specs.declared.Packet.{Packet}
use Rattle.packet.specs.Reader.{challenge_in}
use Rattle.peer.specs.declared.Stage.{Stage}
use Rattle.peer.specs.declared.Stage.TheVariants.{Begin, Failed}
use Rattle.peer.specs.declared.Peer.{Peer}
use Rattle.peer.specs.State.{reply_room, string_to, credentials_of, initial, staged, answered, responded, awaiting, supplied as supplied_state}
use Rattle.peer.specs.Calls.{new_of, renewed_in}
use Rattle.peerlaws.specs.Runs.{Call, step, supply, give_up, call_of, IsCredentials, IsPeer, IsCall}
use Rattle.peerlaws.proofs.Views.{Moved, responds, accepts, fails, waits, succeeds, ends, Stepped, stepped, Supplied, supplied, GaveUp, gave_up}
use Rattle.peerlaws.proofs.Views as view

is_credentials : (name hash : List ℕ) → length hash ≡ 16 → IsCredentials (credentials_of name hash)
is_credentials name hash h = record { name = length_sized max_name name; hash = h }

pub is_initial : (stage : Stage) (name hash : List ℕ) → length hash ≡ 16 → IsPeer (initial stage name hash)
unfolding initial
is_initial stage name hash h = record {
  credentials = is_credentials name hash h;
  challenges = record { authenticator = length-replicate {A = ℕ} 16 0; own = length-replicate {A = ℕ} 16 0; expected = length-replicate {A = ℕ} 20 0 };
  request = length-replicate {A = ℕ} max_packet 0;
  reply = length-replicate {A = ℕ} reply_room 0;
}

pub new_is : (name hash : List ℕ) → length hash ≡ 16 → IsPeer (new_of name hash).state
unfolding new_of
new_is name hash h = arms (λ (o : Outcome Peer). IsPeer o.state) (ltb max_name (length name)) (is_initial Failed [] _ (length-replicate {A = ℕ} 16 0)) (is_initial Begin name hash h)

renewed : (k : Packet) (q : List ℕ) → length (renewed_in k q) ≡ 16
unfolding renewed_in
renewed k q = length_cells 16 _

module _ (p : Peer) (i : IsPeer p) where
  is_staged : (stage : Stage) → IsPeer (staged stage p)
  unfolding staged
  is_staged stage = record { credentials = i.credentials; challenges = i.challenges; request = i.request; reply = i.reply }

  is_answered : (stage : Stage) (q w : List ℕ) → IsPeer (answered stage q w p)
  unfolding answered
  is_answered stage q w = record { credentials = i.credentials; challenges = i.challenges; request = length_sized max_packet q; reply = length_sized reply_room w }

  is_responded : (k : Packet) (q random w : List ℕ) → length random ≡ 16 → IsPeer (responded (challenge_in k q) random k.chapid q w p)
  unfolding responded challenge_in string_to
  is_responded k q random w r = record { credentials = i.credentials; challenges = record { authenticator = length_sized 16 _; own = r; expected = responses_sized.authenticator _ _ _ _ _ }; request = length_sized max_packet q; reply = length_sized reply_room _ }

  pub is_awaiting : (c q : List ℕ) → length c ≡ 16 → IsPeer (awaiting c q p)
  unfolding awaiting
  is_awaiting c q h = record { credentials = i.credentials; challenges = record { authenticator = h; own = i.challenges.own; expected = i.challenges.expected }; request = length_sized max_packet q; reply = i.reply }

  is_supplied : (name hash random : List ℕ) (chapid : ChapId) (w : List ℕ) → length hash ≡ 16 → length random ≡ 16 → IsPeer (supplied_state name hash random chapid w p)
  unfolding supplied_state string_to
  is_supplied name hash random chapid w e r = record { credentials = is_credentials name hash e; challenges = record { authenticator = i.challenges.authenticator; own = r; expected = responses_sized.authenticator _ _ _ _ _ }; request = i.request; reply = length_sized reply_room _ }

  moved_is : {k : Packet} {q random : List ℕ} {room : ℕ} {o : Outcome Peer} → length random ≡ 16 → Moved p k q random room o → IsPeer o.state
  moved_is {k} {q} {random} r (responds f g l) = is_responded k q random _ r
  moved_is r (accepts f g d l) = is_answered _ _ _
  moved_is r (fails f g l) = is_answered _ _ _
  moved_is {k} {q} r (waits f g) = is_awaiting (renewed_in k q) q (renewed k q)
  moved_is r (succeeds f) = is_staged _
  moved_is r ends = is_staged _

  step_is : {s random : List ℕ} {room : ℕ} {o : Outcome Peer} → length random ≡ 16 → Stepped p s random room o → IsPeer o.state
  step_is r (view.refuses n h l) = i
  step_is r (view.repeats_it t l) = i
  step_is r (view.moves k e m) = moved_is r m

  supply_is : {name hash random : List ℕ} {room : ℕ} {o : Outcome Peer} → length hash ≡ 16 → length random ≡ 16 → Supplied p name hash random room o → IsPeer o.state
  supply_is e r (view.refuses n h l) = i
  supply_is {name} {hash} {random} e r (view.supplies_it w f l) = is_supplied name hash random _ _ e r

  give_up_is : {o : Outcome Peer} → GaveUp p o → IsPeer o.state
  give_up_is (view.refuses n h l) = i
  give_up_is (view.ends w) = is_staged _

pub call_is : (p : Peer) (c : Call) → IsCall c → IsPeer p → IsPeer (call_of p c).state
unfolding call_of
call_is p (step s random room) r i = step_is p i r (stepped p s random room)
call_is p (supply name hash random room) r i = supply_is p i r.0 r.1 (supplied p name hash random room)
call_is p give_up r i = give_up_is p i (gave_up p)
