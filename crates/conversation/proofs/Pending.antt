-- A Response on its way between the two ends, and the way from a right one to SUCCESS.
use Prim.Native.Nat.{ℕ, ◌≤◌}
use mathlib.Core.Path.{◌≡◌, refl, sym, ap, ◌∙◌}
use mathlib.Core.List.{List, [], ◌++◌}
use native.Mathlib.Omega.{arith}
use lib.ListN.{length, get_or, take}
use Rattle.octets.specs.Lists.{sized}
use Rattle.octets.proofs.Lists.{take_sized}
use Rattle.answer.specs.Outcome.{outcome}
use Rattle.answer.specs.declared.Identifier.{Identifier}
use Rattle.packet.specs.Forms.{header, chap_packet, response_packet, success_request, success_response, eap_success}
use Rattle.packet.proofs.Sizes.{length_success_request}
use Rattle.mschap.specs.Users.{user_of}
use Rattle.mschap.specs.Responses.{nt_response, authenticator_of, digits_of}
use Rattle.mschap.proofs.Responses.{authenticator_octet}
use Rattle.peer.specs.declared.Peer.{Peer}
use Rattle.peer.specs.declared.Stage.{Stage}
use Rattle.peer.specs.declared.Stage.TheVariants as peer_stage
use Rattle.peer.specs.State as peer
use Rattle.peer.specs.State.{last_request, last_id, string_to, right_digits}
use Rattle.peer.specs.Calls.{step_of}
use Rattle.server.specs.declared.Server.{Server}
use Rattle.server.specs.declared.Stage.TheVariants as stage
use Rattle.server.specs.State as server
use Rattle.server.specs.State.{next_id, chap_of, success_to}
use Rattle.server.specs.Calls.{packet_of}
use Rattle.conversation.specs.Calls.{Credentials, Login, Ends, judged, replied, closed, ended}
use Rattle.conversation.specs.Login.{Fits, RightAccount}
use Rattle.conversation.proofs.AtPeer.{success_accepted, success_ended}
use Rattle.conversation.proofs.AtServer.{response_granted, success_confirmed}

-- the Response of c is on its way to the outstanding challenge
pub record Pending (b : Ends) (c : Credentials) : Type 0 where
  pub named : length c.name ≤ 256
  pub own : length c.random ≡ 16
  pub server_here : b.server.stage ≡ stage.ChallengeSent
  pub peer_here : b.peer.stage ≡ peer_stage.ChallengeResponseSent
  pub id : last_id b.peer ≡ b.server.request.id.0
  pub expected : b.peer.challenges.expected ≡ string_to b.server.request.challenge c.random c.name c.hash
  pub response : b.response ≡ response_packet b.server.request.id.0 b.server.request.chapid.0 c.random (nt_response b.server.request.challenge c.random (user_of c.name) c.hash) c.name

-- the next Identifier is another
next_other : (i : Identifier) → i.0 ≡ (next_id i).0 → ⊥
unfolding next_id
next_other i e = absurd (omega arith)

pub next_new : (p : Peer) (i : Identifier) → last_id p ≡ i.0 → (next_id i).0 ≡ last_id p → ⊥
next_new p i e f = next_other i (sym (f ∙ e))

-- an octet of a stored request
pub stored_octet : (n : ℕ) (q : List ℕ) (i : ℕ) → length q ≤ 1020 → get_or q n 0 ≡ i → get_or (take (length q) (sized 1020 q)) n 0 ≡ i
stored_octet n q i h e = ap (λ (x : List ℕ). get_or x n 0) (take_sized 1020 q h) ∙ e

pub answered_id : (stage : Stage) (q w : List ℕ) (p : Peer) (i : ℕ) → length q ≤ 1020 → get_or q 1 0 ≡ i → last_id (peer.answered stage q w p) ≡ i
unfolding last_id last_request peer.answered
answered_id stage q w p i h e = stored_octet 1 q i h e

-- ---- the right account
module _ (l : Login) (b : Ends) (c : Credentials) (f : Fits l) (t : Pending b c) (a : RightAccount l c) where
  abbrev s : Server
  s = b.server

  abbrev next : Identifier
  next = next_id s.request.id

  abbrev pub string : List ℕ
  string = authenticator_of c.hash (nt_response s.request.challenge c.random (user_of c.name) c.hash) c.random s.request.challenge (user_of c.name)

  abbrev pub request : List ℕ
  request = success_to next string

  abbrev pub granted : Server
  granted = server.asked stage.SuccessRequestSent next s.request.challenge s.retries request s

  abbrev pub confirmed : Peer
  confirmed = peer.answered peer_stage.SuccessResponseSent request (success_response next.0) b.peer

  pub grants_so : judged l b ≡ outcome 0 request granted
  unfolding judged
  grants_so =
      ap (λ (w : List ℕ). packet_of s (w ++ l.at_response.padding) l.at_response.table l.at_response.fresh l.at_response.room) t.response
      ∙ response_granted s c.random c.name c.hash l.at_response.padding l.at_response.table l.at_response.fresh l.at_response.room t.named t.own t.server_here a.formed 0 a.account refl a.request_room

  digits_so : right_digits b.peer ≡ digits_of string
  unfolding right_digits string_to
  digits_so = ap digits_of t.expected

  pub confirms_so : replied l b ≡ outcome 0 (success_response next.0) confirmed
  unfolding replied
  confirms_so =
      (λ j. step_of b.peer ((grants_so j).octets ++ l.at_request.padding) l.at_request.random l.at_request.room)
      ∙ success_accepted b.peer next.0 (chap_of next).0 string l.at_request.random l.at_request.padding l.at_request.room (authenticator_octet _ _ _ _ _) t.peer_here (next_new b.peer s.request.id t.id) digits_so f.reply_room

  pub closes_so : closed l b ≡ outcome 2 (eap_success next.0) (server.staged stage.Success granted)
  unfolding closed server.asked
  closes_so =
      (λ j. packet_of (grants_so j).state ((confirms_so j).octets ++ l.at_reply.padding) l.at_reply.table l.at_reply.fresh l.at_reply.room)
      ∙ success_confirmed granted l.at_reply.padding l.at_reply.table l.at_reply.fresh l.at_reply.room f.end_room refl

  request_id : get_or request 1 0 ≡ next.0
  unfolding success_request chap_packet header
  request_id = refl

  pub ends_so : ended l b ≡ outcome 2 [] (peer.staged peer_stage.Success confirmed)
  unfolding ended peer.answered
  ends_so =
      (λ j. step_of (confirms_so j).state ((closes_so j).octets ++ l.at_end.padding) l.at_end.random l.at_end.room)
      ∙ success_ended confirmed next.0 l.at_end.padding l.at_end.random l.at_end.room (answered_id _ request _ b.peer next.0 (omega (arith, length_success_request next.0 (chap_of next).0 string [])) request_id) refl
