-- A login succeeds: the calls one after the other.
use Prim.Native.Nat.{ℕ, ◌≤◌}
use mathlib.Core.Path.{◌≡◌, refl, ap, ◌∙◌}
use mathlib.Core.Bool.{true}
use mathlib.Core.List.{List, [], ◌++◌}
use native.Mathlib.Omega.{arith}
use borrow.Author.Tests.{ne_eqb, le-ltb}
use Rattle.octets.proofs.Exits.{pick_false}
use Rattle.octets.proofs.Lists.{take_sized}
use Rattle.answer.specs.Outcome.{Outcome, outcome}
use Rattle.packet.specs.Forms.{header, chap_packet, challenge_packet}
use Rattle.packet.proofs.Sizes.{length_challenge_packet}
use Rattle.peer.specs.declared.Peer.{Peer}
use Rattle.peer.specs.declared.Stage.TheVariants as peer_stage
use Rattle.peer.specs.State as peer
use Rattle.peer.specs.State.{own_name, last_request, last_id, response_to, string_to}
use Rattle.peer.specs.Calls.{step_of}
use Rattle.server.specs.declared.Server.{Server}
use Rattle.server.specs.State as server
use Rattle.server.specs.State.{chap_of}
use Rattle.server.specs.Calls.{start_fits}
use Rattle.server.proofs.Forward.{starts_so}
use Rattle.conversation.specs.Calls.{Login, Ends, made, started, responded, begun, judged, replied, closed, ended}
use Rattle.conversation.specs.Login.{Fits, challenge_of, nt_response_of, response_of, string_of, success_of, challenging, responding, granting, confirming, LoginSucceeds}
use Rattle.peerlaws.proofs.Forward.{makes_so}
use Rattle.conversation.proofs.AtPeer.{challenge_answered}
use Rattle.conversation.proofs.Pending.{Pending, stored_octet, grants_so, confirms_so, closes_so, ends_so}

-- a start's arguments
start_fits_lem : (n retries : ℕ) → 1 ≤ n → n ≤ 256 → retries ≤ 10 → start_fits n retries ≡ true
unfolding start_fits
start_fits_lem n retries a b c = pick_false _ _ _ (ne_eqb n 0 (λ z. absurd (omega arith))) ∙ pick_false _ _ _ (le-ltb _ _ b) ∙ pick_false _ _ _ (le-ltb _ _ c)

-- ---- up to the first Response
module _ (l : Login) (f : Fits l) where
  makes : made l ≡ outcome 0 [] (peer.initial peer_stage.Begin l.credentials.name l.credentials.hash)
  unfolding made
  makes = makes_so l.credentials.name l.credentials.hash f.credentials.name

  starts : started l ≡ outcome 0 (challenge_of l) (challenging l)
  unfolding started challenge_of challenging server.initial
  starts =
      starts_so server.initial l.id l.challenge l.server l.retries l.room refl f.challenge (start_fits_lem _ _ f.server_some f.server_few f.retries) f.challenge_room

  responds : responded l ≡ outcome 0 (response_of l) (responding l)
  unfolding responded responding challenge_of response_of nt_response_of response_to
  responds =
      (λ j. step_of (makes j).state ((starts j).octets ++ l.padding) l.credentials.random l.response_room)
      ∙ challenge_answered l.id l.challenge l.server l.credentials.random l.credentials.name l.credentials.hash l.padding l.response_room f.challenge f.server_some f.server_few f.credentials.name f.credentials.random f.credentials.response

  abbrev pub first : Ends
  first = record { server = challenging l; peer = responding l; response = response_of l }

  pub begun_is : begun l ≡ first
  unfolding begun
  begun_is = (λ j. record { server = (starts j).state; peer = (responds j).state; response = (responds j).octets })

  asked_id : last_id (responding l) ≡ l.id.0
  unfolding last_id last_request responding peer.responded challenge_of challenge_packet chap_packet header
  asked_id = stored_octet 1 (challenge_of l) l.id.0 (omega (arith, length_challenge_packet l.id.0 (chap_of l.id).0 l.challenge l.server f.challenge, f.server_few)) refl

  expects : (responding l).challenges.expected ≡ string_to l.challenge l.credentials.random l.credentials.name l.credentials.hash
  unfolding responding peer.responded peer.initial own_name
  expects = ap (λ (n : List ℕ). string_to l.challenge l.credentials.random n l.credentials.hash) (take_sized 256 l.credentials.name f.credentials.name)

  pub begun_pending : Pending first l.credentials
  unfolding challenging server.asked responding peer.responded response_of nt_response_of
  begun_pending = record {
    named = f.credentials.name;
    own = f.credentials.random;
    server_here = refl;
    peer_here = refl;
    id = asked_id;
    expected = expects;
    response = refl;
  }

-- ---- and from there on
pub login_succeeds : LoginSucceeds
unfolding server.staged peer.staged string_of nt_response_of success_of challenging server.asked granting confirming
login_succeeds l f a =
    let t = begun_pending l f in
    let e = begun_is l f in
    let c = l.credentials in
    let closes = ap (closed l) e ∙ closes_so l (first l f) c f t a in
    let ends = ap (ended l) e ∙ ends_so l (first l f) c f t a in
    record {
      makes = makes l f;
      starts = starts l f;
      responds = responds l f;
      grants = ap (judged l) e ∙ grants_so l (first l f) c f t a;
      confirms = ap (replied l) e ∙ confirms_so l (first l f) c f t a;
      closes = closes;
      ends = ends;
      server_there = ap (λ (o : Outcome Server). o.state.stage) closes;
      peer_there = ap (λ (o : Outcome Peer). o.state.stage) ends;
    }
