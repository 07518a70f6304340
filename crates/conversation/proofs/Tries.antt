-- A login with wrong tries: one try after the other, and then the last Response.
use Prim.Native.Nat.{ℕ, ◌+◌, ◌-◌, ◌≤◌}
use mathlib.Core.Path.{◌≡◌, refl, ap, ◌∙◌}
use mathlib.Core.List.{List, [], ◌∷◌, ◌++◌}
use native.Mathlib.Omega.{arith}
use lib.ListN.{length, get_or}
use Rattle.octets.specs.Octets.{AreOctets, decimal}
use Rattle.octets.proofs.Decimals.{few_decimal}
use Rattle.answer.specs.Outcome.{Outcome, outcome}
use Rattle.answer.specs.declared.Identifier.{Identifier}
use Rattle.packet.specs.Forms.{header, chap_packet, response_packet, failure_request, failure_response, eap_failure}
use Rattle.packet.proofs.Sizes.{length_failure_request}
use Rattle.mschap.specs.Users.{user_of}
use Rattle.mschap.specs.Responses.{nt_response}
use Rattle.peer.specs.declared.Peer.{Peer}
use Rattle.peer.specs.declared.Stage.TheVariants as peer_stage
use Rattle.peer.specs.State as peer
use Rattle.peer.specs.State.{last_request, last_id, last_chap_id, response_to}
use Rattle.peer.specs.Calls.{step_of, response_by, supply_of}
use Rattle.peer.proofs.Replies.{length_response_to}
use Rattle.server.specs.declared.Server.{Server}
use Rattle.server.specs.declared.Stage.TheVariants as stage
use Rattle.server.specs.State as server
use Rattle.server.specs.State.{next_id, chap_of, failure_to}
use Rattle.server.specs.Calls.{failing, authentication_failure, final, packet_of}
use Rattle.conversation.specs.Calls.{ToServer, Credentials, Login, Ends, begun, judged, replied, closed, ended, Try, denied, waited, supplied, tried, tried_all}
use Rattle.conversation.specs.Login.{Fits, RightAccount, challenging}
use Rattle.conversation.specs.Tries.{Denial, WrongTry, AllWrong, last_challenge, last_credentials, AskedAgain, Reaches, last, outstanding, Rejected, exhausted, barred, TriesSucceed, TriesFail}
use Rattle.peerlaws.proofs.Forward.{supplies_so}
use Rattle.conversation.proofs.AtPeer.{retry_awaited, failure_replied, failure_ended}
use Rattle.server.proofs.Reading.{coded}
use Rattle.conversation.proofs.AtServer.{account_code, response_retried, response_refused, response_barred, failure_confirmed}
use Rattle.conversation.proofs.Pending.{Pending, next_new, stored_octet, answered_id, grants_so, confirms_so, closes_so, ends_so}
use Rattle.conversation.proofs.Login.{first, begun_is, begun_pending}

-- a Failure Request's size, Identifier and MS-CHAPv2-ID
short : (id chapid code retry : ℕ) (c : List ℕ) → length (failure_request id chapid code retry c []) ≤ 1020
short id chapid code retry c = omega (arith, length_failure_request id chapid code retry (length (decimal code)) c [] refl, few_decimal code)

request_id : (id chapid code retry : ℕ) (c : List ℕ) → get_or (failure_request id chapid code retry c []) 1 0 ≡ id
unfolding failure_request chap_packet header
request_id id chapid code retry c = refl

request_chapid : (id chapid code retry : ℕ) (c : List ℕ) → get_or (failure_request id chapid code retry c []) 6 0 ≡ chapid
unfolding failure_request chap_packet header
request_chapid id chapid code retry c = refl

-- ---- one wrong try, with a retry left
module _ (b : Ends) (c : Credentials) (t : Try) (here : Pending b c) (w : WrongTry b.server.request.challenge c t) (left : b.server.retries ≡ 0 → ⊥) where
  abbrev s : Server
  s = b.server

  abbrev next : Identifier
  next = next_id s.request.id

  abbrev fresh : List ℕ
  fresh = t.at_response.fresh

  abbrev d : Credentials
  d = t.credentials

  abbrev request : List ℕ
  request = failure_to next authentication_failure 1 fresh

  abbrev asking : Server
  asking = server.asked s.stage next fresh (s.retries - 1) request s

  abbrev waiting : Peer
  waiting = peer.awaiting fresh request b.peer

  abbrev response : List ℕ
  response = response_to next.0 (chap_of next).0 fresh d.random d.name d.hash

  abbrev answering : Peer
  answering = peer.supplied d.name d.hash d.random (chap_of next) response waiting

  denies : denied b t ≡ outcome 0 request asking
  unfolding denied
  denies =
      ap (λ (x : List ℕ). packet_of s (x ++ t.at_response.padding) t.at_response.table fresh t.at_response.room) here.response
      ∙ response_retried s c.random c.name c.hash t.at_response.padding t.at_response.table fresh t.at_response.room here.named here.own here.server_here w.denial.formed w.wrong w.denial.differs w.denial.room left

  waits : waited b t ≡ outcome 1 [] waiting
  unfolding waited
  waits =
      (λ j. step_of b.peer ((denies j).octets ++ t.at_request.padding) t.at_request.random t.at_request.room)
      ∙ retry_awaited b.peer next.0 (chap_of next).0 691 1 fresh t.at_request.random t.at_request.padding t.at_request.room (omega arith) (omega arith) w.denial.octets refl w.fresh here.peer_here (next_new b.peer s.request.id here.id)

  waiting_id : last_id waiting ≡ next.0
  unfolding last_id last_request peer.awaiting
  waiting_id = stored_octet 1 request next.0 (short _ _ 691 1 fresh) (request_id _ _ 691 1 fresh)

  waiting_chapid : last_chap_id waiting ≡ (chap_of next).0
  unfolding last_chap_id last_request peer.awaiting
  waiting_chapid = stored_octet 6 request (chap_of next).0 (short _ _ 691 1 fresh) (request_chapid _ _ 691 1 fresh)

  response_is : response_by waiting d.name d.hash d.random ≡ response
  unfolding response_by peer.awaiting
  response_is = (λ j. response_to (waiting_id j) (waiting_chapid j) fresh d.random d.name d.hash)

  supplies : supplied b t ≡ outcome 0 response answering
  unfolding supplied peer.awaiting
  supplies =
      (λ j. supply_of (waits j).state d.name d.hash d.random t.room)
      ∙ supplies_so waiting d.name d.hash d.random t.room refl w.credentials.name (rw (response_is, length_response_to next.0 (chap_of next).0 fresh d.random d.name d.hash w.credentials.random) w.credentials.response)
      ∙ (λ j. outcome 0 (response_is j) (peer.supplied d.name d.hash d.random (record { 0 = waiting_chapid j }) (response_is j) waiting))

  abbrev there : Ends
  there = record { server = asking; peer = answering; response = response }

  tried_is : tried b t ≡ there
  unfolding tried
  tried_is = (λ j. record { server = (denies j).state; peer = (supplies j).state; response = (supplies j).octets })

  answering_id : last_id answering ≡ next.0
  unfolding last_id last_request peer.supplied peer.awaiting
  answering_id = stored_octet 1 request next.0 (short _ _ 691 1 fresh) (request_id _ _ 691 1 fresh)

  tried_pending : Pending there d
  unfolding server.asked peer.supplied peer.awaiting response_to
  tried_pending = record {
    named = w.credentials.name;
    own = w.credentials.random;
    server_here = here.server_here;
    peer_here = refl;
    id = answering_id;
    expected = refl;
    response = refl;
  }

-- ---- any number of them, up to the retries that are left
pub record After (b : Ends) (c : Credentials) (ts : List Try) : Type 0 where
  pub go : AskedAgain b ts
  pub pending : Pending (tried_all b ts) (last_credentials c ts)
  pub challenge : (tried_all b ts).server.request.challenge ≡ last_challenge b.server.request.challenge ts
  pub left : (tried_all b ts).server.retries + length ts ≡ b.server.retries

after : (b : Ends) (c : Credentials) (ts : List Try) → Pending b c → length ts ≤ b.server.retries → AllWrong b.server.request.challenge c ts → After b c ts
unfolding tried_all server.asked
after b c [] here h w = record { go = tt; pending = here; challenge = refl; left = omega arith }
after b c (t ∷ ts) here h w =
    let n : b.server.retries ≡ 0 → ⊥ = λ z. absurd (omega arith) in
    let e = tried_is b c t here w.0 n in
    let rest = after (there b c t here w.0 n) t.credentials ts (tried_pending b c t here w.0 n) (omega arith) w.1 in
    let rest' : After (tried b t) t.credentials ts = rw e rest in
    let k : (tried b t).server.request.challenge ≡ t.at_response.fresh = ap (λ (x : Ends). x.server.request.challenge) e in
    let m : (tried b t).server.retries ≡ b.server.retries - 1 = ap (λ (x : Ends). x.server.retries) e in
    record {
      go = (ap (λ (o : Outcome Server). o.number) (denies b c t here w.0 n), ap (λ (o : Outcome Peer). o.number) (waits b c t here w.0 n), ap (λ (o : Outcome Peer). o.number) (supplies b c t here w.0 n), rest'.go);
      pending = rest'.pending;
      challenge = rest'.challenge ∙ ap (λ (x : List ℕ). last_challenge x ts) k;
      left = omega (arith, rest'.left);
    }

after_begun : (l : Login) (ts : List Try) → Fits l → length ts ≤ l.retries → AllWrong l.challenge l.credentials ts → After (begun l) l.credentials ts
unfolding challenging server.asked
after_begun l ts f h w = rw (begun_is l f) (after (first l f) l.credentials ts (begun_pending l f) h w)

-- ---- the last Response is right, and its account's code 0
succeeds : (l : Login) (b : Ends) (c : Credentials) → Fits l → Pending b c → RightAccount l c → Reaches l b 2 stage.Success peer_stage.Success
unfolding server.staged peer.staged
succeeds l b c f t a =
    let closes = closes_so l b c f t a in
    let ends = ends_so l b c f t a in
    record {
      request = ap (λ (o : Outcome Server). o.number) (grants_so l b c f t a);
      reply = ap (λ (o : Outcome Peer). o.number) (confirms_so l b c f t a);
      server = ap (λ (o : Outcome Server). o.number) closes;
      peer = ap (λ (o : Outcome Peer). o.number) ends;
      server_there = ap (λ (o : Outcome Server). o.state.stage) closes;
      peer_there = ap (λ (o : Outcome Peer). o.state.stage) ends;
    }

-- ---- the last Response brings a Failure Request R=0 with some code
module _ (l : Login) (b : Ends) (c : Credentials) (f : Fits l) (t : Pending b c) (code : ℕ) (small : code ≤ 999) (octets : AreOctets l.at_response.fresh) (is : judged l b ≡ failing b.server (final b.server code) l.at_response.fresh) where
  abbrev i : ℕ
  i = (next_id b.server.request.id).0

  abbrev q : List ℕ
  q = failure_to (next_id b.server.request.id) code 0 l.at_response.fresh

  abbrev refusing : Server
  refusing = server.asked stage.FailureRequestSent (next_id b.server.request.id) l.at_response.fresh b.server.retries q b.server

  abbrev giving : Peer
  giving = peer.answered peer_stage.FailureResponseSent q (failure_response i) b.peer

  replies : replied l b ≡ outcome 0 (failure_response i) giving
  unfolding replied
  replies =
      (λ j. step_of b.peer ((is j).octets ++ l.at_request.padding) l.at_request.random l.at_request.room)
      ∙ failure_replied b.peer i (chap_of (next_id b.server.request.id)).0 code 0 l.at_response.fresh l.at_request.random l.at_request.padding l.at_request.room small (omega arith) octets refl t.peer_here (next_new b.peer b.server.request.id t.id) f.reply_room

  closes : closed l b ≡ outcome 3 (eap_failure i) (server.staged stage.Failed refusing)
  unfolding closed server.asked
  closes =
      (λ j. packet_of (is j).state ((replies j).octets ++ l.at_reply.padding) l.at_reply.table l.at_reply.fresh l.at_reply.room)
      ∙ failure_confirmed refusing l.at_reply.padding l.at_reply.table l.at_reply.fresh l.at_reply.room f.end_room refl

  ends : ended l b ≡ outcome 3 [] (peer.staged peer_stage.Failed giving)
  unfolding ended peer.answered
  ends =
      (λ j. step_of (replies j).state ((closes j).octets ++ l.at_end.padding) l.at_end.random l.at_end.room)
      ∙ failure_ended giving i l.at_end.padding l.at_end.random l.at_end.room (answered_id _ q _ b.peer i (short _ _ code 0 _) (request_id _ _ code 0 _)) refl

  fails : Reaches l b 3 stage.Failed peer_stage.Failed
  unfolding server.staged peer.staged
  fails = record {
    request = ap (λ (o : Outcome Server). o.number) is;
    reply = ap (λ (o : Outcome Peer). o.number) replies;
    server = ap (λ (o : Outcome Server). o.number) closes;
    peer = ap (λ (o : Outcome Peer). o.number) ends;
    server_there = ap (λ (o : Outcome Server). o.state.stage) closes;
    peer_there = ap (λ (o : Outcome Peer). o.state.stage) ends;
  }

-- ---- the two theorems
pub tries_succeed : TriesSucceed
tries_succeed l ts f h w a =
    let x = after_begun l ts f h w in
    (x.go, succeeds l (tried_all (begun l) ts) (last_credentials l.credentials ts) f x.pending a)

-- what the last Response brings, where it is refused
module _ (l : Login) (ts : List Try) (b : Ends) (f : Fits l) (t : Pending b (last l ts)) (n : Denial b.server.request.challenge l.at_response) (same : b.server.request.challenge ≡ outstanding l ts) (left : b.server.retries + length ts ≡ l.retries) where
  abbrev c : Credentials
  c = last l ts

  abbrev a : ToServer
  a = l.at_response

  brought : judged l b ≡ packet_of b.server (response_packet b.server.request.id.0 b.server.request.chapid.0 c.random (nt_response b.server.request.challenge c.random (user_of c.name) c.hash) c.name ++ a.padding) a.table a.fresh a.room
  unfolding judged
  brought = ap (λ (q : List ℕ). packet_of b.server (q ++ a.padding) a.table a.fresh a.room) t.response

  refuses : Rejected l ts → Reaches l b 3 stage.Failed peer_stage.Failed
  refuses (exhausted e w) =
      fails l b c f t 691 (omega arith) n.octets
      (brought
      ∙ response_refused b.server c.random c.name c.hash a.padding a.table a.fresh a.room t.named t.own t.server_here n.formed (rw same w) n.differs n.room (omega arith))
  refuses (barred code h z) =
      fails l b c f t code (coded code (account_code a.table (user_of c.name) code c.hash n.formed h) z).1 n.octets
      (brought
      ∙ response_barred b.server c.random c.name c.hash a.padding a.table a.fresh a.room t.named t.own t.server_here n.formed code h z n.differs n.room)

pub tries_fail : TriesFail
unfolding challenging server.asked
tries_fail l ts f h w n r =
    let x = after_begun l ts f h w in
    let e = begun_is l f in
    let k : (tried_all (begun l) ts).server.request.challenge ≡ outstanding l ts = x.challenge ∙ ap (λ (b : Ends). last_challenge b.server.request.challenge ts) e in
    (x.go, refuses l ts (tried_all (begun l) ts) f x.pending (rw k n) k (x.left ∙ ap (λ (b : Ends). b.server.retries) e) r)
