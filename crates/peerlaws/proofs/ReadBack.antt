-- Every reply reads back at the server's reader as the packet meant.
use Prim.Native.Nat.{ℕ, ◌≤◌}
use mathlib.Core.Path.{◌≡◌, refl, sym, ap, ◌∙◌}
use mathlib.Core.List.{List, [], append-nil}
use mathlib.Core.Bool.{true}
use native.Mathlib.Omega.{arith}
use lib.ListN.{length, get_or, take, length-take}
use lib.Seq.{get_or-take}
use Rattle.octets.specs.Lists.{part}
use Rattle.octets.specs.Octets.{number_at}
use Rattle.octets.specs.declared.Order.TheVariants.{Big}
use Rattle.octets.proofs.Exits.{clash}
use Rattle.answer.specs.Outcome.{Outcome}
use Rattle.packet.specs.declared.End.TheVariants as end
use Rattle.packet.specs.declared.Kind.{Kind}
use Rattle.packet.specs.declared.Kind.TheVariants.{Challenge, Response, SuccessRequest, FailureRequest, RetryRequest, SuccessResponse, FailureResponse, EapSuccess, EapFailure}
use Rattle.packet.specs.declared.Packet.{Packet}
use Rattle.packet.specs.Kinds.{is_request}
use Rattle.packet.specs.Forms.{response_packet, success_response, failure_response}
use Rattle.packet.proofs.Back.{response_back, success_response_back, failure_response_back}
use Rattle.packet.proofs.Readings.{Shape, tells}
use Rattle.mschap.specs.Users.{user_of}
use Rattle.mschap.specs.Responses.{nt_response}
use Rattle.mschap.proofs.Responses.{length_nt_response}
use Rattle.peer.specs.declared.Stage.{Stage}
use Rattle.peer.specs.declared.Stage.TheVariants.{Begin, ChallengeResponseSent, SuccessResponseSent, FailureResponseSent, Waiting, Success, Failed}
use Rattle.peer.specs.Moves.{sent}
use Rattle.peer.specs.declared.Peer.{Peer}
use Rattle.peer.specs.State.{own_name, last_request, last_reply, last_id, response_to, outstanding}
use Rattle.peerlaws.specs.Runs.{Call, step, supply, give_up, call_of, IsPeer, IsCall}
use Rattle.peerlaws.specs.Promises.{Request, Answers, request_of, ReadsBack, RepliesReadBack}
use Rattle.peerlaws.proofs.Repeats.{few, answer_stores}
use Rattle.peerlaws.proofs.Views.{GaveUp, gave_up}
use Rattle.peerlaws.proofs.Views as view
use Rattle.peerlaws.proofs.Consistent.{Keeps, Invariant, kept_size, waits_request, call_holds, reached}

-- ---- a stored request has its MS-CHAPv2-ID at 6
long : (kind : Kind) (q : List ℕ) (k : Packet) → is_request kind ≡ true → Shape kind q k → 7 ≤ length q
long Challenge q k f s = omega (arith, s.least)
long Response q k f s = clash refl f
long SuccessRequest q k f s = omega (arith, s.least)
long FailureRequest q k f s = omega (arith, s.least)
long RetryRequest q k f s = omega (arith, s.least)
long SuccessResponse q k f s = clash refl f
long FailureResponse q k f s = clash refl f
long EapSuccess q k f s = clash refl f
long EapFailure q k f s = clash refl f

request_long : (q : List ℕ) → Request q → 7 ≤ length q
request_long q r =
    let k = r.packet in
    let t = tells end.Peer q k r.reads in
    omega (arith, long k.kind (take k.length q) k r.request t.shape, length-take k.length q)

-- ---- the stored reply, by the stage
module _ (request w : List ℕ) (s : Peer) (is : IsPeer s) (id : last_id s ≡ get_or request 1 0) (chapid : get_or (last_request s) 6 0 ≡ get_or request 6 0) (reply : last_reply s ≡ w) where
  read_back : (stage : Stage) → sent stage ≡ true → Keeps stage s → ReadsBack request stage s w
  unfolding outstanding response_to
  read_back Begin f k = clash refl f
  read_back ChallengeResponseSent f k =
      let nt = nt_response s.challenges.authenticator s.challenges.own (user_of (own_name s)) s.credentials.hash in
      let e : w ≡ response_packet (get_or request 1 0) (get_or request 6 0) s.challenges.own nt (own_name s) = sym reply ∙ k.0 ∙ (λ j. response_packet (id j) ((k.2 ∙ chapid) j) s.challenges.own nt (own_name s)) in
      let b = response_back (get_or request 1 0) (get_or request 6 0) s.challenges.own nt (own_name s) is.challenges.own (length_nt_response _ _ _ _) (few s is) in
      let bare = sym (append-nil (response_packet (get_or request 1 0) (get_or request 6 0) s.challenges.own nt (own_name s))) in
      rw e (b.reads, ap (λ (l : List ℕ). part l 10 16) bare ∙ b.challenge_is [], ap (λ (l : List ℕ). part l 34 24) bare ∙ b.response_is [], ap (λ (l : List ℕ). part l 59 (length (own_name s))) bare ∙ b.tail_is [])
  read_back SuccessResponseSent f k = rw (sym reply ∙ k.0 ∙ ap success_response id) (success_response_back (get_or request 1 0)).reads
  read_back FailureResponseSent f k = rw (sym reply ∙ k.0 ∙ ap failure_response id) (failure_response_back (get_or request 1 0)).reads
  read_back Waiting f k = clash refl f
  read_back Success f k = clash refl f
  read_back Failed f k = clash refl f

-- ---- 6
step_back : (p : Peer) (s random : List ℕ) (room : ℕ) → length random ≡ 16 → Invariant p → (call_of p (step s random room)).number ≡ 0 → ReadsBack s (call_of p (step s random room)).state.stage (call_of p (step s random room)).state (call_of p (step s random room)).octets
unfolding call_of last_id
step_back p s random room r h z =
    let c = step s random room in
    let n = (call_of p c).state in
    let a = answer_stores p c (take (number_at Big s 2) s) h.is (waits_request p h) r (z, refl) in
    let b : 7 ≤ number_at Big s 2 = omega (arith, request_long (take (number_at Big s 2) s) a.is, length-take (number_at Big s 2) s) in
    let g = call_holds p c r h in
    read_back s (call_of p c).octets n g.is
    (ap (λ (l : List ℕ). get_or l 1 0) a.request ∙ get_or-take (number_at Big s 2) s 1 0 (omega arith))
    (ap (λ (l : List ℕ). get_or l 6 0) a.request ∙ get_or-take (number_at Big s 2) s 6 0 (omega arith))
    a.reply n.stage a.stage g.keeps

supply_back : (p : Peer) (name hash random : List ℕ) (room : ℕ) → length hash ≡ 16 → length random ≡ 16 → Invariant p → (call_of p (supply name hash random room)).number ≡ 0 → ReadsBack (last_request p) (call_of p (supply name hash random room)).state.stage (call_of p (supply name hash random room)).state (call_of p (supply name hash random room)).octets
unfolding call_of last_id
supply_back p name hash random room e r h z =
    let c = supply name hash random room in
    let n = (call_of p c).state in
    let a = answer_stores p c (last_request p) h.is (waits_request p h) (e, r) (z, refl) in
    let g = call_holds p c (e, r) h in
    read_back (last_request p) (call_of p c).octets n g.is (ap (λ (l : List ℕ). get_or l 1 0) a.request) (ap (λ (l : List ℕ). get_or l 6 0) a.request) a.reply n.stage a.stage g.keeps

give_up_back : {A : Type 0} {p : Peer} {o : Outcome Peer} → GaveUp p o → o.number ≡ 0 → A
give_up_back (view.refuses n h l) z = absurd (omega arith)
give_up_back (view.ends w) z = absurd (omega arith)

call_back : (p : Peer) (c : Call) → IsCall c → Invariant p → (call_of p c).number ≡ 0 → ReadsBack (request_of p c) (call_of p c).state.stage (call_of p c).state (call_of p c).octets
unfolding call_of
call_back p (step s random room) r h z = step_back p s random room r h z
call_back p (supply name hash random room) r h z = supply_back p name hash random room r.0 r.1 h z
call_back p give_up r h z = give_up_back (gave_up p) z

-- n is L
call_size : (p : Peer) (c : Call) (q : List ℕ) → IsCall c → Invariant p → Answers p c q → length (call_of p c).octets ≡ number_at Big (call_of p c).octets 2
call_size p c q r h a =
    let g = call_holds p c r h in
    let k = answer_stores p c q h.is (waits_request p h) r a in
    rw k.reply at (kept_size (call_of p c).state.stage (call_of p c).state k.stage g.keeps)

size_back : (p : Peer) (c : Call) → IsCall c → Invariant p → (call_of p c).number ≡ 0 → length (call_of p c).octets ≡ number_at Big (call_of p c).octets 2
unfolding call_of
size_back p (step s random room) r h z = call_size p (step s random room) (take (number_at Big s 2) s) r h (z, refl)
size_back p (supply name hash random room) r h z = call_size p (supply name hash random room) (last_request p) r h (z, refl)
size_back p give_up r h z = give_up_back (gave_up p) z

pub replies_read_back : RepliesReadBack
replies_read_back p c r i z = (call_back p c i (reached p r) z, size_back p c i (reached p r) z)
