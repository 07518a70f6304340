-- Identifiers are compared for equality only.
use Prim.Native.Nat.{ℕ, ◌≤◌}
use mathlib.Core.Path.{◌≡◌, refl, sym, ap, ◌∙◌}
use mathlib.Core.List.{List, [], ◌∷◌}
use mathlib.Core.Bool.{Bool, true, false, not}
use native.Mathlib.Omega.{arith}
use lib.ListN.{length, take, set}
use lib.Dec.{ltb, eqb}
use Rattle.octets.specs.Choice.{pick}
use Rattle.octets.specs.Lists.{part, cells, sized}
use Rattle.octets.specs.Octets.{same, unhex_at}
use Rattle.octets.proofs.Exits.{pick_false, arms, clash}
use Rattle.answer.specs.Outcome.{Told, Outcome, outcome, refused, fitting}
use Rattle.answer.specs.Sizes.{max_packet}
use Rattle.packet.specs.declared.End.TheVariants as end
use Rattle.packet.specs.declared.Kind.{Kind}
use Rattle.packet.specs.declared.Kind.TheVariants.{Challenge, Response, SuccessRequest, FailureRequest, RetryRequest, SuccessResponse, FailureResponse, EapSuccess, EapFailure}
use Rattle.packet.specs.declared.Packet.{Packet}
use Rattle.packet.specs.Reader.{refusal, read_packet, challenge_in}
use Rattle.packet.specs.Forms.{header, chap_packet, response_packet, success_response, failure_response}
use Rattle.packet.proofs.Readings.{Shape, tells}
use Rattle.packet.specs.Promises.{under, Renumbered, same_refusal as none, same_packet as some}
use Rattle.packet.proofs.Renumbered.{read_renumbered}
use Rattle.peer.specs.declared.Stage.{Stage}
use Rattle.peer.specs.declared.Stage.TheVariants.{ChallengeResponseSent, SuccessResponseSent, FailureResponseSent, Waiting}
use Rattle.peer.specs.declared.Peer.{Peer}
use Rattle.peer.specs.State.{reply_room, own_name, response_to, string_to, right_digits, answered, responded, awaiting}
use Rattle.peer.specs.Moves.{takes, move_of, repeats, misnumbered, turn_of}
use Rattle.peer.specs.Calls.{renewed_in, digits_in, says, writes, confirmation, answer_of, next_of, left_by, leaving, response_in, moved_by, read_by, step_by, moved_of, step_of}
use Rattle.peerlaws.specs.Promises.{unnumbered_state, unnumbered, EqualityOnly}
use Rattle.peerlaws.proofs.Forward.{newly}
use Rattle.peerlaws.proofs.Twins.{Twin, twin, twin_take, twin_sized, twin_set, drops, parts}

-- where the peer looks into a packet, it looks past its Identifier: its places start there
abbrev Past : Kind → ℕ → ℕ → Type 0
Past Challenge challenge response = 2 ≤ challenge
Past Response challenge response = Unit {0}
Past SuccessRequest challenge response = 2 ≤ response
Past FailureRequest challenge response = Unit {0}
Past RetryRequest challenge response = 2 ≤ challenge
Past SuccessResponse challenge response = Unit {0}
Past FailureResponse challenge response = Unit {0}
Past EapSuccess challenge response = Unit {0}
Past EapFailure challenge response = Unit {0}

past : (kind : Kind) (q : List ℕ) (k : Packet) → Shape kind q k → Past kind k.challenge.start k.response.start
past Challenge q k s = let e = ap (λ (x : Packet). x.challenge.start) s.reads in omega arith
past Response q k s = tt
past SuccessRequest q k s = let e = ap (λ (x : Packet). x.response.start) s.reads in omega arith
past FailureRequest q k s = tt
past RetryRequest q k s = let e = ap (λ (x : Packet). x.challenge.start) s.reads in omega arith
past SuccessResponse q k s = tt
past FailureResponse q k s = tt
past EapSuccess q k s = tt
past EapFailure q k s = tt

-- ---- the moves. The packet is q under i and q' under j
module _ (p : Peer) (k : Packet) (i j : ℕ) (q q' random : List ℕ) (room : ℕ) (t : Twin q q') where
  -- an answer, where it fits
  sends : (a : ℕ) (n n' : Peer) (w w' : List ℕ) → Twin w w' → unnumbered_state n ≡ unnumbered_state n' → unnumbered (fitting room p (outcome a w n)) ≡ unnumbered (fitting room p (outcome a w' n'))
  unfolding fitting unnumbered pick
  sends a n n' w w' u e = go (ltb room (length w)) (ltb room (length w')) (ap (λ (l : ℕ). ltb room l) u.size)
    where
      go : (b b' : Bool) → b ≡ b' → unnumbered (pick b (refused 20 p) (outcome a w n)) ≡ unnumbered (pick b' (refused 20 p) (outcome a w' n'))
      go true true f = refl
      go false false f = (λ x. outcome a (twin_set w w' u x) (e x))
      go true false f = clash refl (sym f)
      go false true f = clash refl f

  request : set (sized max_packet q) 1 0 ≡ set (sized max_packet q') 1 0
  request = twin_set (sized max_packet q) (sized max_packet q') (twin_sized q q' max_packet t)

  reply : (w w' : List ℕ) → Twin w w' → set (sized reply_room w) 1 0 ≡ set (sized reply_room w') 1 0
  reply w w' u = twin_set (sized reply_room w) (sized reply_room w') (twin_sized w w' reply_room u)

  bare : (stage : Stage) (w w' : List ℕ) → Twin w w' → unnumbered (fitting room p (outcome 0 w (answered stage q w p))) ≡ unnumbered (fitting room p (outcome 0 w' (answered stage q' w' p)))
  unfolding answered unnumbered_state
  bare stage w w' u =
      sends 0 (answered stage q w p) (answered stage q' w' p) w w' u
      (λ x. record { stage = stage; credentials = p.credentials; challenges = p.challenges; request = request x; requestlen = t.size x; reply = reply w w' u x; replylen = u.size x })

  responds : 2 ≤ k.challenge.start → unnumbered (moved_of (move_of Challenge) p (under i k) q random room) ≡ unnumbered (moved_of (move_of Challenge) p (under j k) q' random room)
  unfolding moved_by answer_of left_by next_of pick responded challenge_in response_to response_packet chap_packet header unnumbered_state
  responds h =
      let e : challenge_in (under i k) q ≡ challenge_in (under j k) q' = ap (sized 16) (drops q q' t k.challenge.start h) in
      let w = response_in p (under i k) q random in
      let w' = response_in p (under j k) q' random in
      let u : Twin w w' = rw e (twin 2 i j _) in
      sends 0 (responded (challenge_in (under i k) q) random k.chapid q w p) (responded (challenge_in (under j k) q') random k.chapid q' w' p) w w' u
      (λ x. record { stage = ChallengeResponseSent; credentials = p.credentials; challenges = record { authenticator = e x; own = random; chapid = k.chapid; expected = string_to (e x) random (own_name p) p.credentials.hash }; request = request x; requestlen = t.size x; reply = reply w w' u x; replylen = u.size x })

  abbrev Confirming : ℕ → List ℕ → Bool → Outcome Peer
  Confirming i q right = unnumbered (fitting room p (leaving (pick right (writes (success_response i)) (says 3)) (move_of SuccessRequest) (under i k) q random p))

  concludes : (right : Bool) → Confirming i q right ≡ Confirming j q' right
  unfolding left_by next_of pick
  concludes true = bare SuccessResponseSent (success_response i) (success_response j) (twin 2 i j _)
  concludes false = refl

  confirms : 2 ≤ k.response.start → unnumbered (moved_of (move_of SuccessRequest) p (under i k) q random room) ≡ unnumbered (moved_of (move_of SuccessRequest) p (under j k) q' random room)
  unfolding moved_by answer_of confirmation digits_in right_digits
  confirms h =
      ap (λ (l : List ℕ). Confirming i q (same l (right_digits p))) (parts q q' t k.response.start 40 h)
      ∙ concludes (same (part q' k.response.start 40) (right_digits p))

  waits : 2 ≤ k.challenge.start → unnumbered (moved_of (move_of RetryRequest) p (under i k) q random room) ≡ unnumbered (moved_of (move_of RetryRequest) p (under j k) q' random room)
  unfolding moved_by answer_of left_by pick awaiting renewed_in unnumbered_state
  waits h =
      sends 1 (awaiting (renewed_in k q) q p) (awaiting (renewed_in k q') q' p) [] [] (record { size = refl; octet = λ x n. refl })
      (λ x. record {
        stage = Waiting;
        credentials = p.credentials;
        challenges = record { authenticator = cells 16 (unhex_at (parts q q' t k.challenge.start 32 h x)); own = p.challenges.own; chapid = p.challenges.chapid; expected = p.challenges.expected };
        request = request x;
        requestlen = t.size x;
        reply = set p.reply 1 0;
        replylen = p.replylen;
      })

  moves : (kind : Kind) → Past kind k.challenge.start k.response.start → unnumbered (moved_of (move_of kind) p (under i k) q random room) ≡ unnumbered (moved_of (move_of kind) p (under j k) q' random room)
  unfolding moved_by answer_of left_by next_of pick
  moves Challenge h = responds h
  moves Response h = refl
  moves SuccessRequest h = confirms h
  moves FailureRequest h = bare FailureResponseSent (failure_response i) (failure_response j) (twin 2 i j _)
  moves RetryRequest h = waits h
  moves SuccessResponse h = refl
  moves FailureResponse h = refl
  moves EapSuccess h = refl
  moves EapFailure h = refl

  -- no other turn looks into the packet
  turns : (stage : Stage) (kind : Kind) → Past kind k.challenge.start k.response.start → unnumbered (moved_of (turn_of stage kind false false) p (under i k) q random room) ≡ unnumbered (moved_of (turn_of stage kind false false) p (under j k) q' random room)
  unfolding turn_of moved_by answer_of left_by next_of pick
  turns stage kind h =
      arms (λ m. unnumbered (moved_of m p (under i k) q random room) ≡ unnumbered (moved_of m p (under j k) q' random room)) (repeats stage kind false) refl
      (arms (λ m. unnumbered (moved_of m p (under i k) q random room) ≡ unnumbered (moved_of m p (under j k) q' random room)) (not (takes stage kind)) refl
      (arms (λ m. unnumbered (moved_of m p (under i k) q random room) ≡ unnumbered (moved_of m p (under j k) q' random room)) (misnumbered stage kind false) refl
      (moves kind h)))

-- ---- 4
unread : (p : Peer) (s random : List ℕ) (room n : ℕ) → read_packet end.Peer s ≡ refusal n → eqb n 0 ≡ false → step_of p s random room ≡ refused n p
unfolding step_of step_by read_by
unread p s random room n e z = ap (λ (t : Told Packet). read_by (right_digits p) t p s random room) e ∙ pick_false _ _ _ z

pub equality_only : EqualityOnly
equality_only p code i j rest random room n m = go (read_renumbered i j end.Peer code rest)
  where
    s : List ℕ
    s = code ∷ i ∷ rest

    s' : List ℕ
    s' = code ∷ j ∷ rest

    t : Twin s s'
    t = twin code i j rest

    go : Renumbered i j (read_packet end.Peer s) (read_packet end.Peer s') → unnumbered (step_of p s random room) ≡ unnumbered (step_of p s' random room)
    go (none x z e f) = ap unnumbered (unread p s random room x e z ∙ sym (unread p s' random room x f z))
    go (some k e f) =
        ap unnumbered (newly p s random room (under i k) e n)
        ∙ turns p k i j (take k.length s) (take k.length s') random room (twin_take s s' k.length t) p.stage k.kind (past k.kind (take k.length s) (under i k) (tells end.Peer s (under i k) e).shape)
        ∙ ap unnumbered (sym (newly p s' random room (under j k) f m))
