-- What a call does where its premises are given: for whoever follows a login call by call.
use Rattle.std.proofs.Common.{◌≡◌, ℕ, ◌+◌, ◌≤◌, true, false, not, eqb, List, length, refl, ap, ◌∙◌, eq-eqb}
use Rattle.octets.specs.Choice.{pick}
use Rattle.octets.specs.Octets.{same}
use Rattle.octets.proofs.Exits.{pick_true, pick_false, or_none, and_first, and_second, tested, clash}
use Rattle.octets.proofs.Scans.{same_true}
use Rattle.answer.specs.Outcome.{gives, refused}
use Rattle.answer.specs.declared.Identifier.{Identifier}
use Rattle.answer.proofs.Outcomes.{fitting_so}
use Rattle.packet.specs.declared.End.TheVariants as end
use Rattle.packet.specs.declared.Kind.TheVariants.{Response, SuccessResponse, FailureResponse}
use Rattle.packet.specs.declared.Packet.{Packet}
use Rattle.packet.specs.Kinds.{is_kind}
use Rattle.packet.specs.Reader.{read_packet}
use Rattle.packet.proofs.Sizes.{length_challenge_packet, length_failure_request_60}
use Rattle.server.specs.declared.Failure.{Failure}
use Rattle.server.specs.declared.Stage.{Stage}
use Rattle.server.specs.declared.Stage.TheVariants.{Begin, ChallengeSent, SuccessRequestSent, FailureRequestSent}
use Rattle.server.specs.declared.Server.{Server}
use Rattle.server.specs.State.{next_id, chap_of, challenge_to, retry_digit, failure_to}
use Rattle.server.specs.Moves.{begins, takes, misnumbered, Taken}
use Rattle.server.specs.Calls.{asking, failing, authenticated, ended, start_fits, start_of, fail_of, taken_by, packet_of}
use Rattle.server.proofs.Turns.{taken_turn}

-- a start in BEGIN
pub starts_so : (s : Server) (id : Identifier) (challenge name : List ℕ) (retries room : ℕ) → s.stage ≡ Begin → length challenge ≡ 16 → start_fits (length name) retries ≡ true → 26 + length name ≤ room
    → start_of s id challenge name retries room ≡ asking s ChallengeSent id challenge retries (challenge_to id challenge name)
unfolding start_of
starts_so s id challenge name retries room g c f r =
    let l : length (challenge_to id challenge name) ≤ room = rw (length_challenge_packet id.0 (chap_of id).0 challenge name c) r in
    pick_false _ _ _ (ap (λ (h : Stage). not (begins h)) g) ∙ pick_false _ _ _ (ap not f) ∙ fitting_so room s _ l

-- ---- a packet that was read, under the outstanding Identifier
module _ (s : Server) (p : List ℕ) (k : Packet) (read : read_packet end.Server p ≡ gives k) (id : k.id.0 ≡ s.request.id.0) where
  taken_so : (g : Stage) → s.stage ≡ g → takes g k.kind ≡ true → (is_kind Response k.kind ≡ true → k.chapid.0 ≡ s.request.chapid.0) → Taken s p g k
  unfolding misnumbered
  taken_so g e t c = record {
    reads = read;
    stage = e;
    kind = t;
    numbered =
        or_none _ _ (ap not (eq-eqb _ _ id))
        (tested (is_kind Response k.kind) (λ r. and_second _ _ r (ap not (eq-eqb _ _ (c r)))) (λ r. and_first _ _ r));
  }

  pub judges_so : s.stage ≡ ChallengeSent → k.kind ≡ Response → k.chapid.0 ≡ s.request.chapid.0 → Taken s p ChallengeSent k
  judges_so e f c = taken_so ChallengeSent e (ap (is_kind Response) f) (λ _. c)

  pub confirms_so : s.stage ≡ SuccessRequestSent → k.kind ≡ SuccessResponse → Taken s p SuccessRequestSent k
  confirms_so e f = taken_so SuccessRequestSent e (ap (is_kind SuccessResponse) f) (λ r. clash (ap (is_kind Response) f) r)

  pub ends_so : s.stage ≡ FailureRequestSent → k.kind ≡ FailureResponse → Taken s p FailureRequestSent k
  ends_so e f = taken_so FailureRequestSent e (ap (is_kind FailureResponse) f) (λ r. clash (ap (is_kind Response) f) r)

-- ---- what follows
-- a Failure Request that is due: no 22, no 20
pub fail_so : (f : Failure) (s : Server) (fresh : List ℕ) (room : ℕ) → (fresh ≡ s.request.challenge → ⊥) → 100 ≤ f.error → f.error ≤ 999 → 60 ≤ room → fail_of f s fresh room ≡ failing s f fresh
unfolding fail_of
fail_so f s fresh room d h k r =
    let n : same fresh s.request.challenge ≡ false = tested (same fresh s.request.challenge) (λ e. absurd (d (same_true _ _ e))) (λ e. e) in
    let l : length (failure_to (next_id s.request.id) f.error (retry_digit f.retry) fresh) ≤ room = rw (length_failure_request_60 _ _ f.error (retry_digit f.retry) fresh h k) r in
    pick_false _ _ _ n ∙ fitting_so room s _ l

module _ (s : Server) (p table fresh : List ℕ) (room : ℕ) (k : Packet) where
  pub taken_by_lem : (g : Stage) → Taken s p g k → packet_of s p table fresh room ≡ taken_by g k s p table fresh room
  unfolding packet_of
  taken_by_lem g t =
      let e = taken_turn t in
      (λ j. pick (eqb (e j).number 0) (taken_by (t.stage j) (e j).value s p table fresh room) (refused (e j).number s))
      ∙ pick_true _ _ _ refl

  pub confirmed : Taken s p SuccessRequestSent k → 4 ≤ room → packet_of s p table fresh room ≡ authenticated s k
  unfolding taken_by
  confirmed t m = taken_by_lem SuccessRequestSent t ∙ fitting_so room s (authenticated s k) m

  pub ended_so : Taken s p FailureRequestSent k → 4 ≤ room → packet_of s p table fresh room ≡ ended s k
  unfolding taken_by
  ended_so t m = taken_by_lem FailureRequestSent t ∙ fitting_so room s (ended s k) m
