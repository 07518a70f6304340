-- The turn that a packet brings, and what each move does.
use Prim.Native.Nat.{ℕ}
use mathlib.Core.Path.{◌≡◌, refl, sym, ap, ◌∙◌}
use mathlib.Core.List.{List, []}
use mathlib.Core.Bool.{Bool, true, false, not, beq}
use native.Mathlib.Omega.{arith}
use lib.ListN.{take, drop}
use Rattle.octets.specs.Choice.{pick}
use Rattle.octets.specs.Octets.{same}
use Rattle.octets.proofs.Exits.{pick_true, pick_false, gave_true, gave_false}
use Rattle.answer.specs.Outcome.{Outcome, outcome, fitting, refused}
use Rattle.answer.proofs.Outcomes.{fitting_so}
use Rattle.packet.specs.declared.Kind.{Kind}
use Rattle.packet.specs.declared.Packet.{Packet}
use Rattle.packet.specs.Forms.{success_response, failure_response}
use Rattle.packet.specs.Kinds.{is_request}
use Rattle.packet.specs.Reader.{challenge_in}
use Rattle.peer.specs.declared.Move.{Move}
use Rattle.peer.specs.declared.Move.TheVariants.{NotTaken, WrongIdentifier, Again, Respond, Confirm, Fail, Wait, Succeed, End}
use Rattle.peer.specs.declared.Peer.{Peer}
use Rattle.peer.specs.declared.Stage.{Stage}
use Rattle.peer.specs.declared.Stage.TheVariants.{Begin, ChallengeResponseSent, SuccessResponseSent, FailureResponseSent, Waiting, Success, Failed}
use Rattle.peer.specs.contracts.Stage.{the_type}
use denote.Enum.Bare.{sameb}
use Rattle.peer.specs.Moves.{sent, waiting, misnumbered}
use Rattle.peer.specs.State.{last_request, last_reply, right_digits, staged, answered, responded, awaiting}
use Rattle.peer.specs.Calls.{renewed_in, digits_in, confirmation, answer_of, next_of, left_by, response_in, moved_by, moved_of, turn_in, taken_by}

-- ---- number 18
pub misnumbered_so : (stage : Stage) (kind : Kind) (known s r : Bool) → s ≡ sent stage → r ≡ is_request kind → s ≡ true → beq r known ≡ misnumbered stage kind known
unfolding misnumbered pick
misnumbered_so stage kind known s r e f t = halves r known ∙ ap (λ (b : Bool). pick b known (not known)) f ∙ sym (pick_false _ _ _ (ap not (sym e ∙ t)))
  where
    halves : (a b : Bool) → beq a b ≡ pick a b (not b)
    halves true true = refl
    halves true false = refl
    halves false true = refl
    halves false false = refl

pub misnumbered_not : (stage : Stage) (kind : Kind) (known s : Bool) → s ≡ sent stage → s ≡ false → s ≡ misnumbered stage kind known
unfolding misnumbered
misnumbered_not stage kind known s e t = t ∙ sym (pick_true _ _ _ (ap not (sym e ∙ t)))

-- ---- the stage of supply and give-up
waits_by : (s : Stage) → sameb the_type s Waiting ≡ waiting s
waits_by Begin = refl
waits_by ChallengeResponseSent = refl
waits_by SuccessResponseSent = refl
waits_by FailureResponseSent = refl
waits_by Waiting = refl
waits_by Success = refl
waits_by Failed = refl

pub not_waiting : (s : Stage) (n b : Bool) → n ≡ not (sameb the_type s Waiting) → n ≡ b → not (waiting s) ≡ b
not_waiting s n b e t = sym (ap not (waits_by s)) ∙ sym e ∙ t

-- ---- what each move does
pub taken_as : (m t : Move) (p : Peer) (k : Packet) (q random : List ℕ) (room : ℕ) (last : List ℕ) → last ≡ last_request p → t ≡ turn_in p.stage k q last → t ≡ m → taken_by (right_digits p) p k q random room ≡ moved_of m p k q random room
unfolding taken_by
taken_as m t p k q random room last l e f =
    ap (λ (x : Move). moved_by (right_digits p) x p k q random room) (ap (turn_in p.stage k q) (sym l) ∙ sym e ∙ f)

without : (n room : ℕ) (p s : Peer) → fitting room p (outcome n [] s) ≡ outcome n [] s
without n room p s = fitting_so room p (outcome n [] s) (omega arith)

module _ (p : Peer) (k : Packet) (q random : List ℕ) (room : ℕ) where
  pub refuses_19 : moved_of NotTaken p k q random room ≡ refused 19 p
  unfolding moved_by answer_of left_by pick
  refuses_19 = without 19 room p p

  pub refuses_18 : moved_of WrongIdentifier p k q random room ≡ refused 18 p
  unfolding moved_by answer_of left_by pick
  refuses_18 = without 18 room p p

  pub repeats_last : moved_of Again p k q random room ≡ fitting room p (outcome 0 (last_reply p) p)
  unfolding moved_by answer_of left_by next_of pick
  repeats_last = refl

  pub responds : moved_of Respond p k q random room ≡ fitting room p (outcome 0 (response_in p k q random) (responded (challenge_in k q) random k.chapid q (response_in p k q random) p))
  unfolding moved_by answer_of left_by next_of pick
  responds = refl

  leaves : Outcome (Unit {0}) → Outcome Peer
  leaves a = fitting room p (outcome a.number a.octets (left_by a.number Confirm k q random a.octets p))

  alike : (digits string : List ℕ) → digits ≡ take 40 (drop k.response.start q) → string ≡ right_digits p → same digits string ≡ same (digits_in k q) (right_digits p)
  unfolding digits_in
  alike digits string d s = λ j. same (d j) (s j)

  pub confirms : (digits string : List ℕ) (r : Bool) → digits ≡ take 40 (drop k.response.start q) → string ≡ right_digits p → r ≡ same digits string → not r ≡ false
      → moved_of Confirm p k q random room ≡ fitting room p (outcome 0 (success_response k.id.0) (answered SuccessResponseSent q (success_response k.id.0) p))
  unfolding moved_by answer_of confirmation left_by next_of pick leaves
  confirms digits string r d s e t = ap leaves (pick_true _ _ _ (gave_true _ r (e ∙ alike digits string d s) t))

  pub confirms_not : (digits string : List ℕ) (r : Bool) → digits ≡ take 40 (drop k.response.start q) → string ≡ right_digits p → r ≡ same digits string → not r ≡ true → moved_of Confirm p k q random room ≡ outcome 3 [] (staged Failed p)
  unfolding moved_by answer_of confirmation left_by next_of pick leaves
  confirms_not digits string r d s e t = ap leaves (pick_false _ _ _ (gave_false _ r (e ∙ alike digits string d s) t)) ∙ without 3 room p (staged Failed p)

  -- the random octets go into a Response alone
  pub confirms_alone : moved_of Confirm p k q random room ≡ moved_of Confirm p k q [] room
  unfolding moved_by answer_of left_by next_of
  confirms_alone = refl

  pub fails : moved_of Fail p k q random room ≡ fitting room p (outcome 0 (failure_response k.id.0) (answered FailureResponseSent q (failure_response k.id.0) p))
  unfolding moved_by answer_of left_by next_of pick
  fails = refl

  pub waits : moved_of Wait p k q random room ≡ outcome 1 [] (awaiting (renewed_in k q) q p)
  unfolding moved_by answer_of left_by pick
  waits = without 1 room p (awaiting (renewed_in k q) q p)

  pub succeeds : moved_of Succeed p k q random room ≡ outcome 2 [] (staged Success p)
  unfolding moved_by answer_of left_by pick
  succeeds = without 2 room p (staged Success p)

  pub ends : moved_of End p k q random room ≡ outcome 3 [] (staged Failed p)
  unfolding moved_by answer_of left_by pick
  ends = without 3 room p (staged Failed p)
