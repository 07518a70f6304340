-- What a step of the peer does where its premises are given: stage, kind and Identifier. For whoever follows a login call by call.
use Prim.Native.Nat.{ℕ, ◌≤◌}
use mathlib.Core.Path.{◌≡◌, refl, sym, ap, ◌∙◌}
use mathlib.Core.Bool.{Bool, true, false, not}
use mathlib.Core.List.{List, [], ◌++◌, append-nil}
use native.Mathlib.Omega.{arith}
use lib.ListN.{length, get_or, take, length-take}
use lib.Seq.{get_or-take, take_at}
use borrow.Author.Tests.{eq-eqb, ne_eqb, le-ltb}
use Rattle.octets.specs.Choice.{pick}
use Rattle.octets.specs.Lists.{part}
use Rattle.octets.specs.Octets.{octet_is, same}
use Rattle.octets.proofs.Exits.{pick_true, pick_false, arms, tested, clash}
use Rattle.octets.proofs.Scans.{same_refl, same_true}
use Rattle.answer.specs.Outcome.{Told, gives, outcome, fitting}
use Rattle.answer.specs.Sizes.{max_packet, max_name}
use Rattle.answer.proofs.Outcomes.{fitting_so}
use Rattle.packet.specs.declared.End.TheVariants as end
use Rattle.packet.specs.declared.Kind.{Kind}
use Rattle.packet.specs.declared.Kind.TheVariants.{Challenge, Response, SuccessRequest, FailureRequest, RetryRequest, SuccessResponse, FailureResponse, EapSuccess, EapFailure}
use Rattle.packet.specs.declared.Packet.{Packet}
use Rattle.packet.specs.Forms.{success_response, failure_response}
use Rattle.packet.specs.Kinds.{is_request}
use Rattle.packet.specs.Reader.{read_packet}
use Rattle.packet.specs.Learned.{success_reading}
use Rattle.packet.proofs.Sizes.{length_success}
use Rattle.packet.proofs.Back.{tail_size, success_back}
use Rattle.packet.proofs.Readings.{Shape, tells, read_id}
use Rattle.peer.specs.declared.Peer.{Peer}
use Rattle.peer.specs.declared.Stage.{Stage}
use Rattle.peer.specs.declared.Stage.TheVariants.{Begin, ChallengeResponseSent, SuccessResponseSent, FailureResponseSent, Waiting, Success, Failed}
use Rattle.peer.specs.State.{last_request, last_reply, last_id, right_digits, initial, staged, answered, awaiting}
use Rattle.peer.specs.Moves.{takes, move_of, sent, waiting, repeats, misnumbered, turn_of}
use Rattle.peer.specs.Calls.{new_of, renewed_in, digits_in, says, writes, confirmation, answer_of, next_of, left_by, leaving, response_in, moved_by, turn_in, taken_by, read_by, step_by, moved_of, step_of, response_by, resume_of, supply_of}
use Rattle.peerlaws.specs.Exact.{responding, supplying}
use Rattle.peerlaws.specs.Promises.{AnyTailTaken, Unlike, AnyChapIdTaken}

-- ---- a packet that was read, cut at L: octet 1 is its Identifier, and it is no longer than the state's place for it
pub id_here : (s : List ℕ) (k : Packet) → read_packet end.Peer s ≡ gives k → get_or (take k.length s) 1 0 ≡ k.id.0
id_here s k read = get_or-take k.length s 1 0 (omega (arith, (tells end.Peer s k read).least)) ∙ sym (read_id end.Peer s k read)

-- a Request's octet 6 is its MS-CHAPv2-ID
chap_of_lem : (kind : Kind) (q : List ℕ) (k : Packet) → is_request kind ≡ true → Shape kind q k → k.chapid.0 ≡ get_or q 6 0
chap_of_lem Challenge q k f s = ap (λ (x : Packet). x.chapid.0) s.reads
chap_of_lem Response q k f s = clash refl f
chap_of_lem SuccessRequest q k f s = ap (λ (x : Packet). x.chapid.0) s.reads
chap_of_lem FailureRequest q k f s = ap (λ (x : Packet). x.chapid.0) s.reads
chap_of_lem RetryRequest q k f s = ap (λ (x : Packet). x.chapid.0) s.reads
chap_of_lem SuccessResponse q k f s = clash refl f
chap_of_lem FailureResponse q k f s = clash refl f
chap_of_lem EapSuccess q k f s = clash refl f
chap_of_lem EapFailure q k f s = clash refl f

pub chap_here : (s : List ℕ) (k : Packet) → read_packet end.Peer s ≡ gives k → is_request k.kind ≡ true → get_or (take k.length s) 6 0 ≡ k.chapid.0
chap_here s k read f = sym (chap_of_lem k.kind (take k.length s) k f (tells end.Peer s k read).shape)

pub cut_most : (s : List ℕ) (k : Packet) → read_packet end.Peer s ≡ gives k → length (take k.length s) ≤ max_packet
cut_most s k read = omega (arith, length-take k.length s, (tells end.Peer s k read).most)

-- only the SENT stages take note of the last answered request
unsent : (stage : Stage) (kind : Kind) (same known : Bool) → sent stage ≡ false → turn_of stage kind same known ≡ turn_of stage kind false false
unfolding turn_of repeats misnumbered pick
unsent stage kind same known f = rw f refl

either_not : (a b : Bool) → b ≡ false → pick a false b ≡ false
either_not a b e = arms (λ (x : Bool). x ≡ false) a refl e

module _ (p : Peer) (s random : List ℕ) (room : ℕ) (k : Packet) (read : read_packet end.Peer s ≡ gives k) where
  abbrev q : List ℕ
  q = take k.length s

  pub turned : step_of p s random room ≡ moved_of (turn_of p.stage k.kind (same q (last_request p)) (octet_is (last_request p) 1 k.id.0)) p k q random room
  unfolding step_of step_by read_by taken_by turn_in
  turned = ap (λ (t : Told Packet). read_by (right_digits p) t p s random room) read ∙ pick_true _ _ _ refl

  -- a packet with another Identifier is not the last answered request
  other_not : (k.id.0 ≡ last_id p → ⊥) → same q (last_request p) ≡ false
  unfolding last_id
  other_not n = tested (same q (last_request p)) (λ e. absurd (n (sym (id_here s k read) ∙ ap (λ (x : List ℕ). get_or x 1 0) (same_true q (last_request p) e)))) (λ e. e)

  known_not : (k.id.0 ≡ last_id p → ⊥) → octet_is (last_request p) 1 k.id.0 ≡ false
  unfolding octet_is last_id
  known_not n = ne_eqb _ _ (λ e. n (sym e))

  pub newly : Unlike p k.id.0 → step_of p s random room ≡ moved_of (turn_of p.stage k.kind false false) p k q random room
  newly n =
      turned
      ∙ tested (sent p.stage)
      (λ f. (λ j. moved_of (turn_of p.stage k.kind (other_not (n f) j) (known_not (n f) j)) p k q random room))
      (λ f. ap (λ m. moved_of m p k q random room) (unsent p.stage k.kind (same q (last_request p)) (octet_is (last_request p) 1 k.id.0) f))

  -- ---- the last answered request again
  pub repeated : sent p.stage ≡ true → is_request k.kind ≡ true → q ≡ last_request p → step_of p s random room ≡ fitting room p (outcome 0 (last_reply p) p)
  unfolding turn_of repeats moved_by answer_of left_by next_of pick
  repeated a b c =
      turned
      ∙ ap (λ m. moved_of m p k q random room) (pick_true _ _ _ (pick_false _ _ _ (ap not a) ∙ pick_false _ _ _ (ap not b) ∙ ap (λ (x : List ℕ). same x (last_request p)) c ∙ same_refl (last_request p)))

  -- ---- the table's move
  pub moved_on : (same known : Bool) → repeats p.stage k.kind same ≡ false → misnumbered p.stage k.kind known ≡ false → takes p.stage k.kind ≡ true
      → moved_of (turn_of p.stage k.kind same known) p k q random room ≡ moved_of (move_of k.kind) p k q random room
  unfolding turn_of
  moved_on same known r i t = ap (λ m. moved_of m p k q random room) (pick_false _ _ _ r ∙ pick_false _ _ _ (ap not t) ∙ pick_false _ _ _ i)

  -- a Request, under an Identifier that is not the last answered one
  request_taken : takes p.stage k.kind ≡ true → is_request k.kind ≡ true → Unlike p k.id.0 → step_of p s random room ≡ moved_of (move_of k.kind) p k q random room
  unfolding repeats misnumbered
  request_taken t r n = newly n ∙ moved_on false false (either_not _ _ (either_not _ _ refl)) (either_not _ _ (pick_true _ _ _ r)) t

  -- EAP Success or Failure, under the last answered one
  end_taken : takes p.stage k.kind ≡ true → is_request k.kind ≡ false → last_id p ≡ k.id.0 → step_of p s random room ≡ moved_of (move_of k.kind) p k q random room
  unfolding repeats misnumbered octet_is last_id
  end_taken t r e =
      turned
      ∙ moved_on (same q (last_request p)) (octet_is (last_request p) 1 k.id.0) (either_not _ _ (pick_true _ _ _ (ap not r))) (either_not _ _ (pick_false _ _ _ r ∙ ap not (eq-eqb _ _ e))) t

  -- ---- by stage and kind
  request_at_lem : (g : Stage) (kind : Kind) → takes g kind ≡ true → is_request kind ≡ true → p.stage ≡ g → k.kind ≡ kind → Unlike p k.id.0 → step_of p s random room ≡ moved_of (move_of kind) p k q random room
  request_at_lem g kind t r e f n = request_taken ((λ j. takes (e j) (f j)) ∙ t) (ap is_request f ∙ r) n ∙ ap (λ (x : Kind). moved_of (move_of x) p k q random room) f

  end_at : (g : Stage) (kind : Kind) → takes g kind ≡ true → is_request kind ≡ false → p.stage ≡ g → k.kind ≡ kind → last_id p ≡ k.id.0 → step_of p s random room ≡ moved_of (move_of kind) p k q random room
  end_at g kind t r e f i = end_taken ((λ j. takes (e j) (f j)) ∙ t) (ap is_request f ∙ r) i ∙ ap (λ (x : Kind). moved_of (move_of x) p k q random room) f

  pub responds_so : p.stage ≡ Begin → k.kind ≡ Challenge → length (response_in p k q random) ≤ room
      → step_of p s random room ≡ responding p k q random
  unfolding moved_by answer_of left_by next_of pick
  responds_so e f r = request_at_lem Begin Challenge refl refl e f (λ z. clash (ap sent e) z) ∙ fitting_so room p _ r

  -- a Success Request: by its digits
  pub right_or_other : (b : Bool) → leaving (pick b (writes (success_response k.id.0)) (says 3)) (move_of SuccessRequest) k q random p
      ≡ pick b (outcome 0 (success_response k.id.0) (answered SuccessResponseSent q (success_response k.id.0) p)) (outcome 3 [] (staged Failed p))
  unfolding left_by next_of pick
  right_or_other true = refl
  right_or_other false = refl

  decides_so : p.stage ≡ ChallengeResponseSent → k.kind ≡ SuccessRequest → (k.id.0 ≡ last_id p → ⊥)
      → step_of p s random room ≡ fitting room p (pick (same (digits_in k q) (right_digits p)) (outcome 0 (success_response k.id.0) (answered SuccessResponseSent q (success_response k.id.0) p)) (outcome 3 [] (staged Failed p)))
  unfolding moved_by answer_of confirmation right_digits
  decides_so e f d =
      request_at_lem ChallengeResponseSent SuccessRequest refl refl e f (λ z. d) ∙ ap (fitting room p) (right_or_other (same (digits_in k q) (right_digits p)))

  pub fails_so : p.stage ≡ ChallengeResponseSent → k.kind ≡ FailureRequest → (k.id.0 ≡ last_id p → ⊥) → 6 ≤ room
      → step_of p s random room ≡ outcome 0 (failure_response k.id.0) (answered FailureResponseSent q (failure_response k.id.0) p)
  unfolding moved_by answer_of left_by next_of pick
  fails_so e f d r = request_at_lem ChallengeResponseSent FailureRequest refl refl e f (λ z. d) ∙ fitting_so room p _ r

  pub waits_so : p.stage ≡ ChallengeResponseSent → k.kind ≡ RetryRequest → (k.id.0 ≡ last_id p → ⊥) → step_of p s random room ≡ outcome 1 [] (awaiting (renewed_in k q) q p)
  unfolding moved_by answer_of left_by pick
  waits_so e f d = request_at_lem ChallengeResponseSent RetryRequest refl refl e f (λ z. d) ∙ fitting_so room p _ (omega arith)

  pub succeeds_so : p.stage ≡ SuccessResponseSent → k.kind ≡ EapSuccess → last_id p ≡ k.id.0 → step_of p s random room ≡ outcome 2 [] (staged Success p)
  unfolding moved_by answer_of left_by pick
  succeeds_so e f i = end_at SuccessResponseSent EapSuccess refl refl e f i ∙ fitting_so room p _ (omega arith)

  pub ends_so : p.stage ≡ FailureResponseSent → k.kind ≡ EapFailure → last_id p ≡ k.id.0 → step_of p s random room ≡ outcome 3 [] (staged Failed p)
  unfolding moved_by answer_of left_by pick
  ends_so e f i = end_at FailureResponseSent EapFailure refl refl e f i ∙ fitting_so room p _ (omega arith)

-- ---- 2. a Success Request at any tail
pub any_tail_taken : AnyTailTaken
unfolding digits_in
any_tail_taken p i chapid digits tail q pad random room is few forty upper e d =
    let k = success_reading i chapid tail in
    let size : length q ≡ k.length = ap length is ∙ length_success i chapid digits tail forty ∙ tail_size tail in
    let back = success_back i chapid digits tail forty upper (rw size at few) in
    let cut : take k.length (q ++ pad) ≡ q = take_at q pad k.length size in
    let there : part q 11 40 ≡ digits = ap (λ (l : List ℕ). part l 11 40) (is ∙ sym (append-nil _)) ∙ back.response_is [] in
    decides_so p (q ++ pad) random room k (ap (λ (l : List ℕ). read_packet end.Peer (l ++ pad)) is ∙ back.reads pad) e refl d
    ∙ (λ j. fitting room p (pick (same (digits_in k (cut j)) (right_digits p)) (outcome 0 (success_response i) (answered SuccessResponseSent (cut j) (success_response i) p)) (outcome 3 [] (staged Failed p))))
    ∙ (λ j. fitting room p (pick (same (there j) (right_digits p)) (outcome 0 (success_response i) (answered SuccessResponseSent q (success_response i) p)) (outcome 3 [] (staged Failed p))))

-- ---- 6. "the peer takes any MS-CHAPv2-ID"
pub any_chapid_taken : AnyChapIdTaken
any_chapid_taken p s random room k e = request_taken p s random room k e

-- ---- the calls without a packet
pub makes_so : (name hash : List ℕ) → length name ≤ max_name → new_of name hash ≡ outcome 0 [] (initial Begin name hash)
unfolding new_of
makes_so name hash h = pick_false _ _ _ (le-ltb _ _ h)

pub resumes_so : (p : Peer) (name hash random : List ℕ) (room : ℕ) → p.stage ≡ Waiting → length name ≤ max_name → supply_of p name hash random room ≡ resume_of p name hash random room
unfolding supply_of
resumes_so p name hash random room e h = pick_false _ _ _ (ap (λ (g : Stage). not (waiting g)) e) ∙ pick_false _ _ _ (le-ltb _ _ h)

pub supplies_so : (p : Peer) (name hash random : List ℕ) (room : ℕ) → p.stage ≡ Waiting → length name ≤ max_name → length (response_by p name hash random) ≤ room
    → supply_of p name hash random room ≡ supplying p name hash random
unfolding resume_of
supplies_so p name hash random room e h r = resumes_so p name hash random room e h ∙ fitting_so room p _ r
