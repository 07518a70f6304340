-- The peer's calls are exactly what specs/Exact has of them.
use Prim.Native.Nat.{ℕ, ◌≤◌}
use mathlib.Core.Path.{◌≡◌, refl, sym, ap, subst, ◌∙◌}
use mathlib.Core.List.{List, []}
use mathlib.Core.Bool.{Bool, true, false, not, ◌||◌}
use native.Mathlib.Omega.{arith}
use lib.ListN.{length, take}
use lib.Dec.{eqb, ltb}
use borrow.Author.Tests.{eqb-true, eqb-false, eq-eqb, ne_eqb, ltb-true, ltb-false, lt-ltb, le-ltb, not-true, not-false}
use Rattle.octets.specs.Choice.{pick}
use Rattle.octets.specs.Octets.{octet_is, same}
use Rattle.octets.proofs.Exits.{pick_true, pick_false, picked, passed, tested, clash}
use Rattle.octets.proofs.Scans.{same_refl, same_true}
use Rattle.answer.specs.Outcome.{Told, gives, Outcome, outcome, refused, fitting}
use Rattle.answer.specs.Sizes.{max_name}
use Rattle.answer.proofs.Outcomes.{fitting_so}
use Rattle.packet.specs.declared.End.TheVariants as end
use Rattle.packet.specs.declared.Kind.{Kind}
use Rattle.packet.specs.declared.Kind.TheVariants.{Challenge, SuccessRequest, FailureRequest, RetryRequest, EapSuccess, EapFailure}
use Rattle.packet.specs.declared.Packet.{Packet}
use Rattle.packet.specs.Kinds.{is_kind, is_request}
use Rattle.packet.specs.Reader.{read_packet}
use Rattle.packet.proofs.Apart.{kind_so}
use Rattle.packet.specs.Promises.{ReadOrRefused, refused_by, read_as}
use Rattle.packet.proofs.Readings.{read_or_refused}
use Rattle.peer.specs.declared.Stage.{Stage}
use Rattle.peer.specs.declared.Stage.TheVariants.{Begin, ChallengeResponseSent, SuccessResponseSent, FailureResponseSent, Waiting, Success, Failed}
use Rattle.peer.specs.declared.Peer.{Peer}
use Rattle.peer.specs.State.{last_request, last_id, right_digits, staged}
use Rattle.peer.specs.Moves.{takes, move_of, sent, waiting, repeats, misnumbered, turn_of}
use Rattle.peer.specs.Calls.{new_of, digits_in, confirmation, answer_of, next_of, left_by, leaving, moved_by, moved_of, turn_in, taken_by, read_by, step_by, step_of, resume_of, supply_of, give_up_of}
use Rattle.peerlaws.specs.Exact.{Repeats, Misnumbered, another_request, other_end, Row, challenge, right_string, other_string, no_retry, retry, eap_success, eap_failure, Steps, unread, repeat, not_taken, wrong_identifier, taken, StepExact, Supplies, SupplyExact, GivesUp, GiveUpExact, Makes, NewExact}
use Rattle.peerlaws.specs.Exact as exact
use Rattle.peerlaws.proofs.Forward.{turned, moved_on, right_or_other, repeated, resumes_so}

either : {A : Type 0} (a b : Bool) → (a || b) ≡ true → (a ≡ true → A) → (b ≡ true → A) → A
either true b e x y = x refl
either false b e x y = y e

-- every stage that has sent takes EAP Failure
failure_taken : (stage : Stage) → sent stage ≡ true → takes stage EapFailure ≡ true
failure_taken Begin e = clash refl e
failure_taken ChallengeResponseSent e = refl
failure_taken SuccessResponseSent e = refl
failure_taken FailureResponseSent e = refl
failure_taken Waiting e = clash refl e
failure_taken Success e = clash refl e
failure_taken Failed e = clash refl e

-- ---- a packet that was read
module _ (p : Peer) (s random : List ℕ) (room : ℕ) (k : Packet) (e : read_packet end.Peer s ≡ gives k) where
  abbrev cut : List ℕ
  cut = take k.length s

  abbrev again : Bool
  again = same cut (last_request p)

  abbrev known : Bool
  known = octet_is (last_request p) 1 k.id.0

  -- the tests, as the cases
  repeats_so : repeats p.stage k.kind again ≡ true → Repeats p s
  unfolding repeats
  repeats_so t =
      let a = passed (not (sent p.stage)) _ t in
      let b = passed (not (is_request k.kind)) _ a.1 in
      record { stage = not-false _ a.0; packet = k; reads = e; request = not-false _ b.0; same = same_true _ _ b.1 }

  repeats_is : Repeats p s → repeats p.stage k.kind again ≡ true
  unfolding repeats
  repeats_is r =
      let w : r.packet ≡ k = ap (λ (t : Told Packet). t.value) (sym r.reads ∙ e) in
      pick_false _ _ _ (ap not r.stage)
      ∙ pick_false _ _ _ (ap not (sym (ap (λ (x : Packet). is_request x.kind) w) ∙ r.request))
      ∙ ap (λ (l : List ℕ). same l (last_request p)) (sym (ap (λ (x : Packet). take x.length s) w) ∙ r.same)
      ∙ same_refl (last_request p)

  repeats_not : (Repeats p s → ⊥) → repeats p.stage k.kind again ≡ false
  repeats_not n = tested _ (λ t. absurd (n (repeats_so t))) (λ t. t)

  misnumbered_so : misnumbered p.stage k.kind known ≡ true → Misnumbered p k
  unfolding misnumbered octet_is last_id
  misnumbered_so t =
      let a = passed (not (sent p.stage)) _ t in
      tested (is_request k.kind)
      (λ r. another_request (not-false _ a.0) r (sym (eqb-true _ _ (sym (pick_true _ _ _ r) ∙ a.1))))
      (λ r. other_end (not-false _ a.0) r (λ z. eqb-false _ _ (not-true _ (sym (pick_false _ _ _ r) ∙ a.1)) (sym z)))

  misnumbered_not : (Misnumbered p k → ⊥) → misnumbered p.stage k.kind known ≡ false
  misnumbered_not n = tested _ (λ t. absurd (n (misnumbered_so t))) (λ t. t)

  misnumbered_is : Misnumbered p k → misnumbered p.stage k.kind known ≡ true
  unfolding misnumbered octet_is last_id
  misnumbered_is (another_request a r z) = pick_false _ _ _ (ap not a) ∙ pick_true _ _ _ r ∙ eq-eqb _ _ (sym z)
  misnumbered_is (other_end a r n) = pick_false _ _ _ (ap not a) ∙ pick_false _ _ _ r ∙ ap not (ne_eqb _ _ (λ z. n (sym z)))

  -- an answer without a reply needs no room
  plain : (n : ℕ) (x : Peer) → fitting room p (outcome n [] x) ≡ outcome n [] x
  plain n x = fitting_so room p (outcome n [] x) (omega arith)

  abbrev Here : Outcome Peer → Type 0
  Here = Row p k cut random room

  -- of a packet of that kind
  of : (kind : Kind) → is_kind kind k.kind ≡ true → (k.kind ≡ kind → Here (moved_of (move_of kind) p k cut random room)) → Here (moved_of (move_of k.kind) p k cut random room)
  of kind t x = let g = kind_so kind k.kind t in subst (λ (z : Kind). Here (moved_of (move_of z) p k cut random room)) (sym g) (x g)

  ends : sent p.stage ≡ true → is_kind EapFailure k.kind ≡ true → Here (moved_of (move_of k.kind) p k cut random room)
  unfolding moved_by answer_of left_by pick
  ends f t = of EapFailure t (λ g. rw (plain 3 (staged Failed p)) (eap_failure f g))

  row : (stage : Stage) → p.stage ≡ stage → takes stage k.kind ≡ true → Here (moved_of (move_of k.kind) p k cut random room)
  unfolding moved_by answer_of confirmation right_digits left_by next_of pick
  row Begin f t = of Challenge t (λ g. challenge f g)
  row ChallengeResponseSent f t =
      either _ _ t
      (λ t. of SuccessRequest t (λ g.
      picked (λ (a : Outcome (Unit {0})). Here (fitting room p (leaving a (move_of SuccessRequest) k cut random p))) (same (digits_in k cut) (right_digits p))
      (λ d. right_string f g (same_true _ _ d))
      (λ d. rw (plain 3 (staged Failed p)) (other_string f g (λ z. clash d (ap (λ (x : List ℕ). same x (right_digits p)) z ∙ same_refl (right_digits p)))))))
      (λ t. either _ _ t
      (λ t. of FailureRequest t (λ g. no_retry f g))
      (λ t. either _ _ t
      (λ t. of RetryRequest t (λ g. rw (plain 1 _) (retry f g)))
      (λ t. ends (ap sent f) t)))
  row SuccessResponseSent f t =
      either _ _ t
      (λ t. of EapSuccess t (λ g. rw (plain 2 (staged Success p)) (eap_success f g)))
      (λ t. ends (ap sent f) t)
  row FailureResponseSent f t = ends (ap sent f) t
  row Waiting f t = clash refl t
  row Success f t = clash refl t
  row Failed f t = clash refl t

  turn : Steps p s random room (taken_by (right_digits p) p k cut random room)
  unfolding taken_by turn_in turn_of moved_by answer_of left_by next_of pick
  turn =
      picked (λ m. Steps p s random room (moved_of m p k cut random room)) (repeats p.stage k.kind again)
      (λ t. repeat (repeats_so t))
      (λ t.
      let n : Repeats p s → ⊥ = λ r. clash t (repeats_is r) in
      picked (λ m. Steps p s random room (moved_of m p k cut random room)) (not (takes p.stage k.kind))
      (λ u. rw (plain 19 p) (not_taken k e n (not-true _ u)))
      (λ u. picked (λ m. Steps p s random room (moved_of m p k cut random room)) (misnumbered p.stage k.kind known)
      (λ m. rw (plain 18 p) (wrong_identifier k e n (not-false _ u) (misnumbered_so m)))
      (λ m. taken k e n (λ x. clash m (misnumbered_is x)) (row p.stage refl (not-false _ u)))))

  -- ---- and no other outcome
  row_is : {o : Outcome Peer} → Row p k cut random room o → (takes p.stage k.kind ≡ true) × (moved_of (move_of k.kind) p k cut random room ≡ o)
  unfolding moved_by answer_of confirmation right_digits left_by next_of pick
  row_is (challenge f g) = ((λ j. takes (f j) (g j)), ap (λ (z : Kind). moved_of (move_of z) p k cut random room) g)
  row_is (right_string f g d) = (
    (λ j. takes (f j) (g j)),
    ap (λ (z : Kind). moved_of (move_of z) p k cut random room) g
        ∙ ap (fitting room p) (right_or_other p s random room k e (same (digits_in k cut) (right_digits p)) ∙ pick_true _ _ _ (ap (λ (x : List ℕ). same x (right_digits p)) d ∙ same_refl (right_digits p))),
  )
  row_is (other_string f g n) = (
    (λ j. takes (f j) (g j)),
    ap (λ (z : Kind). moved_of (move_of z) p k cut random room) g
        ∙ ap (fitting room p) (right_or_other p s random room k e (same (digits_in k cut) (right_digits p)) ∙ pick_false _ _ _ (tested _ (λ t. absurd (n (same_true _ _ t))) (λ t. t)))
        ∙ plain 3 (staged Failed p),
  )
  row_is (no_retry f g) = ((λ j. takes (f j) (g j)), ap (λ (z : Kind). moved_of (move_of z) p k cut random room) g)
  row_is (retry f g) = ((λ j. takes (f j) (g j)), ap (λ (z : Kind). moved_of (move_of z) p k cut random room) g ∙ plain 1 _)
  row_is (eap_success f g) = ((λ j. takes (f j) (g j)), ap (λ (z : Kind). moved_of (move_of z) p k cut random room) g ∙ plain 2 (staged Success p))
  row_is (eap_failure f g) = (ap (takes p.stage) g ∙ failure_taken p.stage f, ap (λ (z : Kind). moved_of (move_of z) p k cut random room) g ∙ plain 3 (staged Failed p))

  not_taken_is : (Repeats p s → ⊥) → takes p.stage k.kind ≡ false → step_of p s random room ≡ refused 19 p
  unfolding turn_of moved_by answer_of left_by pick
  not_taken_is n t =
      turned p s random room k e
      ∙ ap (λ m. moved_of m p k cut random room) (pick_false _ _ _ (repeats_not n) ∙ pick_true _ _ _ (ap not t))
      ∙ plain 19 p

  wrong_identifier_is : (Repeats p s → ⊥) → takes p.stage k.kind ≡ true → Misnumbered p k → step_of p s random room ≡ refused 18 p
  unfolding turn_of moved_by answer_of left_by pick
  wrong_identifier_is n t m =
      turned p s random room k e
      ∙ ap (λ m. moved_of m p k cut random room) (pick_false _ _ _ (repeats_not n) ∙ pick_false _ _ _ (ap not t) ∙ pick_true _ _ _ (misnumbered_is m))
      ∙ plain 18 p

  taken_is : (Repeats p s → ⊥) → (Misnumbered p k → ⊥) → {o : Outcome Peer} → Row p k cut random room o → step_of p s random room ≡ o
  taken_is n m r =
      let i = row_is r in
      turned p s random room k e ∙ moved_on p s random room k e again known (repeats_not n) (misnumbered_not m) i.0 ∙ i.1

-- ---- every step
pub steps : (p : Peer) (s random : List ℕ) (room : ℕ) → Steps p s random room (step_of p s random room)
unfolding step_of step_by read_by
steps p s random room = go (read_or_refused end.Peer s) refl
  where
    go : {t : Told Packet} → ReadOrRefused s t → read_packet end.Peer s ≡ t → Steps p s random room (read_by (right_digits p) t p s random room)
    go (refused_by n h l) e = rw (pick_false (eqb n 0) _ _ (ne_eqb n 0 (λ z. absurd (omega arith)))) (unread n (ap (λ (t : Told Packet). t.number) e) h l)
    go (read_as k i) e = rw (pick_true true _ _ refl) (turn p s random room k e)

unread_is : (p : Peer) (s random : List ℕ) (room n : ℕ) → (read_packet end.Peer s).number ≡ n → 10 ≤ n → step_of p s random room ≡ refused n p
unfolding step_of step_by read_by
unread_is p s random room n e h = pick_false _ _ _ (ne_eqb (read_packet end.Peer s).number 0 (λ z. absurd (omega arith))) ∙ ap (λ (x : ℕ). refused x p) e

only_step : (p : Peer) (s random : List ℕ) (room : ℕ) (o : Outcome Peer) → Steps p s random room o → o ≡ step_of p s random room
only_step p s random room o (unread n e h l) = sym (unread_is p s random room n e h)
only_step p s random room o (repeat r) = sym (repeated p s random room r.packet r.reads r.stage r.request r.same)
only_step p s random room o (not_taken k e n t) = sym (not_taken_is p s random room k e n t)
only_step p s random room o (wrong_identifier k e n t m) = sym (wrong_identifier_is p s random room k e n t m)
only_step p s random room o (taken k e n m r) = sym (taken_is p s random room k e n m r)

pub step_exact : StepExact
step_exact p s random room = (steps p s random room, only_step p s random room)

-- ---- the other calls
waits_so : (stage : Stage) → not (waiting stage) ≡ false → stage ≡ Waiting
waits_so Begin e = clash e refl
waits_so ChallengeResponseSent e = clash e refl
waits_so SuccessResponseSent e = clash e refl
waits_so FailureResponseSent e = clash e refl
waits_so Waiting e = refl
waits_so Success e = clash e refl
waits_so Failed e = clash e refl

waits_not : (stage : Stage) → (stage ≡ Waiting → ⊥) → not (waiting stage) ≡ true
waits_not stage n = tested (not (waiting stage)) (λ e. e) (λ e. absurd (n (waits_so stage e)))

idle : (stage : Stage) → not (waiting stage) ≡ true → stage ≡ Waiting → ⊥
idle stage e w = clash (ap (λ (g : Stage). not (waiting g)) w) e

pub supplies : (p : Peer) (name hash random : List ℕ) (room : ℕ) → Supplies p name hash random room (supply_of p name hash random room)
unfolding supply_of resume_of
supplies p name hash random room =
    picked (Supplies p name hash random room) (not (waiting p.stage))
    (λ e. exact.not_waiting (idle p.stage e))
    (λ e. picked (Supplies p name hash random room) (ltb max_name (length name))
    (λ f. exact.too_long (waits_so p.stage e) (ltb-true _ _ f))
    (λ f. exact.answers (waits_so p.stage e) (ltb-false _ _ f)))

only_supply : (p : Peer) (name hash random : List ℕ) (room : ℕ) (o : Outcome Peer) → Supplies p name hash random room o → o ≡ supply_of p name hash random room
unfolding supply_of resume_of
only_supply p name hash random room o (exact.not_waiting n) = sym (pick_true _ _ _ (waits_not p.stage n))
only_supply p name hash random room o (exact.too_long w h) = sym (pick_false _ _ _ (ap (λ (g : Stage). not (waiting g)) w) ∙ pick_true _ _ _ (lt-ltb _ _ h))
only_supply p name hash random room o (exact.answers w h) = sym (resumes_so p name hash random room w h)

pub supply_exact : SupplyExact
supply_exact p name hash random room = (supplies p name hash random room, only_supply p name hash random room)

pub gives_up_lem : (p : Peer) → GivesUp p (give_up_of p)
unfolding give_up_of
gives_up_lem p = picked (GivesUp p) (not (waiting p.stage)) (λ e. exact.not_waiting (idle p.stage e)) (λ e. exact.ends (waits_so p.stage e))

only_give_up : (p : Peer) (o : Outcome Peer) → GivesUp p o → o ≡ give_up_of p
unfolding give_up_of
only_give_up p o (exact.not_waiting n) = sym (pick_true _ _ _ (waits_not p.stage n))
only_give_up p o (exact.ends w) = sym (pick_false _ _ _ (ap (λ (g : Stage). not (waiting g)) w))

pub give_up_exact : GiveUpExact
give_up_exact p = (gives_up_lem p, only_give_up p)

only_new : (name hash : List ℕ) (o : Outcome Peer) → Makes name hash o → o ≡ new_of name hash
unfolding new_of
only_new name hash o (exact.too_long h) = sym (pick_true _ _ _ (lt-ltb _ _ h))
only_new name hash o (exact.makes h) = sym (pick_false _ _ _ (le-ltb _ _ h))

pub new_exact : NewExact
unfolding new_of
new_exact name hash =
    (picked (Makes name hash) (ltb max_name (length name)) (λ f. exact.too_long (ltb-true _ _ f)) (λ f. exact.makes (ltb-false _ _ f)), only_new name hash)
