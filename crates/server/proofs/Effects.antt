-- Every call does what specs/Effects says, and nothing else.
use Rattle.std.proofs.Common.{◌≡◌, ℕ, ◌≤◌, true, not, eqb, ltb, List, length, sym, refl, ap, ◌∙◌, arith, ltb-false, ltb-true, le-ltb, eq-eqb, ne_eqb, eqb-true, Result, Ok}
use borrow.Author.Tests.{eqb-false}
use Rattle.std.proofs.lemmas.Bool.{false_from_ne_true}
use Rattle.octets.specs.Octets.{same}
use Rattle.octets.proofs.Exits.{pick_true, pick_false, picked, clash, tested, passed}
use Rattle.octets.proofs.Scans.{same_refl, same_true}
use Rattle.answer.specs.Outcome.{Outcome, refused, fitting}
use Rattle.answer.specs.declared.Refusal.{Refusal}
use Rattle.answer.specs.Sizes.{max_name, max_retries}
use Rattle.answer.proofs.Outcomes.{fitting_so, fitting_not}
use Rattle.packet.specs.declared.Packet.{Packet}
use Rattle.packet.specs.Reader.{challenge_in}
use Rattle.mschap.specs.Users.{user_of}
use Rattle.verdict.specs.declared.Verdict.{Verdict}
use Rattle.verdict.specs.Verdict.{bad_table, wrong, right, judge_of}
use Rattle.verdict.specs.Promises.{Judges, judges_malformed, judges_wrong, judges_right}
use Rattle.verdict.proofs.Rightness.{judges, judged as judged-as}
use Rattle.server.specs.declared.Due.{Due}
use Rattle.server.specs.declared.Due.TheVariants as due
use Rattle.server.specs.declared.Failure.{Failure}
use Rattle.server.specs.declared.Stage.{Stage}
use Rattle.server.specs.declared.Stage.TheVariants.{Begin, ChallengeSent, SuccessRequestSent, FailureRequestSent, Success, Failed}
use Rattle.server.specs.declared.Server.{Server}
use Rattle.server.specs.Moves.{begins, sent, Taken}
use Rattle.server.specs.Calls.{start_fits, start_of, due_of, fail_of, act_of, nt_response_of, response_name, verdict_of, judged_by, taken_by, packet_of, resend_of}
use Rattle.server.specs.Runs.{Call, starts, brings, resends, reply_of, outcome_of}
use Rattle.server.specs.Effects.{StartFits, Verdicts, Denies, barred, again, last, Refuses, begun, misfit, unread, untaken, misnumbering, malformed, stale, unsent, Moves, starting, granting, denying, confirming, ending, resending, Effect, refuses, no_room, moves, EffectsExact}
use Rattle.server.proofs.Turns.{turn_cases, packet_unread, packet_untaken, packet_unnumbered}
use Rattle.server.proofs.Forward.{taken_by_lem}

-- ---- a start's stage and arguments
begins_so : (g : Stage) → begins g ≡ true → g ≡ Begin
begins_so Begin e = refl
begins_so ChallengeSent e = clash refl e
begins_so SuccessRequestSent e = clash refl e
begins_so FailureRequestSent e = clash refl e
begins_so Success e = clash refl e
begins_so Failed e = clash refl e

module _ (name : List ℕ) (retries : ℕ) where
  fits_so : start_fits (length name) retries ≡ true → StartFits name retries
  unfolding start_fits
  fits_so e =
      let a = passed (eqb (length name) 0) _ e in
      let b = passed (ltb max_name (length name)) _ a.1 in
      let c = passed (ltb max_retries retries) _ b.1 in
      record { some = omega (arith, eqb-false (length name) 0 a.0); few = ltb-false _ _ b.0; count = ltb-false _ _ c.0 }

  pub so_fits : StartFits name retries → start_fits (length name) retries ≡ true
  unfolding start_fits
  so_fits f =
      let n : length name ≡ 0 → ⊥ = λ z. omega (arith, f.some) in
      pick_false _ _ _ (ne_eqb _ _ n) ∙ pick_false _ _ _ (le-ltb _ _ f.few) ∙ pick_false _ _ _ (le-ltb _ _ f.count)

module _ (s : Server) where
  -- ---- what each case comes to
  pub verdict_so : {packet table : List ℕ} {v : Verdict} (x : Verdicts s packet table v) → verdict_of s x.response packet table ≡ v
  unfolding verdict_of judge_of
  verdict_so x = sym (judged-as _ _ _ _ _ x.is)

  due_so : {v : Verdict} {f : Failure} → Denies s v f → due_of v s ≡ Ok (due.Failure f)
  unfolding due_of
  due_so (barred code string n) = pick_false _ _ _ (ne_eqb code 0 n)
  due_so (again n) = pick_false _ _ _ (ne_eqb s.retries 0 n)
  due_so (last e) = pick_true _ _ _ (eq-eqb s.retries 0 e)

  module _ {packet table : List ℕ} (fresh : List ℕ) (room : ℕ) where
    judged_so : (v : Verdict) → Verdicts s packet table v → packet_of s packet table fresh room ≡ judged_by v s fresh room
    unfolding taken_by
    judged_so v x =
        taken_by_lem s packet table fresh room x.response ChallengeSent x.taken ∙ ap (λ (u : Verdict). judged_by u s fresh room) (verdict_so x)

    denied_so : (v : Verdict) (f : Failure) → Verdicts s packet table v → Denies s v f → packet_of s packet table fresh room ≡ fail_of f s fresh room
    unfolding judged_by act_of
    denied_so v f x d = judged_so v x ∙ ap (λ (u : Result Due Refusal). act_of u s fresh room) (due_so d)

  refuses_so : {c : Call (List ℕ)} {k : ℕ} → Refuses s c k → outcome_of s c ≡ refused k s
  unfolding start_of resend_of judged_by due_of act_of fail_of
  refuses_so (begun n) = pick_true _ _ _ (ap not (false_from_ne_true (begins s.stage) (λ e. n (begins_so s.stage e))))
  refuses_so (misfit {name = name} {retries = retries} b n) =
      pick_false _ _ _ (ap (λ (g : Stage). not (begins g)) b) ∙ pick_true _ _ _ (ap not (false_from_ne_true (start_fits (length name) retries) (λ e. n (fits_so name retries e))))
  refuses_so (unread {packet} {table} {fresh} {reply} k h e) = packet_unread s packet table fresh (length reply) k h e
  refuses_so (untaken {packet} {table} {fresh} {reply} x e t) = packet_untaken s packet table fresh (length reply) x e t
  refuses_so (misnumbering {packet} {table} {fresh} {reply} x e t m) = packet_unnumbered s packet table fresh (length reply) x e t m
  refuses_so (malformed {packet} {table} {fresh} {reply} x t w) =
      judged_so fresh (length reply) bad_table (record { response = x; taken = t; is = judges_malformed w })
  refuses_so (stale {fresh = fresh} {reply = reply} v f x d e) = denied_so fresh (length reply) v f x d ∙ pick_true _ _ _ (ap (same fresh) (sym e) ∙ same_refl fresh)
  refuses_so (unsent e) = pick_true _ _ _ (ap not e)

  moves_so : {c : Call (List ℕ)} {o : Outcome Server} → Moves s c o → outcome_of s c ≡ fitting (length (reply_of c)) s o
  unfolding start_of resend_of taken_by judged_by due_of act_of fail_of
  moves_so (starting {name = name} {retries = retries} b f) =
      pick_false _ _ _ (ap (λ (g : Stage). not (begins g)) b) ∙ pick_false _ _ _ (ap not (so_fits name retries f))
  moves_so (granting {fresh = fresh} {reply = reply} string v) = judged_so fresh (length reply) (right 0 string) v ∙ ap (λ (d : Result Due Refusal). act_of d s fresh (length reply)) (pick_true _ _ _ refl)
  moves_so (denying {fresh = fresh} {reply = reply} v f x d n) =
      denied_so fresh (length reply) v f x d ∙ pick_false _ _ _ (false_from_ne_true (same fresh s.request.challenge) (λ e. n (same_true _ _ e)))
  moves_so (confirming {packet} {table} {fresh} {reply} x t) = taken_by_lem s packet table fresh (length reply) x SuccessRequestSent t
  moves_so (ending {packet} {table} {fresh} {reply} x t) = taken_by_lem s packet table fresh (length reply) x FailureRequestSent t
  moves_so (resending e) = pick_false _ _ _ (ap not e)

  -- ---- and one of them is so
  abbrev Some : Call (List ℕ) → Type 0
  Some c = Effect s c (outcome_of s c)

  no : {c : Call (List ℕ)} {k : ℕ} → Refuses s c k → Some c
  no r = rw (refuses_so r) (refuses _ r)

  yes : {c : Call (List ℕ)} {o : Outcome Server} → Moves s c o → Some c
  unfolding fitting
  yes {c} {o} m =
      rw (moves_so m)
      (picked (Effect s c) (ltb (length (reply_of c)) (length o.octets)) (λ e. no_room m (ltb-true _ _ e)) (λ e. moves m (ltb-false _ _ e)))

  module _ (packet table fresh reply : List ℕ) where
    abbrev here : Call (List ℕ)
    here = brings packet table fresh reply

    denied : (v : Verdict) (f : Failure) → Verdicts s packet table v → Denies s v f → Some here
    denied v f x d = tested (same fresh s.request.challenge) (λ e. no (stale v f x d (same_true _ _ e))) (λ e. yes (denying v f x d (λ q. clash e (ap (same fresh) (sym q) ∙ same_refl fresh))))

    graded : (code : ℕ) (string : List ℕ) → Verdicts s packet table (right code string) → Some here
    graded code string v = tested (eqb code 0) (λ z. yes (granting string (rw (eqb-true code 0 z) at v))) (λ z. denied _ _ v (barred code string (eqb-false _ _ z)))

    judged : (x : Packet) → Taken s packet ChallengeSent x → Some here
    judged x t = go (judges s.request.challenge (challenge_in x packet) (nt_response_of x packet) (user_of (response_name x packet)) table)
      where
        go : {v : Verdict} → Judges s.request.challenge (challenge_in x packet) (nt_response_of x packet) (user_of (response_name x packet)) table v → Some here
        go (judges_malformed w) = no (malformed x t w)
        go (judges_wrong w h) =
            let v : Verdicts s packet table wrong = record { response = x; taken = t; is = judges_wrong w h } in
            tested (eqb s.retries 0) (λ z. denied _ _ v (last (eqb-true _ _ z))) (λ z. denied _ _ v (again (eqb-false _ _ z)))
        go (judges_right w r) = graded _ _ (record { response = x; taken = t; is = judges_right w r })

    taken : (x : Packet) (g : Stage) → Taken s packet g x → Some here
    taken x Begin t = clash refl t.kind
    taken x ChallengeSent t = judged x t
    taken x SuccessRequestSent t = yes (confirming x t)
    taken x FailureRequestSent t = yes (ending x t)
    taken x Success t = clash refl t.kind
    taken x Failed t = clash refl t.kind

-- ----
pub effect : (s : Server) (c : Call (List ℕ)) → Effect s c (outcome_of s c)
effect s (starts id challenge name retries reply) =
    tested (begins s.stage)
    (λ b. tested (start_fits (length name) retries)
    (λ f. yes s (starting (begins_so s.stage b) (fits_so name retries f)))
    (λ f. no s (misfit (begins_so s.stage b) (λ g. clash f (so_fits name retries g)))))
    (λ b. no s (begun (λ e. clash b (ap begins e))))
effect s (brings packet table fresh reply) =
    turn_cases s packet
    (λ k h l e. no s (unread k h e))
    (λ x e t. no s (untaken x e t))
    (λ x e t m. no s (misnumbering x e t m))
    (λ x t. taken s packet table fresh reply x s.stage t)
effect s (resends reply) = tested (sent s.stage) (λ e. yes s (resending e)) (λ e. no s (unsent e))

pub effect_only : (s : Server) (c : Call (List ℕ)) (o : Outcome Server) → Effect s c o → o ≡ outcome_of s c
effect_only s c o (refuses k r) = sym (refuses_so s r)
effect_only s c o (no_room m r) = sym (moves_so s m ∙ fitting_not _ s _ r)
effect_only s c o (moves m r) = sym (moves_so s m ∙ fitting_so _ s _ r)

pub effects_exact : EffectsExact
effects_exact s c = (effect s c, effect_only s c)

-- ---- what holds of refusals and of moves holds of every call
least : {s : Server} {c : Call (List ℕ)} {k : ℕ} → Refuses s c k → 10 ≤ k
least (begun n) = omega arith
least (misfit b n) = omega arith
least (unread k h e) = h
least (untaken x e t) = omega arith
least (misnumbering x e t m) = omega arith
least (malformed x t w) = omega arith
least (stale v f x d e) = omega arith
least (unsent e) = omega arith

pub by_moves : (P : Outcome Server → Type 0) (s : Server) (c : Call (List ℕ)) → ((k : ℕ) → 10 ≤ k → P (refused k s)) → ((o : Outcome Server) → Moves s c o → P o) → P (outcome_of s c)
by_moves P s c no yes = go (effect s c)
  where
    go : {o : Outcome Server} → Effect s c o → P o
    go (refuses k r) = no k (least r)
    go (no_room m r) = no 20 (omega arith)
    go (moves m r) = yes _ m
