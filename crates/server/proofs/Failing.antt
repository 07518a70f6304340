-- The server reaches FAILED after the retries and a Failure Response.
use Rattle.std.proofs.Common.{◌≡◌, ◌+◌, [], ◌∷◌, length, sym, refl, ap, ◌∙◌, arith, eq-eqb, ne_eqb, Result, Ok}
use Rattle.octets.proofs.Exits.{pick_true, pick_false}
use Rattle.answer.specs.Outcome.{Outcome}
use Rattle.answer.specs.declared.Refusal.{Refusal}
use Rattle.answer.specs.Runs.{after}
use Rattle.packet.specs.Forms.{failure_response}
use Rattle.packet.proofs.Back.{failure_response_back}
use Rattle.verdict.specs.declared.Verdict.{Verdict}
use Rattle.verdict.specs.Verdict.{wrong}
use Rattle.server.specs.declared.Due.{Due}
use Rattle.server.specs.declared.Due.TheVariants as due
use Rattle.server.specs.declared.Failure.{Failure}
use Rattle.server.specs.declared.Server.{Server}
use Rattle.server.specs.declared.Stage.TheVariants.{ChallengeSent}
use Rattle.server.specs.State.{challenge_to, initial, asked}
use Rattle.server.specs.Calls.{failing, authentication_failure, retryable, final, due_of, act_of, judged_by, taken_by}
use Rattle.server.specs.Runs.{starts, answered, left, server_step}
use Rattle.server.specs.Failing.{Try, call_of, WrongTry, Exhausted, EndsFailed, Fails}
use Rattle.server.proofs.Effects.{so_fits}
use Rattle.server.proofs.WrongGuess.{verdict_wrong}
use Rattle.server.proofs.Forward.{starts_so, ends_so, fail_so, taken_by_lem, ended_so}

module _ (s : Server) (g : Try) (w : WrongTry s g) where
  -- the Failure Request f is due
  tried : (f : Failure) → due_of wrong s ≡ Ok (due.Failure f) → f.error ≡ authentication_failure → left (server_step s (call_of g)) ≡ (failing s f g.fresh).state
  unfolding server_step taken_by judged_by act_of
  tried f e n =
      ap (λ (o : Outcome Server). o.state)
      (taken_by_lem s g.packet g.table g.fresh (length g.reply) w.response ChallengeSent w.taken
      ∙ ap (λ (v : Verdict). judged_by v s g.fresh (length g.reply)) (verdict_wrong s g.packet g.table g.fresh g.reply w.response w.taken w.unright)
      ∙ ap (λ (d : Result Due Refusal). act_of d s g.fresh (length g.reply)) e
      ∙ fail_so f s g.fresh (length g.reply) w.differs (omega arith) (omega arith) w.room)

  -- no retries are left
  last_try : s.retries ≡ 0 → left (server_step s (call_of g)) ≡ (failing s (final s authentication_failure) g.fresh).state
  unfolding due_of
  last_try z = tried (final s authentication_failure) (pick_true _ _ _ (eq-eqb s.retries 0 z)) refl

  -- one retry fewer, and the stage is kept
  more_tries : (s.retries ≡ 0 → ⊥) → left (server_step s (call_of g)) ≡ (failing s (retryable s) g.fresh).state
  unfolding due_of
  more_tries z = tried (retryable s) (pick_false _ _ _ (ne_eqb s.retries 0 z)) refl

pub exhausted : Exhausted
unfolding after asked
exhausted s [] e l w = absurd (omega arith)
exhausted s (g ∷ []) e l w = ap (λ (r : Server). r.stage) (last_try s g w.0 (omega arith))
exhausted s (g ∷ (h ∷ gs)) e l w =
    let m = more_tries s g w.0 (λ z. absurd (omega arith)) in
    exhausted (left (server_step s (call_of g))) (h ∷ gs) (ap (λ (r : Server). r.stage) m ∙ e) (rw m (omega arith)) w.1

pub ends_failed : EndsFailed
unfolding server_step
ends_failed s table fresh reply e r =
    ap (λ (o : Outcome Server). answered o reply)
    (ended_so s (failure_response s.request.id.0) table fresh (length reply) _
    (ends_so s (failure_response s.request.id.0) _ ((failure_response_back s.request.id.0).reads []) refl e refl) r)

pub fails : Fails
unfolding after asked server_step initial
fails id challenge name retries reply gs s table fresh buffer c f r l w e b =
    let started : left (server_step initial (starts id challenge name retries reply)) ≡ asked ChallengeSent id challenge retries (challenge_to id challenge name) initial =
    ap (λ (o : Outcome Server). o.state) (starts_so initial id challenge name retries (length reply) refl c (so_fits name retries f) r) in
    ends_failed s table fresh buffer
    (ap (λ (q : Server). q.stage) e
    ∙ exhausted _ gs (ap (λ (q : Server). q.stage) started) (l ∙ ap (λ (q : Server). q.retries + 1) (sym started)) w) b
