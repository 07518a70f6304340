-- The wrong-guess rule holds of this server.
use Rattle.std.proofs.Common.{◌≡◌, ℕ, List, [], ◌∷◌, length, sym, refl, ap, ◌∙◌}
use Rattle.answer.specs.Outcome.{Outcome}
use Rattle.answer.specs.Runs.{run}
use Rattle.packet.specs.declared.Packet.{Packet}
use Rattle.packet.specs.Reader.{challenge_in}
use Rattle.mschap.specs.Users.{user_of}
use Rattle.verdict.specs.declared.Verdict.{Verdict}
use Rattle.verdict.specs.Verdict.{wrong, judge_of}
use Rattle.verdict.proofs.Rightness.{judge_wrong}
use Rattle.server.specs.declared.Stage.{Stage}
use Rattle.server.specs.declared.Stage.TheVariants.{Begin, ChallengeSent, SuccessRequestSent, FailureRequestSent, Success, Failed}
use Rattle.server.specs.declared.Server.{Server}
use Rattle.server.specs.Moves.{Taken}
use Rattle.server.specs.Calls.{nt_response_of, response_name, verdict_of, judged_by, taken_by}
use Rattle.server.specs.Runs.{Call, starts, brings, resends, answered, ContractAnswers, left, server_step}
use Rattle.server.specs.Guess.{Side, one, two, lent_to, calls_of, NotRight, NoneRight, WrongGuessRule}
use Rattle.server.proofs.Turns.{turn_cases, packet_unread, packet_untaken, packet_unnumbered}
use Rattle.server.proofs.Forward.{taken_by_lem}

pub does_answered : ContractAnswers
does_answered o k n s before after d = cc (d.answered, d.count, d.left, d.written)

-- the verdict on a guess that is not right, whatever the table
pub verdict_wrong : (s : Server) (p table fresh reply : List ℕ) (k : Packet) → Taken s p ChallengeSent k → NotRight s (brings p table fresh reply) → verdict_of s k p table ≡ wrong
unfolding verdict_of judge_of
verdict_wrong s p table fresh reply k t h =
    judge_wrong s.request.challenge (challenge_in k p) (nt_response_of k p) (user_of (response_name k p)) table h.0 (h.1 k (record { taken = t; formed = h.0 }))

-- one call
alike : (s : Server) (c : Call (Side → List ℕ)) → ((x : Side) → NotRight s (lent_to x c)) → server_step s (lent_to one c) ≡ server_step s (lent_to two c)
unfolding server_step taken_by
alike s (starts id challenge name retries reply) h = refl
alike s (resends reply) h = refl
alike s (brings p t fresh reply) h =
    ap (λ (o : Outcome Server). answered o reply)
    (turn_cases s p
    (λ n l m e. packet_unread s p (t one) fresh room n l e ∙ sym (packet_unread s p (t two) fresh room n l e))
    (λ x e k. packet_untaken s p (t one) fresh room x e k ∙ sym (packet_untaken s p (t two) fresh room x e k))
    (λ x e k n. packet_unnumbered s p (t one) fresh room x e k n ∙ sym (packet_unnumbered s p (t two) fresh room x e k n))
    (λ x k. taken_by_lem s p (t one) fresh room x s.stage k ∙ by x s.stage k ∙ sym (taken_by_lem s p (t two) fresh room x s.stage k)))
  where
    room : ℕ
    room = length reply

    by : (x : Packet) (g : Stage) → Taken s p g x → taken_by g x s p (t one) fresh room ≡ taken_by g x s p (t two) fresh room
    by x Begin k = refl
    by x ChallengeSent k =
        ap (λ (v : Verdict). judged_by v s fresh room) (verdict_wrong s p (t one) fresh reply x k (h one) ∙ sym (verdict_wrong s p (t two) fresh reply x k (h two)))
    by x SuccessRequestSent k = refl
    by x FailureRequestSent k = refl
    by x Success k = refl
    by x Failed k = refl

pub wrong_guess : WrongGuessRule server_step
unfolding run
wrong_guess s [] h = refl
wrong_guess s (c ∷ cs) h =
    let e = alike s c (λ x. (h x).0) in
    let rest : (x : Side) → NoneRight server_step (left (server_step s (lent_to one c))) (calls_of x cs) = elim [ one ↦ (h one).1 | two ↦ rw (← e) at (h two).1 ] in
    cc (e, wrong_guess (left (server_step s (lent_to one c))) cs rest)
