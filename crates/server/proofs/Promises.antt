-- What follows for every call: what it leaves, how its request is numbered and kept, what a resend gives, and that the room is enough.
use Rattle.std.proofs.Common.{◌≡◌, ℕ, ◌≤◌, true, not, List, [], ◌∷◌, length, sym, refl, ap, ◌∙◌, inl, inr, arith, length-take, ne_eqb}
use Rattle.octets.specs.Choice.{pick}
use Rattle.octets.specs.Lists.{over}
use Rattle.octets.proofs.Exits.{pick_false}
use Rattle.octets.proofs.Lists.{take_sized}
use Rattle.answer.specs.Outcome.{Told, Outcome, outcome, refused, fitting}
use Rattle.answer.specs.Runs.{after}
use Rattle.answer.specs.declared.Identifier.{Identifier}
use Rattle.packet.specs.declared.End.TheVariants as end
use Rattle.packet.specs.Forms.{header, chap_packet, challenge_packet, success_request, failure_request, eap_success, eap_failure}
use Rattle.packet.specs.Reader.{read_packet}
use Rattle.packet.specs.Promises.{ReadOrRefused, refused_by, read_as}
use Rattle.packet.proofs.Readings.{read_or_refused}
use Rattle.verdict.specs.declared.Verdict.{Verdict}
use Rattle.server.specs.declared.Failure.{Failure}
use Rattle.server.specs.declared.Stage.{Stage}
use Rattle.server.specs.declared.Stage.TheVariants.{ChallengeSent}
use Rattle.server.specs.declared.Server.{Server}
use Rattle.server.specs.State.{request_room, stored_request, next_id, chap_of, challenge_to, asked, staged}
use Rattle.server.specs.Moves.{sent}
use Rattle.server.specs.Calls.{succeeding, failing, resend_of}
use Rattle.server.specs.Runs.{Call, starts, brings, resends, reply_of, outcome_of, left, server_step, Lent, AllLent}
use Rattle.server.specs.Effects.{Denies, barred, again, last, Refuses, begun, misfit, unread, untaken, misnumbering, malformed, stale, unsent, Moves, starting, granting, denying, confirming, ending, resending, Effect, refuses, no_room, moves}
use Rattle.server.specs.Promises.{CanRefuse, Leaves, written, authenticated, ended, refusal, AnswersLeave, Numbered, request_number, Asks, RequestsNumbered, Answers, ClosingAnswers, request_after, StoredAfter, last_request, ResendsLast, RoomEnough}
use Rattle.server.proofs.Laws.{challenge_fits, success_fits, failure_fits}
use Rattle.server.proofs.Turns.{taken_octet}
use Rattle.server.proofs.Effects.{effect, by_moves}

-- ---- 1. what a call leaves
read_most : (p : List ℕ) → (read_packet end.Server p).number ≤ 17
read_most p = go (read_or_refused end.Server p)
  where
    go : {t : Told _} → ReadOrRefused p t → t.number ≤ 17
    go (refused_by n h l) = l
    go (read_as x i) = omega arith

can : {s : Server} {c : Call (List ℕ)} {k : ℕ} → Refuses s c k → CanRefuse c k
can (begun n) = inl refl
can (misfit b n) = inr (inl refl)
can (unread {packet} k h e) = (h, omega (arith, e, read_most packet))
can (untaken x e t) = (omega arith, omega arith)
can (misnumbering x e t m) = (omega arith, omega arith)
can (malformed x t w) = (omega arith, omega arith)
can (stale v f x d e) = (omega arith, omega arith)
can (unsent e) = inl refl

can_lack : (c : Call (List ℕ)) → CanRefuse c 20
can_lack (starts id challenge name retries reply) = inr (inr refl)
can_lack (brings packet table fresh reply) = (omega arith, omega arith)
can_lack (resends reply) = inr refl

denied_sent : {s : Server} {v : Verdict} {f : Failure} → s.stage ≡ ChallengeSent → Denies s v f → sent f.stage ≡ true
denied_sent e (barred code string n) = refl
denied_sent e (again n) = ap sent e
denied_sent e (last z) = refl

leaves : (s : Server) {c : Call (List ℕ)} {o : Outcome Server} → Effect s c o → Leaves s c o.number (length o.octets) o.state (over o.octets (reply_of c))
unfolding asked staged
leaves s (refuses k r) = refusal k (can r)
leaves s {c} (no_room m r) = refusal 20 (can_lack c)
leaves s (moves (starting {id} {challenge} {name} b f) r) = written (challenge_to id challenge name) _ r refl
leaves s (moves (granting t v) r) = written (succeeding s t).octets _ r refl
leaves s (moves (denying {fresh = fresh} v f x d n) r) = written (failing s f fresh).octets _ r (denied_sent x.taken.stage d)
leaves s (moves (confirming x t) r) = authenticated x.id.0 _ r refl
leaves s (moves (ending x t) r) = ended x.id.0 _ r refl
leaves s (moves (resending e) r) = written (stored_request s) _ r e

pub answers_leave : AnswersLeave
answers_leave s c k n s' b d = rw (d.answered, d.count, d.left, d.written) (leaves s (effect s c))

-- ---- 2. numbers
pub requests_numbered : RequestsNumbered
unfolding challenge_packet success_request failure_request chap_packet header next_id chap_of asked
requests_numbered s c a = by_moves (λ (o : Outcome Server). o.number ≡ 0 → Numbered (request_number s c) o) s c (λ k l h. absurd (omega arith)) (λ o m h. go m a h)
  where
    go : {c : Call (List ℕ)} {o : Outcome Server} → Moves s c o → Asks c → o.number ≡ 0 → Numbered (request_number s c) o
    go (starting b f) a h = record { id = refl; chapid = refl; written_id = refl; written_chapid = refl }
    go (granting t v) a h = record { id = refl; chapid = refl; written_id = refl; written_chapid = refl }
    go (denying v f x d n) a h = record { id = refl; chapid = refl; written_id = refl; written_chapid = refl }
    go (confirming x t) a h = absurd (omega arith)
    go (ending x t) a h = absurd (omega arith)
    go (resending e) a h = absurd a

-- ---- 3. EAP Success and Failure
pub closing_answers : ClosingAnswers
closing_answers s packet table fresh reply = by_moves (Answers packet) s (brings packet table fresh reply) (λ k l. other _ (λ h. omega arith) (λ h. omega arith)) (λ o m. go m)
  where
    other : (o : Outcome Server) → (o.number ≡ 2 → ⊥) → (o.number ≡ 3 → ⊥) → Answers packet o
    other o f g = record { success = λ h. absurd (f h); failure = λ h. absurd (g h) }

    go : {o : Outcome Server} → Moves s (brings packet table fresh reply) o → Answers packet o
    go (granting t v) = other _ (λ h. omega arith) (λ h. omega arith)
    go (denying v f x d n) = other _ (λ h. omega arith) (λ h. omega arith)
    go (confirming x t) = record { success = λ h. ap eap_success (taken_octet t); failure = λ h. absurd (omega arith) }
    go (ending x t) = record { success = λ h. absurd (omega arith); failure = λ h. ap eap_failure (taken_octet t) }

-- ---- 4. what is stored
pub stored_asked : (stage : Stage) (id : Identifier) (challenge : List ℕ) (retries : ℕ) (q : List ℕ) (s : Server) → length q ≤ request_room → stored_request (asked stage id challenge retries q s) ≡ q
unfolding stored_request asked
stored_asked stage id challenge retries q s h = take_sized request_room q h

pub stored_after : StoredAfter
unfolding pick stored_request staged
stored_after s c z = by_moves (λ (o : Outcome Server). stored_request o.state ≡ request_after c o (stored_request s)) s c (quiet c) (λ o m. go m z)
  where
    quiet : (c : Call (List ℕ)) (k : ℕ) → 10 ≤ k → stored_request s ≡ request_after c (refused k s) (stored_request s)
    quiet (starts id challenge name retries reply) k l = sym (pick_false _ _ _ (ne_eqb k 0 (λ e. omega arith)))
    quiet (brings packet table fresh reply) k l = sym (pick_false _ _ _ (ne_eqb k 0 (λ e. omega arith)))
    quiet (resends reply) k l = refl

    go : {c : Call (List ℕ)} {o : Outcome Server} → Moves s c o → Lent c → stored_request o.state ≡ request_after c o (stored_request s)
    go (starting {id} {challenge} {name} b f) z = stored_asked _ _ _ _ _ _ (challenge_fits id challenge name z f.few)
    go (granting t v) z = stored_asked _ _ _ _ _ _ (success_fits _ t)
    go (denying v f x d n) z = stored_asked _ _ _ _ _ _ (failure_fits _ _ _ _)
    go (confirming x t) z = refl
    go (ending x t) z = refl
    go (resending e) z = refl

-- over a list of calls
stored_last : (s : Server) (cs : List (Call (List ℕ))) → AllLent cs → stored_request (after left server_step s cs) ≡ last_request s (stored_request s) cs
unfolding after server_step last_request
stored_last s [] l = refl
stored_last s (c ∷ cs) l =
    stored_last (outcome_of s c).state cs l.1 ∙ ap (λ (q : List ℕ). last_request (outcome_of s c).state q cs) (stored_after s c l.0)

pub resends_stored : (s : Server) (reply : List ℕ) → sent s.stage ≡ true → outcome_of s (resends reply) ≡ fitting (length reply) s (outcome 0 (stored_request s) s)
unfolding resend_of
resends_stored s reply e = pick_false _ _ _ (ap not e)

pub resends_last : ResendsLast
resends_last s s' cs reply l e g =
    resends_stored s' reply g ∙ ap (λ (q : List ℕ). fitting (length reply) s' (outcome 0 q s')) (ap stored_request e ∙ stored_last s cs l)

-- ---- 5. room
length_stored : (s : Server) → length (stored_request s) ≤ length s.request.octets
unfolding stored_request
length_stored s = omega (arith, length-take s.request.len s.request.octets)

-- no refusal but for the room is 20
unlike : {s : Server} {c : Call (List ℕ)} {k : ℕ} → Refuses s c k → k ≡ 20 → ⊥
unlike (begun n) e = omega arith
unlike (misfit b n) e = omega arith
unlike (unread {packet} k h r) e = omega (arith, r, read_most packet)
unlike (untaken x r t) e = omega arith
unlike (misnumbering x r t m) e = omega arith
unlike (malformed x t w) e = omega arith
unlike (stale v f x d q) e = omega arith
unlike (unsent u) e = omega arith

pub room_enough : RoomEnough
room_enough s c i z r = go (effect s c)
  where
    stored_few : length (stored_request s) ≤ request_room
    stored_few = omega (arith, length_stored s, i.request)

    few : {c : Call (List ℕ)} {o : Outcome Server} → Moves s c o → Lent c → length o.octets ≤ request_room
    few (starting {id} {challenge} {name} b f) z = (challenge_fits id challenge name z f.few)
    few (granting t v) z = (success_fits _ t)
    few (denying v f x d n) z = (failure_fits _ _ _ _)
    few (confirming x t) z = omega arith
    few (ending x t) z = omega arith
    few (resending e) z = stored_few

    moved : {c : Call (List ℕ)} {o : Outcome Server} → Moves s c o → o.number ≤ 3
    moved (starting b f) = omega arith
    moved (granting t v) = omega arith
    moved (denying v f x d n) = omega arith
    moved (confirming x t) = omega arith
    moved (ending x t) = omega arith
    moved (resending e) = omega arith

    go : {o : Outcome Server} → Effect s c o → o.number ≡ 20 → ⊥
    go (refuses k r) e = unlike r e
    go (no_room m l) e = omega (arith, few m z)
    go (moves m l) e = absurd (omega (arith, moved m))
