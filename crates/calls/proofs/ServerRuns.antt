-- Runs of the server at the boundary, and the wrong-guess rule there.
use Prim.Native.Nat.{ℕ}
use native.Mathlib.Omega.{arith}
use mathlib.Core.Path.{◌≡◌, refl, sym, ap, ◌∙◌}
use mathlib.Core.List.{List, [], ◌∷◌, map}
use mathlib.Core.Bool.{Bool, true, false, ◌&&◌, and-true}
use lib.ListN.{length}
use lib.Dec.{ltb}
use borrow.Author.Tests.{eqb-true, eq-eqb}
use Rattle.octets.specs.Choice.{pick}
use Rattle.octets.proofs.Exits.{pick_true, pick_false, arms, tested}
use Rattle.octets.proofs.Lists.{length_sized}
use Rattle.answer.specs.Outcome.{Outcome, outcome, fitting}
use Rattle.answer.specs.declared.Identifier.{Identifier}
use Rattle.server.specs.declared.Stage.{Stage}
use Rattle.server.specs.declared.Server.{Server}
use Rattle.server.specs.State.{request_room, initial, asked, staged, IsServer}
use Rattle.answer.specs.Runs.{run}
use Rattle.server.specs.Runs.{Call, starts, brings, resends, reply_of, outcome_of, Answered, server_step}
use Rattle.server.specs.Guess.{Side, one, two, lent_to, NotRight}
use Rattle.server.specs.Calls.{resend_of}
use Rattle.server.specs.Effects.{Moves, starting, granting, denying, confirming, ending, resending}
use Rattle.server.proofs.Effects.{by_moves}
use Rattle.server.proofs.WrongGuess.{wrong_guess}
use Rattle.state.specs.ServerOctets.{server_octets, server_of, octets_of_server}
use Rattle.state.proofs.Trips.{server_back, is_server_lem, length_octets_of_server}
use Rattle.packet.specs.Reader.{nowhere}
use Rattle.peer.specs.Calls.{text_by}
use Rattle.calls.specs.Done.{word_of, text_bits, Done, done, unsized, ended, kept}
use Rattle.calls.specs.Ends.{is_server, is_sixteen, server_new_at, server_start_at, server_packet_at, server_resend_at}
use Rattle.calls.specs.Run.{run_at, ServerCall, renews, calls, server_reply, server_call_at, are_sixteen, server_call, ServerCarried, lent_at, NotRightAt, NoneRightAt, WrongGuessAt}
use Rattle.calls.proofs.Carry.{Shows, carry, Proper, ended_shows, sized_shows}
use Rattle.calls.proofs.Laws.{word_quiet}

-- ---- every call leaves a value of the struct, and a refused one the state that it took
is_asked : (stage : Stage) (id : Identifier) (challenge : List ℕ) (retries : ℕ) (q : List ℕ) (s : Server) → length challenge ≡ 16 → IsServer (asked stage id challenge retries q s)
unfolding asked
is_asked stage id challenge retries q s h = record { challenge = h; request = length_sized request_room q }

is_staged : (stage : Stage) (s : Server) → IsServer s → IsServer (staged stage s)
unfolding staged
is_staged stage s z = record { challenge = z.challenge; request = z.request }

pub proper : (s : Server) (c : Call (List ℕ)) → are_sixteen c ≡ true → IsServer s → Proper IsServer s (outcome_of s c)
proper s c e z = by_moves (Proper IsServer s) s c (λ k l. record { is = z; still = λ h. refl }) (λ o m. go m e)
  where
    go : {c : Call (List ℕ)} {o : Outcome Server} → Moves s c o → are_sixteen c ≡ true → Proper IsServer s o
    go (starting b f) e = record { is = is_asked _ _ _ _ _ s (eqb-true _ _ e); still = λ h. absurd (omega arith) }
    go (granting t v) e = record { is = is_asked _ _ _ _ _ s z.challenge; still = λ h. absurd (omega arith) }
    go (denying v f x d n) e = record { is = is_asked _ _ _ _ _ s (eqb-true _ _ e); still = λ h. absurd (omega arith) }
    go (confirming x t) e = record { is = is_staged _ s z; still = λ h. absurd (omega arith) }
    go (ending x t) e = record { is = is_staged _ s z; still = λ h. absurd (omega arith) }
    go (resending b) e = record { is = z; still = λ h. refl }

-- ---- what a call shows
server_ended : (c : Call (List ℕ)) (s : List ℕ) → length s ≡ server_octets → are_sixteen c ≡ true → Shows server_of server_octets (ended octets_of_server (outcome_of (server_of s) c) s (reply_of c)) nowhere (outcome_of (server_of s) c) (reply_of c)
server_ended c s h e =
    ended_shows octets_of_server server_of IsServer server_octets server_back length_octets_of_server _ s (reply_of c) h (proper (server_of s) c e (is_server_lem s))

pub is_initial : IsServer initial
unfolding initial
is_initial = record { challenge = refl; request = refl }

new_shows : (s : List ℕ) → length s ≡ server_octets → Shows server_of server_octets (server_new_at s) nowhere (outcome 0 [] initial) []
unfolding server_new_at word_of text_by text_bits pick
new_shows s h =
    rw (pick_true (is_server s) _ _ (eq-eqb _ _ h))
    (record { same = (λ i. record { word = 0; reply = []; state = server_back initial is_initial i }); long = length_octets_of_server initial is_initial })

-- a resend leaves the state
resend_state : (s : Server) (room : ℕ) → (resend_of s room).state ≡ s
unfolding resend_of fitting
resend_state s room = arms (λ (o : Outcome Server). o.state ≡ s) _ refl (arms (λ (o : Outcome Server). o.state ≡ s) _ refl refl)

kept_shows : (o : Outcome Server) (s reply : List ℕ) → length s ≡ server_octets → o.state ≡ server_of s → Shows server_of server_octets (kept o s reply) nowhere o reply
unfolding kept
kept_shows o s reply h e = record { same = rw (e, word_quiet o.number (length o.octets)); long = h }

server_shows : (c : ServerCall (List ℕ)) (s : List ℕ) → length s ≡ server_octets → Shows server_of server_octets (server_call_at s c) nowhere (server_call (server_of s) c) (server_reply c)
unfolding server_start_at server_packet_at server_resend_at
server_shows renews s h = new_shows s h
server_shows (calls (starts id challenge name retries reply)) s h =
    sized_shows server_of server_octets (is_server s) (is_sixteen challenge) _ s reply nowhere _ (eq-eqb _ _ h) h (server_ended (starts id challenge name retries reply) s h)
server_shows (calls (brings packet table fresh reply)) s h =
    sized_shows server_of server_octets (is_server s) (is_sixteen fresh) _ s reply nowhere _ (eq-eqb _ _ h) h (server_ended (brings packet table fresh reply) s h)
server_shows (calls (resends reply)) s h =
    rw (pick_true (is_server s) _ _ (eq-eqb _ _ h), pick_true true _ _ refl) (kept_shows _ s reply h (resend_state (server_of s) (length reply)))

pub server_carried : ServerCarried
server_carried = carry server_of server_octets server_call_at server_call (λ _. nowhere) server_reply server_shows

-- ---- the wrong-guess rule
-- whether a call writes the state where it is not refused
abbrev pub changes : {T : Type 0} → Call T → Bool
changes (starts id challenge name retries reply) = true
changes (brings packet table fresh reply) = true
changes (resends reply) = false

-- an answer, told in octets
abbrev pub told_in : Bool → List ℕ → Answered → Done
told_in b s a = done (word_of a.number a.n) (pick (b && ltb a.number 10) (octets_of_server a.state) s) a.reply

-- a call at the boundary: the sizes, and then what the server answers
pub told_at : (c : Call (List ℕ)) (s : List ℕ) → server_call_at s (calls c) ≡ pick (is_server s && are_sixteen c) (told_in (changes c) s (server_step (server_of s) c)) (unsized s (reply_of c))
unfolding server_start_at server_packet_at server_resend_at ended kept server_step pick
told_at (starts id challenge name retries reply) s = refl
told_at (brings packet table fresh reply) s = refl
told_at (resends reply) s = ap (λ (b : Bool). pick b (told_in false s (server_step (server_of s) (resends reply))) (unsized s reply)) (sym (and-true (is_server s)))

first : {A : Type 0} → A → List A → A
first d [] = d
first d (x ∷ xs) = x

-- one call, by value
one_call : (s : Server) (c : Call (Side → List ℕ)) → ((x : Side) → NotRight s (lent_to x c)) → server_step s (lent_to one c) ≡ server_step s (lent_to two c)
unfolding run first
one_call s c h = ap (first (server_step s (lent_to one c))) (wrong_guess s (c ∷ []) (λ x. (h x, tt)))

-- what is lent to both is of the same size
sixteen_lent : (x : Side) (c : Call (Side → List ℕ)) → are_sixteen (lent_to x c) ≡ are_sixteen c
sixteen_lent x (starts id challenge name retries reply) = refl
sixteen_lent x (brings packet table fresh reply) = refl
sixteen_lent x (resends reply) = refl

changes_lent : (x : Side) (c : Call (Side → List ℕ)) → changes (lent_to x c) ≡ changes c
changes_lent x (starts id challenge name retries reply) = refl
changes_lent x (brings packet table fresh reply) = refl
changes_lent x (resends reply) = refl

reply_lent : (x : Side) (c : Call (Side → List ℕ)) → reply_of (lent_to x c) ≡ reply_of c
reply_lent x (starts id challenge name retries reply) = refl
reply_lent x (brings packet table fresh reply) = refl
reply_lent x (resends reply) = refl

-- one call, at the boundary
one_at : (s : List ℕ) (c : ServerCall (Side → List ℕ)) → ((x : Side) → NotRightAt s (lent_at x c)) → server_call_at s (lent_at one c) ≡ server_call_at s (lent_at two c)
one_at s renews h = refl
one_at s (calls c) h =
    let told : (x : Side) → server_call_at s (calls (lent_to x c)) ≡ pick (is_server s && are_sixteen c) (told_in (changes c) s (server_step (server_of s) (lent_to x c))) (unsized s (reply_of c)) =
    λ x. told_at (lent_to x c) s ∙ (λ i. pick (is_server s && sixteen_lent x c i) (told_in (changes_lent x c i) s (server_step (server_of s) (lent_to x c))) (unsized s (reply_lent x c i))) in
    told one
    ∙ tested (is_server s && are_sixteen c)
    (λ e. ap (λ (a : Answered). pick (is_server s && are_sixteen c) (told_in (changes c) s a) (unsized s (reply_of c))) (one_call (server_of s) c (λ x. h x (ap (λ (b : Bool). is_server s && b) (sixteen_lent x c) ∙ e))))
    (λ e. pick_false _ _ _ e ∙ sym (pick_false _ _ _ e))
    ∙ sym (told two)

pub wrong_guess_at : WrongGuessAt
unfolding run
wrong_guess_at s [] g = refl
wrong_guess_at s (c ∷ cs) g =
    let d : server_call_at s (lent_at one c) ≡ server_call_at s (lent_at two c) = one_at s c (λ x. (g x).0) in
    let t = wrong_guess_at (server_call_at s (lent_at one c)).state cs (next g d) in
    (λ i. d i ∷ (t ∙ ap (λ (v : Done). run_at server_call_at v.state (map (lent_at two) cs)) d) i)
  where
    next : ((x : Side) → NoneRightAt s (map (lent_at x) (c ∷ cs))) → server_call_at s (lent_at one c) ≡ server_call_at s (lent_at two c) → (x : Side) → NoneRightAt (server_call_at s (lent_at one c)).state (map (lent_at x) cs)
    next g d one = (g one).1
    next g d two = rw d (g two).1
