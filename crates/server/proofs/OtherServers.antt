-- The wrong-guess rule is false of a server that tells 647 before the response is found right, and of one that counts a retry only for known names.
use Rattle.std.proofs.Common.{◌≡◌, ℕ, Bool, true, false, eqb, List, [], ◌∷◌, ◌++◌, get_or, replicate, sym, refl, ap, ◌∙◌, append-nil, arith}
use Rattle.octets.specs.Choice.{pick}
use Rattle.octets.specs.Lists.{sized, cells}
use Rattle.octets.specs.Octets.{same, number_at, hex_at, hex_digit, decimal, decimals}
use Rattle.octets.proofs.Exits.{pick_true, clash}
use Rattle.octets.proofs.Scans.{same_refl, same_true}
use Rattle.answer.specs.Outcome.{Told, gives, Outcome, refused, fitting}
use Rattle.answer.specs.Runs.{run}
use Rattle.packet.specs.declared.End.TheVariants as end
use Rattle.packet.specs.declared.Kind.TheVariants.{Response}
use Rattle.packet.specs.declared.Packet.{Packet}
use Rattle.packet.specs.Forms.{failure_message, header, chap_packet, response_packet, failure_request}
use Rattle.packet.specs.Reader.{place, reading, read_packet, challenge_in}
use Rattle.packet.proofs.Back.{response_back}
use Rattle.accounts.specs.Records.{framed as framedRecord, cut, records, every, sound}
use Rattle.accounts.specs.Accounts.{hash_of, is_code, account_good, record_good, well_formed, is_account_of, first_from, account_of, record_of}
use Rattle.mschap.specs.Users.{user_of, user_start, start_from}
use Rattle.mschap.specs.Responses.{nt_response}
use Rattle.verdict.specs.declared.Verdict.{Verdict}
use Rattle.verdict.specs.Verdict.{Right, wrong}
use Rattle.server.specs.declared.Server.{Server}
use Rattle.server.specs.declared.Stage.TheVariants.{ChallengeSent}
use Rattle.server.specs.State.{request_room, next_id, chap_of, asked}
use Rattle.server.specs.Moves.{Taken}
use Rattle.server.specs.Calls.{due_of, fail_of, act_of, nt_response_of, response_name, verdict_of, judged_by}
use Rattle.server.specs.Runs.{Call, brings, Answered, answered}
use Rattle.server.specs.Guess.{Side, one, two, lent_to, RightAt, NotRight, WrongGuessRule}
use Rattle.server.specs.OtherServers.{Judging, taken_as, judges_as, tells_early, counts_known, TellsEarlyBreaks, CountsKnownBreaks}
use Rattle.server.proofs.Turns.{taken_turn}
use Rattle.server.proofs.WrongGuess.{verdict_wrong}
use Rattle.server.proofs.Forward.{judges_so}

-- ---- a guess at the user with the empty name, whose NT-Response is 24 times b. One table has no account, the other has that user's, with code 647
abbrev guess : ℕ → List ℕ
guess b = response_packet 7 7 (replicate 16 0) (replicate 24 b) []

abbrev tables : Side → List ℕ
tables one = []
tables two = (22 ∷ 0 ∷ 1 ∷ 0 ∷ 135 ∷ 2 ∷ []) ++ replicate 16 0

abbrev waiting : ℕ → Server
waiting retries = record { stage = ChallengeSent; retries = retries; request = record { id = record { 0 = 7 }; chapid = record { 0 = 7 }; challenge = replicate 16 0; octets = replicate request_room 0; len = 0 } }

abbrev call : ℕ → Call (Side → List ℕ)
call b = brings (guess b) tables (replicate 16 1) (replicate 60 0)

abbrev found : Packet
found = reading Response 7 7 59 0 (place 10 16) (place 34 24) (place 59 0)

read_guess : (b : ℕ) → read_packet end.Server (guess b) ≡ gives found
read_guess b = ap (read_packet end.Server) (sym (append-nil (guess b))) ∙ (response_back 7 7 (replicate 16 0) (replicate 24 b) [] refl refl (omega arith)).reads []

taken : (b retries : ℕ) → Taken (waiting retries) (guess b) ChallengeSent found
taken b retries = judges_so (waiting retries) (guess b) found (read_guess b) refl refl refl refl

sound_tables : (x : Side) → well_formed (tables x) ≡ true
unfolding well_formed sound every records cut framedRecord record_good account_good is_code number_at pick
sound_tables one = refl
sound_tables two = refl

-- each is the record of the user's account, or no octets
looked_up : (x : Side) → record_of (tables x) [] ≡ tables x
unfolding account_of first_from records cut framedRecord is_account_of same number_at pick
looked_up one = refl
looked_up two = refl

-- the NT-Response that the account's hash gives
abbrev due : List ℕ
due = nt_response (replicate 16 0) (replicate 16 0) [] (replicate 16 0)

-- the guess is judged at both, and right at neither
read_as : (x : Side) (b retries : ℕ) → RightAt (waiting retries) (guess b) (tables x) found → Right (replicate 16 0) (replicate 16 0) (replicate 24 b) [] (tables x)
unfolding challenge_in nt_response_of response_name sized cells user_of user_start start_from response_packet chap_packet header
read_as x b retries r = r

no_right : (x : Side) (b : ℕ) → (replicate 24 b ≡ due → ⊥) → Right (replicate 16 0) (replicate 16 0) (replicate 24 b) [] (tables x) → ⊥
unfolding is_account_of number_at pick
no_right one b h r = clash refl (sym (ap (is_account_of []) (looked_up one)) ∙ r.account)
no_right two b h r = h (r.computed ∙ ap (λ (q : List ℕ). nt_response (replicate 16 0) (replicate 16 0) [] (hash_of q)) (looked_up two))

not_right : (b retries : ℕ) → (replicate 24 b ≡ due → ⊥) → (x : Side) → NotRight (waiting retries) (lent_to x (call b))
not_right b retries h x = (
  sound_tables x,
  λ k j r.
      let e : k ≡ found = ap (λ (t : Told Packet). t.value) (sym j.taken.reads ∙ read_guess b) in
      no_right x b h (read_as x b retries (rw e at r)),
)

-- of any two NT-Responses one is not the one that is due
guessed : ((b : ℕ) → (replicate 24 b ≡ due → ⊥) → ⊥) → ⊥
guessed f = go (same (replicate 24 0) due) refl
  where
    go : (t : Bool) → same (replicate 24 0) due ≡ t → ⊥
    go true e = f 1 (λ h. let z : ◌≡◌ {A = ℕ} 0 1 = cc (same_true _ _ e, h) in omega arith)
    go false e = f 0 (λ h. let z : ◌≡◌ {A = ℕ} 0 1 = cc (e, ap (λ (r : List ℕ). same (replicate 24 0) r) h, same_refl (replicate 24 0)) in omega arith)

-- ---- a server that judges in its own way
-- what it answers to the guess
module _ (j : Judging) (b retries : ℕ) (x : Side) where
  abbrev judged : List ℕ → Verdict → Answered
  judged q v = answered (j q v (waiting retries) (replicate 16 1) 60) (replicate 60 0)

  answers : judges_as j (waiting retries) (lent_to x (call b)) ≡ judged (tables x) (verdict_of (waiting retries) found (guess b) (tables x))
  unfolding response_name user_of user_start start_from
  answers =
      let t = taken_turn (taken b retries) in
      ap (λ (o : Outcome Server). answered o (replicate 60 0))
      ((λ i. pick (eqb (t i).number 0) (taken_as j ChallengeSent (t i).value (waiting retries) (guess b) (tables x) (replicate 16 1) 60) (refused (t i).number (waiting retries)))
      ∙ pick_true _ _ _ refl)
      ∙ ap (λ (q : List ℕ). judged q (verdict_of (waiting retries) found (guess b) (tables x))) (looked_up x)

  -- where the verdict matters, it is wrong
  answers_wrong : (replicate 24 b ≡ due → ⊥) → judges_as j (waiting retries) (lent_to x (call b)) ≡ judged (tables x) wrong
  answers_wrong h =
      answers
      ∙ ap (judged (tables x)) (verdict_wrong (waiting retries) (guess b) (tables x) (replicate 16 1) (replicate 60 0) found (taken b retries) (not_right b retries h x))

-- the rule would have both sides answer the guess alike
breaks : (j : Judging) (retries : ℕ) → WrongGuessRule (judges_as j) → (b : ℕ) → (replicate 24 b ≡ due → ⊥)
    → judges_as j (waiting retries) (lent_to one (call b)) ≡ judges_as j (waiting retries) (lent_to two (call b))
unfolding run
breaks j retries rule b h =
    ap first_of (rule (waiting retries) (call b ∷ []) (λ x. (not_right b retries h x, tt)))
  where
    first_of : List Answered → Answered
    first_of [] = judged j b retries one [] wrong
    first_of (a ∷ rest) = a

-- ---- a server that tells 647 before the response is found right
-- the second digit of E in a reply: E=691 at one server, and E=647 at the other
abbrev digit : Answered → ℕ
digit a = get_or a.reply 12 0

pub tells_early_breaks : TellsEarlyBreaks
unfolding judged_by due_of act_of fail_of fitting same next_id chap_of failure_request failure_message chap_packet header decimal decimals cells hex_at hex_digit number_at pick
tells_early_breaks rule =
    guessed (λ b h.
    let z : ◌≡◌ {A = ℕ} 57 52 = ap digit (sym (answers_wrong tells_early b 0 one h) ∙ breaks tells_early 0 rule b h ∙ answers_wrong tells_early b 0 two h) in
    omega arith)

-- ---- a server that counts a retry only for known names
-- one retry is left at one server, and none at the other
pub counts_known_breaks : CountsKnownBreaks
unfolding judged_by due_of act_of fail_of asked fitting same next_id chap_of failure_request failure_message chap_packet header decimal decimals cells hex_at hex_digit number_at pick
counts_known_breaks rule =
    guessed (λ b h.
    let z : ◌≡◌ {A = ℕ} 1 0 = ap (λ (a : Answered). a.state.retries) (sym (answers_wrong counts_known b 1 one h) ∙ breaks counts_known 1 rule b h ∙ answers_wrong counts_known b 1 two h) in
    omega arith)
