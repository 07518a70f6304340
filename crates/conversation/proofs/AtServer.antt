-- The server takes what the peer writes, with any padding after it.
use Prim.Native.Nat.{ℕ, ◌+◌, ◌≤◌}
use mathlib.Core.Path.{◌≡◌, refl, sym, ap, ◌∙◌}
use mathlib.Core.Bool.{true}
use mathlib.Core.List.{List, ◌++◌}
use native.Mathlib.Omega.{arith}
use lib.ListN.{length, length-append}
use borrow.Author.Tests.{eq-eqb, ne_eqb}
use Rattle.octets.specs.Choice.{pick}
use Rattle.octets.proofs.Exits.{pick_true, pick_false}
use Rattle.octets.proofs.Parts.{sized_part}
use Rattle.answer.specs.Outcome.{outcome}
use Rattle.answer.specs.Sizes.{max_name}
use Rattle.answer.proofs.Outcomes.{fitting_so}
use Rattle.packet.specs.declared.End.TheVariants as end
use Rattle.packet.specs.declared.Kind.TheVariants.{Response}
use Rattle.packet.specs.declared.Packet.{Packet}
use Rattle.packet.specs.Forms.{response_name_at, success_text_at, response_packet, success_response, failure_response, eap_success, eap_failure}
use Rattle.packet.specs.Reader.{reading, place, challenge_in}
use Rattle.packet.proofs.Sizes.{length_response_packet, length_success_request}
use Rattle.packet.proofs.Back.{Back, response_back, success_response_back, failure_response_back}
use Rattle.accounts.specs.Accounts.{is_code, well_formed}
use Rattle.accounts.proofs.Lookups.{account_good_lem}
use Rattle.mschap.specs.Users.{user_of}
use Rattle.mschap.specs.Responses.{nt_response, authenticator_of}
use Rattle.mschap.proofs.Responses.{length_nt_response}
use Rattle.verdict.specs.declared.Verdict.{Verdict}
use Rattle.verdict.specs.Verdict.{Right, wrong, right, judge_user, judge_of}
use Rattle.verdict.proofs.Rightness.{judge_wrong, judge_right}
use Rattle.server.specs.declared.Stage.TheVariants.{ChallengeSent, SuccessRequestSent, FailureRequestSent, Success, Failed}
use Rattle.server.specs.declared.Server.{Server}
use Rattle.server.specs.State.{next_id, success_to, staged}
use Rattle.server.specs.Calls.{succeeding, failing, authentication_failure, retryable, final, due_of, act_of, nt_response_of, response_name, verdict_of, judged_by, taken_by, packet_of}
use Rattle.server.specs.Guess.{Judged}
use Rattle.server.proofs.Reading.{coded}
use Rattle.server.proofs.Forward.{judges_so, confirms_so, ends_so, fail_so, taken_by_lem, confirmed, ended_so}
use Rattle.conversation.specs.Login.{HasAccount}

pub account_code : (table user : List ℕ) (code : ℕ) (hash : List ℕ) → well_formed table ≡ true → HasAccount table user code hash → is_code code ≡ true
account_code table user code hash w a = ap is_code (sym a.coded) ∙ (account_good_lem table user w a.account).code

-- ---- the peer's Response to the outstanding challenge, under the outstanding Identifier
module _ (s : Server) (random name hash padding table fresh : List ℕ) (room : ℕ) (named : length name ≤ max_name) (own : length random ≡ 16) (here : s.stage ≡ ChallengeSent) (formed : well_formed table ≡ true) where
  abbrev nt : List ℕ
  nt = nt_response s.request.challenge random (user_of name) hash

  abbrev w : List ℕ
  w = response_packet s.request.id.0 s.request.chapid.0 random nt name

  abbrev k : Packet
  k = reading Response s.request.id.0 s.request.chapid.0 (response_name_at + length name) 0 (place 10 16) (place 34 24) (place response_name_at (length name))

  size : length (w ++ padding) ≡ response_name_at + length name + length padding
  size = length-append w padding ∙ ap (λ (n : ℕ). n + length padding) (length_response_packet s.request.id.0 s.request.chapid.0 random nt name own (length_nt_response _ _ _ _))

  back : Back end.Server w k random nt name
  back = response_back s.request.id.0 s.request.chapid.0 random nt name own (length_nt_response _ _ _ _) named

  judged : Judged s (w ++ padding) table k
  judged = record { taken = judges_so s (w ++ padding) k (back.reads padding) refl here refl refl; formed = formed }

  random_in : challenge_in k (w ++ padding) ≡ random
  unfolding challenge_in
  random_in = sized_part (w ++ padding) 10 16 (omega (arith, size)) ∙ back.challenge_is padding

  nt_in : nt_response_of k (w ++ padding) ≡ nt
  unfolding nt_response_of
  nt_in = sized_part (w ++ padding) 34 24 (omega (arith, size)) ∙ back.response_is padding

  name_in : response_name k (w ++ padding) ≡ name
  unfolding response_name
  name_in = back.tail_is padding

  -- the verdict on it, and what follows
  acts : (v : Verdict) → judge_user s.request.challenge random nt (user_of name) table ≡ v → packet_of s (w ++ padding) table fresh room ≡ judged_by v s fresh room
  unfolding taken_by verdict_of judge_of
  acts v e =
      taken_by_lem s (w ++ padding) table fresh room k ChallengeSent judged.taken
      ∙ (λ j. judged_by (judge_user s.request.challenge (random_in j) (nt_in j) (user_of (name_in j)) table) s fresh room)
      ∙ ap (λ (x : Verdict). judged_by x s fresh room) e

  -- the user's account has the peer's hash
  module _ (code : ℕ) (a : HasAccount table (user_of name) code hash) where
    abbrev string : List ℕ
    string = authenticator_of hash nt random s.request.challenge (user_of name)

    weighs : judge_user s.request.challenge random nt (user_of name) table ≡ right code string
    weighs =
        judge_right s.request.challenge random nt (user_of name) table formed (record { account = a.account; computed = ap (nt_response s.request.challenge random (user_of name)) (sym a.hashed) })
        ∙ (λ j. right (a.coded j) (authenticator_of (a.hashed j) nt random s.request.challenge (user_of name)))

    pub response_granted : code ≡ 0 → success_text_at ≤ room → packet_of s (w ++ padding) table fresh room ≡ succeeding s string
    unfolding judged_by due_of act_of pick
    response_granted z r =
        let l : length (success_to (next_id s.request.id) string) ≤ room = rw length_success_request r in
        acts _ weighs ∙ ap (λ (n : ℕ). act_of (due_of (right n string) s) s fresh room) z ∙ fitting_so room s _ l

    pub response_barred : (code ≡ 0 → ⊥) → (fresh ≡ s.request.challenge → ⊥) → 60 ≤ room → packet_of s (w ++ padding) table fresh room ≡ failing s (final s code) fresh
    unfolding judged_by due_of act_of
    response_barred z d r =
        let c = coded code (account_code table (user_of name) code hash formed a) z in
        acts _ weighs ∙ ap (λ x. act_of x s fresh room) (pick_false _ _ _ (ne_eqb code 0 z)) ∙ fail_so (final s code) s fresh room d c.0 c.1 r

  -- the Response is not right
  module _ (unlike : Right s.request.challenge random nt (user_of name) table → ⊥) (differs : fresh ≡ s.request.challenge → ⊥) (fits : 60 ≤ room) where
    denies : packet_of s (w ++ padding) table fresh room ≡ judged_by wrong s fresh room
    denies = acts _ (judge_wrong s.request.challenge random nt (user_of name) table formed unlike)

    pub response_retried : (s.retries ≡ 0 → ⊥) → packet_of s (w ++ padding) table fresh room ≡ failing s (retryable s) fresh
    unfolding judged_by due_of act_of
    response_retried z =
        denies ∙ ap (λ x. act_of x s fresh room) (pick_false _ _ _ (ne_eqb s.retries 0 z)) ∙ fail_so (retryable s) s fresh room differs (omega arith) (omega arith) fits

    pub response_refused : s.retries ≡ 0 → packet_of s (w ++ padding) table fresh room ≡ failing s (final s authentication_failure) fresh
    unfolding judged_by due_of act_of
    response_refused z =
        denies ∙ ap (λ x. act_of x s fresh room) (pick_true _ _ _ (eq-eqb s.retries 0 z)) ∙ fail_so (final s authentication_failure) s fresh room differs (omega arith) (omega arith) fits

-- ---- the peer's Success Response and Failure Response
module _ (s : Server) (padding table fresh : List ℕ) (room : ℕ) (fits : 4 ≤ room) where
  pub success_confirmed : s.stage ≡ SuccessRequestSent → packet_of s (success_response s.request.id.0 ++ padding) table fresh room ≡ outcome 2 (eap_success s.request.id.0) (staged Success s)
  success_confirmed e =
      confirmed s (success_response s.request.id.0 ++ padding) table fresh room _ (confirms_so s (success_response s.request.id.0 ++ padding) _ ((success_response_back s.request.id.0).reads padding) refl e refl) fits

  pub failure_confirmed : s.stage ≡ FailureRequestSent → packet_of s (failure_response s.request.id.0 ++ padding) table fresh room ≡ outcome 3 (eap_failure s.request.id.0) (staged Failed s)
  failure_confirmed e =
      ended_so s (failure_response s.request.id.0 ++ padding) table fresh room _ (ends_so s (failure_response s.request.id.0 ++ padding) _ ((failure_response_back s.request.id.0).reads padding) refl e refl) fits
