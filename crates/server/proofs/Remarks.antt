-- Ends that the promises of the three calls shut out.
use Rattle.std.proofs.Common.{◌≡◌, ℕ, zero, suc, true, List, [], ◌∷◌, ◌++◌, length, get_or, replicate, sym, refl, ap, ◌∙◌, arith, length-append}
use Rattle.octets.specs.Choice.{pick}
use Rattle.octets.specs.Octets.{AreOctets, number_at, same}
use Rattle.octets.proofs.Parts.{sized_part}
use Rattle.answer.specs.Outcome.{Outcome, fitting}
use Rattle.packet.specs.declared.End.TheVariants as end
use Rattle.packet.specs.declared.Kind.TheVariants.{Response}
use Rattle.packet.specs.declared.Packet.{Packet}
use Rattle.packet.specs.Forms.{header, chap_packet, challenge_packet, response_packet, success_response, failure_response}
use Rattle.packet.specs.Reader.{place, reading, challenge_in}
use Rattle.packet.proofs.Back.{Back, response_back, success_response_back, failure_response_back}
use Rattle.packet.proofs.Sizes.{length_response_packet, length_success_request}
use Rattle.accounts.specs.Records.{framed, cut, records, every, sound}
use Rattle.accounts.specs.Accounts.{code_of, hash_of, is_code, account_good, record_good, well_formed, is_account_of, first_from, account_of, record_of}
use Rattle.mschap.specs.Users.{user_of, user_start, start_from}
use Rattle.mschap.specs.Responses.{nt_response, authenticator_of}
use Rattle.mschap.proofs.Responses.{length_nt_response}
use Rattle.verdict.specs.Verdict.{Right, right}
use Rattle.verdict.specs.Promises.{judges_right}
use Rattle.server.specs.declared.Server.{Server}
use Rattle.server.specs.declared.Stage.{Stage}
use Rattle.server.specs.declared.Stage.TheVariants.{Begin, ChallengeSent, SuccessRequestSent}
use Rattle.server.specs.State.{stored_request, next_id, chap_of, initial, asked, IsServer}
use Rattle.server.specs.Calls.{succeeding, start_fits, start_of, nt_response_of, response_name, resend_of}
use Rattle.server.specs.Runs.{Call, starts, brings, resends, Answered, answered, Step, server_step, Lent}
use Rattle.server.specs.Effects.{Verdicts, granting, moves}
use Rattle.server.specs.Remarks.{Promised, AlwaysRefuses, AnswersAlike, DoesNothing, PretendsLater, MakesUpN, NeverGrants, NeverConfirms, WrongEndsShutOut}
use Rattle.server.proofs.Turns.{packet_untaken}
use Rattle.server.proofs.Forward.{judges_so, confirms_so, confirmed}
use Rattle.server.proofs.Effects.{effect_only}

-- ---- what is lent, and to which states
abbrev zeros : List ℕ
zeros = replicate 16 0

octets_of_lem : (n : ℕ) → AreOctets (replicate n 0)
octets_of_lem zero k = omega arith
octets_of_lem (suc n) zero = omega arith
octets_of_lem (suc n) (suc k) = octets_of_lem n k

-- a start under a name of k octets; a new server takes it
abbrev start : ℕ → Call (List ℕ)
start k = starts (record { 0 = 7 }) zeros (replicate k 65) 0 (replicate 64 0)

is_initial : IsServer initial
unfolding initial
is_initial = record { challenge = refl; request = refl }

-- a packet, to a server of a stage whose outstanding request is one octet
abbrev at : Stage → ℕ → Server
at stage b = record { stage = stage; retries = 0; request = record { id = record { 0 = 7 }; chapid = record { 0 = 7 }; challenge = zeros; octets = b ∷ replicate 281 0; len = 1 } }

is_at : (stage : Stage) (b : ℕ) → IsServer (at stage b)
is_at stage b = record { challenge = refl; request = refl }

abbrev packet : List ℕ → List ℕ → Call (List ℕ)
packet p table = brings p table zeros (replicate 64 0)

lent : (p table : List ℕ) → Lent (packet p table)
lent p table = (refl, octets_of_lem 16)

-- ---- one that waits for a Success Response takes it, and no Failure Response
confirms : (server_step (at SuccessRequestSent 0) (packet (success_response 7) [])).number ≡ 2
unfolding server_step
confirms =
    let s = at SuccessRequestSent 0 in
    ap (λ (o : Outcome Server). o.number) (confirmed s (success_response 7) [] zeros 64 _ (confirms_so s (success_response 7) _ ((success_response_back 7).reads []) refl refl refl) (omega arith))

refuses : (server_step (at SuccessRequestSent 0) (packet (failure_response 7) [])).number ≡ 19
unfolding server_step
refuses = ap (λ (o : Outcome Server). o.number) (packet_untaken (at SuccessRequestSent 0) (failure_response 7) [] zeros 64 _ ((failure_response_back 7).reads []) refl)

-- ---- one that waits for a Response grants a right one, of the user with the empty name and a hash of zeros
abbrev table : List ℕ
table = (22 ∷ 0 ∷ 1 ∷ 0 ∷ 0 ∷ 0 ∷ []) ++ zeros

formed : well_formed table ≡ true
unfolding well_formed sound every records cut framed record_good account_good is_code number_at pick
formed = refl

looked_up : record_of table [] ≡ table
unfolding account_of first_from records cut framed is_account_of same number_at pick
looked_up = refl

abbrev nt : List ℕ
nt = nt_response zeros zeros [] zeros

abbrev response : List ℕ
response = response_packet 7 7 zeros nt []

abbrev found : Packet
found = reading Response 7 7 59 0 (place 10 16) (place 34 24) (place 59 0)

back : Back end.Server response found zeros nt []
back = response_back 7 7 zeros nt [] refl (length_nt_response _ _ _ _) (omega arith)

long : length (response ++ []) ≡ 59
long = length-append response [] ∙ omega (arith, length_response_packet 7 7 zeros nt [] refl (length_nt_response _ _ _ _))

in_it : challenge_in found (response ++ []) ≡ zeros
unfolding challenge_in
in_it = sized_part (response ++ []) 10 16 (omega (arith, long)) ∙ back.challenge_is []

nt_in_it : nt_response_of found (response ++ []) ≡ nt
unfolding nt_response_of
nt_in_it = sized_part (response ++ []) 34 24 (omega (arith, long)) ∙ back.response_is []

user_in_it : user_of (response_name found (response ++ [])) ≡ []
unfolding response_name user_of user_start start_from
user_in_it = ap user_of (back.tail_is [])

abbrev string : List ℕ
string = authenticator_of (hash_of (record_of table [])) nt zeros zeros []

verdict : Verdicts (at ChallengeSent 0) (response ++ []) table (right 0 string)
unfolding is_account_of number_at same pick
verdict = record {
  response = found;
  taken = judges_so (at ChallengeSent 0) (response ++ []) found (back.reads []) refl refl refl refl;
  is =
      let r : Right zeros zeros nt [] table = record { account = ap (is_account_of []) looked_up; computed = ap (λ (r : List ℕ). nt_response zeros zeros [] (hash_of r)) (sym looked_up) } in
      let e : right (code_of (record_of table [])) string ≡ right 0 string = ap (λ (r : List ℕ). right (code_of r) string) looked_up in
      rw (in_it, nt_in_it, user_in_it, ← e) (judges_right formed r);
}

grants : server_step (at ChallengeSent 0) (packet (response ++ []) table) ≡ answered (succeeding (at ChallengeSent 0) string) (replicate 64 0)
unfolding server_step
grants =
    ap (λ (o : Outcome Server). answered o (replicate 64 0))
    (sym (effect_only (at ChallengeSent 0) (packet (response ++ []) table) _ (moves (granting string verdict) (omega (arith, length_success_request (next_id (record { 0 = 7 })).0 (chap_of (next_id (record { 0 = 7 }))).0 string [])))))

-- ---- the ends
module _ (step : Step) (promised : Promised step) where
  by : (s : Server) (c : Call (List ℕ)) → IsServer s → Lent c → (step s c).number ≡ (server_step s c).number
  by s c i l = ap (λ (a : Answered). a.number) (promised s c i l)

  no_refuses : AlwaysRefuses step → ⊥
  unfolding server_step initial start_of start_fits fitting challenge_packet chap_packet header pick
  no_refuses h = omega (arith, h initial (start 1) is_initial refl, by initial (start 1) is_initial refl)

  no_alike : AnswersAlike step → ⊥
  no_alike h =
      let s = at SuccessRequestSent 0 in
      let i = is_at SuccessRequestSent 0 in
      let e : ◌≡◌ {A = ℕ} 2 19 =
      sym confirms
      ∙ sym (by s (packet (success_response 7) []) i (lent (success_response 7) []))
      ∙ h s (success_response 7) (failure_response 7) [] zeros (replicate 64 0) i (lent (success_response 7) [])
      ∙ by s (packet (failure_response 7) []) i (lent (failure_response 7) [])
      ∙ refuses in
      omega arith

  no_idle : DoesNothing step → ⊥
  unfolding server_step initial start_of start_fits asked fitting challenge_packet chap_packet header pick
  no_idle h =
      let e : ChallengeSent ≡ Begin = sym (ap (λ (a : Answered). a.state.stage) (promised initial (start 1) is_initial refl)) ∙ ap (λ (s : Server). s.stage) (h initial (start 1) is_initial refl) in
      let z : ◌≡◌ {A = ℕ} 0 1 = cc in
      omega arith

  no_pretends : PretendsLater step → ⊥
  unfolding server_step resend_of stored_request fitting pick
  no_pretends h =
      let i = is_at SuccessRequestSent in
      let told : (b : ℕ) → get_or (step (at SuccessRequestSent b) (resends (0 ∷ []))).reply 0 0 ≡ b = λ b. ap (λ (a : Answered). get_or a.reply 0 0) (promised (at SuccessRequestSent b) (resends (0 ∷ [])) (i b) tt) in
      let e : ◌≡◌ {A = ℕ} 1 2 = sym (told 1) ∙ ap (λ (l : List ℕ). get_or l 0 0) (h (at SuccessRequestSent 1) (at SuccessRequestSent 2) (0 ∷ []) (i 1) (i 2) refl) ∙ told 2 in
      omega arith

  no_made_up : (m : ℕ) → MakesUpN m step → ⊥
  unfolding server_step initial start_of start_fits fitting challenge_packet chap_packet header pick
  no_made_up m h =
      let one-octet = promised initial (start 1) is_initial refl in
      let two-octets = promised initial (start 2) is_initial refl in
      omega (
        arith,
        h initial (start 1) is_initial refl (ap (λ (a : Answered). a.number) one-octet),
        ap (λ (a : Answered). a.n) one-octet,
        h initial (start 2) is_initial refl (ap (λ (a : Answered). a.number) two-octets),
        ap (λ (a : Answered). a.n) two-octets,
      )

  never_grants : NeverGrants step → ⊥
  unfolding asked
  never_grants h =
      let e = promised (at ChallengeSent 0) (packet (response ++ []) table) (is_at ChallengeSent 0) (lent (response ++ []) table) ∙ grants in
      h (at ChallengeSent 0) (response ++ []) table zeros (replicate 64 0) (is_at ChallengeSent 0) (lent (response ++ []) table)
      (ap (λ (a : Answered). a.number) e) (ap (λ (a : Answered). a.state.stage) e)

  never_confirms : NeverConfirms step → ⊥
  never_confirms h =
      let s = at SuccessRequestSent 0 in
      let i = is_at SuccessRequestSent 0 in
      let l = lent (success_response 7) [] in
      h s (packet (success_response 7) []) i l (by s (packet (success_response 7) []) i l ∙ confirms)

pub wrong_ends_shut_out : WrongEndsShutOut
wrong_ends_shut_out = record {
  refuses_not = no_refuses;
  alike_not = no_alike;
  idle_not = no_idle;
  pretends_not = no_pretends;
  made_up_not = λ m step promised. no_made_up step promised m;
  grants_not = never_grants;
  confirms_not = never_confirms;
}
