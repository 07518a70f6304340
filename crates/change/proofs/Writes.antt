-- The Change-Password that is written, and what it carries to the server.
use Prim.Native.Nat.{ℕ, ◌≤◌, ◌<◌}
use Rattle.std.proofs.Common.{Result}
use Rattle.std.specs.Result.{IsErrAnd}
use Rattle.std.proofs.lemmas.Result.{err_from_is_err_and}
use mathlib.Core.Path.{◌≡◌, refl, ap, ◌∙◌}
use mathlib.Core.Bool.{Bool, true, false, not, ◌&&◌}
use mathlib.Core.List.{List, ◌++◌}
use native.Mathlib.Omega.{arith}
use lib.ListN.{length}
use lib.Dec.{leb}
use borrow.Author.Tests.{le-leb, lt-leb, eq-eqb, ne_eqb}
use Rattle.octets.specs.Lists.{over, part, Appended}
use Rattle.octets.proofs.Exits.{and_both, and_first, pick_true, pick_false}
use Rattle.octets.proofs.Appends.{appended_front}
use Rattle.answer.specs.declared.Refusal.{Refusal}
use Rattle.answer.specs.Answer.{refusal_of}
use Rattle.answer.specs.Outcome.{Outcome, outcome, refused, fitting, Does}
use Rattle.answer.specs.Results.{refusal_in}
use Rattle.answer.specs.Sizes.{max_name}
use Rattle.answer.proofs.Outcomes.{does_by, fitting_so, fitting_not}
use Rattle.mschap.specs.Responses.{password_hash, nt_response, authenticator_of}
use Rattle.mschap.proofs.Responses.{length_nt_response}
use Rattle.packet.specs.Reader.{at}
use Rattle.change.specs.declared.Renewal.{Renewal}
use Rattle.change.specs.declared.Sent.{Sent}
use Rattle.change.specs.Forms.{block_octets, encrypted_hash_at, change_octets, change_challenge_place, change_response_place, change_packet}
use Rattle.change.specs.Change.{password_block, encrypted_hash, valid, checked_of}
use Rattle.change.specs.Writing.{filler_octets, change_to, no_renewal, renewal_to, changeable, write_change, sent_octets, renewal_in}
use Rattle.change.specs.Promises.{RoundTrip}
use Rattle.change.proofs.Layouts.{length_change_packet, change_block, change_hash, change_challenge, change_response}
use Rattle.change.proofs.Blocks.{length_encrypted}
use Rattle.change.proofs.RoundTrip.{length_block, same_octets, same_hash}
use Rattle.change.proofs.Checks.{check_made}

-- ---- sizes
second_not : (a : Bool) {b : Bool} → b ≡ false → (a && b) ≡ false
second_not true e = e
second_not false e = refl

module _ (user old new filler : List ℕ) where
  pub long_user : 256 < length user → changeable user old new filler ≡ false
  unfolding changeable
  long_user h = and_first _ _ (lt-leb _ _ h)

  pub long_old : 256 < length old → changeable user old new filler ≡ false
  unfolding changeable
  long_old h = second_not (leb (length user) max_name) (and_first _ _ (lt-leb _ _ h))

  pub long_new : 256 < length new → changeable user old new filler ≡ false
  unfolding changeable
  long_new h = second_not (leb (length user) max_name) (second_not (leb (length old) 256) (and_first _ _ (lt-leb _ _ h)))

  pub other_filler : (length filler ≡ filler_octets → ⊥) → changeable user old new filler ≡ false
  unfolding changeable
  other_filler h = second_not (leb (length user) max_name) (second_not (leb (length old) 256) (second_not (leb (length new) 256) (ne_eqb _ _ h)))

  pub all_sized : length user ≤ 256 → length old ≤ 256 → length new ≤ 256 → length filler ≡ filler_octets → changeable user old new filler ≡ true
  unfolding changeable
  all_sized h i j e = and_both _ _ (le-leb _ _ h) (and_both _ _ (le-leb _ _ i) (and_both _ _ (le-leb _ _ j) (eq-eqb _ _ e)))

-- ---- the exits
module _ (id chapid : ℕ) (authenticator own user old new filler before : List ℕ) where
  pub length_change : length own ≡ 16 → length new ≤ 256 → length (change_to id chapid authenticator own user old new filler) ≡ change_octets
  unfolding change_to
  length_change e h = length_change_packet id chapid _ _ own _ (length_block (password_hash old) new filler h) (length_encrypted _ _) e (length_nt_response _ _ _ _)

  abbrev all : Outcome Renewal
  all = outcome 0 (change_to id chapid authenticator own user old new filler) (renewal_to authenticator own user new)

  write_not : changeable user old new filler ≡ false → (room : ℕ) → write_change id chapid authenticator own user old new filler room ≡ refused 23 no_renewal
  unfolding write_change
  write_not f room = pick_true _ _ _ (ap not f)

  write_so : changeable user old new filler ≡ true → (room : ℕ) → write_change id chapid authenticator own user old new filler room ≡ fitting room no_renewal all
  unfolding write_change
  write_so t room = pick_false _ _ _ (ap not t)

  refuses : (number k : ℕ) → k ≡ number → Does (refused number no_renewal) k 0 no_renewal before before
  refuses number k e = record { answered = e; count = refl; left = refl; written = refl }

  pub not_changeable : (k : ℕ) → k ≡ 23 → changeable user old new filler ≡ false → Does (write_change id chapid authenticator own user old new filler (length before)) k 0 no_renewal before before
  not_changeable k e f = does_by _ _ _ _ _ _ _ (refuses 23 k e) (write_not f (length before))

  -- a refusal that `?` passes on
  pub passed_on : (r : Result Sent Refusal) (why : Refusal) → IsErrAnd r (λ e. e ≡ why) → refusal_of why ≡ 23 → changeable user old new filler ≡ false
      → Does (write_change id chapid authenticator own user old new filler (length before)) (refusal_in r) (sent_octets r) (renewal_in r) before before
  passed_on r why was e f = let p = err_from_is_err_and r was in rw (p.1, p.2) (not_changeable (refusal_of why) e f)

  module _ (t : changeable user old new filler ≡ true) (short : length new ≤ 256) (sixteen : length own ≡ 16) where
    pub no_room : length before < change_octets → Does (write_change id chapid authenticator own user old new filler (length before)) 20 0 no_renewal before before
    no_room l =
        let q = length_change sixteen short in
        does_by _ _ _ _ _ _ _ (refuses 20 20 refl) (write_so t (length before) ∙ fitting_not (length before) no_renewal all (omega arith))

    pub all_sent : (h g block under response string after : List ℕ) (n : ℕ) → change_octets ≤ length before → h ≡ password_hash old → g ≡ password_hash new
        → block ≡ password_block h new filler → under ≡ encrypted_hash h g → response ≡ nt_response authenticator own user g → string ≡ authenticator_of g response own authenticator user
        → Appended before 0 (change_packet id chapid block under own response) n after
        → Does (write_change id chapid authenticator own user old new filler (length before)) 0 n (record { hash = g; string = string }) before after
    unfolding change_to renewal_to
    all_sent h g block under response string after n l eh eg eb eu er es a =
        let q = length_change sixteen short in
        let p : change_packet id chapid block under own response ≡ change_to id chapid authenticator own user old new filler =
        (λ i. change_packet id chapid (eb i) (eu i) own (er i))
        ∙ (λ i. change_packet id chapid (password_block (eh i) new filler) (encrypted_hash (eh i) (eg i)) own (nt_response authenticator own user (eg i))) in
        let s : string ≡ authenticator_of (password_hash new) (nt_response authenticator own user (password_hash new)) own authenticator user =
        es ∙ (λ i. authenticator_of g (er i) own authenticator user) ∙ (λ i. authenticator_of (eg i) (nt_response authenticator own user (eg i)) own authenticator user) in
        let m : length (change_packet id chapid block under own response) ≡ change_octets = ap length p ∙ q in
        let w = appended_front before _ after n (omega arith) a in
        does_by _ _ _ _ _ _ _
        (record { answered = refl; count = w.0 ∙ ap length p; left = (λ i. record { hash = eg i; string = s i }); written = w.1 ∙ ap (λ (l : List ℕ). over l before) p })
        (write_so t (length before) ∙ fitting_so (length before) no_renewal all (omega arith))

-- ---- what the packet carries
carried : (id chapid : ℕ) (authenticator own user old new filler pad : List ℕ) → length own ≡ 16 → length new ≤ 256 → length user ≤ max_name →
    let q = change_to id chapid authenticator own user old new filler ++ pad in
    let kept = renewal_to authenticator own user new in
    checked_of (password_hash old) authenticator (at q change_challenge_place) user (part q 9 block_octets) (part q encrypted_hash_at 16) (at q change_response_place) ≡ valid kept.hash kept.string
unfolding change_to renewal_to
carried id chapid authenticator own user old new filler pad s h u =
    let was = password_hash old in
    let block = password_block was new filler in
    let hash = encrypted_hash was (password_hash new) in
    let response = nt_response authenticator own user (password_hash new) in
    let lb : length block ≡ block_octets = length_block was new filler h in
    let lh : length hash ≡ 16 = length_encrypted was (password_hash new) in
    let lr : length response ≡ 24 = length_nt_response authenticator own user (password_hash new) in
    let eb = change_block id chapid block hash own response lb lh s lr pad in
    let eh = change_hash id chapid block hash own response lb lh s lr pad in
    let ec = change_challenge id chapid block hash own response lb lh s lr pad in
    let er = change_response id chapid block hash own response lb lh s lr pad in
    (λ i. checked_of was authenticator (ec i) user (eb i) (eh i) (er i)) ∙ check_made was authenticator own user new filler h u

pub round_trip : RoundTrip
round_trip = record { octets = same_octets; hash = same_hash; checked = check_made; carried = carried }
