-- Which changes are valid, and what damage does to one.
use Prim.Native.Nat.{ℕ, ◌%◌, ◌<◌, ◌≤◌}
use Rattle.std.proofs.Common.{Option, None, is_some}
use mathlib.Core.Path.{◌≡◌, refl, sym, ap, ◌∙◌}
use mathlib.Core.Bool.{Bool, true, false, not}
use mathlib.Core.List.{List}
use native.Mathlib.Omega.{arith}
use lib.ListN.{length}
use lib.Dec.{ltb}
use borrow.Author.Tests.{lt-ltb, le-ltb, ltb-false, ne_eqb, not-false}
use Rattle.octets.specs.Choice.{pick}
use Rattle.octets.specs.Octets.{same}
use Rattle.octets.proofs.Exits.{and_both, both, clash, pick_true, pick_false, picked}
use Rattle.octets.proofs.Scans.{same_refl, same_true}
use Rattle.answer.specs.Sizes.{max_name}
use Rattle.mschap.specs.Responses.{password_hash, nt_response, authenticator_of}
use Rattle.change.specs.declared.Renewal.{Renewal}
use Rattle.change.specs.declared.NewPassword.{NewPassword}
use Rattle.change.specs.Change.{password_block, length_in, is_length, password_in, deciphered_block, new_password, encrypted_hash, invalid, valid, all_right, chosen, checked_of}
use Rattle.change.specs.Promises.{Valid, CheckExact, Damaged, DamageTold, BadLengths, Coincidence}
use Rattle.change.proofs.RoundTrip.{same_hash, length_kept, same_new, too_long, high_invalid}

module _ (old challenge peer user block encrypted response : List ℕ) where
  valid_right : Valid old challenge peer user block encrypted response → all_right old challenge peer user (new_password old block) encrypted response ≡ true
  unfolding all_right
  valid_right v =
      let hash = (new_password old block).hash in
      and_both _ _ v.length_right
      (and_both _ _ (ap (λ (l : List ℕ). same l (encrypted_hash old hash)) v.hash_right ∙ same_refl _)
      (ap (λ (l : List ℕ). same l (nt_response challenge peer user hash)) v.response_right ∙ same_refl _))

  right_valid : length user ≤ max_name → all_right old challenge peer user (new_password old block) encrypted response ≡ true → Valid old challenge peer user block encrypted response
  unfolding all_right
  right_valid h e =
      let a = both _ _ e in
      let b = both _ _ a.1 in
      record { user_short = h; length_right = a.0; hash_right = same_true _ _ b.0; response_right = same_true _ _ b.1 }

  pub check_taken : Valid old challenge peer user block encrypted response →
      checked_of old challenge peer user block encrypted response
      ≡ valid (new_password old block).hash (authenticator_of (new_password old block).hash response peer challenge user)
  unfolding checked_of chosen
  check_taken v = pick_false _ _ _ (le-ltb _ _ v.user_short) ∙ pick_false _ _ _ (ap not (valid_right v))

  pub check_only : is_some (checked_of old challenge peer user block encrypted response) ≡ true → Valid old challenge peer user block encrypted response
  unfolding checked_of chosen
  check_only =
      let P : Option Renewal → Type 0 = λ c. is_some c ≡ true → Valid old challenge peer user block encrypted response in
      picked P _ (λ _ e. clash refl e)
      (λ u. picked P _ (λ _ e. clash refl e) (λ r e. right_valid (ltb-false _ _ u) (not-false _ r)))

  pub check_refused : (Valid old challenge peer user block encrypted response → ⊥) → checked_of old challenge peer user block encrypted response ≡ invalid
  unfolding checked_of chosen
  check_refused h =
      picked (λ (c : Option Renewal). c ≡ invalid) _ (λ _. refl)
      (λ u. picked (λ (c : Option Renewal). c ≡ invalid) _ (λ _. refl) (λ r. absurd (h (right_valid (ltb-false _ _ u) (not-false _ r)))))

  -- a length that is none
  pub length_refused : (new_password old block).valid ≡ false → checked_of old challenge peer user block encrypted response ≡ invalid
  length_refused e = check_refused (λ v. clash e v.length_right)

  -- what the block holds is all that counts of it
  pub checked_by : (other : List ℕ) → new_password old block ≡ new_password old other → checked_of old challenge peer user block encrypted response ≡ checked_of old challenge peer user other encrypted response
  unfolding checked_of
  checked_by other e =
      ap (λ (n : NewPassword). pick (ltb max_name (length user)) invalid (chosen (all_right old challenge peer user n encrypted response) n.hash (authenticator_of n.hash response peer challenge user))) e

-- what `check` makes of it, step by step
pub checked_long : (old challenge peer user block encrypted response : List ℕ) → 256 < length user → None ≡ checked_of old challenge peer user block encrypted response
unfolding checked_of
checked_long old challenge peer user block encrypted response h = sym (pick_true _ _ _ (lt-ltb _ _ h))

module _ (old challenge peer user block encrypted response : List ℕ) (new : NewPassword) (right : Bool) (h : length user ≤ 256) (n : new ≡ new_password old block) (a : right ≡ all_right old challenge peer user new encrypted response) where
  pub checked_by_is : chosen right new.hash (authenticator_of new.hash response peer challenge user) ≡ checked_of old challenge peer user block encrypted response
  unfolding checked_of
  checked_by_is =
      (λ i. chosen (a i) new.hash (authenticator_of new.hash response peer challenge user))
      ∙ ap (λ (m : NewPassword). chosen (all_right old challenge peer user m encrypted response) m.hash (authenticator_of m.hash response peer challenge user)) n
      ∙ sym (pick_false _ _ _ (le-ltb _ _ h))

  pub checked_not : right ≡ false → None ≡ checked_of old challenge peer user block encrypted response
  unfolding chosen
  checked_not f = sym (pick_true _ _ _ (ap not f)) ∙ checked_by_is

  pub checked_so : (string : List ℕ) → right ≡ true → string ≡ authenticator_of new.hash response peer challenge user → valid new.hash string ≡ checked_of old challenge peer user block encrypted response
  unfolding chosen
  checked_so string t s = ap (valid new.hash) s ∙ sym (pick_false _ _ _ (ap not t)) ∙ checked_by_is

pub check_exact : CheckExact
check_exact = record { taken = check_taken; only = check_only; refused = check_refused }

-- ---- the change to a password
module _ (old challenge peer user units random : List ℕ) (h : length units ≤ 256) where
  made : new_password old (password_block old units random) ≡ record { valid = true; hash = password_hash units }
  made = same_hash old units random h

  hash_made : (new_password old (password_block old units random)).hash ≡ password_hash units
  hash_made = ap (λ (n : NewPassword). n.hash) made

  pub check_made : length user ≤ max_name →
      checked_of old challenge peer user (password_block old units random) (encrypted_hash old (password_hash units)) (nt_response challenge peer user (password_hash units))
      ≡ valid (password_hash units) (authenticator_of (password_hash units) (nt_response challenge peer user (password_hash units)) peer challenge user)
  check_made l =
      let e = sym hash_made in
      let response = nt_response challenge peer user (password_hash units) in
      check_taken old challenge peer user (password_block old units random) (encrypted_hash old (password_hash units)) response
      (record { user_short = l; length_right = ap (λ (n : NewPassword). n.valid) made; hash_right = ap (encrypted_hash old) e; response_right = ap (nt_response challenge peer user) e })
      ∙ ap (λ (hash : List ℕ). valid hash (authenticator_of hash response peer challenge user)) hash_made

  damaged : Damaged old challenge peer user units random
  damaged =
      let block = password_block old units random in
      record {
        other_hash = λ encrypted response d. check_refused old challenge peer user block encrypted response (λ v. d (v.hash_right ∙ ap (encrypted_hash old) hash_made));
        other_response = λ encrypted response d. check_refused old challenge peer user block encrypted response (λ v. d (v.response_right ∙ ap (nt_response challenge peer user) hash_made));
        high_octet = λ b encrypted response k g i d. length_refused old challenge peer user b encrypted response (high_invalid old units random b k h g i d);
        filler = λ b encrypted response f. let e = same_new old units random h b f in (e, checked_by old challenge peer user b encrypted response block e);
        length_kept = λ b f. length_kept old units random h b f;
      }

pub damage_told : DamageTold
damage_told = damaged

-- ---- lengths that are none
odd_not : (n : ℕ) → n % 2 ≡ 1 → is_length n ≡ false
unfolding is_length
odd_not n h = picked (λ b. b ≡ false) _ (λ _. refl) (λ _. ne_eqb (n % 2) 0 (λ e. omega arith))

length_none : (old block : List ℕ) → is_length (length_in (deciphered_block old block)) ≡ false → (new_password old block).valid ≡ false
unfolding new_password password_in
length_none old block e = e

pub bad_lengths : BadLengths
bad_lengths = record {
  odd = λ old challenge peer user block encrypted response e. length_refused old challenge peer user block encrypted response (length_none old block (odd_not _ e));
  over = λ old challenge peer user block encrypted response e. length_refused old challenge peer user block encrypted response (length_none old block (too_long _ e));
}

-- ---- another block, or another old hash
pub coincidence : Coincidence
coincidence = record {
  taken = λ old own challenge peer user block units l c.
      ap (λ (x : Option Renewal). is_some x)
      (check_taken own challenge peer user block (encrypted_hash old (password_hash units)) (nt_response challenge peer user (password_hash units))
      (record { user_short = l; length_right = c.length_right; hash_right = c.hashes; response_right = c.responses }));
  refused = λ old own challenge peer user block units d.
      check_refused own challenge peer user block (encrypted_hash old (password_hash units)) (nt_response challenge peer user (password_hash units))
      (λ v. d (record { length_right = v.length_right; hashes = v.hash_right; responses = v.response_right }));
}
