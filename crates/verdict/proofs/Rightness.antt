-- The verdict is Right exactly where the Response is right.
use Prim.Native.Nat.{ℕ, ◌<◌}
use mathlib.Core.Path.{◌≡◌, refl, sym, ap, ◌∙◌}
use mathlib.Core.List.{List}
use mathlib.Core.Bool.{true, false, not}
use lib.ListN.{get_or}
use borrow.Author.Tests.{not-true, not-false}
use Rattle.octets.specs.Octets.{same}
use Rattle.octets.proofs.Exits.{pick_true, pick_false, picked, clash}
use Rattle.octets.proofs.Scans.{same_refl, same_true}
use Rattle.accounts.specs.Accounts.{code_of, hash_of, is_code, well_formed, record_of}
use Rattle.accounts.proofs.Lookups.{account_good_lem}
use Rattle.mschap.specs.Users.{user_of}
use Rattle.mschap.specs.Responses.{nt_response, authenticator_of}
use Rattle.mschap.proofs.Responses.{authenticator_octet}
use Rattle.verdict.specs.declared.Verdict.{Verdict}
use Rattle.verdict.specs.Verdict.{Right, bad_table, wrong, right, judge_user, judge_of}
use Rattle.verdict.specs.Promises.{Judges, judges_malformed, judges_wrong, judges_right, VerdictsExact}

module _ (challenge peer response user table : List ℕ) where
  -- the account's code and the authenticator string by its hash
  abbrev granted : Verdict
  granted = right (code_of (record_of table user)) (authenticator_of (hash_of (record_of table user)) response peer challenge user)

  -- what is right is Right, with its account's code and its authenticator string
  pub judge_right : well_formed table ≡ true → Right challenge peer response user table → judge_user challenge peer response user table ≡ granted
  unfolding judge_user
  judge_right w x =
      pick_false _ _ _ (ap not w)
      ∙ pick_false _ _ _ (ap not x.account)
      ∙ pick_false _ _ _ (ap not (ap (same (nt_response challenge peer user (hash_of (record_of table user)))) x.computed ∙ same_refl _))

  -- what is not right is wrong, whatever the table
  pub judge_wrong : well_formed table ≡ true → (Right challenge peer response user table → ⊥) → judge_user challenge peer response user table ≡ wrong
  unfolding judge_user
  judge_wrong w h =
      pick_false _ _ _ (ap not w)
      ∙ picked (λ (v : Verdict). v ≡ wrong) _ (λ _. refl)
      (λ a. picked (λ (v : Verdict). v ≡ wrong) _ (λ _. refl)
      (λ c. absurd (h (record { account = not-false _ a; computed = sym (same_true _ _ (not-false _ c)) }))))

  -- what is malformed
  judge_malformed : well_formed table ≡ false → judge_user challenge peer response user table ≡ bad_table
  unfolding judge_user
  judge_malformed w = pick_true _ _ _ (ap not w)

  -- there are three verdicts
  pub judges : Judges challenge peer response user table (judge_user challenge peer response user table)
  unfolding judge_user
  judges =
      let P : Verdict → Type 0 = Judges challenge peer response user table in
      picked P _ (λ f. judges_malformed (not-true _ f))
      (λ f. picked P _ (λ a. judges_wrong (not-false _ f) (λ r. clash (not-true _ a) r.account))
      (λ a. picked P _ (λ c. judges_wrong (not-false _ f) (λ r. clash (not-true _ c) (ap (same (nt_response challenge peer user (hash_of (record_of table user)))) r.computed ∙ same_refl _)))
      (λ c. judges_right (not-false _ f) (record { account = not-false _ a; computed = sym (same_true _ _ (not-false _ c)) }))))

  -- and each comes in one way
  pub judged : {v : Verdict} → Judges challenge peer response user table v → v ≡ judge_user challenge peer response user table
  judged (judges_malformed w) = sym (judge_malformed w)
  judged (judges_wrong w h) = sym (judge_wrong w h)
  judged (judges_right w r) = sym (judge_right w r)

  -- what gets Right is right
  module _ (code : ℕ) (string : List ℕ) (m : judge_user challenge peer response user table ≡ right code string) where
    pub right_judged : (well_formed table ≡ true) × Right challenge peer response user table
    right_judged = go judges m
      where
        go : {v : Verdict} → Judges challenge peer response user table v → v ≡ right code string → (well_formed table ≡ true) × Right challenge peer response user table
        go (judges_malformed w) e = absurd (cc)
        go (judges_wrong w h) e = absurd (cc)
        go (judges_right w r) e = (w, r)

    -- by the account's code and the authenticator string
    told_right : right code string ≡ granted
    told_right = sym m ∙ judge_right right_judged.0 right_judged.1

    -- then the code is one of the five, and the string consists of octets
    pub right_code : is_code code ≡ true
    right_code =
        let e : code ≡ code_of (record_of table user) = cc told_right in
        ap is_code e ∙ (account_good_lem table user right_judged.0 right_judged.1.account).code

    pub right_string : (k : ℕ) → get_or string k 0 < 256
    right_string k =
        let e : string ≡ authenticator_of (hash_of (record_of table user)) response peer challenge user = cc told_right in
        rw e (authenticator_octet _ _ _ _ _ k)

pub verdicts_exact : VerdictsExact
unfolding judge_of
verdicts_exact challenge peer response name table =
    (judges challenge peer response (user_of name) table, λ v j. judged challenge peer response (user_of name) table j)
