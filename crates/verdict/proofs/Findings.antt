-- What a lookup tells of the verdict.
use Prim.Native.Nat.{ℕ, ◌+◌, ◌<◌, ◌≤◌}
use mathlib.Core.Path.{◌≡◌, refl, sym, ap, ◌∙◌}
use mathlib.Core.List.{List}
use mathlib.Core.Bool.{Bool, true, false, not}
use native.Mathlib.Omega.{arith}
use lib.ListN.{length, drop, length-drop}
use lib.Dec.{eqb}
use borrow.Author.Tests.{ne_eqb}
use Rattle.octets.specs.Choice.{pick}
use Rattle.octets.specs.Lists.{sized}
use Rattle.octets.proofs.Exits.{pick_true, pick_false, tested}
use Rattle.octets.proofs.Lists.{sized_take}
use Rattle.answer.specs.Sizes.{max_name}
use Rattle.std.specs.Prelude.{Ok, Err}
use Rattle.answer.specs.declared.Refusal.{Refusal}
use Rattle.accounts.specs.declared.Account.{Account}
use Rattle.accounts.specs.Accounts.{code_of, hash_of, well_formed, is_account_of, account_of, record_of, looked, looked_of}
use Rattle.accounts.proofs.Lookups.{account_short, account_inside, account_hash, looked_formed, looked_refused, looked_there, looked_none}
use Rattle.verdict.specs.declared.Verdict.{Verdict}
use Rattle.verdict.specs.Inner.{weighed}
use Rattle.verdict.specs.Verdict.{bad_table, wrong, judge_user}

module _ (challenge peer response user table : List ℕ) where
  -- a Response weighed by no account, and by the user's
  unknown : well_formed table ≡ true → is_account_of user (record_of table user) ≡ false → (code : ℕ) (hash : List ℕ)
      → weighed false code hash challenge peer response user ≡ judge_user challenge peer response user table
  unfolding judge_user weighed pick
  unknown w n code hash = sym (pick_false _ _ _ (ap not w) ∙ pick_true _ _ _ (ap not n))

  granted : well_formed table ≡ true → is_account_of user (record_of table user) ≡ true
      → weighed true (code_of (record_of table user)) (hash_of (record_of table user)) challenge peer response user ≡ judge_user challenge peer response user table
  unfolding judge_user weighed
  granted w i = sym (pick_false _ _ _ (ap not w) ∙ rw i refl)

  -- by what `look` gave
  pub judge_malformed : (why : Refusal) → Err why ≡ looked_of table user → bad_table ≡ judge_user challenge peer response user table
  unfolding judge_user
  judge_malformed why e = sym (pick_true _ _ _ (ap not (looked_refused table user why e)))

  module _ (l : Account) (e : Ok l ≡ looked_of table user) where
    well : well_formed table ≡ true
    well = looked_formed table user l e

    is_none : is_account_of user (record_of table user) ≡ false → l ≡ looked 0 0
    is_none i = cc (e, looked_none table user well i)

    is_there : is_account_of user (record_of table user) ≡ true → l ≡ looked (code_of (record_of table user)) ((account_of table user).place + 6)
    is_there i = cc (e, looked_there table user well i)

    -- no account has so long a name
    pub judge_long : max_name < length user → wrong ≡ judge_user challenge peer response user table
    unfolding judge_user
    judge_long h =
        let n : is_account_of user (record_of table user) ≡ false =
        tested (is_account_of user (record_of table user)) (λ i. let s = account_short table user well i in absurd (omega arith)) (λ i. i) in
        sym (pick_false _ _ _ (ap not well) ∙ pick_true _ _ _ (ap not n))

    pub judge_weighed : (v : Verdict) (hash : List ℕ) → hash ≡ sized 16 (drop l.hash table) → v ≡ weighed (not (eqb l.hash 0)) l.code hash challenge peer response user
        → v ≡ judge_user challenge peer response user table
    judge_weighed v hash h w = w ∙ tested (is_account_of user (record_of table user)) known none
      where
        none : is_account_of user (record_of table user) ≡ false → weighed (not (eqb l.hash 0)) l.code hash challenge peer response user ≡ judge_user challenge peer response user table
        none i =
            let f : not (eqb l.hash 0) ≡ false = ap (λ (x : Account). not (eqb x.hash 0)) (is_none i) in
            ap (λ (b : Bool). weighed b l.code hash challenge peer response user) f ∙ unknown well i l.code hash

        known : is_account_of user (record_of table user) ≡ true → weighed (not (eqb l.hash 0)) l.code hash challenge peer response user ≡ judge_user challenge peer response user table
        known i =
            let place : ℕ = (account_of table user).place + 6 in
            let s : l ≡ looked (code_of (record_of table user)) place = is_there i in
            let f : not (eqb l.hash 0) ≡ true = ap (λ (x : Account). not (eqb x.hash 0)) s ∙ ap not (ne_eqb place 0 (λ z. omega arith)) in
            let room : 16 ≤ length (drop place table) = omega (arith, account_inside table user well i, length-drop place table) in
            let g : hash ≡ hash_of (record_of table user) = h ∙ ap (λ (x : Account). sized 16 (drop x.hash table)) s ∙ sized_take 16 (drop place table) room ∙ account_hash table user well i in
            (λ j. weighed (f j) (s j).code (g j) challenge peer response user) ∙ granted well i

pub ruleset judging = (judge_malformed, judge_long, judge_weighed)
