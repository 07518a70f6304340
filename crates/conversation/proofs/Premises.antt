-- The premises can be met: for every name and hash that fit there is a table with their account, and one by which no Response is right.
use Prim.Native.Nat.{ℕ, zero, suc, ◌≤◌}
use mathlib.Core.Path.{◌≡◌, refl, ap, ◌∙◌}
use mathlib.Core.Bool.{true}
use mathlib.Core.List.{List}
use native.Mathlib.Omega.{arith}
use lib.ListN.{length, get_or, replicate}
use Rattle.octets.specs.Octets.{AreOctets}
use Rattle.octets.proofs.Exits.{clash}
use Rattle.octets.proofs.Scans.{same_refl}
use Rattle.answer.specs.Sizes.{max_name}
use Rattle.accounts.specs.Accounts.{code_of, hash_of, is_code, well_formed, is_account_of, Placed}
use Rattle.accounts.specs.Account.{account_record}
use Rattle.accounts.proofs.Joined.{empty_formed, empty_none}
use Rattle.accounts.proofs.Appending.{account_formed, is_account_lem, account_own, code_is, hash_is}
use Rattle.mschap.specs.Users.{user_of}
use Rattle.mschap.proofs.Users.{user_shorter}
use Rattle.conversation.specs.Calls.{Credentials}
use Rattle.conversation.specs.Login.{HasAccount}
use Rattle.conversation.specs.Tries.{barred}
use Rattle.conversation.specs.Premises.{table_for, NameFits, PremisesMet}

-- ---- a table of one account
has_account : (user : List ℕ) (code : ℕ) (hash : List ℕ) → length user ≤ max_name → is_code code ≡ true → length hash ≡ 16 → HasAccount (account_record code hash user) user code hash
has_account user code hash few known sixteen =
    let found = account_own code hash user sixteen few known in
    record {
      account = ap (λ (e : Placed). is_account_of user e.octets) found ∙ is_account_lem code hash user sixteen few known user ∙ same_refl user;
      coded = ap (λ (e : Placed). code_of e.octets) found ∙ code_is code hash user sixteen few known;
      hashed = ap (λ (e : Placed). hash_of e.octets) found ∙ hash_is code hash user sixteen few known;
    }

module _ (c : Credentials) (code : ℕ) (f : NameFits c) (known : is_code code ≡ true) where
  short : length (user_of c.name) ≤ max_name
  short = omega (arith, user_shorter c.name, f.name)

  table_formed : well_formed (table_for c code) ≡ true
  table_formed = account_formed code c.hash (user_of c.name) f.hash short known

  table_account : HasAccount (table_for c code) (user_of c.name) code c.hash
  table_account = has_account (user_of c.name) code c.hash short known f.hash

zero_known : is_code 0 ≡ true
unfolding is_code
zero_known = refl

ones : (n : ℕ) → AreOctets (replicate n 1)
ones zero k = omega arith
ones (suc n) zero = omega arith
ones (suc n) (suc k) = ones n k

pub premises_met : PremisesMet
premises_met = record {
  fitting = λ c table f r. record {
    credentials = record { name = f.name; random = r; response = omega (arith, f.name) };
    server_some = omega arith;
    server_few = omega arith;
    retries = omega arith;
    challenge = refl;
    challenge_room = omega arith;
    reply_room = omega arith;
    end_room = omega arith;
  };
  denied = λ c table w. record { formed = w; octets = ones 16; differs = λ e. absurd (omega (arith, ap (λ (l : List ℕ). get_or l 0 0) e)); room = omega arith };
  granted = λ l c f e r. record { formed = rw e (table_formed c 0 f zero_known); account = rw e (table_account c 0 f zero_known); request_room = r };
  barred_by = λ l ts code f k n e. (rw e (table_formed _ code f k), barred code (rw e (table_account _ code f k)) n);
  wrong_by = λ challenge c. (empty_formed, λ r. clash (empty_none (user_of c.name)) r.account);
}
