-- The calls without a state: each answers a number of the list, and a refusal leaves the output.
use Prim.Native.Nat.{ℕ}
use native.Mathlib.Omega.{arith}
use mathlib.Core.List.{List, ◌++◌}
use mathlib.Core.Bool.{Bool, true, false}
use lib.ListN.{take}
use Rattle.octets.specs.Choice.{pick}
use Rattle.octets.proofs.Exits.{arms}
use Rattle.answer.specs.Outcome as told
use Rattle.answer.specs.Outcome.{Told, Outcome}
use Rattle.accounts.specs.Accounts.{check_number}
use Rattle.accounts.specs.Account.{account_record}
use Rattle.accounts.specs.Promises.{Appends, past, malformed, no_code, long_name, no_table, no_room, appends}
use Rattle.accounts.proofs.Appending.{appends_exact}
use Rattle.digest.specs.Md4.{md4_told}
use Rattle.digest.specs.Sha1.{sha1_told}
use Rattle.mschap.specs.Answers.{limited, password_hash_told, nt_response_told, authenticator_told}
use Rattle.calls.specs.Done.{word_of, made, given, given_by, wrote}
use Rattle.calls.specs.Stateless.{has, accounts_append_at, md4_at, sha1_at, password_hash_at, des_at, nt_response_at, authenticator_at}
use Rattle.calls.specs.Promises as promises
use Rattle.calls.specs.Promises.{NumberAt, good, refusal, MakesAt, gives, refuses, WritesAt, StatelessAnswer}

-- ---- the check of a table
check_at : (table : List ℕ) → NumberAt (word_of (check_number table) 0)
unfolding check_number
check_at table = arms (λ (k : ℕ). NumberAt (word_of k 0)) _ (refusal 21 (omega arith, omega arith)) good

append_at : (buffer : List ℕ) (used code : ℕ) (hash name : List ℕ) → WritesAt buffer (accounts_append_at buffer used code hash name)
unfolding accounts_append_at wrote word_of
append_at buffer used code hash name =
    arms (WritesAt buffer) (has 16 hash) (go (appends_exact buffer used code hash name).0) (promises.refuses 23 (omega arith, omega arith))
  where
    go : {o : Outcome (Unit {0})} → Appends buffer used code hash name o → WritesAt buffer (wrote o buffer)
    go (past h) = promises.refuses 23 (omega arith, omega arith)
    go (malformed h w) = promises.refuses 21 (omega arith, omega arith)
    go (no_code h w c) = promises.refuses 23 (omega arith, omega arith)
    go (long_name h w c m) = promises.refuses 23 (omega arith, omega arith)
    go (no_table a k) = promises.refuses 20 (omega arith, omega arith)
    go (no_room a k l) = promises.refuses 20 (omega arith, omega arith)
    go (appends a k l) = promises.writes (take used buffer ++ account_record code hash name) l

-- ---- what is made
told_out : (b : Bool) (zero x out : List ℕ) → MakesAt out (given_by (pick b (told.refuses 23 zero) (told.gives x)) out)
unfolding given_by given pick
told_out true zero x out = refuses 23 (omega arith, omega arith)
told_out false zero x out = gives x

-- the sizes, and then that
out_at : (b : Bool) (t : Told (List ℕ)) (out : List ℕ) → MakesAt out (given_by t out) → MakesAt out (pick b (given_by t out) (made 23 out))
unfolding word_of
out_at b t out h = arms (MakesAt out) b h (refuses 23 (omega arith, omega arith))

pub stateless_answer : StatelessAnswer
unfolding md4_at sha1_at password_hash_at des_at nt_response_at authenticator_at md4_told sha1_told password_hash_told nt_response_told authenticator_told limited word_of
stateless_answer = record {
  check = check_at;
  append = append_at;
  md4 = λ message out. out_at _ _ out (told_out _ _ _ out);
  sha1 = λ message out. out_at _ _ out (told_out _ _ _ out);
  password_hash = λ units out. out_at _ _ out (told_out _ _ _ out);
  des = λ key block out. arms (MakesAt out) _ (gives _) (refuses 23 (omega arith, omega arith));
  nt_response = λ authenticator peer user hash out. out_at _ _ out (told_out _ _ _ out);
  authenticator = λ hash response peer challenge user out. out_at _ _ out (told_out _ _ _ out);
}
