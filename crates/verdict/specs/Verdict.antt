-- 01, "Response arithmetic": which Responses are right, and what judging one by the account table comes to.
use Rattle.std.specs.Prelude.{ℕ, ◌≡◌, List, true, not}
use Rattle.octets.specs.Choice.{pick}
use Rattle.octets.specs.Octets.{same}
use Rattle.accounts.specs.Accounts.{code_of, hash_of, well_formed, is_account_of, record_of}
use Rattle.mschap.specs.Users.{user_of}
use Rattle.mschap.specs.Responses.{nt_response, authenticator_of}
use Rattle.verdict.specs.declared.Verdict.{Verdict}
use Rattle.verdict.specs.declared.Verdict.TheVariants as verdict

-- "A Response is right exactly when its user has an account and its NT-Response is the one so computed from that account's hash,
-- the Response's peer challenge, the outstanding challenge and that user."
pub record Right (challenge peer response user table : List ℕ) : Type 0 where
  pub account : is_account_of user (record_of table user) ≡ true
  pub computed : response ≡ nt_response challenge peer user (hash_of (record_of table user))

-- ---- the verdict
abbrev pub bad_table : Verdict
bad_table = verdict.Malformed

abbrev pub wrong : Verdict
wrong = verdict.Wrong

-- with the account's code and the authenticator string's octets
abbrev pub right : ℕ → List ℕ → Verdict
right code string = verdict.Right code string

unfoldable pub judge_user : List ℕ → List ℕ → List ℕ → List ℕ → List ℕ → Verdict
judge_user challenge peer response user table =
    pick (not (well_formed table)) bad_table
    (pick (not (is_account_of user (record_of table user))) wrong
    (pick (not (same (nt_response challenge peer user (hash_of (record_of table user))) response)) wrong
    (right (code_of (record_of table user)) (authenticator_of (hash_of (record_of table user)) response peer challenge user))))

-- the verdict on a Response's peer challenge, NT-Response and name, to the outstanding challenge
unfoldable pub judge_of : List ℕ → List ℕ → List ℕ → List ℕ → List ℕ → Verdict
judge_of challenge peer response name table = judge_user challenge peer response (user_of name) table
