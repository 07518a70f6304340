-- The premises of Login and of Tries can be met, for every name and hash that fit.
use Rattle.std.specs.Prelude.{ℕ, ◌+◌, ◌≤◌, ◌≡◌, true, List, [], ◌∷◌, length, replicate}
use Rattle.answer.specs.Sizes.{max_name}
use Rattle.packet.specs.Forms.{response_name_at, success_text_at}
use Rattle.accounts.specs.Accounts.{is_code, well_formed}
use Rattle.accounts.specs.Account.{account_record}
use Rattle.mschap.specs.Users.{user_of}
use Rattle.conversation.specs.Calls.{Credentials, Login, Try}
use Rattle.conversation.specs.Login.{Fits, RightAccount}
use Rattle.conversation.specs.Tries.{Denial, Wrong, last, Rejected}

-- a table of one account, that of these credentials
abbrev pub table_for : Credentials → ℕ → List ℕ
table_for c code = account_record code c.hash (user_of c.name)

pub record NameFits (c : Credentials) : Type 0 where
  pub name : length c.name ≤ max_name
  pub hash : length c.hash ≡ 16

-- a login with these credentials, whose Response is judged by this table
abbrev pub login_for : Credentials → List ℕ → Login
login_for c table = record {
  credentials = c;
  id = record { 0 = 0 };
  challenge = replicate 16 0;
  server = 65 ∷ [];
  retries = 0;
  room = 27;
  padding = [];
  response_room = response_name_at + max_name;
  at_response = record { padding = []; table = table; fresh = replicate 16 1; room = 60 };
  at_request = record { padding = []; random = replicate 16 0; room = 6 };
  at_reply = record { padding = []; table = []; fresh = replicate 16 0; room = 4 };
  at_end = record { padding = []; random = replicate 16 0; room = 0 };
}

pub record PremisesMet : Type 0 where
  -- it fits, and where its Response is not granted, a Failure Request is due and goes out
  pub fitting : (c : Credentials) (table : List ℕ) → NameFits c → length c.random ≡ 16 → Fits (login_for c table)
  pub denied : (c : Credentials) (table : List ℕ) → well_formed table ≡ true → Denial (login_for c table).challenge (login_for c table).at_response
  -- the right account
  pub granted : (l : Login) (c : Credentials) → NameFits c → l.at_response.table ≡ table_for c 0 → success_text_at ≤ l.at_response.room → RightAccount l c
  -- `barred`: the account has one of the other codes, and the table is well formed
  pub barred_by : (l : Login) (ts : List Try) (code : ℕ) → NameFits (last l ts) → is_code code ≡ true → (code ≡ 0 → ⊥) → l.at_response.table ≡ table_for (last l ts) code →
      (well_formed l.at_response.table ≡ true) × Rejected l ts
  -- a wrong Response: the table of no octets is well formed, and by it none is right
  pub wrong_by : (challenge : List ℕ) (c : Credentials) → (well_formed [] ≡ true) × Wrong challenge c []
