-- A LOGIN WITH WRONG TRIES: a Response that is wrong brings a Failure Request R=1 while retries are left, and the peer's caller supplies other
-- credentials. Up to as many wrong tries as the retry count, and then the right account: both ends reach SUCCESS. As many wrong tries, and
-- then a wrong one; or at any time a right one whose account has a code other than 0: both reach FAILED.
use Rattle.std.specs.Prelude.{ℕ, ◌≤◌, ◌≡◌, true, List, [], ◌∷◌, length}
use Rattle.octets.specs.Octets.{AreOctets}
use Rattle.accounts.specs.Accounts.{well_formed}
use Rattle.mschap.specs.Users.{user_of}
use Rattle.mschap.specs.Responses.{nt_response}
use Rattle.verdict.specs.Verdict.{Right}
use Rattle.peer.specs.declared.Stage.{Stage as PeerStage}
use Rattle.peer.specs.declared.Stage.TheVariants as peer_stage
use Rattle.server.specs.declared.Stage.{Stage as ServerStage}
use Rattle.server.specs.declared.Stage.TheVariants as stage
use Rattle.conversation.specs.Calls.{ToServer, Credentials, Login, Ends, begun, judged, replied, closed, ended, Try, denied, waited, supplied, tried, tried_all}
use Rattle.conversation.specs.Login.{Responds, Fits, HasAccount, RightAccount}

-- ---- what comes with a Response that a Failure Request answers: the table is well formed; no 22, the fresh octets differ from the outstanding
-- challenge; and no 20, there is room for the Failure Request
pub record Denial (challenge : List ℕ) (a : ToServer) : Type 0 where
  pub formed : well_formed a.table ≡ true
  pub octets : AreOctets a.fresh
  pub differs : a.fresh ≡ challenge → ⊥
  pub room : 60 ≤ a.room

-- the Response of these credentials to a challenge is not right by a table
abbrev pub Wrong : List ℕ → Credentials → List ℕ → Type 0
Wrong challenge c table = Right challenge c.random (nt_response challenge c.random (user_of c.name) c.hash) (user_of c.name) table → ⊥

-- a wrong try; the fresh octets are the next challenge, and the credentials after it fit
pub record WrongTry (challenge : List ℕ) (c : Credentials) (t : Try) : Type 0 where
  pub denial : Denial challenge t.at_response
  pub wrong : Wrong challenge c t.at_response.table
  pub fresh : length t.at_response.fresh ≡ 16
  pub credentials : Responds t.credentials t.room

-- "Every Failure Request carries the lent fresh 16 octets as C, and they become the outstanding challenge."
abbrev pub AllWrong : List ℕ → Credentials → List Try → Type 0
AllWrong challenge c [] = Unit {0}
AllWrong challenge c (t ∷ ts) = WrongTry challenge c t × AllWrong t.at_response.fresh t.credentials ts

-- the challenge and the credentials of the last Response
abbrev pub last_challenge : List ℕ → List Try → List ℕ
last_challenge challenge [] = challenge
last_challenge challenge (t ∷ ts) = last_challenge t.at_response.fresh ts

abbrev pub last_credentials : Credentials → List Try → Credentials
last_credentials c [] = c
last_credentials c (t ∷ ts) = last_credentials t.credentials ts

-- ---- what the calls answer: in a try 0, 1 (the peer needs credentials) and 0
abbrev pub AskedAgain : Ends → List Try → Type 0
AskedAgain b [] = Unit {0}
AskedAgain b (t ∷ ts) = ((denied b t).number ≡ 0) × ((waited b t).number ≡ 1) × ((supplied b t).number ≡ 0) × AskedAgain (tried b t) ts

-- and from the last Response on 0, 0, and at both ends the last answer and the stage that it leaves
pub record Reaches (l : Login) (b : Ends) (k : ℕ) (s : ServerStage) (p : PeerStage) : Type 0 where
  pub request : (judged l b).number ≡ 0
  pub reply : (replied l b).number ≡ 0
  pub server : (closed l b).number ≡ k
  pub peer : (ended l b).number ≡ k
  pub server_there : (closed l b).state.stage ≡ s
  pub peer_there : (ended l b).state.stage ≡ p

module _ (l : Login) (ts : List Try) where
  abbrev pub last : Credentials
  last = last_credentials l.credentials ts

  abbrev pub outstanding : List ℕ
  outstanding = last_challenge l.challenge ts

  -- the last Response is wrong and no retry is left, or it is right and its account has another code
  pub data Rejected : Type 0 where
    exhausted : length ts ≡ l.retries → Wrong outstanding last l.at_response.table → Rejected
    barred : (code : ℕ) → HasAccount l.at_response.table (user_of last.name) code last.hash → (code ≡ 0 → ⊥) → Rejected

abbrev pub TriesSucceed : Type 0
TriesSucceed =
    (l : Login) (ts : List Try) → Fits l → length ts ≤ l.retries → AllWrong l.challenge l.credentials ts → RightAccount l (last l ts)
    → AskedAgain (begun l) ts × Reaches l (tried_all (begun l) ts) 2 stage.Success peer_stage.Success

abbrev pub TriesFail : Type 0
TriesFail =
    (l : Login) (ts : List Try) → Fits l → length ts ≤ l.retries → AllWrong l.challenge l.credentials ts → Denial (outstanding l ts) l.at_response → Rejected l ts
    → AskedAgain (begun l) ts × Reaches l (tried_all (begun l) ts) 3 stage.Failed peer_stage.Failed
