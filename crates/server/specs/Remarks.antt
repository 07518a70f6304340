-- 01, "How tight each statement is": ends that the promises of the three calls shut out. What each of them does is supposed of values of the struct
-- and of what can be lent, and of nothing else.
use Rattle.std.specs.Prelude.{◌≡◌, ℕ, ◌≤◌, List, ◌≢◌}
use Rattle.server.specs.declared.Server.{Server}
use Rattle.server.specs.declared.Stage.TheVariants.{SuccessRequestSent}
use Rattle.server.specs.State.{IsServer}
use Rattle.server.specs.Runs.{Call, brings, resends, Step, server_step, Lent}

-- the promises of start, packet and resend, as their contracts state them
abbrev pub Promised : Step → Type 0
Promised step = (s : Server) (c : Call (List ℕ)) → IsServer s → Lent c → step s c ≡ server_step s c

-- no end that keeps them behaves so
abbrev pub ShutOut : (Step → Type 0) → Type 0
ShutOut Behaves = (step : Step) → Promised step → Behaves step → ⊥

-- "the end that always refuses"
abbrev pub AlwaysRefuses : Step → Type 0
AlwaysRefuses step = (s : Server) (c : Call (List ℕ)) → IsServer s → Lent c → 10 ≤ (step s c).number

-- "the one that answers every packet alike"
abbrev pub AnswersAlike : Step → Type 0
AnswersAlike step =
    (s : Server) (p q table fresh reply : List ℕ) → IsServer s → Lent (brings p table fresh reply) →
    (step s (brings p table fresh reply)).number ≡ (step s (brings q table fresh reply)).number

-- "A step that does nothing"
abbrev pub DoesNothing : Step → Type 0
DoesNothing step = (s : Server) (c : Call (List ℕ)) → IsServer s → Lent c → (step s c).state ≡ s

-- an end that "pretends later", "at the resend": it writes the same whatever request is outstanding
abbrev pub PretendsLater : Step → Type 0
PretendsLater step =
    (s s' : Server) (reply : List ℕ) → IsServer s → IsServer s' → s.stage ≡ s'.stage →
    (step s (resends reply)).reply ≡ (step s' (resends reply)).reply

-- "A made-up n"
abbrev pub MakesUpN : ℕ → Step → Type 0
MakesUpN m step = (s : Server) (c : Call (List ℕ)) → IsServer s → Lent c → (step s c).number ≡ 0 → (step s c).n ≡ m

-- an end in which nothing can be granted: no packet brings a Success Request; or none is answered 2
abbrev pub NeverGrants : Step → Type 0
NeverGrants step =
    (s : Server) (p table fresh reply : List ℕ) → IsServer s → Lent (brings p table fresh reply) →
    (step s (brings p table fresh reply)).number ≡ 0 → (step s (brings p table fresh reply)).state.stage ≢ SuccessRequestSent

abbrev pub NeverConfirms : Step → Type 0
NeverConfirms step = (s : Server) (c : Call (List ℕ)) → IsServer s → Lent c → (step s c).number ≢ 2

pub record WrongEndsShutOut : Type 0 where
  pub refuses_not : ShutOut AlwaysRefuses
  pub alike_not : ShutOut AnswersAlike
  pub idle_not : ShutOut DoesNothing
  pub pretends_not : ShutOut PretendsLater
  pub made_up_not : (m : ℕ) → ShutOut (MakesUpN m)
  pub grants_not : ShutOut NeverGrants
  pub confirms_not : ShutOut NeverConfirms
