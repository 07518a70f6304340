-- The wrong-guess rule: 01, "How tight each statement is". It is stated of any way to answer the calls, so that it can be shown true of this
-- server and false of others.
use Rattle.std.specs.Prelude.{◌≡◌, ℕ, true, List, [], ◌∷◌, map}
use Rattle.answer.specs.Runs.{run}
use Rattle.packet.specs.declared.Packet.{Packet}
use Rattle.packet.specs.Reader.{challenge_in}
use Rattle.accounts.specs.Accounts.{well_formed}
use Rattle.mschap.specs.Users.{user_of}
use Rattle.verdict.specs.Verdict.{Right}
use Rattle.server.specs.declared.Stage.TheVariants.{ChallengeSent}
use Rattle.server.specs.declared.Server.{Server}
use Rattle.server.specs.Moves.{Taken}
use Rattle.server.specs.Calls.{nt_response_of, response_name}
use Rattle.server.specs.Runs.{Call, starts, brings, resends, left, Step}

-- ---- the two servers
pub data Side : Type 0 where
  one two : Side

-- "All arguments but the state and the account table, and reply buffers beforehand, are the same at both servers. The tables may differ in
-- everything, and change from packet to packet": a packet comes with a table for each server
abbrev pub lent_to : Side → Call (Side → List ℕ) → Call (List ℕ)
lent_to x (starts id challenge name retries reply) = starts id challenge name retries reply
lent_to x (brings packet tables fresh reply) = brings packet (tables x) fresh reply
lent_to x (resends reply) = resends reply

abbrev pub calls_of : Side → List (Call (Side → List ℕ)) → List (Call (List ℕ))
calls_of x cs = map (lent_to x) cs

-- ---- guesses
-- 01, "What a call answers": "A Response is judged once none of 10 to 19 nor 21 holds, even if 22 or 20 follows."
pub record Judged (s : Server) (packet table : List ℕ) (k : Packet) : Type 0 where
  pub taken : Taken s packet ChallengeSent k
  pub formed : well_formed table ≡ true

-- right by a table, to the state's outstanding challenge
abbrev pub RightAt : Server → List ℕ → List ℕ → Packet → Type 0
RightAt s packet table k = Right s.request.challenge (challenge_in k packet) (nt_response_of k packet) (user_of (response_name k packet)) table

-- the table is well formed, "that is, not malformed"; and no judged Response is right
abbrev pub NotRight : Server → Call (List ℕ) → Type 0
NotRight s (starts id challenge name retries reply) = Unit {0}
NotRight s (brings packet table fresh reply) = (well_formed table ≡ true) × ((k : Packet) → Judged s packet table k → RightAt s packet table k → ⊥)
NotRight s (resends reply) = Unit {0}

abbrev pub NoneRight : Step → Server → List (Call (List ℕ)) → Type 0
NoneRight step s [] = Unit {0}
NoneRight step s (c ∷ cs) = NotRight s c × NoneRight step (left (step s c)) cs

-- THE WRONG-GUESS RULE. Two servers in one state, "any state that can be handed in", and any list of calls, refused ones included: if no judged
-- Response is right in its table at either server, then every call gives the same answer, n and whole buffer, and the states after it are equal.
-- "It is a single claim about the whole list, not one for each call." "Each call after the first takes the state that the same server's last call
-- returned, and nothing else writes it."
abbrev pub WrongGuessRule : Step → Type 0
WrongGuessRule step =
    (s : Server) (cs : List (Call (Side → List ℕ))) → ((x : Side) → NoneRight step s (calls_of x cs))
    → run left step s (calls_of one cs) ≡ run left step s (calls_of two cs)
