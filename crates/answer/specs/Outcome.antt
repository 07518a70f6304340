-- 01, "What a call answers": what a call gives, in the paper's numbers.
use Rattle.std.specs.Prelude.{ℕ, zero, suc, ◌≡◌, List, [], length, ltb}
use Rattle.octets.specs.Choice.{pick}
use Rattle.octets.specs.Lists.{over}

-- ---- a stateless call that writes nothing: its number, n, and what it hands out
pub record Told (A : Type 0) : Type 0 where
  pub number : ℕ
  pub n : ℕ
  pub value : A

abbrev pub gives : {A : Type 0} → A → Told A
gives x = record { number = 0; n = 0; value = x }

-- a refusal; beside it stands some value that means nothing
abbrev pub refuses : {A : Type 0} → ℕ → A → Told A
refuses k x = record { number = k; n = 0; value = x }

-- what a call tells whose first refusal is k, 0 for none; then it hands out x
unfoldable pub told : {A : Type 0} → ℕ → A → A → Told A
told zero none x = gives x
told (suc k) none x = refuses (suc k) none

-- ---- a call with a reply buffer: its number, the octets that it writes over the buffer's front, the state after it
pub record Outcome (S : Type 0) : Type 0 where
  pub number : ℕ
  pub octets : List ℕ
  pub state : S

abbrev pub outcome : {S : Type 0} → ℕ → List ℕ → S → Outcome S
outcome k q s = record { number = k; octets = q; state = s }

-- "change no state and no lent octet, and n = 0"
abbrev pub refused : {S : Type 0} → ℕ → S → Outcome S
refused k s = outcome k [] s

-- number 20: a reply longer than the buffer, which has room octets; s is the state before the call
unfoldable pub fitting : {S : Type 0} → ℕ → S → Outcome S → Outcome S
fitting room s o = pick (ltb room (length o.octets)) (refused 20 s) o

-- a call did what o says: it answered k and n, left the state s, and made `after` of the buffer `before`
pub record Does {S : Type 0} (o : Outcome S) (k n : ℕ) (s : S) (before after : List ℕ) : Type 0 where
  pub answered : k ≡ o.number
  pub count : n ≡ length o.octets
  pub left : s ≡ o.state
  pub written : after ≡ over o.octets before
