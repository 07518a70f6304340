-- What this crate's private functions promise each other.
use Rattle.std.specs.Prelude.{ℕ, ◌≡◌, List, ltb}
use Rattle.octets.specs.Choice.{pick}

-- the word that is due and the state's octets after a call that answered number; q are the octets of the state that it left
pub record Encoded (due number : ℕ) (q before : List ℕ) (word : ℕ) (after : List ℕ) : Type 0 where
  pub answered : word ≡ due
  pub left : after ≡ pick (ltb number 10) q before
