-- What holds of the tables that lines make.
use Rattle.std.specs.Prelude.{ℕ, ◌≡◌, true, List}
use Rattle.accounts.specs.Accounts.{well_formed}
use Rattle.roster.specs.Made.{made_of}

-- whatever the text, the table that is made of it is well formed
abbrev pub MadeFormed : Type 0
MadeFormed = (room : ℕ) (text : List ℕ) → well_formed (made_of room text).last.table ≡ true
