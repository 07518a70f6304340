-- What reading a file leaves. What a file holds no contract can say.
use Rattle.std.specs.Prelude.{ℕ, ◌≤◌, ◌≡◌, List, length, Result, Ok, Err}
use Rattle.console.specs.declared.ReadError.{ReadError}
use Rattle.console.specs.declared.ReadError.TheVariants.{Unopened, Unread}

-- the file was read into a buffer: not opened, the buffer is as it was; n octets read, no more than it has. Its length stays
abbrev pub Leaves : Result ℕ ReadError → List ℕ → List ℕ → Type 0
Leaves (Err Unopened) before after = after ≡ before
Leaves (Err Unread) before after = length after ≡ length before
Leaves (Ok n) before after = (length after ≡ length before) × (n ≤ length before)
