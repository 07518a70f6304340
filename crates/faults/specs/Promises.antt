-- What holds of the faults.
use Rattle.std.specs.Prelude.{ℕ, ◌/◌, ◌≡◌, List}
use Rattle.packet.specs.declared.End.{End}
use Rattle.packet.specs.Reader.{read_packet}
use Rattle.faults.specs.Faults.{fault_of}

-- what is said to be wrong is what the refusal is for: the fault's number without its last two digits is the reader's answer
abbrev pub FaultsExact : Type 0
FaultsExact = (end : End) (p : List ℕ) → fault_of end p / 100 ≡ (read_packet end p).number
