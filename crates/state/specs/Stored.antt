-- What a buffer holds after a state was written to it.
use Rattle.std.specs.Prelude.{ℕ, List, length, eqb}
use Rattle.octets.specs.Choice.{pick}

-- the n octets q where the buffer has n octets; any other keeps its own
unfoldable pub stored : ℕ → List ℕ → List ℕ → List ℕ
stored n q before = pick (eqb (length before) n) q before
