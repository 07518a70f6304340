-- What this crate's private functions promise each other.
use Rattle.std.specs.Prelude.{ℕ, ◌+◌, ◌<◌, ◌≤◌, ◌≡◌, List, ◌++◌, Option, Some, None, length, take}

-- the units u stand after the first n of a list, and m counts them all; None where they are more than 256
abbrev pub Extended : List ℕ → ℕ → List ℕ → Option ℕ → List ℕ → Type 0
Extended before n u (Some m) after = (m ≤ 256) × (take m after ≡ take n before ++ u)
Extended before n u None after = 256 < n + length u

-- n counts the units u, which stand at the front of a list; None where they are more than 256
abbrev pub Converted : List ℕ → Option ℕ → List ℕ → Type 0
Converted u (Some n) after = (n ≤ 256) × (take n after ≡ u)
Converted u None after = 256 < length u
