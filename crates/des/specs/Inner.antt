-- What this crate's private functions promise each other.
use Rattle.std.specs.Prelude.{ℕ, ◌-◌, ◌/◌, ◌%◌, ◌^◌, ◌<◌, ◌≤◌, ◌≡◌, Bool, true, ◌&&◌, ltb, leb, List, [], ◌∷◌, length}
use Rattle.octets.specs.Lists.{cells}

-- the bits of a word of n bits, and a word below 2 ^ n that has the given ones
unfoldable pub bits_in : ℕ → ℕ → List ℕ
bits_in n w = cells n (λ i. w / 2 ^ (n - 1 - i) % 2)

pub record Word (n : ℕ) (bits : List ℕ) (w : ℕ) : Type 0 where
  pub small : w < 2 ^ n
  pub is : bits_in n w ≡ bits

-- whether each entry of a table names one of n bits
unfoldable pub names : ℕ → List ℕ → Bool
names n [] = true
names n (k ∷ table) = (ltb 0 k && leb k n) && names n table

-- a table of n entries, eight to a row, that name bits of a word of m bits
pub record Table (n m : ℕ) (table : List ℕ) : Type 0 where
  pub rows : n % 8 ≡ 0
  pub short : n ≤ 64
  pub most : m ≤ 64
  pub long : length table ≡ n
  pub names : names m table ≡ true
