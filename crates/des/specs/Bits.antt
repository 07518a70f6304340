-- Bits: 0 or 1, the highest first, as FIPS 46-3 writes them. Where a bit becomes a number its remainder by 2 is taken.
use Rattle.std.specs.Prelude.{ℕ, ◌+◌, ◌-◌, ◌*◌, ◌/◌, ◌%◌, ◌^◌, List, [], ◌∷◌, length, get_or}
use Rattle.octets.specs.Lists.{cells, part}

-- bit k, counted from 1 as in FIPS 46-3; 0 where there is none
abbrev pub bit_at : List ℕ → ℕ → ℕ
bit_at bits k = get_or (0 ∷ bits) k 0

-- the bits that a table names, in its order
unfoldable pub permuted : List ℕ → List ℕ → List ℕ
permuted table bits = cells (length table) (λ i. bit_at bits (get_or table i 0))

-- the sum of two bits modulo 2, and of lists, bit by bit
abbrev pub sum_of : ℕ → ℕ → ℕ
sum_of x y = (x + y) % 2

unfoldable pub xored : List ℕ → List ℕ → List ℕ
xored [] b = []
xored (x ∷ a) [] = []
xored (x ∷ a) (y ∷ b) = sum_of x y ∷ xored a b

-- bit i, counted from 0, of numbers of w bits
unfoldable pub bit_of : ℕ → List ℕ → ℕ → ℕ
bit_of w s i = get_or s (i / w) 0 / 2 ^ (w - 1 - i % w) % 2

-- all their bits
unfoldable pub bits_of : ℕ → List ℕ → List ℕ
bits_of w s = cells (w * length s) (bit_of w s)

-- the number that the bits make, after those of acc
unfoldable pub number_on : ℕ → List ℕ → ℕ
number_on acc [] = acc
number_on acc (b ∷ bits) = number_on (2 * acc + b % 2) bits

-- number n, counted from 0, of the numbers of w bits
abbrev pub group_at : ℕ → List ℕ → ℕ → ℕ
group_at w bits n = number_on 0 (part bits (w * n) w)
