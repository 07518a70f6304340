-- Octets: equality, numbers of two octets, hex digits, decimal digits.
use Rattle.std.specs.Prelude.{ℕ, zero, suc, ◌+◌, ◌-◌, ◌*◌, ◌/◌, ◌%◌, ◌<◌, List, [], ◌∷◌, ◌++◌, Bool, true, false, length, get_or, ltb, eqb}
use Rattle.octets.specs.Choice.{pick}
use Rattle.octets.specs.Lists.{part}
use Rattle.octets.specs.declared.Order.{Order}
use Rattle.octets.specs.declared.Order.TheVariants.{Little, Big}

-- all are octets
abbrev pub AreOctets : List ℕ → Type 0
AreOctets s = (k : ℕ) → get_or s k 0 < 256

-- whether x stands at i
unfoldable pub octet_is : List ℕ → ℕ → ℕ → Bool
octet_is p i x = eqb (get_or p i 0) x

-- whether two lists are equal, octet for octet
unfoldable pub same : List ℕ → List ℕ → Bool
same [] [] = true
same [] (y ∷ ys) = false
same (x ∷ xs) [] = false
same (x ∷ xs) (y ∷ ys) = pick (eqb x y) (same xs ys) false

-- whether word stands at i
unfoldable pub stands_at : List ℕ → ℕ → List ℕ → Bool
stands_at p i word = same (part p i (length word)) word

-- the number that two octets stand for
abbrev pub pair_of : Order → ℕ → ℕ → ℕ
pair_of Little a b = a + b * 256
pair_of Big a b = a * 256 + b

-- the number of the two octets at i; an octet past the end counts as 0
unfoldable pub number_at : Order → List ℕ → ℕ → ℕ
number_at o p i = pair_of o (get_or p i 0) (get_or p (i + 1) 0)

-- ---- hex digits
-- 0 to 9, A to F, and a to f where either case is taken
unfoldable pub is_hex : Bool → ℕ → Bool
is_hex either x =
    pick (ltb x 48) false
    (pick (ltb x 58) true
    (pick (ltb x 65) false
    (pick (ltb x 71) true
    (pick (ltb x 97) false
    (pick (ltb x 103) either false)))))

-- whether all are hex digits
unfoldable pub all_hex : Bool → List ℕ → Bool
all_hex either [] = true
all_hex either (x ∷ xs) = pick (is_hex either x) (all_hex either xs) false

-- whether n hex digits stand at i
unfoldable pub hex_stands : Bool → List ℕ → ℕ → ℕ → Bool
hex_stands either p i n = pick (ltb (length (part p i n)) n) false (all_hex either (part p i n))

-- the value of a hex digit of either case; 0 for any other octet
unfoldable pub hex_value : ℕ → ℕ
hex_value x =
    pick (ltb x 48) 0
    (pick (ltb x 58) (x - 48)
    (pick (ltb x 65) 0
    (pick (ltb x 71) (x - 55)
    (pick (ltb x 97) 0
    (pick (ltb x 103) (x - 87) 0)))))

-- the upper-case digit of n below 16
unfoldable pub hex_digit : ℕ → ℕ
hex_digit n = pick (ltb n 10) (48 + n) (55 + n)

-- digit k of the octets h, two to an octet, the high one first
unfoldable pub hex_at : List ℕ → ℕ → ℕ
hex_at h k = pick (eqb (k % 2) 0) (hex_digit (get_or h (k / 2) 0 / 16)) (hex_digit (get_or h (k / 2) 0 % 16))

-- octet k of the digits d
unfoldable pub unhex_at : List ℕ → ℕ → ℕ
unhex_at d k = hex_value (get_or d (k * 2) 0) * 16 + hex_value (get_or d (k * 2 + 1) 0)

-- ---- decimal digits
unfoldable pub is_digit : ℕ → Bool
is_digit x = pick (ltb x 48) false (ltb x 58)

-- how many digits a list begins with
unfoldable pub digits : List ℕ → ℕ
digits [] = 0
digits (x ∷ xs) = pick (is_digit x) (suc (digits xs)) 0

-- the value of a decimal digit; an octet below 48 counts as 0
abbrev pub digit_value : ℕ → ℕ
digit_value x = x - 48

-- the number whose digits are those of acc and then the list
unfoldable pub number_from : ℕ → List ℕ → ℕ
number_from acc [] = acc
number_from acc (x ∷ xs) = number_from (acc * 10 + digit_value x) xs

-- the number of at most ten digits, and 0 for more
unfoldable pub number : List ℕ → ℕ
number s = pick (ltb 10 (length s)) 0 (number_from 0 s)

-- the low k decimal digits of n, with no leading zeros
unfoldable pub decimals : ℕ → ℕ → List ℕ
decimals zero n = []
decimals (suc k) n = pick (ltb n 10) ((48 + n) ∷ []) (decimals k (n / 10) ++ ((48 + n % 10) ∷ []))

-- n below 10,000,000,000 in decimal, with no leading zeros
unfoldable pub decimal : ℕ → List ℕ
decimal n = decimals 10 n
