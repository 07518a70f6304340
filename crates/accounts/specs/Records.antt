-- 01, "Account table": octets as records end to end, whatever the kinds of the records.
use Rattle.std.specs.Prelude.{ℕ, zero, suc, ◌-◌, List, [], ◌∷◌, Bool, true, false, ◌&&◌, length, take, leb}
use Rattle.octets.specs.Choice.{pick}
use Rattle.octets.specs.Octets.{number_at}
use Rattle.octets.specs.declared.Order.TheVariants.{Little}

-- ---- a record: "length (2 octets, little-endian, counting the whole record), kind (2 octets, little-endian), body"
abbrev pub length_of : List ℕ → ℕ
length_of r = number_at Little r 0

abbrev pub kind_of : List ℕ → ℕ
kind_of r = number_at Little r 2

-- framing: whether r begins with a record, whose length is 4 or more and stays inside r (so r has 4 octets or more)
unfoldable pub framed : List ℕ → Bool
framed r = leb 4 (length_of r) && leb (length_of r) (length r)

-- ---- all records
-- the octets cut into records, after k octets that are passed over. Where no record begins, all that is left is the last piece
unfoldable pub cut : ℕ → List ℕ → List (List ℕ)
cut k [] = []
cut (suc k) (x ∷ xs) = cut k xs
cut zero (x ∷ xs) =
    pick (framed (x ∷ xs))
    (take (length_of (x ∷ xs)) (x ∷ xs) ∷ cut (length_of (x ∷ xs) - 1) xs)
    ((x ∷ xs) ∷ [])

unfoldable pub records : List ℕ → List (List ℕ)
records t = cut 0 t

unfoldable pub every : {A : Type 0} → (A → Bool) → List A → Bool
every p [] = true
every p (x ∷ xs) = pick (p x) (every p xs) false

-- whether the octets are records end to end, each of which passes a test of its kind
unfoldable pub sound : (List ℕ → Bool) → List ℕ → Bool
sound good t = every (λ r. framed r && good r) (records t)
