-- The challenges that are shown, one after the other.
use Rattle.std.specs.Prelude.{◌≡◌, ℕ, ◌+◌, ◌%◌, List, length, ◌≢◌, slice_index, slice_set}

-- a challenge with its last octet counted up, 0 after 255
abbrev pub counted_up : List ℕ → ℕ → List ℕ
counted_up c k = slice_set c 15 ((slice_index c 15 + k) % 256)

-- a challenge counted up once more is another
abbrev pub CountedDiffers : Type 0
CountedDiffers = (c : List ℕ) (k : ℕ) → length c ≡ 16 → counted_up c k ≢ counted_up c (k + 1)
