-- FIPS 46-3: one block of 8 octets, enciphered under a key of 8 octets.
use Rattle.std.specs.Prelude.{ℕ, zero, suc, ◌+◌, ◌*◌, ◌/◌, ◌%◌, List, ◌++◌, get_or, take, drop}
use Rattle.octets.specs.Lists.{cells}
use Rattle.des.specs.Tables.{ip_table, fp_table, e_table, p_table, pc1_table, pc2_table, shift_table, s_table}
use Rattle.des.specs.Bits.{permuted, xored, bits_of, group_at}

-- ---- the cipher function f(R, K)
-- the place of box n for the six bits of x: the first and the last bit give the row, the four between them the column
abbrev pub place_of : ℕ → ℕ → ℕ
place_of n x = 64 * n + 16 * (2 * (x / 32 % 2) + x % 2) + x / 2 % 16

-- what box n, S1 being box 0, gives for six bits of the 48
abbrev pub box_of : List ℕ → ℕ → ℕ
box_of bits n = get_or s_table (place_of n (group_at 6 bits n)) 0

-- four bits from each of the eight boxes
unfoldable pub substituted : List ℕ → List ℕ
substituted bits = bits_of 4 (cells 8 (box_of bits))

unfoldable pub cipher_function : List ℕ → List ℕ → List ℕ
cipher_function right key = permuted p_table (substituted (xored (permuted e_table right) key))

-- ---- the key schedule
-- bit i of C and D, 28 bits each, shifted left by s: the bit s places on in its half, around the end
abbrev pub shifted_at : ℕ → List ℕ → ℕ → ℕ
shifted_at s cd i = get_or cd (28 * (i / 28) + (i % 28 + s) % 28) 0

unfoldable pub shifted : ℕ → List ℕ → List ℕ
shifted s cd = cells 56 (shifted_at s cd)

-- C and D after n rounds
unfoldable pub halves_of : List ℕ → ℕ → List ℕ
halves_of cd zero = cd
halves_of cd (suc n) = shifted (get_or shift_table n 0) (halves_of cd n)

-- the key of the round that follows n rounds
abbrev pub round_key : List ℕ → ℕ → List ℕ
round_key cd n = permuted pc2_table (halves_of cd (suc n))

-- ---- the rounds
-- L and R, 32 bits each in one list, become R and L + f(R, K)
unfoldable pub round_of : List ℕ → List ℕ → List ℕ
round_of lr key = drop 32 lr ++ xored (take 32 lr) (cipher_function (drop 32 lr) key)

-- L and R after n rounds
unfoldable pub rounds_of : List ℕ → List ℕ → ℕ → List ℕ
rounds_of cd lr zero = lr
rounds_of cd lr (suc n) = round_of (rounds_of cd lr n) (round_key cd n)

-- the preoutput is R and then L
unfoldable pub swapped : List ℕ → List ℕ
swapped lr = drop 32 lr ++ take 32 lr

unfoldable pub enciphered : List ℕ → List ℕ → List ℕ
enciphered key block =
    let cd = permuted pc1_table (bits_of 8 key) in
    let lr = permuted ip_table (bits_of 8 block) in
    cells 8 (group_at 8 (permuted fp_table (swapped (rounds_of cd lr 16))))
