-- RC4 with a key of sixteen octets.
use Rattle.std.specs.Prelude.{ℕ, ◌+◌, ◌%◌, List, length, get_or, set}
use Rattle.std.specs.Int.Bits.{bit_xor}
use Rattle.octets.specs.Lists.{cells, turns}
use Rattle.rc4.specs.declared.Mixed.{Mixed}

-- S[i] and S[j] change places
unfoldable pub swapped : List ℕ → ℕ → ℕ → List ℕ
swapped s i j = set (set s i (get_or s j 0)) j (get_or s i 0)

-- j = j + S[i] + x; then S[i] and S[j] change places
unfoldable pub mixed : ℕ → ℕ → Mixed → Mixed
mixed i x m =
    let j = (m.j + get_or m.s i 0 + x) % 256 in
    record { s = swapped m.s i j; j = j }

-- ---- the key schedule: from S[i] = i and j = 0 on, i from 0 to 255, with the key's octets over and over
unfoldable pub scheduled : List ℕ → List ℕ
scheduled key = (turns mixed (λ i. get_or key (i % 16) 0) (record { s = cells 256 (λ k. k); j = 0 }) 256).s

-- ---- the octets: i = i + 1, so that i is k + 1 for octet k; j = j + S[i]; S[i] and S[j] change places; then S[S[i] + S[j]]
-- S and j after n octets, from s and j = 0 on
unfoldable pub after : List ℕ → ℕ → Mixed
after s n = turns (λ k. mixed ((k + 1) % 256)) (λ k. 0) (record { s = s; j = 0 }) n

unfoldable pub output : ℕ → Mixed → ℕ
output i m = get_or m.s ((get_or m.s i 0 + get_or m.s m.j 0) % 256) 0

unfoldable pub stream_at : List ℕ → ℕ → ℕ
stream_at s k = output ((k + 1) % 256) (after s (k + 1))

-- octet k of m, enciphered
unfoldable pub cipher_at : List ℕ → List ℕ → ℕ → ℕ
cipher_at s m k = bit_xor (get_or m k 0) (stream_at s k)

unfoldable pub enciphered : List ℕ → List ℕ → List ℕ
enciphered key m = cells (length m) (cipher_at (scheduled key) m)
