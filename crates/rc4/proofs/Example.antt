-- RFC 6229, the key 0102030405060708090a0b0c0d0e0f10: its first octets.
use mathlib.Core.Path.{◌≡◌, refl}
use mathlib.Core.List.{[], ◌∷◌}
use lib.ListN.{replicate}
use Rattle.octets.specs.Lists.{cells, turns}
use Rattle.rc4.specs.Rc4.{swapped, mixed, scheduled, after, output, stream_at, cipher_at, enciphered}

first : enciphered (1 ∷ 2 ∷ 3 ∷ 4 ∷ 5 ∷ 6 ∷ 7 ∷ 8 ∷ 9 ∷ 10 ∷ 11 ∷ 12 ∷ 13 ∷ 14 ∷ 15 ∷ 16 ∷ []) (replicate 16 0) ≡ 154 ∷ 199 ∷ 204 ∷ 154 ∷ 96 ∷ 157 ∷ 30 ∷ 247 ∷ 178 ∷ 147 ∷ 40 ∷ 153 ∷ 205 ∷ 228 ∷ 27 ∷ 151 ∷ []
unfolding cells turns swapped mixed scheduled after output stream_at cipher_at enciphered
first = refl
