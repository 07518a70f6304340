-- Enciphering twice gives the octets back; where two lists differ, they differ enciphered.
use Prim.Native.Nat.{ℕ, ◌<◌}
use mathlib.Core.Path.{◌≡◌, refl, sym, ap, ◌∙◌}
use mathlib.Core.List.{List}
use lib.Bits.{bit_xor}
use lib.ListN.{length, get_or}
use Rattle.octets.specs.Lists.{cells, sized}
use Rattle.octets.proofs.Bits.{xor_twice}
use Rattle.octets.proofs.Lists.{length_cells, get_or_cells, cells_same, sized_own}
use Rattle.rc4.specs.Rc4.{cipher_at, enciphered, stream_at, scheduled}
use Rattle.rc4.specs.Promises.{EncipheredTwice}

pub length_enciphered : (key m : List ℕ) → length (enciphered key m) ≡ length m
unfolding enciphered
length_enciphered key m = length_cells (length m) _

pub twice : (key m : List ℕ) → enciphered key (enciphered key m) ≡ m
unfolding enciphered cipher_at sized
twice key m =
    let n = length m in
    let f = cipher_at (scheduled key) m in
    let g = cipher_at (scheduled key) (cells n f) in
    ap (λ (k : ℕ). cells k g) (length_cells n f)
    ∙ cells_same n g (λ k. get_or m k 0)
    (λ k h. ap (λ (x : ℕ). bit_xor x (stream_at (scheduled key) k)) (get_or_cells n f k h) ∙ xor_twice (get_or m k 0) (stream_at (scheduled key) k))
    ∙ sized_own n m refl

-- octet by octet
pub get_or_enciphered : (key m : List ℕ) (k : ℕ) → k < length m → get_or (enciphered key m) k 0 ≡ cipher_at (scheduled key) m k
unfolding enciphered
get_or_enciphered key m k h = get_or_cells (length m) (cipher_at (scheduled key) m) k h

-- where two lists differ, they differ enciphered
pub apart : (key l m : List ℕ) (k : ℕ) → k < length l → k < length m → get_or (enciphered key l) k 0 ≡ get_or (enciphered key m) k 0 → get_or l k 0 ≡ get_or m k 0
unfolding cipher_at
apart key l m k h i e =
    let x = stream_at (scheduled key) k in
    sym (xor_twice (get_or l k 0) x)
    ∙ ap (λ (y : ℕ). bit_xor y x) (sym (get_or_enciphered key l k h) ∙ e ∙ get_or_enciphered key m k i)
    ∙ xor_twice (get_or m k 0) x

-- octets that are alike at a place are alike there enciphered
pub alike : (key l m : List ℕ) (k : ℕ) → k < length l → k < length m → get_or l k 0 ≡ get_or m k 0 → get_or (enciphered key l) k 0 ≡ get_or (enciphered key m) k 0
unfolding cipher_at
alike key l m k h i e =
    get_or_enciphered key l k h ∙ ap (λ (y : ℕ). bit_xor y (stream_at (scheduled key) k)) e ∙ sym (get_or_enciphered key m k i)

pub enciphered_twice : EncipheredTwice
enciphered_twice = record { twice = twice; sized = length_enciphered; apart = apart }
