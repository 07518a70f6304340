-- What holds of the cipher.
use Rattle.std.specs.Prelude.{ℕ, ◌<◌, ◌≡◌, List, length, get_or}
use Rattle.rc4.specs.Rc4.{enciphered}

-- under any key: enciphering twice gives the octets back, so deciphering is enciphering; it keeps the number of octets, and an octet that
-- differs there differs enciphered
pub record EncipheredTwice : Type 0 where
  pub twice : (key m : List ℕ) → enciphered key (enciphered key m) ≡ m
  pub sized : (key m : List ℕ) → length (enciphered key m) ≡ length m
  pub apart : (key l m : List ℕ) (k : ℕ) → k < length l → k < length m → get_or (enciphered key l) k 0 ≡ get_or (enciphered key m) k 0 → get_or l k 0 ≡ get_or m k 0
