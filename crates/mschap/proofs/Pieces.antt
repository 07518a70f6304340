-- Three pieces joined in a buffer, and what is made of them.
use Prim.Native.Nat.{ℕ, min, ◌+◌, ◌-◌, ◌*◌, ◌/◌, ◌%◌, ◌≤◌, ◌<◌}
use mathlib.Core.Path.{◌≡◌, refl, sym, ap, ◌∙◌}
use mathlib.Core.List.{List, [], ◌++◌, append-nil}
use native.Mathlib.Omega.{arith}
use lib.ListN.{length, get_or, take, drop, replicate, length-append, length-drop, drop_of_length-le}
use lib.Seq.{take_at, length-take-le, get_or-take, get_or-drop, ext_get_or}
use Rattle.octets.specs.Choice.{pick}
use Rattle.octets.specs.Lists.{cells, sized, over, put}
use Rattle.octets.proofs.Lists.{put_three, put_front, length_cells, get_or_cells, length_sized, get_or_sized, sized_take, get_or_zeros, over_zeros}
use Rattle.octets.proofs.Exits.{arms, below}
use Rattle.octets.proofs.Scans.{get_or_past}
use Rattle.digest.specs.Md4.{md4_of}
use Rattle.digest.specs.Sha1.{sha1_of}
use Rattle.digest.proofs.Digests.{length_sha1}
use Rattle.des.proofs.Halves.{length_enciphered}
use Rattle.std.specs.Int.{w16, to_le_bytes}
use Rattle.mschap.specs.Responses.{half_of, unit_octet, password_hash, challenge_hash, key_part, block_of}

module _ (a b c : List ℕ) where
  pub length_three : length (a ++ b ++ c) ≡ length a + length b + length c
  length_three = length-append (a ++ b) c ∙ omega (arith, length-append a b)

  pub joined : (d l1 l2 l3 : List ℕ) → l1 ≡ put d 0 a → l2 ≡ put l1 (length a) b → l3 ≡ put l2 (length a + length b) c → length a + length b + length c ≤ length d → l3 ≡ over (a ++ b ++ c) d
  joined d l1 l2 l3 p q r h =
      put_three d a b c l1 l2 l3 0 (length a) (length a + length b) p q r (omega arith) refl (omega arith)
      ∙ put_front d (a ++ b ++ c) (omega (arith, length_three))

  -- three blocks fill a buffer of 24 octets
  pub joined_blocks : (d l : List ℕ) → length d ≡ 24 → length a ≡ 8 → length b ≡ 8 → length c ≡ 8 → l ≡ over (a ++ b ++ c) d → l ≡ a ++ b ++ c
  joined_blocks d l e i j k f =
      let z : drop (length (a ++ b ++ c)) d ≡ [] = drop_of_length-le d {i = length (a ++ b ++ c)} (omega (arith, length_three)) in
      f ∙ rw z (append-nil (a ++ b ++ c))

  -- the joined pieces, cut from the buffer
  pub joined_front : (old buffer : List ℕ) → buffer ≡ over (a ++ b ++ c) old → take (length a + length b + length c - 0) buffer ≡ a ++ b ++ c
  joined_front old buffer e = ap (take (length a + length b + length c - 0)) e ∙ take_at (a ++ b ++ c) _ (length a + length b + length c - 0) (length_three ∙ omega arith)

-- ---- octets of units
pub octet_is : (units : List ℕ) (k unit : ℕ) → unit ≡ get_or units (k / 2) 0 → unit < 65536 → get_or (to_le_bytes w16 unit) (k % 2) 0 ≡ unit_octet units k
unfolding half_of pick
octet_is units k unit e h =
    below (k % 2) 1
    (λ l. let z : k % 2 ≡ 0 = omega arith in rw (z, ← e) refl)
    (λ g. let z : k % 2 ≡ 1 = omega arith in rw (z, ← e) (omega arith))

pub octet_none : (units : List ℕ) (k : ℕ) → length units ≤ k / 2 → 0 ≡ unit_octet units k
unfolding half_of
octet_none units k h = sym (ap (λ (unit : ℕ). half_of unit k) (sym (get_or_past units (k / 2) h)) ∙ arms (λ (n : ℕ). n ≡ 0) _ refl refl)

-- cells past the last that is not zero
cells_zeros : (m n : ℕ) (f : ℕ → ℕ) → m ≤ n → ((k : ℕ) → m ≤ k → k < n → f k ≡ 0) → over (cells m f) (replicate n 0) ≡ cells n f
cells_zeros m n f h z =
    over_zeros n (cells m f) (omega (arith, length_cells m f))
    ∙ ext_get_or 0 (sized n (cells m f)) (cells n f) (length_sized n (cells m f) ∙ sym (length_cells n f))
    (λ i l.
    let k : i < n = rw (length_sized n (cells m f)) at l in
    get_or_sized n (cells m f) i k ∙ below i m (λ j. get_or_cells m f i j) (λ j. sym (get_or_past (cells m f) i (omega (arith, length_cells m f))) ∙ sym (z i j k)) ∙ sym (get_or_cells n f i k))

-- the front of a buffer of zeros, filled with as many octets as the units have
pub units_octets : (units front : List ℕ) (n m : ℕ) → n ≡ min (length units) 256 → front ≡ cells m (unit_octet units) → m ≡ 2 * n → front ++ drop (2 * n) (replicate 512 0) ≡ cells 512 (unit_octet units)
units_octets units front n m e f g = rw (f, ← g) (filled ∙ zeros)
  where
    filled : cells m (unit_octet units) ++ drop m (replicate 512 0) ≡ over (cells m (unit_octet units)) (replicate 512 0)
    filled = rw (length_cells m (unit_octet units)) refl

    zeros : over (cells m (unit_octet units)) (replicate 512 0) ≡ cells 512 (unit_octet units)
    zeros =
        below 256 (length units)
        (λ h. cells_zeros m 512 (unit_octet units) (omega arith) (λ i l k. absurd (omega arith)))
        (λ h. cells_zeros m 512 (unit_octet units) (omega arith) (λ i l k. sym (octet_none units i (omega arith))))

pub take_cells : (m n : ℕ) (f : ℕ → ℕ) → m ≤ n → take m (cells n f) ≡ cells m f
take_cells m n f h =
    let long : length (take m (cells n f)) ≡ m = length-take-le m (cells n f) (omega (arith, length_cells n f)) in
    ext_get_or 0 (take m (cells n f)) (cells m f) (long ∙ sym (length_cells m f))
    (λ i l. let k : i < m = rw long at l in get_or-take m (cells n f) i 0 k ∙ get_or_cells n f i (omega arith) ∙ sym (get_or_cells m f i k))

pub password_is : (units buffer h : List ℕ) → length units ≤ 256 → buffer ≡ cells 512 (unit_octet units) → h ≡ md4_of (take (2 * length units - 0) buffer) → h ≡ password_hash units
unfolding password_hash
password_is units buffer h l e t =
    let k : 2 * length units - 0 ≡ 2 * length units = omega arith in
    t ∙ ap (λ (n : ℕ). md4_of (take n buffer)) k ∙ ap (λ (b : List ℕ). md4_of (take (2 * length units) b)) e ∙ ap md4_of (take_cells (2 * length units) 512 (unit_octet units) (omega arith))

-- ---- the first eight octets
pub challenge_is : (peer authenticator user d out : List ℕ) → d ≡ sha1_of (peer ++ authenticator ++ user) → out ≡ sized 8 d → out ≡ challenge_hash peer authenticator user
unfolding challenge_hash
challenge_is peer authenticator user d out e f =
    f ∙ ap (sized 8) e ∙ sized_take 8 (sha1_of (peer ++ authenticator ++ user)) (omega (arith, length_sha1 (peer ++ authenticator ++ user)))

-- ---- a key of the three
pub key_is : (hash out : List ℕ) (j : ℕ) → length hash ≡ 16 → j < 3 → out ≡ sized 7 (drop (7 * j) hash) → out ≡ key_part hash j
unfolding key_part
key_is hash out j e h f =
    let z = hash ++ replicate 5 0 in
    let n : length z ≡ 21 = length-append hash (replicate 5 0) ∙ omega arith in
    let l : length (take 7 (drop (7 * j) z)) ≡ 7 = length-take-le 7 (drop (7 * j) z) (omega (arith, length-drop (7 * j) z)) in
    f
    ∙ ext_get_or 0 (sized 7 (drop (7 * j) hash)) (take 7 (drop (7 * j) z)) (length_sized 7 (drop (7 * j) hash) ∙ sym l)
    (λ i k.
    let q : i < 7 = rw (length_sized 7 (drop (7 * j) hash)) at k in
    get_or_sized 7 (drop (7 * j) hash) i q
    ∙ get_or-drop (7 * j) hash i 0
    ∙ sym (get_or-take 7 (drop (7 * j) z) i 0 q ∙ get_or-drop (7 * j) z i 0 ∙ get_or_zeros hash 5 (7 * j + i)))

-- ---- three blocks
pub length_block : (hash challenge : List ℕ) (j : ℕ) → length (block_of hash challenge j) ≡ 8
unfolding block_of
length_block hash challenge j = length_enciphered _ challenge
