-- The block, laid down part by part, and what it holds.
use Prim.Native.Nat.{ℕ, ◌+◌, ◌-◌, ◌*◌, ◌%◌, ◌≤◌, ◌<◌}
use mathlib.Core.Path.{◌≡◌, refl, sym, ap, ◌∙◌}
use mathlib.Core.Bool.{true}
use mathlib.Core.List.{List, [], ◌++◌, append-nil, append_assoc}
use native.Mathlib.Omega.{arith}
use lib.ListN.{length, get_or, take, drop, replicate, length-append, length-take, length-drop, drop_of_length-le}
use lib.Seq.{take_at, drop_at, get_or-append-add, get_or-drop}
use Rattle.std.proofs.Common.{Result, Ok}
use Rattle.std.specs.Int.{w32, to_le_bytes, from_le_bytes}
use borrow.Author.Tests.{le-ltb, eq-eqb}
use Rattle.octets.specs.Lists.{cells, sized, put, part}
use Rattle.octets.proofs.Exits.{pick_false}
use Rattle.octets.proofs.Lists.{length_cells, length_sized, get_or_sized, sized_take, take_sized_sized, put_fits, put_put}
use Rattle.mschap.proofs.Pieces.{take_cells}
use Rattle.digest.specs.Md4.{md4_of, md4_told, told_md4}
use Rattle.digest.proofs.Digests.{md4_ok}
use Rattle.answer.specs.declared.Refusal.{Refusal}
use Rattle.des.specs.Des as des
use Rattle.des.specs.Keys.{key_octets}
use Rattle.des.proofs.Halves as halves
use Rattle.mschap.specs.Responses.{unit_octet}
use Rattle.change.specs.Change.{password_octets, four_octets, plain_block, length_in, is_length, octets_in, hash_half, encrypted_hash}

pub length_password : (units : List ℕ) → length (password_octets units) ≡ 2 * length units
unfolding password_octets
length_password units = length_cells (2 * length units) (unit_octet units)

pub length_plain : (units random : List ℕ) → length units ≤ 256 → length (plain_block units random) ≡ 516
unfolding plain_block four_octets
length_plain units random h =
    let n = 2 * length units in
    length-append (sized (512 - n) random) (password_octets units ++ four_octets n)
    ∙ omega (arith, length_sized (512 - n) random, length-append (password_octets units) (four_octets n), length_password units)

-- ---- the three parts
four_is : (n : ℕ) → to_le_bytes w32 n ≡ four_octets n
unfolding four_octets
four_is n = refl

pub plain_is : (units random password l1 l2 l3 four : List ℕ) → length units ≤ 256 → password ≡ cells 512 (unit_octet units) → l1 ≡ sized 516 random → l2 ≡ put l1 (512 - 2 * length units) (take (2 * length units - 0) password) → four ≡ to_le_bytes w32 (2 * length units) → l3 ≡ put l2 512 four → l3 ≡ plain_block units random
unfolding plain_block four_octets password_octets
plain_is units random password l1 l2 l3 four h ep e1 e2 ef e3 =
    let n = 2 * length units in
    let i = 512 - n in
    let p = password_octets units in
    let d = sized 516 random in
    let f = four_octets n in
    let lp = length_password units in
    let ld = length_sized 516 random in
    let all : n - 0 ≡ n = omega arith in
    let cut : take (n - 0) password ≡ p = ap (λ (m : ℕ). take m password) all ∙ ap (take n) ep ∙ take_cells n 512 (unit_octet units) (omega arith) in
    let lpf : length (p ++ f) ≡ n + 4 = length-append p f ∙ omega arith in
    let z : drop (i + length (p ++ f)) d ≡ [] = drop_of_length-le d {i = i + length (p ++ f)} (omega arith) in
    e3
    ∙ (λ k. put (e2 k) 512 (ef k))
    ∙ (λ k. put (put (e1 k) i (cut k)) 512 (four_is n k))
    ∙ put_put d p f i 512 (omega arith) (omega arith)
    ∙ put_fits d (p ++ f) i (omega arith)
    ∙ ap (λ (l : List ℕ). take i d ++ (p ++ f) ++ l) z
    ∙ append-nil (take i d ++ (p ++ f))
    ∙ ap (λ (l : List ℕ). l ++ (p ++ f)) (take_sized_sized i 516 random (omega arith))

-- ---- what the block holds
module _ (units random : List ℕ) (h : length units ≤ 256) where
  plain_front : length (sized (512 - 2 * length units) random ++ password_octets units) ≡ 512
  plain_front =
      length-append (sized (512 - 2 * length units) random) (password_octets units)
      ∙ omega (arith, length_sized (512 - 2 * length units) random, length_password units)

  plain_two : plain_block units random ≡ (sized (512 - 2 * length units) random ++ password_octets units) ++ four_octets (2 * length units)
  unfolding plain_block
  plain_two = sym (append_assoc (sized (512 - 2 * length units) random) (password_octets units) (four_octets (2 * length units)))

  pub length_octet : (k : ℕ) → get_or (plain_block units random) (512 + k) 0 ≡ get_or (four_octets (2 * length units)) k 0
  length_octet k =
      let w = sized (512 - 2 * length units) random ++ password_octets units in
      ap (λ (l : List ℕ). get_or l (512 + k) 0) plain_two
      ∙ ap (λ (n : ℕ). get_or (w ++ four_octets (2 * length units)) (n + k) 0) (sym plain_front)
      ∙ get_or-append-add w (four_octets (2 * length units)) k 0

  pub plain_length : length_in (plain_block units random) ≡ 2 * length units
  unfolding length_in four_octets
  plain_length = omega (arith, length_octet 0, length_octet 1, length_octet 2, length_octet 3)

  pub plain_valid : is_length (2 * length units) ≡ true
  unfolding is_length
  plain_valid =
      let e : 2 * length units ≤ 512 = omega arith in
      let f : 2 * length units % 2 ≡ 0 = omega arith in
      pick_false _ _ _ (le-ltb _ _ e) ∙ eq-eqb _ _ f

  pub plain_octets : octets_in (plain_block units random) ≡ password_octets units
  unfolding octets_in
  plain_octets =
      let n = 2 * length units in
      let w = sized (512 - n) random in
      ap (λ (k : ℕ). drop (512 - k) (take 512 (plain_block units random))) plain_length
      ∙ ap (λ (l : List ℕ). drop (512 - n) (take 512 l)) plain_two
      ∙ ap (drop (512 - n)) (take_at (w ++ password_octets units) (four_octets n) 512 plain_front)
      ∙ drop_at w (password_octets units) (512 - n) (length_sized (512 - n) random)

-- ---- the length, and the hash of what a block holds
pub length_is : (b a : List ℕ) (n : ℕ) → a ≡ sized 4 (drop 512 b) → n ≡ from_le_bytes w32 a → n ≡ length_in b
unfolding length_in
length_is b a n ea en =
    let at : (k : ℕ) → k < 4 → get_or a k 0 ≡ get_or b (512 + k) 0 =
    λ k h. ap (λ (l : List ℕ). get_or l k 0) ea ∙ get_or_sized 4 (drop 512 b) k h ∙ get_or-drop 512 b k 0 in
    en ∙ omega (arith, at 0 (omega arith), at 1 (omega arith), at 2 (omega arith), at 3 (omega arith))

pub hash_is : (b f l : List ℕ) (n s : ℕ) (r : Result (List ℕ) Refusal) → n ≡ length_in b → s ≡ 512 - n → f ≡ take 512 (drop 0 b) → l ≡ drop s f → told_md4 r ≡ md4_told l → r ≡ Ok (md4_of (octets_in b))
unfolding octets_in
hash_is b f l n s r en es ef el er =
    let e : l ≡ drop (512 - length_in b) (take 512 b) = el ∙ (λ k. drop (es k) (ef k)) ∙ ap (λ (m : ℕ). drop (512 - m) (take 512 b)) en in
    md4_ok r l (drop (512 - length_in b) (take 512 b)) er e (omega (arith, length-drop (512 - length_in b) (take 512 b), length-take 512 b))

-- ---- the two halves
part_is : (s l : List ℕ) (i n : ℕ) → i + n ≤ length s → l ≡ sized n (drop i s) → l ≡ part s i n
part_is s l i n h e = e ∙ sized_take n (drop i s) (omega (arith, length-drop i s))

pub half_is : (old new k h key r : List ℕ) (j : ℕ) → length old ≡ 16 → length new ≡ 16 → j < 2 → k ≡ sized 7 (drop (7 * j) new) → h ≡ sized 8 (drop (8 * j) old) → key ≡ key_octets k → r ≡ des.enciphered key h → r ≡ hash_half old new j
unfolding hash_half
half_is old new k h key r j lo ln hj ek eh ekey er =
    let a : k ≡ part new (7 * j) 7 = part_is new k (7 * j) 7 (omega arith) ek in
    let b : h ≡ part old (8 * j) 8 = part_is old h (8 * j) 8 (omega arith) eh in
    er ∙ (λ i. des.enciphered (ekey i) (b i)) ∙ ap (λ (l : List ℕ). des.enciphered (key_octets l) (part old (8 * j) 8)) a

length_half : (old new : List ℕ) (j : ℕ) → length (hash_half old new j) ≡ 8
unfolding hash_half
length_half old new j = halves.length_enciphered _ _

pub encrypted_is : (old new a b l1 l2 : List ℕ) → a ≡ hash_half old new 0 → b ≡ hash_half old new 1 → l1 ≡ put (replicate 16 0) 0 a → l2 ≡ put l1 8 b → l2 ≡ encrypted_hash old new
unfolding encrypted_hash
encrypted_is old new a b l1 l2 ea eb e1 e2 =
    let d : List ℕ = replicate 16 0 in
    let ld : length d ≡ 16 = refl in
    let x = hash_half old new 0 in
    let y = hash_half old new 1 in
    let lx = length_half old new 0 in
    let ly = length_half old new 1 in
    let lxy : length (x ++ y) ≡ 16 = length-append x y ∙ omega arith in
    let z : drop (0 + length (x ++ y)) d ≡ [] = drop_of_length-le d {i = 0 + length (x ++ y)} (omega arith) in
    e2
    ∙ (λ k. put (e1 k) 8 (eb k))
    ∙ ap (λ (l : List ℕ). put (put d 0 l) 8 y) ea
    ∙ put_put d x y 0 8 (omega arith) (omega arith)
    ∙ put_fits d (x ++ y) 0 (omega arith)
    ∙ ap (λ (l : List ℕ). (x ++ y) ++ l) z
    ∙ append-nil (x ++ y)

pub length_encrypted : (old new : List ℕ) → length (encrypted_hash old new) ≡ 16
unfolding encrypted_hash
length_encrypted old new =
    length-append (hash_half old new 0) (hash_half old new 1) ∙ omega (arith, length_half old new 0, length_half old new 1)
