-- The block made of a password holds that password, and so does one that differs before the password alone.
use Prim.Native.Nat.{ℕ, ◌+◌, ◌-◌, ◌*◌, ◌≤◌, ◌<◌}
use mathlib.Core.Path.{◌≡◌, sym, ap, ◌∙◌}
use mathlib.Core.Bool.{true, false}
use mathlib.Core.List.{List}
use native.Mathlib.Omega.{arith}
use lib.ListN.{length, get_or, take, drop, length-drop}
use lib.Seq.{length-take-le, get_or-take, get_or-drop, ext_get_or}
use borrow.Author.Tests.{lt-ltb}
use Rattle.octets.specs.Lists.{sized}
use Rattle.octets.proofs.Exits.{below, pick_true}
use Rattle.octets.proofs.Lists.{sized_own, length_sized, get_or_sized}
use Rattle.digest.specs.Md4.{md4_of}
use Rattle.mschap.specs.Responses.{password_hash}
use Rattle.rc4.specs.Rc4 as rc4
use Rattle.rc4.proofs.Twice.{length_enciphered, twice, apart, alike}
use Rattle.change.specs.Change.{password_octets, plain_block, password_block, length_in, is_length, octets_in, password_in, deciphered_block, new_password}
use Rattle.change.proofs.Hashes.{hash_of_octets}
use Rattle.change.proofs.Blocks.{length_plain, plain_length, plain_valid, plain_octets}

module _ (old units random : List ℕ) (h : length units ≤ 256) where
  pub length_block : length (password_block old units random) ≡ 516
  unfolding password_block
  length_block = length_enciphered old (plain_block units random) ∙ length_plain units random h

  unlocked : rc4.enciphered old (password_block old units random) ≡ plain_block units random
  unfolding password_block
  unlocked = twice old (plain_block units random)

  deciphered : deciphered_block old (password_block old units random) ≡ plain_block units random
  unfolding deciphered_block
  deciphered = ap (rc4.enciphered old) (sized_own 516 (password_block old units random) length_block) ∙ unlocked

  pub same_octets : octets_in (deciphered_block old (password_block old units random)) ≡ password_octets units
  same_octets = ap octets_in deciphered ∙ plain_octets units random h

  -- a block with that length and those octets, deciphered
  holds : (b : List ℕ) → length_in b ≡ 2 * length units → octets_in b ≡ password_octets units → password_in b ≡ record { valid = true; hash = password_hash units }
  unfolding password_in
  holds b l o =
      let v : is_length (length_in b) ≡ true = ap is_length l ∙ plain_valid units random h in
      let w : md4_of (octets_in b) ≡ password_hash units = ap md4_of o ∙ sym (hash_of_octets units) in
      (λ i. record { valid = v i; hash = w i })

  pub same_hash : new_password old (password_block old units random) ≡ record { valid = true; hash = password_hash units }
  unfolding new_password
  same_hash = holds _ (ap length_in deciphered ∙ plain_length units random h) same_octets

  -- ---- a block that is like it in some octets
  module _ (block : List ℕ) where
    like : (k : ℕ) → k < 516 → get_or block k 0 ≡ get_or (password_block old units random) k 0 → get_or (deciphered_block old block) k 0 ≡ get_or (plain_block units random) k 0
    unfolding deciphered_block
    like k i e =
        alike old (sized 516 block) (password_block old units random) k (omega (arith, length_sized 516 block)) (omega (arith, length_block)) (get_or_sized 516 block k i ∙ e)
        ∙ ap (λ (l : List ℕ). get_or l k 0) unlocked

    -- in the length's
    like_length : ((k : ℕ) → 512 ≤ k → k < 516 → get_or block k 0 ≡ get_or (password_block old units random) k 0) → length_in (deciphered_block old block) ≡ 2 * length units
    unfolding length_in
    like_length f =
        let g : (k : ℕ) → 512 ≤ k → k < 516 → get_or (deciphered_block old block) k 0 ≡ get_or (plain_block units random) k 0 = λ k l i. like k i (f k l i) in
        omega (arith, g 512 (omega arith) (omega arith), g 513 (omega arith) (omega arith), g 514 (omega arith) (omega arith), g 515 (omega arith) (omega arith), plain_length units random h)

    pub length_kept : ((k : ℕ) → 512 ≤ k → k < 516 → get_or block k 0 ≡ get_or (password_block old units random) k 0) → (new_password old block).valid ≡ true
    unfolding new_password password_in
    length_kept f = ap is_length (like_length f) ∙ plain_valid units random h

    -- and in the password's too
    module _ (f : (k : ℕ) → 512 - 2 * length units ≤ k → k < 516 → get_or block k 0 ≡ get_or (password_block old units random) k 0) where
      tail_length : length_in (deciphered_block old block) ≡ 2 * length units
      tail_length = like_length (λ k l i. f k (omega arith) i)

      long : length (deciphered_block old block) ≡ 516
      unfolding deciphered_block
      long = length_enciphered old (sized 516 block) ∙ length_sized 516 block

      tail_octets_lem : octets_in (deciphered_block old block) ≡ password_octets units
      unfolding octets_in
      tail_octets_lem =
          let n = 512 - 2 * length units in
          let d = deciphered_block old block in
          let p = plain_block units random in
          let ld : length (take 512 d) ≡ 512 = length-take-le 512 d (omega (arith, long)) in
          let lp : length (take 512 p) ≡ 512 = length-take-le 512 p (omega (arith, length_plain units random h)) in
          ap (λ (m : ℕ). drop (512 - m) (take 512 d)) tail_length
          ∙ ext_get_or 0 (drop n (take 512 d)) (drop n (take 512 p)) (length-drop n (take 512 d) ∙ ap (λ (m : ℕ). m - n) (ld ∙ sym lp) ∙ sym (length-drop n (take 512 p)))
          (λ i l.
          let k : n + i < 512 = omega (arith, length-drop n (take 512 d)) in
          get_or-drop n (take 512 d) i 0 ∙ get_or-take 512 d (n + i) 0 k ∙ like (n + i) (omega arith) (f (n + i) (omega arith) (omega arith))
          ∙ sym (get_or-drop n (take 512 p) i 0 ∙ get_or-take 512 p (n + i) 0 k))
          ∙ sym (ap (λ (m : ℕ). drop (512 - m) (take 512 p)) (plain_length units random h))
          ∙ plain_octets units random h

      pub same_new : new_password old block ≡ new_password old (password_block old units random)
      unfolding new_password
      same_new = holds _ tail_length tail_octets_lem ∙ sym same_hash

-- ---- lengths that are none
pub too_long : (n : ℕ) → 512 < n → is_length n ≡ false
unfolding is_length
too_long n h = pick_true _ _ _ (lt-ltb _ _ h)

-- where the length is not too long, its high octets are zero
high_zero : (b : List ℕ) (k : ℕ) → 513 < k → k < 516 → length_in b ≤ 512 → get_or b k 0 ≡ 0
unfolding length_in
high_zero b k h i e =
    below k 515
    (λ l. let z : k ≡ 514 = omega arith in rw z (omega arith))
    (λ g. let z : k ≡ 515 = omega arith in rw z (omega arith))

module _ (old units random block : List ℕ) (k : ℕ) (h : length units ≤ 256) (g : 513 < k) (i : k < 516) where
  plain_high : get_or (plain_block units random) k 0 ≡ 0
  plain_high = high_zero (plain_block units random) k g i (omega (arith, plain_length units random h))

  pub high_invalid : (get_or block k 0 ≡ get_or (password_block old units random) k 0 → ⊥) → (new_password old block).valid ≡ false
  unfolding new_password password_in deciphered_block
  high_invalid unlike =
      let s = sized 516 block in
      let d = rc4.enciphered old s in
      let p = password_block old units random in
      let ls : length s ≡ 516 = length_sized 516 block in
      let lp : length p ≡ 516 = length_block old units random h in
      below 512 (length_in d)
      (λ l. too_long (length_in d) l)
      (λ l.
      let z : get_or d k 0 ≡ 0 = high_zero d k g i l in
      let w : get_or (rc4.enciphered old p) k 0 ≡ 0 = ap (λ (m : List ℕ). get_or m k 0) (unlocked old units random h) ∙ plain_high in
      absurd (unlike (sym (get_or_sized 516 block k i) ∙ apart old s p k (omega arith) (omega arith) (z ∙ sym w))))
