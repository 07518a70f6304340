-- A record's name compared with the user's, eight octets at a time from its end.
use Prim.Native.Nat.{ℕ, zero, suc, ◌+◌, ◌-◌, ◌<◌, ◌≤◌}
use mathlib.Core.Path.{◌≡◌, refl, sym, ap, ◌∙◌}
use mathlib.Core.List.{List, [], ◌∷◌, ◌++◌, append_assoc}
use mathlib.Core.Bool.{Bool, true, false}
use mathlib.Core.Logic.{◌⊎◌, inl, inr}
use native.Mathlib.Omega.{arith}
use lib.ListN.{length, get_or, take, drop, replicate, length-append, length-take, length-drop, length-replicate, get_or-replicate, drop_of_length-le, get_or-append}
use lib.Seq.{take_all, take-nil, length-take-le, take-take, take_at, drop_at, drop-drop, drop-cons, get_or-drop, get_or-append-add}
use lib.Dec.{ltb, eqb}
use lib.Bits.{bit_and, bit_or, bit_xor, or_zero_l, or_add_and, and_le_r, and_zero_r, and_mask, xor_self, xor_lt, xor_add_and, and_le_l}
use borrow.Author.Tests.{eq-eqb, ne_eqb, eqb-true, eqb-false, ltb-true, ltb-false}
use Rattle.octets.specs.Choice.{pick}
use Rattle.octets.specs.Lists.{part, put}
use Rattle.octets.specs.Octets.{same}
use Rattle.octets.proofs.Exits.{exits, pick_true, pick_false, tested}
use Rattle.octets.proofs.Lists.{put_fits, put_front}
use Rattle.octets.proofs.Scans.{same_other}
use Rattle.accounts.specs.Inner.{sought, name_mask}

-- ---- bits
-- no bit of two numbers is set only where both are 0
or_none : (d x : ℕ) (r : Bool) → pick (eqb (bit_or d x) 0) r false ≡ pick (eqb d 0) (pick (eqb x 0) r false) false
or_none d x r = tested (eqb d 0) zero_so other
  where
    zero_so : eqb d 0 ≡ true → pick (eqb (bit_or d x) 0) r false ≡ pick (eqb d 0) (pick (eqb x 0) r false) false
    zero_so z =
        let e : bit_or d x ≡ x = ap (λ (n : ℕ). bit_or n x) (eqb-true d 0 z) ∙ or_zero_l x in
        ap (λ (n : ℕ). pick (eqb n 0) r false) e ∙ sym (pick_true _ _ _ z)

    other : eqb d 0 ≡ false → pick (eqb (bit_or d x) 0) r false ≡ pick (eqb d 0) (pick (eqb x 0) r false) false
    other z =
        let n : d ≡ 0 → ⊥ = eqb-false d 0 z in
        let m : bit_or d x ≡ 0 → ⊥ = λ e. n (omega (arith, or_add_and d x, and_le_r d x)) in
        pick_false _ _ _ (ne_eqb _ 0 m) ∙ sym (pick_false _ _ _ z)

-- and no bit of two numbers differs only where they are equal
xor_none : (x y : ℕ) → eqb (bit_xor x y) 0 ≡ eqb x y
xor_none x y = tested (eqb x y) alike unlike
  where
    alike : eqb x y ≡ true → eqb (bit_xor x y) 0 ≡ eqb x y
    alike e = eq-eqb _ 0 (ap (bit_xor x) (sym (eqb-true x y e)) ∙ xor_self x) ∙ sym e

    unlike : eqb x y ≡ false → eqb (bit_xor x y) 0 ≡ eqb x y
    unlike e =
        let n : x ≡ y → ⊥ = eqb-false x y e in
        let m : bit_xor x y ≡ 0 → ⊥ = λ z. n (omega (arith, xor_add_and x y, and_le_l x y, and_le_r x y)) in
        ne_eqb _ 0 m ∙ sym e

-- two octets under a mask of no bit, or of every bit
pub masked_none : (x y bits : ℕ) → x < 256 → y < 256 → (bits ≡ 0) ⊎ (bits ≡ 255) → eqb (bit_and (bit_xor x y) bits) 0 ≡ pick (eqb bits 0) true (eqb x y)
masked_none x y bits h k (inl e) = rw e (eq-eqb _ 0 (and_zero_r (bit_xor x y)) ∙ sym (pick_true _ _ _ refl))
masked_none x y bits h k (inr e) = rw e (ap (λ (n : ℕ). eqb n 0) whole ∙ xor_none x y ∙ sym (pick_false _ _ _ refl))
  where
    whole : bit_and (bit_xor x y) 255 ≡ bit_xor x y
    whole = and_mask (bit_xor x y) 8 ∙ omega (arith, xor_lt 8 x y h k)

-- ---- the last k of eight octets
abbrev ones : List ℕ
ones = replicate 264 255

abbrev none : List ℕ
none = replicate 8 0

mask_parts : (mask : List ℕ) → mask ≡ name_mask → mask ≡ none ++ drop 8 ones
unfolding name_mask
mask_parts mask e = e ∙ put_front ones none (omega (arith, length-replicate {A = ℕ} 264 255, length-replicate {A = ℕ} 8 0)) ∙ ap (λ (n : ℕ). none ++ drop n ones) (length-replicate {A = ℕ} 8 0)

length_mask : (mask : List ℕ) → mask ≡ name_mask → length mask ≡ 264
length_mask mask e =
    ap length (mask_parts mask e) ∙ length-append none (drop 8 ones) ∙ omega (arith, length-replicate {A = ℕ} 264 255, length-replicate {A = ℕ} 8 0, length-drop 8 ones)

-- how many octets are passed over, or behind, after i of them
abbrev past : ℕ → ℕ → ℕ
past k i = 8 - k + (i - (8 - k))

-- d is 0 exactly where those of them that are behind are the same
pub record Masked (a b mask : List ℕ) (k d i : ℕ) : Type 0 where
  pub one : length a ≡ 8
  pub two : length b ≡ 8
  pub three : mask ≡ name_mask
  pub wide : length mask ≡ 264
  pub few : k ≤ 256
  pub most : i ≤ 8
  pub is : same (drop (8 - k) a) (drop (8 - k) b) ≡ pick (eqb d 0) (same (drop (past k i) a) (drop (past k i) b)) false

mask_at : (mask : List ℕ) (p : ℕ) → mask ≡ name_mask → p < 264 → get_or mask p 0 ≡ pick (ltb p 8) 0 255
mask_at mask p e h = ap (λ (l : List ℕ). get_or l p 0) (mask_parts mask e) ∙ tested (ltb p 8) before within
  where
    eight : length none ≡ 8
    eight = length-replicate {A = ℕ} 8 0

    before : ltb p 8 ≡ true → get_or (none ++ drop 8 ones) p 0 ≡ pick (ltb p 8) 0 255
    before t =
        let l : p < 8 = ltb-true _ _ t in
        let k : p < length none = omega (arith, eight) in
        get_or-append none (drop 8 ones) 0 p k ∙ get_or-replicate 8 p 0 0 l ∙ sym (pick_true _ _ _ t)

    within : ltb p 8 ≡ false → get_or (none ++ drop 8 ones) p 0 ≡ pick (ltb p 8) 0 255
    within t =
        let l : 8 ≤ p = ltb-false _ _ t in
        let q : p ≡ length none + (p - 8) = omega (arith, eight) in
        let k : 8 + (p - 8) < 264 = omega arith in
        ap (λ (n : ℕ). get_or (none ++ drop 8 ones) n 0) q ∙ get_or-append-add none (drop 8 ones) (p - 8) 0 ∙ get_or-drop 8 ones (p - 8) 0 ∙ get_or-replicate 264 (8 + (p - 8)) 255 0 k ∙ sym (pick_false _ _ _ t)

pub mask_bits : (mask : List ℕ) (k i : ℕ) → mask ≡ name_mask → k ≤ 256 → i < 8 → (get_or mask (k + i) 0 ≡ 0) ⊎ (get_or mask (k + i) 0 ≡ 255)
mask_bits mask k i e h l =
    let m : get_or mask (k + i) 0 ≡ pick (ltb (k + i) 8) 0 255 = mask_at mask (k + i) e (omega arith) in
    tested (ltb (k + i) 8) (λ t. inl (m ∙ pick_true _ _ _ t)) (λ t. inr (m ∙ pick_false _ _ _ t))

pub mask_first : (a b mask : List ℕ) (k : ℕ) → length a ≡ 8 → length b ≡ 8 → mask ≡ name_mask → k ≤ 256 → Masked a b mask k 0 0
unfolding pick
mask_first a b mask k e f g h =
    let z : past k 0 ≡ 8 - k = omega arith in
    record { one = e; two = f; three = g; wide = length_mask mask g; few = h; most = omega arith; is = rw z refl }

abbrev rest : List ℕ → List ℕ → ℕ → Bool
rest a b j = same (drop j a) (drop j b)

pub mask_more : (a b mask : List ℕ) (k d i bits : ℕ) → Masked a b mask k d i → i < 8
    → eqb bits 0 ≡ pick (eqb (get_or mask (k + i) 0) 0) true (eqb (get_or a i 0) (get_or b i 0)) → Masked a b mask k (bit_or d bits) (i + 1)
unfolding same
mask_more a b mask k d i bits p h e =
    record { one = p.one; two = p.two; three = p.three; wide = p.wide; few = p.few; most = omega arith; is = p.is ∙ tested (ltb (k + i) 8) before within }
  where
    m : get_or mask (k + i) 0 ≡ pick (ltb (k + i) 8) 0 255
    m = mask_at mask (k + i) p.three (omega (arith, p.few))

    before : ltb (k + i) 8 ≡ true → pick (eqb d 0) (rest a b (past k i)) false ≡ pick (eqb (bit_or d bits) 0) (rest a b (past k (i + 1))) false
    before t =
        let l : k + i < 8 = ltb-true _ _ t in
        let n : past k (i + 1) ≡ past k i = omega arith in
        let z : eqb bits 0 ≡ true = e ∙ pick_true _ _ _ (eq-eqb _ 0 (m ∙ pick_true _ _ _ t)) in
        sym (ap (λ (j : ℕ). pick (eqb (bit_or d bits) 0) (rest a b j) false) n ∙ or_none d bits (rest a b (past k i)) ∙ ap (λ (r : Bool). pick (eqb d 0) r false) (pick_true _ _ _ z))

    within : ltb (k + i) 8 ≡ false → pick (eqb d 0) (rest a b (past k i)) false ≡ pick (eqb (bit_or d bits) 0) (rest a b (past k (i + 1))) false
    within t =
        let l : 8 ≤ k + i = ltb-false _ _ t in
        let n : past k i ≡ i = omega arith in
        let n' : past k (i + 1) ≡ suc i = omega arith in
        let la : i < length a = omega (arith, p.one) in
        let lb : i < length b = omega (arith, p.two) in
        let z : eqb bits 0 ≡ eqb (get_or a i 0) (get_or b i 0) = e ∙ pick_false _ _ _ (ap (λ (x : ℕ). eqb x 0) (m ∙ pick_false _ _ _ t)) in
        let o : rest a b (past k i) ≡ pick (eqb bits 0) (rest a b (suc i)) false = rw (n, z, drop-cons a i 0 la, drop-cons b i 0 lb) refl in
        ap (λ (r : Bool). pick (eqb d 0) r false) o ∙ sym (ap (λ (j : ℕ). pick (eqb (bit_or d bits) 0) (rest a b j) false) n' ∙ or_none d bits (rest a b (suc i)))

whole : (t : Bool) → pick t true false ≡ t
unfolding pick
whole true = refl
whole false = refl

never : (t : Bool) → pick t false false ≡ false
unfolding pick
never true = refl
never false = refl

pub mask_done : (a b mask : List ℕ) (k d i : ℕ) → Masked a b mask k d i → 8 ≤ i → eqb d 0 ≡ same (drop (8 - k) a) (drop (8 - k) b)
unfolding same
mask_done a b mask k d i p h =
    let n : 8 ≤ past k i = omega (arith, p.few) in
    let la : length a ≤ past k i = omega (arith, p.one) in
    let lb : length b ≤ past k i = omega (arith, p.two) in
    let ea : drop (past k i) a ≡ [] = drop_of_length-le a la in
    let eb : drop (past k i) b ≡ [] = drop_of_length-le b lb in
    sym (p.is ∙ rw (ea, eb) (whole (eqb d 0)))

-- 0 or 1 in place of d
pub flag_none : (d : ℕ) (b : Bool) → eqb d 0 ≡ b → d ≡ 0 → true ≡ b
flag_none d b e z = sym (eq-eqb d 0 z) ∙ e

pub flag_one : (d : ℕ) (b : Bool) → eqb d 0 ≡ b → (d ≡ 0 → ⊥) → false ≡ b
flag_one d b e z = sym (ne_eqb d 0 z) ∙ e

-- ---- lists that are compared in two parts
swapped : (t u r : Bool) → pick t (pick u r false) false ≡ pick u (pick t r false) false
unfolding pick
swapped true true r = refl
swapped true false r = refl
swapped false true r = refl
swapped false false r = refl

same_parts : (n : ℕ) (a b : List ℕ) → length a ≡ length b → same a b ≡ pick (same (drop n a) (drop n b)) (same (take n a) (take n b)) false
unfolding same
same_parts zero a b e = sym (whole (same a b))
same_parts (suc n) [] [] e = sym (pick_true _ _ _ refl)
same_parts (suc n) [] (y ∷ ys) e = absurd (omega arith)
same_parts (suc n) (x ∷ xs) [] e = absurd (omega arith)
same_parts (suc n) (x ∷ xs) (y ∷ ys) e =
    ap (λ (r : Bool). pick (eqb x y) r false) (same_parts n xs ys (omega arith)) ∙ swapped (eqb x y) (same (drop n xs) (drop n ys)) (same (take n xs) (take n ys))

-- what is left of a part after m of its octets
part_past : (m n : ℕ) (l : List ℕ) → drop m (take n l) ≡ take (n - m) (drop m l)
part_past zero n l = let e : n - 0 ≡ n = omega arith in rw e refl
part_past (suc m) n [] = ap (drop (suc m)) (take-nil n) ∙ sym (take-nil (n - suc m))
part_past (suc m) zero (x ∷ xs) = let e : 0 - suc m ≡ 0 = omega arith in rw e refl
part_past (suc m) (suc n) (x ∷ xs) = let e : suc n - suc m ≡ n - m = omega arith in rw e (part_past m n xs)

-- ---- a name, and what stands at its place
abbrev zeros : List ℕ
zeros = replicate 264 0

pub length_sought : (user own : List ℕ) → own ≡ sought user → length own ≡ 264
unfolding sought
length_sought user own e =
    let l : length zeros ≡ 264 = length-replicate {A = ℕ} 264 0 in
    let f : 8 + length (take 256 user) ≤ length zeros = omega (arith, length-take 256 user) in
    ap length (e ∙ put_fits zeros (take 256 user) 8 f)
    ∙ length-append (take 8 zeros ++ take 256 user) (drop (8 + length (take 256 user)) zeros)
    ∙ omega (arith, length-append (take 8 zeros) (take 256 user), length-take 8 zeros, length-drop (8 + length (take 256 user)) zeros)

module _ (item own : List ℕ) where
  abbrev name : List ℕ
  name = drop 22 item

  abbrev there : List ℕ
  there = part own 8 (length item - 22)

  -- the octets up to `end` are to come; d is 0 exactly where those after it are the same
  pub record Ended (d end : ℕ) : Type 0 where
    pub least : 22 ≤ length item
    pub room : length item ≤ 278
    pub most : end + 22 ≤ length item
    pub is : same name there ≡ pick (eqb d 0) (same (take end name) (take end there)) false

  pub ended_first : (n : ℕ) → 22 ≤ length item → length item ≤ 278 → n ≡ length item - 22 → Ended 0 n
  ended_first n h k e =
      let a : length name ≤ n = omega (arith, length-drop 22 item) in
      let b : length there ≤ n = omega (arith, length-take (length item - 22) (drop 8 own)) in
      record {
        least = h;
        room = k;
        most = omega arith;
        is = sym (λ j. same (take_all n name a j) (take_all n there b j)) ∙ sym (pick_true (eqb 0 0) _ _ refl);
      }

  module _ (d end : ℕ) (p : Ended d end) where
    front : (m : ℕ) → m ≤ end → take m there ≡ take m (drop 8 own)
    front m h = take-take m (length item - 22) (drop 8 own) (omega (arith, p.most))

    long_name : length own ≡ 264 → length (take end name) ≡ length (take end there)
    long_name l =
        let a : end ≤ length name = omega (arith, length-drop 22 item, p.most) in
        let b : end ≤ length there = omega (arith, length-take (length item - 22) (drop 8 own), length-drop 8 own, p.most, p.room) in
        length-take-le end name a ∙ sym (length-take-le end there b)

    pub ended_more : (user : List ℕ) (r : ℕ) → own ≡ sought user → eqb r 0 ≡ same (drop (end - 8) (take end (drop 22 item))) (drop (end - 8) (take end (drop 8 own))) → Ended (bit_or d r) (end - 8)
    ended_more user r o e =
        let l : end - 8 ≤ end = omega arith in
        let k : end ≤ end = omega arith in
        let tails : same (drop (end - 8) (take end name)) (drop (end - 8) (take end there)) ≡ eqb r 0 = ap (λ (q : List ℕ). same (drop (end - 8) (take end name)) (drop (end - 8) q)) (front end k) ∙ sym e in
        let heads : same (take (end - 8) (take end name)) (take (end - 8) (take end there)) ≡ same (take (end - 8) name) (take (end - 8) there)
        = (λ j. same (take-take (end - 8) end name l j) (take-take (end - 8) end there l j)) in
        record {
          least = p.least;
          room = p.room;
          most = omega (arith, p.most);
          is = p.is ∙ ap (λ (b : Bool). pick (eqb d 0) b false) (same_parts (end - 8) (take end name) (take end there) (long_name (length_sought user own o)) ∙ (λ j. pick (tails j) (heads j) false)) ∙ sym (or_none d r _);
        }

    pub ended_done : end ≤ 0 → eqb d 0 ≡ same name there
    unfolding same
    ended_done h = let z : end ≡ 0 = omega arith in sym (p.is ∙ rw z (whole (eqb d 0)))

    pub ended_few : end ≤ 256
    ended_few = omega (arith, p.most, p.room)

-- what stands at the place of a name as long as the user's
there_user : (user : List ℕ) (n : ℕ) → n ≡ length user → n ≤ 256 → part (sought user) 8 n ≡ user
unfolding sought
there_user user n e h =
    let t : take 256 user ≡ user = take_all 256 user (omega arith) in
    let l : length zeros ≡ 264 = length-replicate {A = ℕ} 264 0 in
    let f : 8 + length user ≤ length zeros = omega arith in
    let z : length (take 8 zeros) ≡ 8 = length-take-le 8 zeros (omega arith) in
    ap (λ (q : List ℕ). part (put zeros 8 q) 8 n) t
    ∙ ap (λ (q : List ℕ). part q 8 n) (put_fits zeros user 8 f)
    ∙ ap (take n) (ap (drop 8) (append_assoc (take 8 zeros) user (drop (8 + length user) zeros)) ∙ drop_at (take 8 zeros) _ 8 z)
    ∙ take_at user _ n (sym e)

pub name_same : (user own item : List ℕ) (d : ℕ) → 22 ≤ length item → length item ≤ 278 → own ≡ sought user
    → eqb d 0 ≡ same (drop 22 item) (part own 8 (length item - 22)) → eqb (bit_or d (bit_xor (length item - 22) (length user))) 0 ≡ same (drop 22 item) user
name_same user own item d h k o f = sym (whole _) ∙ or_none d (bit_xor n (length user)) true ∙ tested (eqb n (length user)) alike unlike
  where
    n : ℕ
    n = length item - 22

    alike : eqb n (length user) ≡ true → pick (eqb d 0) (pick (eqb (bit_xor n (length user)) 0) true false) false ≡ same (drop 22 item) user
    alike t =
        let x : pick (eqb (bit_xor n (length user)) 0) true false ≡ true = pick_true _ _ _ (xor_none n (length user) ∙ t) in
        let u : part own 8 (length item - 22) ≡ user = ap (λ (l : List ℕ). part l 8 n) o ∙ there_user user n (eqb-true _ _ t) (omega arith) in
        ap (λ (b : Bool). pick (eqb d 0) b false) x ∙ whole (eqb d 0) ∙ f ∙ ap (same (drop 22 item)) u

    unlike : eqb n (length user) ≡ false → pick (eqb d 0) (pick (eqb (bit_xor n (length user)) 0) true false) false ≡ same (drop 22 item) user
    unlike t =
        let x : pick (eqb (bit_xor n (length user)) 0) true false ≡ false = pick_false _ _ _ (xor_none n (length user) ∙ t) in
        let m : n ≡ length user → ⊥ = eqb-false _ _ t in
        let l : length (drop 22 item) ≡ length user → ⊥ = λ q. m (omega (arith, length-drop 22 item)) in
        ap (λ (b : Bool). pick (eqb d 0) b false) x ∙ never (eqb d 0) ∙ same_other (drop 22 item) user l

-- the eight octets that are lent, and those of them that are the name's
pub end_apart : (item own : List ℕ) (end from to last : ℕ) (r : ℕ) → from ≡ end + 14 → to ≡ end + 22 → last ≡ end + 8
    → eqb r 0 ≡ same (drop (8 - end) (take (to - from) (drop from item))) (drop (8 - end) (take (last - end) (drop end own)))
    → eqb r 0 ≡ same (drop (end - 8) (take end (drop 22 item))) (drop (end - 8) (take end (drop 8 own)))
end_apart item own end from to last r f t l e =
    e ∙ (λ j. same (lent item from (to - from) 22 (omega arith) (omega arith) j) (lent own end (last - end) 8 (omega arith) (omega arith) j))
  where
    lent : (s : List ℕ) (i n at : ℕ) → n ≡ 8 → i + (8 - end) ≡ at + (end - 8) → drop (8 - end) (take n (drop i s)) ≡ drop (end - 8) (take end (drop at s))
    lent s i n at a b =
        let c : n - (8 - end) ≡ end - (end - 8) = omega arith in
        part_past (8 - end) n (drop i s)
        ∙ (λ j. take (c j) (drop-drop (8 - end) i s j))
        ∙ ap (λ (m : ℕ). take (end - (end - 8)) (drop m s)) b
        ∙ sym (part_past (end - 8) end (drop at s) ∙ ap (take (end - (end - 8))) (drop-drop (end - 8) at s))

pub ruleset masks = (exits, masked_none, mask_bits, mask_first, mask_more, mask_done, ended_first, ended_more, ended_done, ended_few, length_sought, name_same, end_apart)
