-- Parts of a list: what lies before, in and after them.
use Prim.Native.Nat.{ℕ, suc, ◌+◌, ◌-◌, ◌≤◌, ◌<◌}
use mathlib.Core.Path.{◌≡◌, refl, sym, ap, ◌∙◌}
use mathlib.Core.List.{List, [], ◌∷◌, ◌++◌}
use mathlib.Core.Bool.{Bool, true, false}
use native.Mathlib.Numerals.{add-one}
use native.Mathlib.Omega.{arith}
use lib.ListN.{length, get_or, take, drop, length-take, length-drop, take-append-drop, drop_of_length-le, get_or-append}
use lib.Seq.{length-take-le, take_all, take_at, drop_at, drop-cons, drop-drop, get_or-drop, get_or-take, take-append-le, drop-append-le}
use borrow.Author.Tests.{lt-ltb, le-ltb, eq-eqb, eqb-true}
use Rattle.octets.specs.Lists.{sized, part}
use Rattle.octets.specs.Octets.{octet_is, same, stands_at, pair_of, number_at, all_hex, hex_stands}
use Rattle.octets.specs.declared.Order.{Order}
use Rattle.octets.proofs.Exits.{pick_true, pick_false, below}
use Rattle.octets.proofs.Lists.{sized_append}
use Rattle.octets.proofs.Scans.{same_refl, same_true}

pub rest_all : (p : List ℕ) (i : ℕ) → take (length p - i) (drop i p) ≡ drop i p
rest_all p i = take_all (length p - i) (drop i p) (omega (arith, length-drop i p))

pub rest_none : (p : List ℕ) (i : ℕ) → length p ≤ i → [] ≡ drop i p
rest_none p i h = sym (drop_of_length-le p h)

-- ---- the number of two octets that lie in a part
pub number_take : (o : Order) (n : ℕ) (p : List ℕ) (i : ℕ) → i + 1 < n → number_at o (take n p) i ≡ number_at o p i
unfolding number_at
number_take o n p i h =
    let k : i < n = omega arith in
    (λ j. pair_of o (get_or-take n p i 0 k j) (get_or-take n p (i + 1) 0 h j))

pub number_append : (o : Order) (p s : List ℕ) (i : ℕ) → i + 1 < length p → number_at o (p ++ s) i ≡ number_at o p i
unfolding number_at
number_append o p s i h =
    let k : i < length p = omega arith in
    (λ j. pair_of o (get_or-append p s 0 i k j) (get_or-append p s 0 (i + 1) h j))

-- ---- a list cut at a place: w are the n octets from i on, and y what is left from j on
pub cut : (q : List ℕ) (i n j : ℕ) (w y : List ℕ) → i + n ≡ j → part q i n ≡ w → drop j q ≡ y → drop i q ≡ w ++ y
cut q i n j w y e f g =
    sym (take-append-drop n (drop i q))
    ∙ (λ k. f k ++ drop n (drop i q))
    ∙ ap (λ (l : List ℕ). w ++ l) (drop-drop n i q ∙ ap (λ (m : ℕ). drop m q) e ∙ g)

pub cut_one : (q : List ℕ) (i j x : ℕ) (y : List ℕ) → i + 1 ≡ j → i < length q → get_or q i 0 ≡ x → drop j q ≡ y → drop i q ≡ x ∷ y
cut_one q i j x y e h f g =
    drop-cons q i 0 h ∙ (λ k. f k ∷ drop (suc i) q) ∙ ap (λ (l : List ℕ). x ∷ l) (ap (λ (m : ℕ). drop m q) (sym (add-one i) ∙ e) ∙ g)

pub length_part : (q : List ℕ) (i n : ℕ) → i + n ≤ length q → length (part q i n) ≡ n
length_part q i n h = length-take-le n (drop i q) (omega (arith, length-drop i q))

-- a part that is as long as asked lies inside
pub part_inside : (q : List ℕ) (i n : ℕ) → length (part q i n) ≡ n → 1 ≤ n → i + n ≤ length q
part_inside q i n e h = omega (arith, length-take n (drop i q), length-drop i q)

pub sized_part : (q : List ℕ) (i n : ℕ) → i + n ≤ length q → sized n (drop i q) ≡ part q i n
sized_part q i n h = ap (sized n) (sym (take-append-drop n (drop i q))) ∙ sized_append n (part q i n) (drop n (drop i q)) (length_part q i n h)

-- what follows a list does not show in a part of it
pub part_pad : (q pad : List ℕ) (i n : ℕ) → i + n ≤ length q → part (q ++ pad) i n ≡ part q i n
part_pad q pad i n h = ap (take n) (drop-append-le i q pad (omega arith)) ∙ take-append-le n (drop i q) pad (omega (arith, length-drop i q))

-- what the tests of a part tell
pub octet_is_lem : (q : List ℕ) (i x : ℕ) → octet_is q i x ≡ true → get_or q i 0 ≡ x
unfolding octet_is
octet_is_lem q i x e = eqb-true (get_or q i 0) x e

pub stands_is : (q : List ℕ) (i : ℕ) (word : List ℕ) → stands_at q i word ≡ true → part q i (length word) ≡ word
unfolding stands_at
stands_is q i word e = same_true (part q i (length word)) word e

pub hex_stands_long : (either : Bool) (q : List ℕ) (i n : ℕ) → hex_stands either q i n ≡ true → length (part q i n) ≡ n
unfolding hex_stands
hex_stands_long either q i n e =
    below (length (part q i n)) n
    (λ l. let z : false ≡ true = sym (pick_true _ _ _ (lt-ltb _ _ l)) ∙ e in let w : ◌≡◌ {A = ℕ} 0 1 = cc in absurd (omega arith))
    (λ g. omega (arith, length-take n (drop i q)))

pub hex_stands_hex : (either : Bool) (q : List ℕ) (i n : ℕ) → hex_stands either q i n ≡ true → all_hex either (part q i n) ≡ true
unfolding hex_stands
hex_stands_hex either q i n e =
    let h : n ≤ length (part q i n) = omega (arith, hex_stands_long either q i n e) in
    sym (pick_false _ _ _ (le-ltb _ _ h)) ∙ e

-- ---- where it is known what q has from i on
pub part_from : (q x y : List ℕ) (i n : ℕ) → drop i q ≡ x ++ y → length x ≡ n → part q i n ≡ x
part_from q x y i n e h = ap (take n) e ∙ take_at x y n h

pub drop_next : (q x y : List ℕ) (i n j : ℕ) → drop i q ≡ x ++ y → length x ≡ n → i + n ≡ j → drop j q ≡ y
drop_next q x y i n j e h k = ap (λ (m : ℕ). drop m q) (sym k) ∙ sym (drop-drop n i q) ∙ ap (drop n) e ∙ drop_at x y n h

pub get_or_from : (q : List ℕ) (x : ℕ) (y : List ℕ) (i : ℕ) → drop i q ≡ x ∷ y → get_or q i 0 ≡ x
get_or_from q x y i e =
    let z : i + 0 ≡ i = omega arith in
    ap (λ (m : ℕ). get_or q m 0) (sym z) ∙ sym (get_or-drop i q 0 0) ∙ ap (λ (l : List ℕ). get_or l 0 0) e

pub octet_from : (q : List ℕ) (x : ℕ) (y : List ℕ) (i : ℕ) → drop i q ≡ x ∷ y → octet_is q i x ≡ true
unfolding octet_is
octet_from q x y i e = eq-eqb _ _ (get_or_from q x y i e)

pub stands_from : (q word y : List ℕ) (i : ℕ) → drop i q ≡ word ++ y → stands_at q i word ≡ true
unfolding stands_at
stands_from q word y i e = ap (λ (l : List ℕ). same l word) (part_from q word y i (length word) e refl) ∙ same_refl word

pub hex_from : (either : Bool) (q s y : List ℕ) (i n : ℕ) → drop i q ≡ s ++ y → length s ≡ n → all_hex either s ≡ true → hex_stands either q i n ≡ true
unfolding hex_stands
hex_from either q s y i n e h k =
    let m : n ≤ length s = omega arith in
    rw (part_from q s y i n e h) (pick_false _ _ _ (le-ltb _ _ m) ∙ k)
