-- Numbers in decimal: the steps of writing one, and what is written reads back.
use Prim.Native.Nat.{ℕ, zero, suc, ◌+◌, ◌-◌, ◌*◌, ◌/◌, ◌%◌, ◌≤◌, ◌<◌}
use mathlib.Core.Path.{◌≡◌, refl, sym, ap, ◌∙◌}
use mathlib.Core.List.{List, [], ◌∷◌, ◌++◌, append_assoc, append-nil}
use mathlib.Core.Bool.{true, false}
use native.Mathlib.Omega.{arith}
use lib.ListN.{length, take, drop, set, length-set, length-append, length-drop, drop_of_length-le}
use lib.Seq.{drop-cons, drop-set-lt, get_or-set_same, take_all}
use borrow.Rule.Slice.PartMut.{mid_of}
use lib.Dec.{ltb}
use borrow.Author.Tests.{ltb-true, ltb-false, lt-ltb, le-ltb}
use borrow.Author.Rules.{rules}
use Rattle.octets.specs.Choice.{pick}
use Rattle.octets.specs.Octets.{decimals, decimal, digits, digit_value, number_from, number, is_digit}
use Rattle.octets.proofs.Exits.{pick_true, pick_false, below, tested, passed}
use Rattle.octets.proofs.Scans.{ten}

-- the digits of n are those of m, and then digits from i on
pub record Spelled (n : ℕ) (digits : List ℕ) (i m : ℕ) : Type 0 where
  pub long : length digits ≡ 10
  pub most : i ≤ 10
  pub is : decimals i m ++ drop i digits ≡ decimal n

pub spell_none : {n : ℕ} {digits : List ℕ} → length digits ≡ 10 → Spelled n digits 10 n
unfolding decimal
spell_none {n} {digits} e =
    record { long = e; most = omega arith; is = ap (λ (l : List ℕ). decimals 10 n ++ l) (drop_of_length-le digits {i = 10} (omega arith)) ∙ append-nil (decimals 10 n) }

drop_set : (l : List ℕ) (k a : ℕ) → k < length l → drop k (set l k a) ≡ a ∷ drop (suc k) l
drop_set l k a h =
    drop-cons (set l k a) k 0 (rw length-set h)
    ∙ (λ j. get_or-set_same l k a 0 h j ∷ drop-set-lt (suc k) l k a (omega arith) j)

one_digit : (k n : ℕ) → n < 10 → decimals (suc k) n ≡ (48 + n) ∷ []
unfolding decimals
one_digit k n h = pick_true _ _ _ (lt-ltb n 10 h)

more_digits : (k n : ℕ) → 10 ≤ n → decimals (suc k) n ≡ decimals k (n / 10) ++ ((48 + n % 10) ∷ [])
unfolding decimals
more_digits k n h = pick_false _ _ _ (le-ltb n 10 h)

pub spell_more : {n : ℕ} {digits : List ℕ} {i m : ℕ} → Spelled n digits i m → 0 < i → (m / 10 ≡ 0 → ⊥) → Spelled n (set digits (i - 1) (48 + m % 10)) (i - 1) (m / 10)
spell_more {n} {digits} {i} {m} p h d =
    let k = i - 1 in
    let e : suc k ≡ i = omega arith in
    let q : decimals (suc k) m ++ drop (suc k) digits ≡ decimal n = rw e p.is in
    record {
      long = length-set digits k (48 + m % 10) ∙ p.long;
      most = omega arith;
      is = ap (λ (l : List ℕ). decimals k (m / 10) ++ l) (drop_set digits k (48 + m % 10) (omega arith)) ∙ sym (append_assoc (decimals k (m / 10)) ((48 + m % 10) ∷ []) (drop (suc k) digits)) ∙ ap (λ (l : List ℕ). l ++ drop (suc k) digits) (sym (more_digits k m (omega arith))) ∙ q;
    }

-- the place of the last digit, and what stands from there to the end
pub spell_last : {n : ℕ} {digits : List ℕ} {i m : ℕ} → Spelled n digits i m → 0 < i → m / 10 ≡ 0 → mid_of (i - 1) (10 - (i - 1)) (set digits (i - 1) (48 + m % 10)) ≡ decimal n
spell_last {n} {digits} {i} {m} p h d =
    let k = i - 1 in
    let e : suc k ≡ i = omega arith in
    let o : m % 10 ≡ m = omega arith in
    let q : decimals (suc k) m ++ drop (suc k) digits ≡ decimal n = rw e p.is in
    take_all (10 - k) (drop k (set digits k (48 + m % 10))) (omega (arith, length-drop k (set digits k (48 + m % 10)), length-set digits k (48 + m % 10)))
    ∙ drop_set digits k (48 + m % 10) (omega arith) ∙ rw o (rw (one_digit k m (omega arith)) at q)

pub spell_done : {n : ℕ} {digits : List ℕ} {m : ℕ} → Spelled n digits 0 m → digits ≡ decimal n
unfolding decimals
spell_done p = p.is

pub ruleset spelling = (rules, spell_none, spell_more, spell_last, spell_done)

-- ---- what is written reads back
number_snoc : (acc : ℕ) (s : List ℕ) (d : ℕ) → number_from acc (s ++ (d ∷ [])) ≡ number_from acc s * 10 + digit_value d
unfolding number_from
number_snoc acc [] d = refl
number_snoc acc (x ∷ xs) d = number_snoc (acc * 10 + digit_value x) xs d

number_decimals : (k n : ℕ) → n < ten k → number_from 0 (decimals k n) ≡ n
unfolding decimals number_from ten
number_decimals zero n h = omega arith
number_decimals (suc k) n h =
    below n 10
    (λ l. rw (one_digit k n l) (omega arith))
    (λ g.
    let q : number_from 0 (decimals k (n / 10)) ≡ n / 10 = number_decimals k (n / 10) (omega arith) in
    rw (more_digits k n g) (number_snoc 0 (decimals k (n / 10)) (48 + n % 10) ∙ omega arith))

few_decimals : (k n : ℕ) → length (decimals k n) ≤ k
unfolding decimals
few_decimals zero n = omega arith
few_decimals (suc k) n =
    below n 10
    (λ l. rw (one_digit k n l) (omega arith))
    (λ g. rw (more_digits k n g) (omega (arith, length-append (decimals k (n / 10)) ((48 + n % 10) ∷ []), few_decimals k (n / 10))))

some_decimals : (k n : ℕ) → 1 ≤ length (decimals (suc k) n)
some_decimals k n =
    below n 10
    (λ l. rw (one_digit k n l) (omega arith))
    (λ g. rw (more_digits k n g) (omega (arith, length-append (decimals k (n / 10)) ((48 + n % 10) ∷ []))))

-- a digit, and then more of a list
digit_first : (x : ℕ) (s : List ℕ) → 48 ≤ x → x < 58 → digits (x ∷ s) ≡ suc (digits s)
unfolding digits is_digit
digit_first x s h k = simp (le-ltb x 48 h, lt-ltb x 58 k, pick_true, pick_false)

digits_decimals : (k n : ℕ) (s : List ℕ) → digits (decimals k n ++ s) ≡ length (decimals k n) + digits s
unfolding decimals
digits_decimals zero n s = omega arith
digits_decimals (suc k) n s =
    below n 10
    (λ l. rw (one_digit k n l) (digit_first (48 + n) s (omega arith) (omega arith) ∙ omega arith))
    (λ g.
    rw (more_digits k n g)
    (ap digits (append_assoc (decimals k (n / 10)) ((48 + n % 10) ∷ []) s)
    ∙ digits_decimals k (n / 10) ((48 + n % 10) ∷ s)
    ∙ omega (arith, digit_first (48 + n % 10) s (omega arith) (omega arith), length-append (decimals k (n / 10)) ((48 + n % 10) ∷ []))))

-- all of a list are digits, and no digit follows
pub digits_append : (e s : List ℕ) → digits e ≡ length e → digits s ≡ 0 → digits (e ++ s) ≡ length e
unfolding digits pick
digits_append [] s h k = k
digits_append (x ∷ xs) s h k = tested (is_digit x) (λ t. rw t (ap suc (digits_append xs s (more t h) k))) (λ t. none t h)
  where
    more : is_digit x ≡ true → digits (x ∷ xs) ≡ length (x ∷ xs) → digits xs ≡ length xs
    more t h = let z : suc (digits xs) ≡ suc (length xs) = rw t at h in omega arith

    none : is_digit x ≡ false → digits (x ∷ xs) ≡ length (x ∷ xs) → digits ((x ∷ xs) ++ s) ≡ length (x ∷ xs)
    none t h = let z : 0 ≡ suc (length xs) = rw t at h in absurd (omega arith)

-- the digits that a list begins with
pub digits_front : (s : List ℕ) → (digits s ≤ length s) × (digits (take (digits s) s) ≡ digits s)
unfolding digits pick
digits_front [] = (omega arith, refl)
digits_front (x ∷ xs) =
    let f = digits_front xs in
    tested (is_digit x) (λ t. rw t (omega arith, rw t (ap suc f.1))) (λ t. rw t (omega arith, refl))

-- 1 to 10 digits, which read as the number; other octets may follow
pub some_decimal : (n : ℕ) → 1 ≤ length (decimal n)
unfolding decimal
some_decimal n = some_decimals 9 n

pub few_decimal : (n : ℕ) → length (decimal n) ≤ 10
unfolding decimal
few_decimal n = few_decimals 10 n

pub digits_decimal : (n : ℕ) → digits (decimal n) ≡ length (decimal n)
unfolding decimal digits
digits_decimal n = ap digits (sym (append-nil (decimals 10 n))) ∙ omega (arith, digits_decimals 10 n [])

pub number_decimal : (n : ℕ) → n ≤ 9999999999 → number (decimal n) ≡ n
unfolding decimal number ten
number_decimal n h = pick_false _ _ _ (le-ltb 10 (length (decimals 10 n)) (few_decimals 10 n)) ∙ number_decimals 10 n (omega arith)

-- a number of three digits
pub length_decimal_3 : (n : ℕ) → 100 ≤ n → n ≤ 999 → length (decimal n) ≡ 3
unfolding decimal
length_decimal_3 n h k =
    rw (more_digits 9 n (omega arith), more_digits 8 (n / 10) (omega arith), one_digit 7 (n / 10 / 10) (omega arith))

-- ---- as many digits with the same number are the same digits
all_digits : (x : ℕ) (xs : List ℕ) → digits (x ∷ xs) ≡ length (x ∷ xs) → (is_digit x ≡ true) × (digits xs ≡ length xs)
unfolding digits pick
all_digits x xs h =
    tested (is_digit x)
    (λ t. let z : suc (digits xs) ≡ suc (length xs) = rw t at h in (t, omega arith))
    (λ t. let z : 0 ≡ suc (length xs) = rw t at h in absurd (omega arith))

digit_range : (x : ℕ) → is_digit x ≡ true → (48 ≤ x) × (x < 58)
unfolding is_digit
digit_range x e =
    let u = passed (ltb x 48) (ltb x 58) e in
    (ltb-false x 48 u.0, ltb-true x 58 u.1)

pub same_digits : (s t : List ℕ) (a b : ℕ) → digits s ≡ length s → digits t ≡ length t → length s ≡ length t → number_from a s ≡ number_from b t → (a ≡ b) × (s ≡ t)
unfolding number_from
same_digits [] [] a b h k l e = (e, refl)
same_digits [] (y ∷ ys) a b h k l e = absurd (omega arith)
same_digits (x ∷ xs) [] a b h k l e = absurd (omega arith)
same_digits (x ∷ xs) (y ∷ ys) a b h k l e =
    let dx = all_digits x xs h in
    let dy = all_digits y ys k in
    let rx = digit_range x dx.0 in
    let ry = digit_range y dy.0 in
    let r = same_digits xs ys (a * 10 + digit_value x) (b * 10 + digit_value y) dx.1 dy.1 (omega arith) e in
    let p : x ≡ y = omega arith in
    (omega arith, (λ j. p j ∷ r.1 j))

pub number_apart : (s t : List ℕ) → digits s ≡ length s → digits t ≡ length t → length s ≡ length t → length s ≤ 10 → number s ≡ number t → s ≡ t
unfolding number
number_apart s t h k l f e =
    let g : length t ≤ 10 = omega arith in
    (same_digits s t 0 0 h k l (sym (pick_false _ _ _ (le-ltb _ _ f)) ∙ e ∙ pick_false _ _ _ (le-ltb _ _ g))).1

-- ---- ten digits make no more than 9,999,999,999
-- the most that j digits more make of m
most_with : ℕ → ℕ → ℕ
most_with zero m = m
most_with (suc j) m = most_with j (m * 10 + 9)

most_grows : (j m : ℕ) → m ≤ most_with j m
unfolding most_with
most_grows zero m = omega arith
most_grows (suc j) m = omega (arith, most_grows j (m * 10 + 9))

number_most : (j m : ℕ) (s : List ℕ) (a : ℕ) → digits s ≡ length s → length s ≤ j → a ≤ m → number_from a s ≤ most_with j m
unfolding number_from most_with
number_most zero m [] a h l k = k
number_most (suc j) m [] a h l k = omega (arith, most_grows j (m * 10 + 9))
number_most zero m (x ∷ xs) a h l k = absurd (omega arith)
number_most (suc j) m (x ∷ xs) a h l k =
    let d = all_digits x xs h in
    let r = digit_range x d.0 in
    number_most j (m * 10 + 9) xs (a * 10 + digit_value x) d.1 (omega arith) (omega arith)

pub number_few : (s : List ℕ) → digits s ≡ length s → length s ≤ 10 → number s ≤ 9999999999
unfolding number most_with
number_few s h l = rw (pick_false _ _ _ (le-ltb _ _ l)) (number_most 10 0 s 0 h l (omega arith))
