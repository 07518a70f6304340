-- The characters of a text, as this crate's definitions and as std has them.
use Prim.Native.Nat.{ℕ, zero, suc, ◌+◌, ◌-◌, ◌*◌, ◌/◌, ◌%◌, ◌<◌, ◌≤◌}
use mathlib.Core.Path.{◌≡◌, refl, sym, ap, subst, ◌∙◌}
use mathlib.Core.Logic.{inl, inr}
use mathlib.Core.List.{List, [], ◌∷◌, ◌++◌, append_assoc, append-nil}
use mathlib.Core.Bool.{Bool, true, false, cond}
use native.Mathlib.Omega.{arith}
use lib.ListN.{length, get_or, take, drop, length-append, length-drop, drop_of_length-le, take-append-drop}
use lib.Seq.{drop_at, drop-cons, take_at, length-take-le}
use lib.Dec.{eqb, ltb}
use native.Mathlib.Numerals.{add-one}
use lib.Utf8.{scalars, encode, encodes, scalar_cases}
use borrow.Author.Tests.{lt-ltb, le-ltb, ltb-false, eq-eqb, ne_eqb, eqb-true, eqb-false, not-false}
use Rattle.std.specs.Char.Escape.{encode_utf16}
use Rattle.std.specs.Str.{IsUtf8, chars}
use Rattle.std.proofs.lemmas.Str.{IsUtf8-nil, IsUtf8-append, chars-encodes}
use Rattle.std.proofs.str.Laws as laws
use Rattle.std.proofs.str.Laws.{Scalar, Shape, Follows, of1, of2, of3, of4, shape, one, two, three, not_empty}
use Rattle.std.proofs.str.Valid.{of_one, of_two, of_three, of_four}
use Rattle.octets.specs.Choice.{pick}
use Rattle.octets.proofs.Exits.{pick_true, pick_false, picked, passed, tested, below, clash}
use Rattle.octets.proofs.Scans.{get_or_past}
use Rattle.password.specs.Utf8.{size_by, within, lowest, highest, is_tail, size_with, size_of, formed_after, is_utf8}
use Rattle.password.specs.Utf16.{point_of_two, point_of_three, point_of_four, point_with, point_of, first_unit, second_unit, units_of, stride_of, units_after, utf16}

-- ---- end to end
-- what is passed over is dropped
formed_drop : (k : ℕ) (s : List ℕ) → formed_after k s ≡ formed_after 0 (drop k s)
unfolding formed_after
formed_drop zero s = refl
formed_drop (suc k) [] = refl
formed_drop (suc k) (x ∷ xs) = formed_drop k xs

formed_next : (s : List ℕ) → 0 < length s → (size_of s ≡ 0 → ⊥) → formed_after 0 s ≡ formed_after 0 (drop (size_of s) s)
unfolding formed_after
formed_next [] h k = absurd (omega arith)
formed_next (x ∷ xs) h k =
    let e : size_of (x ∷ xs) ≡ suc (size_of (x ∷ xs) - 1) = omega arith in
    pick_false _ _ _ (ne_eqb _ _ k) ∙ formed_drop (size_of (x ∷ xs) - 1) xs ∙ ap (λ (m : ℕ). formed_after 0 (drop m (x ∷ xs))) (sym e)

formed_bad : (s : List ℕ) → 0 < length s → size_of s ≡ 0 → formed_after 0 s ≡ false
unfolding formed_after
formed_bad [] h e = absurd (omega arith)
formed_bad (x ∷ xs) h e = pick_true _ _ _ (eq-eqb _ _ e)

units_drop : (k : ℕ) (s : List ℕ) → units_after k s ≡ units_after 0 (drop k s)
unfolding units_after
units_drop zero s = refl
units_drop (suc k) [] = refl
units_drop (suc k) (x ∷ xs) = units_drop k xs

stride_some : (n : ℕ) → 1 ≤ stride_of n
unfolding stride_of
stride_some n = picked (λ (m : ℕ). 1 ≤ m) (eqb n 0) (λ e. omega arith) (λ e. let k = eqb-false n 0 e in omega arith)

units_next : (s : List ℕ) → 0 < length s → units_after 0 s ≡ units_of (point_of (size_of s) s) ++ units_after 0 (drop (stride_of (size_of s)) s)
unfolding units_after
units_next [] h = absurd (omega arith)
units_next (x ∷ xs) h =
    let m : ℕ = stride_of (size_of (x ∷ xs)) in
    let z = stride_some (size_of (x ∷ xs)) in
    let e : m ≡ suc (m - 1) = omega arith in
    ap (λ (l : List ℕ). units_of (point_of (size_of (x ∷ xs)) (x ∷ xs)) ++ l) (units_drop (m - 1) xs ∙ ap (λ (i : ℕ). units_after 0 (drop i (x ∷ xs))) (sym e))

-- ---- the first octet
size_1 : (a : ℕ) → a < 128 → size_by a ≡ 1
unfolding size_by
size_1 a h = pick_true _ _ _ (lt-ltb _ _ h)

size_0 : (a : ℕ) → 128 ≤ a → a < 194 → size_by a ≡ 0
unfolding size_by
size_0 a g h = pick_false _ _ _ (le-ltb _ _ g) ∙ pick_true _ _ _ (lt-ltb _ _ h)

size_2 : (a : ℕ) → 194 ≤ a → a < 224 → size_by a ≡ 2
unfolding size_by
size_2 a g h =
    let i : 128 ≤ a = omega arith in
    pick_false _ _ _ (le-ltb _ _ i) ∙ pick_false _ _ _ (le-ltb _ _ g) ∙ pick_true _ _ _ (lt-ltb _ _ h)

size_3 : (a : ℕ) → 224 ≤ a → a < 240 → size_by a ≡ 3
unfolding size_by
size_3 a g h =
    let i : 128 ≤ a = omega arith in
    let j : 194 ≤ a = omega arith in
    pick_false _ _ _ (le-ltb _ _ i) ∙ pick_false _ _ _ (le-ltb _ _ j) ∙ pick_false _ _ _ (le-ltb _ _ g) ∙ pick_true _ _ _ (lt-ltb _ _ h)

size_4 : (a : ℕ) → 240 ≤ a → a < 245 → size_by a ≡ 4
unfolding size_by
size_4 a g h =
    let i : 128 ≤ a = omega arith in
    let j : 194 ≤ a = omega arith in
    let k : 224 ≤ a = omega arith in
    pick_false _ _ _ (le-ltb _ _ i) ∙ pick_false _ _ _ (le-ltb _ _ j) ∙ pick_false _ _ _ (le-ltb _ _ k) ∙ pick_false _ _ _ (le-ltb _ _ g) ∙ pick_true _ _ _ (lt-ltb _ _ h)

size_past : (a : ℕ) → 245 ≤ a → size_by a ≡ 0
unfolding size_by
size_past a g =
    let i : 128 ≤ a = omega arith in
    let j : 194 ≤ a = omega arith in
    let k : 224 ≤ a = omega arith in
    let l : 240 ≤ a = omega arith in
    pick_false _ _ _ (le-ltb _ _ i) ∙ pick_false _ _ _ (le-ltb _ _ j) ∙ pick_false _ _ _ (le-ltb _ _ k) ∙ pick_false _ _ _ (le-ltb _ _ l) ∙ pick_false _ _ _ (le-ltb _ _ g)

-- ---- the octets after it
within_so : (low high x : ℕ) → low ≤ x → x ≤ high → within low high x ≡ true
unfolding within
within_so low high x g h = pick_false _ _ _ (le-ltb _ _ g) ∙ pick_false _ _ _ (le-ltb _ _ h)

within_says : (low high x : ℕ) → within low high x ≡ true → (low ≤ x) × (x ≤ high)
unfolding within
within_says low high x e =
    let p = passed _ _ e in
    let q = passed _ _ p.1 in
    (ltb-false _ _ p.0, ltb-false _ _ q.0)

tail_so : (x : ℕ) → Follows x → is_tail x ≡ true
unfolding is_tail
tail_so x f = within_so 128 191 x f.0 (omega arith)

tail_says : (x : ℕ) → is_tail x ≡ true → Follows x
unfolding is_tail
tail_says x e = let p = within_says 128 191 x e in (p.0, omega arith)

-- what the second octet b after a is
pub record Second (a b : ℕ) : Type 0 where
  pub follows : Follows b
  pub not_overlong : a ≡ 224 → 160 ≤ b
  pub not_surrogate : a ≡ 237 → b ≤ 159
  pub not_overlong_4 : a ≡ 240 → 144 ≤ b
  pub not_outside : a ≡ 244 → b ≤ 143

second_so : (a b : ℕ) → Second a b → within (lowest a) (highest a) b ≡ true
unfolding lowest highest pick
second_so a b s =
    within_so (lowest a) (highest a) b
    (picked (λ n. n ≤ b) (eqb a 224) (λ e. s.not_overlong (eqb-true _ _ e)) (λ _. picked (λ n. n ≤ b) (eqb a 240) (λ e. s.not_overlong_4 (eqb-true _ _ e)) (λ _. s.follows.0)))
    (picked (λ n. b ≤ n) (eqb a 237) (λ e. s.not_surrogate (eqb-true _ _ e)) (λ _. picked (λ n. b ≤ n) (eqb a 244) (λ e. s.not_outside (eqb-true _ _ e)) (λ _. let f = s.follows in omega arith)))

second_says : (a b : ℕ) → within (lowest a) (highest a) b ≡ true → Second a b
unfolding lowest highest pick
second_says a b e =
    let p = within_says (lowest a) (highest a) b e in
    let low : 128 ≤ lowest a = picked (λ n. 128 ≤ n) (eqb a 224) (λ _. omega arith) (λ _. picked (λ n. 128 ≤ n) (eqb a 240) (λ _. omega arith) (λ _. omega arith)) in
    let high : highest a ≤ 191 = picked (λ n. n ≤ 191) (eqb a 237) (λ _. omega arith) (λ _. picked (λ n. n ≤ 191) (eqb a 244) (λ _. omega arith) (λ _. omega arith)) in
    record {
      follows = (omega arith, omega arith);
      not_overlong = λ k. let z : lowest a ≡ 160 = rw k refl in omega arith;
      not_surrogate = λ k. let z : highest a ≡ 159 = rw k refl in omega arith;
      not_overlong_4 = λ k. let z : lowest a ≡ 144 = rw k refl in omega arith;
      not_outside = λ k. let z : highest a ≡ 143 = rw k refl in omega arith;
    }

-- ---- a character that is written
abbrev Reads : ℕ → List ℕ → List ℕ → Type 0
Reads c r l = (size_of (l ++ r) ≡ length l) × (point_of (length l) (l ++ r) ≡ c)

reads_one : (c : ℕ) (r : List ℕ) → c < 128 → Reads c r (c ∷ [])
unfolding size_of size_with point_of point_with pick
reads_one c r h = (rw (size_1 c h) refl, refl)

reads_two : (c a b : ℕ) (r : List ℕ) → 194 ≤ a → a < 224 → Second a b → c ≡ a % 32 * 64 + b % 64 → Reads c r (a ∷ b ∷ [])
unfolding size_of size_with point_of point_with point_of_two pick
reads_two c a b r g h s e = (rw (size_2 a g h, second_so a b s) refl, sym e)

reads_three : (c a b d : ℕ) (r : List ℕ) → 224 ≤ a → a < 240 → Second a b → Follows d → c ≡ a % 16 * 4096 + b % 64 * 64 + d % 64 → Reads c r (a ∷ b ∷ d ∷ [])
unfolding size_of size_with point_of point_with point_of_three pick
reads_three c a b d r g h s f e = (rw (size_3 a g h, second_so a b s, tail_so d f) refl, sym e)

reads_four : (c a b d x : ℕ) (r : List ℕ) → 240 ≤ a → a < 245 → Second a b → Follows d → Follows x → c ≡ a % 8 * 262144 + b % 64 * 4096 + d % 64 * 64 + x % 64 → Reads c r (a ∷ b ∷ d ∷ x ∷ [])
unfolding size_of size_with point_of point_with point_of_four pick
reads_four c a b d x r g h s f k e = (rw (size_4 a g h, second_so a b s, tail_so d f, tail_so x k) refl, sym e)

-- no shorter encoding would do
least_two : (c : ℕ) → 1 < length (encode c) → 128 ≤ c
least_two c h = below c 128 (λ l. absurd (omega (arith, ap length (one c l)))) (λ g. g)

least_three : (c : ℕ) → 2 < length (encode c) → 2048 ≤ c
least_three c h = below c 2048 (λ l. absurd (omega (arith, ap length (two c (least_two c (omega arith)) l)))) (λ g. g)

least_four : (c : ℕ) → 3 < length (encode c) → 65536 ≤ c
least_four c h = below c 65536 (λ l. absurd (omega (arith, ap length (three c (least_three c (omega arith)) l)))) (λ g. g)

not_surrogate_3 : (c a b d : ℕ) → Scalar c → a ≡ 237 → Follows b → Follows d → c + 925824 ≡ a * 4096 + b * 64 + d → b ≤ 159
not_surrogate_3 c a b d (inl l) e f g s = omega arith
not_surrogate_3 c a b d (inr h) e f g s = absurd (omega arith)

most : (c : ℕ) → Scalar c → c < 1114112
most c (inl l) = omega arith
most c (inr h) = h.1

reads : (c : ℕ) (r : List ℕ) → Scalar c → Shape c → Reads c r (encode c)
reads c r k (of1 h e) = subst (Reads c r) (sym e) (reads_one c r h)
reads c r k (of2 a b l u f s e) =
    let least = least_two c (omega (arith, ap length e)) in
    subst (Reads c r) (sym e) (reads_two c a b r (omega arith) u (record {
      follows = f;
      not_overlong = λ z. absurd (omega arith);
      not_surrogate = λ z. absurd (omega arith);
      not_overlong_4 = λ z. absurd (omega arith);
      not_outside = λ z. absurd (omega arith);
    }) (omega arith))
reads c r k (of3 a b d l u f g s e) =
    let least = least_three c (omega (arith, ap length e)) in
    subst (Reads c r) (sym e) (reads_three c a b d r l u (record {
      follows = f;
      not_overlong = λ z. omega arith;
      not_surrogate = λ z. not_surrogate_3 c a b d k z f g s;
      not_overlong_4 = λ z. absurd (omega arith);
      not_outside = λ z. absurd (omega arith);
    }) g (omega arith))
reads c r k (of4 a b d x l u f g h s e) =
    let least = least_four c (omega (arith, ap length e)) in
    let top = most c k in
    subst (Reads c r) (sym e) (reads_four c a b d x r l (omega arith) (record {
      follows = f;
      not_overlong = λ z. absurd (omega arith);
      not_surrogate = λ z. absurd (omega arith);
      not_overlong_4 = λ z. omega arith;
      not_outside = λ z. omega arith;
    }) g h (omega arith))

-- the units of characters
abbrev pub all_units : List ℕ → List ℕ
all_units [] = []
all_units (c ∷ cs) = units_of c ++ all_units cs

module _ (c : ℕ) (cs : List ℕ) (k : Scalar c) where
  here : Reads c (encodes cs) (encode c)
  here = reads c (encodes cs) k (shape c k)

  some : 0 < length (encode c ++ encodes cs)
  some = not_empty c (shape c k) (encodes cs)

  long : (size_of (encode c ++ encodes cs) ≡ 0) → ⊥
  long z =
      let empty = not_empty c (shape c k) [] in
      omega (arith, here.0, length-append (encode c) [])

  rest : drop (size_of (encode c ++ encodes cs)) (encode c ++ encodes cs) ≡ encodes cs
  rest = ap (λ (n : ℕ). drop n (encode c ++ encodes cs)) here.0 ∙ drop_at (encode c) (encodes cs) (length (encode c)) refl

  formed_char : formed_after 0 (encode c ++ encodes cs) ≡ formed_after 0 (encodes cs)
  formed_char = formed_next _ some long ∙ ap (formed_after 0) rest

  stride_is : stride_of (size_of (encode c ++ encodes cs)) ≡ size_of (encode c ++ encodes cs)
  unfolding stride_of
  stride_is = pick_false _ _ _ (ne_eqb _ _ long)

  units_char : units_after 0 (encode c ++ encodes cs) ≡ units_of c ++ units_after 0 (encodes cs)
  units_char =
      units_next _ some
      ∙ ap (λ (p : ℕ). units_of p ++ units_after 0 (drop (stride_of (size_of (encode c ++ encodes cs))) (encode c ++ encodes cs))) (ap (λ (n : ℕ). point_of n (encode c ++ encodes cs)) here.0 ∙ here.1)
      ∙ ap (λ (n : ℕ). units_of c ++ units_after 0 (drop n (encode c ++ encodes cs))) stride_is
      ∙ ap (λ (l : List ℕ). units_of c ++ units_after 0 l) rest

formed_chars : (cs : List ℕ) → scalars cs ≡ true → formed_after 0 (encodes cs) ≡ true
unfolding formed_after
formed_chars [] e = refl
formed_chars (c ∷ cs) e = let p = laws.both _ _ e in formed_char c cs (scalar_cases c p.0) ∙ formed_chars cs p.1

units_chars : (cs : List ℕ) → scalars cs ≡ true → units_after 0 (encodes cs) ≡ all_units cs
unfolding units_after
units_chars [] e = refl
units_chars (c ∷ cs) e = let p = laws.both _ _ e in units_char c cs (scalar_cases c p.0) ∙ ap (λ (l : List ℕ). units_of c ++ l) (units_chars cs p.1)

-- ---- a text that begins with a character
inside : (s : List ℕ) (k : ℕ) → 128 ≤ get_or s k 0 → k < length s
inside s k h = below k (length s) (λ l. l) (λ g. let z = get_or_past s k g in absurd (omega arith))

module _ (s : List ℕ) where
  abbrev Begun : ℕ → Type 0
  Begun n = (n ≡ 0 → ⊥) → (n ≤ length s) × IsUtf8 (take n s)

  abbrev first : ℕ
  first = get_or s 0 0

  abbrev second : ℕ
  second = get_or s 1 0

  abbrev third : ℕ
  third = get_or s 2 0

  abbrev fourth : ℕ
  fourth = get_or s 3 0

  begun_one : 0 < length s → first < 128 → Begun 1
  begun_one g h z = (omega arith, of_one s 0 g h)

  begun_two : 194 ≤ first → first < 224 → Second first second → Begun 2
  begun_two g h f z = let i = inside s 1 f.follows.0 in (omega arith, of_two s 0 i (g, h) f.follows)

  begun_three : 224 ≤ first → first < 240 → Second first second → Follows third → Begun 3
  begun_three g h f t z =
      let i = inside s 2 t.0 in
      let u = f.follows in
      let low = f.not_overlong in
      let high = f.not_surrogate in (
        omega arith,
        of_three s 0 i (g, h) u t (below first 225 (λ l. let k = low (omega arith) in omega arith) (λ k. omega arith))
            (below first 238 (λ l. inl (below first 237 (λ m. omega arith) (λ m. let k = high (omega arith) in omega arith))) (λ m. inr (omega arith))),
      )

  begun_four : 240 ≤ first → first < 245 → Second first second → Follows third → Follows fourth → Begun 4
  begun_four g h f t v z =
      let i = inside s 3 v.0 in
      let u = f.follows in
      let low = f.not_overlong_4 in
      let high = f.not_outside in
      (omega arith, of_four s 0 i g u t v (below first 241 (λ l. let k = low (omega arith) in omega arith) (λ k. omega arith), below first 244 (λ l. omega arith) (λ m. let k = high (omega arith) in omega arith)))

  begun_none : Begun 0
  begun_none z = absurd (z refl)

  sized_as : (n : ℕ) → size_by first ≡ n → size_of s ≡ size_with n first second third fourth
  unfolding size_of
  sized_as n e = ap (λ (m : ℕ). size_with m first second third fourth) e

  begun : 0 < length s → Begun (size_of s)
  unfolding size_with pick
  begun some =
      below first 128 (λ h. rw (sized_as 1 (size_1 first h)) (begun_one some h))
      (λ g. below first 194 (λ h. rw (sized_as 0 (size_0 first g h)) begun_none)
      (λ g. below first 224 (λ h. rw (sized_as 2 (size_2 first g h)) (picked Begun _ (λ _. begun_none) (λ e. begun_two g h (second_says first second (not-false _ e)))))
      (λ g. below first 240
      (λ h. rw (sized_as 3 (size_3 first g h)) (picked Begun _ (λ _. begun_none) (λ e. picked Begun _ (λ _. begun_none) (λ f. begun_three g h (second_says first second (not-false _ e)) (tail_says third (not-false _ f))))))
      (λ g. below first 245
      (λ h. rw (sized_as 4 (size_4 first g h)) (picked Begun _ (λ _. begun_none) (λ e. picked Begun _ (λ _. begun_none) (λ f. picked Begun _ (λ _. begun_none) (λ k. begun_four g h (second_says first second (not-false _ e)) (tail_says third (not-false _ f)) (tail_says fourth (not-false _ k)))))))
      (λ g. rw (sized_as 0 (size_past first g)) begun_none)))))

utf8_by : (n : ℕ) (s : List ℕ) → length s ≤ n → formed_after 0 s ≡ true → IsUtf8 s
utf8_by n [] h e = IsUtf8-nil
utf8_by zero (x ∷ xs) h e = absurd (omega arith)
utf8_by (suc n) (x ∷ xs) h e =
    let s = x ∷ xs in
    tested (eqb (size_of s) 0)
    (λ z. clash (formed_bad s (omega arith) (eqb-true _ _ z)) e)
    (λ z.
    let some = eqb-false _ _ z in
    let begins = begun s (omega arith) some in
    let rest : IsUtf8 (drop (size_of s) s) = utf8_by n (drop (size_of s) s) (omega (arith, length-drop (size_of s) s)) (sym (formed_next s (omega arith) some) ∙ e) in
    subst IsUtf8 (take-append-drop (size_of s) s) (IsUtf8-append (take (size_of s) s) (drop (size_of s) s) begins.1 rest))

-- ---- both say the same
pub utf8_so : (s : List ℕ) → IsUtf8 s → is_utf8 s ≡ true
unfolding is_utf8
utf8_so s u = ap (formed_after 0) (sym u.1.1) ∙ formed_chars u.0 u.1.0

pub utf8_not : (s : List ℕ) → (IsUtf8 s → ⊥) → is_utf8 s ≡ false
unfolding is_utf8
utf8_not s f = tested (is_utf8 s) (λ e. absurd (f (utf8_by (length s) s (omega arith) e))) (λ e. e)

pub utf16_is : (s : List ℕ) → IsUtf8 s → utf16 s ≡ all_units (chars s)
unfolding utf16
utf16_is s u = ap (units_after 0) (sym u.1.1) ∙ units_chars u.0 u.1.0 ∙ ap all_units (sym (chars-encodes u.0 u.1.0) ∙ ap chars u.1.1)

-- ---- the units, one character after another
encoded : (c : ℕ) → encode_utf16 c ≡ units_of c
unfolding units_of first_unit second_unit pick
encoded c = by (ltb c 65536)
  where
    by : (b : Bool) → cond b (c ∷ []) ((55296 + (c - 65536) / 1024) ∷ (56320 + (c - 65536) % 1024) ∷ []) ≡ pick b (pick b c (55296 + (c - 65536) / 1024) ∷ []) (pick b c (55296 + (c - 65536) / 1024) ∷ (56320 + (c - 65536) % 1024) ∷ [])
    by true = refl
    by false = refl

pub extended_not : (made : List ℕ) (n c : ℕ) → made ≡ encode_utf16 c → 256 < n + length made → 256 < n + length (units_of c)
extended_not made n c e h = let long : length made ≡ length (units_of c) = ap length (e ∙ encoded c) in omega arith

pub extended_so : (before part made rest : List ℕ) (n c : ℕ) → made ≡ encode_utf16 c → n ≤ length before → part ≡ made → take (n + length made) (take n before ++ (part ++ rest)) ≡ take n before ++ units_of c
extended_so before part made rest n c e h p =
    let front : length (take n before) ≡ n = length-take-le n before h in
    let all : length (take n before ++ made) ≡ n + length made = length-append (take n before) made ∙ ap (λ (m : ℕ). m + length made) front in
    ap (λ (l : List ℕ). take (n + length made) (take n before ++ (l ++ rest))) p
    ∙ ap (take (n + length made)) (sym (append_assoc (take n before) made rest))
    ∙ take_at (take n before ++ made) rest (n + length made) all
    ∙ ap (λ (l : List ℕ). take n before ++ l) (e ∙ encoded c)

-- the units of the characters before the k-th stand at the front of an array
pub record Counted (cs units : List ℕ) (n k : ℕ) : Type 0 where
  pub long : length units ≡ 256
  pub most : n ≤ 256
  pub is : all_units cs ≡ take n units ++ all_units (drop k cs)

pub counted_none : (cs units : List ℕ) → length units ≡ 256 → Counted cs units 0 0
counted_none cs units e = record { long = e; most = omega arith; is = refl }

next_units : (cs : List ℕ) (k c : ℕ) → k < length cs → c ≡ get_or cs k c → all_units (drop k cs) ≡ units_of c ++ all_units (drop (k + 1) cs)
next_units cs k c h e = rw (add-one, drop-cons cs k c h) (ap (λ (x : ℕ). units_of x ++ all_units (drop (suc k) cs)) (sym e))

pub counted_more : (cs before after : List ℕ) (n m k c : ℕ) → Counted cs before n k → k < length cs → c ≡ get_or cs k c → length after ≡ 256 → (m ≤ 256) × (take m after ≡ take n before ++ units_of c) → Counted cs after m (k + 1)
counted_more cs before after n m k c p h e l x =
    record {
      long = l;
      most = x.0;
      is = p.is ∙ ap (λ (u : List ℕ). take n before ++ u) (next_units cs k c h e) ∙ sym (append_assoc (take n before) (units_of c) _) ∙ ap (λ (u : List ℕ). u ++ all_units (drop (k + 1) cs)) (sym x.1);
    }

pub counted_long : (cs before : List ℕ) (n k c : ℕ) → Counted cs before n k → k < length cs → c ≡ get_or cs k c → 256 < n + length (units_of c) → 256 < length (all_units cs)
counted_long cs before n k c p h e g =
    let front : length (take n before) ≡ n = length-take-le n before (let a = p.long in let b = p.most in omega arith) in
    let long : length (all_units cs) ≡ n + (length (units_of c) + length (all_units (drop (k + 1) cs))) =
    ap length (p.is ∙ ap (λ (u : List ℕ). take n before ++ u) (next_units cs k c h e)) ∙ length-append (take n before) _ ∙ omega (arith, length-append (units_of c) (all_units (drop (k + 1) cs))) in
    omega arith

pub counted_done : (cs units : List ℕ) (n k : ℕ) → Counted cs units n k → length cs ≤ k → take n units ≡ all_units cs
counted_done cs units n k p h = sym (p.is ∙ rw (drop_of_length-le cs {i = k} h) (append-nil (take n units)))
