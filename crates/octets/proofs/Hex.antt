-- Hex digits: octets written in upper case read back.
use Prim.Native.Nat.{ℕ, suc, ◌+◌, ◌-◌, ◌*◌, ◌/◌, ◌%◌, ◌≤◌, ◌<◌}
use mathlib.Core.Path.{◌≡◌, refl, sym, ◌∙◌}
use mathlib.Core.List.{List, [], ◌∷◌}
use mathlib.Core.Bool.{Bool, true}
use native.Mathlib.Omega.{arith}
use lib.ListN.{length, get_or}
use lib.Seq.{ext_get_or}
use borrow.Author.Tests.{lt-ltb, le-ltb, eq-eqb, ne_eqb}
use Rattle.octets.specs.Lists.{cells}
use Rattle.octets.specs.Octets.{AreOctets, is_hex, all_hex, hex_value, hex_digit, hex_at, unhex_at}
use Rattle.octets.proofs.Exits.{pick_true, pick_false, below}
use Rattle.octets.proofs.Lists.{length_cells, get_or_cells}

-- ---- one digit: 0 to 9 from 48, A to F from 65
ten_hex : (either : Bool) (x : ℕ) → 48 ≤ x → x < 58 → is_hex either x ≡ true
unfolding is_hex
ten_hex either x h k = simp (le-ltb x 48 h, lt-ltb x 58 k, pick_true, pick_false)

six_hex : (either : Bool) (x : ℕ) → 65 ≤ x → x < 71 → is_hex either x ≡ true
unfolding is_hex
six_hex either x h k =
    simp (le-ltb x 48 (omega arith), le-ltb x 58 (omega arith), le-ltb x 65 h, lt-ltb x 71 k, pick_true, pick_false)

ten_value : (x : ℕ) → 48 ≤ x → x < 58 → hex_value x ≡ x - 48
unfolding hex_value
ten_value x h k = simp (le-ltb x 48 h, lt-ltb x 58 k, pick_true, pick_false)

six_value : (x : ℕ) → 65 ≤ x → x < 71 → hex_value x ≡ x - 55
unfolding hex_value
six_value x h k =
    simp (le-ltb x 48 (omega arith), le-ltb x 58 (omega arith), le-ltb x 65 h, lt-ltb x 71 k, pick_true, pick_false)

ten_digit : (n : ℕ) → n < 10 → hex_digit n ≡ 48 + n
unfolding hex_digit
ten_digit n h = pick_true _ _ _ (lt-ltb n 10 h)

six_digit : (n : ℕ) → 10 ≤ n → hex_digit n ≡ 55 + n
unfolding hex_digit
six_digit n h = pick_false _ _ _ (le-ltb n 10 h)

digit_hex : (either : Bool) (n : ℕ) → n < 16 → is_hex either (hex_digit n) ≡ true
digit_hex either n h =
    below n 10
    (λ l. rw (ten_digit n l) (ten_hex either (48 + n) (omega arith) (omega arith)))
    (λ g. rw (six_digit n g) (six_hex either (55 + n) (omega arith) (omega arith)))

value_digit : (n : ℕ) → n < 16 → hex_value (hex_digit n) ≡ n
value_digit n h =
    below n 10
    (λ l. rw (ten_digit n l) (ten_value (48 + n) (omega arith) (omega arith) ∙ omega arith))
    (λ g. rw (six_digit n g) (six_value (55 + n) (omega arith) (omega arith) ∙ omega arith))

-- ---- all of a list, by its elements
hex_all : (either : Bool) (s : List ℕ) → ((k : ℕ) → k < length s → is_hex either (get_or s k 0) ≡ true) → all_hex either s ≡ true
unfolding all_hex
hex_all either [] f = refl
hex_all either (x ∷ xs) f = pick_true _ _ _ (f 0 (omega arith)) ∙ hex_all either xs (λ k h. f (suc k) (omega arith))

-- ---- digits of octets
at_even : (h : List ℕ) (i : ℕ) → i % 2 ≡ 0 → hex_at h i ≡ hex_digit (get_or h (i / 2) 0 / 16)
unfolding hex_at
at_even h i e = pick_true _ _ _ (eq-eqb (i % 2) 0 e)

at_odd : (h : List ℕ) (i : ℕ) → i % 2 ≡ 1 → hex_at h i ≡ hex_digit (get_or h (i / 2) 0 % 16)
unfolding hex_at
at_odd h i e = pick_false _ _ _ (ne_eqb (i % 2) 0 (omega arith))

-- the two cases of a place among digits
by_half : {A : Type 0} (i : ℕ) → (i % 2 ≡ 0 → A) → (i % 2 ≡ 1 → A) → A
by_half i f g = below (i % 2) 1 (λ l. f (omega arith)) (λ h. g (omega arith))

pub all_hex_of : (either : Bool) (h : List ℕ) (n : ℕ) → AreOctets h → all_hex either (cells n (hex_at h)) ≡ true
all_hex_of either h n o =
    hex_all either (cells n (hex_at h))
    (λ k l.
    let m : k < n = rw (length_cells n (hex_at h)) at l in
    let x : get_or h (k / 2) 0 < 256 = o (k / 2) in
    rw (get_or_cells n (hex_at h) k m)
    (by_half k
    (λ e. rw (at_even h k e) (digit_hex either (get_or h (k / 2) 0 / 16) (omega arith)))
    (λ e. rw (at_odd h k e) (digit_hex either (get_or h (k / 2) 0 % 16) (omega arith)))))

-- octets written read back
pub unhex_hex : (h : List ℕ) (n : ℕ) → length h ≡ n → AreOctets h → cells n (unhex_at (cells (n * 2) (hex_at h))) ≡ h
unfolding unhex_at
unhex_hex h n e o =
    ext_get_or 0 (cells n (unhex_at (cells (n * 2) (hex_at h)))) h (length_cells n (unhex_at (cells (n * 2) (hex_at h))) ∙ sym e)
    (λ k l.
    let m : k < n = rw (length_cells n (unhex_at (cells (n * 2) (hex_at h)))) at l in
    let x : get_or h k 0 < 256 = o k in
    let i : k * 2 / 2 ≡ k = omega arith in
    let j : (k * 2 + 1) / 2 ≡ k = omega arith in
    let a : get_or (cells (n * 2) (hex_at h)) (k * 2) 0 ≡ hex_digit (get_or h k 0 / 16) = get_or_cells (n * 2) (hex_at h) (k * 2) (omega arith) ∙ at_even h (k * 2) (omega arith) ∙ rw i in
    let b : get_or (cells (n * 2) (hex_at h)) (k * 2 + 1) 0 ≡ hex_digit (get_or h k 0 % 16) = get_or_cells (n * 2) (hex_at h) (k * 2 + 1) (omega arith) ∙ at_odd h (k * 2 + 1) (omega arith) ∙ rw j in
    get_or_cells n (unhex_at (cells (n * 2) (hex_at h))) k m
    ∙ rw (a, b) (rw (value_digit (get_or h k 0 / 16) (omega arith), value_digit (get_or h k 0 % 16) (omega arith)) (omega arith)))
