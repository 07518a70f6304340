-- Every row of the S-boxes is a permutation of 0 to 15: one test of the whole table, and what it says of each lookup.
use Prim.Native.Nat.{ℕ, ◌+◌, ◌*◌, ◌/◌, ◌%◌, ◌<◌, ◌≤◌}
use native.Mathlib.Omega.{arith}
use mathlib.Core.Path.{◌≡◌, refl, sym, ap₂, ◌∙◌, subst}
use mathlib.Core.Bool.{Bool, true, ◌&&◌}
use lib.Dec.{eqb, ltb, leb}
use mathlib.Core.List.{List}
use lib.ListN.{get_or, drop, length-drop}
use lib.Seq.{length-take-le}
use borrow.Author.Tests.{eqb-true, ltb-true, leb-true}
use Rattle.octets.specs.Choice.{pick}
use Rattle.octets.proofs.Tables.{below, first_of, second_of, at_each}
use Rattle.des.specs.Tables.{s_table, shift_table}
use Rattle.des.specs.Rows.{count, row_of, RowsPermute, LookedUp}

-- row k / 16 holds k % 16 once, and the number at k is below 16
right : ℕ → Bool
right k = eqb (count (k % 16) (row_of (k / 16))) 1 && ltb (get_or s_table k 0) 16

all_right : below 512 right ≡ true
unfolding below right count pick row_of s_table
all_right = refl

each_once : (r v : ℕ) → r < 32 → v < 16 → count v (row_of r) ≡ 1
unfolding right
each_once r v h l =
    let k = 16 * r + v in
    let q : k / 16 ≡ r = omega arith in
    let m : k % 16 ≡ v = omega arith in
    sym (ap₂ (λ (x y : ℕ). count x (row_of y)) m q) ∙ eqb-true _ _ (first_of _ _ (at_each 512 right all_right k (omega arith)))

entry_small : (k : ℕ) → k < 512 → get_or s_table k 0 < 16
unfolding right
entry_small k h = ltb-true _ _ (second_of (eqb (count (k % 16) (row_of (k / 16))) 1) _ (at_each 512 right all_right k h))

pub rows : RowsPermute
unfolding row_of s_table
rows r h = record { long = length-take-le 16 (drop (16 * r) s_table) (omega (arith, length-drop (16 * r) s_table)); each = λ v l. each_once r v h l }

lookup : (k : ℕ) → k < 512 → LookedUp k (get_or s_table k 0)
lookup k h = record { is = refl; small = entry_small k h; once = each_once (k / 16) (get_or s_table k 0) (omega arith) (entry_small k h) }

pub lookup_in : (s : List ℕ) (k : ℕ) → s ≡ s_table → k < 512 → LookedUp k (get_or s k 0)
lookup_in s k e h = subst (λ (l : List ℕ). LookedUp k (get_or l k 0)) (sym e) (lookup k h)

-- the left shifts are small
few : ℕ → Bool
few n = leb (get_or shift_table n 0) 2

all_few : below 16 few ≡ true
unfolding below few shift_table
all_few = refl

pub shift_few : (n r : ℕ) → n < 16 → r ≡ get_or shift_table n 0 → r ≤ 2
unfolding few
shift_few n r h e = rw e (leb-true _ _ (at_each 16 few all_few n h))
