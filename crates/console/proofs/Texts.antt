-- Text laid down octet by octet: `search texts`.
use Prim.Native.Nat.{ℕ, ◌+◌, ◌*◌, ◌≤◌, ◌<◌}
use mathlib.Core.Path.{◌≡◌, refl, sym, ap, ◌∙◌}
use mathlib.Core.List.{List, [], ◌∷◌, ◌++◌, append-nil}
use native.Mathlib.Nat.{min-le_left}
use native.Mathlib.Numerals.{add-one}
use native.Mathlib.Omega.{arith}
use lib.ListN.{length, get_or, take, drop, length-append, length-take, drop_of_length-le}
use lib.Seq.{drop-cons, take-append_seam}
use lib.Dec.{ltb, eqb}
use borrow.Author.Rules.{rules}
use borrow.Author.Tests.{lt-ltb, le-ltb, eq-eqb, ne_eqb}
use Rattle.octets.specs.Lists.{Appended}
use Rattle.octets.proofs.Exits.{pick_true, pick_false, arms}
use Rattle.octets.proofs.Appends.{Laid, laid_more}
use Rattle.console.specs.Inner.{escaped, shown_plain, shown_as, visible, Fronts}

abbrev Short : List ℕ → Type 0
Short l = length l ≤ 4

short_plain : (x : ℕ) → Short (shown_plain x)
unfolding shown_plain
short_plain x = arms Short (eqb x 34) (omega arith) (arms Short (eqb x 92) (omega arith) (omega arith))

length_shown : (x : ℕ) → Short (shown_as x)
unfolding shown_as
length_shown x = arms Short (ltb x 32) (omega arith) (arms Short (ltb x 127) (short_plain x) (omega arith))

-- ---- octet by octet
length_visible : (s : List ℕ) → length (visible s) ≤ 4 * length s
unfolding visible
length_visible [] = omega arith
length_visible (x ∷ s) = omega (arith, length-append (shown_as x) (visible s), length_shown x, length_visible s)

pub visible_none : (s d : List ℕ) → 4 * length s ≤ length d → Laid (visible s) d 0 d (visible s)
visible_none s d h = record { front = []; whole = refl; size = refl; room = omega (arith, length_visible s); now = refl }

pub visible_more : (s q old l l' : List ℕ) (n n' i x : ℕ) → Laid q old n l (visible (drop i s)) → i < length s → x ≡ get_or s i 0 → Appended l n (shown_as x) n' l' → Laid q old n' l' (visible (drop (i + 1) s))
unfolding visible
visible_more s q old l l' n n' i x p h e a =
    let d : visible (drop i s) ≡ shown_as x ++ visible (drop (i + 1) s) = rw (add-one, drop-cons s i 0 h, e) in
    laid_more a (rw d at p)

pub visible_done : (s q old l : List ℕ) (n i : ℕ) → Laid q old n l (visible (drop i s)) → length s ≤ i → Fronts q l n
unfolding visible
visible_done s q old l n i p h =
    let w : visible (drop i s) ≡ [] = rw (drop_of_length-le s h) in
    let f : p.front ≡ q = sym (append-nil p.front) ∙ ap (λ (r : List ℕ). p.front ++ r) (sym w) ∙ p.whole in
    record {
      front = rw (p.now, ← p.size) (take-append_seam p.front (drop (length p.front) old) ∙ f);
      count = sym (ap length f) ∙ p.size;
    }

-- a piece that fits
pub piece_fits : (r s d : List ℕ) (i : ℕ) → r ≡ take 64 (drop i s) → length d ≡ 256 → 4 * length r ≤ length d
piece_fits r s d i e h = omega (arith, ap length e, length-take 64 (drop i s), min-le_left 64 (length (drop i s)))

pub ruleset texts = (rules, visible_none, visible_more, visible_done, piece_fits)
