-- A line's pieces: which come next, the first that is none, and the octets in them.
use Prim.Native.Nat.{ℕ, zero, suc, ◌+◌, ◌-◌, ◌<◌, ◌≤◌}
use mathlib.Core.Path.{◌≡◌, refl, sym, ap, ◌∙◌}
use mathlib.Core.List.{List, [], ◌∷◌, ◌++◌, append-nil}
use mathlib.Core.Bool.{Bool, not}
use native.Mathlib.Omega.{arith}
use lib.Dec.{eqb}
use lib.ListN.{length, drop, get_or, length-append, drop_of_length-le}
use lib.Seq.{drop-cons}
use borrow.Author.Rules.{rules}
use borrow.Author.Tests.{lt-ltb, le-ltb}
use denote.Ref.{Bor}
use Rattle.std.specs.Prelude.{Option, None, Some, MatchOption, Result, Ok, Err}
use Rattle.std.specs.Option.{option_map}
use Rattle.std.specs.List.{find, filter_map, cons_option}
use Rattle.std.specs.Iterator.{YieldsFirstRef}
use Rattle.std.proofs.lemmas.Iterator.{YieldsList}
use Rattle.std.proofs.lemmas.Iterator.Consumers.{YieldsList-from_first}
use Rattle.octets.specs.Choice.{pick}
use Rattle.octets.specs.Lists.{over, Appended}
use Rattle.octets.proofs.Exits.{tested, pick_true, pick_false, came_gt, came_le}
use Rattle.octets.proofs.Appends.{Laid, laid_more}
use Rattle.hexline.specs.declared.Pieces.{Pieces}
use Rattle.hexline.specs.Line.{size_of, is_piece, octet_in, octets_from, octets_of, place_from, parsed_of}
use Rattle.hexline.specs.declared.HexError.{HexError}
use Rattle.hexline.specs.declared.HexError.TheVariants.{BadAt, TooMany}
use Rattle.hexline.specs.Inner.{octet_of, pieces_from, pieces_of, Unread}

-- ---- what comes next
pieces_skip : (k : ℕ) (l : List ℕ) → pieces_from k l ≡ pieces_from 0 (drop k l)
unfolding pieces_from
pieces_skip zero l = refl
pieces_skip (suc k) [] = refl
pieces_skip (suc k) (x ∷ xs) = pieces_skip k xs

pub pieces_end : (l : List ℕ) → length l ≡ 0 → pieces_of l ≡ []
unfolding pieces_from
pieces_end [] h = refl
pieces_end (x ∷ xs) h = absurd (omega arith)

pub pieces_next : (l t : List ℕ) (n : ℕ) → (length l ≡ 0 → ⊥) → n ≡ size_of l → 1 ≤ n → t ≡ drop n l → pieces_of l ≡ l ∷ pieces_of t
unfolding pieces_from
pieces_next [] t n h e k d = absurd (h refl)
pieces_next (x ∷ xs) t zero h e k d = absurd (omega arith)
pieces_next (x ∷ xs) t (suc n) h e k d =
    let m : size_of (x ∷ xs) - 1 ≡ n = omega arith in
    ap (λ (y : List (List ℕ)). (x ∷ xs) ∷ y) (ap (λ (j : ℕ). pieces_from j xs) m ∙ pieces_skip n xs ∙ ap pieces_of (sym d))

-- what the iterator gives
pub line_pieces : {s : Pieces} (line : List ℕ) → s.0.now ≡ line → YieldsList (YieldsFirstRef (λ (p : Pieces). pieces_of p.0.now)) (λ (x : Bor (List ℕ)). x.now) s (pieces_of line)
line_pieces line e = YieldsList-from_first (λ (x : Bor (List ℕ)). x.now) (λ (p : Pieces). pieces_of p.0.now) (pieces_of line) (ap pieces_of e)

-- a line has no more pieces than characters
pub few_pieces : (k : ℕ) (l : List ℕ) → length (pieces_from k l) ≤ length l
unfolding pieces_from
few_pieces k [] = omega arith
few_pieces (suc k) (x ∷ xs) = omega (arith, few_pieces k xs)
few_pieces zero (x ∷ xs) = omega (arith, few_pieces (size_of (x ∷ xs) - 1) xs)

-- ---- the first that is none
abbrev pub is_bad : List ℕ → Bool
is_bad s = not (is_piece s)

-- s begins at p, of n characters
abbrev Begins : Option (List ℕ) → ℕ → ℕ → Type 0
Begins r p n = MatchOption r (p ≡ n) (λ s. (p + length s ≡ n) × (0 < length s))

later : (r : Option (List ℕ)) (p n : ℕ) → Begins r p n → Begins r (suc p) (suc n)
later None p n h = ap suc h
later (Some s) p n h = (omega arith, h.1)

first_bad : (k : ℕ) (l : List ℕ) → Begins (find is_bad (pieces_from k l)) (place_from k l) (length l)
unfolding pieces_from place_from pick
first_bad k [] = refl
first_bad (suc k) (x ∷ xs) = later _ _ _ (first_bad k xs)
first_bad zero (x ∷ xs) =
    tested (is_piece (x ∷ xs))
    (λ t. rw t (later _ _ _ (first_bad (size_of (x ∷ xs) - 1) xs)))
    (λ t. rw t (omega arith, omega arith))

pub unread_told : (line : List ℕ) (r : Option (Bor (List ℕ))) → option_map (λ (s : Bor (List ℕ)). s.now) r ≡ find is_bad (pieces_of line) → MatchOption r (place_from 0 line ≡ length line) (λ s. Unread line s.now)
unread_told line None e = rw (← e) at (first_bad 0 line)
unread_told line (Some s) e = let h = rw (← e) at (first_bad 0 line) in record { place = h.0; some = h.1 }

-- ---- the octets in them
octet_first : (s ys : List ℕ) → cons_option (octet_of s) ys ≡ octet_in s ++ ys
unfolding octet_of octet_in pick
octet_first s ys = tested (eqb (size_of s) 1) (λ t. rw t) (λ t. rw t)

pub octets_pieces : (k : ℕ) (l : List ℕ) → filter_map octet_of (pieces_from k l) ≡ octets_from k l
unfolding pieces_from octets_from
octets_pieces k [] = refl
octets_pieces (suc k) (x ∷ xs) = octets_pieces k xs
octets_pieces zero (x ∷ xs) =
    octet_first (x ∷ xs) _ ∙ ap (λ (y : List ℕ). octet_in (x ∷ xs) ++ y) (octets_pieces (size_of (x ∷ xs) - 1) xs)

-- after the octets ys, x is the next of q
pub laid_turn : (q old l l' ys : List ℕ) (n n' x : ℕ) → Laid q old n l (drop (length ys) q) → (length ys < length q) × (x ≡ get_or q (length ys) x) → Appended l n (x ∷ []) n' l' → Laid q old n' l' (drop (length (ys ++ x ∷ [])) q)
laid_turn q old l l' ys n n' x p t a =
    let e : drop (length ys) q ≡ (x ∷ []) ++ drop (suc (length ys)) q = drop-cons q (length ys) x t.0 ∙ ap (λ (y : ℕ). y ∷ drop (suc (length ys)) q) (sym t.1) in
    let k : suc (length ys) ≡ length (ys ++ x ∷ []) = omega (arith, length-append ys (x ∷ [])) in
    rw k at (laid_more a (rw e at p))

-- and after all of q nothing is to come
pub laid_end : (q old l ys : List ℕ) (n : ℕ) → Laid q old n l (drop (length ys) q) → length ys ≡ length q → l ≡ over q old
laid_end q old l ys n p h =
    let z : drop (length ys) q ≡ [] = drop_of_length-le q (omega arith) in
    let e : p.front ≡ q = sym (append-nil p.front) ∙ ap (λ (r : List ℕ). p.front ++ r) (sym z) ∙ p.whole in
    p.now ∙ ap (λ (w : List ℕ). over w old) e

-- ---- what is answered, where there is room for so many octets
module _ (room : ℕ) (line : List ℕ) where
  pub told_bad : (s : List ℕ) → Unread line s → ◌≡◌ {A = Result ℕ HexError} (Err (BadAt (length line - length s))) (parsed_of room line)
  unfolding parsed_of
  told_bad s p =
      let e : length line - length s ≡ place_from 0 line = omega (arith, p.place) in
      ap (λ (k : ℕ). Err (BadAt k)) e ∙ sym (pick_true _ _ _ (lt-ltb _ _ (omega (arith, p.place, p.some))))

  module _ (n : ℕ) (all : place_from 0 line ≡ length line) (en : n ≡ length (octets_of line)) where
    pub told_many : room < n → ◌≡◌ {A = Result ℕ HexError} (Err TooMany) (parsed_of room line)
    unfolding parsed_of
    told_many t = sym (pick_false _ _ _ (le-ltb _ _ (omega arith)) ∙ pick_true _ _ _ (came_gt _ _ _ en t))

    pub told_octets : n ≤ room → ◌≡◌ {A = Result ℕ HexError} (Ok n) (parsed_of room line)
    unfolding parsed_of
    told_octets t = ap (λ (k : ℕ). Ok k) en ∙ sym (pick_false _ _ _ (le-ltb _ _ (omega arith)) ∙ pick_false _ _ _ (came_le _ _ _ en t))

pub ruleset telling = (rules, told_bad, told_many, told_octets)
