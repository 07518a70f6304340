-- Two well-formed tables end to end are a well-formed table, and are searched in order; so is the table of no octets.
use Prim.Native.Nat.{ℕ, ◌+◌, ◌≤◌}
use native.Mathlib.Nat.{add_assoc, add-zero, zero-add}
use mathlib.Core.Path.{◌≡◌, refl, sym, ap, ◌∙◌}
use mathlib.Core.List.{List, [], ◌∷◌, ◌++◌, flatten}
use mathlib.Core.Bool.{Bool, true, false}
use lib.ListN.{length, length-append}
use Rattle.octets.specs.Choice.{pick}
use Rattle.octets.specs.Octets.{number_at}
use Rattle.octets.proofs.Exits.{pick_true}
use Rattle.accounts.specs.Records.{cut, records, every, sound}
use Rattle.accounts.specs.Accounts.{well_formed, is_account_of, Placed, placed, first_from, account_of, record_of}
use Rattle.accounts.specs.Table.{All, none, more}
use Rattle.accounts.proofs.Tables.{all_map, flatten_append, records_join, records_then, table_so, so_table}

-- a record and its place, where the table stands n octets further on
abbrev pub further : ℕ → Placed → Placed
further n e = placed (n + e.place) e.octets

all_append : {A : Type 0} {P : A → Type 0} {xs ys : List A} → All P xs → All P ys → All P (xs ++ ys)
all_append none qs = qs
all_append (more p ps) qs = more p (all_append ps qs)

-- two well-formed tables end to end, if not too long
pub joined_formed : (a b : List ℕ) → well_formed a ≡ true → well_formed b ≡ true → length (a ++ b) ≤ 65536 → well_formed (a ++ b) ≡ true
joined_formed a b v w h =
    let s = table_so a v in
    let t = table_so b w in
    let e : a ++ b ≡ flatten (records a ++ records b) = rw (flatten_append (records a) (records b), records_join a, records_join b) in
    (so_table (a ++ b) (records a ++ records b) (record { size = h; joined = e; good = all_append s.good t.good })).0

-- of a ++ b, the first in a, and else the first in b
first_append : (user : List ℕ) (at : ℕ) (a b : List (List ℕ))
    → first_from at user (a ++ b) ≡ pick (is_account_of user (first_from at user a).octets) (first_from at user a) (first_from (at + length (flatten a)) user b)
unfolding first_from flatten is_account_of number_at pick
first_append user at [] b = rw (add-zero at)
first_append user at (r ∷ rs) b = go (is_account_of user r) refl (first_append user (at + length r) rs b)
  where
    go : (h : Bool) → is_account_of user r ≡ h
        → first_from (at + length r) user (rs ++ b)
        ≡ pick (is_account_of user (first_from (at + length r) user rs).octets) (first_from (at + length r) user rs) (first_from (at + length r + length (flatten rs)) user b)
        → pick h (placed at r) (first_from (at + length r) user (rs ++ b))
        ≡ pick (is_account_of user (pick h (placed at r) (first_from (at + length r) user rs)).octets) (pick h (placed at r) (first_from (at + length r) user rs)) (first_from (at + length (r ++ flatten rs)) user b)
    go true e f = sym (pick_true _ _ _ e)
    go false e f = f ∙ rw (length-append r (flatten rs), ← add_assoc at (length r) (length (flatten rs)))

first_moved : (user : List ℕ) (n at : ℕ) (rs : List (List ℕ)) → first_from (n + at) user rs ≡ further n (first_from at user rs)
unfolding first_from pick
first_moved user n at [] = refl
first_moved user n at (r ∷ rs) = go (is_account_of user r) (first_moved user n (at + length r) rs)
  where
    go : (h : Bool) → first_from (n + (at + length r)) user rs ≡ further n (first_from (at + length r) user rs)
        → pick h (placed (n + at) r) (first_from (n + at + length r) user rs) ≡ further n (pick h (placed at r) (first_from (at + length r) user rs))
    go true e = refl
    go false e = rw (add_assoc n at (length r)) e

-- all of the first is searched, and then the second
pub joined_searched : (a b user : List ℕ) → well_formed a ≡ true
    → account_of (a ++ b) user ≡ pick (is_account_of user (record_of a user)) (account_of a user) (further (length a) (account_of b user))
unfolding account_of
joined_searched a b user w =
    let t = table_so a w in
    let e : records (a ++ b) ≡ records a ++ records b = ap (λ (l : List ℕ). records (l ++ b)) t.joined ∙ records_then (records a) b (all_map (λ r g. g.form) t.good) in
    let m : length (flatten (records a)) ≡ length a + 0 = ap length (records_join a) ∙ sym (add-zero (length a)) in
    ap (first_from 0 user) e
    ∙ first_append user 0 (records a) (records b)
    ∙ rw (zero-add (length (flatten (records a))), m, first_moved user (length a) 0 (records b))

-- ---- no octets
pub empty_formed : well_formed [] ≡ true
unfolding well_formed sound records cut every pick
empty_formed = refl

pub empty_none : (user : List ℕ) → is_account_of user (record_of [] user) ≡ false
unfolding account_of records cut first_from is_account_of number_at pick
empty_none user = refl
