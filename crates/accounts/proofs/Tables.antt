-- A well-formed table is exactly a concatenation of good records.
use Prim.Native.Nat.{ℕ, zero, suc, ◌-◌, ◌≤◌}
use native.Mathlib.Omega.{arith}
use mathlib.Core.Path.{◌≡◌, refl, sym, ap, ◌∙◌}
use mathlib.Core.List.{List, [], ◌∷◌, ◌++◌, flatten, append_assoc, append-nil}
use mathlib.Core.Bool.{Bool, true, false, not, ◌&&◌}
use lib.ListN.{length, take, drop, length-append, take-append-drop}
use lib.Seq.{drop-nil, take-append_seam, drop-append_seam}
use lib.Dec.{eqb}
use borrow.Author.Tests.{eq-eqb, eqb-true, le-ltb, ltb-false, not-true, not-false}
use Rattle.octets.specs.Choice.{pick}
use Rattle.octets.specs.declared.Order.TheVariants.{Little}
use Rattle.octets.proofs.Exits.{pick_true, pick_false, picked, passed, both, clash, tested, and_both, not_so, not_otherwise}
use Rattle.octets.proofs.Parts.{number_take, number_append}
use Rattle.accounts.specs.Records.{length_of, kind_of, framed, cut, records, every, sound}
use Rattle.accounts.specs.Accounts.{account_good, record_good, well_formed, check_number}
use Rattle.accounts.specs.Table.{All, none, more, IsRecord, IsAccount, IsGood, IsTable, Checks, checks_malformed, checks_formed}
use Rattle.accounts.specs.Promises.{TablesExact, ChecksExact}
use Rattle.accounts.proofs.Records.{framed_so, so_framed, framed_take, records_next}

-- ---- all
pub all_map : {A : Type 0} {P Q : A → Type 0} → ((x : A) → P x → Q x) → {xs : List A} → All P xs → All Q xs
all_map f none = none
all_map f (more p ps) = more (f _ p) (all_map f ps)

pub all_join : {A : Type 0} {P Q R : A → Type 0} → ((x : A) → P x → Q x → R x) → {xs : List A} → All P xs → All Q xs → All R xs
all_join f none none = none
all_join f (more p ps) (more q qs) = more (f _ p q) (all_join f ps qs)

every_all : {A : Type 0} (p : A → Bool) (xs : List A) → every p xs ≡ true → All (λ x. p x ≡ true) xs
unfolding every pick
every_all p [] e = none
every_all {A} p (x ∷ xs) e = go (p x) refl e (every_all p xs)
  where
    go : (b : Bool) → p x ≡ b → pick b (every p xs) false ≡ true → (every p xs ≡ true → All (λ y. p y ≡ true) xs) → All (λ y. p y ≡ true) (x ∷ xs)
    go true h e f = more h (f e)
    go false h e f = clash refl e

all_every : {A : Type 0} (p : A → Bool) {xs : List A} → All (λ x. p x ≡ true) xs → every p xs ≡ true
unfolding every
all_every p none = refl
all_every p (more h hs) = pick_true _ _ _ h ∙ all_every p hs

-- ---- a good record
pub good_so : (r : List ℕ) → record_good r ≡ true → kind_of r ≡ 1 → IsAccount r
unfolding record_good account_good
good_so r e k =
    let a = passed _ _ (sym (pick_true _ _ _ (eq-eqb _ _ k)) ∙ e) in
    let b = passed _ _ a.1 in
    record { least = ltb-false _ _ a.0; most = ltb-false _ _ b.0; code = b.1 }

so_good : (r : List ℕ) → (kind_of r ≡ 1 → IsAccount r) → record_good r ≡ true
unfolding record_good account_good
so_good r f = tested (eqb (kind_of r) 1) yes (λ n. pick_false _ _ _ n)
  where
    yes : eqb (kind_of r) 1 ≡ true → record_good r ≡ true
    yes e =
        let a = f (eqb-true _ _ e) in
        pick_true _ _ _ e ∙ pick_false _ _ _ (le-ltb _ _ a.least) ∙ pick_false _ _ _ (le-ltb _ _ a.most) ∙ a.code

-- ---- cutting and joining
join_cut : (k : ℕ) (l : List ℕ) → flatten (cut k l) ≡ drop k l
unfolding cut flatten
join_cut k [] = sym (drop-nil k)
join_cut (suc k) (x ∷ xs) = join_cut k xs
join_cut zero (x ∷ xs) = picked (λ (l : List (List ℕ)). flatten l ≡ x ∷ xs) (framed (x ∷ xs)) (so (join_cut (length_of (x ∷ xs) - 1) xs)) (λ f. append-nil (x ∷ xs))
  where
    so : flatten (cut (length_of (x ∷ xs) - 1) xs) ≡ drop (length_of (x ∷ xs) - 1) xs → framed (x ∷ xs) ≡ true → take (length_of (x ∷ xs)) (x ∷ xs) ++ flatten (cut (length_of (x ∷ xs) - 1) xs) ≡ x ∷ xs
    so e f =
        let n : ℕ = length_of (x ∷ xs) in
        let z = framed_so (x ∷ xs) f in
        let p : suc (n - 1) ≡ n = omega arith in
        ap (λ (l : List ℕ). take n (x ∷ xs) ++ l) (e ∙ ap (λ (m : ℕ). drop m (x ∷ xs)) p) ∙ take-append-drop n (x ∷ xs)

pub flatten_append : (a b : List (List ℕ)) → flatten (a ++ b) ≡ flatten a ++ flatten b
unfolding flatten
flatten_append [] b = refl
flatten_append (r ∷ rs) b = ap (λ (l : List ℕ). r ++ l) (flatten_append rs b) ∙ sym (append_assoc r (flatten rs) (flatten b))

-- the records of any octets, end to end, are those octets
pub records_join : (t : List ℕ) → flatten (records t) ≡ t
unfolding records
records_join t = join_cut 0 t

-- a record comes first, whatever follows it, and so do records end to end
records_cons : (r s : List ℕ) → IsRecord r → records (r ++ s) ≡ r ∷ records s
records_cons r s h =
    let l = h.least in
    let e : length_of (r ++ s) ≡ length r = number_append Little r s 0 (omega arith) ∙ h.counted in
    let f : framed (r ++ s) ≡ true = so_framed (r ++ s) (record { low = omega arith; high = omega (arith, length-append r s) }) in
    records_next (r ++ s) f ∙ rw (e, take-append_seam, drop-append_seam)

pub records_then : (rs : List (List ℕ)) (b : List ℕ) → All IsRecord rs → records (flatten rs ++ b) ≡ rs ++ records b
unfolding flatten
records_then [] b none = refl
records_then (r ∷ rs) b (more h hs) =
    ap records (append_assoc r (flatten rs) b) ∙ records_cons r (flatten rs ++ b) h ∙ ap (λ (l : List (List ℕ)). r ∷ l) (records_then rs b hs)

-- what is cut off is a record if it is framed
cut_forms : (k : ℕ) (l : List ℕ) → All (λ r. framed r ≡ true → IsRecord r) (cut k l)
unfolding cut
cut_forms k [] = none
cut_forms (suc k) (x ∷ xs) = cut_forms k xs
cut_forms zero (x ∷ xs) = picked (All (λ r. framed r ≡ true → IsRecord r)) (framed (x ∷ xs)) (λ f. more (λ _. form f) (cut_forms (length_of (x ∷ xs) - 1) xs)) (λ f. more (λ t. clash f t) none)
  where
    form : framed (x ∷ xs) ≡ true → IsRecord (take (length_of (x ∷ xs)) (x ∷ xs))
    form f =
        let z = framed_so (x ∷ xs) f in
        let l = (framed_take (x ∷ xs) f).1 in
        record { least = omega arith; counted = number_take Little (length_of (x ∷ xs)) (x ∷ xs) 0 (omega arith) ∙ sym l }

-- ---- the table
formed_so : (t : List ℕ) → well_formed t ≡ true → (length t ≤ 65536) × (sound record_good t ≡ true)
unfolding well_formed
formed_so t e = let p = passed _ _ e in (ltb-false _ _ p.0, p.1)

so_formed : (t : List ℕ) → length t ≤ 65536 → sound record_good t ≡ true → well_formed t ≡ true
unfolding well_formed
so_formed t h e = pick_false _ _ _ (le-ltb _ _ h) ∙ e

-- a well-formed table is the concatenation of its records
pub table_so : (t : List ℕ) → well_formed t ≡ true → IsTable t (records t)
unfolding sound records
table_so t e =
    let p = formed_so t e in
    record { size = p.0; joined = sym (records_join t); good = all_join good (every_all _ (records t) p.1) (cut_forms 0 t) }
  where
    good : (r : List ℕ) → (framed r && record_good r) ≡ true → (framed r ≡ true → IsRecord r) → IsGood r
    good r h f = let b = both _ _ h in record { form = f b.0; account = good_so r b.1 }

-- and a concatenation of good records is well formed, with those records
pub so_table : (t : List ℕ) (rs : List (List ℕ)) → IsTable t rs → (well_formed t ≡ true) × (records t ≡ rs)
unfolding sound records cut
so_table t rs h =
    let e : records t ≡ rs = rw (h.joined, ← append-nil (flatten rs)) (records_then rs [] (all_map (λ r g. g.form) h.good) ∙ append-nil rs) in
    (so_formed t h.size (rw e (all_every _ (all_map good h.good))), e)
  where
    good : (r : List ℕ) → IsGood r → (framed r && record_good r) ≡ true
    good r g =
        let f = g.form in
        let c = f.counted in
        let l = f.least in
        and_both _ _ (so_framed r (record { low = omega arith; high = omega arith })) (so_good r g.account)

pub no_table : (t : List ℕ) → well_formed t ≡ false → (rs : List (List ℕ)) → IsTable t rs → ⊥
no_table t w rs h = clash w (so_table t rs h).0

pub table_not : (t : List ℕ) → ((rs : List (List ℕ)) → IsTable t rs → ⊥) → well_formed t ≡ false
table_not t f = tested (well_formed t) (λ w. absurd (f (records t) (table_so t w))) (λ w. w)

pub tables_exact : TablesExact
tables_exact = record { does = table_so; only = so_table }

-- `Checks` has one answer, and it is this one
check_checks : (t : List ℕ) → Checks t (check_number t)
unfolding check_number
check_checks t = picked (Checks t) (not (well_formed t)) (λ n. checks_malformed (no_table t (not-true _ n))) (λ n. checks_formed (records t) (table_so t (not-false _ n)))

checks_check : (t : List ℕ) (n : ℕ) → Checks t n → n ≡ check_number t
unfolding check_number
checks_check t n (checks_malformed f) = sym (pick_true _ _ _ (not_otherwise _ (table_not t f)))
checks_check t n (checks_formed rs h) = sym (pick_false _ _ _ (not_so _ (so_table t rs h).0))

pub checks_exact : ChecksExact
checks_exact t = (check_checks t, checks_check t)
