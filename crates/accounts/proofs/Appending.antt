-- What is appended is found, and the table stays well formed.
use Prim.Native.Nat.{ℕ, ◌+◌, ◌*◌, ◌/◌, ◌%◌, ◌≤◌, ◌<◌}
use native.Mathlib.Nat.{div-add-mod', add-zero}
use native.Mathlib.Omega.{arith}
use mathlib.Core.Path.{◌≡◌, refl, sym, ap, ◌∙◌}
use mathlib.Core.List.{List, [], ◌∷◌, ◌++◌, append-nil, flatten}
use mathlib.Core.Bool.{Bool, true, false, not}
use lib.ListN.{length, take, drop, length-append}
use lib.Seq.{drop_at, drop-append-add, take-append_seam}
use lib.Dec.{ltb}
use borrow.Author.Tests.{ltb-true, ltb-false, lt-ltb, le-ltb, not-true, not-false, eq-eqb}
use Rattle.octets.specs.Choice.{pick}
use Rattle.octets.specs.Octets.{same, number_at}
use Rattle.octets.proofs.Exits.{pick_true, pick_false, picked}
use Rattle.octets.proofs.Scans.{same_refl}
use Rattle.answer.specs.Outcome.{Outcome, outcome, refused, fitting, Does}
use Rattle.answer.specs.Sizes.{max_name}
use Rattle.accounts.specs.Records.{kind_of, records}
use Rattle.accounts.specs.Accounts.{code_of, hash_of, record_name, is_code, well_formed, is_account_of, Placed, placed, first_from, account_of, record_of, absent, account, lookup_of}
use Rattle.accounts.specs.Account.{account_head, account_record, record_for, max_table, grown, append_of, append_in}
use Rattle.accounts.specs.Table.{none, more, IsGood}
use Rattle.accounts.specs.Promises.{AddedFound, AddedHash, Appends, past, malformed, no_code, long_name, no_table, no_room, appends, AppendsExact, Appending, AppendedFormed, AppendedFound, AppendedHash}
use Rattle.accounts.proofs.Tables.{so_table}
use Rattle.accounts.proofs.Joined.{further, joined_formed, joined_searched, empty_formed}
use Rattle.accounts.proofs.Laying.{length_account}

-- ---- a record
module _ (code : ℕ) (hash name : List ℕ) (eh : length hash ≡ 16) (en : length name ≤ max_name) (ec : is_code code ≡ true) where
  is_good : IsGood (account_record code hash name)
  unfolding account_record number_at
  is_good =
      let l : length (account_record code hash name) ≡ 22 + length name = length_account code hash name eh in
      let n = div-add-mod' (22 + length name) 256 in
      let c : code % 256 + code / 256 * 256 ≡ code = omega (arith, div-add-mod' code 256) in
      record {
        form = record { least = omega arith; counted = omega arith };
        account = λ _. record { least = omega arith; most = omega arith; code = rw c ec };
      }

  kind_is : kind_of (account_record code hash name) ≡ 1
  unfolding account_record number_at
  kind_is = refl

  name_is : record_name (account_record code hash name) ≡ name
  unfolding account_record
  name_is = drop_at (account_head (22 + length name) code ++ hash) name 22 (length-append (account_head (22 + length name) code) hash ∙ omega arith)

  pub code_is : code_of (account_record code hash name) ≡ code
  unfolding account_record number_at
  code_is = omega (arith, div-add-mod' code 256)

  pub hash_is : hash_of (account_record code hash name) ≡ hash
  unfolding account_record
  hash_is = ap (λ (n : ℕ). take n (hash ++ name)) (sym eh) ∙ take-append_seam hash name

  pub account_formed : well_formed (account_record code hash name) ≡ true
  unfolding flatten
  account_formed =
      let q : List ℕ = account_record code hash name in
      let l : length q ≡ 22 + length name = length_account code hash name eh in
      (so_table q (q ∷ []) (record { size = omega arith; joined = sym (append-nil q); good = more is_good none })).0

  pub is_account_lem : (user : List ℕ) → is_account_of user (account_record code hash name) ≡ same name user
  unfolding is_account_of
  is_account_lem user = rw (kind_is, name_is) (pick_true _ _ _ (eq-eqb 1 1 refl))

  -- a table of this record alone: it is the account of its name
  account_found : (user : List ℕ) → account_of (account_record code hash name) user ≡ pick (same name user) (placed 0 (account_record code hash name)) (placed (0 + length (account_record code hash name)) [])
  unfolding flatten account_of first_from
  account_found user =
      let q : List ℕ = account_record code hash name in
      let l : length q ≡ 22 + length name = length_account code hash name eh in
      let r : records q ≡ q ∷ [] = (so_table q (q ∷ []) (record { size = omega arith; joined = sym (append-nil q); good = more is_good none })).1 in
      ap (first_from 0 user) r ∙ ap (λ (b : Bool). pick b (placed 0 q) (placed (0 + length q) [])) (is_account_lem user)

  pub account_own : account_of (account_record code hash name) name ≡ placed 0 (account_record code hash name)
  account_own = account_found name ∙ pick_true _ _ _ (same_refl name)

pub record_formed : (code : ℕ) (hash name : List ℕ) → length hash ≡ 16 → well_formed (record_for code hash name) ≡ true
unfolding record_for
record_formed code hash name e =
    picked (λ (q : List ℕ). well_formed q ≡ true) (not (is_code code)) (λ _. empty_formed)
    (λ c.
    picked (λ (q : List ℕ). well_formed q ≡ true) _ (λ _. empty_formed)
    (λ h. account_formed code hash name e (ltb-false _ _ h) (not-false _ c)))

-- ---- a table with an account more
pub added_found : AddedFound
unfolding lookup_of is_account_of number_at pick
added_found t code hash name w eh en ec user =
    ap (lookup_of user) (joined_searched t q user w ∙ ap (λ (e : Placed). pick (is_account_of user (record_of t user)) (account_of t user) (further (length t) e)) (account_found code hash name eh en ec user))
    ∙ go (is_account_of user (record_of t user)) (same name user) refl
  where
    q : List ℕ
    q = account_record code hash name

    go : (a b : Bool) → same name user ≡ b
        → lookup_of user (pick a (account_of t user) (further (length t) (pick b (placed 0 q) (placed (0 + length q) []))))
        ≡ pick a (lookup_of user (account_of t user)) (pick b (account code (length t + 6)) absent)
    go true b e = refl
    go false true e = pick_true _ _ _ (is_account_lem code hash name eh en ec user ∙ e) ∙ rw (code_is code hash name eh en ec, add-zero (length t))
    go false false e = refl

pub added_hash : AddedHash
unfolding account_record
added_hash t code hash name e =
    ap (take 16) (drop-append-add t (account_record code hash name) 6)
    ∙ ap (λ (n : ℕ). take n (hash ++ name)) (sym e)
    ∙ take-append_seam hash name

-- ---- what `append` answers
fitted : (P : Outcome (Unit {0}) → Type 0) (room : ℕ) (o : Outcome (Unit {0})) → (room < length o.octets → P (refused 20 tt)) → (length o.octets ≤ room → P o) → P (fitting room tt o)
unfolding fitting
fitted P room o f g = picked P (ltb room (length o.octets)) (λ e. f (ltb-true _ _ e)) (λ e. g (ltb-false _ _ e))

answers : (d : List ℕ) (used code : ℕ) (hash name : List ℕ) → Appends d used code hash name (append_in d used code hash name)
unfolding append_in append_of grown
answers d used code hash name =
    picked P (ltb (length d) used) (λ e. past (ltb-true _ _ e))
    (λ h.
    picked P _ (λ w. malformed (ltb-false _ _ h) (not-true _ w))
    (λ w.
    picked P _ (λ c. no_code (ltb-false _ _ h) (not-false _ w) (not-true _ c))
    (λ c.
    picked P _ (λ m. long_name (ltb-false _ _ h) (not-false _ w) (not-false _ c) (ltb-true _ _ m)) (λ m. fits (has h w c m)))))
  where
    P : Outcome (Unit {0}) → Type 0
    P = Appends d used code hash name

    q : List ℕ
    q = take used d ++ account_record code hash name

    has : ltb (length d) used ≡ false → not (well_formed (take used d)) ≡ false → not (is_code code) ≡ false → ltb max_name (length name) ≡ false → Appending d used code name
    has h w c m = record { inside = ltb-false _ _ h; formed = not-false _ w; known = not-false _ c; short = ltb-false _ _ m }

    small : Appending d used code name → length q ≤ max_table → P (fitting (length d) tt (outcome 0 q tt))
    small a l = fitted P (length d) (outcome 0 q tt) (λ k. no_room a l k) (λ k. appends a l k)

    fits : Appending d used code name → P (fitting (length d) tt (fitting max_table tt (outcome 0 q tt)))
    fits a = fitted (λ (o : Outcome (Unit {0})). P (fitting (length d) tt o)) max_table (outcome 0 q tt) (λ k. fitted P (length d) (refused 20 tt) (λ z. absurd (omega arith)) (λ z. no_table a k)) (λ k. small a k)

-- and each comes in one way
module _ (d : List ℕ) (used code : ℕ) (hash name : List ℕ) where
  abbrev longer : Outcome (Unit {0})
  longer = outcome 0 (take used d ++ account_record code hash name) tt

  on_grown : Appending d used code name → append_in d used code hash name ≡ fitting (length d) tt (fitting max_table tt longer)
  unfolding append_in append_of grown
  on_grown a =
      pick_false _ _ _ (le-ltb _ _ a.inside) ∙ pick_false _ _ _ (ap not a.formed) ∙ pick_false _ _ _ (ap not a.known) ∙ pick_false _ _ _ (le-ltb _ _ a.short)

  only : (o : Outcome (Unit {0})) → Appends d used code hash name o → o ≡ append_in d used code hash name
  unfolding append_in append_of fitting
  only o (past h) = sym (pick_true _ _ _ (lt-ltb _ _ h))
  only o (malformed h w) = sym (pick_false _ _ _ (le-ltb _ _ h) ∙ pick_true _ _ _ (ap not w))
  only o (no_code h w c) = sym (pick_false _ _ _ (le-ltb _ _ h) ∙ pick_false _ _ _ (ap not w) ∙ pick_true _ _ _ (ap not c))
  only o (long_name h w c l) = sym (pick_false _ _ _ (le-ltb _ _ h) ∙ pick_false _ _ _ (ap not w) ∙ pick_false _ _ _ (ap not c) ∙ pick_true _ _ _ (lt-ltb _ _ l))
  only o (no_table a l) = sym (on_grown a ∙ ap (fitting (length d) tt) (pick_true _ _ _ (lt-ltb _ _ l)) ∙ pick_false _ _ _ (le-ltb (length d) 0 (omega arith)))
  only o (no_room a l m) = sym (on_grown a ∙ ap (fitting (length d) tt) (pick_false _ _ _ (le-ltb _ _ l)) ∙ pick_true _ _ _ (lt-ltb _ _ m))
  only o (appends a l m) = sym (on_grown a ∙ ap (fitting (length d) tt) (pick_false _ _ _ (le-ltb _ _ l)) ∙ pick_false _ _ _ (le-ltb _ _ m))

pub appends_exact : AppendsExact
appends_exact d used code hash name = (answers d used code hash name, only d used code hash name)

-- ---- a call that answered 0
record Wrote (d l hash name : List ℕ) (used code n : ℕ) : Type 0 where
  args : Appending d used code name
  small : length (take used d ++ account_record code hash name) ≤ max_table
  front : take n l ≡ take used d ++ account_record code hash name

wrote : (d l hash name : List ℕ) (used code n : ℕ) → Does (append_in d used code hash name) 0 n tt d l → Wrote d l hash name used code n
wrote d l hash name used code n done = go (answers d used code hash name) done
  where
    go : {o : Outcome (Unit {0})} → Appends d used code hash name o → Does o 0 n tt d l → Wrote d l hash name used code n
    go (past h) p = absurd (omega (arith, p.answered))
    go (malformed h w) p = absurd (omega (arith, p.answered))
    go (no_code h w c) p = absurd (omega (arith, p.answered))
    go (long_name h w c m) p = absurd (omega (arith, p.answered))
    go (no_table a k) p = absurd (omega (arith, p.answered))
    go (no_room a k m) p = absurd (omega (arith, p.answered))
    go (appends a k m) p =
        let q : List ℕ = take used d ++ account_record code hash name in
        record { args = a; small = k; front = rw (p.count, p.written) (take-append_seam q (drop (length q) d)) }

pub appended_formed : AppendedFormed
appended_formed d l hash name used code n eh p =
    let w = wrote d l hash name used code n p in
    let a = w.args in
    rw w.front (joined_formed (take used d) (account_record code hash name) a.formed (account_formed code hash name eh a.short a.known) w.small)

pub appended_found : AppendedFound
appended_found d l hash name used code n eh p user =
    let w = wrote d l hash name used code n p in
    let a = w.args in
    rw w.front (added_found (take used d) code hash name a.formed eh a.short a.known user)

pub appended_hash : AppendedHash
appended_hash d l hash name used code n eh p =
    let w = wrote d l hash name used code n p in
    rw w.front (added_hash (take used d) code hash name eh)
