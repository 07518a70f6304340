-- A lookup tells of the first record that names the user, and of none where none does.
use Prim.Native.Nat.{ℕ, ◌+◌, ◌<◌, ◌≤◌}
use native.Mathlib.Nat.{add_assoc, add-zero, zero-add}
use native.Mathlib.Omega.{arith}
use mathlib.Core.Path.{◌≡◌, refl, sym, ap, ◌∙◌}
use mathlib.Core.List.{List, [], ◌∷◌, ◌++◌, flatten}
use mathlib.Core.Bool.{true, false}
use lib.ListN.{length, take, drop, length-append, length-drop}
use lib.Seq.{take-append-le, drop-append-le, drop-append-add}
use borrow.Author.Tests.{eq-eqb, eqb-true, le-ltb, lt-ltb}
use Rattle.octets.specs.Choice.{pick}
use Rattle.octets.specs.Lists.{part}
use Rattle.octets.specs.Octets.{number_at, same}
use Rattle.octets.proofs.Exits.{pick_true, pick_false, pick_both, clash, tested, below, not_so, not_otherwise}
use Rattle.octets.proofs.Scans.{same_true, same_refl}
use Rattle.answer.specs.Outcome.{Told, gives, refuses}
use Rattle.answer.specs.Sizes.{max_name}
use Rattle.accounts.specs.Records.{records}
use Rattle.accounts.specs.Accounts.{code_of, hash_of, record_name, well_formed, is_account_of, Placed, placed, first_from, account_of, record_of, Lookup, absent, account, lookup_of, looked, looked_in, looked_of, find_told}
use Rattle.accounts.specs.declared.Account.{Account}
use Rattle.answer.specs.declared.Refusal.{Refusal}
use Rattle.answer.specs.declared.Refusal.TheVariants.{BadTable}
use Rattle.std.specs.Prelude.{Ok, Err}
use Rattle.accounts.specs.Table.{All, none, more, IsAccount, Names, NoneNames, FirstNames, Tells, tells_malformed, tells_long, tells_absent, tells_account}
use Rattle.accounts.specs.Promises.{LookupsExact}
use Rattle.accounts.proofs.Tables.{flatten_append, records_join, table_so, so_table, no_table, table_not}

-- ---- naming the user
named_so : (user r : List ℕ) → is_account_of user r ≡ true → Names user r
unfolding is_account_of
named_so user r e = let b = pick_both _ _ e in record { kind = eqb-true _ _ b.0; name = same_true _ _ b.1 }

pub so_named : (user r : List ℕ) → Names user r → is_account_of user r ≡ true
unfolding is_account_of
so_named user r n = pick_true _ _ _ (eq-eqb _ _ n.kind) ∙ ap (same (record_name r)) (sym n.name) ∙ same_refl (record_name r)

not_named : (user r : List ℕ) → (Names user r → ⊥) → is_account_of user r ≡ false
not_named user r n = tested (is_account_of user r) (λ e. absurd (n (named_so user r e))) (λ e. e)

-- ---- one record of the list
module _ (user : List ℕ) (at : ℕ) (r : List ℕ) (rs : List (List ℕ)) where
  first_here : is_account_of user r ≡ true → first_from at user (r ∷ rs) ≡ placed at r
  unfolding first_from
  first_here e = pick_true _ _ _ e

  first_on : is_account_of user r ≡ false → first_from at user (r ∷ rs) ≡ first_from (at + length r) user rs
  unfolding first_from
  first_on e = pick_false _ _ _ e

-- ---- no account
pub none_first : (user : List ℕ) (at : ℕ) (rs : List (List ℕ)) → NoneNames user rs → is_account_of user (first_from at user rs).octets ≡ false
unfolding first_from is_account_of number_at pick
none_first user at [] none = refl
none_first user at (r ∷ rs) (more h hs) = ap (λ (e : Placed). is_account_of user e.octets) (first_on user at r rs (not_named user r h)) ∙ none_first user (at + length r) rs hs

pub first_none : (user : List ℕ) (at : ℕ) (rs : List (List ℕ)) → is_account_of user (first_from at user rs).octets ≡ false → NoneNames user rs
first_none user at [] e = none
first_none user at (r ∷ rs) e = tested (is_account_of user r) yes (no (first_none user (at + length r) rs))
  where
    is : (x : Placed) → first_from at user (r ∷ rs) ≡ x → is_account_of user x.octets ≡ false
    is x q = ap (λ (y : Placed). is_account_of user y.octets) (sym q) ∙ e

    yes : is_account_of user r ≡ true → NoneNames user (r ∷ rs)
    yes t = clash (is (placed at r) (first_here user at r rs t)) t

    no : (is_account_of user (first_from (at + length r) user rs).octets ≡ false → NoneNames user rs) → is_account_of user r ≡ false → NoneNames user (r ∷ rs)
    no f t = more (λ n. clash t (so_named user r n)) (f (is _ (first_on user at r rs t)))

-- ---- the first account
pub names_first : (user : List ℕ) (at : ℕ) (rs : List (List ℕ)) (e : Placed) → FirstNames user at rs e → first_from at user rs ≡ e
unfolding flatten
names_first user at rs e f = ap (first_from at user) f.split ∙ go at f.before f.none ∙ ap (λ (n : ℕ). placed n e.octets) (sym f.place)
  where
    r : List ℕ
    r = e.octets

    go : (at : ℕ) (before : List (List ℕ)) → NoneNames user before → first_from at user (before ++ r ∷ f.after) ≡ placed (at + length (flatten before)) r
    go at [] none = first_here user at r f.after (so_named user r f.here) ∙ rw (add-zero at)
    go at (b ∷ bs) (more h hs) = first_on user at b (bs ++ r ∷ f.after) (not_named user b h) ∙ go (at + length b) bs hs ∙ rw (length-append b (flatten bs), add_assoc at (length b) (length (flatten bs)))

pub first_names : (user : List ℕ) (at : ℕ) (rs : List (List ℕ)) → is_account_of user (first_from at user rs).octets ≡ true → FirstNames user at rs (first_from at user rs)
unfolding first_from flatten is_account_of number_at pick
first_names user at [] e = clash refl e
first_names user at (r ∷ rs) e = tested (is_account_of user r) yes (no (first_names user (at + length r) rs))
  where
    yes : is_account_of user r ≡ true → FirstNames user at (r ∷ rs) (first_from at user (r ∷ rs))
    yes t = rw (first_here user at r rs t) (record { before = []; after = rs; split = refl; none = none; here = named_so user r t; place = sym (add-zero at) })

    no : (is_account_of user (first_from (at + length r) user rs).octets ≡ true → FirstNames user (at + length r) rs (first_from (at + length r) user rs)) → is_account_of user r ≡ false
        → FirstNames user at (r ∷ rs) (first_from at user (r ∷ rs))
    no f t =
        let o = first_on user at r rs t in
        let g = f (ap (λ (y : Placed). is_account_of user y.octets) (sym o) ∙ e) in
        rw o (record {
          before = r ∷ g.before;
          after = g.after;
          split = ap (λ (l : List (List ℕ)). r ∷ l) g.split;
          none = more (λ n. clash t (so_named user r n)) g.none;
          here = g.here;
          place = g.place ∙ rw (length-append r (flatten g.before), add_assoc at (length r) (length (flatten g.before)));
        })

-- ---- what `find` tells
pub lookup_none : (user : List ℕ) (e : Placed) → is_account_of user e.octets ≡ false → lookup_of user e ≡ absent
unfolding lookup_of
lookup_none user e h = pick_false _ _ _ h

pub lookup_some : (user : List ℕ) (e : Placed) → is_account_of user e.octets ≡ true → lookup_of user e ≡ account (code_of e.octets) (e.place + 6)
unfolding lookup_of
lookup_some user e h = pick_true _ _ _ h

pub find_malformed : (t user : List ℕ) → well_formed t ≡ false → find_told t user ≡ refuses 21 absent
unfolding find_told
find_malformed t user w = pick_true _ _ _ (not_otherwise _ w)

pub find_long : (t user : List ℕ) → well_formed t ≡ true → max_name < length user → find_told t user ≡ refuses 23 absent
unfolding find_told
find_long t user w h = pick_false _ _ _ (not_so _ w) ∙ pick_true _ _ _ (lt-ltb _ _ h)

pub find_gives : (t user : List ℕ) → well_formed t ≡ true → length user ≤ max_name → find_told t user ≡ gives (lookup_of user (account_of t user))
unfolding find_told
find_gives t user w h = pick_false _ _ _ (not_so _ w) ∙ pick_false _ _ _ (le-ltb _ _ h)

-- `Tells` has one answer, and it is this one
find_tells : (t user : List ℕ) → Tells t user (find_told t user)
unfolding account_of
find_tells t user =
    tested (well_formed t) yes (λ w. rw (find_malformed t user w) (tells_malformed (no_table t w)))
  where
    yes : well_formed t ≡ true → Tells t user (find_told t user)
    yes w =
        let h = table_so t w in
        below max_name (length user)
        (λ l. rw (find_long t user w l) (tells_long (records t) h l))
        (λ l. rw (find_gives t user w l)
        (tested (is_account_of user (record_of t user))
        (λ i. rw (lookup_some user (account_of t user) i) (tells_account (records t) h l (account_of t user) (first_names user 0 (records t) i)))
        (λ i. rw (lookup_none user (account_of t user) i) (tells_absent (records t) h l (first_none user 0 (records t) i)))))

tells_find : (t user : List ℕ) (x : Told Lookup) → Tells t user x → x ≡ find_told t user
unfolding account_of
tells_find t user x (tells_malformed f) = sym (find_malformed t user (table_not t f))
tells_find t user x (tells_long rs h l) = sym (find_long t user (so_table t rs h).0 l)
tells_find t user x (tells_absent rs h l n) =
    let p = so_table t rs h in
    sym (find_gives t user p.0 l ∙ ap gives (rw p.1 (lookup_none user (first_from 0 user rs) (none_first user 0 rs n))))
tells_find t user x (tells_account rs h l e f) =
    let p = so_table t rs h in
    sym (find_gives t user p.0 l ∙ ap gives (rw (p.1, names_first user 0 rs e f) (lookup_some user e (so_named user e.octets f.here))))

pub lookups_exact : LookupsExact
lookups_exact t user = (find_tells t user, tells_find t user)

-- ---- the account of a user in a well-formed table
all_at : {A : Type 0} {P : A → Type 0} (before : List A) (x : A) (after : List A) → All P (before ++ x ∷ after) → P x
all_at [] x after (more h hs) = h
all_at (b ∷ bs) x after (more h hs) = all_at bs x after hs

module _ (t user : List ℕ) (w : well_formed t ≡ true) (i : is_account_of user (record_of t user) ≡ true) where
  names : FirstNames user 0 (records t) (account_of t user)
  unfolding account_of
  names = first_names user 0 (records t) i

  split : t ≡ flatten names.before ++ (record_of t user ++ flatten names.after)
  unfolding flatten
  split = sym (records_join t) ∙ ap flatten names.split ∙ flatten_append names.before (record_of t user ∷ names.after)

  pub account_good_lem : IsAccount (record_of t user)
  account_good_lem = (all_at names.before (record_of t user) names.after (rw names.split at (table_so t w).good)).account names.here.kind

  -- the user has no more octets than a name
  pub account_short : length user ≤ max_name
  account_short =
      let m = account_good_lem.most in
      omega (arith, ap length names.here.name, length-drop 22 (record_of t user))

  -- its hash lies in the table
  pub account_inside : (account_of t user).place + 6 + 16 ≤ length t
  account_inside =
      let l = account_good_lem.least in
      let p = names.place in
      let j = length-append (flatten names.before) (record_of t user ++ flatten names.after) in
      omega (arith, ap length split, length-append (record_of t user) (flatten names.after))

  pub account_hash : part t ((account_of t user).place + 6) 16 ≡ hash_of (record_of t user)
  account_hash =
      let l = account_good_lem.least in
      let h : (account_of t user).place ≡ length (flatten names.before) = names.place ∙ rw (zero-add (length (flatten names.before))) in
      let six : 6 ≤ length (record_of t user) = omega arith in
      let sixteen : 16 ≤ length (drop 6 (record_of t user)) = rw (length-drop 6 (record_of t user)) (omega arith) in
      ap (λ (n : ℕ). part t (n + 6) 16) h
      ∙ ap (λ (l : List ℕ). part l (length (flatten names.before) + 6) 16) split
      ∙ ap (take 16) (drop-append-add (flatten names.before) (record_of t user ++ flatten names.after) 6 ∙ drop-append-le 6 (record_of t user) (flatten names.after) six)
      ∙ take-append-le 16 (drop 6 (record_of t user)) (flatten names.after) sixteen

-- ---- what `look` gives
module _ (t user : List ℕ) where
  pub looked_bad : well_formed t ≡ false → looked_of t user ≡ Err BadTable
  unfolding looked_of
  looked_bad w = pick_false _ _ _ w

  pub looked_good : well_formed t ≡ true → looked_of t user ≡ Ok (looked_in (lookup_of user (account_of t user)))
  unfolding looked_of
  looked_good w = pick_true _ _ _ w

  -- the user has an account
  pub looked_there : well_formed t ≡ true → is_account_of user (record_of t user) ≡ true → looked_of t user ≡ Ok (looked (code_of (record_of t user)) ((account_of t user).place + 6))
  looked_there w i = looked_good w ∙ ap (λ (m : Lookup). Ok (looked_in m)) (lookup_some user (account_of t user) i)

  -- or has none
  pub looked_none : well_formed t ≡ true → is_account_of user (record_of t user) ≡ false → looked_of t user ≡ Ok (looked 0 0)
  looked_none w i = looked_good w ∙ ap (λ (m : Lookup). Ok (looked_in m)) (lookup_none user (account_of t user) i)

  pub looked_formed : (a : Account) → Ok a ≡ looked_of t user → well_formed t ≡ true
  looked_formed a e = tested (well_formed t) (λ w. w) (λ w. absurd (cc (e, looked_bad w)))

  pub looked_refused : (why : Refusal) → Err why ≡ looked_of t user → well_formed t ≡ false
  looked_refused why e = tested (well_formed t) (λ w. absurd (cc (e, looked_good w))) (λ w. w)

  pub looked_why : (why : Refusal) → Err why ≡ looked_of t user → why ≡ BadTable
  looked_why why e = tested (well_formed t) (λ w. absurd (cc (e, looked_good w))) (λ w. cc (e, looked_bad w))
