-- The walk over a table, turn by turn, and one answer for its needs: `search walks`.
use Prim.Native.Nat.{ℕ, ◌+◌, ◌-◌, ◌<◌, ◌≤◌}
use mathlib.Core.Path.{◌≡◌, refl, sym, ap, ◌∙◌}
use mathlib.Core.List.{List, [], ◌∷◌}
use mathlib.Core.Bool.{Bool, true, false, not}
use native.Mathlib.Omega.{arith}
use lib.ListN.{length, take, drop, length-drop}
use lib.Dec.{eqb}
use borrow.Author.Rules.{rules}
use borrow.Author.Tests.{lt-ltb, le-ltb, eq-eqb, ne_eqb, eqb-true}
use Rattle.octets.specs.Choice.{pick}
use Rattle.octets.specs.Octets.{number_at, same}
use Rattle.octets.proofs.Exits.{pick_true, pick_false, tested, arms, and_both}
use Rattle.octets.proofs.Parts.{rest_all}
use Rattle.answer.specs.Outcome.{gives, refuses}
use Rattle.answer.specs.Sizes.{max_name}
use Rattle.accounts.specs.Inner.{IsFirst, IsNone, kept_from, walked, kept, lookup_in}
use Rattle.accounts.specs.Records.{kind_of, records, every, sound}
use Rattle.accounts.specs.Accounts.{code_of, record_good, well_formed, is_account_of, placed, first_from, account_of, record_of, Lookup, absent, lookup_of, looked, looked_in, looked_of, check_number, find_told}
use Rattle.accounts.specs.declared.Account.{Account}
use Rattle.answer.specs.Answer.{refusal_of}
use Rattle.answer.specs.declared.Refusal.{Refusal}
use Rattle.answer.specs.declared.Refusal.TheVariants.{BadTable}
use Rattle.std.specs.Prelude.{Result, Ok, Err}
use Rattle.accounts.proofs.Records.{next, none_good, good_all, ends}
use Rattle.accounts.proofs.Tables.{good_so}
use Rattle.accounts.proofs.Lookups.{lookup_some, lookup_none, looked_formed, looked_bad, looked_good, looked_refused, looked_why, looked_there, looked_none, find_malformed, find_long, find_gives}

-- a turn's part at the good record q: whether it is an account of the user
module _ (q : List ℕ) (kind : ℕ) (k : kind ≡ kind_of q) where
  pub named_long : record_good q ≡ true → kind ≡ 1 → 22 ≤ length q
  named_long g h = (good_so q g (sym k ∙ h)).least

  pub named_few : record_good q ≡ true → kind ≡ 1 → length q ≤ 278
  named_few g h = (good_so q g (sym k ∙ h)).most

  module _ (user : List ℕ) (known : Account) (at : ℕ) where
    pub keep_account : (here : Bool) (code hash : ℕ) (r : Account) → kind ≡ 1 → here ≡ same (drop 22 q) user → code ≡ code_of q → hash ≡ at + 6 → r ≡ pick (not here) known (pick (eqb known.hash 0) (record { code = code; hash = hash }) known)
        → r ≡ kept user known at q
    unfolding is_account_of
    keep_account here code hash r h e c z f = f ∙ rw (e, c, z, pick_true (eqb (kind_of q) 1) (same (drop 22 q) user) false (eq-eqb _ _ (sym k ∙ h))) refl

    pub keep_other : (kind ≡ 1 → ⊥) → known ≡ kept user known at q
    unfolding is_account_of
    keep_other h = sym (pick_true _ _ _ (ap not (pick_false _ _ _ (ne_eqb _ _ (λ e. h (k ∙ e))))))

pub ruleset keeps = (rules, named_long, named_few, keep_account, keep_other)

-- ---- a walk, whatever it keeps of the records
module _ {K : Type 0} (keep : K → ℕ → List ℕ → K) (t : List ℕ) (start : K) where
  -- with k kept of the records before rs, the first of which stands at `at`
  unfoldable pub sees : K → ℕ → List (List ℕ) → Result K Refusal
  sees k at rs = pick (good_all rs) (Ok (kept_from keep k at rs)) (Err BadTable)

  -- the loop: all but l is behind
  pub record Walking (k : K) (l : List ℕ) : Type 0 where
    pub size : length t ≤ 65536
    pub most : length l ≤ length t
    pub is : walked keep start t ≡ sees k (length t - length l) (records l)

  pub walk_long : 65536 < length t → Err BadTable ≡ walked keep start t
  unfolding well_formed walked
  walk_long h = sym (pick_false _ _ _ (pick_true _ _ _ (lt-ltb _ _ h)))

  pub walk_none : length t ≤ 65536 → Walking start t
  unfolding well_formed sound walked sees
  walk_none h =
      let e : length t - length t ≡ 0 = omega arith in
      record { size = h; most = omega arith; is = rw e (ap (λ (b : Bool). pick b (Ok (kept_from keep start 0 (records t))) (Err BadTable)) (pick_false _ false (sound record_good t) (le-ltb _ _ h))) }

  module _ (k : K) (l : List ℕ) (w : Walking k l) where
    pub walk_bad : 0 < length l → IsNone l → Err BadTable ≡ walked keep start t
    unfolding sees
    walk_bad h z = sym (w.is ∙ pick_false _ _ _ (none_good l h z))

    pub walk_more : (q : List ℕ) → IsFirst l q → (m : K) → m ≡ keep k (length t - length l) q → Walking m (take (length l - length q) (drop (length q) l))
    unfolding sees every kept_from
    walk_more q f m e =
        let p = next l q f in
        let a : length t - length (drop (length q) l) ≡ length t - length l + length q = omega (arith, w.most, length-drop (length q) l) in
        let g : good_all (q ∷ records (drop (length q) l)) ≡ good_all (records (drop (length q) l)) = pick_true _ _ _ (and_both _ _ p.framed f.good) in
        rw (rest_all l (length q)) record {
          size = w.size;
          most = omega (arith, w.most, length-drop (length q) l);
          is = w.is ∙ rw (p.is, g, e, a);
        }

    pub walk_done : length l ≤ 0 → Ok k ≡ walked keep start t
    unfolding sees every kept_from pick
    walk_done h = sym (w.is ∙ ap (sees k (length t - length l)) (ends l (omega arith)))

pub walk_fits : (l q : List ℕ) → IsFirst l q → length q ≤ length l
walk_fits l q f = (next l q f).fits

pub walk_less : (l q : List ℕ) → IsFirst l q → length (take (length l - length q) (drop (length q) l)) < length l
walk_less l q f = let p = next l q f in rw (rest_all l (length q)) (omega (arith, length-drop (length q) l))

pub ruleset walks = (rules, walk_long, walk_none, walk_bad, walk_fits, walk_less, walk_more, walk_done)

-- ---- a walk that looks for nobody
module _ {K : Type 0} (keep : K → ℕ → List ℕ → K) (t : List ℕ) (start : K) where
  walked_formed : (x : K) → Ok x ≡ walked keep start t → well_formed t ≡ true
  unfolding walked
  walked_formed x e = tested (well_formed t) (λ w. w) (λ w. absurd (cc (e, pick_false (well_formed t) (Ok (kept_from keep start 0 (records t))) (Err BadTable) w)))

  walked_why : (why : Refusal) → Err why ≡ walked keep start t → (well_formed t ≡ false) × (why ≡ BadTable)
  unfolding walked
  walked_why why e =
      tested (well_formed t) (λ w. absurd (cc (e, pick_true (well_formed t) (Ok (kept_from keep start 0 (records t))) (Err BadTable) w)))
      (λ w. (w, cc (e, pick_false (well_formed t) (Ok (kept_from keep start 0 (records t))) (Err BadTable) w)))

  pub check_good : (x : K) → Ok x ≡ walked keep start t → 0 ≡ check_number t
  unfolding check_number
  check_good x e = sym (pick_false _ _ _ (ap not (walked_formed x e)))

  pub check_bad : (why : Refusal) → Err why ≡ walked keep start t → refusal_of why ≡ check_number t
  unfolding check_number
  check_bad why e = let p = walked_why why e in rw p.1 (sym (pick_true _ _ _ (ap not p.0)))

-- ---- a walk that looks for an account: with an account known of the records before
abbrev settled : Account → Lookup → Account
settled k m = pick (eqb k.hash 0) (looked_in m) k

settled_more : (user : List ℕ) (k : Account) (at : ℕ) (q : List ℕ) (rs : List (List ℕ))
    → settled k (lookup_of user (first_from at user (q ∷ rs))) ≡ settled (kept user k at q) (lookup_of user (first_from (at + length q) user rs))
unfolding first_from lookup_of pick
settled_more user k at q rs = go (is_account_of user q) refl (eqb k.hash 0) refl
  where
    m : Lookup
    m = lookup_of user (first_from (at + length q) user rs)

    go : (a : Bool) → is_account_of user q ≡ a → (b : Bool) → eqb k.hash 0 ≡ b
        → pick b (looked_in (lookup_of user (pick a (placed at q) (first_from (at + length q) user rs)))) k
        ≡ settled (pick (not a) k (pick b (record { code = code_of q; hash = at + 6 }) k)) m
    go true e true f = ap looked_in (pick_true _ _ _ e) ∙ sym (pick_false _ (looked_in m) _ (ne_eqb (at + 6) 0 (λ z. omega arith)))
    go true e false f = sym (pick_false _ _ _ f)
    go false e true f = sym (pick_true _ _ _ f)
    go false e false f = sym (pick_false _ _ _ f)

-- an account that is none is zeros
abbrev IsPlain : Account → Type 0
IsPlain k = k.hash ≡ 0 → k.code ≡ 0

kept_plain : (user : List ℕ) (k : Account) (at : ℕ) (q : List ℕ) → IsPlain k → IsPlain (kept user k at q)
kept_plain user k at q n = arms IsPlain _ n (arms IsPlain _ (λ z. absurd (omega arith)) n)

none_found : (user : List ℕ) (at : ℕ) → lookup_of user (first_from at user []) ≡ absent
unfolding first_from lookup_of is_account_of number_at pick
none_found user at = refl

module _ {K : Type 0} (keep : K → ℕ → List ℕ → K) (known : K → Account) (user : K → List ℕ) (keeps : (k : K) (at : ℕ) (r : List ℕ) → known (keep k at r) ≡ kept (user k) (known k) at r)
    (stays : (k : K) (at : ℕ) (r : List ℕ) → user (keep k at r) ≡ user k) where
  kept_is : (k : K) (at : ℕ) (rs : List (List ℕ)) → IsPlain (known k) → known (kept_from keep k at rs) ≡ settled (known k) (lookup_of (user k) (first_from at (user k) rs))
  unfolding kept_from
  kept_is k at [] n = plain ∙ ap (settled (known k)) (sym (none_found (user k) at))
    where
      plain : known k ≡ settled (known k) absent
      plain =
          tested (eqb (known k).hash 0) (λ z. let e : (known k).hash ≡ 0 = eqb-true _ _ z in (λ j. looked (n e j) (e j)) ∙ sym (pick_true _ _ _ z))
          (λ z. sym (pick_false _ _ _ z))
  kept_is k at (r ∷ rs) n =
      let p : IsPlain (known (keep k at r)) = rw (keeps k at r) (kept_plain (user k) (known k) at r n) in
      kept_is (keep k at r) (at + length r) rs p ∙ rw (keeps k at r, stays k at r) (sym (settled_more (user k) (known k) at r rs))

  module _ (t : List ℕ) (start : K) where
    pub look_bad : (why : Refusal) → Err why ≡ walked keep start t → Err why ≡ looked_of t (user start)
    look_bad why e = let p = walked_why keep t start why e in rw p.1 (sym (looked_bad t (user start) p.0))

    pub look_good : (x : K) → known start ≡ looked 0 0 → Ok x ≡ walked keep start t → Ok (known x) ≡ looked_of t (user start)
    unfolding walked account_of
    look_good x s e =
        let w : well_formed t ≡ true = walked_formed keep t start x e in
        let f : x ≡ kept_from keep start 0 (records t) = cc (e, pick_true (well_formed t) (Ok (kept_from keep start 0 (records t))) (Err BadTable) w) in
        let n : IsPlain (known start) = rw s (λ _. refl) in
        let m : Lookup = lookup_of (user start) (account_of t (user start)) in
        rw f (ap Ok (kept_is start 0 (records t) n ∙ ap (λ (k : Account). settled k m) s ∙ pick_true _ _ _ refl)) ∙ sym (looked_good t (user start) w)

-- ---- what `find` makes of it
module _ (t user : List ℕ) where
  pub find_bad : (why : Refusal) → Err why ≡ looked_of t user → refuses (refusal_of why) absent ≡ find_told t user
  find_bad why e = rw (looked_why t user why e) (sym (find_malformed t user (looked_refused t user why e)))

  pub find_over : (a : Account) → Ok a ≡ looked_of t user → max_name < length user → refuses 23 absent ≡ find_told t user
  find_over a e l = sym (find_long t user (looked_formed t user a e) l)

  pub find_there : (a : Account) (m : Lookup) → Ok a ≡ looked_of t user → m ≡ lookup_in a → length user ≤ max_name → gives m ≡ find_told t user
  find_there a m e f l =
      let w = looked_formed t user a e in
      ap gives (f ∙ tested (is_account_of user (record_of t user)) (λ i. some i (cc (e, looked_there t user w i))) (λ i. none i (cc (e, looked_none t user w i)))) ∙ sym (find_gives t user w l)
    where
      some : is_account_of user (record_of t user) ≡ true → a ≡ looked (code_of (record_of t user)) ((account_of t user).place + 6) → lookup_in a ≡ lookup_of user (account_of t user)
      some i g = rw g (pick_false _ _ _ (ne_eqb ((account_of t user).place + 6) 0 (λ z. omega arith))) ∙ sym (lookup_some user (account_of t user) i)

      none : is_account_of user (record_of t user) ≡ false → a ≡ looked 0 0 → lookup_in a ≡ lookup_of user (account_of t user)
      none i g = rw g (pick_true _ _ _ refl) ∙ sym (lookup_none user (account_of t user) i)

pub ruleset finds = (rules, find_bad, find_over, find_there)
