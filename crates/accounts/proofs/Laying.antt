-- Records laid down, and appended to tables: `search holding`, `search growing`, `search appends`.
use Prim.Native.Nat.{ℕ, ◌+◌, ◌-◌, ◌≤◌, ◌<◌}
use mathlib.Core.Path.{◌≡◌, refl, sym, ap, ◌∙◌}
use mathlib.Core.List.{List, [], ◌++◌, append-nil}
use mathlib.Core.Bool.{Bool, true, false, not}
use native.Mathlib.Omega.{arith}
use lib.ListN.{length, take, drop, length-append}
use Rattle.std.proofs.lemmas.List.{take-append-drop}
use native.Mathlib.Nat.{add-zero}
use lib.Seq.{length-take-le}
use lib.Dec.{eqb}
use borrow.Rule.Slice.PartMut.{put_mid}
use borrow.Author.Rules.{rules}
use borrow.Author.Tests.{lt-ltb, le-ltb, le-leb, lt-leb, ne_eqb}
use Rattle.octets.specs.Lists.{over, pasted, put, next_at, Appended}
use Rattle.octets.proofs.Exits.{pick_true, pick_false, picked, below, clash, or_none}
use Rattle.octets.proofs.Lists.{put_three, put_whole, put_fits}
use Rattle.octets.proofs.Appends.{append_not, append_part}
use Rattle.answer.specs.Outcome.{Outcome, outcome, refused, fitting, Does}
use Rattle.answer.specs.Sizes.{max_name}
use Rattle.answer.proofs.Outcomes.{does_by, fitting_so, fitting_not}
use Rattle.accounts.specs.Accounts.{is_code, well_formed, looked_of}
use Rattle.accounts.specs.Account.{account_head, account_record, record_for, max_table, grown, append_of, append_in, AppendedAt}
use Rattle.accounts.specs.declared.Account.{Account}
use Rattle.answer.specs.Answer.{refusal_of}
use Rattle.answer.specs.declared.Refusal.{Refusal}
use Rattle.answer.specs.declared.Refusal.TheVariants.{NoRoom}
use Rattle.answer.specs.Results.{Writes}
use Rattle.std.specs.Prelude.{Option, Some, None, Result, Ok, Err, ok_or, leb}
use Rattle.accounts.proofs.Tables.{table_so}
use Rattle.accounts.proofs.Lookups.{looked_formed, looked_refused, looked_why}

-- ---- records
pub length_account : (code : ℕ) (hash name : List ℕ) → length hash ≡ 16 → length (account_record code hash name) ≡ 22 + length name
unfolding account_record
length_account code hash name e =
    let h : List ℕ = account_head (22 + length name) code in
    length-append (h ++ hash) name ∙ omega (arith, length-append h hash)

-- three stores make the record
pub laid : (code : ℕ) (hash name head d l1 l2 l3 : List ℕ) → length d ≡ 22 + length name → length hash ≡ 16 → head ≡ account_head (22 + length name) code → l1 ≡ put d 0 head → l2 ≡ put l1 6 hash → l3 ≡ put l2 22 name → l3 ≡ account_record code hash name
unfolding account_record
laid code hash name head d l1 l2 l3 ed eh ek e1 e2 e3 =
    let h : List ℕ = account_head (22 + length name) code in
    let n : length (h ++ hash ++ name) ≡ 22 + length name = length_account code hash name eh in
    let f1 : l1 ≡ put d 0 h = e1 ∙ ap (put d 0) ek in
    put_three d h hash name l1 l2 l3 0 6 22 f1 e2 e3 refl (omega arith) (omega arith) ∙ put_whole d (h ++ hash ++ name) (omega arith)

-- a code fits 16 bits
large_none : (code : ℕ) → 650 ≤ code → is_code code ≡ false
unfolding is_code
large_none code h =
    let no : (k : ℕ) → k < 650 → eqb code k ≡ false = λ k l. ne_eqb code k (λ e. absurd (omega (arith, e))) in
    or_none _ _ (no 0 (omega arith)) (or_none _ _ (no 646 (omega arith)) (or_none _ _ (no 647 (omega arith)) (or_none _ _ (no 648 (omega arith)) (no 649 (omega arith)))))

pub code_small : (code : ℕ) (b : Bool) → b ≡ is_code code → b ≡ true → code < 65536
code_small code b e t = below code 65536 (λ h. h) (λ h. clash (large_none code (omega arith)) (sym e ∙ t))

put_nothing : (d : List ℕ) (i : ℕ) → put d i [] ≡ d
unfolding put pasted
put_nothing d i = picked (λ (l : List ℕ). l ≡ d) (leb (i + 0) (length d)) (λ _. ap (λ (n : ℕ). (take i d ++ []) ++ drop n d) (add-zero i) ∙ ap (λ (l : List ℕ). l ++ drop i d) (append-nil (take i d)) ∙ take-append-drop i d) (λ _. refl)

next_nothing : (d : List ℕ) (i : ℕ) → next_at d i [] ≡ i
unfolding next_at
next_nothing d i = picked (λ (n : ℕ). n ≡ i) (leb (i + 0) (length d)) (λ _. add-zero i) (λ _. refl)

put_short : (d q : List ℕ) (i : ℕ) → length d < i + length q → put d i q ≡ d
unfolding put
put_short d q i h = pick_false _ _ _ (lt-leb _ _ h)

module _ (d hash name : List ℕ) (at code : ℕ) (b : Bool) (e : b ≡ is_code code) where
  abbrev added : List ℕ
  added = record_for code hash name

  nothing_at : added ≡ [] → AppendedAt d at added None d
  nothing_at z = rw z (record { appended = record { place = sym (next_nothing d at); now = sym (put_nothing d at) }; further = λ n f. absurd (cc f) })

  pub no_code : b ≡ false → AppendedAt d at added None d
  unfolding record_for
  no_code f = nothing_at (pick_true _ _ _ (ap not (sym e ∙ f)))

  pub long_name : b ≡ true → max_name < length name → AppendedAt d at added None d
  unfolding record_for
  long_name t h = nothing_at (pick_false _ _ _ (ap not (sym e ∙ t)) ∙ pick_true _ _ _ (lt-ltb _ _ h))

  module _ (t : b ≡ true) (h : length name ≤ max_name) (eh : length hash ≡ 16) where
    pub is_record : added ≡ account_record code hash name
    unfolding record_for
    is_record = pick_false _ _ _ (ap not (sym e ∙ t)) ∙ pick_false _ _ _ (le-ltb _ _ h)

    long : length added ≡ 22 + length name
    long = ap length is_record ∙ length_account code hash name eh

    pub no_room : length d < 22 + length name → AppendedAt d at added None d
    no_room k = record { appended = append_not d added at (omega (arith, long)); further = λ n f. absurd (cc f) }

    pub past_room : 22 + length name ≤ length d → length d - (22 + length name) < at → AppendedAt d at added None d
    past_room k m = record { appended = append_not d added at (omega (arith, long)); further = λ n f. absurd (cc f) }

    pub has_room : (l : List ℕ) (n end : ℕ) → n ≡ 22 + length name → end ≡ at + n → n ≤ length d → at ≤ length d - n → l ≡ account_record code hash name
        → AppendedAt d at added (Some end) (put_mid at (end - at) d l)
    has_room l n end en ee k m p =
        record {
          appended = append_part d added l at end (omega (arith, long)) (omega arith) (p ∙ sym is_record);
          further = λ next f. let g : end ≡ next = cc f in omega arith;
        }

pub ruleset holding = (rules, no_code, long_name, no_room, past_room, has_room, code_small)

-- ---- a table with an account more
nothing : (number : ℕ) (b : List ℕ) → Does (refused {S = Unit {0}} number tt) number 0 tt b b
nothing number b = record { answered = refl; count = refl; left = refl; written = refl }

module _ (d hash name : List ℕ) (used code : ℕ) (h : used ≤ length d) (eh : length hash ≡ 16) where
  abbrev q : List ℕ
  q = take used d ++ account_record code hash name

  abbrev o : Outcome (Unit {0})
  o = outcome 0 q tt

  grown_length : length q ≡ used + (22 + length name)
  grown_length = length-append (take used d) (account_record code hash name) ∙ omega (arith, length-take-le used d h, length_account code hash name eh)

  pub grow_past : max_table < used + (22 + length name) → Does (grown (length d) (take used d) code hash name) 20 0 tt d d
  unfolding grown
  grow_past m =
      let f : fitting max_table tt o ≡ refused 20 tt = fitting_not max_table tt o (rw grown_length m) in
      does_by _ _ _ _ _ _ _ (nothing 20 d) (ap (fitting (length d) tt) f ∙ fitting_so (length d) tt (refused 20 tt) (omega arith))

  grow_fits : used + (22 + length name) ≤ max_table → fitting max_table tt o ≡ o
  grow_fits m = fitting_so max_table tt o (rw grown_length m)

  module _ (c : is_code code ≡ true) (m : length name ≤ max_name) (f : used + (22 + length name) ≤ max_table) where
    abbrev has : record_for code hash name ≡ account_record code hash name
    has = is_record d hash name used code true (sym c) refl m eh

    -- what was appended was the record, for which there was room; and else there was none
    grow_none : (l : List ℕ) → AppendedAt d used (record_for code hash name) None l → Does (grown (length d) (take used d) code hash name) 20 0 tt d l
    unfolding grown next_at
    grow_none l a =
        let b : Appended d used (account_record code hash name) used l = rw has at a.appended in
        let j : length (account_record code hash name) ≡ 22 + length name = length_account code hash name eh in
        below (length d) (used + (22 + length name))
        (λ k.
        let g : l ≡ d = b.now ∙ put_short d (account_record code hash name) used (omega arith) in
        rw g (does_by _ _ _ _ _ _ _ (nothing 20 d) (ap (fitting (length d) tt) (grow_fits f) ∙ fitting_not (length d) tt o (rw grown_length k))))
        (λ k. let e : used ≡ used + length (account_record code hash name) = b.place ∙ pick_true _ _ _ (le-leb _ _ (omega arith)) in absurd (omega arith))

    grow_some : (next : ℕ) (l : List ℕ) → AppendedAt d used (record_for code hash name) (Some next) l → Does (grown (length d) (take used d) code hash name) 0 next tt d l
    unfolding grown next_at
    grow_some next l a =
        let b : Appended d used (account_record code hash name) next l = rw has at a.appended in
        let j : length (account_record code hash name) ≡ 22 + length name = length_account code hash name eh in
        let m : used < next = a.further next refl in
        below (length d) (used + (22 + length name))
        (λ k. let e : next ≡ used = b.place ∙ pick_false _ _ _ (lt-leb _ _ (omega arith)) in absurd (omega arith))
        (λ k.
        let e : next ≡ used + length (account_record code hash name) = b.place ∙ pick_true _ _ _ (le-leb _ _ (omega arith)) in
        let w : next ≡ length q = omega (arith, grown_length) in
        let x : used + length (account_record code hash name) ≡ length q = omega (arith, grown_length) in
        let v : l ≡ over q d = b.now ∙ put_fits d (account_record code hash name) used (omega arith) ∙ ap (λ (p : ℕ). q ++ drop p d) x in
        does_by _ _ _ _ _ _ _ (record { answered = refl; count = w; left = refl; written = v })
        (ap (fitting (length d) tt) (grow_fits f) ∙ fitting_so (length d) tt o (rw grown_length k)))

    pub grow_by : (r : Option ℕ) (x : Result ℕ Refusal) (l : List ℕ) → AppendedAt d used (record_for code hash name) r l → x ≡ ok_or r NoRoom → Writes (grown (length d) (take used d) code hash name) x d l
    grow_by None x l a e = rw e (grow_none l a)
    grow_by (Some next) x l a e = rw e (grow_some next l a)

pub ruleset growing = (rules, grow_past, grow_by)

module _ (d hash name : List ℕ) (used code : ℕ) where
  pub append_past_end : length d < used → Does (append_in d used code hash name) 23 0 tt d d
  unfolding append_in
  append_past_end h = does_by _ _ _ _ _ _ _ (nothing 23 d) (pick_true _ _ _ (lt-ltb _ _ h))

  module _ (h : used ≤ length d) (front : List ℕ) (f : front ≡ take used d) where
    in_table : append_in d used code hash name ≡ append_of (length d) (take used d) code hash name
    unfolding append_in
    in_table = pick_false _ _ _ (le-ltb _ _ h)

    pub append_malformed : (why : Refusal) → Err why ≡ looked_of front name → Does (append_in d used code hash name) (refusal_of why) 0 tt d d
    unfolding append_of
    append_malformed why e =
        let w : well_formed (take used d) ≡ false = looked_refused _ name why (rw f at e) in
        rw (looked_why front name why e) (does_by _ _ _ _ _ _ _ (nothing 21 d) (in_table ∙ pick_true _ _ _ (ap not w)))

    module _ (a : Account) (e : Ok a ≡ looked_of front name) where
      formed : well_formed (take used d) ≡ true
      formed = looked_formed _ name a (rw f at e)

      module _ (c : Bool) (g : c ≡ is_code code) where
        pub append_no_code : c ≡ false → Does (append_in d used code hash name) 23 0 tt d d
        unfolding append_of
        append_no_code t = does_by _ _ _ _ _ _ _ (nothing 23 d) (in_table ∙ pick_false _ _ _ (ap not formed) ∙ pick_true _ _ _ (ap not (sym g ∙ t)))

        module _ (t : c ≡ true) where
          pub append_long : max_name < length name → Does (append_in d used code hash name) 23 0 tt d d
          unfolding append_of
          append_long m =
              does_by _ _ _ _ _ _ _ (nothing 23 d)
              (in_table ∙ pick_false _ _ _ (ap not formed) ∙ pick_false _ _ _ (ap not (sym g ∙ t)) ∙ pick_true _ _ _ (lt-ltb _ _ m))

          -- what `grow` asks for, and what it did
          pub append_ready : length name ≤ max_name → ((used ≤ length d) × (used ≤ max_table)) × ((is_code code ≡ true) × (length name ≤ max_name))
          append_ready m =
              let z : used ≤ max_table = omega (arith, length-take-le used d h, (table_so (take used d) formed).size) in
              ((h, z), (sym g ∙ t, m))

          pub append_grows : (x : Result ℕ Refusal) (l : List ℕ) → length name ≤ max_name → Writes (grown (length d) (take used d) code hash name) x d l
              → Writes (append_in d used code hash name) x d l
          unfolding append_of
          append_grows x l m p =
              does_by _ _ _ _ _ _ _ p
              (in_table ∙ pick_false _ _ _ (ap not formed) ∙ pick_false _ _ _ (ap not (sym g ∙ t)) ∙ pick_false _ _ _ (le-ltb _ _ m))

pub ruleset appends = (rules, append_past_end, append_malformed, append_no_code, append_long, append_ready, append_grows)
