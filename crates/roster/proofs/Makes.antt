-- A line taken, and all lines, turn by turn: `search takes`, `search makes`.
use Prim.Native.Nat.{ℕ, suc, ◌+◌, ◌-◌, ◌≤◌, ◌<◌}
use mathlib.Core.Path.{◌≡◌, refl, sym, ap, ◌∙◌}
use mathlib.Core.List.{List, [], ◌∷◌, ◌++◌}
use mathlib.Core.Bool.{Bool, true, false}
use native.Mathlib.Numerals.{add-one}
use native.Mathlib.Omega.{arith}
use lib.ListN.{length, take, drop, length-append, length-drop, take-append-drop}
use lib.Seq.{length-take-le, take-append_seam, drop-append-add, drop-drop}
use lib.Dec.{eqb}
use borrow.Author.Rules.{rules}
use borrow.Author.Tests.{eq-eqb, ne_eqb, lt-ltb, le-ltb, le-leb, lt-leb}
use Rattle.std.specs.Prelude.{Option, Some, None, Result, Ok, Err, is_err, ok_or}
use Rattle.octets.specs.Choice.{pick}
use Rattle.octets.specs.Lists.{over, put, next_at, Appended}
use Rattle.octets.specs.Octets.{octet_is}
use Rattle.octets.proofs.Exits.{pick_true, pick_false, below, tested, arms}
use Rattle.octets.proofs.Lists.{put_fits}
use Rattle.accounts.specs.Account.{record_for, next_or, AppendedAt}
use Rattle.roster.specs.Lines.{upto, before, after, trimmed, hash_mark, entry_of}
use Rattle.roster.proofs.Fields.{line_empty, line_comment}
use Rattle.roster.specs.Made.{lines_of, AfterLine, after_line, added_to, added_by, record_in, added_line, All, all, made_from, made_of, Makes, Takes, MadeBy}
use Rattle.roster.specs.declared.LineError.{LineError}
use Rattle.roster.specs.declared.LineError.TheVariants.{Full}
use Rattle.roster.specs.declared.Entry.{Entry}
use Rattle.roster.specs.declared.BadLine.{BadLine}

-- ---- buffers
over_own : (n : ℕ) (d : List ℕ) → n ≤ length d → d ≡ over (take n d) d
over_own n d h = let e : length (take n d) ≡ n = length-take-le n d h in rw e (sym (take-append-drop n d))

drop_over : (t d : List ℕ) (n : ℕ) → length t ≤ n → drop n (over t d) ≡ drop n d
drop_over t d n h =
    let e : n ≡ length t + (n - length t) = omega arith in
    ap (λ (k : ℕ). drop k (over t d)) e ∙ drop-append-add t (drop (length t) d) (n - length t) ∙ drop-drop (n - length t) (length t) d ∙ ap (λ (k : ℕ). drop k d) (sym e)

take_over : (t d l : List ℕ) (n : ℕ) → l ≡ over t d → n ≡ length t → take n l ≡ t
take_over t d l n e k = rw (e, k) (take-append_seam t (drop (length t) d))

-- a record appended to the first n octets of a buffer
module _ (d q l : List ℕ) (n r : ℕ) (h : n ≤ length d) (a : Appended d n q r l) where
  first_size : length (take n d) ≡ n
  first_size = length-take-le n d h

  pub appended_added : (r ≡ length (added_to (length d) (take n d) q)) × (l ≡ over (added_to (length d) (take n d) q) d)
  unfolding added_to next_at put
  appended_added =
      below (length d) (n + length q)
      (λ k.
      let m : length d < length (take n d) + length q = omega (arith, first_size) in
      let e : added_to (length d) (take n d) q ≡ take n d = pick_true _ _ _ (lt-ltb _ _ m) in
      (a.place ∙ pick_false _ _ _ (lt-leb _ _ k) ∙ sym first_size ∙ ap length (sym e), a.now ∙ pick_false _ _ _ (lt-leb _ _ k) ∙ over_own n d h ∙ ap (λ (t : List ℕ). over t d) (sym e)))
      (λ k.
      let j : length (take n d) + length q ≤ length d = omega (arith, first_size) in
      let e : added_to (length d) (take n d) q ≡ take n d ++ q = pick_false _ _ _ (le-ltb _ _ j) in
      let m : length (take n d ++ q) ≡ n + length q = length-append (take n d) q ∙ ap (λ (i : ℕ). i + length q) first_size in
      (a.place ∙ pick_true _ _ _ (le-leb _ _ k) ∙ sym m ∙ ap length (sym e), a.now ∙ put_fits d q n k ∙ ap (λ (i : ℕ). (take n d ++ q) ++ drop i d) (sym m) ∙ ap (λ (t : List ℕ). over t d) (sym e)))

-- ---- a line
makes_by : (o o' : AfterLine) (l : Result (Unit {0}) LineError) (n : ℕ) (d d' : List ℕ) → o ≡ o' → Makes o' l n d d' → Makes o l n d d'
makes_by o o' l n d d' e p = rw e p

module _ (d s : List ℕ) (n : ℕ) (h : n ≤ length d) where
  stays : (o : AfterLine) (r : Result (Unit {0}) LineError) → o ≡ after_line r (take n d) → Makes o r n d d
  stays o r e = makes_by _ _ _ n d d e (record { told = refl; count = sym (length-take-le n d h); written = over_own n d h })

  pub take_wrong : (bad : BadLine) → Err bad ≡ entry_of s → Makes (added_line (length d) (take n d) s) (Err bad.why) n d d
  unfolding added_line added_by
  take_wrong bad e = stays _ _ (ap (λ (x : Result (Option Entry) BadLine). added_by x (length d) (take n d) s) (sym e))

  pub take_none : Ok None ≡ entry_of s → Makes (added_line (length d) (take n d) s) (Ok tt) n d d
  unfolding added_line added_by
  take_none e = stays _ _ (ap (λ (x : Result (Option Entry) BadLine). added_by x (length d) (take n d) s) (sym e))

  pub take_blank : length s ≡ 0 → Makes (added_line (length d) (take n d) s) (Ok tt) n d d
  take_blank e = take_none (line_empty s e)

  pub take_comment : (a : Bool) → (length s ≡ 0 → ⊥) → a ≡ octet_is s 0 hash_mark → a ≡ true → Makes (added_line (length d) (take n d) s) (Ok tt) n d d
  take_comment a h e t = take_none (line_comment s a h e t)

  module _ (e : Entry) (ee : Ok (Some e) ≡ entry_of s) (x l : List ℕ) (ex : x ≡ take e.namelen s) where
    in_record : record_for e.code e.hash x ≡ record_in e s
    unfolding record_in
    in_record = ap (record_for e.code e.hash) ex

    new : List ℕ
    new = added_to (length d) (take n d) (record_in e s)

    chosen : added_line (length d) (take n d) s ≡ pick (eqb (length new) (length (take n d))) (after_line (Err Full) new) (after_line (Ok tt) new)
    unfolding added_line added_by new
    chosen = ap (λ (y : Result (Option Entry) BadLine). added_by y (length d) (take n d) s) (sym ee)

    module _ (r : Option ℕ) (a : AppendedAt d n (record_for e.code e.hash x) r l) where
      news : (next_or n r ≡ length new) × (l ≡ over new d)
      unfolding new
      news = appended_added d (record_in e s) l n (next_or n r) h (rw in_record at a.appended)

    take_full : AppendedAt d n (record_for e.code e.hash x) None l → Makes (added_line (length d) (take n d) s) (Err Full) n d l
    take_full a =
        let k : length new ≡ length (take n d) = sym (news None a).0 ∙ sym (length-take-le n d h) in
        makes_by _ _ _ n d l (chosen ∙ pick_true _ _ _ (eq-eqb _ _ k)) (record { told = refl; count = (news None a).0; written = (news None a).1 })

    take_more : (next : ℕ) → AppendedAt d n (record_for e.code e.hash x) (Some next) l → Makes (added_line (length d) (take n d) s) (Ok tt) next d l
    take_more next a =
        let f : n < next = a.further next refl in
        let m = (news (Some next) a).0 in
        let k : length new ≡ length (take n d) → ⊥ = λ y. absurd (omega (arith, length-take-le n d h)) in
        makes_by _ _ _ next d l (chosen ∙ pick_false _ _ _ (ne_eqb _ _ k)) (record { told = refl; count = m; written = (news (Some next) a).1 })

    pub take_account : (r : Option ℕ) (y : Result ℕ LineError) → AppendedAt d n (record_for e.code e.hash x) r l → y ≡ ok_or r Full → Takes (added_line (length d) (take n d) s) y n d l
    take_account None y a f = rw f (take_full a)
    take_account (Some next) y a f = rw f (take_more next a)

pub ruleset takes = (rules, take_wrong, take_none, take_blank, take_comment, take_account)

-- ---- lines
lines_next : (s : List ℕ) → 0 < length s → lines_of s ≡ before 10 s ∷ lines_of (after 10 s)
unfolding lines_of before after upto pick
lines_next [] h = absurd (omega arith)
lines_next (x ∷ xs) h = tested (eqb x 10) here (λ e. there e xs (lines_next xs))
  where
    here : eqb x 10 ≡ true → lines_of (x ∷ xs) ≡ before 10 (x ∷ xs) ∷ lines_of (after 10 (x ∷ xs))
    here e = rw e

    there : eqb x 10 ≡ false → (ys : List ℕ) → (0 < length ys → lines_of ys ≡ before 10 ys ∷ lines_of (after 10 ys)) → lines_of (x ∷ ys) ≡ before 10 (x ∷ ys) ∷ lines_of (after 10 (x ∷ ys))
    there e [] f = rw e
    there e (y ∷ ys) f = rw (e, f (omega arith)) (simp add-one)

added_least : (room : ℕ) (t s : List ℕ) → length t ≤ length (added_line room t s).table
unfolding added_line added_by added_to
added_least room t s = least (entry_of s)
  where
    grows : (q : List ℕ) → length t ≤ length (added_to room t q)
    grows q = arms (λ (l : List ℕ). length t ≤ length l) _ (omega arith) (omega (arith, length-append t q))

    least : (r : Result (Option Entry) BadLine) → length t ≤ length (added_by r room t s).table
    least (Err why) = omega arith
    least (Ok None) = omega arith
    least (Ok (Some e)) = arms (λ (x : AfterLine). length t ≤ length x.table) _ (grows (record_in e s)) (grows (record_in e s))

-- the lines before `left` made the table of len octets
pub record Making (text old dst : List ℕ) (lines len : ℕ) (left : List ℕ) : Type 0 where
  pub small : length old ≤ 65536
  pub long : length dst ≡ length old
  pub inside : len ≤ length dst
  pub kept : dst ≡ over (take len dst) old
  pub few : lines + length left ≤ length text
  pub is : made_from (length old) 0 [] (lines_of text) ≡ made_from (length old) lines (take len dst) (lines_of left)

pub making_none : (text old : List ℕ) → length old ≤ 65536 → Making text old old 0 0 text
making_none text old h = record { small = h; long = refl; inside = omega arith; kept = refl; few = omega arith; is = refl }

-- what is told, from what the definition gives
told_by : (text old dst : List ℕ) (o : AfterLine) (r : Result (Unit {0}) LineError) (len k : ℕ) → length old ≤ 65536 → made_from (length old) 0 [] (lines_of text) ≡ all o k → Makes o r len old dst → MadeBy text old dst r len k
unfolding made_of
told_by text old dst o r len k h e m =
    let w : made_of (length old) text ≡ all o k = pick_false _ _ _ (le-ltb _ _ h) ∙ e in
    record { makes = makes_by _ o r len old dst (ap (λ (x : All). x.last) w) m; count = sym (ap (λ (x : All). x.lines) w) }

pub told_long : (text old : List ℕ) → 65536 < length old → MadeBy text old old (Err Full) 0 0
unfolding made_of
told_long text old h =
    let w : made_of (length old) text ≡ all (after_line (Err Full) []) 0 = pick_true _ _ _ (lt-ltb _ _ h) in
    record { makes = makes_by _ (after_line (Err Full) []) (Err Full) 0 old old (ap (λ (x : All). x.last) w) (record { told = refl; count = refl; written = refl }); count = sym (ap (λ (x : All). x.lines) w) }

pub told_all : (text old dst left : List ℕ) (lines len : ℕ) → Making text old dst lines len left → length left ≤ 0 → MadeBy text old dst (Ok tt) len lines
unfolding lines_of made_from
told_all text old dst [] lines len p h =
    told_by text old dst (after_line (Ok tt) (take len dst)) (Ok tt) len lines p.small p.is (record { told = refl; count = sym (length-take-le len dst p.inside); written = p.kept })
told_all text old dst (y ∷ ys) lines len p h = absurd (omega arith)

after_less : (s : List ℕ) → 0 < length s → length (after 10 s) < length s
unfolding after
after_less s h = omega (arith, length-drop (upto 10 s + 1) s)

pub left_less : (left rest : List ℕ) → 0 < length left → rest ≡ after 10 left → length rest < length left
left_less left rest h e = rw e (after_less left h)

module _ (text old dst left s x dst' : List ℕ) (lines len : ℕ) (p : Making text old dst lines len left) (h : 0 < length left) (es : s ≡ before 10 left) (ex : x ≡ trimmed s) where
  o : AfterLine
  o = added_line (length old) (take len dst) (trimmed s)

  turned : (r : Result (Unit {0}) LineError) (n : ℕ) → Makes (added_line (length dst) (take len dst) x) r n dst dst' → Makes o r n dst dst'
  unfolding o
  turned r n m = rw (p.long, ex) at m

  made_next : made_from (length old) 0 [] (lines_of text) ≡ pick (is_err o.ended) (all o (suc lines)) (made_from (length old) (suc lines) o.table (lines_of (after 10 left)))
  unfolding o made_from
  made_next =
      let g : lines_of left ≡ s ∷ lines_of (after 10 left) = lines_next left h ∙ rw es in
      p.is ∙ rw g

  grown : over o.table dst ≡ over o.table old
  unfolding o
  grown =
      let f : length (take len dst) ≡ len = length-take-le len dst p.inside in
      let g = added_least (length old) (take len dst) (trimmed s) in
      ap (λ (z : List ℕ). o.table ++ z) (ap (drop (length o.table)) p.kept ∙ drop_over (take len dst) old (length o.table) g)

  pub told_fault : (why : LineError) → Makes (added_line (length dst) (take len dst) x) (Err why) len dst dst' → MadeBy text old dst' (Err why) len (lines + 1)
  told_fault why m =
      let t = turned (Err why) len m in
      let f : is_err o.ended ≡ true = ap is_err (sym t.told) in
      rw (add-one lines) (told_by text old dst' o (Err why) len (suc lines) p.small (made_next ∙ pick_true _ _ _ f) (record { told = t.told; count = t.count; written = t.written ∙ grown }))

  pub making_more : (n : ℕ) (rest : List ℕ) → Makes (added_line (length dst) (take len dst) x) (Ok tt) n dst dst' → length dst' ≡ length dst → rest ≡ after 10 left → Making text old dst' (lines + 1) n rest
  making_more n rest m e er =
      let t = turned (Ok tt) n m in
      let f : is_err o.ended ≡ false = ap is_err (sym t.told) in
      let w : dst' ≡ over o.table old = t.written ∙ grown in
      let z : take n dst' ≡ o.table = take_over o.table dst dst' n t.written t.count in
      let y : length dst' ≡ length o.table + length (drop (length o.table) dst) = ap length t.written ∙ length-append o.table _ in
      let k = left_less left rest h er in
      record {
        small = p.small;
        long = e ∙ p.long;
        inside = omega (arith, t.count);
        kept = w ∙ ap (λ (y : List ℕ). over y old) (sym z);
        few = omega (arith, p.few);
        is = made_next ∙ pick_false _ _ _ f ∙ rw (add-one lines, z, er);
      }

pub ruleset makes = (rules, making_none, making_more, left_less, told_long, told_all, told_fault)
