-- The code of a line and what else it says, from what the calls say: `search codes`, `search entries`.
use Prim.Native.Nat.{ℕ, ◌+◌, ◌-◌, ◌<◌, ◌≤◌}
use mathlib.Core.Path.{◌≡◌, sym, ap, ◌∙◌}
use mathlib.Core.List.{List}
use mathlib.Core.Bool.{Bool, true, false, not}
use lib.ListN.{length, take, drop}
use lib.Dec.{eqb}
use borrow.Author.Tests.{eq-eqb, ne_eqb}
use borrow.Author.Rules.{rules}
use Rattle.std.specs.Prelude.{Option, Some, None, Result, Ok, Err}
use Rattle.octets.specs.Choice.{pick}
use Rattle.octets.specs.Octets.{octet_is}
use Rattle.octets.proofs.Exits.{pick_true, pick_false, came_eq, came_ne, came_gt, came_le}
use Rattle.roster.specs.Lines.{code_in, code_after, bad, some_entry, hash_mark, entry_with, entry_of}
use Rattle.roster.specs.declared.Entry.{Entry}
use Rattle.roster.specs.declared.BadLine.{BadLine}
use Rattle.roster.specs.declared.LineError.TheVariants as error
use Rattle.roster.proofs.Laws.{place_in, place_has, place_upto, place_inside, place_after, nowhere_has}

pub code_none : (s : List ℕ) → None ≡ place_in 9 s → Some 0 ≡ code_after s
unfolding code_after
code_none s e = sym (pick_true _ _ _ (ap not (nowhere_has 9 s e)))

pub code_third : (s : List ℕ) (n : ℕ) (r : Option ℕ) → Some n ≡ place_in 9 s → r ≡ code_in (take (length s - (n + 1)) (drop (n + 1) s)) → r ≡ code_after s
unfolding code_after
code_third s n r e m = m ∙ ap code_in (place_after 9 s n e) ∙ sym (pick_false _ _ _ (ap not (place_has 9 s n e)))

pub ruleset codes = (rules, place_inside, code_none, code_third)

-- the exits of a line, in order
module _ (s : List ℕ) where
  pub line_empty : length s ≡ 0 → Ok None ≡ entry_of s
  unfolding entry_of
  line_empty h = sym (pick_true _ _ _ (eq-eqb _ _ h))

  module _ (a : Bool) (h : length s ≡ 0 → ⊥) (ea : a ≡ octet_is s 0 hash_mark) where
    pub line_comment : a ≡ true → Ok None ≡ entry_of s
    unfolding entry_of
    line_comment t = sym (pick_false _ _ _ (ne_eqb _ _ h) ∙ pick_true _ _ _ (sym ea ∙ t))

    module _ (ta : a ≡ false) where
      begun : (z : Result (Option Entry) BadLine) → pick (eqb (length s) 0) (Ok None) (pick (octet_is s 0 hash_mark) (Ok None) z) ≡ z
      begun z = pick_false _ _ _ (ne_eqb _ _ h) ∙ pick_false _ _ _ (sym ea ∙ ta)

      pub line_bare : None ≡ place_in 9 s → Err (bad error.NoPassword 0 0) ≡ entry_of s
      unfolding entry_of
      line_bare e = sym (begun _ ∙ pick_true _ _ _ (ap not (nowhere_has 9 s e)))

      module _ (n : ℕ) (e : Some n ≡ place_in 9 s) where
        pub line_nameless : n ≡ 0 → Err (bad error.NoName 0 0) ≡ entry_of s
        unfolding entry_of
        line_nameless t = sym (begun _ ∙ pick_false _ _ _ (ap not (place_has 9 s n e)) ∙ pick_true _ _ _ (came_eq _ _ _ (place_upto 9 s n e) t))

        pub line_long : (n ≡ 0 → ⊥) → 256 < n → Err (bad error.LongName 0 0) ≡ entry_of s
        unfolding entry_of
        line_long t u = sym (begun _ ∙ pick_false _ _ _ (ap not (place_has 9 s n e)) ∙ pick_false _ _ _ (came_ne _ _ _ (place_upto 9 s n e) t) ∙ pick_true _ _ _ (came_gt _ _ _ (place_upto 9 s n e) u))

        module _ (t : n ≡ 0 → ⊥) (u : n ≤ 256) where
          whole : some_entry (entry_with s n) ≡ entry_of s
          unfolding entry_of
          whole =
              ap (λ (k : ℕ). some_entry (entry_with s k)) (place_upto 9 s n e)
              ∙ sym (begun _ ∙ pick_false _ _ _ (ap not (place_has 9 s n e)) ∙ pick_false _ _ _ (came_ne _ _ _ (place_upto 9 s n e) t) ∙ pick_false _ _ _ (came_le _ _ _ (place_upto 9 s n e) u))

          pub line_fault : (why : BadLine) → Err why ≡ entry_with s n → Err why ≡ entry_of s
          line_fault why f = ap some_entry f ∙ whole

          pub line_whole : (x : Entry) → Ok x ≡ entry_with s n → Ok (Some x) ≡ entry_of s
          line_whole x f = ap some_entry f ∙ whole

pub ruleset entries = (rules, line_empty, line_comment, line_bare, line_nameless, line_long, line_fault, line_whole)
