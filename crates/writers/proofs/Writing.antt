-- The exits of a writer, and one answer for each: `search writes`. q is the packet, and l its length as the code has it.
use Prim.Native.Nat.{ℕ, ◌≤◌, ◌<◌}
use mathlib.Core.Path.{◌≡◌, refl, ap, ◌∙◌}
use mathlib.Core.List.{List}
use mathlib.Core.Bool.{Bool, true, false, not}
use lib.ListN.{length}
use borrow.Author.Rules.{rules}
use borrow.Author.Tests.{lt-ltb, le-ltb, le-leb, lt-leb}
use mathlib.Core.Logic.{inl, inr}
use Rattle.std.specs.Prelude.{Result, Err}
use Rattle.std.specs.Result.{IsErrAnd}
use Rattle.std.proofs.lemmas.Result.{err_from_is_err_and}
use Rattle.octets.specs.Lists.{put, Appended}
use Rattle.octets.proofs.Exits.{pick_true, pick_false, and_both, and_first, and_second}
use Rattle.octets.proofs.Appends.{appended_front}
use Rattle.answer.specs.declared.Refusal.{Refusal}
use Rattle.answer.specs.Answer.{refusal_of}
use Rattle.answer.specs.Results.{refusal_in, count_in}
use Rattle.answer.specs.Sizes.{max_packet}
use Rattle.answer.specs.Outcome.{outcome, refused, fitting, Does}
use Rattle.answer.proofs.Outcomes.{does_by, does_written, does_not, fitting_so, fitting_not}
use Rattle.writers.specs.Writers.{sends, writing, HasRoom}

nothing : (number k n : ℕ) (b : List ℕ) → k ≡ number → n ≡ 0 → Does (refused {S = Unit {0}} number tt) k n tt b b
nothing number k n b e z = record { answered = e; count = z; left = refl; written = refl }

pub not_sent : (k n : ℕ) (q b : List ℕ) → k ≡ 20 → n ≡ 0 → length b < length q → Does (sends (length b) q) k n tt b b
not_sent k n q b e z m = rw (e, z) (does_not tt tt 0 q b m)

pub all_sent : (k n : ℕ) (q b after : List ℕ) → k ≡ 0 → n ≡ length q → length q ≤ length b → after ≡ put b 0 q → Does (sends (length b) q) k n tt b after
all_sent k n q b after e i m w = rw (e, i) (does_written tt tt 0 q b after m w)

pub no_form : (formed : Bool) (room k n : ℕ) (q b : List ℕ) → k ≡ 23 → n ≡ 0 → formed ≡ false → Does (writing formed room q) k n tt b b
unfolding writing
no_form formed room k n q b e z f = does_by _ _ _ _ _ _ _ (nothing 23 k n b e z) (pick_true _ _ _ (ap not f))

pub too_long : (formed : Bool) (room l k n : ℕ) (q b : List ℕ) → k ≡ 23 → n ≡ 0 → formed ≡ true → length q ≡ l → max_packet < l → Does (writing formed room q) k n tt b b
unfolding writing
too_long formed room l k n q b e z f s h =
    let m : max_packet < length q = rw s h in
    does_by _ _ _ _ _ _ _ (nothing 23 k n b e z) (pick_false _ _ _ (ap not f) ∙ pick_true _ _ _ (lt-ltb _ _ m))

-- the packet is one
pub writing_so : (formed : Bool) (room : ℕ) (q : List ℕ) → formed ≡ true → length q ≤ max_packet → writing formed room q ≡ fitting room tt (outcome 0 q tt)
unfolding writing
writing_so formed room q f h = pick_false _ _ _ (ap not f) ∙ pick_false _ _ _ (le-ltb _ _ h)

pub no_room : (formed : Bool) (l k n : ℕ) (q b : List ℕ) → k ≡ 20 → n ≡ 0 → formed ≡ true → length q ≡ l → l ≤ max_packet → length b < l → Does (writing formed (length b) q) k n tt b b
no_room formed l k n q b e z f s h m =
    does_by _ _ _ _ _ _ _ (nothing 20 k n b e z) (writing_so formed (length b) q f (rw s h) ∙ fitting_not (length b) tt (outcome 0 q tt) (rw s m))

pub all_written : (formed : Bool) (l k n m : ℕ) (q b after : List ℕ) → k ≡ 0 → n ≡ m → formed ≡ true → length q ≡ l → l ≤ max_packet → l ≤ length b → Appended b 0 q m after → Does (writing formed (length b) q) k n tt b after
all_written formed l k n m q b after e i f s h r a =
    let room : length q ≤ length b = rw s r in
    let w = appended_front b q after m room a in
    does_by _ _ _ _ _ _ _
    (record { answered = e; count = i ∙ w.0; left = refl; written = w.1 })
    (writing_so formed (length b) q f (rw s h) ∙ fitting_so (length b) tt (outcome 0 q tt) room)

-- a refusal of check_room, as `?` passes it on
pub no_place : (formed : Bool) (l : ℕ) (q b : List ℕ) (why : Refusal) (r : Result ℕ Refusal) → IsErrAnd r (λ e. e ≡ why) → formed ≡ true → length q ≡ l → HasRoom l (length b) (Err why) → Does (writing formed (length b) q) (refusal_in r) (count_in r) tt b b
no_place formed l q b why r was f s h =
    let p = err_from_is_err_and r was in
    rw (p.1, p.2) (elim h [
      | inl x ↦ too_long formed (length b) l (refusal_of why) 0 q b x.0 refl f s x.1
      | inr x ↦ no_room formed l (refusal_of why) 0 q b x.0 refl f s x.1.0 x.1.1
    ])

pub ruleset writes = (rules, no_form, too_long, no_room, all_written, le-leb, lt-leb, and_both, and_first, and_second)
