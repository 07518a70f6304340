-- Laws of outcomes, and one answer for a function that ends a call: `search does`.
use Prim.Native.Nat.{ℕ, ◌≤◌, ◌<◌}
use mathlib.Core.Path.{◌≡◌, refl, ◌∙◌}
use mathlib.Core.List.{List}
use lib.ListN.{length}
use borrow.Author.Tests.{lt-ltb, le-ltb}
use Rattle.octets.specs.Lists.{put}
use Rattle.octets.proofs.Exits.{exits, pick_true, pick_false}
use Rattle.octets.proofs.Lists.{put_front}
use Rattle.answer.specs.Outcome.{Outcome, outcome, refused, fitting, Does}

-- a call did what o' says, and o is o'
pub does_by : {S : Type 0} (o o' : Outcome S) (k n : ℕ) (s : S) (before after : List ℕ) → Does o' k n s before after → o ≡ o' → Does o k n s before after
does_by o o' k n s before after d e = rw e d

pub fitting_not : {S : Type 0} (room : ℕ) (s : S) (o : Outcome S) → room < length o.octets → fitting room s o ≡ refused 20 s
unfolding fitting
fitting_not room s o h = pick_true _ _ _ (lt-ltb _ _ h)

pub fitting_so : {S : Type 0} (room : ℕ) (s : S) (o : Outcome S) → length o.octets ≤ room → fitting room s o ≡ o
unfolding fitting
fitting_so room s o h = pick_false _ _ _ (le-ltb _ _ h)

-- what fits is written
pub does_written : {S : Type 0} (s next : S) (k : ℕ) (q before after : List ℕ) → length q ≤ length before → after ≡ put before 0 q → Does (fitting (length before) s (outcome k q next)) k (length q) next before after
does_written s next k q before after h e =
    rw (fitting_so (length before) s (outcome k q next) h) (record { answered = refl; count = refl; left = refl; written = e ∙ put_front before q h })

-- what does not fit leaves all as it was
pub does_not : {S : Type 0} (s next : S) (k : ℕ) (q before : List ℕ) → length before < length q → Does (fitting (length before) s (outcome k q next)) 20 0 s before before
does_not s next k q before h =
    rw (fitting_not (length before) s (outcome k q next) h) (record { answered = refl; count = refl; left = refl; written = refl })

pub ruleset does = (exits, does_by)
