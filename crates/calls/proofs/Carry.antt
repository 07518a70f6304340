-- A run at the boundary shows what the run by value shows, where each call does.
use Prim.Native.Nat.{ℕ, ◌≤◌}
use mathlib.Core.Path.{◌≡◌, refl, ap, subst, ◌∙◌}
use mathlib.Core.List.{List, [], ◌∷◌}
use mathlib.Core.Bool.{Bool, true, false, ◌&&◌}
use lib.ListN.{length}
use lib.Dec.{ltb}
use borrow.Author.Tests.{ltb-false}
use Rattle.octets.specs.Choice.{pick}
use Rattle.octets.proofs.Exits.{pick_true, pick_false, tested, clash}
use Rattle.answer.specs.Outcome.{Outcome, refused}
use Rattle.answer.specs.Runs.{run}
use Rattle.packet.specs.declared.Place.{Place}
use Rattle.packet.specs.Reader.{nowhere}
use Rattle.peer.specs.Calls.{text_by}
use Rattle.calls.specs.Done.{word_of, text_bits, Done, unsized, ended, telling}
use Rattle.calls.specs.Run.{Shown, shown_at, shown, Carried}
use Rattle.calls.proofs.Laws.{telling_quiet}

-- a call at the boundary, on n octets, shows the outcome o, and tells a text where that is no refusal
pub record Shows {S : Type 0} (decode : List ℕ → S) (n : ℕ) (d : Done) (text : Place) (o : Outcome S) (reply : List ℕ) : Type 0 where
  pub same : shown_at decode d ≡ shown text o reply
  pub long : length d.state ≡ n

pub carry : {C S : Type 0} (decode : List ℕ → S) (n : ℕ) (call_at : List ℕ → C → Done) (call : S → C → Outcome S) (text : C → Place) (reply : C → List ℕ)
    → ((c : C) (s : List ℕ) → length s ≡ n → Shows decode n (call_at s c) (text c) (call (decode s) c) (reply c)) → Carried decode n call_at call text reply
unfolding run
carry decode n call_at call text reply f [] s h = refl
carry {C} {S} decode n call_at call text reply f (c ∷ cs) s h =
    let z = f c s h in
    let e : decode (call_at s c).state ≡ (call (decode s) c).state = ap (λ (x : Shown S). x.state) z.same in
    let t = carry decode n call_at call text reply f cs (call_at s c).state z.long in
    (λ i. z.same i ∷ (t ∙ ap (λ (p : S). run (λ (v : Shown S). v.state) (λ (p : S) (c : C). shown (text c) (call p c) (reply c)) p cs) e) i)

-- a call of an end leaves a value of its struct, and a refused one the state that it took
pub record Proper {S : Type 0} (Is : S → Type 0) (p : S) (o : Outcome S) : Type 0 where
  pub is : Is o.state
  pub still : 10 ≤ o.number → o.state ≡ p

-- what it did is told so
pub telling_shows : {S : Type 0} (octetsOf : S → List ℕ) (decode : List ℕ → S) (Is : S → Type 0) (n : ℕ)
    → ((p : S) → Is p → decode (octetsOf p) ≡ p) → ((p : S) → Is p → length (octetsOf p) ≡ n)
    → (text : Place) (o : Outcome S) (s reply : List ℕ) → length s ≡ n → Proper Is (decode s) o → Shows decode n (telling (text_by o.number text) (ended octetsOf o s reply)) text o reply
unfolding ended telling
telling_shows octetsOf decode Is n back long text o s reply h k =
    tested (ltb o.number 10)
    (λ e. rw (pick_true (ltb o.number 10) (octetsOf o.state) s e) (record { same = rw (back o.state k.is); long = long o.state k.is }))
    (λ e. rw (pick_false (ltb o.number 10) (octetsOf o.state) s e) (record { same = rw (k.still (ltb-false _ _ e)); long = h }))

-- and with no text
pub ended_shows : {S : Type 0} (octetsOf : S → List ℕ) (decode : List ℕ → S) (Is : S → Type 0) (n : ℕ)
    → ((p : S) → Is p → decode (octetsOf p) ≡ p) → ((p : S) → Is p → length (octetsOf p) ≡ n)
    → (o : Outcome S) (s reply : List ℕ) → length s ≡ n → Proper Is (decode s) o → Shows decode n (ended octetsOf o s reply) nowhere o reply
ended_shows octetsOf decode Is n back long o s reply h k =
    subst (λ (d : Done). Shows decode n d nowhere o reply) (telling_quiet o.number (ended octetsOf o s reply)) (telling_shows octetsOf decode Is n back long nowhere o s reply h k)

-- the sizes: a of the state, b of the rest
pub sized_shows : {S : Type 0} (decode : List ℕ → S) (n : ℕ) (a b : Bool) (d : Done) (s reply : List ℕ) (text : Place) (o : Outcome S) → a ≡ true → length s ≡ n
    → (b ≡ true → Shows decode n d text o reply) → Shows decode n (pick (a && b) d (unsized s reply)) text (pick b o (refused 23 (decode s))) reply
unfolding pick word_of text_by text_bits
sized_shows decode n true true d s reply text o e h f = f refl
sized_shows decode n true false d s reply text o e h f = record { same = refl; long = h }
sized_shows decode n false b d s reply text o e h f = clash refl e
