-- The tables of MD4's rounds, and a round of sixteen operations.
use Rattle.std.proofs.Common.{◌≡◌, ℕ, ◌*◌, ◌%◌, ◌<◌, ◌≤◌, Bool, true, ◌&&◌, ltb, List, get_or, refl, ◌∙◌, arith, w64, Fits, ltb-true}
use borrow.Author.Rules.{scaled_Fits}
use Rattle.octets.specs.Lists.{turns}
use Rattle.octets.proofs.Loops.{Turned, turn_done, turning}
use Rattle.octets.proofs.Tables.{below, first_of, second_of, at_each}
use mir.Syntax.{w32}
use Rattle.std.specs.Int.{rotate_left}
use Rattle.digest.specs.Words.{plus, rotl}
use Rattle.digest.specs.Md4.{function, constant, places, shifts, operation, round}
use Rattle.digest.proofs.Bits.{rotl_is}
use Rattle.digest.specs.declared.md4_rounds.Buffer.{Buffer}
use Rattle.digest.specs.declared.md4_rounds.Round.{Round}
use Rattle.digest.specs.declared.md4_rounds.Round.TheVariants.{First, Second, Third}

-- one operation, its parts in hand
pub operated : (n : Round) (s x : ℕ) (r : Buffer) (f k b : ℕ) → 0 < s → s < 32 → f ≡ function n r.b r.c r.d → k ≡ constant n → b ≡ rotate_left w32 (plus (plus (plus r.a f) x) k) s → record { a = r.d; b = b; c = r.b; d = r.c } ≡ operation n s x r
unfolding operation
operated n s x r f k b some few e g h =
    let sum = h ∙ rotl_is (plus (plus (plus r.a f) x) k) s some few in
    λ i. record { a = r.d; b = (sum ∙ (λ j. rotl s (plus (plus (plus r.a (e j)) x) (g j)))) i; c = r.b; d = r.c }

-- every place is one of the block's
inside : Round → ℕ → Bool
inside n t = ltb (get_or (places n) t 0) 16

all_inside : (n : Round) → below 16 (inside n) ≡ true
unfolding below inside
all_inside First = refl
all_inside Second = refl
all_inside Third = refl

pub place_inside : (n : Round) (ks : List ℕ) (t : ℕ) → ks ≡ places n → t < 16 → get_or ks t 0 < 16
unfolding inside
place_inside n ks t e h = rw e (ltb-true _ _ (at_each 16 (inside n) (all_inside n) t h))

-- so that its word can be read
pub place_fits : (n : Round) (ks : List ℕ) (t : ℕ) → ks ≡ places n → t < 16 → Fits w64 (get_or ks t 0 * 4)
place_fits n ks t e h = scaled_Fits (get_or ks t 0) 16 4 (place_inside n ks t e h) (omega arith)

-- every shift is one of 1 to 31
turning_by : Round → ℕ → Bool
turning_by n i = ltb 0 (get_or (shifts n) i 0) && ltb (get_or (shifts n) i 0) 32

all_turn : (n : Round) → below 4 (turning_by n) ≡ true
unfolding below turning_by
all_turn First = refl
all_turn Second = refl
all_turn Third = refl

pub shift_some : (n : Round) (ss : List ℕ) (t : ℕ) → ss ≡ shifts n → 0 < get_or ss (t % 4) 0
unfolding turning_by
shift_some n ss t e = rw e (ltb-true _ _ (first_of _ _ (at_each 4 (turning_by n) (all_turn n) (t % 4) (omega arith))))

pub shift_less : (n : Round) (ss : List ℕ) (t : ℕ) → ss ≡ shifts n → get_or ss (t % 4) 0 < 32
unfolding turning_by
shift_less n ss t e = rw e (ltb-true _ _ (second_of (ltb 0 (get_or (shifts n) (t % 4) 0)) _ (at_each 4 (turning_by n) (all_turn n) (t % 4) (omega arith))))

-- a round with the tables in hand
pub round_done : (n : Round) (ks ss block : List ℕ) (r q : Buffer) (t : ℕ) → Turned 16 (λ k. operation n (get_or ss (k % 4) 0)) (λ k. get_or block (get_or ks k 0) 0) r q t → 16 ≤ t → ks ≡ places n → ss ≡ shifts n → q ≡ round n block r
unfolding round
round_done n ks ss block r q t p h e f = turn_done p h ∙ (λ i. turns (λ k. operation n (get_or (f i) (k % 4) 0)) (λ k. get_or block (get_or (e i) k 0) 0) r 16)

pub ruleset md4_loops = (turning, place_inside, place_fits, shift_some, shift_less, round_done)
