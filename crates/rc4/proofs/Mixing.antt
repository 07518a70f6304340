-- The steps of the two loops.
use Prim.Native.Nat.{ℕ, ◌+◌, ◌%◌, ◌≤◌, ◌<◌}
use mathlib.Core.Path.{◌≡◌, refl, sym, ap, ◌∙◌}
use mathlib.Core.List.{List}
use native.Mathlib.Numerals.{add-one}
use native.Mathlib.Omega.{arith}
use lib.Bits.{bit_xor}
use lib.ListN.{length, get_or, drop, set}
use lib.Seq.{drop-set-lt, drop-drop, get_or-drop}
use borrow.Author.Rules.{rules}
use Rattle.octets.specs.Lists.{cells, turns}
use Rattle.octets.proofs.Loops.{Filled, fill_none, fill_more, fill_done, Turned, turn_done}
use Rattle.rc4.specs.declared.Mixed.{Mixed}
use Rattle.rc4.specs.Rc4.{mixed, after, output, stream_at, cipher_at, scheduled, enciphered}

-- ---- the key schedule
pub schedule_done : (key s₀ : List ℕ) (m : Mixed) (i : ℕ) → s₀ ≡ cells 256 (λ k. k) → Turned 256 mixed (λ k. get_or key (k % 16) 0) (record { s = s₀; j = 0 }) m i → 256 ≤ i → m.s ≡ scheduled key
unfolding scheduled
schedule_done key s₀ m i e p h =
    ap (λ (t : Mixed). t.s) (turn_done p h) ∙ ap (λ (l : List ℕ). (turns mixed (λ k. get_or key (k % 16) 0) (record { s = l; j = 0 }) 256).s) e

-- ---- the octets: k of m₀ are enciphered, and the place i is k
pub record Ciphering (m₀ s₀ : List ℕ) (state : Mixed) (m : List ℕ) (i k : ℕ) : Type 0 where
  pub place : i ≡ k % 256
  pub now : state ≡ after s₀ k
  pub filled : Filled (length m₀) (cipher_at s₀ m₀) m k
  pub rest : drop k m ≡ drop k m₀

pub cipher_none : {m s : List ℕ} → Ciphering m s (record { s = s; j = 0 }) m 0 0
unfolding after turns
cipher_none = record { place = refl; now = refl; filled = fill_none refl; rest = refl }

after_more : (s₀ : List ℕ) (k : ℕ) → after s₀ (k + 1) ≡ mixed ((k + 1) % 256) 0 (after s₀ k)
unfolding after turns
after_more s₀ k = ap (λ (n : ℕ). after s₀ n) (add-one k)

pub cipher_more : {m₀ s₀ m : List ℕ} {t t' : Mixed} {i i' k x : ℕ} → Ciphering m₀ s₀ t m i k → k < length m → i' ≡ (i + 1) % 256 → t' ≡ mixed i' 0 t → x ≡ output i' t' → Ciphering m₀ s₀ t' (set m k (bit_xor (get_or m k 0) x)) i' (k + 1)
unfolding cipher_at stream_at
cipher_more {m₀} {s₀} {m} {t} {t'} {i} {i'} {k} {x} p h d e o =
    let n : length m ≡ length m₀ = p.filled.long in
    let w : i' ≡ (k + 1) % 256 = omega (arith, p.place) in
    let st : t' ≡ after s₀ (k + 1) = rw w at e ∙ ap (mixed ((k + 1) % 256) 0) p.now ∙ sym (after_more s₀ k) in
    let z : k + 0 ≡ k = omega arith in
    let g : get_or m k 0 ≡ get_or m₀ k 0 = rw (get_or-drop, get_or-drop, z) at (ap (λ (q : List ℕ). get_or q 0 0) p.rest) in
    let xs : x ≡ stream_at s₀ k = rw w at o ∙ ap (output ((k + 1) % 256)) st in
    record {
      place = w;
      now = st;
      filled = fill_more p.filled (omega arith) (λ i. bit_xor (g i) (xs i));
      rest = drop-set-lt (k + 1) m k (bit_xor (get_or m k 0) x) (omega arith) ∙ next p.rest;
    }
  where
    next : drop k m ≡ drop k m₀ → drop (k + 1) m ≡ drop (k + 1) m₀
    next r = rw (drop-drop, drop-drop) at (ap (drop 1) r)

pub cipher_done : (key : List ℕ) {m₀ s₀ m : List ℕ} {t : Mixed} {i k : ℕ} → Ciphering m₀ s₀ t m i k → length m ≤ k → s₀ ≡ scheduled key → m ≡ enciphered key m₀
unfolding enciphered
cipher_done key {m₀} p h e = fill_done p.filled (omega arith) ∙ ap (λ (l : List ℕ). cells (length m₀) (cipher_at l m₀)) e

pub ruleset mixing = (rules, cipher_none, cipher_more, cipher_done)
