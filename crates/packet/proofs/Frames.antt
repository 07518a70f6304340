-- Frame and Type of any packet of EAP, whatever follows.
use Prim.Native.Nat.{ℕ, ◌+◌, ◌≤◌, ◌<◌}
use mathlib.Core.Path.{◌≡◌, refl, sym, ap, ◌∙◌}
use mathlib.Core.Bool.{Bool, true, false, not, ◌&&◌, ◌||◌}
use mathlib.Core.List.{List, ◌++◌}
use native.Mathlib.Omega.{arith}
use lib.ListN.{length, get_or, take, length-append}
use lib.Seq.{length-take-le, take_at}
use lib.Dec.{ltb, eqb}
use borrow.Author.Tests.{ltb-true, ltb-false, lt-ltb, le-ltb}
use Rattle.std.specs.Prelude.{Result, Ok, Err}
use Rattle.octets.specs.Choice.{pick}
use Rattle.octets.proofs.Exits.{wide, arms, picked, tested, pick_true, pick_false, or_first, or_none}
use Rattle.octets.proofs.Scans.{get_or_past}
use Rattle.answer.specs.declared.Refusal.{Refusal}
use Rattle.answer.specs.Answer.{refusal_of}
use Rattle.answer.specs.Outcome.{Told, gives, refuses}
use Rattle.answer.specs.Sizes.{max_packet}
use Rattle.answer.proofs.Told.{refusal_some}
use Rattle.packet.specs.Frame.{code_of, length_of, cut_of, with_type, framed, typed, frame_of, told_frame}

pub neither : (a b : Bool) → (a || b) ≡ false → (a ≡ false) × (b ≡ false)
neither true b e = let y : ◌≡◌ {A = ℕ} 0 1 = cc in absurd (omega arith)
neither false b e = (refl, e)

-- 10 to 12 are not given
pub record InFrame (p : List ℕ) : Type 0 where
  pub least : 4 ≤ length_of p
  pub inside : length_of p ≤ length p
  pub most : length_of p ≤ max_packet

in_frame : (p : List ℕ) → (ltb (length_of p) 4 || ltb (length p) (length_of p)) ≡ false → ltb max_packet (length_of p) ≡ false → InFrame p
in_frame p b c = let d = neither _ _ b in record { least = ltb-false _ _ d.0; inside = ltb-false _ _ d.1; most = ltb-false _ _ c }

-- octet i has to pass a test that 0 does not: a test that there is one says nothing more
pub absent : (f : ℕ → Bool) (q : List ℕ) (i : ℕ) → f 0 ≡ false → (ltb (length q) (i + 1) || not (f (get_or q i 0))) ≡ not (f (get_or q i 0))
absent f q i e =
    tested (ltb (length q) (i + 1))
    (λ t. or_first _ _ t ∙ sym (ap not (ap f (sym (get_or_past q i (omega (arith, ltb-true (length q) (i + 1) t)))) ∙ e)))
    (λ t. ap (λ (o : Bool). o || not (f (get_or q i 0))) t)

module _ {A : Type 0} (refuse : ℕ → A) (next : List ℕ → A) where
  -- what holds of each refusal, and of what follows in a frame, holds
  pub framed_so : (P : A → Type 0) (p : List ℕ) → P (refuse 10) → P (refuse 11) → P (refuse 12) → (InFrame p → P (next (cut_of p))) → P (framed refuse next p)
  unfolding framed
  framed_so P p a b c f = arms P _ a (picked P _ (λ _. b) (λ u. picked P _ (λ _. c) (λ v. f (in_frame p u v))))

  -- a packet of l octets, whose Length field says so, whatever padding follows it
  pub framed_whole : (q pad : List ℕ) (l : ℕ) → length q ≡ l → 4 ≤ l → length_of (q ++ pad) ≡ l → framed refuse next (q ++ pad) ≡ pick (ltb max_packet l) (refuse 12) (next q)
  unfolding framed
  framed_whole q pad l e h n =
      let a : 4 ≤ length (q ++ pad) = omega (arith, length-append q pad) in
      let b : 4 ≤ length_of (q ++ pad) = omega arith in
      let c : length_of (q ++ pad) ≤ length (q ++ pad) = omega (arith, length-append q pad) in
      pick_false _ _ _ (le-ltb _ _ a) ∙ pick_false _ _ _ (or_none _ _ (le-ltb _ _ b) (le-ltb _ _ c))
      ∙ (λ j. pick (ltb max_packet (n j)) (refuse 12) (next (take_at q pad (length_of (q ++ pad)) (e ∙ sym n) j)))

  -- what `frame` tells goes on as any packet does
  abbrev on_frame : List ℕ → Told ℕ → A
  on_frame p t = pick (eqb t.number 0) (next (take t.value p)) (refuse t.number)

  pub framed_on : (p : List ℕ) → framed refuse next p ≡ on_frame p (frame_of p)
  unfolding framed frame_of pick
  framed_on p =
      go (ltb (length p) 4) (ltb (length_of p) 4 || ltb (length p) (length_of p)) (ltb max_packet (length_of p))
      (λ b. ap (λ (n : ℕ). take n p) (sym (length-take-le (length_of p) p (ltb-false (length p) (length_of p) (neither (ltb (length_of p) 4) (ltb (length p) (length_of p)) b).1))))
    where
      go : (a b c : Bool) → (b ≡ false → cut_of p ≡ take (length (cut_of p)) p) → pick a (refuse 10) (pick b (refuse 11) (pick c (refuse 12) (next (cut_of p)))) ≡
          on_frame p (pick a (refuses 10 0) (pick b (refuses 11 0) (pick c (refuses 12 0) (gives (length (cut_of p))))))
      go true b c h = refl
      go false true c h = refl
      go false false true h = refl
      go false false false h = ap next (h refl)

  pub frame_refused : (r : Result ℕ Refusal) (p : List ℕ) (w : Refusal) → told_frame r ≡ frame_of p → r ≡ Err w → framed refuse next p ≡ refuse (refusal_of w)
  frame_refused r p w is e = framed_on p ∙ ap (on_frame p) (sym is ∙ ap told_frame e) ∙ pick_false _ _ _ (refusal_some w)

  pub frame_of_lem : (r : Result ℕ Refusal) (p : List ℕ) (l : ℕ) → told_frame r ≡ frame_of p → r ≡ Ok l → framed refuse next p ≡ next (take l p)
  unfolding pick
  frame_of_lem r p l is e = framed_on p ∙ ap (on_frame p) (sym is ∙ ap told_frame e)

  -- a Type that is not there counts as 0, which is none
  pub typed_plain : (codes : ℕ → Bool) (type : ℕ) (q : List ℕ) → eqb 0 type ≡ false →
      typed refuse codes type next q ≡ pick (not (codes (code_of q))) (refuse 13) (pick (with_type (code_of q) && not (eqb (get_or q 4 0) type)) (refuse 14) (next q))
  unfolding typed
  typed_plain codes type q e =
      (λ j. pick (not (codes (code_of q))) (refuse 13) (pick (with_type (code_of q) && absent (λ (n : ℕ). eqb n type) q 4 e j) (refuse 14) (next q)))

-- ---- `frame`, in the code's order
pub frame_short : (p : List ℕ) → length p < 4 → refuses 10 0 ≡ frame_of p
unfolding frame_of framed
frame_short p h = sym (pick_true _ _ _ (lt-ltb _ _ h))

pub frame_by : (p : List ℕ) (l : ℕ) (t : Told ℕ) → l ≡ length_of p →
    t ≡ pick (ltb (length p) 4) (refuses 10 0) (pick (ltb l 4) (refuses 11 0) (pick (ltb (length p) l) (refuses 11 0) (pick (ltb max_packet l) (refuses 12 0) (gives l)))) → t ≡ frame_of p
unfolding frame_of framed pick
frame_by p l t e h =
    h ∙ go (ltb (length p) 4) (ltb l 4) (ltb (length p) l) (ltb max_packet l) (λ c. sym (length-take-le l p (ltb-false _ _ c)))
    ∙ ap (λ (n : ℕ). pick (ltb (length p) 4) (refuses 10 0) (pick (ltb n 4 || ltb (length p) n) (refuses 11 0) (pick (ltb max_packet n) (refuses 12 0) (gives (length (take n p)))))) e
  where
    go : (a b c d : Bool) → (c ≡ false → l ≡ length (take l p)) → pick a (refuses 10 0) (pick b (refuses 11 0) (pick c (refuses 11 0) (pick d (refuses 12 0) (gives l)))) ≡ pick a (refuses 10 0) (pick (b || c) (refuses 11 0) (pick d (refuses 12 0) (gives (length (take l p)))))
    go true b c d h = refl
    go false true c d h = refl
    go false false true d h = refl
    go false false false true h = refl
    go false false false false h = ap gives (h refl)

pub ruleset frames = (frame_short, frame_by, wide)
