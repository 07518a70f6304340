-- Two packets that differ only in their Identifier read alike.
use Prim.Native.Nat.{ℕ, zero, suc, ◌+◌, ◌-◌, ◌≤◌}
use mathlib.Core.Path.{◌≡◌, refl, ap, subst, ◌∙◌}
use mathlib.Core.Bool.{Bool, true, false, not, ◌&&◌, ◌||◌}
use mathlib.Core.List.{List, ◌∷◌}
use native.Mathlib.Omega.{arith}
use lib.ListN.{length, get_or, take, drop}
use lib.Dec.{ltb, leb, eqb}
use borrow.Author.Tests.{ltb-false}
use Rattle.octets.specs.Choice.{pick}
use Rattle.octets.specs.Octets.{octet_is, same, stands_at, number_at, all_hex, hex_stands, digits, number}
use Rattle.octets.proofs.Exits.{arms}
use Rattle.answer.specs.Outcome.{Told, gives}
use Rattle.packet.specs.declared.End.{End}
use Rattle.packet.specs.declared.Kind.{Kind}
use Rattle.packet.specs.declared.Packet.{Packet}
use Rattle.packet.specs.declared.Place.{Place}
use Rattle.packet.specs.Forms.{word_e, word_r, word_c, word_v, word_m}
use Rattle.packet.specs.Frame.{length_of, framed, typed}
use Rattle.packet.specs.Promises.{Renumbered, same_refusal, same_packet, ReadRenumbered}
use Rattle.packet.specs.Reader.{refusal, reading, place, nowhere, chap_row, challenge_formed, read_challenge, response_formed, read_response, success_formed, text_at, read_success, failure_formed, failure_of, failure_row, error_digits, read_failure, read_bare, row_of, opened, read_cut, read_packet}
use Rattle.packet.proofs.Frames.{neither}

module _ (i j : ℕ) where
  abbrev R : Told Packet → Told Packet → Type 0
  R t t' = Renumbered i j t t'

  no : (n : ℕ) → eqb n 0 ≡ false → R (refusal n) (refusal n)
  no n z = same_refusal n z refl refl

  -- the same test
  ways : (b : Bool) {t t' u u' : Told Packet} → R t t' → (b ≡ false → R u u') → R (pick b t u) (pick b t' u')
  unfolding pick
  ways true r f = r
  ways false r f = f refl

  both : (b : Bool) {t t' u u' : Told Packet} → R t t' → R u u' → R (pick b t u) (pick b t' u')
  both b r s = ways b r (λ _. s)

  -- ---- a packet, cut at L
  module _ (c : ℕ) (y : List ℕ) where
    abbrev q : List ℕ
    q = c ∷ i ∷ y

    abbrev q' : List ℕ
    q' = c ∷ j ∷ y

    drops : (n : ℕ) → 2 ≤ n → drop n q ≡ drop n q'
    drops zero h = absurd (omega arith)
    drops (suc zero) h = absurd (omega arith)
    drops (suc (suc n)) h = refl

    octet_at_lem : (n : ℕ) → 2 ≤ n → get_or q n 0 ≡ get_or q' n 0
    octet_at_lem zero h = absurd (omega arith)
    octet_at_lem (suc zero) h = absurd (omega arith)
    octet_at_lem (suc (suc n)) h = refl

    chap_alike : (kind : Kind) (formed : Bool) (error : ℕ) (challenge response : Place) (tail : ℕ) → 2 ≤ tail → R (chap_row kind q formed error challenge response tail) (chap_row kind q' formed error challenge response tail)
    unfolding chap_row number_at
    chap_alike kind formed error challenge response tail h =
        both _ (no 16 refl) (both _ (no 17 refl) (same_packet (reading kind 0 (get_or y 4 0) (length q) error challenge response (place tail (length (drop tail q'))))
        (λ k. gives (reading kind i (get_or y 4 0) (length q) error challenge response (place tail (length (drops tail h k))))) refl))

    bare_alike : (kind : Kind) (l : ℕ) → R (read_bare kind l q) (read_bare kind l q')
    unfolding read_bare
    bare_alike kind l = both _ (no 17 refl) (same_packet (reading kind 0 0 (length q) 0 nowhere nowhere nowhere) refl refl)

    stands : (n : ℕ) (w : List ℕ) → 2 ≤ n → stands_at q n w ≡ stands_at q' n w
    unfolding stands_at
    stands n w h = ap (λ (l : List ℕ). same (take (length w) l) w) (drops n h)

    form : (e v : ℕ) → failure_formed q e v ≡ failure_formed q' e v
    unfolding failure_formed hex_stands octet_is
    form e v =
        (λ k.
        pick (not (stands 9 word_e (omega arith) k)) false
        (pick (not (leb 1 e && leb e 10)) false
        (pick (not (stands (11 + e) word_r (omega arith) k)) false
        (pick (not (eqb (octet_at_lem (14 + e) (omega arith) k) 48 || eqb (octet_at_lem (14 + e) (omega arith) k) 49)) false
        (pick (not (stands (15 + e) word_c (omega arith) k)) false
        (pick (not (pick (ltb (length (take 32 (drops (18 + e) (omega arith) k))) 32) false (all_hex true (take 32 (drops (18 + e) (omega arith) k))))) false
        (pick (not (stands (50 + e) word_v (omega arith) k)) false
        (pick (not ((leb 1 v && leb v 10) && eqb (number (take v (drops (53 + e) (omega arith) k))) 3)) false
        (stands (53 + e + v) word_m (omega arith) k)))))))))

    failure_alike : R (read_failure q) (read_failure q')
    unfolding read_failure failure_row
    failure_alike =
        let e = error_digits q in
        let v = digits (drop (53 + e) q) in
        subst (R (read_failure q))
        ((λ k. chap_row (failure_of (octet_at_lem (14 + e) (omega arith) k - 48)) q' (form e v k) (number (take e (drop 11 q))) (place (18 + e) 32) nowhere (56 + e + v))
        ∙ (λ k. failure_row q' e (digits (drops (53 + e) (omega arith) k))))
        (chap_alike _ _ _ _ _ (56 + e + v) (omega arith))

    cut_alike : (end : End) → R (read_cut end q) (read_cut end q')
    unfolding read_cut typed opened row_of read_challenge challenge_formed read_response response_formed read_success success_formed text_at octet_is stands_at hex_stands
    cut_alike end =
        both _ (no 13 refl) (both _ (no 14 refl) (both _ (no 15 refl)
        (both _ (both _ (chap_alike _ _ _ _ _ _ (omega arith)) (both _ (chap_alike _ _ _ _ _ _ (arms (λ (n : ℕ). 2 ≤ n) _ (omega arith) (omega arith))) (both _ failure_alike (no 15 refl))))
        (both _ (both _ (chap_alike _ _ _ _ _ _ (omega arith)) (both _ (bare_alike _ 6) (both _ (bare_alike _ 6) (no 15 refl))))
        (both _ (bare_alike _ 4) (bare_alike _ 4))))))

  -- ---- the octets lent
  cut_past : (c n l : ℕ) (x : List ℕ) → 2 ≤ l → take l (c ∷ n ∷ x) ≡ c ∷ n ∷ take (l - 2) x
  cut_past c n zero x h = absurd (omega arith)
  cut_past c n (suc zero) x h = absurd (omega arith)
  cut_past c n (suc (suc l)) x h = let e : l ≡ suc (suc l) - 2 = omega arith in ap (λ (m : ℕ). c ∷ n ∷ take m x) e

  renumbered : (end : End) (c : ℕ) (x : List ℕ) → R (read_packet end (c ∷ i ∷ x)) (read_packet end (c ∷ j ∷ x))
  unfolding read_packet framed number_at
  renumbered end c x =
      let l = length_of (c ∷ i ∷ x) in
      both _ (no 10 refl) (ways _ (no 11 refl) (λ b. both _ (no 12 refl)
      (let h : 4 ≤ l = ltb-false _ _ (neither _ _ b).0 in
      rw (cut_past c i l x (omega arith), cut_past c j l x (omega arith)) (cut_alike c (take (l - 2) x) end))))

pub read_renumbered : ReadRenumbered
read_renumbered i j end c x = renumbered i j end c x
