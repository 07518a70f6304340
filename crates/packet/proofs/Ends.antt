-- A packet, cut at L, in the code's order of tests.
use Prim.Native.Nat.{ℕ}
use mathlib.Core.Path.{◌≡◌, refl, sym, ap, ◌∙◌}
use mathlib.Core.Bool.{Bool, true, false, not, ◌&&◌, ◌||◌}
use mathlib.Core.List.{List}
use native.Mathlib.Omega.{arith}
use lib.ListN.{length, get_or}
use lib.Dec.{ltb, eqb}
use borrow.Author.Tests.{ltb-true, eqb-true}
use Rattle.octets.specs.Choice.{pick}
use Rattle.octets.proofs.Exits.{tested}
use Rattle.octets.proofs.Scans.{get_or_past}
use Rattle.answer.specs.Outcome.{Told}
use Rattle.packet.specs.declared.End.{End}
use Rattle.packet.specs.declared.End.TheVariants.{Peer, Server}
use Rattle.packet.specs.declared.Packet.{Packet}
use Rattle.packet.specs.Frame.{code_of, with_type}
use Rattle.packet.specs.Inner.{at_peer, at_server, at_end}
use Rattle.packet.specs.Reader.{refusal, code_for, row_of, opened, read_cut}
use Rattle.packet.proofs.Frames.{typed_plain}

-- an OpCode that is not there counts as 0, which is none
opened_plain : (q : List ℕ) → opened q ≡ row_of (code_of q) (get_or q 5 0) q
unfolding opened row_of pick
opened_plain q =
    tested (ltb (length q) 6)
    (λ t. let z : get_or q 5 0 ≡ 0 = sym (get_or_past q 5 (omega (arith, ltb-true (length q) 6 t))) in rw (t, z) (none (eqb (code_of q) 1) (eqb (code_of q) 2) _))
    (λ t. rw t (some (with_type (code_of q)) _))
  where
    none : (c1 c2 : Bool) (x : Told Packet) → pick ((c1 || c2) && true) (refusal 15) (pick c1 (refusal 15) (pick c2 (refusal 15) x)) ≡ pick c1 (refusal 15) (pick c2 (refusal 15) x)
    none true c2 x = refl
    none false true x = refl
    none false false x = refl

    some : (b : Bool) (x : Told Packet) → pick (b && false) (refusal 15) x ≡ x
    some true x = refl
    some false x = refl

abbrev plain : End → ℕ → ℕ → ℕ → List ℕ → Told Packet
plain end code type op q = pick (not (code_for end code)) (refusal 13) (pick (with_type code && not (eqb type 26)) (refusal 14) (row_of code op q))

in_order : (end : End) (code type op : ℕ) (q : List ℕ) → plain end code type op q ≡ at_end end code type op q
unfolding at_end at_peer at_server row_of pick
in_order Peer code type op q =
    tested (eqb code 3) (λ c3. rw (eqb-true code 3 c3) refl) (λ c3.
    tested (eqb code 4) (λ c4. rw (eqb-true code 4 c4) refl) (λ c4.
    tested (eqb code 1) (λ c1. rw (eqb-true code 1 c1) refl) (λ c1.
    simp (c3, c4, c1) refl)))
in_order Server code type op q =
    tested (eqb code 2) (λ c2. rw (eqb-true code 2 c2) refl) (λ c2.
    simp c2 refl)

pub at_end_lem : (end : End) (q : List ℕ) → read_cut end q ≡ at_end end (code_of q) (get_or q 4 0) (get_or q 5 0) q
unfolding read_cut
at_end_lem end q =
    typed_plain refusal opened (code_for end) 26 q refl
    ∙ ap (λ (t : Told Packet). pick (not (code_for end (code_of q))) (refusal 13) (pick (with_type (code_of q) && not (eqb (get_or q 4 0) 26)) (refusal 14) t)) (opened_plain q)
    ∙ in_order end (code_of q) (get_or q 4 0) (get_or q 5 0) q
