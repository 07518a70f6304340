-- The turn of a packet: a number from 10 to 19, or what was read, which the stage takes, under the outstanding numbers.
use Rattle.std.proofs.Common.{◌≡◌, ℕ, ◌≤◌, true, false, not, eqb, List, get_or, sym, refl, ap, ◌∙◌, arith, ne_eqb}
use Rattle.octets.proofs.Exits.{pick_true, pick_false, tested}
use Rattle.answer.specs.Outcome.{Told, gives, refuses, told, refused}
use Rattle.answer.proofs.Told.{told_refuses}
use Rattle.packet.specs.declared.End.TheVariants as end
use Rattle.packet.specs.declared.Packet.{Packet}
use Rattle.packet.specs.Reader.{no_packet, read_packet}
use Rattle.packet.specs.Promises.{ReadOrRefused, refused_by, read_as}
use Rattle.packet.proofs.Readings.{read_or_refused, read_id}
use Rattle.server.specs.declared.Stage.{Stage}
use Rattle.server.specs.declared.Server.{Server}
use Rattle.server.specs.Moves.{takes, misnumbered, turn_refusal, turn_of, Taken}
use Rattle.server.specs.Calls.{packet_of}
use Rattle.server.proofs.Laws.{check_stage, check_numbers, check_taken}

-- ---- a packet that is taken
module _ {s : Server} {p : List ℕ} {g : Stage} {k : Packet} (t : Taken s p g k) where
  pub taken_turn : turn_of s p ≡ gives k
  unfolding turn_of
  taken_turn =
      ap (λ (u : Told Packet). told (turn_refusal s u) no_packet u.value) t.reads
      ∙ sym (check_taken s k (ap (λ (h : Stage). takes h k.kind) t.stage ∙ t.kind) t.numbered)

  pub taken_octet : k.id.0 ≡ get_or p 1 0
  taken_octet = read_id end.Server p k t.reads

-- ---- the four ways of a packet: 10 to 17, 19, 18, or it is taken
module _ (s : Server) (p : List ℕ) where
  pub turn_cases : {A : Type 0} → ((n : ℕ) → 10 ≤ n → n ≤ 17 → (read_packet end.Server p).number ≡ n → A)
      → ((x : Packet) → read_packet end.Server p ≡ gives x → takes s.stage x.kind ≡ false → A)
      → ((x : Packet) → read_packet end.Server p ≡ gives x → takes s.stage x.kind ≡ true → misnumbered s x ≡ true → A)
      → ((x : Packet) → Taken s p s.stage x → A) → A
  turn_cases {A} unread untaken unnumbered taken = go (read_or_refused end.Server p) refl
    where
      go : {t : Told Packet} → ReadOrRefused p t → read_packet end.Server p ≡ t → A
      go (refused_by n h l) e = unread n h l (ap (λ (t : Told Packet). t.number) e)
      go (read_as x i) e =
          tested (takes s.stage x.kind)
          (λ t. tested (misnumbered s x) (unnumbered x e t) (λ n. taken x (record { reads = e; stage = refl; kind = t; numbered = n })))
          (untaken x e)

  module _ (table fresh : List ℕ) (room : ℕ) where
    turned : (n : ℕ) → eqb n 0 ≡ false → refuses n no_packet ≡ turn_of s p → packet_of s p table fresh room ≡ refused n s
    unfolding packet_of
    turned n z e = rw (sym e) (pick_false _ _ _ z)

    pub packet_unread : (n : ℕ) → 10 ≤ n → (read_packet end.Server p).number ≡ n → packet_of s p table fresh room ≡ refused n s
    unfolding turn_of turn_refusal
    packet_unread n h e =
        let z : eqb n 0 ≡ false = ne_eqb n 0 (λ f. absurd (omega arith)) in
        turned n z (told_refuses n _ no_packet _ (pick_true _ _ _ (ap (λ (m : ℕ). not (eqb m 0)) e ∙ ap not z) ∙ e) z)

    module _ (x : Packet) (reads : read_packet end.Server p ≡ gives x) where
      turn_read : told (turn_refusal s (gives x)) no_packet x ≡ turn_of s p
      unfolding turn_of
      turn_read = ap (λ (u : Told Packet). told (turn_refusal s u) no_packet u.value) (sym reads)

      pub packet_untaken : takes s.stage x.kind ≡ false → packet_of s p table fresh room ≡ refused 19 s
      packet_untaken t = turned 19 refl (check_stage s x t ∙ turn_read)

      pub packet_unnumbered : takes s.stage x.kind ≡ true → misnumbered s x ≡ true → packet_of s p table fresh room ≡ refused 18 s
      packet_unnumbered t m = turned 18 refl (check_numbers s x t m ∙ turn_read)
