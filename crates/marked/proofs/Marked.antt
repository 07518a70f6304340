-- The marked cases hold: by computing the definitions at each.
use Prim.Native.Nat.{ℕ, ◌≤◌}
use mathlib.Core.Path.{◌≡◌, refl, sym, ap, ◌∙◌}
use mathlib.Core.Bool.{false, not}
use mathlib.Core.List.{List, [], ◌∷◌, ◌++◌}
use native.Mathlib.Omega.{arith}
use lib.ListN.{replicate}
use lib.Dec.{eqb}
use Rattle.octets.specs.Choice.{pick}
use Rattle.octets.specs.Octets.{octet_is, number_at}
use Rattle.octets.proofs.Exits.{pick_true, pick_false}
use Rattle.answer.specs.Outcome.{outcome, refused}
use Rattle.answer.proofs.Told.{told_number}
use Rattle.answer.proofs.Outcomes.{fitting_so}
use Rattle.packet.specs.declared.End.TheVariants as end
use Rattle.packet.specs.Frame.{framed, typed}
use Rattle.packet.specs.Reader.{refusal, chap_row, challenge_formed, read_challenge, read_success, row_of, opened, read_cut, read_packet}
use Rattle.packet.specs.Forms.{challenge_packet, chap_packet, header, success_response}
use Rattle.packet.proofs.Back.{learns, challenge_back, success_response_back}
use Rattle.writers.proofs.Writing.{writing_so}
use Rattle.mschap.specs.Users.{user_of, user_start, start_from}
use Rattle.peer.specs.Calls.{step_by, step_of, read_by}
use Rattle.server.specs.declared.Server.{Server}
use Rattle.server.specs.declared.Stage.TheVariants as stage
use Rattle.server.specs.State.{staged}
use Rattle.server.specs.Moves.{turn_refusal, turn_of}
use Rattle.server.specs.Calls.{packet_of}
use Rattle.server.proofs.Forward.{confirms_so, confirmed}
use Rattle.marked.specs.Marked.{AtPeer, AtServer, AtBoth, frz, IsWritten, Marked}

at_peer_lem : (x : List ℕ) (k : ℕ) → read_packet end.Peer x ≡ refusal k → eqb k 0 ≡ false → AtPeer x k
unfolding step_of step_by read_by
at_peer_lem x k e z = record { reads = e; steps = λ p random room. rw e (pick_false _ _ _ z) }

at_server_lem : (x : List ℕ) (k : ℕ) → read_packet end.Server x ≡ refusal k → eqb k 0 ≡ false → AtServer x k
unfolding packet_of turn_of turn_refusal
at_server_lem x k e z =
    record {
      reads = e;
      takes = λ s table fresh room.
          let n : (turn_of s x).number ≡ k = told_number _ _ _ ∙ ap (turn_refusal s) e ∙ pick_true _ _ _ (ap not z) in
          pick_false _ _ _ (ap (λ (m : ℕ). eqb m 0) n ∙ z) ∙ ap (λ (m : ℕ). refused m s) n;
    }

at_both : (x : List ℕ) (k : ℕ) → read_packet end.Peer x ≡ refusal k → read_packet end.Server x ≡ refusal k → eqb k 0 ≡ false → AtBoth x k
at_both x k p s z = record { peer = at_peer_lem x k p z; server = at_server_lem x k s z }

w8_holds : IsWritten ((1 ∷ 1 ∷ 0 ∷ 29 ∷ 26 ∷ 1 ∷ 1 ∷ 0 ∷ 24 ∷ 16 ∷ []) ++ replicate 16 0 ++ frz)
unfolding challenge_packet chap_packet header
w8_holds =
    let q = challenge_packet 1 1 (replicate 16 0) frz in
    record {
      writes = λ room h. writing_so _ room q refl (omega arith) ∙ fitting_so room tt (outcome 0 q tt) (omega arith);
      back = learns (challenge_back 1 1 (replicate 16 0) frz refl (omega arith) (omega arith));
    }

w10_holds : (s : Server) → s.stage ≡ stage.SuccessRequestSent → s.request.id.0 ≡ 7 → (table fresh : List ℕ) (room : ℕ) → 4 ≤ room → packet_of s (success_response 7) table fresh room ≡ outcome 2 (3 ∷ 7 ∷ 0 ∷ 4 ∷ []) (staged stage.Success s)
w10_holds s h i table fresh room l =
    confirmed s (success_response 7) table fresh room _ (confirms_so s (success_response 7) _ ((success_response_back 7).reads []) (sym i) h refl) l

pub marked : Marked
unfolding read_packet framed read_cut typed opened row_of read_challenge read_success chap_row challenge_formed number_at octet_is pick user_of user_start start_from
marked = record {
  w1 = at_both _ _ refl refl refl;
  w2 = at_both _ _ refl refl refl;
  w3 = at_both _ _ refl refl refl;
  w4 = at_peer_lem _ _ refl refl;
  w5 = at_peer_lem _ _ refl refl;
  w6 = at_peer_lem _ _ refl refl;
  w7 = at_peer_lem _ _ refl refl;
  w8 = w8_holds;
  w9 = at_peer_lem _ _ refl refl;
  w10 = w10_holds;
  w11 = refl;
  w12 = refl;
}
