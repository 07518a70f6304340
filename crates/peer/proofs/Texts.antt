-- Calls that tell a text.
use Prim.Native.Nat.{ℕ, ◌≤◌}
use mathlib.Core.Path.{◌≡◌, refl, sym, ◌∙◌}
use mathlib.Core.List.{List}
use native.Mathlib.Omega.{arith}
use lib.ListN.{length, take, length-take}
use borrow.Author.Tests.{le-ltb}
use Rattle.std.specs.Prelude.{Result, Ok, Err}
use Rattle.std.specs.Result.{result_and}
use Rattle.octets.specs.Choice.{pick}
use Rattle.octets.proofs.Exits.{pick_true, pick_false}
use Rattle.answer.specs.declared.Done.{Done}
use Rattle.answer.specs.declared.Done.TheVariants.{Written, NeedsCredentials, Authenticated, Ended}
use Rattle.answer.specs.declared.Refusal.{Refusal}
use Rattle.answer.specs.declared.Reply.{Reply}
use Rattle.answer.specs.Answer.{done_of, refusal_of}
use Rattle.answer.specs.Outcome.{refused}
use Rattle.answer.specs.Results.{reply_number, Replies}
use Rattle.answer.specs.Sizes.{max_packet}
use Rattle.answer.proofs.Apart.{refusals_listed}
use Rattle.answer.proofs.Told.{refusal_some}
use Rattle.packet.specs.declared.End.TheVariants as end
use Rattle.packet.specs.declared.Packet.{Packet}
use Rattle.packet.specs.declared.Place.{Place}
use Rattle.packet.specs.Reader.{nowhere, read_packet, told_reading}
use Rattle.packet.specs.Texts.{text_told, text_place}
use Rattle.packet.proofs.Readings.{read_within}
use Rattle.peer.specs.declared.Peer.{Peer}
use Rattle.peer.specs.State.{right_digits}
use Rattle.peer.specs.Calls.{text_by, DoesTelling, taken_by, read_by, step_by, step_of, step_text}

-- ---- what an answer tells
text_refused : (why : Refusal) (text : Place) → text_by (refusal_of why) text ≡ nowhere
unfolding text_by
text_refused why text = pick_false _ _ _ (le-ltb _ _ (refusals_listed why).0)

text_and : (a : Result Reply Refusal) (x : Result Packet Refusal) → text_told (told_reading (result_and a x)) ≡ text_by (reply_number a) (text_told (told_reading x))
unfolding text_by text_told pick
text_and (Ok r) x = go r.done
  where
    go : (d : Done) → text_told (told_reading x) ≡ text_by (done_of d) (text_told (told_reading x))
    go Written = refl
    go NeedsCredentials = refl
    go Authenticated = refl
    go Ended = refl
text_and (Err why) x = pick_false _ _ _ (refusal_some why) ∙ sym (text_refused why (text_told (told_reading x)))

-- ---- the step, by its reading
pub read_most : (s : List ℕ) (x : Result Packet Refusal) → told_reading x ≡ read_packet end.Peer s → (told_reading x).value.length ≤ max_packet
read_most s x e = rw e (read_within end.Peer s)

pub within : (s : List ℕ) (x : Result Packet Refusal) (k : Packet) (q : List ℕ) → (told_reading x).value.length ≤ max_packet → x ≡ Ok k → q ≡ take k.length s → length q ≤ max_packet
within s x k q h e c = let m = rw e at h in rw c (omega (arith, length-take k.length s, m))

pub received_not : (right : List ℕ) (x : Result Packet Refusal) (why : Refusal) (p : Peer) (s random : List ℕ) (room : ℕ) → x ≡ Err why → read_by right (told_reading x) p s random room ≡ refused (refusal_of why) p
unfolding read_by
received_not right x why p s random room e = rw e (pick_false _ _ _ (refusal_some why))

pub received : (right : List ℕ) (x : Result Packet Refusal) (k : Packet) (p : Peer) (s q random : List ℕ) (room : ℕ) → x ≡ Ok k → q ≡ take k.length s → read_by right (told_reading x) p s random room ≡ taken_by right p k q random room
unfolding read_by
received right x k p s q random room e c = rw (e, c) (pick_true _ _ _ refl)

pub step_told : (p : Peer) (s random : List ℕ) (x : Result Packet Refusal) (a : Result Reply Refusal) (next : Peer) (text : Place) (before after : List ℕ) → told_reading x ≡ read_packet end.Peer s → Replies (read_by (right_digits p) (told_reading x) p s random (length before)) a next before after → text ≡ text_told (told_reading (result_and a x))
    → DoesTelling (step_of p s random (length before)) (step_text p s random (length before)) (record { answer = a; text = text; peer = next }) before after
unfolding step_of step_by step_text text_place
step_told p s random x a next text before after reads d f =
    let d' = rw reads at d in
    record { does = d'; told = f ∙ text_and a x ∙ (λ j. text_by (d'.answered j) (text_told (reads j))) }
