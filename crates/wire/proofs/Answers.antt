-- What the reader and the writers answer.
use Prim.Native.Nat.{ℕ, ◌≤◌}
use native.Mathlib.Omega.{arith}
use mathlib.Core.Path.{◌≡◌, refl, ap, subst}
use mathlib.Core.Bool.{Bool}
use mathlib.Core.List.{List}
use lib.ListN.{length}
use lib.Dec.{eqb}
use borrow.Author.Tests.{ne_eqb}
use Rattle.octets.specs.Choice.{pick}
use Rattle.octets.proofs.Exits.{pick_false, arms}
use Rattle.answer.specs.Outcome as told
use Rattle.answer.specs.Outcome.{Told, Outcome}
use Rattle.packet.specs.declared.End.{End}
use Rattle.packet.specs.declared.End.TheVariants as end
use Rattle.packet.specs.declared.Packet.{Packet}
use Rattle.packet.specs.declared.Place.{Place}
use Rattle.packet.specs.Frame.{frame_of}
use Rattle.packet.specs.Promises.{ReadOrRefused, refused_by, read_as}
use Rattle.packet.specs.Reader.{nowhere, no_packet, refusal, read_packet}
use Rattle.packet.specs.Texts.{text_in, text_told, text_place}
use Rattle.packet.proofs.Frames.{framed_so}
use Rattle.packet.proofs.Readings.{read_or_refused}
use Rattle.writers.specs.Writers.{writing}
use Rattle.writers.specs.Promises.{Writes, no_form, too_long, no_room, writes}
use Rattle.writers.proofs.Trips.{writers_answer}
use Rattle.calls.specs.Done.{word_of, word_telling, made, wrote}
use Rattle.calls.specs.Stateless.{has}
use Rattle.calls.specs.Promises as promises
use Rattle.calls.specs.Promises.{WritesAt}
use Rattle.calls.proofs.Laws.{word_none}
use Rattle.wire.specs.Readings.{reading_octets, octets_of_reading}
use Rattle.wire.specs.Calls.{told_in, without_end, read_at, challenge_at, response_at, success_request_at, failure_request_at, success_response_at, failure_response_at, eap_success_at, eap_failure_at}
use Rattle.wire.specs.Promises.{ReadsAt, reads, refuses, WireAnswers}

-- ---- the reader
refused_at : (packet out : List ℕ) (n : ℕ) → 10 ≤ n → n ≤ 17 → ReadsAt packet out (told_in (refusal n) out)
unfolding told_in text_told
refused_at packet out n h l =
    let z = ne_eqb n 0 (λ e. omega arith) in
    rw (pick_false (eqb n 0) (octets_of_reading no_packet) out z, pick_false (eqb n 0) (text_in no_packet) nowhere z, word_none n 0) (refuses n (h, omega arith))

read_told : (e : End) (packet out : List ℕ) → ReadsAt packet out (told_in (read_packet e packet) out)
unfolding told_in text_place pick
read_told e packet out = go (read_or_refused e packet) refl
  where
    go : {t : Told Packet} → ReadOrRefused packet t → read_packet e packet ≡ t → ReadsAt packet out (told_in t out)
    go (refused_by n h l) f = refused_at packet out n h l
    go (read_as x i) f = subst (λ (a : Place). ReadsAt packet out (made (word_telling 0 0 a) (octets_of_reading x))) (ap text_told f) (reads e x f)

frame_at : (packet out : List ℕ) → ReadsAt packet out (made (word_of (without_end (frame_of packet)) 0) out)
unfolding frame_of without_end pick
frame_at packet out =
    framed_so (λ k. told.refuses k 0) (λ q. told.gives (length q)) (λ t. ReadsAt packet out (made (word_of (without_end t) 0) out)) packet
    (refuses 10 (omega arith, omega arith)) (refuses 11 (omega arith, omega arith)) (refuses 12 (omega arith, omega arith)) (λ f. refuses 23 (omega arith, omega arith))

read_at_lem : (e : ℕ) (packet out : List ℕ) → ReadsAt packet out (read_at e packet out)
unfolding read_at word_of
read_at_lem e packet out =
    arms (ReadsAt packet out) (has reading_octets out)
    (arms (ReadsAt packet out) _ (read_told end.Peer packet out) (arms (ReadsAt packet out) _ (read_told end.Server packet out) (frame_at packet out)))
    (refuses 23 (omega arith, omega arith))

-- ---- the writers
written_at : (formed : Bool) (q out : List ℕ) → WritesAt out (wrote (writing formed (length out) q) out)
unfolding wrote
written_at formed q out = go (writers_answer formed (length out) q)
  where
    go : {o : Outcome (Unit {0})} → Writes formed (length out) q o → WritesAt out (wrote o out)
    go (no_form f) = promises.refuses 23 (omega arith, omega arith)
    go (too_long f h) = promises.refuses 23 (omega arith, omega arith)
    go (no_room f h l) = promises.refuses 20 (omega arith, omega arith)
    go (writes f h l) = promises.writes q l

-- the sizes, and then that
sized_at : (b formed : Bool) (q out : List ℕ) → WritesAt out (pick b (wrote (writing formed (length out) q) out) (made 23 out))
unfolding word_of
sized_at b formed q out = arms (WritesAt out) b (written_at formed q out) (promises.refuses 23 (omega arith, omega arith))

pub wire_answers : WireAnswers
unfolding challenge_at response_at success_request_at failure_request_at success_response_at failure_response_at eap_success_at eap_failure_at
wire_answers = record {
  read = read_at_lem;
  challenge = λ id chapid challenge name out. sized_at _ _ _ out;
  response = λ id chapid peer response name out. sized_at _ _ _ out;
  success_request = λ id chapid string text out. sized_at _ _ _ out;
  failure_request = λ id chapid error retry challenge text out. sized_at _ _ _ out;
  success_response = λ id out. written_at _ _ out;
  failure_response = λ id out. written_at _ _ out;
  eap_success = λ id out. written_at _ _ out;
  eap_failure = λ id out. written_at _ _ out;
}
