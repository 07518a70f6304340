-- How a call of the reader or of a writer ends.
use Prim.Native.Nat.{ℕ, ◌<◌}
use mathlib.Core.Path.{◌≡◌, refl, sym, ap, ◌∙◌}
use mathlib.Core.Bool.{Bool, true, false, ◌&&◌}
use mathlib.Core.List.{List, [], ◌∷◌, ◌++◌}
use native.Mathlib.Omega.{arith}
use Rattle.std.specs.Prelude.{Result, Ok, Err}
use Rattle.std.specs.Int.{w64, to_le_bytes}
use lib.ListN.{length, drop}
use lib.Dec.{leb}
use borrow.Author.Tests.{eq-eqb, ne_eqb, lt-leb}
use Rattle.octets.proofs.Exits.{exits, pick_true, pick_false, and_both, and_first, and_second}
use Rattle.octets.proofs.Appends.{Laid, laid_none}
use Rattle.answer.specs.Answer.{refusal_of}
use Rattle.answer.specs.declared.Refusal.{Refusal}
use Rattle.answer.specs.Outcome.{Told, Outcome}
use Rattle.answer.specs.Results.{refusal_in, count_in, Writes}
use Rattle.answer.proofs.Told.{refusal_some}
use Rattle.packet.specs.declared.Packet.{Packet}
use Rattle.packet.specs.declared.Place.{Place}
use Rattle.packet.specs.Frame.{told_frame}
use Rattle.packet.specs.Kinds.{kind_number}
use Rattle.packet.specs.Reader.{nowhere, told_reading}
use Rattle.packet.specs.Texts.{text_in, text_told}
use Rattle.packet.proofs.Texts.{text_refused}
use Rattle.writers.specs.declared.Ids.{Ids}
use Rattle.writers.specs.Writers.{writing, write_challenge, write_response, write_success_request, write_failure_request}
use Rattle.calls.specs.Done.{word_of, word_telling, made, wrote}
use Rattle.calls.proofs.Laws.{word_none}
use Rattle.wire.specs.Readings.{reading_octets, two_low, octets_of_place, octets_of_reading}
use Rattle.wire.specs.Calls.{told_in, without_end, challenge_at, response_at, success_request_at, failure_request_at}

-- ---- the reader
pub size_of_reading : (k : Packet) → length (octets_of_reading k) ≡ reading_octets
unfolding octets_of_reading
size_of_reading k = refl

-- the parts of a reading, in the order in which they are laid down
pub laid_reading : (k : Packet) (out : List ℕ) → length out ≡ reading_octets → Laid (octets_of_reading k) out 0 out ((kind_number k.kind ∷ k.id.0 ∷ k.chapid.0 ∷ []) ++ (two_low k.length ++ (to_le_bytes w64 k.error ++ (octets_of_place k.challenge ++ (octets_of_place k.response ++ octets_of_place k.tail)))))
unfolding octets_of_reading
laid_reading k out h = laid_none refl (omega arith)

pub read_told : (x : Result Packet Refusal) (k : Packet) (out after : List ℕ) (text : Place) (w : ℕ) → x ≡ Ok k → after ≡ octets_of_reading k → text ≡ text_in k → w ≡ word_telling 0 0 text → made w after ≡ told_in (told_reading x) out
unfolding told_in text_told
read_told x k out after text w e f t g =
    rw (e, g, f, t, pick_true true (octets_of_reading k) out refl, pick_true true (text_in k) nowhere refl) refl

pub refused_told : (x : Result Packet Refusal) (why : Refusal) (k w : ℕ) (out : List ℕ) → x ≡ Err why → k ≡ refusal_of why → w ≡ word_of k 0 → made w out ≡ told_in (told_reading x) out
unfolding told_in
refused_told x why k w out e f g =
    rw (g, f, ← text_refused x why e)
    (rw (e, word_none (refusal_of why) 0) (ap (made (word_of (refusal_of why) 0)) (sym (pick_false _ _ _ (refusal_some why)))))

pub frame_refused : (t : Told ℕ) (x : Result ℕ Refusal) (why : Refusal) (k w : ℕ) → told_frame x ≡ t → x ≡ Err why → k ≡ refusal_of why → w ≡ word_of k 0 → w ≡ word_of (without_end t) 0
unfolding without_end
frame_refused t x why k w h e f g = rw (← h, e) (g ∙ ap (λ (j : ℕ). word_of j 0) (f ∙ sym (pick_false _ _ _ (refusal_some why))))

pub frame_so : (t : Told ℕ) (x : Result ℕ Refusal) (l w : ℕ) → told_frame x ≡ t → x ≡ Ok l → w ≡ word_of 23 0 → w ≡ word_of (without_end t) 0
unfolding without_end
frame_so t x l w h e g = rw (← h, e) (g ∙ ap (λ (j : ℕ). word_of j 0) (sym (pick_true _ _ _ refl)))

pub read_by : (t u : Told Packet) (out after : List ℕ) (w : ℕ) → t ≡ u → made w after ≡ told_in t out → made w after ≡ told_in u out
read_by t u out after w e g = rw (← e) g

pub made_by : (r w : ℕ) (out : List ℕ) → r ≡ w → made r out ≡ made w out
made_by r w out e = ap (λ (x : ℕ). made x out) e

-- ---- the writers
pub wrote_so : (o : Outcome (Unit {0})) (r : Result ℕ Refusal) (w : ℕ) (out after : List ℕ) → Writes o r out after → w ≡ word_of (refusal_in r) (count_in r) → made w after ≡ wrote o out
unfolding wrote
wrote_so o r w out after d g = rw (g, d.answered, d.count, d.written)

-- the arrays are the octets that were lent
pub challenge_wrote : (ids : Ids) (id chapid : ℕ) (o challenge name out after : List ℕ) (r : Result ℕ Refusal) (w : ℕ) → Writes (write_challenge ids.id.0 ids.chapid.0 o name (length out)) r out after → ids ≡ record { id = record { 0 = id }; chapid = record { 0 = chapid } } → o ≡ challenge → w ≡ word_of (refusal_in r) (count_in r) → made w after ≡ wrote (write_challenge id chapid challenge name (length out)) out
challenge_wrote ids id chapid o challenge name out after r w d i e g = wrote_so _ _ _ _ _ (rw (i, e) at d) g

pub response_wrote : (ids : Ids) (id chapid : ℕ) (o peer a response name out after : List ℕ) (r : Result ℕ Refusal) (w : ℕ) → Writes (write_response ids.id.0 ids.chapid.0 o a name (length out)) r out after → ids ≡ record { id = record { 0 = id }; chapid = record { 0 = chapid } } → o ≡ peer → a ≡ response → w ≡ word_of (refusal_in r) (count_in r) → made w after ≡ wrote (write_response id chapid peer response name (length out)) out
response_wrote ids id chapid o peer a response name out after r w d i e f g = wrote_so _ _ _ _ _ (rw (i, e, f) at d) g

pub success_request_wrote : (ids : Ids) (id chapid : ℕ) (o string text out after : List ℕ) (r : Result ℕ Refusal) (w : ℕ) → Writes (write_success_request ids.id.0 ids.chapid.0 o text (length out)) r out after → ids ≡ record { id = record { 0 = id }; chapid = record { 0 = chapid } } → o ≡ string → w ≡ word_of (refusal_in r) (count_in r) → made w after ≡ wrote (write_success_request id chapid string text (length out)) out
success_request_wrote ids id chapid o string text out after r w d i e g = wrote_so _ _ _ _ _ (rw (i, e) at d) g

pub failure_request_wrote : (ids : Ids) (id chapid error retry n : ℕ) (o challenge text out after : List ℕ) (r : Result ℕ Refusal) (w : ℕ) → Writes (write_failure_request ids.id.0 ids.chapid.0 error n o text (length out)) r out after → ids ≡ record { id = record { 0 = id }; chapid = record { 0 = chapid } } → o ≡ challenge → n ≡ retry → w ≡ word_of (refusal_in r) (count_in r) → made w after ≡ wrote (write_failure_request id chapid error retry challenge text (length out)) out
failure_request_wrote ids id chapid error retry n o challenge text out after r w d i e f g = wrote_so _ _ _ _ _ (rw (i, e, f) at d) g

and_not : (a b : Bool) → b ≡ false → (a && b) ≡ false
and_not true b e = e
and_not false b e = refl

-- R other than 0 or 1 has no form, and one past an octet is such
pub retry_unformed : (id chapid error retry : ℕ) (challenge text out : List ℕ) → length challenge ≡ 16 → 1 < retry → made 23 out ≡ failure_request_at id chapid error retry challenge text out
unfolding failure_request_at writing wrote word_of
retry_unformed id chapid error retry challenge text out h l =
    rw (pick_true _ _ _ (eq-eqb _ _ h), and_not (leb error 9999999999) (leb retry 1) (lt-leb _ _ l))
    (rw (pick_true true _ _ refl) refl)

-- the sizes, then the call
pub ruleset sizes = (exits, and_both, and_first, and_second)
