-- 02 [7], "Show the clerk why.": where the text after `M=` lies within the packet, and the part that is handed back.
use Rattle.std.specs.Prelude.{ℕ, ◌+◌, ◌≤◌, ◌≡◌, true, false, List, ◌++◌, length, drop, eqb}
use Rattle.octets.specs.Choice.{pick}
use Rattle.octets.specs.Octets.{all_hex}
use Rattle.answer.specs.Outcome.{Told, gives}
use Rattle.answer.specs.Sizes.{max_packet}
use Rattle.packet.specs.declared.End.{End}
use Rattle.packet.specs.declared.End.TheVariants.{Peer}
use Rattle.packet.specs.declared.Place.{Place}
use Rattle.packet.specs.declared.Packet.{Packet}
use Rattle.packet.specs.Forms.{Tail, success_message, FailureSpelling, failure_message, chap_packet}
use Rattle.packet.specs.Frame.{length_of, cut_of}
use Rattle.packet.specs.Kinds.{has_text}
use Rattle.packet.specs.Learned.{text_start, text_of, success_reading}
use Rattle.packet.specs.Reader.{place, nowhere, at, read_packet}

-- ---- what is told
-- a Success or Failure Request's text goes from its start to L, and is "an empty part at L where [1] found no tail"; other packets have none: an empty
-- part at 0
unfoldable pub text_in : Packet → Place
text_in k = pick (has_text k.kind) k.tail nowhere

-- by what the reader gives: a refusal has none
unfoldable pub text_told : Told Packet → Place
text_told t = pick (eqb t.number 0) (text_in t.value) nowhere

unfoldable pub text_place : End → List ℕ → Place
text_place end p = text_told (read_packet end p)

-- the part of p that is handed back
unfoldable pub text_part : End → List ℕ → List ℕ
text_part end p = at p (text_place end p)

-- ---- what holds of it
-- "it is exactly the rest of the message up to L"
pub record IsRest (end : End) (p : List ℕ) : Type 0 where
  pub to_end : (text_place end p).start + (text_place end p).len ≡ length_of p
  pub rest : text_part end p ≡ drop (text_place end p).start (cut_of p)

-- the text of p, and where it lies
pub record HandsBack (p : List ℕ) (a : Place) (text : List ℕ) : Type 0 where
  pub lies : text_place Peer p ≡ a
  pub is : text_part Peer p ≡ text

pub record TextTold : Type 0 where
  pub rest : (end : End) (p : List ℕ) (x : Packet) → read_packet end p ≡ gives x → has_text x.kind ≡ true → IsRest end p
  -- by the two messages: with any spelling, any text and any padding it is what follows ` M=`
  pub success : (id chapid : ℕ) (s : List ℕ) (tail : Tail) (pad : List ℕ) → length s ≡ 40 → all_hex false s ≡ true → (success_reading id chapid tail).length ≤ max_packet →
      HandsBack (chap_packet 1 3 id chapid (success_message s tail) ++ pad) (place (text_start tail) (length (text_of tail))) (text_of tail)
  pub failure : (id chapid : ℕ) (e : List ℕ) (retry : ℕ) (c v text pad : List ℕ) → FailureSpelling e retry c v → 56 + length e + length v + length text ≤ max_packet →
      HandsBack (chap_packet 1 4 id chapid (failure_message e (48 + retry) c v text) ++ pad) (place (56 + length e + length v) (length text)) text
  -- other packets, and refusals
  pub other : (end : End) (p : List ℕ) (x : Packet) → read_packet end p ≡ gives x → has_text x.kind ≡ false → text_place end p ≡ nowhere
  pub unread : (end : End) (p : List ℕ) → ((read_packet end p).number ≡ 0 → ⊥) → text_place end p ≡ nowhere
  -- start and length need no more than 16 bits
  pub within : (end : End) (p : List ℕ) → (text_place end p).start + (text_place end p).len ≤ max_packet
