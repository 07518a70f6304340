-- What a call at the boundary does, in octets: the word that it answers, and the lent octets afterwards.
use Rattle.std.specs.Prelude.{ℕ, ◌+◌, ◌*◌, ◌%◌, List, length, ltb}
use Rattle.octets.specs.Choice.{pick}
use Rattle.octets.specs.Lists.{over}
use Rattle.answer.specs.Outcome.{Told, Outcome}
use Rattle.packet.specs.declared.Place.{Place}

-- the paper's number in bits 0 to 7, n in bits 8 to 31, and zeros above
unfoldable pub word_of : ℕ → ℕ → ℕ
word_of number n = number + n % 16777216 * 256

-- 02 [7]: a text's start in bits 32 to 47 and its length in bits 48 to 63
unfoldable pub text_bits : Place → ℕ
text_bits text = text.start % 65536 * 4294967296 + text.len % 65536 * 281474976710656

abbrev pub word_telling : ℕ → ℕ → Place → ℕ
word_telling number n text = word_of number n + text_bits text

-- ---- a call of an end: its word, the state's octets and the reply buffer
pub record Done : Type 0 where
  pub word : ℕ
  pub state : List ℕ
  pub reply : List ℕ

abbrev pub done : ℕ → List ℕ → List ℕ → Done
done word state reply = record { word = word; state = state; reply = reply }

-- a slice of the wrong size where a fixed size is due: 23, and nothing changes
abbrev pub unsized : List ℕ → List ℕ → Done
unsized state reply = done 23 state reply

-- what an end did, from those octets on. "Numbers from 10 up change no state": no octet of it is written
unfoldable pub ended : {S : Type 0} → (S → List ℕ) → Outcome S → List ℕ → List ℕ → Done
ended octetsOf o state reply =
    done (word_of o.number (length o.octets)) (pick (ltb o.number 10) (octetsOf o.state) state) (over o.octets reply)

-- the same of a call that only reads the state
unfoldable pub kept : {S : Type 0} → Outcome S → List ℕ → List ℕ → Done
kept o state reply = done (word_of o.number (length o.octets)) state (over o.octets reply)

-- the same where the call tells a text
unfoldable pub telling : Place → Done → Done
telling text d = done (d.word + text_bits text) d.state d.reply

-- ---- a call without a state: its word and the output buffer
pub record Made : Type 0 where
  pub word : ℕ
  pub output : List ℕ

abbrev pub made : ℕ → List ℕ → Made
made word output = record { word = word; output = output }

-- a refusal writes nothing
unfoldable pub given : ℕ → List ℕ → List ℕ → Made
given number q output = made (word_of number 0) (pick (ltb number 10) q output)

unfoldable pub given_by : Told (List ℕ) → List ℕ → Made
given_by t output = given t.number t.value output

-- what a call wrote over the buffer's front
unfoldable pub wrote : Outcome (Unit {0}) → List ℕ → Made
wrote o output = made (word_of o.number (length o.octets)) (over o.octets output)
