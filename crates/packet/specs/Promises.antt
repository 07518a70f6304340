-- What holds of the reader as a whole, at either end. What is learned of a packet by reading it stands in Learned.
use Rattle.std.specs.Prelude.{ℕ, ◌+◌, ◌-◌, ◌≤◌, ◌<◌, ◌≡◌, ◌⊎◌, false, List, ◌∷◌, ◌++◌, length, get_or, eqb}
use Rattle.octets.specs.Octets.{AreOctets, number_at}
use Rattle.octets.specs.declared.Order.TheVariants.{Big}
use Rattle.answer.specs.Outcome.{Told, gives}
use Rattle.answer.specs.Sizes.{max_packet, max_name}
use Rattle.packet.specs.declared.End.{End}
use Rattle.packet.specs.declared.End.TheVariants.{Peer, Server}
use Rattle.packet.specs.declared.Kind.{Kind}
use Rattle.packet.specs.declared.Kind.TheVariants.{Challenge, Response, SuccessRequest, FailureRequest, RetryRequest, SuccessResponse, FailureResponse, EapSuccess, EapFailure}
use Rattle.packet.specs.declared.Packet.{Packet}
use Rattle.packet.specs.Forms.{Formed}
use Rattle.packet.specs.Frame.{code_of, length_of, cut_of}
use Rattle.packet.specs.Reader.{reading, refusal, read_packet}

-- ---- 1. 01, "What a call answers": when each of 10 to 17 is given
abbrev pub type_of : List ℕ → ℕ
type_of p = get_or p 4 0

abbrev pub op_code_of : List ℕ → ℕ
op_code_of p = get_or p 5 0

abbrev pub ms_length_of : List ℕ → ℕ
ms_length_of p = number_at Big p 7

-- "peer 1, 3, 4; server 2"
abbrev pub CodeFor : End → ℕ → Type 0
CodeFor Peer code = (code ≡ 1) ⊎ ((code ≡ 3) ⊎ (code ≡ 4))
CodeFor Server code = code ≡ 2

-- the packets with a Type and an OpCode
abbrev pub HasOpCode : ℕ → Type 0
HasOpCode code = (code ≡ 1) ⊎ (code ≡ 2)

-- the table's columns Code and OpCode: the first four packets, and all that have an OpCode
pub data FirstFour : (code op : ℕ) → Type 0 where
  a_challenge : FirstFour 1 1
  a_response : FirstFour 2 2
  a_success_request : FirstFour 1 3
  a_failure_request : FirstFour 1 4

pub data InTable : (code op : ℕ) → Type 0 where
  first_four : (code op : ℕ) → FirstFour code op → InTable code op
  a_success_response : InTable 2 3
  a_failure_response : InTable 2 4

-- the condition of each number, of octets p lent to an end
pub data Condition (end : End) (p : List ℕ) : ℕ → Type 0 where
  -- "fewer than 4 octets lent"
  too_few : length p < 4 → Condition end p 10
  -- "L under 4 or over the octets lent"
  bad_length : (length_of p < 4) ⊎ (length p < length_of p) → Condition end p 11
  -- "L over 1,020"
  too_long : max_packet < length_of p → Condition end p 12
  -- "Code not for this end"
  bad_code : (CodeFor end (code_of p) → ⊥) → Condition end p 13
  -- "Code 1 or 2 and no Type octet, or Type not 26"
  bad_type : HasOpCode (code_of p) → (length_of p < 5) ⊎ (type_of p ≡ 26 → ⊥) → Condition end p 14
  -- "no OpCode, or not one of the table for that Code"
  bad_opcode : HasOpCode (code_of p) → (length_of p < 6) ⊎ (InTable (code_of p) (op_code_of p) → ⊥) → Condition end p 15
  -- "L under 9, or MS-Length not L - 5 (first four packets)"
  bad_ms_length : FirstFour (code_of p) (op_code_of p) → (length_of p < 9) ⊎ (ms_length_of p ≡ length_of p - 5 → ⊥) → Condition end p 16
  -- "the rest breaks its form above": the first L octets are no packet of the table for this end
  bad_form : (Formed end (cut_of p) → ⊥) → Condition end p 17

-- k's "condition holds and none earlier in the order does"
pub record First (end : End) (p : List ℕ) (k : ℕ) : Type 0 where
  pub holds : Condition end p k
  pub none_earlier : (j : ℕ) → j < k → Condition end p j → ⊥

-- "Each is given exactly when its condition holds and none earlier in the order does."
abbrev pub RefusedExactly : Type 0
RefusedExactly =
    (end : End) (p : List ℕ) (k : ℕ) → AreOctets p →
    (read_packet end p ≡ refusal k → First end p k) × (First end p k → read_packet end p ≡ refusal k)

-- "and else answer 0 with their result"
abbrev pub ReadExactly : Type 0
ReadExactly =
    (end : End) (p : List ℕ) → AreOctets p →
    ((read_packet end p).number ≡ 0 → (k : ℕ) → Condition end p k → ⊥) × (((k : ℕ) → Condition end p k → ⊥) → (read_packet end p).number ≡ 0)

-- a number from 10 to 17, or a packet with the Identifier at 1
pub data ReadOrRefused (p : List ℕ) : Told Packet → Type 0 where
  refused_by : (n : ℕ) → 10 ≤ n → n ≤ 17 → ReadOrRefused p (refusal n)
  read_as : (x : Packet) → x.id.0 ≡ get_or p 1 0 → ReadOrRefused p (gives x)

abbrev pub ReaderAnswers : Type 0
ReaderAnswers = (end : End) (p : List ℕ) → ReadOrRefused p (read_packet end p)

-- ---- 2. The reader takes exactly the packets of the table, up to 1,020 octets
-- a packet q is read, whatever padding follows it
pub record Taken (end : End) (q : List ℕ) : Type 0 where
  pub packet : Packet
  pub reads : (pad : List ℕ) → read_packet end (q ++ pad) ≡ gives packet

abbrev pub FormedReads : Type 0
FormedReads = (end : End) (q : List ℕ) → Formed end q → length q ≤ max_packet → Taken end q

abbrev pub ReadsFormed : Type 0
ReadsFormed = (end : End) (p : List ℕ) (x : Packet) → AreOctets p → read_packet end p ≡ gives x → Formed end (cut_of p)

-- "Octets after L are padding, ignored on reading": any others in their place, or none, read alike
abbrev pub PaddingIgnored : Type 0
PaddingIgnored =
    (end : End) (p pad : List ℕ) → 4 ≤ length_of p → length_of p ≤ length p → read_packet end (cut_of p ++ pad) ≡ read_packet end p

-- ---- 3. What a reading x of octets p tells of them
-- the end that reads a kind
abbrev pub end_of : Kind → End
end_of Challenge = Peer
end_of Response = Server
end_of SuccessRequest = Peer
end_of FailureRequest = Peer
end_of RetryRequest = Peer
end_of SuccessResponse = Server
end_of FailureResponse = Server
end_of EapSuccess = Peer
end_of EapFailure = Peer

-- the places lie within L
pub record Inside (x : Packet) : Type 0 where
  pub challenge : x.challenge.start + x.challenge.len ≤ x.length
  pub response : x.response.start + x.response.len ≤ x.length
  pub tail : x.tail.start + x.tail.len ≤ x.length

-- a name or a text goes on to L
abbrev pub ToEnd : Packet → Type 0
ToEnd x = x.tail.start + x.tail.len ≡ x.length

-- how long the places of a kind are
abbrev pub Long : Kind → Packet → Type 0
Long Challenge x = (x.challenge.len ≡ 16) × (1 ≤ x.tail.len) × ToEnd x
Long Response x = (x.challenge.len ≡ 16) × (x.response.len ≡ 24) × (x.tail.len ≤ max_name) × ToEnd x
Long SuccessRequest x = (x.response.len ≡ 40) × ToEnd x
Long FailureRequest x = (x.challenge.len ≡ 32) × ToEnd x
Long RetryRequest x = (x.challenge.len ≡ 32) × ToEnd x
Long SuccessResponse x = x.length ≡ 6
Long FailureResponse x = x.length ≡ 6
Long EapSuccess x = x.length ≡ 4
Long EapFailure x = x.length ≡ 4

pub record Tells (end : End) (p : List ℕ) (x : Packet) : Type 0 where
  pub size : x.length ≡ length_of p
  pub least : 4 ≤ x.length
  pub most : x.length ≤ max_packet
  pub inside : x.length ≤ length p
  pub here : end_of x.kind ≡ end
  pub id_is : x.id.0 ≡ get_or p 1 0
  pub places : Inside x
  pub long : Long x.kind x

abbrev pub ReadingTells : Type 0
ReadingTells = (end : End) (p : List ℕ) (x : Packet) → read_packet end p ≡ gives x → Tells end p x

-- ---- 4. Two packets that differ in their Identifier alone read alike but for it
-- x under the Identifier i
abbrev pub under : ℕ → Packet → Packet
under i x = reading x.kind i x.chapid.0 x.length x.error x.challenge x.response x.tail

-- the same refusal, or the same packet under i and under j
pub data Renumbered (i j : ℕ) (t t' : Told Packet) : Type 0 where
  same_refusal : (n : ℕ) → eqb n 0 ≡ false → t ≡ refusal n → t' ≡ refusal n → Renumbered i j t t'
  same_packet : (x : Packet) → t ≡ gives (under i x) → t' ≡ gives (under j x) → Renumbered i j t t'

abbrev pub ReadRenumbered : Type 0
ReadRenumbered = (i j : ℕ) (end : End) (code : ℕ) (rest : List ℕ) → Renumbered i j (read_packet end (code ∷ i ∷ rest)) (read_packet end (code ∷ j ∷ rest))
