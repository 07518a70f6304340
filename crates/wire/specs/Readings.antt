-- A reading as octets: the layout of include/zirgumtak.h. Numbers have their low octet first.
use Rattle.std.specs.Prelude.{ℕ, ◌/◌, ◌%◌, List, [], ◌∷◌, ◌++◌}
use Rattle.packet.specs.declared.Packet.{Packet}
use Rattle.packet.specs.declared.Place.{Place}
use Rattle.packet.specs.Kinds.{kind_number}

abbrev pub reading_octets : ℕ
reading_octets = 25

-- a number's two low octets; a part's start and length
abbrev pub two_low : ℕ → List ℕ
two_low n = n % 256 ∷ n / 256 % 256 ∷ []

abbrev pub octets_of_place : Place → List ℕ
octets_of_place a = two_low a.start ++ two_low a.len

-- kind, Identifier, MS-CHAPv2-ID; L; the number of E=; start and length of challenge, response and tail
unfoldable pub octets_of_reading : Packet → List ℕ
octets_of_reading x =
    kind_number x.kind ∷ x.id.0 ∷ x.chapid.0
    ∷ x.length % 256 ∷ x.length / 256 % 256
    ∷ x.error % 256 ∷ x.error / 256 % 256 ∷ x.error / 65536 % 256 ∷ x.error / 16777216 % 256
    ∷ x.error / 4294967296 % 256 ∷ x.error / 1099511627776 % 256 ∷ x.error / 281474976710656 % 256 ∷ x.error / 72057594037927936 % 256
    ∷ x.challenge.start % 256 ∷ x.challenge.start / 256 % 256 ∷ x.challenge.len % 256 ∷ x.challenge.len / 256 % 256
    ∷ x.response.start % 256 ∷ x.response.start / 256 % 256 ∷ x.response.len % 256 ∷ x.response.len / 256 % 256
    ∷ x.tail.start % 256 ∷ x.tail.start / 256 % 256 ∷ x.tail.len % 256 ∷ x.tail.len / 256 % 256 ∷ []
