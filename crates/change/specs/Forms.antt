-- 02, [2], "OpCode 7 as 001 section 2.7": the octets of a Change-Password, and what the writer answers.
use Rattle.std.specs.Prelude.{ℕ, List, [], ◌∷◌, ◌++◌, eqb, length}
use Rattle.packet.specs.declared.Place.{Place}
use Rattle.packet.specs.Forms.{eight_zeros, chap_packet}
use Rattle.packet.specs.Reader.{place}
use Rattle.answer.specs.Outcome.{Outcome}
use Rattle.writers.specs.Writers.{writing}

-- its encrypted password, where its encrypted hash stands, and L
abbrev pub block_octets : ℕ
block_octets = 516

abbrev pub encrypted_hash_at : ℕ
encrypted_hash_at = 525

abbrev pub change_octets : ℕ
change_octets = 591

-- its peer challenge and NT-Response
abbrev pub change_challenge_place : Place
change_challenge_place = place 541 16

abbrev pub change_response_place : Place
change_response_place = place 565 24

-- encrypted password, encrypted hash, peer challenge, eight zeros, NT-Response, two octets of flags zero
unfoldable pub change_packet : ℕ → ℕ → List ℕ → List ℕ → List ℕ → List ℕ → List ℕ
change_packet id chapid block hash peer response = chap_packet 2 7 id chapid (block ++ (hash ++ (peer ++ (eight_zeros ++ (response ++ (0 ∷ 0 ∷ []))))))

-- an encrypted password of 516 octets
abbrev pub write_change_password : ℕ → ℕ → List ℕ → List ℕ → List ℕ → List ℕ → ℕ → Outcome (Unit {0})
write_change_password id chapid block hash peer response room = writing (eqb (length block) block_octets) room (change_packet id chapid block hash peer response)
