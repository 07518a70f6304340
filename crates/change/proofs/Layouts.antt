-- The parts of a Change-Password: how long it is, in which order they are laid down, and where they stand.
use Prim.Native.Nat.{ℕ, ◌+◌, ◌≤◌}
use mathlib.Core.Path.{◌≡◌, refl, ◌∙◌}
use mathlib.Core.List.{List, [], ◌∷◌, ◌++◌}
use native.Mathlib.Omega.{arith}
use lib.ListN.{length, drop, length-append}
use Rattle.octets.specs.Lists.{part}
use Rattle.octets.proofs.Parts.{part_pad, part_from, drop_next}
use Rattle.octets.proofs.Appends.{Laid, laid_none}
use Rattle.answer.specs.Sizes.{max_packet}
use Rattle.packet.specs.Forms.{eight_zeros, header, chap_packet}
use Rattle.packet.specs.Reader.{at}
use Rattle.packet.proofs.Sizes.{length_chap_packet}
use Rattle.change.specs.Forms.{block_octets, encrypted_hash_at, change_octets, change_challenge_place, change_response_place, change_packet}

pub change_fits : change_octets ≤ max_packet
change_fits = omega arith

module _ (id chapid : ℕ) (block hash peer response : List ℕ) (long : length block ≡ block_octets) (sixteen : length hash ≡ 16) (sixteen' : length peer ≡ 16) (long' : length response ≡ 24) where
  abbrev change_q : List ℕ
  change_q = change_packet id chapid block hash peer response

  abbrev after_hash : List ℕ
  after_hash = peer ++ (eight_zeros ++ (response ++ (0 ∷ 0 ∷ [])))

  pub length_change_packet : length change_q ≡ change_octets
  unfolding change_packet
  length_change_packet = simp (length_chap_packet, length-append) (omega arith)

  -- ---- laid down
  pub laid_change : (old : List ℕ) → change_octets ≤ length old → Laid change_q old 0 old (header 2 7 id chapid change_octets ++ (block ++ (hash ++ after_hash)))
  unfolding change_packet chap_packet
  laid_change old room =
      let body : List ℕ = block ++ (hash ++ after_hash) in
      let e : 9 + length body ≡ change_octets = simp length-append (omega arith) in
      rw (← e) (laid_none (length_chap_packet 2 7 id chapid body) (omega arith))

  -- ---- where the parts stand
  block_from : drop 9 change_q ≡ block ++ (hash ++ after_hash)
  unfolding change_packet chap_packet header
  block_from = refl

  hash_from : drop encrypted_hash_at change_q ≡ hash ++ after_hash
  hash_from = drop_next change_q block _ 9 block_octets encrypted_hash_at block_from long refl

  from_541 : drop 541 change_q ≡ after_hash
  from_541 = drop_next change_q hash _ encrypted_hash_at 16 541 hash_from sixteen refl

  from_557 : drop 557 change_q ≡ eight_zeros ++ (response ++ (0 ∷ 0 ∷ []))
  from_557 = drop_next change_q peer _ 541 16 557 from_541 sixteen' refl

  from_565 : drop 565 change_q ≡ response ++ (0 ∷ 0 ∷ [])
  from_565 = drop_next change_q eight_zeros _ 557 8 565 from_557 refl refl

  -- ---- the fields, whatever follows the packet
  module _ (pad : List ℕ) where
    pub change_block : part (change_q ++ pad) 9 block_octets ≡ block
    change_block = part_pad change_q pad 9 block_octets (omega (arith, length_change_packet)) ∙ part_from change_q block _ 9 block_octets block_from long

    pub change_hash : part (change_q ++ pad) encrypted_hash_at 16 ≡ hash
    change_hash = part_pad change_q pad encrypted_hash_at 16 (omega (arith, length_change_packet)) ∙ part_from change_q hash _ encrypted_hash_at 16 hash_from sixteen

    pub change_challenge : at (change_q ++ pad) change_challenge_place ≡ peer
    change_challenge = part_pad change_q pad 541 16 (omega (arith, length_change_packet)) ∙ part_from change_q peer _ 541 16 from_541 sixteen'

    pub change_response : at (change_q ++ pad) change_response_place ≡ response
    change_response = part_pad change_q pad 565 24 (omega (arith, length_change_packet)) ∙ part_from change_q response _ 565 24 from_565 long'
