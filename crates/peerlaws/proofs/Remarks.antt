-- A peer that pretends in WAITING is shut out.
use Prim.Native.Nat.{ℕ, ◌≤◌}
use mathlib.Core.Path.{◌≡◌, refl, sym, ap, ◌∙◌}
use mathlib.Core.List.{List, [], ◌∷◌}
use native.Mathlib.Omega.{arith}
use lib.Count.{ones}
use lib.ListN.{length, get_or, replicate, get_or-append}
use Rattle.octets.specs.Choice.{pick}
use Rattle.octets.specs.Lists.{cells, turns}
use Rattle.octets.proofs.Lists.{take_sized}
use Rattle.answer.specs.Outcome.{Outcome}
use Rattle.answer.specs.Sizes.{max_packet}
use Rattle.packet.specs.Forms.{header, chap_packet, response_packet, failure_request}
use Rattle.packet.proofs.Sizes.{length_failure_request}
use Rattle.octets.specs.Octets.{decimal}
use Rattle.octets.proofs.Decimals.{few_decimal}
use Rattle.digest.specs.Blocks.{octet_of, octet_at, padded, word_at, block_at, chained}
use Rattle.digest.specs.Sha1.{function, constant, next_word, extended, round, rounds, compressed, output, sha1_of}
use Rattle.des.specs.Tables.{ip_table, fp_table, e_table, p_table, pc1_table, pc2_table, shift_table, s_table}
use Rattle.des.specs.Bits.{permuted, xored, bit_of, bits_of, number_on}
use Rattle.des.specs.Des.{substituted, cipher_function, shifted, halves_of, round_of, rounds_of, swapped, enciphered}
use Rattle.des.specs.Keys.{key_octets}
use Rattle.mschap.specs.Users.{start_from, user_start, user_of}
use Rattle.mschap.specs.Responses.{challenge_hash, key_part, block_of, nt_response}
use Rattle.mschap.proofs.Responses.{length_nt_response}
use Rattle.peer.specs.declared.Stage.TheVariants.{Begin}
use Rattle.peer.specs.declared.Peer.{Peer}
use Rattle.peer.specs.State.{last_request, last_id, last_chap_id, response_to, initial, awaiting}
use Rattle.peer.specs.Calls.{response_by}
use Rattle.peer.proofs.Replies.{length_response_to}
use Rattle.peerlaws.specs.Runs.{Call, supply, call_of, IsPeer}
use Rattle.peerlaws.specs.Remarks.{Step, Promised, keeping, IgnoresIdentifier, IgnoresChapId, IgnoresC, PretendsNot}
use Rattle.peerlaws.proofs.Forward.{supplies_so}
use Rattle.peerlaws.proofs.Sizes.{is_initial, is_awaiting}

abbrev zeros : List ℕ
zeros = replicate 16 0

abbrev made : Peer
made = initial Begin [] zeros

made_is : IsPeer made
made_is = is_initial Begin [] zeros refl

abbrev again : Call
again = supply [] zeros zeros 59

-- the first octets of the NT-Responses to two challenges
abbrev others : List ℕ
others = replicate 16 1

first_octets : (get_or (nt_response zeros zeros [] zeros) 0 0 ≡ 66) × (get_or (nt_response others zeros [] zeros) 0 0 ≡ 244)
unfolding pick cells turns octet_of octet_at padded word_at block_at chained function constant next_word extended round rounds compressed output sha1_of ip_table fp_table e_table p_table pc1_table pc2_table shift_table s_table permuted xored bit_of bits_of number_on substituted cipher_function shifted halves_of round_of rounds_of swapped enciphered ones key_octets challenge_hash key_part block_of nt_response
first_octets = (refl, refl)

-- a Response has its NT-Response from 34 on
nt_at : (c : List ℕ) → get_or (response_to 0 0 c zeros [] zeros) 34 0 ≡ get_or (nt_response c zeros [] zeros) 0 0
unfolding response_to response_packet chap_packet header user_of user_start start_from
nt_at c = get_or-append (nt_response c zeros [] zeros) (0 ∷ []) 0 0 (omega (arith, length_nt_response c zeros [] zeros))

-- the kept request's two numbers
short : (id chapid : ℕ) (c : List ℕ) → length (failure_request id chapid 691 1 c []) ≤ max_packet
short id chapid c = omega (arith, length_failure_request id chapid 691 1 (length (decimal 691)) c [] refl, few_decimal 691)

kept_id : (id chapid : ℕ) (c : List ℕ) → last_id (keeping made id chapid c) ≡ id
unfolding last_id last_request awaiting failure_request chap_packet header
kept_id id chapid c = ap (λ (l : List ℕ). get_or l 1 0) (take_sized max_packet (failure_request id chapid 691 1 c []) (short id chapid c))

kept_chapid : (id chapid : ℕ) (c : List ℕ) → last_chap_id (keeping made id chapid c) ≡ chapid
unfolding last_chap_id last_request awaiting failure_request chap_packet header
kept_chapid id chapid c = ap (λ (l : List ℕ). get_or l 6 0) (take_sized max_packet (failure_request id chapid 691 1 c []) (short id chapid c))

module _ (step : Step) (promised : Promised step) where
  writes : (id chapid : ℕ) (c : List ℕ) → length c ≡ 16 → (step (keeping made id chapid c) again).octets ≡ response_to id chapid c zeros [] zeros
  unfolding call_of response_by awaiting
  writes id chapid c h =
      let p = keeping made id chapid c in
      let w : response_by p [] zeros zeros ≡ response_to id chapid c zeros [] zeros = (λ j. response_to (kept_id id chapid c j) (kept_chapid id chapid c j) c zeros [] zeros) in
      ap (λ (o : Outcome Peer). o.octets) (promised p again (is_awaiting made made_is c (failure_request id chapid 691 1 c []) h) (refl, refl))
      ∙ ap (λ (o : Outcome Peer). o.octets) (supplies_so p [] zeros zeros 59 refl (omega arith) (rw (w, length_response_to id chapid c zeros [] zeros refl) (omega arith)))
      ∙ w

  identifier_not : IgnoresIdentifier step → ⊥
  unfolding response_to response_packet chap_packet header
  identifier_not h =
      let e : ◌≡◌ {A = ℕ} 1 2 = ap (λ (l : List ℕ). get_or l 1 0) (sym (writes 1 0 zeros refl) ∙ h made again 1 2 0 zeros made_is (refl, refl) refl ∙ writes 2 0 zeros refl) in
      omega arith

  chapid_not : IgnoresChapId step → ⊥
  unfolding response_to response_packet chap_packet header
  chapid_not h =
      let e : ◌≡◌ {A = ℕ} 1 2 = ap (λ (l : List ℕ). get_or l 6 0) (sym (writes 0 1 zeros refl) ∙ h made again 0 1 2 zeros made_is (refl, refl) refl ∙ writes 0 2 zeros refl) in
      omega arith

  c_not : IgnoresC step → ⊥
  c_not h =
      let e : ◌≡◌ {A = ℕ} 66 244 =
      sym first_octets.0
      ∙ sym (nt_at zeros)
      ∙ ap (λ (l : List ℕ). get_or l 34 0) (sym (writes 0 0 zeros refl) ∙ h made again 0 0 zeros others made_is (refl, refl) refl refl ∙ writes 0 0 others refl)
      ∙ nt_at others
      ∙ first_octets.1 in
      omega arith

pub pretends_not : PretendsNot
pretends_not step promised = (identifier_not step promised, chapid_not step promised, c_not step promised)
