-- The peer takes what the server writes, with any padding after it.
use Prim.Native.Nat.{ℕ, ◌+◌, ◌≤◌}
use mathlib.Core.Path.{◌≡◌, refl, sym, ap, ◌∙◌}
use mathlib.Core.Bool.{false}
use mathlib.Core.List.{List, [], ◌++◌, append-nil}
use native.Mathlib.Omega.{arith}
use lib.ListN.{length, take}
use lib.Seq.{take_at}
use Rattle.octets.specs.Choice.{pick}
use Rattle.octets.specs.Lists.{part, cells}
use Rattle.octets.specs.Octets.{AreOctets, same, hex_at, unhex_at, decimal}
use Rattle.octets.proofs.Exits.{pick_true}
use Rattle.octets.proofs.Lists.{length_cells, take_sized}
use Rattle.octets.proofs.Parts.{sized_part}
use Rattle.octets.proofs.Decimals.{few_decimal}
use Rattle.octets.proofs.Hex.{all_hex_of}
use Rattle.octets.proofs.Scans.{same_refl}
use Rattle.answer.specs.Outcome.{outcome, fitting}
use Rattle.answer.specs.Sizes.{max_name}
use Rattle.answer.specs.declared.Identifier.{Identifier}
use Rattle.answer.proofs.Outcomes.{fitting_so}
use Rattle.packet.specs.declared.End.TheVariants as end
use Rattle.packet.specs.declared.Kind.TheVariants.{Challenge}
use Rattle.packet.specs.declared.Packet.{Packet}
use Rattle.packet.specs.Forms.{challenge_packet, with_text, success_request, failure_request, success_response, failure_response, eap_success, eap_failure}
use Rattle.packet.specs.Reader.{reading, place, nowhere, failure_of, challenge_in}
use Rattle.packet.proofs.Sizes.{length_challenge_packet, length_success_request, length_failure_request}
use Rattle.packet.proofs.Back.{Back, challenge_back, failure_request_back, challenge_again, eap_success_back, eap_failure_back}
use Rattle.mschap.specs.Responses.{digits_of}
use Rattle.peer.specs.declared.Peer.{Peer}
use Rattle.peer.specs.declared.Stage.TheVariants.{Begin, ChallengeResponseSent, SuccessResponseSent, FailureResponseSent, Success, Failed}
use Rattle.peer.specs.State.{own_name, last_id, response_to, right_digits, initial, staged, answered, responded, awaiting}
use Rattle.peer.specs.Calls.{renewed_in, response_in, step_of}
use Rattle.peer.proofs.Replies.{length_response_to}
use Rattle.server.specs.State.{chap_of}
use Rattle.peerlaws.proofs.Forward.{responds_so, any_tail_taken, succeeds_so, waits_so, fails_so, ends_so}

-- ---- a Challenge, at a made peer
module _ (id : Identifier) (challenge server random name hash padding : List ℕ) (room : ℕ) (sixteen : length challenge ≡ 16) (some : 1 ≤ length server) (few : length server ≤ max_name) (named : length name ≤ max_name) (own : length random ≡ 16) where
  abbrev q : List ℕ
  q = challenge_packet id.0 (chap_of id).0 challenge server

  abbrev k : Packet
  k = reading Challenge id.0 (chap_of id).0 (26 + length server) 0 (place 10 16) nowhere (place 26 (length server))

  abbrev p : Peer
  p = initial Begin name hash

  abbrev w : List ℕ
  w = response_to id.0 (chap_of id).0 challenge random name hash

  size : length q ≡ 26 + length server
  size = length_challenge_packet id.0 (chap_of id).0 challenge server sixteen

  back : Back end.Peer q k challenge [] server
  back = challenge_back id.0 (chap_of id).0 challenge server sixteen some (omega arith)

  cut : take (26 + length server) (q ++ padding) ≡ q
  cut = take_at q padding (26 + length server) size

  challenge_in_lem : challenge_in k q ≡ challenge
  unfolding challenge_in
  challenge_in_lem = sized_part q 10 16 (omega (arith, size)) ∙ ap (λ (x : List ℕ). part x 10 16) (sym (append-nil q)) ∙ back.challenge_is []

  name_in : own_name p ≡ name
  unfolding own_name initial
  name_in = take_sized max_name name named

  response_in_lem : response_in p k q random ≡ w
  unfolding initial
  response_in_lem = (λ j. response_to id.0 (chap_of id).0 (challenge_in_lem j) random (name_in j) hash)

  pub challenge_answered : 59 + length name ≤ room → step_of p (q ++ padding) random room ≡ outcome 0 w (responded challenge random (chap_of id) q w p)
  unfolding initial
  challenge_answered r =
      let c = take (26 + length server) (q ++ padding) in
      let e : response_in p k c random ≡ w = ap (λ (x : List ℕ). response_in p k x random) cut ∙ response_in_lem in
      let f : challenge_in k c ≡ challenge = ap (challenge_in k) cut ∙ challenge_in_lem in
      responds_so p (q ++ padding) random room k (back.reads padding) refl refl (rw (e, length_response_to id.0 (chap_of id).0 challenge random name hash own) r)
      ∙ (λ j. outcome 0 (e j) (responded (f j) random (chap_of id) (cut j) (e j) p))

-- ---- a Success Request with the right string
module _ (p : Peer) (i chapid : ℕ) (string random padding : List ℕ) (room : ℕ) (octets : AreOctets string) where
  abbrev granted : List ℕ
  granted = success_request i chapid string []

  pub success_accepted : p.stage ≡ ChallengeResponseSent → (i ≡ last_id p → ⊥) → right_digits p ≡ digits_of string → 6 ≤ room
      → step_of p (granted ++ padding) random room ≡ outcome 0 (success_response i) (answered SuccessResponseSent granted (success_response i) p)
  unfolding success_request digits_of
  success_accepted e d h r =
      let digits = cells 40 (hex_at string) in
      any_tail_taken p i chapid digits (with_text []) granted padding random room refl (omega (arith, length_success_request i chapid string [])) (length_cells 40 (hex_at string)) (all_hex_of false string 40 octets) e d
      ∙ ap (fitting room p) (pick_true _ _ _ (ap (same digits) h ∙ same_refl digits))
      ∙ fitting_so room p _ r

-- ---- a Failure Request; c are its challenge's octets
module _ (p : Peer) (i chapid code retry : ℕ) (c random padding : List ℕ) (room : ℕ) (small : code ≤ 999) (bit : retry ≤ 1) (octets : AreOctets c) where
  abbrev d : ℕ
  d = length (decimal code)

  abbrev denied : List ℕ
  denied = failure_request i chapid code retry c []

  abbrev denying : Packet
  denying = reading (failure_of retry) i chapid (57 + d + 0) code (place (18 + d) 32) nowhere (place (57 + d) 0)

  cut_denied : take (57 + d + 0) (denied ++ padding) ≡ denied
  cut_denied = take_at denied padding (57 + d + 0) (length_failure_request i chapid code retry d c [] refl)

  denied_back : Back end.Peer denied denying (cells 32 (hex_at c)) [] []
  denied_back = failure_request_back i chapid code retry c [] (omega arith) bit octets (omega (arith, few_decimal code))

  renewed_in_lem : length c ≡ 16 → renewed_in denying denied ≡ c
  unfolding renewed_in
  renewed_in_lem e =
      ap (λ (x : List ℕ). cells 16 (unhex_at (part x (18 + d) 32))) (sym (append-nil denied)) ∙ ap (λ (x : List ℕ). cells 16 (unhex_at x)) (denied_back.challenge_is []) ∙ challenge_again c e octets

  -- R=1
  pub retry_awaited : retry ≡ 1 → length c ≡ 16 → p.stage ≡ ChallengeResponseSent → (i ≡ last_id p → ⊥) → step_of p (denied ++ padding) random room ≡ outcome 1 [] (awaiting c denied p)
  unfolding failure_of pick
  retry_awaited b n e h =
      waits_so p (denied ++ padding) random room denying (denied_back.reads padding) e (ap failure_of b) h
      ∙ (λ j. outcome 1 [] (awaiting ((ap (renewed_in denying) cut_denied ∙ renewed_in_lem n) j) (cut_denied j) p))

  -- R=0
  pub failure_replied : retry ≡ 0 → p.stage ≡ ChallengeResponseSent → (i ≡ last_id p → ⊥) → 6 ≤ room
      → step_of p (denied ++ padding) random room ≡ outcome 0 (failure_response i) (answered FailureResponseSent denied (failure_response i) p)
  unfolding failure_of pick
  failure_replied b e h r =
      fails_so p (denied ++ padding) random room denying (denied_back.reads padding) e (ap failure_of b) h r
      ∙ (λ j. outcome 0 (failure_response i) (answered FailureResponseSent (cut_denied j) (failure_response i) p))

-- ---- EAP Success and EAP Failure
module _ (p : Peer) (i : ℕ) (padding random : List ℕ) (room : ℕ) (known : last_id p ≡ i) where
  pub success_ended : p.stage ≡ SuccessResponseSent → step_of p (eap_success i ++ padding) random room ≡ outcome 2 [] (staged Success p)
  success_ended e = succeeds_so p (eap_success i ++ padding) random room _ ((eap_success_back i).reads padding) e refl known

  pub failure_ended : p.stage ≡ FailureResponseSent → step_of p (eap_failure i ++ padding) random room ≡ outcome 3 [] (staged Failed p)
  failure_ended e = ends_so p (eap_failure i ++ padding) random room _ ((eap_failure_back i).reads padding) e refl known
