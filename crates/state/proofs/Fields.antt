-- Octets of a state's size are the fields that are read of them, one after the other.
use Prim.Native.Nat.{ℕ, zero, suc, ◌+◌, ◌/◌, ◌%◌, ◌≤◌, ◌<◌}
use native.Mathlib.Omega.{arith}
use mathlib.Core.Path.{◌≡◌, refl, sym, ◌∙◌}
use mathlib.Core.List.{List, ◌∷◌, ◌++◌, flatten, append-nil}
use lib.ListN.{length, get_or, drop, length-drop, take-append-drop}
use lib.Seq.{drop-cons, drop-drop}
use Rattle.octets.specs.Lists.{sized}
use Rattle.octets.specs.Octets.{number_at, AreOctets}
use Rattle.octets.specs.declared.Order.TheVariants.{Little}
use Rattle.octets.proofs.Lists.{sized_take, sized_own}
use Rattle.answer.specs.Sizes.{max_packet, max_name}
use Rattle.peer.specs.State.{reply_room}
use Rattle.server.specs.State.{request_room}
use Rattle.state.specs.PeerOctets.{hash_at, authenticator_at, own_at, name_at, request_at, reply_at, expected_at, peer_stage_of, peer_stage_number, peer_of, octets_of_peer}
use Rattle.state.specs.ServerOctets as server
use Rattle.state.specs.ServerOctets.{challenge_at, server_stage_of, server_stage_number, server_of, octets_of_server}
use Rattle.state.specs.Promises.{PeerOctetsBack, ServerOctetsBack}

-- ---- a field, and the octets after it
field_on : (s : List ℕ) {rest : List ℕ} (at n : ℕ) → at + n ≤ length s → rest ≡ drop (at + n) s → sized n (drop at s) ++ rest ≡ drop at s
field_on s at n h e =
    let l : n ≤ length (drop at s) = omega (arith, length-drop at s) in
    rw (e, sized_take n (drop at s) l, ← drop-drop n at s) (take-append-drop n (drop at s))

last_on : (s : List ℕ) (at n : ℕ) → length s ≡ at + n → sized n (drop at s) ≡ drop at s
last_on s at n h = sized_own n (drop at s) (omega (arith, length-drop at s))

octet_on : (s : List ℕ) {rest : List ℕ} {x : ℕ} (at : ℕ) → at < length s → x ≡ get_or s at 0 → rest ≡ drop (suc at) s → x ∷ rest ≡ drop at s
octet_on s at h e f = (λ i. e i ∷ f i) ∙ sym (drop-cons s at 0 h)

-- ---- a length of two octets
low : (s : List ℕ) (at : ℕ) → AreOctets s → number_at Little s at % 256 ≡ get_or s at 0
unfolding number_at
low s at o = omega (arith, o at, o (at + 1))

high : (s : List ℕ) (at : ℕ) → AreOctets s → number_at Little s at / 256 ≡ get_or s (at + 1) 0
unfolding number_at
high s at o = omega (arith, o at, o (at + 1))

-- ---- the peer
peer_number : (n : ℕ) → n ≤ 6 → peer_stage_number (peer_stage_of n) ≡ n
unfolding peer_stage_of
peer_number zero h = refl
peer_number (suc zero) h = refl
peer_number (suc (suc zero)) h = refl
peer_number (suc (suc (suc zero))) h = refl
peer_number (suc (suc (suc (suc zero)))) h = refl
peer_number (suc (suc (suc (suc (suc zero))))) h = refl
peer_number (suc (suc (suc (suc (suc (suc zero)))))) h = refl
peer_number (suc (suc (suc (suc (suc (suc (suc n))))))) h = absurd (omega arith)

pub peer_octets_back : PeerOctetsBack
unfolding peer_of octets_of_peer flatten
peer_octets_back s z =
    let l = z.long in
    let o = z.octets in
    let expected = append-nil _ ∙ last_on s expected_at 20 l in
    let reply = field_on s reply_at reply_room (omega arith) expected in
    let request = field_on s request_at max_packet (omega arith) reply in
    let name = field_on s name_at max_name (omega arith) request in
    let own = field_on s own_at 16 (omega arith) name in
    let authenticator = field_on s authenticator_at 16 (omega arith) own in
    let hash = field_on s hash_at 16 (omega arith) authenticator in
    let o7 = octet_on s 7 (omega arith) (high s 6 o) hash in
    let o6 = octet_on s 6 (omega arith) (low s 6 o) o7 in
    let o5 = octet_on s 5 (omega arith) (high s 4 o) o6 in
    let o4 = octet_on s 4 (omega arith) (low s 4 o) o5 in
    let o3 = octet_on s 3 (omega arith) (high s 2 o) o4 in
    let o2 = octet_on s 2 (omega arith) (low s 2 o) o3 in
    let o1 = octet_on s 1 (omega arith) refl o2 in
    octet_on s 0 (omega arith) (peer_number (get_or s 0 0) z.stage) o1

-- ---- the server
server_number : (n : ℕ) → n ≤ 5 → server_stage_number (server_stage_of n) ≡ n
unfolding server_stage_of
server_number zero h = refl
server_number (suc zero) h = refl
server_number (suc (suc zero)) h = refl
server_number (suc (suc (suc zero))) h = refl
server_number (suc (suc (suc (suc zero)))) h = refl
server_number (suc (suc (suc (suc (suc zero))))) h = refl
server_number (suc (suc (suc (suc (suc (suc n)))))) h = absurd (omega arith)

pub server_octets_back : ServerOctetsBack
unfolding server_of octets_of_server flatten
server_octets_back s z =
    let l = z.long in
    let o = z.octets in
    let request = append-nil _ ∙ last_on s server.request_at request_room l in
    let challenge = field_on s challenge_at 16 (omega arith) request in
    let o5 = octet_on s 5 (omega arith) (high s 4 o) challenge in
    let o4 = octet_on s 4 (omega arith) (low s 4 o) o5 in
    let o3 = octet_on s 3 (omega arith) refl o4 in
    let o2 = octet_on s 2 (omega arith) refl o3 in
    let o1 = octet_on s 1 (omega arith) refl o2 in
    octet_on s 0 (omega arith) (server_number (get_or s 0 0) z.stage) o1
