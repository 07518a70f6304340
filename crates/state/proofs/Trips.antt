-- What was encoded decodes to the state, and what is decoded is a state.
use Prim.Native.Nat.{ℕ, suc, ◌+◌, ◌-◌, ◌*◌, ◌/◌, ◌%◌, ◌≤◌, ◌<◌}
use native.Mathlib.Omega.{arith}
use mathlib.Core.Path.{◌≡◌, refl, sym, ap, ◌∙◌}
use mathlib.Core.List.{List, ◌∷◌, flatten}
use lib.ListN.{length, get_or, drop, length-append}
use Rattle.std.specs.Int.{w16, from_le_bytes}
use lib.Seq.{drop_at, drop-drop, get_or-drop}
use Rattle.octets.specs.Lists.{sized}
use Rattle.octets.specs.Octets.{pair_of, number_at}
use Rattle.octets.specs.declared.Order.TheVariants.{Little}
use Rattle.octets.proofs.Lists.{cells_same, length_sized, get_or_sized, sized_append}
use Rattle.answer.specs.Sizes.{max_packet, max_name}
use Rattle.peer.specs.declared.Stage.{Stage as PeerStage}
use Rattle.peer.specs.declared.Stage.TheVariants as peer
use Rattle.peer.specs.declared.Peer.{Peer}
use Rattle.peer.specs.State.{reply_room}
use Rattle.peerlaws.specs.Runs.{IsPeer}
use Rattle.server.specs.declared.Stage.{Stage as ServerStage}
use Rattle.server.specs.declared.Stage.TheVariants as server
use Rattle.server.specs.declared.Server.{Server}
use Rattle.server.specs.State.{IsServer}
use Rattle.state.specs.PeerOctets.{hash_at, authenticator_at, own_at, name_at, request_at, reply_at, expected_at, peer_fields, peer_octets, peer_stage_of, peer_stage_number, peer_of, octets_of_peer}
use Rattle.state.specs.Promises.{AnyOctetsStand, PeerBack, ServerBack}
use Rattle.state.specs.ServerOctets.{server_fields, server_octets, server_stage_of, server_stage_number, server_of, octets_of_server}

peer_stage : (s : PeerStage) → peer_stage_of (peer_stage_number s) ≡ s
unfolding peer_stage_of
peer_stage peer.Begin = refl
peer_stage peer.ChallengeResponseSent = refl
peer_stage peer.SuccessResponseSent = refl
peer_stage peer.FailureResponseSent = refl
peer_stage peer.Waiting = refl
peer_stage peer.Success = refl
peer_stage peer.Failed = refl

pub peer_other : (n : ℕ) → 6 ≤ n → peer.Failed ≡ peer_stage_of n
unfolding peer_stage_of
peer_other n h = let e : n ≡ suc (suc (suc (suc (suc (suc (n - 6)))))) = omega arith in rw e

server_stage : (s : ServerStage) → server_stage_of (server_stage_number s) ≡ s
unfolding server_stage_of
server_stage server.Begin = refl
server_stage server.ChallengeSent = refl
server_stage server.SuccessRequestSent = refl
server_stage server.FailureRequestSent = refl
server_stage server.Success = refl
server_stage server.Failed = refl

pub server_other : (n : ℕ) → 5 ≤ n → server.Failed ≡ server_stage_of n
unfolding server_stage_of
server_other n h = let e : n ≡ suc (suc (suc (suc (suc (n - 5))))) = omega arith in rw e

-- a length of two octets
split : (n : ℕ) → n % 256 + n / 256 * 256 ≡ n
split n = omega arith

-- the fields xs stand in l from `at` on: the first of them, of n octets, and the others after it
record From (l : List ℕ) (at : ℕ) (xs : List (List ℕ)) : Type 0 where
  on : drop at l ≡ flatten xs

field_at : {l x : List ℕ} {xs : List (List ℕ)} {at n : ℕ} → From l at (x ∷ xs) → length x ≡ n → (sized n (drop at l) ≡ x) × From l (at + n) xs
unfolding flatten
field_at {l} {x} {xs} {at} {n} f h = (rw f.on (sized_append n x (flatten xs) h), record { on = sym (drop-drop n at l) ∙ ap (drop n) f.on ∙ drop_at x (flatten xs) n h })

-- ---- the peer
pub length_octets_of_peer : (p : Peer) → IsPeer p → length (octets_of_peer p) ≡ peer_octets
unfolding octets_of_peer flatten
length_octets_of_peer p z = simp length-append (omega arith)

pub peer_back : PeerBack
unfolding peer_of octets_of_peer number_at flatten
peer_back p z =
    let start : From (octets_of_peer p) 0 (peer_fields p) = record { on = refl } in
    let f0 = field_at start refl in
    let f1 = field_at f0.1 z.credentials.hash in
    let f2 = field_at f1.1 z.challenges.authenticator in
    let f3 = field_at f2.1 z.challenges.own in
    let f4 = field_at f3.1 z.credentials.name in
    let f5 = field_at f4.1 z.request in
    let f6 = field_at f5.1 z.reply in
    let f7 = field_at f6.1 z.challenges.expected in
    simp (peer_stage p.stage, split p.credentials.namelen, split p.requestlen, split p.replylen, f1.0, f2.0, f3.0, f4.0, f5.0, f6.0, f7.0)

-- the same fields, the same peer
pub same_peer : (p q : Peer)
    → p.stage ≡ q.stage
    → p.credentials.name ≡ q.credentials.name → p.credentials.namelen ≡ q.credentials.namelen → p.credentials.hash ≡ q.credentials.hash
    → p.challenges.authenticator ≡ q.challenges.authenticator → p.challenges.own ≡ q.challenges.own → p.challenges.chapid.0 ≡ q.challenges.chapid.0
    → p.request ≡ q.request → p.requestlen ≡ q.requestlen → p.reply ≡ q.reply → p.replylen ≡ q.replylen → p.challenges.expected ≡ q.challenges.expected
    → p ≡ q
same_peer p q a b c d e f g h j k l m = λ i. record { stage = a i; credentials = record { name = b i; namelen = c i; hash = d i }; challenges = record { authenticator = e i; own = f i; chapid = record { 0 = g i }; expected = m i }; request = h i; requestlen = j i; reply = k i; replylen = l i }

pub stage_read : (n m : ℕ) (x : PeerStage) → n ≡ m → x ≡ peer_stage_of n → x ≡ peer_stage_of m
stage_read n m x e f = cc

-- a length is its two octets, the low one first
pub length_read : (s octets : List ℕ) (at n : ℕ) → octets ≡ sized 2 (drop at s) → n ≡ from_le_bytes w16 octets → n ≡ number_at Little s at
unfolding number_at
length_read s octets at n e f =
    let low : get_or octets 0 0 ≡ get_or s (at + 0) 0 = rw e (get_or_sized 2 (drop at s) 0 (omega arith) ∙ get_or-drop at s 0 0) in
    let high : get_or octets 1 0 ≡ get_or s (at + 1) 0 = rw e (get_or_sized 2 (drop at s) 1 (omega arith) ∙ get_or-drop at s 1 0) in
    let none : at + 0 ≡ at = omega arith in
    f ∙ rw (low, high, none) (omega arith)

-- octets past a peer's size stand for nothing, and those that are missing for zeros
field_sized : (n : ℕ) (s : List ℕ) (at m : ℕ) → at + m ≤ n → sized m (drop at (sized n s)) ≡ sized m (drop at s)
unfolding sized
field_sized n s at m h = cells_same m _ _ (λ k l. get_or-drop at (sized n s) k 0 ∙ get_or_sized n s (at + k) (omega arith) ∙ sym (get_or-drop at s k 0))

number_sized : (n : ℕ) (s : List ℕ) (k : ℕ) → k + 1 < n → number_at Little (sized n s) k ≡ number_at Little s k
unfolding number_at
number_sized n s k h = λ i. pair_of Little (get_or_sized n s k (omega arith) i) (get_or_sized n s (k + 1) (omega arith) i)

pub peer_sized : (s : List ℕ) → peer_of (sized peer_octets s) ≡ peer_of s
unfolding peer_of
peer_sized s =
    same_peer _ _
    (ap peer_stage_of (get_or_sized peer_octets s 0 (omega arith)))
    (field_sized peer_octets s name_at max_name (omega arith))
    (number_sized peer_octets s 2 (omega arith))
    (field_sized peer_octets s hash_at 16 (omega arith))
    (field_sized peer_octets s authenticator_at 16 (omega arith))
    (field_sized peer_octets s own_at 16 (omega arith))
    (get_or_sized peer_octets s 1 (omega arith))
    (field_sized peer_octets s request_at max_packet (omega arith))
    (number_sized peer_octets s 4 (omega arith))
    (field_sized peer_octets s reply_at reply_room (omega arith))
    (number_sized peer_octets s 6 (omega arith))
    (field_sized peer_octets s expected_at 20 (omega arith))

-- any octets decode to a state
pub is_peer_lem : (s : List ℕ) → IsPeer (peer_of s)
unfolding peer_of
is_peer_lem s = search length_sized

-- ---- the server
pub length_octets_of_server : (s : Server) → IsServer s → length (octets_of_server s) ≡ server_octets
unfolding octets_of_server flatten
length_octets_of_server s z = simp length-append (omega arith)

pub server_back : ServerBack
unfolding server_of octets_of_server number_at flatten
server_back s z =
    let start : From (octets_of_server s) 0 (server_fields s) = record { on = refl } in
    let f0 = field_at start refl in
    let f1 = field_at f0.1 z.challenge in
    let f2 = field_at f1.1 z.request in
    simp (server_stage s.stage, split s.request.len, f1.0, f2.0)

pub is_server_lem : (s : List ℕ) → IsServer (server_of s)
unfolding server_of
is_server_lem s = search length_sized

pub any_octets_stand : AnyOctetsStand
any_octets_stand s = (is_peer_lem s, is_server_lem s)
