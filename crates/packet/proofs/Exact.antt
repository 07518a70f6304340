-- The reader takes exactly the packets of the table, up to 1,020 octets.
use Prim.Native.Nat.{ℕ, ◌+◌}
use mathlib.Core.Path.{sym, subst}
use mathlib.Core.List.{List}
use native.Mathlib.Omega.{arith}
use lib.ListN.{length, take, drop, length-take, length-drop, get_or-eq_default}
use lib.Seq.{get_or-take}
use Rattle.octets.specs.Lists.{part}
use Rattle.octets.specs.Octets.{AreOctets}
use Rattle.octets.proofs.Exits.{below}
use Rattle.octets.proofs.Parts.{length_part}
use Rattle.packet.specs.declared.End.{End}
use Rattle.packet.specs.declared.End.TheVariants.{Peer, Server}
use Rattle.packet.specs.declared.Kind.{Kind}
use Rattle.packet.specs.declared.Kind.TheVariants.{Challenge, Response, SuccessRequest, FailureRequest, RetryRequest, SuccessResponse, FailureResponse, EapSuccess, EapFailure}
use Rattle.packet.specs.declared.Packet.{Packet}
use Rattle.packet.specs.Forms.{challenge_name_at, response_name_at, Formed, a_challenge, a_response, a_success_request, a_failure_request, a_success_response, a_failure_response, an_eap_success, an_eap_failure}
use Rattle.packet.specs.Frame.{length_of, cut_of}
use Rattle.packet.specs.Promises.{end_of, FormedReads, ReadsFormed}
use Rattle.packet.proofs.Sizes.{length_challenge_packet, length_success, length_failure}
use Rattle.packet.proofs.Back.{challenge_back, response_back, tail_size, success_back, failure_back, success_response_back, failure_response_back, eap_success_back, eap_failure_back}
use Rattle.packet.proofs.Readings.{tells, Shape}

pub formed_reads : FormedReads
formed_reads Peer _ (a_challenge id chapid c name n s) h =
    record { packet = _; reads = (challenge_back id chapid c name n s (omega (arith, length_challenge_packet id chapid c name n))).reads }
formed_reads Server _ (a_response id chapid p r name n m s) h = record { packet = _; reads = (response_back id chapid p r name n m s).reads }
formed_reads Peer _ (a_success_request id chapid s tail n u) h =
    record { packet = _; reads = (success_back id chapid s tail n u (omega (arith, tail_size tail, length_success id chapid s tail n))).reads }
formed_reads Peer _ (a_failure_request id chapid e retry c v text f) h =
    record { packet = _; reads = (failure_back id chapid e retry c v text f (omega (arith, length_failure id chapid e (48 + retry) c v text f.c_size))).reads }
formed_reads Server _ (a_success_response id) h = record { packet = _; reads = (success_response_back id).reads }
formed_reads Server _ (a_failure_response id) h = record { packet = _; reads = (failure_response_back id).reads }
formed_reads Peer _ (an_eap_success id) h = record { packet = _; reads = (eap_success_back id).reads }
formed_reads Peer _ (an_eap_failure id) h = record { packet = _; reads = (eap_failure_back id).reads }

-- and what is read is one
pub cut_octets : (p : List ℕ) (l : ℕ) → AreOctets p → AreOctets (take l p)
cut_octets p l o k =
    below k (length (take l p))
    (λ h. rw (get_or-take l p k 0 (omega (arith, length-take l p))) (o k))
    (λ h. rw (get_or-eq_default (take l p) 0 h) (omega arith))

shape_formed : (k : Kind) (q : List ℕ) (x : Packet) → AreOctets q → Shape k q x → Formed (end_of k) q
shape_formed Challenge q x o s =
    let l = s.least in
    subst (Formed Peer) (sym (s.is o)) (a_challenge _ _ (part q 10 16) (drop challenge_name_at q) (length_part q 10 16 (omega arith)) (omega (arith, length-drop challenge_name_at q)))
shape_formed Response q x o s =
    let l = s.least in
    let m = s.most in
    subst (Formed Server) (sym (s.is o)) (a_response _ _ (part q 10 16) (part q 34 24) (drop response_name_at q) (length_part q 10 16 (omega arith)) (length_part q 34 24 (omega arith)) (omega (arith, length-drop response_name_at q)))
shape_formed SuccessRequest q x o s =
    let l = s.least in
    subst (Formed Peer) (sym (s.is o)) (a_success_request _ _ (part q 11 40) _ (length_part q 11 40 (omega arith)) s.upper)
shape_formed FailureRequest q x o s = subst (Formed Peer) (sym (s.is o)) (a_failure_request _ _ _ s.retry _ _ _ s.spelling)
shape_formed RetryRequest q x o s = subst (Formed Peer) (sym (s.is o)) (a_failure_request _ _ _ s.retry _ _ _ s.spelling)
shape_formed SuccessResponse q x o s = subst (Formed Server) (sym s.is) (a_success_response _)
shape_formed FailureResponse q x o s = subst (Formed Server) (sym s.is) (a_failure_response _)
shape_formed EapSuccess q x o s = subst (Formed Peer) (sym s.is) (an_eap_success _)
shape_formed EapFailure q x o s = subst (Formed Peer) (sym s.is) (an_eap_failure _)

pub reads_formed : ReadsFormed
reads_formed end p x o e =
    let t = tells end p x e in
    let q = cut_of p in
    let s : Shape x.kind q x = subst (λ (n : ℕ). Shape x.kind (take n p) x) t.size t.shape in
    subst (λ (z : End). Formed z q) t.here (shape_formed x.kind q x (cut_octets p (length_of p) o) s)
