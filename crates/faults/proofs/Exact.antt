-- The fault's number without its last two digits is the reader's answer: both are chains of the same tests.
use Prim.Native.Nat.{ℕ, ◌/◌}
use mathlib.Core.Path.{◌≡◌, refl}
use mathlib.Core.Bool.{Bool, true, false, not, ◌&&◌, ◌||◌}
use Rattle.octets.specs.Choice.{pick}
use Rattle.octets.specs.Octets.{octet_is}
use Rattle.octets.proofs.Exits.{arms}
use Rattle.answer.specs.Outcome.{Told}
use Rattle.packet.specs.declared.Packet.{Packet}
use Rattle.packet.specs.Frame.{framed, typed}
use Rattle.packet.specs.Reader.{chap_row, challenge_formed, read_challenge, response_formed, read_response, success_formed, read_success, failure_formed, failure_row, read_failure, read_bare, row_of, opened, read_cut, read_packet}
use Rattle.faults.specs.Faults.{challenge_fault, response_fault, success_fault, rest_fault, message_fault, failure_fault, bare_fault, chap_fault, request_fault, reply_fault, typed_fault, code_fault, fault_of}
use Rattle.faults.specs.Promises.{FaultsExact}

-- ---- of a choice
over_pick : (b : Bool) (x y : ℕ) → pick b x y / 100 ≡ pick b (x / 100) (y / 100)
unfolding pick
over_pick true x y = refl
over_pick false x y = refl

number_pick : (b : Bool) (t u : Told Packet) → (pick b t u).number ≡ pick b t.number u.number
unfolding pick
number_pick true t u = refl
number_pick false t u = refl

same_pick : (b : Bool) (x : ℕ) → pick b x x ≡ x
same_pick b x = arms (λ (n : ℕ). n ≡ x) b refl refl

-- ---- two tests in one
or_pick : (a b : Bool) (x y : ℕ) → pick (a || b) x y ≡ pick a x (pick b x y)
unfolding pick
or_pick true b x y = refl
or_pick false b x y = refl

neither_pick : (a b : Bool) (x y : ℕ) → pick (not (a || b)) x y ≡ pick a y (pick (not b) x y)
unfolding pick
neither_pick true b x y = refl
neither_pick false b x y = refl

-- a test of the form, one after the other
form_pick : (a b : Bool) (x y : ℕ) → pick (not (pick a false b)) x y ≡ pick a x (pick (not b) x y)
unfolding pick
form_pick true b x y = refl
form_pick false b x y = refl

-- Code 1, Code 2, and neither: without a Type 14 and 15 are not given
code_pick : (c1 c2 t4 t5 t6 : Bool) (x y z : ℕ) →
    pick ((c1 || c2) && (t4 || t5)) 14 (pick ((c1 || c2) && t6) 15 (pick c1 x (pick c2 y z))) ≡ pick (not (c1 || c2)) z (pick t4 14 (pick t5 14 (pick t6 15 (pick c1 x y))))
unfolding pick
code_pick true c2 t4 t5 t6 x y z = or_pick t4 t5 _ _
code_pick false true t4 t5 t6 x y z = or_pick t4 t5 _ _
code_pick false false t4 t5 t6 x y z = refl

pub faults_exact : FaultsExact
unfolding fault_of code_fault typed_fault reply_fault request_fault chap_fault bare_fault failure_fault message_fault rest_fault success_fault response_fault challenge_fault read_packet framed read_cut typed opened row_of read_bare read_failure failure_row read_success read_response read_challenge chap_row failure_formed success_formed response_formed challenge_formed octet_is
faults_exact end p = simp (over_pick, number_pick, or_pick, neither_pick, form_pick, code_pick, same_pick)
