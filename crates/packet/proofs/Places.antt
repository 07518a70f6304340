-- What a reading tells: its places lie within L, and how long they are.
use Prim.Native.Nat.{ℕ, ◌+◌}
use mathlib.Core.Path.{◌≡◌, refl, sym, subst, ◌∙◌}
use mathlib.Core.List.{List}
use native.Mathlib.Omega.{arith}
use lib.ListN.{length, take, length-drop}
use Rattle.packet.specs.declared.Kind.{Kind}
use Rattle.packet.specs.declared.Kind.TheVariants.{Challenge, Response, SuccessRequest, FailureRequest, RetryRequest, SuccessResponse, FailureResponse, EapSuccess, EapFailure}
use Rattle.packet.specs.declared.Packet.{Packet}
use Rattle.packet.specs.Forms.{challenge_name_at, response_name_at}
use Rattle.packet.specs.Promises.{Inside, ToEnd, Long, ReadingTells}
use Rattle.packet.specs.Reader.{text_at}
use Rattle.packet.proofs.Shapes.{FailureShape, BareShape}
use Rattle.packet.proofs.Readings.{tells, Shape}

failure_inside : (q : List ℕ) (x : Packet) → FailureShape q x → Inside x × ((x.challenge.len ≡ 32) × ToEnd x)
failure_inside q x s =
    let l = s.least in
    let d = length-drop (56 + s.a + s.b) q in
    subst (λ (y : Packet). Inside y × ((y.challenge.len ≡ 32) × ToEnd y)) (sym s.reads) (record { challenge = omega arith; response = omega arith; tail = omega arith }, (refl, omega arith))

bare_inside : (kind : Kind) (q packet : List ℕ) (x : Packet) → BareShape kind q packet x → Inside x
bare_inside kind q packet x s = subst (λ (y : Packet). Inside y) (sym s.reads) (record { challenge = omega arith; response = omega arith; tail = omega arith })

bare_long : (kind : Kind) (q packet : List ℕ) (x : Packet) (n : ℕ) → length packet ≡ n → BareShape kind q packet x → x.length ≡ n
bare_long kind q packet x n e s = (λ j. (s.reads j).length) ∙ (λ j. length (s.is j)) ∙ e

places : (kind : Kind) (q : List ℕ) (x : Packet) → Shape kind q x → Inside x × Long kind x
places Challenge q x s =
    let l = s.least in
    let d = length-drop challenge_name_at q in
    subst (λ (y : Packet). Inside y × Long Challenge y) (sym s.reads) (record { challenge = omega arith; response = omega arith; tail = omega arith }, (refl, omega arith, omega arith))
places Response q x s =
    let l = s.least in
    let m = s.most in
    let d = length-drop response_name_at q in
    subst (λ (y : Packet). Inside y × Long Response y) (sym s.reads) (record { challenge = omega arith; response = omega arith; tail = omega arith }, (refl, refl, omega arith, omega arith))
places SuccessRequest q x s =
    let l = s.least in
    let t = s.text in
    let d = length-drop (text_at q) q in
    subst (λ (y : Packet). Inside y × Long SuccessRequest y) (sym s.reads) (record { challenge = omega arith; response = omega arith; tail = omega arith }, (refl, omega arith))
places FailureRequest q x s = failure_inside q x s
places RetryRequest q x s = failure_inside q x s
places SuccessResponse q x s = (bare_inside _ q _ x s, bare_long _ q _ x 6 refl s)
places FailureResponse q x s = (bare_inside _ q _ x s, bare_long _ q _ x 6 refl s)
places EapSuccess q x s = (bare_inside _ q _ x s, bare_long _ q _ x 4 refl s)
places EapFailure q x s = (bare_inside _ q _ x s, bare_long _ q _ x 4 refl s)

pub reading_tells : ReadingTells
reading_tells end p x e =
    let t = tells end p x e in
    let l = places x.kind (take x.length p) x t.shape in
    record { size = t.size; least = t.least; most = t.most; inside = t.inside; here = t.here; id_is = t.id_is; places = l.0; long = l.1 }
