-- The fields of a reading, found again in its octets.
use Prim.Native.Nat.{ℕ, ◌+◌, ◌*◌, ◌/◌, ◌%◌, ◌≤◌}
use native.Mathlib.Omega.{arith}
use mathlib.Core.Path.{◌≡◌, refl, ◌∙◌}
use mathlib.Core.List.{List}
use lib.ListN.{length, take}
use Rattle.octets.specs.Octets.{number_at}
use Rattle.octets.proofs.Decimals.{number_few}
use Rattle.answer.specs.Sizes.{max_packet}
use Rattle.packet.specs.declared.Kind.{Kind}
use Rattle.packet.specs.declared.Kind.TheVariants.{Challenge, Response, SuccessRequest, FailureRequest, RetryRequest, SuccessResponse, FailureResponse, EapSuccess, EapFailure}
use Rattle.packet.specs.declared.Packet.{Packet}
use Rattle.packet.specs.declared.Place.{Place}
use Rattle.packet.specs.Reader.{place}
use Rattle.packet.proofs.Places.{reading_tells}
use Rattle.packet.proofs.Readings.{tells, Shape}
use Rattle.packet.proofs.Shapes.{FailureShape}
use Rattle.wire.specs.Readings.{octets_of_reading}
use Rattle.wire.specs.Promises.{ReadingTold}

-- a number of two octets
pair_back : (n : ℕ) → n ≤ max_packet → n % 256 + n / 256 % 256 * 256 ≡ n
pair_back n h = omega arith

place_back : (a : Place) (l : ℕ) → a.start + a.len ≤ l → l ≤ max_packet → place (a.start % 256 + a.start / 256 % 256 * 256) (a.len % 256 + a.len / 256 % 256 * 256) ≡ a
place_back a l h k =
    let s = pair_back a.start (omega arith) in
    let n = pair_back a.len (omega arith) in
    (λ i. place (s i) (n i))

-- and one of eight: its quarters m, k and j above the first
pair_low : (n m : ℕ) → m ≡ n / 256 → n % 256 + m % 256 * 256 ≡ n % 65536
pair_low n m e = omega arith

quarters : (n m k j : ℕ) → m ≡ n / 65536 → k ≡ m / 65536 → j ≡ k / 65536 → n ≤ 9999999999 → n % 65536 + m % 65536 * 65536 + k % 65536 * 4294967296 + j % 65536 * 281474976710656 ≡ n
quarters n m k j e f g h = omega arith

eight_back : (n : ℕ) → n ≤ 9999999999 → n % 256 + n / 256 % 256 * 256 + (n / 65536 % 256 + n / 16777216 % 256 * 256) * 65536 + (n / 4294967296 % 256 + n / 1099511627776 % 256 * 256) * 4294967296 + (n / 281474976710656 % 256 + n / 72057594037927936 % 256 * 256) * 281474976710656 ≡ n
eight_back n h =
    let a = pair_low n (n / 256) refl in
    let b = pair_low (n / 65536) (n / 16777216) (omega arith) in
    let c = pair_low (n / 4294967296) (n / 1099511627776) (omega arith) in
    let d = pair_low (n / 281474976710656) (n / 72057594037927936) (omega arith) in
    (λ i. a i + b i * 65536 + c i * 4294967296 + d i * 281474976710656)
    ∙ quarters n (n / 65536) (n / 4294967296) (n / 281474976710656) refl (omega arith) (omega arith) h

-- the number of E= has ten digits at most
failure_few : (q : List ℕ) (x : Packet) → FailureShape q x → x.error ≤ 9999999999
failure_few q x s = rw s.reads (number_few _ s.spelling.e_digits s.spelling.e_few)

error_few : (kind : Kind) (q : List ℕ) (x : Packet) → Shape kind q x → x.error ≤ 9999999999
error_few Challenge q x s = rw s.reads (omega arith)
error_few Response q x s = rw s.reads (omega arith)
error_few SuccessRequest q x s = rw s.reads (omega arith)
error_few FailureRequest q x s = failure_few q x s
error_few RetryRequest q x s = failure_few q x s
error_few SuccessResponse q x s = rw s.reads (omega arith)
error_few FailureResponse q x s = rw s.reads (omega arith)
error_few EapSuccess q x s = rw s.reads (omega arith)
error_few EapFailure q x s = rw s.reads (omega arith)

pub reading_told : ReadingTold
unfolding octets_of_reading number_at
reading_told end packet x e =
    let t = reading_tells end packet x e in
    let l = t.most in
    record {
      kind = refl;
      id = refl;
      chapid = refl;
      length = pair_back x.length l;
      error = eight_back x.error (error_few x.kind (take x.length packet) x (tells end packet x e).shape);
      challenge = place_back x.challenge x.length t.places.challenge l;
      response = place_back x.response x.length t.places.response l;
      tail = place_back x.tail x.length t.places.tail l;
    }
