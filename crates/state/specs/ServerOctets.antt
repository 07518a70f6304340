-- A server's state as octets: the layout of include/zirgumtak.h.
use Rattle.std.specs.Prelude.{ℕ, ◌+◌, ◌/◌, ◌%◌, get_or, drop}
use mathlib.Core.List.{List, [], ◌∷◌, flatten}
use Rattle.octets.specs.Lists.{sized}
use Rattle.octets.specs.Octets.{number_at}
use Rattle.octets.specs.declared.Order.TheVariants.{Little}
use Rattle.server.specs.declared.Stage.{Stage}
use Rattle.server.specs.declared.Stage.TheVariants.{Begin, ChallengeSent, SuccessRequestSent, FailureRequestSent, Success, Failed}
use Rattle.server.specs.declared.Server.{Server}
use Rattle.server.specs.State.{request_room}

-- where each array begins, after six octets of numbers
abbrev pub challenge_at : ℕ
challenge_at = 6

abbrev pub request_at : ℕ
request_at = challenge_at + 16

abbrev pub server_octets : ℕ
server_octets = request_at + request_room

abbrev pub server_stage_number : Stage → ℕ
server_stage_number Begin = 0
server_stage_number ChallengeSent = 1
server_stage_number SuccessRequestSent = 2
server_stage_number FailureRequestSent = 3
server_stage_number Success = 4
server_stage_number Failed = 5

-- any other number reads as FAILED
unfoldable pub server_stage_of : ℕ → Stage
server_stage_of n = get_or (Begin ∷ ChallengeSent ∷ SuccessRequestSent ∷ FailureRequestSent ∷ Success ∷ []) n Failed

-- the server that octets stand for; octets past the end count as 0
unfoldable pub server_of : List ℕ → Server
server_of s = record {
  stage = server_stage_of (get_or s 0 0);
  retries = get_or s 3 0;
  request = record {
    id = record { 0 = get_or s 1 0 };
    chapid = record { 0 = get_or s 2 0 };
    challenge = sized 16 (drop challenge_at s);
    octets = sized request_room (drop request_at s);
    len = number_at Little s 4;
  };
}

abbrev pub server_numbers : Server → List ℕ
server_numbers s =
    server_stage_number s.stage ∷ s.request.id.0 ∷ s.request.chapid.0 ∷ s.retries
    ∷ s.request.len % 256 ∷ s.request.len / 256 ∷ []

-- the fields in their order: the numbers, then the arrays
abbrev pub server_fields : Server → List (List ℕ)
server_fields s = server_numbers s ∷ s.request.challenge ∷ s.request.octets ∷ []

unfoldable pub octets_of_server : Server → List ℕ
octets_of_server s = flatten (server_fields s)
