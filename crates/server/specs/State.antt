-- 01, "The server's moves": the state, what each kind of move makes of it, and the requests that a server writes.
use Rattle.std.specs.Prelude.{◌≡◌, ℕ, ◌+◌, ◌%◌, Bool, true, false, List, [], length, take, replicate}
use Rattle.octets.specs.Lists.{sized}
use Rattle.answer.specs.Sizes.{max_name}
use Rattle.answer.specs.declared.Identifier.{Identifier}
use Rattle.answer.specs.declared.ChapId.{ChapId}
use Rattle.packet.specs.Forms.{challenge_name_at, challenge_packet, success_request, failure_request}
use Rattle.writers.specs.declared.Ids.{Ids}
use Rattle.server.specs.declared.Stage.{Stage}
use Rattle.server.specs.declared.Stage.TheVariants.{Begin}
use Rattle.server.specs.declared.Request.{Request}
use Rattle.server.specs.declared.Server.{Server}

-- the longest request: a Challenge with the longest name
abbrev pub request_room : ℕ
request_room = challenge_name_at + max_name

-- the outstanding request. A length past the array counts as the array's length
unfoldable pub stored_request : Server → List ℕ
stored_request s = take s.request.len s.request.octets

-- ---- requests
-- "Every later request has the next Identifier; after 255 comes 0."
unfoldable pub next_id : Identifier → Identifier
next_id i = record { 0 = (i.0 + 1) % 256 }

-- the MS-CHAPv2-ID beside an Identifier. 01, "Packet forms": "The server writes them equal"
unfoldable pub chap_of : Identifier → ChapId
chap_of i = record { 0 = i.0 }

-- both
abbrev pub ids_of : Identifier → Ids
ids_of i = record { id = i; chapid = chap_of i }

abbrev pub challenge_to : Identifier → List ℕ → List ℕ → List ℕ
challenge_to id challenge name = challenge_packet id.0 (chap_of id).0 challenge name

-- "nothing after `M=`"
abbrev pub success_to : Identifier → List ℕ → List ℕ
success_to id string = success_request id.0 (chap_of id).0 string []

-- R
abbrev pub retry_digit : Bool → ℕ
retry_digit true = 1
retry_digit false = 0

abbrev pub failure_to : Identifier → ℕ → ℕ → List ℕ → List ℕ
failure_to id error retry challenge = failure_request id.0 (chap_of id).0 error retry challenge []

-- ---- states: "a move changes only what it names; fields not yet set are zero"
-- of a new server
unfoldable pub initial : Server
initial = record {
  stage = Begin;
  retries = 0;
  request = record { id = record { 0 = 0 }; chapid = record { 0 = 0 }; challenge = replicate 16 0; octets = replicate request_room 0; len = 0 };
}

-- the outstanding request q
abbrev pub requested : Identifier → List ℕ → List ℕ → Request
requested id challenge q = record { id = id; chapid = chap_of id; challenge = challenge; octets = sized request_room q; len = length q }

-- every move: the stage, the retries left and the outstanding request, and all else kept
abbrev pub moved : Stage → ℕ → Request → Server → Server
moved stage retries request s = record { stage = stage; retries = retries; request = request }

-- the request q is outstanding
unfoldable pub asked : Stage → Identifier → List ℕ → ℕ → List ℕ → Server → Server
asked stage id challenge retries q s = moved stage retries (requested id challenge q) s

-- the stage alone
unfoldable pub staged : Stage → Server → Server
staged stage s = moved stage s.retries s.request s

-- s is a value of the struct: its arrays have their sizes. Here they are lists, whose types do not say so
pub record IsServer (s : Server) : Type 0 where
  pub challenge : length s.request.challenge ≡ 16
  pub request : length s.request.octets ≡ request_room
