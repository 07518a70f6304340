-- 01, "The logger's moves (peer)": the table, the repeat rule, and the numbers 19 and 18.
use Rattle.std.specs.Prelude.{Bool, true, false, not, ◌||◌}
use Rattle.octets.specs.Choice.{pick}
use Rattle.packet.specs.Kinds.{is_kind, is_request}
use Rattle.packet.specs.declared.Kind.{Kind}
use Rattle.packet.specs.declared.Kind.TheVariants.{Challenge, Response, SuccessRequest, FailureRequest, RetryRequest, SuccessResponse, FailureResponse, EapSuccess, EapFailure}
use Rattle.peer.specs.declared.Stage.{Stage}
use Rattle.peer.specs.declared.Stage.TheVariants.{Begin, ChallengeResponseSent, SuccessResponseSent, FailureResponseSent, Waiting, Success, Failed}
use Rattle.peer.specs.declared.Move.{Move}
use Rattle.peer.specs.declared.Move.TheVariants.{NotTaken, WrongIdentifier, Again, Respond, Confirm, Fail, Wait, Succeed, End}

-- "Takes". A Failure Request with R=1 is a kind of its own
abbrev pub takes : Stage → Kind → Bool
takes Begin k = is_kind Challenge k
takes ChallengeResponseSent k = is_kind SuccessRequest k || (is_kind FailureRequest k || (is_kind RetryRequest k || is_kind EapFailure k))
takes SuccessResponseSent k = is_kind EapSuccess k || is_kind EapFailure k
takes FailureResponseSent k = is_kind EapFailure k
takes Waiting k = false
takes Success k = false
takes Failed k = false

-- "Then": the move that a packet brings where it is taken
abbrev pub move_of : Kind → Move
move_of Challenge = Respond
move_of Response = NotTaken
move_of SuccessRequest = Confirm
move_of FailureRequest = Fail
move_of RetryRequest = Wait
move_of SuccessResponse = NotTaken
move_of FailureResponse = NotTaken
move_of EapSuccess = Succeed
move_of EapFailure = End

-- "the three SENT stages"
abbrev pub sent : Stage → Bool
sent Begin = false
sent ChallengeResponseSent = true
sent SuccessResponseSent = true
sent FailureResponseSent = true
sent Waiting = false
sent Success = false
sent Failed = false

-- the stage of supply and give-up
abbrev pub waiting : Stage → Bool
waiting Begin = false
waiting ChallengeResponseSent = false
waiting SuccessResponseSent = false
waiting FailureResponseSent = false
waiting Waiting = true
waiting Success = false
waiting Failed = false

-- "in the three SENT stages a Request whose first L octets equal the last answered request's": whether they do is `same`
unfoldable pub repeats : Stage → Kind → Bool → Bool
repeats stage kind same = pick (not (sent stage)) false (pick (not (is_request kind)) false same)

-- "another Request with the last answered Identifier, or an EAP Success or Failure whose Identifier differs from it": whether the packet has it
-- is `known`
unfoldable pub misnumbered : Stage → Kind → Bool → Bool
misnumbered stage kind known = pick (not (sent stage)) false (pick (is_request kind) known (not known))

-- the repeat rule, 19, 18, and then the table's move
unfoldable pub turn_of : Stage → Kind → Bool → Bool → Move
turn_of stage kind same known =
    pick (repeats stage kind same) Again
    (pick (not (takes stage kind)) NotTaken
    (pick (misnumbered stage kind known) WrongIdentifier
    (move_of kind)))
