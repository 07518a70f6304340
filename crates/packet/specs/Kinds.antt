-- Kinds of packets, told apart by tests.
use Rattle.std.specs.Prelude.{ℕ, Bool, true, false, ◌||◌, eqb}
use Rattle.packet.specs.declared.Kind.{Kind}
use Rattle.packet.specs.declared.Kind.TheVariants.{Challenge, Response, SuccessRequest, FailureRequest, RetryRequest, SuccessResponse, FailureResponse, EapSuccess, EapFailure}

-- numbers that differ; at the boundary they are the kinds' own
abbrev pub kind_number : Kind → ℕ
kind_number Challenge = 0
kind_number Response = 1
kind_number SuccessRequest = 2
kind_number FailureRequest = 3
kind_number RetryRequest = 4
kind_number SuccessResponse = 5
kind_number FailureResponse = 6
kind_number EapSuccess = 7
kind_number EapFailure = 8

abbrev pub is_kind : Kind → Kind → Bool
is_kind a b = eqb (kind_number a) (kind_number b)

-- a Request has Code 1
abbrev pub is_request : Kind → Bool
is_request k = is_kind Challenge k || (is_kind SuccessRequest k || (is_kind FailureRequest k || is_kind RetryRequest k))

-- a message that can have a text after `M=`
abbrev pub has_text : Kind → Bool
has_text Challenge = false
has_text Response = false
has_text SuccessRequest = true
has_text FailureRequest = true
has_text RetryRequest = true
has_text SuccessResponse = false
has_text FailureResponse = false
has_text EapSuccess = false
has_text EapFailure = false
