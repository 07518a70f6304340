-- A test of kinds decides them; and the derived `==` is that test.
use mathlib.Core.Path.{◌≡◌, refl, sym, ◌∙◌}
use mathlib.Core.Bool.{true}
use lib.Dec.{eqb}
use denote.Enum.Declared.{tag_of}
use denote.Enum.Bare.{sameb, same_true}
use Rattle.packet.specs.contracts.Kind.{the_type}
use Rattle.packet.specs.declared.Kind.{Kind}
use Rattle.packet.specs.declared.Kind.TheVariants.{Challenge, Response, SuccessRequest, FailureRequest, RetryRequest, SuccessResponse, FailureResponse, EapSuccess, EapFailure}
use Rattle.packet.specs.Kinds.{kind_number, is_kind}

kind_tag : (k : Kind) → tag_of the_type k ≡ kind_number k
kind_tag Challenge = refl
kind_tag Response = refl
kind_tag SuccessRequest = refl
kind_tag FailureRequest = refl
kind_tag RetryRequest = refl
kind_tag SuccessResponse = refl
kind_tag FailureResponse = refl
kind_tag EapSuccess = refl
kind_tag EapFailure = refl

pub same_kind : (a b : Kind) → sameb the_type a b ≡ is_kind a b
same_kind a b = (λ j. eqb (kind_tag a j) (kind_tag b j))

pub kind_so : (a b : Kind) → is_kind a b ≡ true → b ≡ a
kind_so a b e = sym (same_true the_type tt a b (same_kind a b ∙ e))
