-- What this crate's private functions promise each other.
use Rattle.std.specs.Prelude.{ℕ, List, Bool, not}
use Rattle.octets.specs.Choice.{pick}
use Rattle.octets.specs.Octets.{same}
use Rattle.mschap.specs.Responses.{nt_response, authenticator_of}
use Rattle.verdict.specs.declared.Verdict.{Verdict}
use Rattle.verdict.specs.Verdict.{wrong, right}

-- a Response weighed by a code and a hash: of its user's account, if that is known, and else of anything
unfoldable pub weighed : Bool → ℕ → List ℕ → List ℕ → List ℕ → List ℕ → List ℕ → Verdict
weighed known code hash challenge peer response user =
    pick (not known) wrong
    (pick (not (same (nt_response challenge peer user hash) response)) wrong
    (right code (authenticator_of hash response peer challenge user)))
