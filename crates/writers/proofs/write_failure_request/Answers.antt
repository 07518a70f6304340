use mathlib.Core.Path.{refl}
use Rattle.writers.proofs.Writing.{writes, all_written, no_place}
use Rattle.packet.proofs.Sizes.{length_failure_request}
use Rattle.writers.proofs.write_failure_request.Goals as goal

pub returns-then-error-gt-MAX_ERROR : goal.returns-then-error-gt-MAX_ERROR
returns-then-error-gt-MAX_ERROR c = search writes

pub returns-then-retry-gt1 : goal.returns-then-retry-gt1
returns-then-retry-gt1 c = search writes

pub returns-in_err-check_room : goal.returns-in_err-check_room
returns-in_err-check_room c = no_place _ _ _ _ _ _ c.from_residual.ensures.1 (search writes) (search (writes, length_failure_request)) c.in_err-check_room.ensures

pub returns : goal.returns
returns c = all_written _ _ _ _ _ _ _ _ refl refl (search writes) (search (writes, length_failure_request)) c.in_ok-check_room.ensures.0 c.in_ok-check_room.ensures.1 c.put_failure.ensures
