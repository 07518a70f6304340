use mathlib.Core.Path.{refl}
use Rattle.writers.proofs.Writing.{writes, all_written, no_place}
use Rattle.packet.proofs.Sizes.{length_challenge_packet}
use Rattle.writers.proofs.write_challenge.Goals as goal

pub returns-then-name-lt1 : goal.returns-then-name-lt1
returns-then-name-lt1 c = search writes

pub returns-in_err-check_room : goal.returns-in_err-check_room
returns-in_err-check_room c = no_place _ _ _ _ _ _ c.from_residual.ensures.1 (search writes) (search (writes, length_challenge_packet)) c.in_err-check_room.ensures

pub returns : goal.returns
returns c = all_written _ _ _ _ _ _ _ _ refl refl (search writes) (search (writes, length_challenge_packet)) c.in_ok-check_room.ensures.0 c.in_ok-check_room.ensures.1 c.put_challenge.ensures
