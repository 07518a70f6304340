use Rattle.std.proofs.Common.{refl, rules}
use borrow.Author.Tests.{eq-eqb, ne_eqb}
use Rattle.writers.proofs.Writing.{no_form, no_room, all_written}
use Rattle.change.proofs.Layouts.{length_change_packet, change_fits}
use Rattle.change.proofs.write_change_password.Goals as goal

pub returns-in_default : goal.returns-in_default
returns-in_default c = no_form _ _ 23 0 _ _ refl refl (ne_eqb _ _ c.in_default.ensures.1)

pub returns-then-out-lt-CHANGE_OCTETS : goal.returns-then-out-lt-CHANGE_OCTETS
returns-then-out-lt-CHANGE_OCTETS c =
    let whole = c.in-Ok.ensures.1 in
    no_room _ _ 20 0 _ _ refl refl (eq-eqb _ _ whole.long) (length_change_packet _ _ _ _ _ _ whole.long (search rules) (search rules) (search rules)) change_fits c.if-out-lt-CHANGE_OCTETS.true

pub returns : goal.returns
returns c =
    let whole = c.in-Ok.ensures.1 in
    all_written _ _ 0 _ _ _ _ _ refl refl (eq-eqb _ _ whole.long) (length_change_packet _ _ _ _ _ _ whole.long (search rules) (search rules) (search rules)) change_fits c.if-out-lt-CHANGE_OCTETS.false
    (rw whole.same at c.put_change.ensures)
