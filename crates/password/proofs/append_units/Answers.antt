use Rattle.std.proofs.Common.{arith}
use Rattle.password.proofs.Characters.{extended_not, extended_so}
use Rattle.password.proofs.append_units.Goals as goal

pub returns-then-end-gt256 : goal.returns-then-end-gt256
returns-then-end-gt256 c = extended_not _ _ _ c.encode_utf16-made.ensures.value c.if-end-gt256.true

pub returns : goal.returns
returns c =
    let made = c.encode_utf16-made in
    (c.if-end-gt256.false, extended_so c.args.units.now c.copy_from_slice.new.self made.result.now _ c.args.n c.args.c made.ensures.value (omega arith) c.copy_from_slice.ensures.after)
