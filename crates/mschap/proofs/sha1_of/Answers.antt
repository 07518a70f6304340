use Rattle.std.proofs.Common.{arith, refl}
use Rattle.digest.proofs.Digests.{sha1_ok}
use Rattle.mschap.proofs.Pieces.{joined_front, length_three}
use Rattle.mschap.proofs.sha1_of.Goals as goal

pub unwrap-requires : goal.unwrap-requires
unwrap-requires c =
    let front = joined_front _ _ _ _ _ c.join.ensures in
    rw (sha1_ok _ _ _ c.sha1.ensures front (omega (arith, length_three c.args.a.now c.args.b.now c.args.c.now))) refl

pub returns : goal.returns
returns c =
    let front = joined_front _ _ _ _ _ c.join.ensures in
    let made = sha1_ok _ _ _ c.sha1.ensures front (omega (arith, length_three c.args.a.now c.args.b.now c.args.c.now)) in
    cc
