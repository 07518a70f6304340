use Rattle.std.proofs.Common.{refl}
use Rattle.change.proofs.Blocks.{hash_is}
use Rattle.change.proofs.hash_in.Goals as goal

pub unwrap-requires : goal.unwrap-requires
unwrap-requires c = rw (hash_is _ _ _ _ _ _ c.length_in.ensures c.saturating_sub-start.ensures c.part-front.ensures c.rest.ensures c.md4.ensures) refl

pub returns : goal.returns
returns c =
    let made = hash_is _ _ _ _ _ _ c.length_in.ensures c.saturating_sub-start.ensures c.part-front.ensures c.rest.ensures c.md4.ensures in
    cc
