use Rattle.std.proofs.Common.{refl}
use Rattle.digest.proofs.Digests.{md4_ok}
use Rattle.mschap.proofs.md4_of.Goals as goal

pub unwrap-requires : goal.unwrap-requires
unwrap-requires c = rw (md4_ok _ _ _ c.md4.ensures refl c.requires) refl

pub returns : goal.returns
returns c = let made = md4_ok _ _ _ c.md4.ensures refl c.requires in cc
