use Rattle.change.proofs.Blocks.{encrypted_is}
use Rattle.change.proofs.encrypted_hash.Goals as goal

pub returns : goal.returns
returns c = encrypted_is _ _ _ _ _ _ c.hash_half-a.ensures c.hash_half-b.ensures c.put_at.ensures c.put_at-2.ensures
