use Rattle.std.proofs.Common.{rules}
use Rattle.des.specs.Keys.{key_octets}
use Rattle.des.proofs.Joins.{octets_in}
use Rattle.des.proofs.key_octets.Goals as goal

pub returns : goal.returns
unfolding key_octets
returns c = cc (octets_in 7 _ _ c.word_of-w.ensures (search rules))
