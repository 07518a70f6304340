use Rattle.digest.specs.Md4.{output}
use Rattle.digest.proofs.md4_rounds.BufferDigest16.output.Goals as goal

pub returns : goal.returns
unfolding output
returns c = c.octets_of.ensures
