use Rattle.digest.specs.Sha1.{output}
use Rattle.digest.proofs.sha1_rounds.BufferDigest20.output.Goals as goal

pub returns : goal.returns
unfolding output
returns c = c.octets_of.ensures
