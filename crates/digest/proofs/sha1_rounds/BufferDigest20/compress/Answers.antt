use Rattle.std.proofs.Common.{ap}
use Rattle.digest.specs.Sha1.{sum, compressed}
use Rattle.digest.proofs.sha1_rounds.BufferDigest20.compress.Goals as goal

pub returns : goal.returns
unfolding compressed
returns c = ap (sum c.args.self) c.rounds_of-q.ensures
