use Rattle.octets.proofs.Loops.{Turned}
use Rattle.digest.specs.Blocks.{block_at}
use Rattle.digest.proofs.blocks.Message.digest.Given as goal

abbrev pub invariant-loop-i : goal.invariant-loop-i
invariant-loop-i g l = Turned l.i-end (λ k. g.B.Digest.compressed) (block_at l.self.order l.self.octets.now) l.fn.initial l.buffer l.i
