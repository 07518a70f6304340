use Rattle.std.proofs.Common.{ap, ◌∙◌, arith}
use Rattle.digest.proofs.Padding.{chain_done, chains}
use Rattle.digest.proofs.blocks.Message.digest.Goals as goal

pub loop-i-init : goal.loop-i-init
loop-i-init g c = search chains

pub loop-i-preserved : goal.loop-i-preserved
loop-i-preserved g c = search chains

pub returns : goal.returns
returns g c =
    c.output.ensures ∙ ap g.B.Digest.output (chain_done _ _ _ _ _ _ _ c.loop-i.invariant (omega arith) c.block_count-i-end.ensures)
