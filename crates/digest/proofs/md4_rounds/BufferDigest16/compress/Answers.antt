use Rattle.std.proofs.Common.{ap, ◌∙◌}
use Rattle.digest.specs.Md4.{round, sum, compressed}
use Rattle.digest.specs.declared.md4_rounds.Round.TheVariants.{Second, Third}
use Rattle.digest.proofs.md4_rounds.BufferDigest16.compress.Goals as goal

pub returns : goal.returns
unfolding compressed
returns c =
    let two = c.operations-two.ensures ∙ ap (round Second c.args.block.now) c.operations-one.ensures in
    ap (sum c.args.self) (c.operations-q.ensures ∙ ap (round Third c.args.block.now) two)
