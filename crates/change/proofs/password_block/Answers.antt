use Rattle.std.proofs.Common.{ap, ◌∙◌}
use Rattle.rc4.specs.Rc4 as rc4
use Rattle.change.specs.Change.{password_block}
use Rattle.change.proofs.Blocks.{plain_is}
use Rattle.change.proofs.password_block.Goals as goal

pub returns : goal.returns
unfolding password_block
returns c =
    let plain = plain_is _ _ _ _ _ _ _ c.requires c.unit_octets-password.ensures c.array_at-b.ensures c.put_at.ensures c.to_le_bytes.ensures c.put_at-2.ensures in
    c.encipher.ensures ∙ ap (rc4.enciphered c.args.old) plain
