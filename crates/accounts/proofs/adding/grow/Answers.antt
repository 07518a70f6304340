use borrow.Author.Rules.{rules}
use Rattle.accounts.proofs.Laying.{grow_by}
use Rattle.accounts.proofs.adding.grow.Goals as goal

pub returns : goal.returns
returns c =
    grow_by _ _ _ _ _ c.requires.0.0 (search rules) c.requires.1.0 c.requires.1.1 c.if-n-name-gt65536.false _ _ _ c.append_account.ensures c.ok_or.ensures.value
