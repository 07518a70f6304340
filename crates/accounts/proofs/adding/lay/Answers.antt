use borrow.Author.Rules.{rules}
use Rattle.accounts.proofs.Laying.{laid}
use Rattle.accounts.proofs.adding.lay.Goals as goal

pub returns : goal.returns
returns c = laid _ _ _ _ _ _ _ _ c.requires.0 (search rules) c.head_of-head.ensures c.put_at.ensures c.put_at-2.ensures c.put_at-3.ensures
