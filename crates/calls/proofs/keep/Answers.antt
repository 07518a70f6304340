use borrow.Author.Rules.{rules}
use Rattle.calls.proofs.Laws.{encoded_so, encoded_not}
use Rattle.calls.proofs.keep.Goals as goal

pub returns-then-is_err : goal.returns-then-is_err
returns-then-is_err g c = search (rules, encoded_not)

pub returns : goal.returns
returns g c = search (rules, encoded_so)
