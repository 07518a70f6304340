use borrow.Author.Rules.{rules}
use Rattle.answer.proofs.Outcomes.{does_by}
use Rattle.writers.proofs.Writing.{writing_so}
use Rattle.writers.proofs.write_whole.Goals as goal

pub returns : goal.returns
returns c = search (rules, does_by, writing_so)
