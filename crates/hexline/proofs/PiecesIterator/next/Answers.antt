use Rattle.std.proofs.Common.{◌≡◌, ◌+◌, length, sym, ap, ◌∙◌, arith, rules}
use borrow.Author.Tests.{eqb-true, eqb-false}
use Rattle.hexline.specs.Inner.{pieces_of}
use Rattle.hexline.proofs.Walks.{pieces_end, pieces_next}
use Rattle.hexline.proofs.PiecesIterator.next.Goals as goal

pub returns-then-is_empty-clause-steps : goal.returns-then-is_empty-clause-steps
returns-then-is_empty-clause-steps c =
    let e = pieces_end c.args.self.now.0.now (eqb-true _ _ (sym c.is_empty.ensures ∙ c.if-is_empty.true)) in
    (e, e)

pub returns-clause-steps : goal.returns-clause-steps
returns-clause-steps c =
    pieces_next c.args.self.now.0.now _ c.size_of.result (eqb-false _ _ (sym c.is_empty.ensures ∙ c.if-is_empty.false)) c.size_of.ensures.0 c.size_of.ensures.1 c.rest-self.ensures

pub returns-clause-goes : goal.returns-clause-goes
returns-clause-goes c =
    let e = pieces_next c.args.self.now.0.now _ c.size_of.result (eqb-false _ _ (sym c.is_empty.ensures ∙ c.if-is_empty.false)) c.size_of.ensures.0 c.size_of.ensures.1 c.rest-self.ensures in
    let l : length (pieces_of c.args.self.now.0.now) ≡ length (pieces_of c.rest-self.result.now) + 1 = ap length e ∙ omega arith in
    search rules
