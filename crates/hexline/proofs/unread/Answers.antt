use Rattle.std.proofs.Common.{refl, rules, tests}
use Rattle.std.proofs.lemmas.Iterator.Search.{find_from_yields_List}
use Rattle.hexline.proofs.Walks.{is_bad, line_pieces, unread_told}
use Rattle.hexline.proofs.unread.Goals as goal

pub returns : goal.returns
returns c =
    unread_told c.args.line.now _
    (find_from_yields_List is_bad c.find.new.self _ _ c.find.ensures.ran (line_pieces {s = record { 0 = c.args.line }} c.args.line.now refl) (λ x b q k. search (rules, tests)))
