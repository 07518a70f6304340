use Rattle.std.proofs.Common.{◌∙◌, length, refl, ap, rules, tests}
use Rattle.std.proofs.lemmas.Iterator.Consumers.{YieldsList-from_filter_map, YieldsList-at, count_from_yields_List}
use Rattle.hexline.specs.Inner.{octet_of}
use Rattle.hexline.proofs.Walks.{line_pieces, few_pieces, octets_pieces}
use Rattle.hexline.proofs.count.Goals as goal

pub count-requires-clause-fits : goal.count-requires-clause-fits
count-requires-clause-fits c = let f = few_pieces 0 c.args.line.now in let e = c.filter_map.ensures.source in search rules

pub returns : goal.returns
returns c =
    count_from_yields_List c.filter_map.result _ c.count.ensures.ran
    (YieldsList-from_filter_map _ octet_of (YieldsList-at c.filter_map.ensures.source (line_pieces c.args.line.now refl)) c.filter_map.ensures.closure (λ x r q k. search (rules, tests)))
    ∙ ap length (octets_pieces 0 c.args.line.now)
