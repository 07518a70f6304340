use Rattle.std.proofs.Common.{refl, rules, tests}
use Rattle.std.proofs.lemmas.Iterator.Consumers.{YieldsList-from_filter_map, YieldsList-at, YieldsList-turn, YieldsList-end}
use Rattle.hexline.specs.Inner.{octet_of}
use Rattle.hexline.proofs.Walks.{line_pieces, octets_pieces, laid_turn, laid_end}
use Rattle.hexline.proofs.write.Goals as goal

pub loop-x-preserved : goal.loop-x-preserved
loop-x-preserved c =
    let line = c.args.line.now in
    let t = YieldsList-turn
    (YieldsList-at c.into_iter-x-iterator.ensures.into_iter_gives (YieldsList-from_filter_map _ octet_of (YieldsList-at c.filter_map-x-items.ensures.source (line_pieces line refl)) c.filter_map-x-items.ensures.closure (λ x r q k. search (rules, tests))))
    c.loop-x.yielded c.loop-x.x-iterator c.loop-x.yielded_by c.next.result c.next.new.self c.in-Some.x c.in-Some.is c.next.ensures.steps in
    laid_turn _ _ _ _ c.loop-x.yielded _ _ _ c.loop-x.invariant (rw octets_pieces at t) c.append-n.ensures

pub returns : goal.returns
returns c =
    let line = c.args.line.now in
    let t = YieldsList-end
    (YieldsList-at c.into_iter-x-iterator.ensures.into_iter_gives (YieldsList-from_filter_map _ octet_of (YieldsList-at c.filter_map-x-items.ensures.source (line_pieces line refl)) c.filter_map-x-items.ensures.closure (λ x r q k. search (rules, tests))))
    c.loop-x.yielded c.loop-x.x-iterator c.loop-x.yielded_by c.next.result c.next.new.self c.in-None.is c.next.ensures.steps in
    laid_end _ _ _ c.loop-x.yielded _ c.loop-x.invariant (rw octets_pieces at t.1)
