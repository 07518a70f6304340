use mathlib.Core.Path.{◌≡◌, ◌∙◌}
use lib.ListN.{length}
use borrow.Author.Rules.{rules}
use borrow.Author.Tests.{lt-ltb, le-ltb}
use Rattle.std.proofs.lemmas.Result.{err_from_is_err_and}
use Rattle.octets.proofs.Exits.{pick_true, pick_false}
use Rattle.octets.proofs.Lists.{take_sized}
use Rattle.answer.specs.Sizes.{max_name}
use Rattle.peer.specs.Calls.{supply_of, resume_of, response_by}
use Rattle.peer.specs.State.{last_id, last_chap_id, supplied}
use Rattle.peer.proofs.Moves.{not_waiting}
use Rattle.peer.proofs.Replies.{sent_part, sent_short, replied, not_replied, quiet}
use Rattle.peer.proofs.Peer.resume.Goals as goal

pub returns-then-ne : goal.returns-then-ne
unfolding supply_of
returns-then-ne c = rw (pick_true _ _ _ (not_waiting _ _ _ c.ne.ensures c.if-ne.true)) (quiet _ _ _)

pub returns-in_err-credentials : goal.returns-in_err-credentials
unfolding supply_of
returns-in_err-credentials c =
    let e = err_from_is_err_and c.from_residual.result c.from_residual.ensures.1 in
    rw (e.1, e.2, c.in_err-credentials.ensures.1, pick_false _ _ _ (not_waiting _ _ _ c.ne.ensures c.if-ne.false), pick_true _ _ _ (lt-ltb _ _ c.in_err-credentials.ensures.0)) (quiet _ _ _)

pub returns-in_err-sent : goal.returns-in_err-sent
unfolding supply_of resume_of response_by last_id last_chap_id
returns-in_err-sent c =
    let made = c.in_ok-credentials.ensures in
    let d = rw (made.1, take_sized max_name _ made.0, c.octet.ensures, c.octet-2.ensures, c.last_request-kept.ensures) at c.in_err-sent.ensures.writes in
    rw (pick_false _ _ _ (not_waiting _ _ _ c.ne.ensures c.if-ne.false), pick_false _ _ _ (le-ltb _ _ made.0))
    (not_replied _ _ _ _ _ _ _ d c.from_residual-in_err-sent.ensures.1)

pub sent-requires : goal.sent-requires
sent-requires c =
    let sixteen : length c.args.random ≡ 16 = search rules in
    let made = c.in_ok-credentials.ensures in
    let d = rw (made.1, take_sized max_name _ made.0) at c.in_ok-sent.ensures.writes in
    sent_short _ _ _ _ _ _ _ _ _ _ sixteen made.0 d c.part.ensures

pub returns : goal.returns
unfolding supply_of resume_of response_by last_id last_chap_id supplied
returns c =
    let made = c.in_ok-credentials.ensures in
    let d = rw (made.1, take_sized max_name _ made.0, c.octet.ensures, c.octet-2.ensures, c.last_request-kept.ensures) at c.in_ok-sent.ensures.writes in
    let k = rw (made.1, take_sized max_name _ made.0, c.octet-2.ensures, c.last_request-kept.ensures) at c.in_ok-sent.ensures.keeps in
    let same = sent_part _ _ _ _ _ d c.part.ensures in
    rw (pick_false _ _ _ (not_waiting _ _ _ c.ne.ensures c.if-ne.false), pick_false _ _ _ (le-ltb _ _ made.0))
    (replied _ _ _ _ _ _ _ _ d c.wrote.ensures (c.sent.ensures ∙ rw (same, k, made.1)))
