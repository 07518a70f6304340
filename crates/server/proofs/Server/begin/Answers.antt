use Rattle.answer.proofs.Outcomes.{does}
use Rattle.octets.proofs.Exits.{gave_true}
use Rattle.std.proofs.Common.{◌≡◌, length, sym, ◌∙◌, rules}
use Rattle.server.specs.Calls.{start_of}
use Rattle.server.proofs.Laws.{start_named, start_retries, challenge_fits, unsent, sent_few, sent_asks, start_past}
use Rattle.server.proofs.Server.begin.Goals as goal

pub returns-then-not-is_begin : goal.returns-then-not-is_begin
unfolding start_of
returns-then-not-is_begin c = search does

pub returns-then-not-start_fits : goal.returns-then-not-start_fits
unfolding start_of
returns-then-not-start_fits c = search does

pub challenge_request-requires : goal.challenge_request-requires
challenge_request-requires c = search (rules, gave_true, start_named)

pub returns-in_err-n : goal.returns-in_err-n
returns-in_err-n c =
    rw (start_past c.args.self.now c.args.id c.args.challenge c.args.name.now c.args.retries (length c.args.reply.now) _ _ c.is_begin.ensures c.if-not-is_begin.false c.start_fits.ensures c.if-not-start_fits.false)
    (unsent _ _ _ _ _ _ _ _ c.in_err-n.ensures c.from_residual.ensures.1)

pub overflow_cast-retries : goal.overflow_cast-retries
overflow_cast-retries c = search (rules, gave_true, start_retries)

pub ask-requires : goal.ask-requires
ask-requires c =
    let size : length c.args.challenge ≡ 16 = search rules in
    sent_few _ _ _ _ c.in_ok-n.ensures (challenge_fits _ _ _ size (start_named _ _ (sym c.start_fits.ensures ∙ c.if-not-start_fits.false)).1)

pub returns : goal.returns
returns c =
    rw (start_past c.args.self.now c.args.id c.args.challenge c.args.name.now c.args.retries (length c.args.reply.now) _ _ c.is_begin.ensures c.if-not-is_begin.false c.start_fits.ensures c.if-not-start_fits.false)
    (sent_asks _ _ _ _ c.in_ok-n.ensures _ _ _ _ _ _ _ c.ask.ensures)
