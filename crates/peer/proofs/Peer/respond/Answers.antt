use mathlib.Core.Path.{◌≡◌}
use lib.ListN.{length}
use borrow.Author.Rules.{rules}
use Rattle.answer.specs.Sizes.{max_name}
use Rattle.packet.specs.Reader.{challenge_in}
use Rattle.peer.specs.State.{own_name, responded}
use Rattle.peer.proofs.Moves.{responds}
use Rattle.peer.proofs.Replies.{name_few, sent_part, sent_short, replied, not_replied}
use Rattle.peer.proofs.Peer.respond.Goals as goal

pub returns-in_err-sent : goal.returns-in_err-sent
unfolding own_name challenge_in
returns-in_err-sent c =
    rw (responds _ _ _ _ _, ← c.array_at-authenticator.ensures) (not_replied _ _ _ _ _ _ _ c.in_err-sent.ensures.writes c.from_residual.ensures.1)

pub sent-requires : goal.sent-requires
sent-requires c =
    let sixteen : length c.args.random ≡ 16 = search rules in
    let stored : length c.args.self.now.credentials.name ≡ max_name = search rules in
    sent_short _ _ _ _ _ _ _ _ _ _ sixteen (name_few c.args.self.now.credentials stored) c.in_ok-sent.ensures.writes c.part.ensures

pub returns : goal.returns
unfolding own_name challenge_in responded
returns c =
    let d = c.in_ok-sent.ensures.writes in
    let same = sent_part _ _ _ _ _ d c.part.ensures in
    rw (responds _ _ _ _ _, ← c.array_at-authenticator.ensures) (replied _ _ _ _ _ _ _ _ d c.wrote.ensures (rw (same, c.keep_request.ensures, c.in_ok-sent.ensures.keeps) at c.sent.ensures))
