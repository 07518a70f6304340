use mathlib.Core.Path.{◌≡◌}
use lib.ListN.{length}
use borrow.Author.Rules.{rules}
use Rattle.peer.specs.State.{string_to}
use Rattle.peer.proofs.Replies.{user_few, response_sent, not_sent}
use Rattle.peer.proofs.send_response.Goals as goal

pub invariant_of-exchange : goal.invariant_of-exchange
invariant_of-exchange c = search (rules, user_few)

pub returns-in_err-n-clause-writes : goal.returns-in_err-n-clause-writes
returns-in_err-n-clause-writes c =
    let sixteen : length c.args.own ≡ 16 = search rules in
    let name = c.name_in-name.ensures in
    rw (← name.is) (not_sent _ _ _ _ _ (response_sent _ _ _ _ _ _ _ _ _ _ _ _ sixteen name.few c.user_part.ensures c.nt_response-response.ensures c.in_err-n.ensures) c.from_residual.ensures.1)

pub returns-clause-writes : goal.returns-clause-writes
returns-clause-writes c =
    let sixteen : length c.args.own ≡ 16 = search rules in
    let name = c.name_in-name.ensures in
    rw (← name.is) (response_sent _ _ _ _ _ _ _ _ _ _ _ _ sixteen name.few c.user_part.ensures c.nt_response-response.ensures c.in_ok-n.ensures)

pub returns-clause-keeps : goal.returns-clause-keeps
unfolding string_to
returns-clause-keeps c = rw (c.authenticator_string-expected.ensures, c.nt_response-response.ensures, c.user_part.ensures, c.name_in-name.ensures.is)
