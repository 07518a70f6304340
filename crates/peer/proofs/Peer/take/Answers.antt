use Rattle.std.proofs.Common.{rules}
use Rattle.peer.specs.State.{staged}
use Rattle.peer.proofs.Moves.{taken_as, refuses_19, refuses_18, repeats_last, confirms_alone, fails, waits, succeeds, ends}
use Rattle.peer.proofs.Replies.{quiet}
use Rattle.peer.proofs.Peer.take.Goals as goal

pub returns-in-NotTaken : goal.returns-in-NotTaken
returns-in-NotTaken c =
    rw (taken_as _ _ _ _ _ _ _ _ c.last_request.ensures c.turn_in.ensures c.in-NotTaken.is, refuses_19 _ _ _ _ _) (quiet _ _ _)

pub returns-in-WrongIdentifier : goal.returns-in-WrongIdentifier
returns-in-WrongIdentifier c =
    rw (taken_as _ _ _ _ _ _ _ _ c.last_request.ensures c.turn_in.ensures c.in-WrongIdentifier.is, refuses_18 _ _ _ _ _) (quiet _ _ _)

pub returns-in-Again : goal.returns-in-Again
returns-in-Again c =
    rw (taken_as _ _ _ _ _ _ _ _ c.last_request.ensures c.turn_in.ensures c.in-Again.is, repeats_last _ _ _ _ _) (search rules)

pub returns-in-Respond : goal.returns-in-Respond
returns-in-Respond c = rw (taken_as _ _ _ _ _ _ _ _ c.last_request.ensures c.turn_in.ensures c.in-Respond.is) c.respond.ensures

pub returns-in-Confirm : goal.returns-in-Confirm
returns-in-Confirm c = rw (taken_as _ _ _ _ _ _ _ _ c.last_request.ensures c.turn_in.ensures c.in-Confirm.is, confirms_alone _ _ _ _ _) c.confirm.ensures

pub returns-in-Fail : goal.returns-in-Fail
returns-in-Fail c = rw (taken_as _ _ _ _ _ _ _ _ c.last_request.ensures c.turn_in.ensures c.in-Fail.is, fails _ _ _ _ _) c.fail.ensures

pub returns-in-Wait : goal.returns-in-Wait
returns-in-Wait c =
    rw (c.said.ensures, c.wait.ensures, taken_as _ _ _ _ _ _ _ _ c.last_request.ensures c.turn_in.ensures c.in-Wait.is, waits _ _ _ _ _) (quiet _ _ _)

pub returns-in-Succeed : goal.returns-in-Succeed
unfolding staged
returns-in-Succeed c =
    rw (c.said-in-Succeed.ensures, taken_as _ _ _ _ _ _ _ _ c.last_request.ensures c.turn_in.ensures c.in-Succeed.is, succeeds _ _ _ _ _) (quiet _ _ _)

pub returns-in-End : goal.returns-in-End
unfolding staged
returns-in-End c =
    rw (c.said-in-End.ensures, taken_as _ _ _ _ _ _ _ _ c.last_request.ensures c.turn_in.ensures c.in-End.is, ends _ _ _ _ _) (quiet _ _ _)
