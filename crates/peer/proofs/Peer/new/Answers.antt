use mathlib.Core.Path.{refl}
use mathlib.Core.List.{[]}
use native.Mathlib.Omega.{arith}
use borrow.Author.Tests.{lt-ltb, le-ltb}
use Rattle.octets.proofs.Exits.{pick_true, pick_false}
use Rattle.octets.proofs.Lists.{over_zeros}
use Rattle.answer.specs.Sizes.{max_name}
use Rattle.peer.specs.State.{initial}
use Rattle.peer.specs.Calls.{new_of}
use Rattle.peer.proofs.Replies.{quiet}
use Rattle.peer.proofs.Peer.new.Goals as goal

pub returns-in-Ok : goal.returns-in-Ok
unfolding new_of initial
returns-in-Ok c =
    rw (c.said.ensures, c.initial.ensures, c.in-Ok.ensures.1, pick_false _ _ _ (le-ltb _ _ c.in-Ok.ensures.0)) (record { does = quiet _ _ _; told = refl })

pub returns-in-Err : goal.returns-in-Err
unfolding new_of initial
returns-in-Err c =
    rw (c.initial-in-Err.ensures, c.in-Err.ensures.1, pick_true _ _ _ (lt-ltb _ _ c.in-Err.ensures.0), ← over_zeros max_name [] (omega arith)) (record { does = quiet _ _ _; told = refl })
