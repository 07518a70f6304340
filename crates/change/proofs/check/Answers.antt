use Rattle.change.proofs.Checks.{checked_long, checked_not, checked_so}
use Rattle.change.proofs.check.Goals as goal

pub returns-in_default : goal.returns-in_default
returns-in_default c = checked_long _ _ _ _ _ _ _ c.in_default.ensures.1

pub returns-then-not-right : goal.returns-then-not-right
returns-then-not-right c =
    let between = c.in-Ok.ensures in
    let right = c.all_right-right.ensures in
    checked_not _ _ _ _ _ _ _ _ _ between.3 c.new_password-new.ensures (cc) c.if-not-right.true

pub returns : goal.returns
returns c =
    let between = c.in-Ok.ensures in
    let right = c.all_right-right.ensures in
    let string = c.authenticator_string-string.ensures in
    checked_so _ _ _ _ _ _ _ _ _ between.3 c.new_password-new.ensures (cc) _ c.if-not-right.false (cc)
