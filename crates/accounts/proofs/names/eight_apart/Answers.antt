use Rattle.accounts.proofs.Compares.{masks, mask_done, flag_none, flag_one}
use Rattle.accounts.proofs.names.eight_apart.Goals as goal

pub loop-i-init : goal.loop-i-init
loop-i-init c = search masks

pub returns-then-d-eq0 : goal.returns-then-d-eq0
returns-then-d-eq0 c = flag_none _ _ (mask_done _ _ _ _ _ _ c.loop-i.invariant (search masks)) c.if-d-eq0.true

pub returns : goal.returns
returns c = flag_one _ _ (mask_done _ _ _ _ _ _ c.loop-i.invariant (search masks)) c.if-d-eq0.false
