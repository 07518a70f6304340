use Rattle.std.proofs.Common.{length}
use Rattle.server.proofs.Laws.{judged_refused, judged_success, judged_failure}
use Rattle.server.proofs.Server.judged.Goals as goal

pub returns-in_err-string : goal.returns-in_err-string
returns-in_err-string c = judged_refused _ _ _ _ _ _ _ c.in_err-string.ensures c.from_residual.ensures.1

pub returns-in-Success : goal.returns-in-Success
returns-in-Success c = rw (judged_success c.args.verdict c.args.self.now c.args.fresh (length c.args.reply.now) _ c.in_ok-string.ensures _ c.in-Success.is) c.succeed.ensures

pub returns-in-Failure : goal.returns-in-Failure
returns-in-Failure c = rw (judged_failure c.args.verdict c.args.self.now c.args.fresh (length c.args.reply.now) _ c.in_ok-string.ensures _ c.in-Failure.is) c.fail.ensures
