use Rattle.std.proofs.Common.{◌∙◌, sym, arith}
use Rattle.std.proofs.lemmas.Iterator.{YieldsList-from_chars}
use Rattle.std.proofs.lemmas.Iterator.Consumers.{YieldsList-turn, YieldsList-end}
use Rattle.std.proofs.lemmas.List.{length_push}
use Rattle.password.proofs.Characters.{utf16_is, counted_more, counted_long, counted_done}
use Rattle.password.proofs.put_units.Goals as goal

pub returns-in_err-n : goal.returns-in_err-n
returns-in_err-n c =
    let turn = YieldsList-turn (YieldsList-from_chars c.args.text.now c.utf8.text cc) c.loop-c.yielded _ c.loop-c.yielded_by _ _ c.in-Some.c c.in-Some.is c.next.ensures.steps in
    let long = counted_long _ _ _ _ _ c.loop-c.invariant turn.0 turn.1 c.in_err-n.ensures in
    rw (c.from_residual.ensures, utf16_is _ c.utf8.text) long

pub loop-c-preserved : goal.loop-c-preserved
loop-c-preserved c =
    let turn = YieldsList-turn (YieldsList-from_chars c.args.text.now c.utf8.text cc) c.loop-c.yielded _ c.loop-c.yielded_by _ _ c.in-Some.c c.in-Some.is c.next.ensures.steps in
    rw (length_push c.loop-c.yielded c.in-Some.c) (counted_more _ _ _ _ _ _ _ c.loop-c.invariant turn.0 turn.1 c.append_units.array_long c.in_ok-n.ensures)

pub returns : goal.returns
returns c =
    let end = YieldsList-end (YieldsList-from_chars c.args.text.now c.utf8.text cc) c.loop-c.yielded _ c.loop-c.yielded_by _ _ c.in-None.is c.next.ensures.steps in
    (c.loop-c.invariant.most, counted_done _ _ _ _ c.loop-c.invariant (omega arith) ∙ sym (utf16_is _ c.utf8.text))
