use Rattle.std.proofs.Common.{◌≡◌, length, arith, rules}
use Rattle.digest.proofs.Schedules.{reached_first, reached_next}
use Rattle.digest.proofs.sha1_rounds.rounds_of.Goals as goal

pub returns : goal.returns
returns c =
    let l : length c.args.w ≡ 16 = search rules in
    let p0 = reached_first c.args.w c.args.r c.first_rounds-a.result l c.first_rounds-a.ensures in
    let p1 = reached_next c.args.w c.args.r 0 4 l (omega arith) p0 c.next_rounds-b.ensures.1 c.next_rounds-b.ensures.2 in
    let p2 = reached_next c.args.w c.args.r 4 10 l (omega arith) p1 c.next_rounds-c.ensures.1 c.next_rounds-c.ensures.2 in
    let p3 = reached_next c.args.w c.args.r 14 10 l (omega arith) p2 c.next_rounds-d.ensures.1 c.next_rounds-d.ensures.2 in
    let p4 = reached_next c.args.w c.args.r 24 10 l (omega arith) p3 c.next_rounds-e.ensures.1 c.next_rounds-e.ensures.2 in
    let p5 = reached_next c.args.w c.args.r 34 10 l (omega arith) p4 c.next_rounds-f.ensures.1 c.next_rounds-f.ensures.2 in
    let p6 = reached_next c.args.w c.args.r 44 10 l (omega arith) p5 c.next_rounds-g.ensures.1 c.next_rounds-g.ensures.2 in
    let p7 = reached_next c.args.w c.args.r 54 10 l (omega arith) p6 c.next_rounds.ensures.1 c.next_rounds.ensures.2 in
    p7.is
