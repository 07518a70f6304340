use Rattle.std.proofs.Common.{◌≡◌, rules, tests, arith}
use Rattle.std.proofs.lemmas.Iterator.{IsFirst-from_position, YieldsList-from_slice}
use Rattle.std.proofs.option.Match.{if_some, if_none}
use Rattle.mschap.proofs.Users.{start_found, start_none}
use Rattle.mschap.proofs.user_start.Goals as goal

pub returns-in-Some : goal.returns-in-Some
returns-in-Some c =
    let first = if_some _ _ _ c.in-Some.is (IsFirst-from_position _ _ _ (λ x. x ≡ 92) (λ x. x ≡ 92 → ⊥) c.position.ensures.ran (YieldsList-from_slice _ c.iter.ensures.rest) (λ x q k. search (rules, tests)) (λ x q k. search (rules, tests))) in
    let e = start_found c.args.name.now c.in-Some.i first.0 (first.1 0) (λ k l. first.2 k 0 (omega arith) l) in
    (e, omega arith)

pub returns-in-None : goal.returns-in-None
returns-in-None c =
    let none = if_none _ _ c.in-None.is (IsFirst-from_position _ _ _ (λ x. x ≡ 92) (λ x. x ≡ 92 → ⊥) c.position.ensures.ran (YieldsList-from_slice _ c.iter.ensures.rest) (λ x q k. search (rules, tests)) (λ x q k. search (rules, tests))) in
    (start_none c.args.name.now (λ k l. none k 0 (omega arith) l), omega arith)
