use Rattle.std.proofs.Common.{refl}
use Rattle.password.proofs.Hashes.{not_hashed, hash_long, hash_made, hash_good}
use Rattle.password.proofs.hash.Goals as goal

pub returns-in_default : goal.returns-in_default
returns-in_default c = not_hashed _ c.in_default.ensures.cases.0

pub returns-in_default-put_units : goal.returns-in_default-put_units
returns-in_default-put_units c =
    let text = c.in-Ok.ensures.cases in
    hash_long _ text.1 (rw text.0 at c.in_default-put_units.ensures)

pub unwrap-requires : goal.unwrap-requires
unwrap-requires c =
    let text = c.in-Ok.ensures.cases in
    let units = rw text.0 at c.in-Some.ensures.1 in
    rw (hash_made _ text.1 _ _ c.in-Some.ensures.0 c.put_units.array_long units _ c.password_hash.ensures) refl

pub returns : goal.returns
returns c =
    let text = c.in-Ok.ensures.cases in
    let units = rw text.0 at c.in-Some.ensures.1 in
    let made = hash_made _ text.1 _ _ c.in-Some.ensures.0 c.put_units.array_long units _ c.password_hash.ensures in
    let good = hash_good _ text.1 _ _ c.in-Some.ensures.0 c.put_units.array_long units in
    cc
