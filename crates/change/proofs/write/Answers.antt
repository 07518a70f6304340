use Rattle.std.proofs.Common.{refl, ap, rules}
use Rattle.answer.specs.Answer.{refusal_of}
use Rattle.mschap.proofs.Responses.{password_hash_made, password_hash_refused}
use Rattle.change.proofs.Writes.{long_user, long_old, long_new, other_filler, all_sized, not_changeable, passed_on, no_room, all_sent}
use Rattle.change.proofs.write.Goals as goal

pub returns-in_err-exchange : goal.returns-in_err-exchange
returns-in_err-exchange c =
    let refused = c.in_err-exchange.ensures in
    passed_on _ _ _ _ _ _ _ _ _ _ _ c.from_residual.ensures.1 (ap refusal_of refused.0) (long_user _ _ _ _ refused.1)

pub returns-in_err-old_hash : goal.returns-in_err-old_hash
returns-in_err-old_hash c =
    let refused = password_hash_refused _ _ c.in_err-old_hash.ensures in
    passed_on _ _ _ _ _ _ _ _ _ _ _ c.from_residual-in_err-old_hash.ensures.1 refused.0 (long_old _ _ _ _ refused.1)

pub returns-in_err-hash : goal.returns-in_err-hash
returns-in_err-hash c =
    let refused = password_hash_refused _ _ c.in_err-hash.ensures in
    passed_on _ _ _ _ _ _ _ _ _ _ _ c.from_residual-in_err-hash.ensures.1 refused.0 (long_new _ _ _ _ refused.1)

pub returns-then-old-gt256 : goal.returns-then-old-gt256
returns-then-old-gt256 c = not_changeable _ _ _ _ _ _ _ _ _ 23 refl (long_old _ _ _ _ c.if-old-gt256.true)

pub returns-then-new-gt256 : goal.returns-then-new-gt256
returns-then-new-gt256 c = not_changeable _ _ _ _ _ _ _ _ _ 23 refl (long_new _ _ _ _ c.if-new-gt256.true)

pub returns-then-filler-ne-FILLER_OCTETS : goal.returns-then-filler-ne-FILLER_OCTETS
returns-then-filler-ne-FILLER_OCTETS c = not_changeable _ _ _ _ _ _ _ _ _ 23 refl (other_filler _ _ _ _ c.if-filler-ne-FILLER_OCTETS.true)

pub returns-then-reply-lt-CHANGE_OCTETS : goal.returns-then-reply-lt-CHANGE_OCTETS
returns-then-reply-lt-CHANGE_OCTETS c =
    let sized = all_sized _ _ _ _ c.in_ok-exchange.ensures.3 c.if-old-gt256.false c.if-new-gt256.false c.if-filler-ne-FILLER_OCTETS.false in
    no_room _ _ _ _ _ _ _ _ _ sized c.if-new-gt256.false (search rules) c.if-reply-lt-CHANGE_OCTETS.true

pub password_block-block-requires : goal.password_block-block-requires
password_block-block-requires c = (password_hash_made _ _ c.in_ok-hash.ensures).1

pub returns : goal.returns
returns c =
    let between = c.in_ok-exchange.ensures in
    let response = c.nt_response-response.ensures in
    let string = c.authenticator_string-string.ensures in
    let old = password_hash_made _ _ c.in_ok-old_hash.ensures in
    let new = password_hash_made _ _ c.in_ok-hash.ensures in
    let sized = all_sized _ _ _ _ c.in_ok-exchange.ensures.3 old.1 new.1 c.if-filler-ne-FILLER_OCTETS.false in
    all_sent _ _ _ _ _ _ _ _ _ sized new.1 (search rules) _ _ _ _ _ _ _ _ c.if-reply-lt-CHANGE_OCTETS.false old.0 new.0 c.password_block-block.ensures c.encrypted_hash-under.ensures (cc) (cc) c.put_change-n.ensures
