use Rattle.std.proofs.Common.{ℕ, ◌≡◌, true, false, refl, sym, ◌∙◌}
use Rattle.std.proofs.lemmas.Iterator.{IsFirst-from_position, index_from_first, YieldsList-from_slice}
use Rattle.octets.specs.Octets.{digits, is_digit}
use Rattle.octets.proofs.Exits.{wide}
use Rattle.octets.proofs.Scans.{digits_hit, digits_miss}
use Rattle.octets.proofs.digits_of.Goals as goal

pub returns : goal.returns
unfolding is_digit digits
returns c =
    let xs = c.args.s.now in
    let first = IsFirst-from_position _ _ _ (λ (x : ℕ). is_digit x ≡ false) (λ (x : ℕ). is_digit x ≡ true) c.position.ensures.ran (YieldsList-from_slice xs cc) (λ x q k. search wide) (λ x q k. search wide) in
    c.unwrap_or.ensures ∙ sym (index_from_first digits (λ (x : ℕ). is_digit x ≡ false) (λ (x : ℕ). is_digit x ≡ true) refl digits_hit digits_miss xs _ first)
