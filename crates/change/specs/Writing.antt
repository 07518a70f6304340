-- 02, [2]: the Change-Password that a peer sends: "old and new password, 512 lent random octets for the block, 16 for the challenge".
use Rattle.std.specs.Prelude.{ℕ, Bool, not, ◌&&◌, List, Result, Ok, Err, leb, eqb, length, replicate}
use Rattle.octets.specs.Choice.{pick}
use Rattle.answer.specs.declared.Refusal.{Refusal}
use Rattle.answer.specs.Outcome.{Outcome, outcome, refused, fitting}
use Rattle.answer.specs.Sizes.{max_name}
use Rattle.mschap.specs.Responses.{password_hash, nt_response, authenticator_of}
use Rattle.change.specs.declared.Renewal.{Renewal}
use Rattle.change.specs.declared.Sent.{Sent}
use Rattle.change.specs.Forms.{change_packet}
use Rattle.change.specs.Change.{password_block, encrypted_hash}

abbrev pub filler_octets : ℕ
filler_octets = 512

-- the packet, to the authenticator's challenge; `own` is the peer's
unfoldable pub change_to : ℕ → ℕ → List ℕ → List ℕ → List ℕ → List ℕ → List ℕ → List ℕ → List ℕ
change_to id chapid authenticator own user old new filler =
    change_packet id chapid (password_block (password_hash old) new filler) (encrypted_hash (password_hash old) (password_hash new)) own (nt_response authenticator own user (password_hash new))

-- ---- what is kept of it: the new hash, and the authenticator string that is to answer it; zeros beside a refusal
abbrev pub no_renewal : Renewal
no_renewal = record { hash = replicate 16 0; string = replicate 20 0 }

unfoldable pub renewal_to : List ℕ → List ℕ → List ℕ → List ℕ → Renewal
renewal_to authenticator own user new =
    record { hash = password_hash new; string = authenticator_of (password_hash new) (nt_response authenticator own user (password_hash new)) own authenticator user }

-- ---- 23 for a user of more than 256 octets, a password of more than 256 units, or other than 512 random octets; then 20
unfoldable pub changeable : List ℕ → List ℕ → List ℕ → List ℕ → Bool
changeable user old new filler = leb (length user) max_name && (leb (length old) 256 && (leb (length new) 256 && eqb (length filler) filler_octets))

unfoldable pub write_change : ℕ → ℕ → List ℕ → List ℕ → List ℕ → List ℕ → List ℕ → List ℕ → ℕ → Outcome Renewal
write_change id chapid authenticator own user old new filler room =
    pick (not (changeable user old new filler)) (refused 23 no_renewal)
    (fitting room no_renewal (outcome 0 (change_to id chapid authenticator own user old new filler) (renewal_to authenticator own user new)))

-- ---- what `write` returns: L, and what is kept
abbrev pub sent_octets : Result Sent Refusal → ℕ
sent_octets (Ok s) = s.n
sent_octets (Err why) = 0

abbrev pub renewal_in : Result Sent Refusal → Renewal
renewal_in (Ok s) = s.renewal
renewal_in (Err why) = no_renewal
