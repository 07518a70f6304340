-- The parts of each packet, in the order in which they are laid down.
use Prim.Native.Nat.{ℕ, ◌+◌, ◌≤◌}
use mathlib.Core.Path.{◌≡◌}
use mathlib.Core.List.{List, [], ◌∷◌, ◌++◌}
use native.Mathlib.Omega.{arith}
use lib.ListN.{length, length-append}
use Rattle.octets.specs.Lists.{cells}
use Rattle.octets.specs.Octets.{hex_at, decimal}
use Rattle.octets.proofs.Lists.{length_cells}
use Rattle.octets.proofs.Appends.{Laid, laid_none}
use Rattle.packet.proofs.Sizes.{length_chap_packet}
use Rattle.packet.specs.Forms.{challenge_name_at, response_name_at, success_text_at, word_s, word_e, word_r, word_c, word_v, word_m, eight_zeros, success_message, failure_message, header, chap_packet, challenge_packet, response_packet, success_request, failure_request}

-- the header, and then the rest
laid_body : (code op id chapid l : ℕ) (body old : List ℕ) → 9 + length body ≡ l → l ≤ length old → Laid (chap_packet code op id chapid body) old 0 old (header code op id chapid l ++ body)
unfolding chap_packet
laid_body code op id chapid l body old e h =
    rw (← e) (laid_none (length_chap_packet code op id chapid body) (omega arith))

pub laid_challenge : (id chapid : ℕ) (challenge name old : List ℕ) → length challenge ≡ 16 → challenge_name_at + length name ≤ length old → Laid (challenge_packet id chapid challenge name) old 0 old (header 1 1 id chapid (challenge_name_at + length name) ++ ((16 ∷ []) ++ (challenge ++ name)))
unfolding challenge_packet
laid_challenge id chapid challenge name old e h =
    laid_body 1 1 id chapid (challenge_name_at + length name) (16 ∷ (challenge ++ name)) old (omega (arith, length-append challenge name)) h

pub laid_response : (id chapid : ℕ) (peer response name old : List ℕ) → length peer ≡ 16 → length response ≡ 24 → response_name_at + length name ≤ length old → Laid (response_packet id chapid peer response name) old 0 old (header 2 2 id chapid (response_name_at + length name) ++ ((49 ∷ []) ++ (peer ++ (eight_zeros ++ (response ++ ((0 ∷ []) ++ name))))))
unfolding response_packet
laid_response id chapid peer response name old e f h =
    laid_body 2 2 id chapid (response_name_at + length name) (49 ∷ (peer ++ (eight_zeros ++ (response ++ (0 ∷ name))))) old (simp length-append (omega arith)) h

pub laid_success : (id chapid : ℕ) (string text old : List ℕ) → success_text_at + length text ≤ length old → Laid (success_request id chapid string text) old 0 old (header 1 3 id chapid (success_text_at + length text) ++ (word_s ++ (cells 40 (hex_at string) ++ (word_m ++ text))))
unfolding success_request success_message
laid_success id chapid string text old h =
    laid_body 1 3 id chapid (success_text_at + length text) (word_s ++ (cells 40 (hex_at string) ++ (word_m ++ text))) old (simp (length-append, length_cells) (omega arith)) h

pub laid_failure : (id chapid error retry l : ℕ) (challenge text old : List ℕ) → l ≡ 57 + length (decimal error) + length text → l ≤ length old → Laid (failure_request id chapid error retry challenge text) old 0 old (header 1 4 id chapid l ++ (word_e ++ (decimal error ++ (word_r ++ (((48 + retry) ∷ []) ++ (word_c ++ (cells 32 (hex_at challenge) ++ ((word_v ++ (51 ∷ word_m)) ++ text))))))))
unfolding failure_request failure_message
laid_failure id chapid error retry l challenge text old e h =
    laid_body 1 4 id chapid l (failure_message (decimal error) (48 + retry) (cells 32 (hex_at challenge)) (51 ∷ []) text) old (simp (length-append, length_cells) (omega arith)) h
