-- What the writers answer, and that what they write reads back.
use Prim.Native.Nat.{ℕ, ◌≤◌}
use mathlib.Core.Path.{◌≡◌, refl, sym, ◌∙◌}
use mathlib.Core.List.{List}
use mathlib.Core.Bool.{Bool, true, not}
use native.Mathlib.Omega.{arith}
use lib.ListN.{length, drop}
use lib.Dec.{ltb, leb}
use borrow.Author.Tests.{ltb-true, ltb-false, leb-true, not-true, not-false}
use Rattle.octets.specs.Octets.{decimal}
use Rattle.octets.proofs.Exits.{picked, both}
use Rattle.answer.specs.Outcome.{Outcome, outcome, fitting, Does}
use Rattle.answer.specs.Sizes.{max_packet}
use Rattle.answer.proofs.Outcomes.{fitting_so}
use Rattle.packet.specs.declared.End.{End}
use Rattle.packet.specs.declared.End.TheVariants.{Peer, Server}
use Rattle.packet.specs.declared.Packet.{Packet}
use Rattle.packet.specs.Learned.{Learns, learned}
use Rattle.packet.proofs.Sizes.{length_challenge_packet, length_response_packet, length_success_request, length_failure_request}
use Rattle.packet.proofs.Places.{reading_tells}
use Rattle.packet.proofs.Back.{Back, learns, challenge_back, response_back, success_request_back, failure_request_back, challenge_again, success_response_back, failure_response_back, eap_success_back, eap_failure_back}
use Rattle.writers.specs.Promises.{Writes, no_form, too_long, no_room, writes, WritersAnswer, ReadsBack, WritersReadBack}
use Rattle.writers.specs.Writers.{writing}
use Rattle.writers.proofs.Writing.{writing_so}

pub writers_answer : WritersAnswer
unfolding writing fitting
writers_answer formed room q =
    let P : Outcome (Unit {0}) → Type 0 = Writes formed room q in
    picked P (not formed) (λ e. no_form (not-true formed e))
    (λ e.
    let f = not-false formed e in
    picked P (ltb max_packet (length q)) (λ l. too_long f (ltb-true _ _ l))
    (λ l. picked P (ltb room (length q)) (λ r. no_room f (ltb-false _ _ l) (ltb-true _ _ r)) (λ r. writes f (ltb-false _ _ l) (ltb-false _ _ r))))

-- answer 0 means that there is a form and room for it
pub record Takes (formed : Bool) (room : ℕ) (q : List ℕ) : Type 0 where
  pub form : formed ≡ true
  pub most : length q ≤ max_packet
  pub fits : length q ≤ room

takes : (formed : Bool) (room : ℕ) (q : List ℕ) → (writing formed room q).number ≡ 0 → Takes formed room q
takes formed room q = go (writers_answer formed room q)
  where
    go : {o : Outcome (Unit {0})} → Writes formed room q o → o.number ≡ 0 → Takes formed room q
    go (no_form f) e = absurd (omega arith)
    go (too_long f l) e = absurd (omega arith)
    go (no_room f l r) e = absurd (omega arith)
    go (writes f l r) e = record { form = f; most = l; fits = r }

module _ (formed : Bool) (end : End) (q : List ℕ) (x : Packet) (c r t : List ℕ) (size : length q ≡ x.length) where
  trip : (n : ℕ) (old after : List ℕ) → (Takes formed (length old) q → Back end q x c r t) → Does (writing formed (length old) q) 0 n tt old after → ReadsBack end after n (learned x c r t)
  trip n old after back d =
      let u = takes formed (length old) q (sym d.answered) in
      let e : writing formed (length old) q ≡ outcome 0 q tt = writing_so formed (length old) q u.form u.most ∙ fitting_so (length old) tt (outcome 0 q tt) u.fits in
      let m : Does (outcome 0 q tt) 0 n tt old after = rw e at d in
      let l : Learns end after (learned x c r t) = rw m.written (learns (back u) (drop (length q) old)) in
      let k : n ≡ x.length = m.count ∙ size in
      record { learns = l; n_told = k; n_there = k ∙ (reading_tells end after x l.reads).size }

pub writers_read_back : WritersReadBack
writers_read_back = record {
  challenge = λ id chapid challenge name e n old after.
      let l = length_challenge_packet id chapid challenge name e in
      trip _ Peer _ _ _ _ _ l n old after (λ u. challenge_back id chapid challenge name e (leb-true _ _ u.form) (omega (arith, l, u.most)));
  response = λ id chapid peer response name e f n old after.
      trip _ Server _ _ _ _ _ (length_response_packet id chapid peer response name e f) n old after (λ u. response_back id chapid peer response name e f (leb-true _ _ u.form));
  success_request = λ id chapid string text o n old after.
      let l = length_success_request id chapid string text in
      trip _ Peer _ _ _ _ _ l n old after (λ u. success_request_back id chapid string text o (omega (arith, l, u.most)));
  failure_request = λ id chapid error retry challenge text o n old after.
      let l = length_failure_request id chapid error retry (length (decimal error)) challenge text refl in
      trip _ Peer _ _ _ _ _ l n old after (λ u.
      let f = both (leb error 9999999999) (leb retry 1) u.form in
      failure_request_back id chapid error retry challenge text (leb-true _ _ f.0) (leb-true _ _ f.1) o (omega (arith, l, u.most)));
  failure_challenge = challenge_again;
  success_response = λ id n old after. trip _ Server _ _ _ _ _ refl n old after (λ _. success_response_back id);
  failure_response = λ id n old after. trip _ Server _ _ _ _ _ refl n old after (λ _. failure_response_back id);
  eap_success = λ id n old after. trip _ Peer _ _ _ _ _ refl n old after (λ _. eap_success_back id);
  eap_failure = λ id n old after. trip _ Peer _ _ _ _ _ refl n old after (λ _. eap_failure_back id);
}
