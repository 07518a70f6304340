-- What this crate's functions need: what goes out, what a verdict brings, the turn of a packet, a start's arguments.
use Rattle.std.proofs.Common.{◌≡◌, ℕ, ◌<◌, ◌≤◌, Bool, true, false, not, ◌&&◌, eqb, ltb, leb, List, [], length, take, drop, sym, refl, ap, ◌∙◌, arith, ltb-false, eq-eqb, le-leb, Result, Ok, Err}
use mathlib.Core.Logic.{◌⊎◌, inl, inr}
use Rattle.std.specs.Result.{IsErrAnd}
use Rattle.std.specs.Int.{from_bool}
use Rattle.std.proofs.lemmas.Result.{err_from_is_err_and}
use lib.Seq.{take-append_seam}
use borrow.Author.Tests.{eqb-false}
use Rattle.octets.specs.Choice.{pick}
use Rattle.octets.specs.Lists.{over}
use Rattle.octets.specs.Octets.{decimal, same}
use Rattle.octets.proofs.Exits.{pick_true, pick_false, and_both, passed, below, clash}
use Rattle.octets.proofs.Decimals.{few_decimal}
use Rattle.answer.specs.Answer.{done_of, refusal_of}
use Rattle.answer.specs.Outcome.{Told, gives, refuses, told, outcome, refused, fitting, Does}
use Rattle.answer.specs.Results.{reply_number, reply_count}
use Rattle.answer.specs.Sizes.{max_packet, max_name, max_retries}
use Rattle.answer.specs.declared.Done.{Done}
use Rattle.answer.specs.declared.Done.TheVariants as done
use Rattle.answer.specs.declared.Identifier.{Identifier}
use Rattle.answer.specs.declared.Refusal.{Refusal}
use Rattle.answer.specs.declared.Reply.{Reply}
use Rattle.answer.proofs.Outcomes.{fitting_so, fitting_not}
use Rattle.answer.proofs.Told.{refusal_some, told_refuses}
use Rattle.packet.specs.declared.End.TheVariants as end
use Rattle.packet.specs.declared.Packet.{Packet}
use Rattle.packet.specs.Forms.{challenge_packet, success_request, failure_request}
use Rattle.packet.specs.Reader.{no_packet, told_reading, read_packet}
use Rattle.packet.proofs.Sizes.{length_challenge_packet, length_success_request, length_failure_request}
use Rattle.writers.specs.declared.Ids.{Ids}
use Rattle.writers.specs.Writers.{sends, writing, write_challenge, write_success_request, write_failure_request}
use Rattle.writers.proofs.Writing.{writing_so}
use Rattle.verdict.specs.declared.Verdict.{Verdict}
use Rattle.server.specs.declared.Due.{Due}
use Rattle.server.specs.declared.Due.TheVariants as due
use Rattle.server.specs.declared.Failure.{Failure}
use Rattle.server.specs.declared.Stage.{Stage}
use Rattle.server.specs.declared.Stage.TheVariants.{Begin, ChallengeSent, Success, Failed}
use Rattle.server.specs.declared.Server.{Server}
use Rattle.server.specs.State.{request_room, stored_request, chap_of, ids_of, challenge_to, success_to, retry_digit, failure_to, asked, staged}
use Rattle.server.specs.Moves.{begins, sent, takes, misnumbered, turn_refusal, turn_of}
use Rattle.server.specs.Calls.{asking, succeeding, failing, start_fits, start_of, due_of, fail_of, resend_of, act_of, judged_by, taken_by, packet_of}

-- ---- how long a request is
pub challenge_fits : (id : Identifier) (challenge name : List ℕ) → length challenge ≡ 16 → length name ≤ max_name → length (challenge_to id challenge name) ≤ request_room
challenge_fits id challenge name c l = omega (arith, length_challenge_packet id.0 (chap_of id).0 challenge name c)

pub success_fits : (id : Identifier) (string : List ℕ) → length (success_to id string) ≤ request_room
success_fits id string = omega (arith, length_success_request id.0 (chap_of id).0 string [])

pub failure_fits : (id : Identifier) (code retry : ℕ) (challenge : List ℕ) → length (failure_to id code retry challenge) ≤ request_room
failure_fits id code retry challenge = omega (arith, length_failure_request id.0 (chap_of id).0 code retry (length (decimal code)) challenge [] refl, few_decimal code)

-- R
pub digit_few : (b : Bool) → retry_digit b ≤ 1
digit_few true = omega arith
digit_few false = omega arith

digit_so : (b : Bool) → from_bool b ≡ retry_digit b
digit_so true = refl
digit_so false = refl

-- ---- what goes out: q, or 20
-- a refusal, as `?` passes it on
refused_by : {S : Type 0} (s : S) (number : ℕ) (why : Refusal) (x : Result Reply Refusal) (before after : List ℕ) → IsErrAnd x (λ e. e ≡ why) → refusal_of why ≡ number → after ≡ before
    → Does (refused number s) (reply_number x) (reply_count x) s before after
refused_by s number why x before after e n w =
    let p = err_from_is_err_and x e in
    rw (p.1, p.2) (record { answered = n; count = refl; left = refl; written = w })

module _ (q before after : List ℕ) (k n : ℕ) (d : Does (sends (length before) q) k n tt before after) where
  sent_cases : {P : Type 0} → (length before < length q → Does {S = Unit {0}} (refused 20 tt) k n tt before after → P) → (length q ≤ length before → Does {S = Unit {0}} (outcome 0 q tt) k n tt before after → P) → P
  sent_cases f g =
      below (length before) (length q)
      (λ l. let e : sends (length before) q ≡ refused 20 tt = fitting_not _ _ _ l in f l (rw e at d))
      (λ l. let e : sends (length before) q ≡ outcome 0 q tt = fitting_so _ _ _ l in g l (rw e at d))

  -- it was refused: there is no room
  sent_not : (why : Refusal) → k ≡ refusal_of why → (length before < length q) × ((refusal_of why ≡ 20) × (after ≡ before))
  sent_not why z =
      sent_cases
      (λ l e. (l, (sym z ∙ e.answered, e.written)))
      (λ l e. clash (refusal_some why) (eq-eqb _ _ (sym z ∙ e.answered)))

  -- it was not
  sent_so : k ≡ 0 → (length q ≤ length before) × ((n ≡ length q) × (after ≡ over q before))
  sent_so z =
      sent_cases
      (λ l e. let y : ◌≡◌ {A = ℕ} 0 20 = sym z ∙ e.answered in absurd (omega arith))
      (λ l e. (l, (e.count, e.written)))

module _ {S : Type 0} (s next : S) (number : ℕ) (q before after : List ℕ) where
  pub unsent : (why : Refusal) (x : Result Reply Refusal) → Does (sends (length before) q) (refusal_of why) 0 tt before after → IsErrAnd x (λ e. e ≡ why)
      → Does (fitting (length before) s (outcome number q next)) (reply_number x) (reply_count x) s before after
  unsent why x d e =
      let w = sent_not q before after (refusal_of why) 0 d why refl in
      rw (fitting_not (length before) s (outcome number q next) w.0) (refused_by s 20 why x before after e w.1.0 w.1.1)

  pub was_sent : (n : ℕ) → Does (sends (length before) q) 0 n tt before after → Does (fitting (length before) s (outcome number q next)) number n next before after
  was_sent n d =
      let w = sent_so q before after 0 n d refl in
      rw (fitting_so (length before) s (outcome number q next) w.0) (record { answered = refl; count = w.1.0; left = refl; written = w.1.1 })

-- the last one, of four octets
pub closed : (q before after : List ℕ) (k n : ℕ) → Does (writing true (length before) q) k n tt before after → length q ≡ 4 → Does (sends (length before) q) k n tt before after
closed q before after k n d four = rw (writing_so true (length before) q refl (omega arith)) at d

pub closes : (s next : Server) (stage : Stage) (x : Done) (q before after : List ℕ) (n : ℕ) (reply : Reply) → Does (writing true (length before) q) 0 n tt before after → length q ≡ 4
    → (reply ≡ record { done = x; n = n }) × (next ≡ staged stage s) → Does (fitting (length before) s (outcome (done_of x) q (staged stage s))) (done_of reply.done) reply.n next before after
closes s next stage x q before after n reply d four v = rw (v.0, v.1) (was_sent s (staged stage s) (done_of x) q before after n (closed q before after 0 n d four))

-- what the reply buffer has of the request q
module _ (q before after : List ℕ) (n : ℕ) (d : Does (sends (length before) q) 0 n tt before after) where
  sent_whole : take n after ≡ q
  sent_whole =
      let e = sent_so q before after 0 n d refl in
      rw (e.1.0, e.1.1) (take-append_seam q (drop (length q) before))

  pub sent_few : length q ≤ request_room → length (take n after) ≤ request_room
  sent_few h = rw sent_whole h

  pub sent_asks : (s next : Server) (stage : Stage) (id : Identifier) (challenge : List ℕ) (retries : ℕ) (reply : Reply)
      → (reply ≡ record { done = done.Written; n = length (take n after) }) × (next ≡ asked stage id challenge retries (take n after) s)
      → Does (fitting (length before) s (asking s stage id challenge retries q)) (done_of reply.done) reply.n next before after
  sent_asks s next stage id challenge retries reply v =
      let e = sent_so q before after 0 n d refl in
      let w = rw sent_whole at v in
      rw (fitting_so (length before) s (asking s stage id challenge retries q) e.0, w.0, w.1) (record { answered = refl; count = refl; left = refl; written = e.1.1 })

-- ---- what the writers make: a packet that has a form
module _ (id : Identifier) (ids : Ids) (k n : ℕ) (before after : List ℕ) (e : ids ≡ ids_of id) where
  -- the same packet, with the MS-CHAPv2-ID that the server writes
  written_by : (formed : Bool) (q : Ids → List ℕ) → Does (writing formed (length before) (q ids)) k n tt before after → formed ≡ true → length (q (ids_of id)) ≤ max_packet
      → Does (sends (length before) (q (ids_of id))) k n tt before after
  written_by formed q d f l = rw (writing_so formed (length before) (q (ids_of id)) f l) at (rw e at d)

  pub challenge_sent : (challenge name : List ℕ) → length challenge ≡ 16 → (1 ≤ length name) × (length name ≤ max_name) → Does (write_challenge ids.id.0 ids.chapid.0 challenge name (length before)) k n tt before after
      → Does (sends (length before) (challenge_to id challenge name)) k n tt before after
  challenge_sent challenge name c l d =
      written_by (leb 1 (length name)) (λ i. challenge_packet i.id.0 i.chapid.0 challenge name) d (le-leb _ _ l.0)
      (omega (arith, length_challenge_packet id.0 (chap_of id).0 challenge name c, l.1))

  pub success_sent : (string : List ℕ) → Does (write_success_request ids.id.0 ids.chapid.0 string [] (length before)) k n tt before after
      → Does (sends (length before) (success_to id string)) k n tt before after
  success_sent string d =
      written_by true (λ i. success_request i.id.0 i.chapid.0 string []) d refl (omega (arith, length_success_request id.0 (chap_of id).0 string []))

  pub failure_sent : (error : ℕ) (retry : Bool) (digit : ℕ) (fresh : List ℕ) → error < 65536 → digit ≡ from_bool retry → Does (write_failure_request ids.id.0 ids.chapid.0 error digit fresh [] (length before)) k n tt before after
      → Does (sends (length before) (failure_to id error (retry_digit retry) fresh)) k n tt before after
  failure_sent error retry digit fresh c r d =
      written_by (leb error 9999999999 && leb (retry_digit retry) 1) (λ i. failure_request i.id.0 i.chapid.0 error (retry_digit retry) fresh []) (rw (r ∙ digit_so retry) at d) (and_both _ _ (le-leb error 9999999999 (omega arith)) (le-leb (retry_digit retry) 1 (digit_few retry)))
      (omega (arith, failure_fits id error (retry_digit retry) fresh))

-- ---- the calls, past their tests: r is what a test gave
pub start_past : (s : Server) (id : Identifier) (challenge name : List ℕ) (retries room : ℕ) (r t : Bool) → r ≡ begins s.stage → r ≡ true → t ≡ start_fits (length name) retries → t ≡ true
    → start_of s id challenge name retries room ≡ fitting room s (asking s ChallengeSent id challenge retries (challenge_to id challenge name))
unfolding start_of
start_past s id challenge name retries room r t b x f y = pick_false _ _ _ (ap not (sym b ∙ x)) ∙ pick_false _ _ _ (ap not (sym f ∙ y))

pub fail_past : (f : Failure) (s : Server) (fresh : List ℕ) (room : ℕ) (r : Bool) → r ≡ same fresh s.request.challenge → r ≡ false → fail_of f s fresh room ≡ fitting room s (failing s f fresh)
unfolding fail_of
fail_past f s fresh room r e x = pick_false _ _ _ (sym e ∙ x)

pub resend_past : (s : Server) (room : ℕ) (r : Bool) → r ≡ sent s.stage → r ≡ true → resend_of s room ≡ fitting room s (outcome 0 (stored_request s) s)
unfolding resend_of
resend_past s room r e x = pick_false _ _ _ (ap not (sym e ∙ x))

-- ---- what a verdict brings
module _ (v : Verdict) (s : Server) (fresh : List ℕ) (room : ℕ) where
  pub judged_so : (d : Result Due Refusal) → d ≡ due_of v s → judged_by v s fresh room ≡ act_of d s fresh room
  unfolding judged_by
  judged_so d e = ap (λ (x : Result Due Refusal). act_of x s fresh room) (sym e)

  pub judged_refused : (why : Refusal) (x : Result Reply Refusal) (b : List ℕ) → Err why ≡ due_of v s → IsErrAnd x (λ e. e ≡ why) → Does (judged_by v s fresh room) (reply_number x) (reply_count x) s b b
  unfolding act_of
  judged_refused why x b e w = rw (judged_so (Err why) e) (refused_by s (refusal_of why) why x b b w refl refl)

  module _ (x : Due) (e : Ok x ≡ due_of v s) where
    pub judged_success : (string : List ℕ) → x ≡ due.Success string → judged_by v s fresh room ≡ fitting room s (succeeding s string)
    unfolding act_of
    judged_success string f = judged_so (Ok x) e ∙ ap (λ (y : Due). act_of (Ok y) s fresh room) f

    pub judged_failure : (f : Failure) → x ≡ due.Failure f → judged_by v s fresh room ≡ fail_of f s fresh room
    unfolding act_of
    judged_failure f g = judged_so (Ok x) e ∙ ap (λ (y : Due). act_of (Ok y) s fresh room) g

-- ---- the turn
module _ (s : Server) (k : Packet) where
  pub check_stage : takes s.stage k.kind ≡ false → refuses 19 no_packet ≡ told (turn_refusal s (gives k)) no_packet k
  unfolding turn_refusal
  check_stage t = told_refuses 19 _ no_packet k (pick_false _ _ _ refl ∙ pick_true _ _ _ (ap not t)) refl

  pub check_numbers : takes s.stage k.kind ≡ true → misnumbered s k ≡ true → refuses 18 no_packet ≡ told (turn_refusal s (gives k)) no_packet k
  unfolding turn_refusal
  check_numbers t m = told_refuses 18 _ no_packet k (pick_false _ _ _ refl ∙ pick_false _ _ _ (ap not t) ∙ pick_true _ _ _ m) refl

  pub check_taken : takes s.stage k.kind ≡ true → misnumbered s k ≡ false → gives k ≡ told (turn_refusal s (gives k)) no_packet k
  unfolding turn_refusal told
  check_taken t m = sym (ap (λ (n : ℕ). told n no_packet k) (pick_false _ _ _ refl ∙ pick_false _ _ _ (ap not t) ∙ pick_false _ _ _ m))

module _ (s : Server) (p : List ℕ) where
  turn_by : (t : Told Packet) → t ≡ read_packet end.Server p → told (turn_refusal s t) no_packet t.value ≡ turn_of s p
  unfolding turn_of
  turn_by t e = ap (λ (u : Told Packet). told (turn_refusal s u) no_packet u.value) e

  pub turn_refused : (why : Refusal) (x : Result Packet Refusal) → refuses (refusal_of why) no_packet ≡ read_packet end.Server p → IsErrAnd x (λ e. e ≡ why) → told_reading x ≡ turn_of s p
  unfolding turn_refusal
  turn_refused why x e w =
      let y = err_from_is_err_and x w in
      rw (y.1, y.2)
      (told_refuses (refusal_of why) _ no_packet no_packet (pick_true _ _ _ (ap not (refusal_some why))) (refusal_some why)
      ∙ turn_by (refuses (refusal_of why) no_packet) e)

  pub turn_given : (k : Packet) (t : Told Packet) → gives k ≡ read_packet end.Server p → t ≡ told (turn_refusal s (gives k)) no_packet k → t ≡ turn_of s p
  turn_given k t e h = h ∙ turn_by (gives k) e

  -- and what follows it
  module _ (table fresh : List ℕ) (room : ℕ) where
    pub packet_refused : (why : Refusal) (x : Result Reply Refusal) (b : List ℕ) → refuses (refusal_of why) no_packet ≡ turn_of s p → IsErrAnd x (λ e. e ≡ why)
        → Does (packet_of s p table fresh room) (reply_number x) (reply_count x) s b b
    unfolding packet_of
    packet_refused why x b e w =
        rw (← e) (rw (pick_false (eqb (refusal_of why) 0) (taken_by s.stage no_packet s p table fresh room) (refused (refusal_of why) s) (refusal_some why)) (refused_by s (refusal_of why) why x b b w refl refl))

    module _ (k : Packet) (t : gives k ≡ turn_of s p) where
      -- the packet is taken in the stage g
      pub packet_taken : (g : Stage) → s.stage ≡ g → packet_of s p table fresh room ≡ taken_by g k s p table fresh room
      unfolding packet_of
      packet_taken g e = rw (← t) (pick_true _ _ _ refl ∙ ap (λ (h : Stage). taken_by h k s p table fresh room) e)

      -- or in one that takes nothing
      pub taken_not : (s.stage ≡ Begin) ⊎ ((s.stage ≡ Success) ⊎ (s.stage ≡ Failed)) → packet_of s p table fresh room ≡ refused 19 s
      unfolding taken_by
      taken_not (inl e) = packet_taken _ e
      taken_not (inr (inl e)) = packet_taken _ e
      taken_not (inr (inr e)) = packet_taken _ e

-- ---- what a start's arguments keep to
module _ (n retries : ℕ) (e : start_fits n retries ≡ true) where
  some : (eqb n 0 ≡ false) × (pick (ltb max_name n) false (pick (ltb max_retries retries) false true) ≡ true)
  unfolding start_fits
  some = passed (eqb n 0) _ e

  few : (ltb max_name n ≡ false) × (pick (ltb max_retries retries) false true ≡ true)
  few = passed (ltb max_name n) _ some.1

  pub start_named : (1 ≤ n) × (n ≤ max_name)
  start_named = (omega (arith, eqb-false n 0 some.0), ltb-false max_name n few.0)

  pub start_retries : retries < 256
  start_retries = omega (arith, ltb-false max_retries retries (passed (ltb max_retries retries) _ few.1).0)
