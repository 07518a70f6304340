-- What a call writes reads back, and what is outstanding.
use Rattle.std.proofs.Common.{◌≡◌, ℕ, ◌≤◌, true, eqb, List, [], ◌∷◌, ◌++◌, length, drop, sym, refl, ap, ◌∙◌, inl, inr, arith, eqb-true}
use Rattle.octets.specs.Choice.{pick}
use Rattle.octets.specs.Octets.{AreOctets, number_at, decimal}
use Rattle.octets.specs.declared.Order.TheVariants.{Big}
use Rattle.octets.proofs.Exits.{clash, tested, or_none}
use Rattle.octets.proofs.Decimals.{length_decimal_3}
use Rattle.answer.specs.Outcome.{Outcome}
use Rattle.answer.specs.Runs.{after}
use Rattle.answer.specs.Sizes.{max_name}
use Rattle.answer.specs.declared.Identifier.{Identifier}
use Rattle.answer.proofs.Outcomes.{fitting_so}
use Rattle.packet.specs.declared.End.TheVariants as end
use Rattle.packet.specs.declared.Packet.{Packet}
use Rattle.packet.specs.Reader.{failure_of, read_packet}
use Rattle.packet.specs.Learned.{Learned, learned}
use Rattle.packet.proofs.Back.{Back, learns, challenge_back, success_request_back, failure_request_back, eap_success_back, eap_failure_back}
use Rattle.packet.proofs.Readings.{tells}
use Rattle.packet.proofs.Sizes.{length_challenge_packet, length_success_request, length_failure_request_60}
use Rattle.accounts.specs.Accounts.{is_code}
use Rattle.verdict.specs.declared.Verdict.{Verdict}
use Rattle.verdict.specs.Verdict.{right, judge_of}
use Rattle.verdict.proofs.Rightness.{right_code, right_string}
use Rattle.server.specs.declared.Failure.{Failure}
use Rattle.server.specs.declared.Stage.{Stage}
use Rattle.server.specs.declared.Stage.TheVariants.{ChallengeSent}
use Rattle.server.specs.declared.Server.{Server}
use Rattle.server.specs.State.{request_room, stored_request, chap_of, retry_digit, initial, asked, staged}
use Rattle.server.specs.Moves.{sent}
use Rattle.server.specs.Calls.{verdict_of}
use Rattle.server.specs.Runs.{Call, reply_of, outcome_of, Answered, answered, left, server_step, Lent, AllLent}
use Rattle.server.specs.Effects.{Verdicts, Denies, barred, again, last, Moves, starting, granting, denying, confirming, ending, resending}
use Rattle.server.specs.Promises.{Asks}
use Rattle.server.specs.Reading.{PeerReads, ChallengeMeant, SuccessMeant, FailureMeant, MovesReadBack, CountIsLength, Waits, Outstanding, OutstandingReads, ResendsRead}
use Rattle.server.proofs.Laws.{challenge_fits, success_fits, failure_fits, digit_few}
use Rattle.server.proofs.Effects.{verdict_so, by_moves}
use Rattle.server.proofs.Promises.{resends_stored, stored_asked}

-- ---- what a right verdict hands on: a string of octets, and a code that is 0 or has three digits
pub coded : (c : ℕ) → is_code c ≡ true → (c ≡ 0 → ⊥) → (100 ≤ c) × (c ≤ 999)
unfolding is_code
coded c e z =
    tested (eqb c 0) (λ a. absurd (z (eqb-true _ _ a)))
    (λ a. tested (eqb c 646) (λ b. known (eqb-true _ _ b) (omega arith) (omega arith))
    (λ b. tested (eqb c 647) (λ d. known (eqb-true _ _ d) (omega arith) (omega arith))
    (λ d. tested (eqb c 648) (λ f. known (eqb-true _ _ f) (omega arith) (omega arith))
    (λ f. tested (eqb c 649) (λ g. known (eqb-true _ _ g) (omega arith) (omega arith))
    (λ g. clash (or_none _ _ a (or_none _ _ b (or_none _ _ d (or_none _ _ f g)))) e)))))
  where
    known : {k : ℕ} → c ≡ k → 100 ≤ k → k ≤ 999 → (100 ≤ c) × (c ≤ 999)
    known q l m = (omega arith, omega arith)

module _ {s : Server} {packet table : List ℕ} {code : ℕ} {string : List ℕ} (v : Verdicts s packet table (right code string)) where
  string_octets : AreOctets string
  unfolding verdict_of judge_of
  string_octets k = right_string _ _ _ _ _ code string (verdict_so _ v) k

  code_three : (code ≡ 0 → ⊥) → (100 ≤ code) × (code ≤ 999)
  unfolding verdict_of judge_of
  code_three z = coded code (right_code _ _ _ _ _ code string (verdict_so _ v)) z

-- a Failure Request's code has three digits
denied_three : {s : Server} {packet table : List ℕ} {v : Verdict} {f : Failure} → Verdicts s packet table v → Denies s v f → (100 ≤ f.error) × (f.error ≤ 999)
denied_three x (barred code string n) = code_three x n
denied_three x (again n) = (omega arith, omega arith)
denied_three x (last e) = (omega arith, omega arith)

-- ---- the packets meant
reads_so : {q : List ℕ} {x : Packet} {c r t : List ℕ} → Back end.Peer q x c r t → length q ≡ x.length → PeerReads q (learned x c r t)
reads_so b e = record { learns = learns b; size = sym e }

challenge_meant : (id : Identifier) (challenge name : List ℕ) → length challenge ≡ 16 → (1 ≤ length name) × (length name ≤ max_name) → ChallengeMeant id challenge name
unfolding chap_of
challenge_meant id challenge name z n =
    reads_so (challenge_back id.0 id.0 challenge name z n.0 (omega (arith, n.1))) (length_challenge_packet id.0 id.0 challenge name z)

success_meant : (id : Identifier) (string : List ℕ) → AreOctets string → SuccessMeant id string
unfolding chap_of
success_meant id string o = reads_so (success_request_back id.0 id.0 string [] o (omega arith)) (length_success_request _ _ string [])

failure_meant : (id : Identifier) (f : Failure) (fresh : List ℕ) → (100 ≤ f.error) × (f.error ≤ 999) → AreOctets fresh → FailureMeant id f fresh
unfolding chap_of
failure_meant id f fresh c o =
    let e : length (decimal f.error) ≡ 3 = length_decimal_3 f.error c.0 c.1 in
    reads_so
    (rw e at (failure_request_back id.0 id.0 f.error (retry_digit f.retry) fresh [] (omega (arith, c.1)) (digit_few f.retry) o (rw e (omega arith))))
    (length_failure_request_60 _ _ f.error (retry_digit f.retry) fresh c.0 c.1)

-- what each move writes
pub moves_read_back : MovesReadBack
moves_read_back s c o z (starting {id} {challenge} {name} b f) = challenge_meant id challenge name z (f.some, f.few)
moves_read_back s c o z (granting string v) = success_meant _ string (string_octets v)
moves_read_back s c o z (denying v f x d n) = failure_meant _ f _ (denied_three x d) z.1
moves_read_back s c o z (confirming x t) = reads_so (eap_success_back x.id.0) refl
moves_read_back s c o z (ending x t) = reads_so (eap_failure_back x.id.0) refl
moves_read_back s c o z (resending e) = tt

-- ---- "n equals the written packet's L"
size_of : {q : List ℕ} (pad : List ℕ) {l : Learned} → PeerReads q l → length q ≡ number_at Big (q ++ pad) 2
size_of {q} pad {l} b = sym b.size ∙ (tells end.Peer (q ++ pad) l.packet (b.learns pad).reads).size

pub count_is_length : CountIsLength
unfolding server_step
count_is_length s c z a = by_moves (λ (o : Outcome Server). o.number ≤ 3 → (answered o (reply_of c)).n ≡ number_at Big (answered o (reply_of c)).reply 2) s c (λ k l h. absurd (omega arith)) (λ o m h. go m z a)
  where
    go : {c : Call (List ℕ)} {o : Outcome Server} → Moves s c o → Lent c → Asks c → (answered o (reply_of c)).n ≡ number_at Big (answered o (reply_of c)).reply 2
    go (starting {id} {challenge} {name} b f) z a = size_of _ (challenge_meant id challenge name z (f.some, f.few))
    go (granting string v) z a = size_of _ (success_meant _ string (string_octets v))
    go (denying {fresh = fresh} v f x d n) z a = size_of _ (failure_meant _ f fresh (denied_three x d) z.1)
    go (confirming x t) z a = size_of _ (reads_so (eap_success_back x.id.0) refl)
    go (ending x t) z a = size_of _ (reads_so (eap_failure_back x.id.0) refl)
    go (resending e) z a = absurd a

-- ---- the outstanding request
outstanding_asked : (stage : Stage) (id : Identifier) (challenge : List ℕ) (retries : ℕ) (q : List ℕ) (s : Server) {l : Learned} → PeerReads q l → length q ≤ request_room
    → Waits stage l.packet.kind → l.packet.id.0 ≡ id.0 → l.packet.chapid.0 ≡ id.0 → Outstanding (asked stage id challenge retries q s)
unfolding asked chap_of
outstanding_asked stage id challenge retries q s {l} b m w i h =
    let e = stored_asked stage id challenge retries q s m in
    record { packet = l.packet; reads = λ pad. rw e (b.learns pad).reads; waits = w; id = i; chapid = h; size = rw e b.size }

-- the kind of a Failure Request is the one that its stage waits with
denied_waits : {s : Server} {v : Verdict} {f : Failure} → s.stage ≡ ChallengeSent → Denies s v f → Waits f.stage (failure_of (retry_digit f.retry))
unfolding failure_of pick
denied_waits e (barred code string n) = refl
denied_waits e (again n) = rw e (inr refl)
denied_waits e (last z) = refl

module _ (s : Server) (before : sent s.stage ≡ true → Outstanding s) where
  outstanding_after : {c : Call (List ℕ)} {o : Outcome Server} → Moves s c o → Lent c → sent o.state.stage ≡ true → Outstanding o.state
  unfolding staged
  outstanding_after (starting {id} {challenge} {name} b f) z g =
      let n : (1 ≤ length name) × (length name ≤ max_name) = (f.some, f.few) in
      outstanding_asked _ _ _ _ _ s (challenge_meant id challenge name z n) (challenge_fits id challenge name z f.few) (inl refl) refl refl
  outstanding_after (granting string v) z g = outstanding_asked _ _ _ _ _ s (success_meant _ string (string_octets v)) (success_fits _ string) refl refl refl
  outstanding_after (denying {fresh = fresh} v f x d n) z g =
      outstanding_asked _ _ _ _ _ s (failure_meant _ f fresh (denied_three x d) z.1) (failure_fits _ f.error (retry_digit f.retry) fresh) (denied_waits x.taken.stage d) refl refl
  outstanding_after (confirming x t) z g = clash refl g
  outstanding_after (ending x t) z g = clash refl g
  outstanding_after (resending e) z g = before g

outstanding_on : (s : Server) (cs : List (Call (List ℕ))) → (sent s.stage ≡ true → Outstanding s) → AllLent cs → sent (after left server_step s cs).stage ≡ true → Outstanding (after left server_step s cs)
unfolding after server_step
outstanding_on s [] before l g = before g
outstanding_on s (c ∷ cs) before l g =
    outstanding_on (outcome_of s c).state cs
    (by_moves (λ (o : Outcome Server). sent o.state.stage ≡ true → Outstanding o.state) s c (λ k h. before) (λ o m. outstanding_after s before m l.0)) l.1 g

pub outstanding_reads : OutstandingReads
unfolding initial
outstanding_reads s r g = rw r.is (outstanding_on initial r.calls (λ e. clash refl e) r.lent (rw r.is at g))

pub resends_read : ResendsRead
unfolding server_step
resends_read s q reply g r =
    let e = ap (λ (o : Outcome Server). answered o reply) (resends_stored s reply g ∙ fitting_so (length reply) s _ r) in (
      ap (λ (a : Answered). a.number) e,
      (
        ap (λ (a : Answered). a.n) e ∙ sym q.size,
        ap (λ (a : Answered). read_packet end.Peer a.reply) e ∙ q.reads (drop (length (stored_request s)) reply),
      ),
    )
