-- Replies that go out, and the states that they leave.
use Prim.Native.Nat.{ℕ, ◌+◌, ◌≤◌}
use mathlib.Core.Path.{◌≡◌, refl, sym, ap, ◌∙◌}
use mathlib.Core.List.{List, [], ◌∷◌, ◌++◌}
use mathlib.Core.Bool.{true}
use native.Mathlib.Omega.{arith}
use lib.ListN.{length, take, drop, length-take}
use lib.Seq.{take-append_seam}
use lib.Dec.{leb}
use borrow.Author.Tests.{le-leb, eq-eqb}
use Rattle.std.specs.Prelude.{Result, Ok, IsErrAnd}
use Rattle.std.proofs.lemmas.Result.{err_from_is_err_and}
use Rattle.octets.specs.Lists.{sized}
use Rattle.octets.proofs.Exits.{below, clash}
use Rattle.octets.proofs.Lists.{sized_append}
use Rattle.octets.proofs.Parts.{drop_next}
use Rattle.answer.specs.declared.Done.TheVariants.{Written}
use Rattle.answer.specs.declared.Refusal.{Refusal}
use Rattle.answer.specs.declared.Reply.{Reply}
use Rattle.answer.specs.Answer.{refusal_of}
use Rattle.answer.specs.Outcome.{outcome, refused, fitting, Does}
use Rattle.answer.specs.Results.{refusal_in, Replies}
use Rattle.answer.specs.Sizes.{max_name}
use Rattle.answer.proofs.Outcomes.{does_by, fitting_so, fitting_not}
use Rattle.answer.proofs.Told.{refusal_some}
use Rattle.packet.specs.Forms.{eight_zeros, header, chap_packet, response_packet}
use Rattle.packet.proofs.Sizes.{length_response_packet}
use Rattle.writers.specs.Writers.{sends, writing, write_response}
use Rattle.writers.proofs.Writing.{writing_so}
use Rattle.mschap.specs.Users.{user_of}
use Rattle.mschap.specs.Responses.{nt_response, authenticator_of}
use Rattle.mschap.proofs.Users.{user_shorter}
use Rattle.mschap.proofs.Responses.{length_nt_response}
use Rattle.peer.specs.declared.Peer.{Peer}
use Rattle.peer.specs.declared.Sent.{Sent}
use Rattle.peer.specs.declared.Credentials.{Credentials}
use Rattle.peer.specs.Inner.{name_in, sent_count}
use Rattle.peer.specs.State.{reply_room, response_to, string_to, string_in}

-- ---- a stored name
pub name_few : (c : Credentials) → length c.name ≡ max_name → length (name_in c) ≤ max_name
name_few c e = omega (arith, length-take c.namelen c.name)

-- ---- a Response
pub user_few : (name user : List ℕ) → user ≡ user_of name → length name ≤ max_name → length user ≤ max_name
user_few name user e h = rw e (omega (arith, user_shorter name))

pub length_response_to : (id chapid : ℕ) (authenticator own name hash : List ℕ) → length own ≡ 16 → length (response_to id chapid authenticator own name hash) ≡ 59 + length name
unfolding response_to
length_response_to id chapid authenticator own name hash h =
    length_response_packet id chapid own (nt_response authenticator own (user_of name) hash) name h (length_nt_response authenticator own (user_of name) hash)

-- the string that is to answer it, by what it is made of
pub string_made : (id chapid : ℕ) (authenticator own name hash : List ℕ) → length own ≡ 16 → string_in hash authenticator (response_to id chapid authenticator own name hash) ≡ string_to authenticator own name hash
unfolding string_in string_to response_to response_packet chap_packet header
string_made id chapid authenticator own name hash h =
    let nt = nt_response authenticator own (user_of name) hash in
    let w = response_packet id chapid own nt name in
    let k = length_nt_response authenticator own (user_of name) hash in
    let d10 : drop 10 w ≡ own ++ (eight_zeros ++ (nt ++ (0 ∷ name))) = refl in
    let d26 : drop 26 w ≡ eight_zeros ++ (nt ++ (0 ∷ name)) = drop_next w own _ 10 16 26 d10 h refl in
    let d34 : drop 34 w ≡ nt ++ (0 ∷ name) = drop_next w eight_zeros _ 26 8 34 d26 refl refl in
    let d58 : drop 58 w ≡ (0 ∷ []) ++ name = drop_next w nt _ 34 24 58 d34 k refl in
    let d59 : drop 59 w ≡ name = drop_next w (0 ∷ []) name 58 1 59 d58 refl refl in
    let e10 : sized 16 (drop 10 w) ≡ own = ap (sized 16) d10 ∙ sized_append 16 own _ h in
    let e34 : sized 24 (drop 34 w) ≡ nt = ap (sized 24) d34 ∙ sized_append 24 nt _ k in
    (λ j. authenticator_of hash (e34 j) (e10 j) authenticator (user_of (d59 j)))

pub response_sent : (id chapid : ℕ) (authenticator own name hash user response before after : List ℕ) (k n : ℕ) → length own ≡ 16 → length name ≤ max_name → user ≡ user_of name → response ≡ nt_response authenticator own user hash → Does (write_response id chapid own response name (length before)) k n tt before after → Does (sends (length before) (response_to id chapid authenticator own name hash)) k n tt before after
unfolding response_to
response_sent id chapid authenticator own name hash user response before after k n s h u e d =
    let q : List ℕ = response_packet id chapid own response name in
    let l : length q ≡ 59 + length name = length_response_packet id chapid own response name s (ap length e ∙ length_nt_response authenticator own user hash) in
    let same : response ≡ nt_response authenticator own (user_of name) hash = e ∙ ap (λ (x : List ℕ). nt_response authenticator own x hash) u in
    let sent = does_by (sends (length before) q) _ k n tt before after d (sym (writing_so (leb (length name) max_name) (length before) q (le-leb _ _ h) (omega arith))) in
    rw same at sent

-- ---- a reply w goes out, or 20
pub bare : (w before after : List ℕ) (k n : ℕ) → length w ≡ 6 → Does (writing true (length before) w) k n tt before after → Does (sends (length before) w) k n tt before after
bare w before after k n l d = does_by _ _ k n tt before after d (sym (writing_so true (length before) w refl (omega arith)))

sent_fits : (w before after : List ℕ) (n : ℕ) → Does (sends (length before) w) 0 n (tt {0}) before after → length w ≤ length before
sent_fits w before after n d =
    below (length before) (length w)
    (λ h. let d' : Does {S = Unit {0}} (refused 20 tt) 0 n tt before after = rw (fitting_not (length before) (tt {0}) (outcome 0 w tt) h) at d in let y : ◌≡◌ {A = ℕ} 0 20 = d'.answered in absurd (omega arith))
    (λ h. h)

went_out : (w before after : List ℕ) (n : ℕ) → Does (sends (length before) w) 0 n (tt {0}) before after → Does {S = Unit {0}} (outcome 0 w tt) 0 n tt before after
went_out w before after n d = rw (fitting_so (length before) (tt {0}) (outcome 0 w tt) (sent_fits w before after n d)) at d

-- the octets at the buffer's front are the reply
pub sent_part : (w v before after : List ℕ) (n : ℕ) → Does (sends (length before) w) 0 n tt before after → v ≡ take n after → v ≡ w
sent_part w v before after n d e =
    let d' = went_out w before after n d in
    e ∙ rw (d'.count, d'.written) (take-append_seam w (drop (length w) before))

pub sent_short : (id chapid : ℕ) (authenticator own name hash v before after : List ℕ) (n : ℕ) → length own ≡ 16 → length name ≤ max_name → Does (sends (length before) (response_to id chapid authenticator own name hash)) 0 n tt before after → v ≡ take n after → length v ≤ reply_room
sent_short id chapid authenticator own name hash v before after n s h d e = rw (sent_part _ v before after n d e) (omega (arith, length_response_to id chapid authenticator own name hash s))

pub replied : (p next s : Peer) (w before after : List ℕ) (n : ℕ) (a : Result Reply Refusal) → Does (sends (length before) w) 0 n tt before after → a ≡ Ok (record { done = Written; n = n }) → s ≡ next → Replies (fitting (length before) p (outcome 0 w next)) a s before after
replied p next s w before after n a d e f =
    let d' = went_out w before after n d in
    rw (e, fitting_so (length before) p (outcome 0 w next) (sent_fits w before after n d)) (record { answered = refl; count = d'.count; left = f; written = d'.written })

-- a refusal, as `?` passes it on
pub not_replied : (p next : Peer) (w before after : List ℕ) (why : Refusal) (a : Result Reply Refusal) → Does (sends (length before) w) (refusal_of why) 0 tt before after → IsErrAnd a (λ e. e ≡ why) → Replies (fitting (length before) p (outcome 0 w next)) a p before after
not_replied p next w before after why a d was =
    let e = err_from_is_err_and a was in
    below (length before) (length w)
    (λ h.
    let d' : Does {S = Unit {0}} (refused 20 tt) (refusal_of why) 0 tt before after = rw (fitting_not (length before) (tt {0}) (outcome 0 w tt) h) at d in
    rw (e.1, e.2, fitting_not (length before) p (outcome 0 w next) h) (record { answered = d'.answered; count = refl; left = refl; written = d'.written }))
    (λ h.
    let d' : Does {S = Unit {0}} (outcome 0 w tt) (refusal_of why) 0 tt before after = rw (fitting_so (length before) (tt {0}) (outcome 0 w tt) h) at d in
    clash (refusal_some why) (eq-eqb _ _ d'.answered))

-- the same where nothing but the octets matters
pub not_sent : (w before after : List ℕ) (why : Refusal) (a : Result Sent Refusal) → Does (sends (length before) w) (refusal_of why) 0 tt before after → IsErrAnd a (λ e. e ≡ why) → Does (sends (length before) w) (refusal_in a) (sent_count a) tt before after
not_sent w before after why a d was = let e = err_from_is_err_and a was in rw (e.1, e.2) d

-- ---- what writes nothing
pub quiet : (n : ℕ) (p : Peer) (b : List ℕ) → Does (outcome n [] p) n 0 p b b
quiet n p b = record { answered = refl; count = refl; left = refl; written = refl }

pub refuses_by : (why : Refusal) (a : Result Reply Refusal) (p : Peer) (b : List ℕ) → IsErrAnd a (λ e. e ≡ why) → Replies (refused (refusal_of why) p) a p b b
refuses_by why a p b was = let e = err_from_is_err_and a was in rw (e.1, e.2) (quiet _ _ _)
