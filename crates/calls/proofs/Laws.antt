-- How a call at the boundary ends.
use Prim.Native.Nat.{ℕ, ◌+◌, ◌-◌, ◌*◌, ◌/◌, ◌%◌, ◌≤◌, ◌<◌}
use native.Mathlib.Omega.{arith}
use mathlib.Core.Path.{◌≡◌, refl, sym, ap, ◌∙◌}
use mathlib.Core.List.{List, [], ◌∷◌}
use mathlib.Core.Bool.{Bool, true, false}
use lib.ListN.{length, get_or, drop, take}
use lib.Seq.{length-take-le, get_or-take, get_or-drop, ext_get_or}
use lib.Dec.{ltb, eqb}
use borrow.Author.Tests.{eq-eqb, ne_eqb, lt-ltb, le-ltb}
use Rattle.std.specs.Int.{w16, from_le_bytes}
use Rattle.octets.specs.Lists.{cells, sized, put}
use Rattle.octets.specs.Octets.{number_at}
use Rattle.octets.specs.declared.Order.TheVariants.{Little}
use Rattle.octets.proofs.Exits.{exits, pick_true, pick_false, arms, came_lt, came_ge, and_both, and_first, and_second}
use Rattle.octets.proofs.Lists.{length_cells, get_or_cells, get_or_sized, sized_own, put_whole}
use Rattle.std.specs.Prelude.{Result, Ok, Err}
use Rattle.std.specs.Result.{is_err}
use Rattle.answer.specs.declared.Done.{Done as DoneKind}
use Rattle.answer.specs.declared.Done.TheVariants.{Written, NeedsCredentials, Authenticated, Ended}
use Rattle.answer.specs.declared.Identifier.{Identifier}
use Rattle.answer.specs.declared.Refusal.{Refusal}
use Rattle.answer.specs.declared.Reply.{Reply}
use Rattle.answer.specs.Answer.{done_of, refusal_of}
use Rattle.answer.specs.Results.{refusal_in, count_in, told_by, Writes, reply_number, reply_count, Replies}
use Rattle.answer.specs.Outcome.{Told, Outcome, Does}
use Rattle.answer.proofs.Apart.{refusals_listed}
use Rattle.accounts.specs.Account.{append_in}
use Rattle.des.specs.Des.{enciphered}
use Rattle.mschap.specs.Answers.{password_hash_told, nt_response_told, authenticator_told}
use Rattle.packet.specs.declared.Place.{Place}
use Rattle.packet.specs.Reader.{nowhere}
use Rattle.peer.specs.declared.Peer.{Peer}
use Rattle.peer.specs.declared.PeerStep.{PeerStep}
use Rattle.peer.specs.Calls.{new_of, step_of, text_by, step_text, DoesTelling, supply_of, give_up_of}
use Rattle.server.specs.declared.Server.{Server}
use Rattle.server.specs.declared.ServerStep.{ServerStep}
use Rattle.server.specs.State.{initial}
use Rattle.server.specs.Calls.{start_of, packet_of, resend_of}
use Rattle.state.specs.Stored.{stored}
use Rattle.state.specs.PeerOctets.{peer_octets, peer_of, octets_of_peer}
use Rattle.state.specs.ServerOctets.{server_octets, server_of, octets_of_server}
use Rattle.state.proofs.Puts.{stored_so}
use Rattle.calls.specs.Done.{word_of, text_bits, word_telling, Done, done, ended, kept, telling, made, given, given_by, wrote}
use Rattle.calls.specs.Inner.{Encoded}
use Rattle.calls.specs.Ends.{begun, server_new_at}
use Rattle.calls.specs.Stateless.{unit_at, units_of}

-- ---- the word: number, n and the text's place can be read back, and where none is told no bit is set above n
pub number_back : (k n : ℕ) (text : Place) → k < 256 → word_telling k n text % 256 ≡ k
unfolding word_of text_bits
number_back k n text h = omega arith

pub n_back : (k n : ℕ) (text : Place) → k < 256 → n < 16777216 → word_telling k n text / 256 % 16777216 ≡ n
unfolding word_of text_bits
n_back k n text h l = omega arith

pub start_back : (k n : ℕ) (text : Place) → k < 256 → text.start < 65536 → word_telling k n text / 4294967296 % 65536 ≡ text.start
unfolding word_of text_bits
start_back k n text h l = omega arith

pub len_back : (k n : ℕ) (text : Place) → k < 256 → text.len < 65536 → word_telling k n text / 281474976710656 ≡ text.len
unfolding word_of text_bits
len_back k n text h l = omega arith

pub word_small : (k n : ℕ) → k < 256 → word_of k n < 4294967296
unfolding word_of
word_small k n h = omega arith

pub word_none : (k n : ℕ) → word_telling k n nowhere ≡ word_of k n
unfolding text_bits
word_none k n = omega arith

pub telling_none : (d : Done) → telling nowhere d ≡ d
unfolding telling text_bits
telling_none d = let e : d.word + 0 ≡ d.word = omega arith in (λ i. done (e i) d.state d.reply)

-- no text, whatever the answer
text_by_none : (k : ℕ) → text_by k nowhere ≡ nowhere
unfolding text_by
text_by_none k = arms (λ (a : Place). a ≡ nowhere) (ltb k 10) refl refl

pub word_quiet : (k n : ℕ) → word_telling k n (text_by k nowhere) ≡ word_of k n
word_quiet k n = ap (word_telling k n) (text_by_none k) ∙ word_none k n

pub telling_quiet : (k : ℕ) (d : Done) → telling (text_by k nowhere) d ≡ d
telling_quiet k d = ap (λ (a : Place). telling a d) (text_by_none k) ∙ telling_none d

-- ---- the state is written, or not
done_small : (d : DoneKind) → done_of d < 10
done_small Written = omega arith
done_small NeedsCredentials = omega arith
done_small Authenticated = omega arith
done_small Ended = omega arith

taken : (r : Result Reply Refusal) → is_err r ≡ false → reply_number r < 10
taken (Ok x) e = done_small x.done
taken (Err why) e = let z : ◌≡◌ {A = ℕ} 0 1 = cc in absurd (omega arith)

refused : (r : Result Reply Refusal) → is_err r ≡ true → 10 ≤ reply_number r
refused (Ok x) e = let z : ◌≡◌ {A = ℕ} 0 1 = cc in absurd (omega arith)
refused (Err why) e = (refusals_listed why).0

pub encoded_so : (r : Result Reply Refusal) (size due : ℕ) (q before after : List ℕ) (w : ℕ) (b : Bool) → b ≡ is_err r → b ≡ false → after ≡ stored size q before → length before ≡ size → w ≡ due → Encoded due (reply_number r) q before w after
encoded_so r size due q before after w b e h f l g = record { answered = g; left = f ∙ stored_so size q before l ∙ sym (pick_true _ _ _ (lt-ltb _ _ (taken r (sym e ∙ h)))) }

pub encoded_not : (r : Result Reply Refusal) (due : ℕ) (q before : List ℕ) (w : ℕ) (b : Bool) → b ≡ is_err r → b ≡ true → w ≡ due → Encoded due (reply_number r) q before w before
encoded_not r due q before w b e h g = record { answered = g; left = sym (pick_false _ _ _ (le-ltb _ _ (refused r (sym e ∙ h)))) }

-- ---- an end's call, told in octets
pub ended_by : {S : Type 0} (octetsOf : S → List ℕ) (o : Outcome S) (r : Result Reply Refusal) (s : S) (state after reply reply' : List ℕ) (w : ℕ) → Replies o r s reply reply' → Encoded (word_telling (reply_number r) (reply_count r) nowhere) (reply_number r) (octetsOf s) state w after → done w after reply' ≡ ended octetsOf o state reply
unfolding ended
ended_by octetsOf o r s state after reply reply' w d z = rw (z.answered, word_none (reply_number r) (reply_count r), z.left, d.answered, d.count, d.left, d.written)

-- and a call that tells a text
pub telling_by : (o : Outcome Peer) (text : Place) (r : PeerStep) (state after reply reply' : List ℕ) (w : ℕ) → DoesTelling o text r reply reply' → Encoded (word_telling (reply_number r.answer) (reply_count r.answer) r.text) (reply_number r.answer) (octets_of_peer r.peer) state w after → done w after reply' ≡ telling text (ended octets_of_peer o state reply)
unfolding ended telling
telling_by o text r state after reply reply' w t z =
    let d = t.does in
    rw (z.answered, z.left, d.answered, d.count, d.left, d.written, t.told)

pub new_begun : (name hash octets state after : List ℕ) (r : PeerStep) (w : ℕ) → DoesTelling (new_of name octets) nowhere r [] [] → octets ≡ hash → after ≡ stored peer_octets (octets_of_peer r.peer) state → length state ≡ peer_octets → w ≡ word_telling (reply_number r.answer) (reply_count r.answer) nowhere → done w after [] ≡ begun (new_of name hash)
unfolding begun
new_begun name hash octets state after r w t e f l g =
    let d = t.does in
    rw (g, word_none (reply_number r.answer) (reply_count r.answer), f, stored_so peer_octets (octets_of_peer r.peer) state l, ← e, d.answered, d.count, d.left)

pub step_ended : (p : Peer) (state after packet octets random reply reply' : List ℕ) (r : PeerStep) (w : ℕ) → DoesTelling (step_of p packet octets (length reply)) (step_text p packet octets (length reply)) r reply reply' → Encoded (word_telling (reply_number r.answer) (reply_count r.answer) r.text) (reply_number r.answer) (octets_of_peer r.peer) state w after → p ≡ peer_of state → octets ≡ random → done w after reply' ≡ telling (step_text (peer_of state) packet random (length reply)) (ended octets_of_peer (step_of (peer_of state) packet random (length reply)) state reply)
step_ended p state after packet octets random reply reply' r w d z e f = telling_by _ _ r state after reply reply' w (rw (← e, ← f) d) z

pub supply_ended : (p : Peer) (state after name own hash octets random reply reply' : List ℕ) (r : PeerStep) (w : ℕ) → DoesTelling (supply_of p name own octets (length reply)) nowhere r reply reply' → Encoded (word_telling (reply_number r.answer) (reply_count r.answer) r.text) (reply_number r.answer) (octets_of_peer r.peer) state w after → p ≡ peer_of state → own ≡ hash → octets ≡ random → done w after reply' ≡ ended octets_of_peer (supply_of (peer_of state) name hash random (length reply)) state reply
supply_ended p state after name own hash octets random reply reply' r w d z e f g = telling_by _ nowhere r state after reply reply' w (rw (← e, ← f, ← g) d) z ∙ telling_none _

pub give_up_ended : (p : Peer) (state after : List ℕ) (r : PeerStep) (w : ℕ) → DoesTelling (give_up_of p) nowhere r [] [] → Encoded (word_telling (reply_number r.answer) (reply_count r.answer) r.text) (reply_number r.answer) (octets_of_peer r.peer) state w after → p ≡ peer_of state → done w after [] ≡ ended octets_of_peer (give_up_of (peer_of state)) state []
give_up_ended p state after r w d z e = telling_by _ nowhere r state after [] [] w (rw (← e) d) z ∙ telling_none _

pub start_ended : (p : Server) (state after : List ℕ) (id : Identifier) (octets challenge name : List ℕ) (retries : ℕ) (reply reply' : List ℕ) (r : ServerStep) (w : ℕ) → Replies (start_of p id octets name retries (length reply)) r.answer r.server reply reply' → Encoded (word_telling (reply_number r.answer) (reply_count r.answer) nowhere) (reply_number r.answer) (octets_of_server r.server) state w after → p ≡ server_of state → octets ≡ challenge → done w after reply' ≡ ended octets_of_server (start_of (server_of state) id challenge name retries (length reply)) state reply
start_ended p state after id octets challenge name retries reply reply' r w d z e f = ended_by octets_of_server _ r.answer r.server state after reply reply' w (rw (← e, ← f) d) z

pub packet_ended : (p : Server) (state after packet table octets challenge reply reply' : List ℕ) (r : ServerStep) (w : ℕ) → Replies (packet_of p packet table octets (length reply)) r.answer r.server reply reply' → Encoded (word_telling (reply_number r.answer) (reply_count r.answer) nowhere) (reply_number r.answer) (octets_of_server r.server) state w after → p ≡ server_of state → octets ≡ challenge → done w after reply' ≡ ended octets_of_server (packet_of (server_of state) packet table challenge (length reply)) state reply
packet_ended p state after packet table octets challenge reply reply' r w d z e f = ended_by octets_of_server _ r.answer r.server state after reply reply' w (rw (← e, ← f) d) z

pub resend_kept : (p : Server) (state reply reply' : List ℕ) (r : ServerStep) (w : ℕ) → Replies (resend_of p (length reply)) r.answer r.server reply reply' → p ≡ server_of state → w ≡ word_telling (reply_number r.answer) (reply_count r.answer) nowhere → done w state reply' ≡ kept (resend_of (server_of state) (length reply)) state reply
unfolding kept
resend_kept p state reply reply' r w d e g = rw (g, word_none (reply_number r.answer) (reply_count r.answer), ← e, d.answered, d.count, d.written)

pub new_server : (state after : List ℕ) (s : Server) → s ≡ initial → after ≡ stored server_octets (octets_of_server s) state → length state ≡ server_octets → done 0 after [] ≡ server_new_at state
unfolding server_new_at
new_server state after s e f h =
    let g : after ≡ octets_of_server initial = f ∙ stored_so server_octets (octets_of_server s) state h ∙ ap octets_of_server e in
    rw g (sym (pick_true _ _ _ (eq-eqb _ _ h)))

-- ---- a call without a state
pub given_ok : (r : Result (List ℕ) Refusal) (none q out after : List ℕ) (w : ℕ) → r ≡ Ok q → after ≡ q → w ≡ word_of 0 0 → made w after ≡ given_by (told_by (λ x. x) none r) out
unfolding given_by given
given_ok r none q out after w e f g = rw (e, f, g) (ap (made (word_of 0 0)) (sym (pick_true (ltb 0 10) q out refl)))

pub given_err : (r : Result (List ℕ) Refusal) (why : Refusal) (none out : List ℕ) (k w : ℕ) → r ≡ Err why → k ≡ refusal_of why → w ≡ word_of k 0 → made w out ≡ given_by (told_by (λ x. x) none r) out
unfolding given_by given
given_err r why none out k w e f g = rw (e, g, f) (ap (made (word_of (refusal_of why) 0)) (sym (pick_false (ltb (refusal_of why) 10) none out (le-ltb _ _ (refusals_listed why).0))))

pub told_given : (t u : Told (List ℕ)) (out after : List ℕ) (w : ℕ) → t ≡ u → made w after ≡ given_by t out → made w after ≡ given_by u out
told_given t u out after w e g = rw (← e) g

pub respond_given : (t : Told (List ℕ)) (a authenticator p peer user h hash out after : List ℕ) (w : ℕ) → t ≡ nt_response_told a p user h → a ≡ authenticator → p ≡ peer → h ≡ hash → made w after ≡ given_by t out → made w after ≡ given_by (nt_response_told authenticator peer user hash) out
respond_given t a authenticator p peer user h hash out after w e f g i m = rw (← f, ← g, ← i, ← e) m

pub sign_given : (t : Told (List ℕ)) (h hash r response p peer a authenticator user out after : List ℕ) (w : ℕ) → t ≡ authenticator_told h r p a user → h ≡ hash → r ≡ response → p ≡ peer → a ≡ authenticator → made w after ≡ given_by t out → made w after ≡ given_by (authenticator_told hash response peer authenticator user) out
sign_given t h hash r response p peer a authenticator user out after w e f g i j m = rw (← f, ← g, ← i, ← j, ← e) m

pub append_wrote : (buffer after own hash name : List ℕ) (used code w : ℕ) (r : Result ℕ Refusal) → Writes (append_in buffer used code own name) r buffer after → own ≡ hash → w ≡ word_of (refusal_in r) (count_in r) → made w after ≡ wrote (append_in buffer used code hash name) buffer
unfolding wrote
append_wrote buffer after own hash name used code w r d e f = rw (f, ← e, d.answered, d.count, d.written)

-- two octets, the low one first
pub unit_read : (s : List ℕ) (at low high n : ℕ) → low ≡ get_or s at 0 → high ≡ get_or s (at + 1) 0 → n ≡ from_le_bytes w16 (low ∷ high ∷ []) → n ≡ number_at Little s at
unfolding number_at
unit_read s at low high n e f g = g ∙ rw (e, f) (omega arith)

-- the units that an array of 256 has at its front
units_front : (s units : List ℕ) (n : ℕ) → units ≡ cells 256 (unit_at s) → n ≡ length s / 2 → length s ≤ 512 → take n units ≡ units_of s
unfolding units_of
units_front s units n e f h =
    let k : n ≤ 256 = omega arith in
    let l : length (take n units) ≡ n = length-take-le n units (rw (e, length_cells 256 (unit_at s)) k) in
    rw (← f)
    (ext_get_or 0 (take n units) (cells n (unit_at s)) (l ∙ sym (length_cells n (unit_at s)))
    (λ i j. let m : i < n = rw l at j in get_or-take n units i 0 m ∙ rw e (get_or_cells 256 (unit_at s) i (omega arith)) ∙ sym (get_or_cells n (unit_at s) i m)))

pub units_given : (t : Told (List ℕ)) (s units out after : List ℕ) (n w : ℕ) → t ≡ password_hash_told (take n units) → units ≡ cells 256 (unit_at s) → n ≡ length s / 2 → length s ≤ 512 → made w after ≡ given_by t out → made w after ≡ given_by (password_hash_told (units_of s)) out
units_given t s units out after n w e f g h m = told_given t (password_hash_told (units_of s)) out after w (e ∙ ap password_hash_told (units_front s units n f g h)) m

pub enciphered_so : (key block key' block' octets after : List ℕ) → key ≡ key' → block ≡ block' → octets ≡ enciphered key block → after ≡ octets → made 0 after ≡ made 0 (enciphered key' block')
enciphered_so key block key' block' octets after e f g h = rw (h, g, e, f)

-- the sizes, then the call
pub ruleset sizes = (exits, and_both, and_first, and_second)

-- the call, then what it made
pub ruleset makes = (sizes, told_given, respond_given, sign_given, enciphered_so, append_wrote)

-- the call of an end, then what it left
pub ruleset leaves = (sizes, step_ended, supply_ended, give_up_ended, start_ended, packet_ended, resend_kept, new_begun, new_server)
