-- 01, "What a call answers", of every call at the boundary: it answers a number of the list, and a refusal changes nothing.
use Rattle.std.specs.Prelude.{ℕ, ◌/◌, ◌%◌, ◌≤◌, ◌<◌, ◌≡◌, List, [], true, ◌&&◌, ◌⊎◌, length, replicate}
use Rattle.octets.specs.Lists.{over}
use Rattle.answer.specs.Promises.{IsRefusal}
use Rattle.answer.specs.Sizes.{max_name}
use Rattle.packet.specs.declared.Place.{Place}
use Rattle.packet.specs.Reader.{nowhere}
use Rattle.accounts.specs.Accounts.{check_number}
use Rattle.peer.specs.declared.Stage.TheVariants.{Failed}
use Rattle.peer.specs.State.{initial}
use Rattle.state.specs.PeerOctets.{peer_of, octets_of_peer}
use Rattle.state.specs.ServerOctets.{server_of}
use Rattle.state.specs.Promises.{IsPeerState, IsServerState}
use Rattle.calls.specs.Done.{word_of, word_telling, Done, done, Made, made}
use Rattle.calls.specs.Ends.{is_peer, is_sixteen, server_resend_at}
use Rattle.calls.specs.Run.{PeerCall, makes, steps, supplies, gives_up, peer_reply, peer_text, peer_call_at, peer_call, ServerCall, server_reply, server_call_at, server_call}
use Rattle.calls.specs.Stateless.{accounts_append_at, md4_at, sha1_at, password_hash_at, des_at, nt_response_at, authenticator_at}

-- ---- number, n and the place of a text can be read back from a word; where none is told, no bit is set above n
pub record WordBack : Type 0 where
  pub number : (k n : ℕ) (text : Place) → k < 256 → word_telling k n text % 256 ≡ k
  pub n : (k n : ℕ) (text : Place) → k < 256 → n < 16777216 → word_telling k n text / 256 % 16777216 ≡ n
  pub start : (k n : ℕ) (text : Place) → k < 256 → text.start < 65536 → word_telling k n text / 4294967296 % 65536 ≡ text.start
  pub len : (k n : ℕ) (text : Place) → k < 256 → text.len < 65536 → word_telling k n text / 281474976710656 ≡ text.len
  pub small : (k n : ℕ) → k < 256 → word_of k n < 4294967296
  pub none : (k n : ℕ) → word_telling k n nowhere ≡ word_of k n

-- ---- what a call on the octets s of a state, with the reply buffer b, can do: slices of every size. The text is told where it answers
pub data AnswersAt (s b : List ℕ) (text : Place) : Done → Type 0 where
  answers : (k : ℕ) (q s' : List ℕ) → k ≤ 3 → length q ≤ length b → length s' ≡ length s → AnswersAt s b text (done (word_telling k (length q) text) s' (over q b))
  -- "Numbers from 10 up change no state and no lent octet, and n = 0."
  refuses : (k : ℕ) → IsRefusal k → AnswersAt s b text (done (word_of k 0) s b)

-- "23 and a FAILED peer, all else zero": the one refusal that writes a state
abbrev pub MakesFailed : List ℕ → PeerCall → Type 0
MakesFailed s (makes name hash) =
    ((is_peer s && is_sixteen hash) ≡ true) × (max_name < length name) × (peer_call_at s (makes name hash) ≡ done (word_of 23 0) (octets_of_peer (initial Failed [] (replicate 16 0))) [])
MakesFailed s (steps packet random reply) = ⊥
MakesFailed s (supplies name hash random reply) = ⊥
MakesFailed s gives_up = ⊥

abbrev pub PeerAnswersAt : Type 0
PeerAnswersAt = (s : List ℕ) (c : PeerCall) → AnswersAt s (peer_reply c) (peer_text c) (peer_call_at s c) ⊎ MakesFailed s c

abbrev pub ServerAnswersAt : Type 0
ServerAnswersAt = (s : List ℕ) (c : ServerCall (List ℕ)) → AnswersAt s (server_reply c) nowhere (server_call_at s c)

-- ---- "state unchanged" holds of the octets: where the call leaves the state that they stand for, it leaves the octets
abbrev pub PeerStays : Type 0
PeerStays = (s : List ℕ) (c : PeerCall) → IsPeerState s → (peer_call (peer_of s) c).state ≡ peer_of s → (peer_call_at s c).state ≡ s

abbrev pub ServerStays : Type 0
ServerStays = (s : List ℕ) (c : ServerCall (List ℕ)) → IsServerState s → (server_call (server_of s) c).state ≡ server_of s → (server_call_at s c).state ≡ s

-- and a resend leaves them, whatever they are
abbrev pub ResendLeaves : Type 0
ResendLeaves = (s reply : List ℕ) → (server_resend_at s reply).state ≡ s

-- ---- calls without a state: 0, or a number of the list
pub data NumberAt : ℕ → Type 0 where
  good : NumberAt (word_of 0 0)
  refusal : (k : ℕ) → IsRefusal k → NumberAt (word_of k 0)

-- and 0 with a result over the output, or a refusal that leaves it
pub data MakesAt (out : List ℕ) : Made → Type 0 where
  gives : (q : List ℕ) → MakesAt out (made (word_of 0 0) q)
  refuses : (k : ℕ) → IsRefusal k → MakesAt out (made (word_of k 0) out)

-- and 0 with n octets over the buffer's front, the rest being as before, or a refusal that leaves it
pub data WritesAt (out : List ℕ) : Made → Type 0 where
  writes : (q : List ℕ) → length q ≤ length out → WritesAt out (made (word_of 0 (length q)) (over q out))
  refuses : (k : ℕ) → IsRefusal k → WritesAt out (made (word_of k 0) out)

pub record StatelessAnswer : Type 0 where
  pub check : (table : List ℕ) → NumberAt (word_of (check_number table) 0)
  pub append : (buffer : List ℕ) (used code : ℕ) (hash name : List ℕ) → WritesAt buffer (accounts_append_at buffer used code hash name)
  pub md4 : (message out : List ℕ) → MakesAt out (md4_at message out)
  pub sha1 : (message out : List ℕ) → MakesAt out (sha1_at message out)
  pub password_hash : (units out : List ℕ) → MakesAt out (password_hash_at units out)
  pub des : (key block out : List ℕ) → MakesAt out (des_at key block out)
  pub nt_response : (authenticator peer user hash out : List ℕ) → MakesAt out (nt_response_at authenticator peer user hash out)
  pub authenticator : (hash response peer challenge user out : List ℕ) → MakesAt out (authenticator_at hash response peer challenge user out)
