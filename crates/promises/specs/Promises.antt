-- THE PROMISES on one page: document 01's three demands, each a record of statements with the paper's words above them; what is proved beyond them; and
-- the requests of document 02 that have landed. Every field is a statement of a crate below, whose file has the definitions that it speaks of. No public
-- function has a premise, and the contract of each call is an equality to those definitions.
use Rattle.answer.specs.Promises.{NumbersListed, NumbersApart}
use Rattle.digest.specs.Blocks.{PaddedFills}
use Rattle.des.specs.Rows.{RowsPermute}
use Rattle.des.specs.Keys.{KeysEight, KeysOdd, KeysBack}
use Rattle.mschap.specs.Promises.{UsersExact, ResponsesSized}
use Rattle.packet.specs.Promises.{ReaderAnswers, RefusedExactly, ReadExactly, FormedReads, ReadsFormed, PaddingIgnored, ReadingTells, ReadRenumbered}
use Rattle.packet.specs.Learned.{ReadAlike, ReadAlikeButForCase, WrittenReadsBack, SuccessReads, SuccessMessagesApart}
use Rattle.packet.specs.Texts.{TextTold}
use Rattle.writers.specs.Promises.{WritersAnswer, WritersReadBack}
use Rattle.faults.specs.Promises.{FaultsExact}
use Rattle.accounts.specs.Promises.{TablesExact, ChecksExact, LookupsExact, FoundApart, AddedFound, AddedHash, AppendsExact, AppendedFormed, AppendedFound, AppendedHash}
use Rattle.verdict.specs.Promises.{VerdictsExact}
use Rattle.peerlaws.specs.Exact.{NewExact, StepExact, SupplyExact, GiveUpExact}
use Rattle.peerlaws.specs.Promises as peer
use Rattle.peerlaws.specs.Promises.{SuccessOnlyIfRight, SuccessEarned, RepeatRule, RepeatRuleReached, EqualityOnly, NoPacketTaken, RepliesReadBack, AnyChapIdTaken, StateConsistent, RequestKept, RetryAnswersC, RandomOnlyInResponse, RandomOnlyInSupply, AnyTailTaken}
use Rattle.peerlaws.specs.Expected.{ExpectedString, AnswersStay}
use Rattle.peerlaws.specs.Texts.{StepTells}
use Rattle.peerlaws.specs.Remarks.{PretendsNot}
use Rattle.server.specs.Runs.{ContractAnswers, server_step}
use Rattle.server.specs.Effects.{EffectsExact}
use Rattle.server.specs.Promises as server
use Rattle.server.specs.Promises.{RequestsNumbered, ClosingAnswers, StoredAfter, ResendsLast}
use Rattle.server.specs.Reading.{MovesReadBack, CountIsLength, OutstandingReads, ResendsRead}
use Rattle.server.specs.Failing.{Fails}
use Rattle.server.specs.Guess.{WrongGuessRule}
use Rattle.server.specs.OtherServers.{TellsEarlyBreaks, CountsKnownBreaks}
use Rattle.server.specs.Remarks.{WrongEndsShutOut}
use Rattle.marked.specs.Marked.{Marked}
use Rattle.conversation.specs.Login.{LoginSucceeds}
use Rattle.conversation.specs.Tries.{TriesSucceed, TriesFail}
use Rattle.conversation.specs.Premises.{PremisesMet}
use Rattle.state.specs.Promises.{AnyOctetsStand, PeerBack, ServerBack, PeerOctetsBack, ServerOctetsBack}
use Rattle.calls.specs.Run.{PeerCarried, AnswersStayAt, ServerCarried, WrongGuessAt}
use Rattle.calls.specs.Promises.{WordBack, PeerAnswersAt, ServerAnswersAt, PeerStays, ServerStays, ResendLeaves, StatelessAnswer}
use Rattle.wire.specs.Promises.{WireAnswers, ReadingTold}

-- ---- Demand 1: every call, on every input, gives one answer of the list; a refusal changes no state and no lent octet
pub record Demand1 : Type 0 where
  -- the table of "What a call answers"
  pub numbers_listed : NumbersListed
  pub numbers_apart : NumbersApart
  -- "Numbers from 10 up change no state and no lent octet, and n = 0." The peer's step, supply and give-up, and the server's start, packet and resend,
  -- in any state
  pub peer_answers : peer.AnswersLeave
  pub server_answers : server.AnswersLeave
  -- "A peer is made from name and hash (0, n = 0; or 23 and a FAILED peer, all else zero)"
  pub peer_new : NewExact
  -- "Stateless calls .. know only 10 to 17, 21, 23, 20, in that order, and else answer 0 with their result"
  pub reader_answers : ReaderAnswers
  pub writers_answer : WritersAnswer
  pub check_answers : ChecksExact
  pub find_answers : LookupsExact
  pub found_apart : FoundApart
  pub append_answers : AppendsExact
  -- the same of every call at the boundary, whatever the sizes of the slices
  pub peer_at : PeerAnswersAt
  pub server_at : ServerAnswersAt
  pub stateless_at : StatelessAnswer
  pub wire_at : WireAnswers
  pub word_back : WordBack

-- ---- Demand 2: packets as the table has them, both ends as their tables say, and what follows
pub record Demand2 : Type 0 where
  -- "Each is given exactly when its condition holds and none earlier in the order does.": 10 to 17
  pub refused_exactly : RefusedExactly
  pub read_exactly : ReadExactly
  -- the reader takes exactly the packets of the table
  pub formed_reads : FormedReads
  pub reads_formed : ReadsFormed
  -- "Octets after L are padding, ignored on reading."
  pub padding_ignored : PaddingIgnored
  -- a reading has the packet's Identifier and L, and its places lie within L; with the octets there it is the whole packet, and if C is taken as 16 octets
  -- the case of its digits alone is free
  pub reading_tells : ReadingTells
  pub read_alike : ReadAlike
  pub read_alike_but_for_case : ReadAlikeButForCase
  -- packets that differ in their Identifier alone read alike but for it
  pub read_renumbered : ReadRenumbered
  -- what is written reads back, with any padding; "n is a writer's L"
  pub written_reads_back : WrittenReadsBack
  pub writers_read_back : WritersReadBack
  -- "The logger's moves (peer)": the table, the repeat rule, 19, 18, 20; supply and give-up
  pub step_exact : StepExact
  pub supply_exact : SupplyExact
  pub give_up_exact : GiveUpExact
  -- "WAITING, SUCCESS, FAILED | no packet | 19"
  pub no_packet_taken : NoPacketTaken
  -- "The server's moves": start, packet and resend
  pub effects_exact : EffectsExact
  -- "CHALLENGE_RESPONSE_SENT | Success Request, right string | Success Response": first there, and only so
  pub success_only_if_right : SuccessOnlyIfRight
  pub success_earned : SuccessEarned
  -- "The peer's right string is the one so computed from its own hash and its outstanding Response."
  pub state_consistent : StateConsistent
  -- "brings the stored reply again (0, or 20), state unchanged"
  pub repeat_rule : RepeatRule
  pub repeat_rule_reached : RepeatRuleReached
  -- "Identifiers are compared for equality only."
  pub equality_only : EqualityOnly
  -- "the peer takes any MS-CHAPv2-ID and copies it into its Response. A reply of the peer .. has the Identifier of the packet it answers."
  pub any_chapid_taken : AnyChapIdTaken
  pub replies_read_back : RepliesReadBack
  -- "keeping that request and C"; "a Response to C follows, under the kept request's Identifier and MS-CHAPv2-ID"
  pub request_kept : RequestKept
  pub retry_answers_c : RetryAnswersC
  -- "used only as the peer challenge of a Response made in that step"
  pub random_only_in_response : RandomOnlyInResponse
  pub random_only_in_supply : RandomOnlyInSupply
  -- "Every later request has the next Identifier; after 255 comes 0."
  pub requests_numbered : RequestsNumbered
  -- "EAP Success or Failure, has the Identifier of the packet it answers."
  pub closing_answers : ClosingAnswers
  -- "A resend call writes the outstanding request again in the stages ending in SENT, state unchanged"
  pub stored_after : StoredAfter
  pub resends_last : ResendsLast
  -- "n equals the written packet's L"; the peer's end reads what the server writes, and the outstanding request
  pub moves_read_back : MovesReadBack
  pub count_is_length : CountIsLength
  pub outstanding_reads : OutstandingReads
  pub resends_read : ResendsRead
  -- "Account table"; "A Response is right exactly when its user has an account and its NT-Response is the one so computed"
  pub tables_exact : TablesExact
  pub verdicts_exact : VerdictsExact
  -- "Response arithmetic"
  pub users_exact : UsersExact
  pub responses_sized : ResponsesSized
  pub padded_fills : PaddedFills
  pub keys_eight : KeysEight
  pub keys_odd : KeysOdd
  pub keys_back : KeysBack
  pub rows_permute : RowsPermute
  -- the same at the boundary: runs over octets show what runs by value show, and the octets of a state are the state
  pub any_octets_stand : AnyOctetsStand
  pub peer_back : PeerBack
  pub server_back : ServerBack
  pub peer_octets_back : PeerOctetsBack
  pub server_octets_back : ServerOctetsBack
  pub peer_carried : PeerCarried
  pub server_carried : ServerCarried
  pub peer_stays : PeerStays
  pub server_stays : ServerStays
  pub resend_leaves : ResendLeaves

-- ---- Demand 3: "the wrong-guess rule, is stated about this page's server"
pub record Demand3 : Type 0 where
  pub wrong_guess : WrongGuessRule server_step
  -- what the contracts of start, packet and resend say is the answer that it speaks of
  pub contract_answers : ContractAnswers
  pub wrong_guess_at : WrongGuessAt
  -- it is false of a server that tells 647 before the response is found right, and of one that counts a retry only for known names
  pub tells_early_breaks : TellsEarlyBreaks
  pub counts_known_breaks : CountsKnownBreaks

-- ---- beyond the demands
pub record Beyond : Type 0 where
  -- "Marked cases, shown together by a single statement"
  pub marked : Marked
  -- a login reaches SUCCESS at both ends, after wrong tries too, or FAILED at both; and the premises can be met
  pub login_succeeds : LoginSucceeds
  pub tries_succeed : TriesSucceed
  pub tries_fail : TriesFail
  pub premises_met : PremisesMet
  -- an account added to a table is found under its name, with its code and hash, unless an earlier one has that name; other names are found as before;
  -- and what `append` makes is a well-formed table
  pub added_found : AddedFound
  pub added_hash : AddedHash
  pub appended_formed : AppendedFormed
  pub appended_found : AppendedFound
  pub appended_hash : AppendedHash
  -- after the retries and a Failure Response the server is in FAILED
  pub fails : Fails
  -- a reply buffer of `REPLY_ROOM` octets, or of `REQUEST_ROOM`, is enough
  pub peer_room : peer.RoomEnough
  pub server_room : server.RoomEnough
  -- the octets of a reading at the boundary tell it whole; and what is said to be wrong with a packet is what its refusal is for
  pub reading_told : ReadingTold
  pub faults_exact : FaultsExact
  -- "How tight each statement is": the ends that are shut out
  pub wrong_ends_shut_out : WrongEndsShutOut
  pub pretends_not : PretendsNot

-- ---- document 02: the requests that have landed
pub record Requests : Type 0 where
  -- [1]: "After the digits either nothing follows, or ` M=` and any octets", "no two Success messages have the same reading"; at the peer the digits decide
  pub success_reads : SuccessReads
  pub success_messages_apart : SuccessMessagesApart
  pub any_tail_taken : AnyTailTaken
  -- [6]: "compute the authenticator string's 20 octets when the Response is made and keep them in the state"; "they equal the value defined in 01
  -- while a Response is outstanding, and all answers stay as they are"
  pub expected_string : ExpectedString
  pub answers_stay : AnswersStay
  pub answers_stay_at : AnswersStayAt
  -- [7]: "where the text after `M=` lies within the packet and hands that part back; it is exactly the rest of the message up to L"; "the peer's step as
  -- start and length (0 and 0 where it refuses or the packet is neither)". What a step tells at the boundary is `peer_at`
  pub text_told : TextTold
  pub step_tells : StepTells

pub record Promises : Type 0 where
  pub demand1 : Demand1
  pub demand2 : Demand2
  pub demand3 : Demand3
  pub beyond : Beyond
  pub requests : Requests
