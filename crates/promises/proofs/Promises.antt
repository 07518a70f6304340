-- The promises hold.
use Rattle.answer.proofs.Apart.{numbers_listed, numbers_apart}
use Rattle.digest.proofs.Padding.{length_padded}
use Rattle.des.proofs.Rows.{rows}
use Rattle.des.proofs.Keys.{length_key, key_odd, key_back}
use Rattle.mschap.proofs.Users.{users_exact}
use Rattle.mschap.proofs.Responses.{responses_sized}
use Rattle.packet.proofs.Readings.{read_or_refused, padding_ignored}
use Rattle.packet.proofs.Conditions.{refused_exactly, read_exactly}
use Rattle.packet.proofs.Exact.{formed_reads, reads_formed}
use Rattle.packet.proofs.Places.{reading_tells}
use Rattle.packet.proofs.Alike.{read_alike, success_messages_apart}
use Rattle.packet.proofs.LetterCase.{read_alike_but_for_case}
use Rattle.packet.proofs.Renumbered.{read_renumbered}
use Rattle.packet.proofs.Back.{written_reads_back, success_reads}
use Rattle.packet.proofs.Texts.{text_is_told}
use Rattle.writers.proofs.Trips.{writers_answer, writers_read_back}
use Rattle.faults.proofs.Exact.{faults_exact}
use Rattle.accounts.proofs.Tables.{tables_exact, checks_exact}
use Rattle.accounts.proofs.Lookups.{lookups_exact}
use Rattle.accounts.proofs.Answers.{found_apart}
use Rattle.accounts.proofs.Appending.{added_found, added_hash, appends_exact, appended_formed, appended_found, appended_hash}
use Rattle.verdict.proofs.Rightness.{verdicts_exact}
use Rattle.peerlaws.proofs.Exact.{new_exact, step_exact, supply_exact, give_up_exact}
use Rattle.peerlaws.proofs.Promises as peer
use Rattle.peerlaws.proofs.Promises.{success_only_if_right, no_packet_taken}
use Rattle.peerlaws.proofs.Earned.{success_earned}
use Rattle.peerlaws.proofs.Expected.{expected_string, answers_stay}
use Rattle.peerlaws.proofs.Texts.{step_tells}
use Rattle.peerlaws.proofs.Consistent.{state_consistent, repeat_rule_reached}
use Rattle.peerlaws.proofs.Repeats.{repeat_rule}
use Rattle.peerlaws.proofs.Identifiers.{equality_only}
use Rattle.peerlaws.proofs.Forward.{any_chapid_taken, any_tail_taken}
use Rattle.peerlaws.proofs.ReadBack.{replies_read_back}
use Rattle.peerlaws.proofs.Retries.{request_kept, retry_answers_c, random_only_in_response, random_only_in_supply}
use Rattle.peerlaws.proofs.Rooms as peer-rooms
use Rattle.peerlaws.proofs.Remarks.{pretends_not}
use Rattle.server.proofs.Effects.{effects_exact}
use Rattle.server.proofs.Promises as server
use Rattle.server.proofs.Promises.{requests_numbered, closing_answers, stored_after, resends_last}
use Rattle.server.proofs.Reading.{moves_read_back, count_is_length, outstanding_reads, resends_read}
use Rattle.server.proofs.Failing.{fails}
use Rattle.server.proofs.WrongGuess.{wrong_guess, does_answered}
use Rattle.server.proofs.OtherServers.{tells_early_breaks, counts_known_breaks}
use Rattle.server.proofs.Remarks.{wrong_ends_shut_out}
use Rattle.marked.proofs.Marked.{marked}
use Rattle.conversation.proofs.Login.{login_succeeds}
use Rattle.conversation.proofs.Tries.{tries_succeed, tries_fail}
use Rattle.conversation.proofs.Premises.{premises_met}
use Rattle.state.proofs.Trips.{any_octets_stand, peer_back, server_back}
use Rattle.state.proofs.Fields.{peer_octets_back, server_octets_back}
use Rattle.calls.proofs.PeerRuns.{peer_carried, answers_stay_at}
use Rattle.calls.proofs.ServerRuns.{server_carried, wrong_guess_at}
use Rattle.calls.proofs.Answers.{word_back, peer_answers_at, server_answers_at}
use Rattle.calls.proofs.Stateless.{stateless_answer}
use Rattle.calls.proofs.Stays.{peer_stays, server_stays, resend_leaves}
use Rattle.wire.proofs.Answers.{wire_answers}
use Rattle.wire.proofs.Fields.{reading_told}
use Rattle.promises.specs.Promises.{Demand1, Demand2, Demand3, Beyond, Requests, Promises}

demand1 : Demand1
demand1 = record {
  numbers_listed = numbers_listed;
  numbers_apart = numbers_apart;
  peer_answers = peer.answers_leave;
  server_answers = server.answers_leave;
  peer_new = new_exact;
  reader_answers = read_or_refused;
  writers_answer = writers_answer;
  check_answers = checks_exact;
  find_answers = lookups_exact;
  found_apart = found_apart;
  append_answers = appends_exact;
  peer_at = peer_answers_at;
  server_at = server_answers_at;
  stateless_at = stateless_answer;
  wire_at = wire_answers;
  word_back = word_back;
}

demand2 : Demand2
demand2 = record {
  refused_exactly = refused_exactly;
  read_exactly = read_exactly;
  formed_reads = formed_reads;
  reads_formed = reads_formed;
  padding_ignored = padding_ignored;
  reading_tells = reading_tells;
  read_alike = read_alike;
  read_alike_but_for_case = read_alike_but_for_case;
  read_renumbered = read_renumbered;
  written_reads_back = written_reads_back;
  writers_read_back = writers_read_back;
  step_exact = step_exact;
  supply_exact = supply_exact;
  give_up_exact = give_up_exact;
  no_packet_taken = no_packet_taken;
  effects_exact = effects_exact;
  success_only_if_right = success_only_if_right;
  success_earned = success_earned;
  state_consistent = state_consistent;
  repeat_rule = repeat_rule;
  repeat_rule_reached = repeat_rule_reached;
  equality_only = equality_only;
  any_chapid_taken = any_chapid_taken;
  replies_read_back = replies_read_back;
  request_kept = request_kept;
  retry_answers_c = retry_answers_c;
  random_only_in_response = random_only_in_response;
  random_only_in_supply = random_only_in_supply;
  requests_numbered = requests_numbered;
  closing_answers = closing_answers;
  stored_after = stored_after;
  resends_last = resends_last;
  moves_read_back = moves_read_back;
  count_is_length = count_is_length;
  outstanding_reads = outstanding_reads;
  resends_read = resends_read;
  tables_exact = tables_exact;
  verdicts_exact = verdicts_exact;
  users_exact = users_exact;
  responses_sized = responses_sized;
  padded_fills = length_padded;
  keys_eight = length_key;
  keys_odd = key_odd;
  keys_back = key_back;
  rows_permute = rows;
  any_octets_stand = any_octets_stand;
  peer_back = peer_back;
  server_back = server_back;
  peer_octets_back = peer_octets_back;
  server_octets_back = server_octets_back;
  peer_carried = peer_carried;
  server_carried = server_carried;
  peer_stays = peer_stays;
  server_stays = server_stays;
  resend_leaves = resend_leaves;
}

demand3 : Demand3
demand3 = record {
  wrong_guess = wrong_guess;
  contract_answers = does_answered;
  wrong_guess_at = wrong_guess_at;
  tells_early_breaks = tells_early_breaks;
  counts_known_breaks = counts_known_breaks;
}

beyond : Beyond
beyond = record {
  marked = marked;
  login_succeeds = login_succeeds;
  tries_succeed = tries_succeed;
  tries_fail = tries_fail;
  premises_met = premises_met;
  added_found = added_found;
  added_hash = added_hash;
  appended_formed = appended_formed;
  appended_found = appended_found;
  appended_hash = appended_hash;
  fails = fails;
  peer_room = peer-rooms.room_enough;
  server_room = server.room_enough;
  reading_told = reading_told;
  faults_exact = faults_exact;
  wrong_ends_shut_out = wrong_ends_shut_out;
  pretends_not = pretends_not;
}

requests : Requests
requests = record {
  success_reads = success_reads;
  success_messages_apart = success_messages_apart;
  any_tail_taken = any_tail_taken;
  expected_string = expected_string;
  answers_stay = answers_stay;
  answers_stay_at = answers_stay_at;
  text_told = text_is_told;
  step_tells = step_tells;
}

pub promises : Promises
promises = record { demand1 = demand1; demand2 = demand2; demand3 = demand3; beyond = beyond; requests = requests }
