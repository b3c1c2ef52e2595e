-- TO COMPUTE with the definitions: naming `computed` in an `unfolding` line opens them all. Assumes nothing.
use Rattle.laws.specs.If.{if_lt, if_eq, if_b}
use Rattle.laws.specs.Lists.{pad, first_at, every}
use Rattle.std.proofs.Math.Option.{Option}
use Rattle.std.specs.Prelude.{List, ℕ}
use Rattle.paper.specs.Elements.{tag_more, tag_end, length_at, head_by, head_at, ended, contents, element, is_element, frame_at}
use Rattle.paper.specs.Problems.{sender_of}
use Rattle.paper.specs.Components.{known_tag, single, some_end, code_end, last_piece, invoke_pieces, result_both, result_pieces, problem_at, tag81, reject_pieces, null_pieces, pieces_after, pieces, read_problem, framed, tag_at, component_at, next_start, items, components, waiting_items}
use Rattle.paper.specs.Messages.{id_at, origin_of, destination_of, derived, closes, octet_at, components_by, components_part, abort_part, portion_part, in_order, known_type, by_length, message_of}
use Rattle.paper.specs.Writing.{length_octets, tlv, linked_then, invoke_octets, result_octets, error_octets, problem_octets, reject_octets, components_octets, begin_octets, continue_octets, end_octets, uni_octets, user_abort_octets, cause_abort_octets, octets_of, joined}
use Rattle.paper.specs.Portions.{Spoken, piece_octets, pieces_octets, portion_octets, portion_by, tagged, only, stands_at, value_in, name_in, result_in, diagnostic_in, piece, all_pieces, external, pdu_of, read_by, portion_of, portion_at, spoken_in, spoken_by}
use Rattle.paper.specs.Invocations.{is_open, is_idle, slot_of, idle_slot, invocation_of, to_state, to_idle, all_idle, passed, not_last_shown, transmitted, rejecting_ids, all_transmitted, rejected, takes, answer_kind, answer_problem, answers_sent, answers, invokes, released, reject_kind, rejects, faulty_reject, is_answer, faults, act, may_reject}
use Rattle.paper.specs.Rows.{signed, start_of, extent_of, component_row, all_acted, component_rows, rows_octets}
use Rattle.paper.specs.Shares.{gives, shares_fit, shares_kept}
use Rattle.paper.specs.Dialogues.{has_peer, is_code, is_parameter, is_result, is_portion, is_name, is_block, is_information, overfull, first, unplaced, portion_refusal, invoke_refusal, result_refusal, error_refusal, reject_refusal, rejected_by, needs, timeout_rows, all_rejects, waiting_rejects, rejects_fit, sent_components, after_sending, needs_open, needs_peer, needs_sent, of_class4, uni_refusal, is_abort, abort_portion, abort_refusal, abort_message, refusal, does, request}
use Rattle.paper.specs.Calls.{Table, Call, Out, is_free, is_of, held, may_begin, lowest_free, is_dialogue, owns, stored, requested, opened, assigned, faulted_at, faulted, items_of, uni_received, begin_at, begin_received, continued_control, continue_received, end_received, abort_received, to_dialogue, sound_received, received, received_if, step, fresh_table}
use Rattle.paper.specs.Counting.{Notice, is_ended}
use Rattle.paper.specs.Rules.{is_sound_item}
use Rattle.paper.specs.Contents.{Wire, parts_of, message_in, content_of}
use Rattle.paper.specs.Asked.{ours_of, becomes, user_rejects, all_sent, releases, fault_heard, reject_heard, heard_of, heard_all}
use Rattle.paper.specs.Ledger.{Entry, Ledger, find, altered, removed, fit, goes, stays, abort_spoken, unsigned, rejects_in, answered, shown, played, for_service, addressee, is_entry_of, entries_of, may_begin_in, to_entry, cause_of, said_for, said}
use Rattle.paper.specs.Readers.{parameter_of, parameter_at, parameter, sound_items, items_by, message_items}

unfoldable pub computed : Table → Call → Out
unfolding if_lt if_eq if_b pad first_at every tag_more tag_end length_at head_by head_at ended contents element frame_at sender_of known_tag single some_end code_end last_piece invoke_pieces result_both result_pieces problem_at tag81 reject_pieces null_pieces pieces_after pieces read_problem framed tag_at component_at next_start items components waiting_items id_at origin_of destination_of derived closes octet_at components_by components_part abort_part portion_part in_order known_type by_length message_of length_octets tlv linked_then invoke_octets result_octets error_octets problem_octets reject_octets components_octets begin_octets continue_octets end_octets uni_octets user_abort_octets cause_abort_octets piece_octets pieces_octets portion_octets portion_by tagged only stands_at value_in name_in result_in diagnostic_in piece all_pieces external pdu_of read_by portion_of portion_at is_open is_idle slot_of idle_slot invocation_of to_state to_idle all_idle passed not_last_shown transmitted rejecting_ids all_transmitted rejected takes answer_kind answer_problem answers_sent answers invokes released reject_kind rejects faulty_reject is_answer faults act may_reject signed start_of extent_of component_row all_acted component_rows rows_octets gives shares_fit shares_kept is_element has_peer is_code is_parameter is_result is_portion is_name is_block is_information overfull first unplaced portion_refusal invoke_refusal result_refusal error_refusal reject_refusal rejected_by needs timeout_rows all_rejects waiting_rejects rejects_fit sent_components after_sending needs_open needs_peer needs_sent of_class4 uni_refusal is_abort abort_portion abort_refusal abort_message refusal does request is_free is_of held may_begin lowest_free is_dialogue owns stored requested opened assigned faulted_at faulted items_of uni_received begin_at begin_received continued_control continue_received end_received abort_received to_dialogue sound_received received received_if step fresh_table parameter_of parameter_at parameter sound_items items_by message_items
computed T c = step T c

-- what a dialogue portion says
unfoldable pub spoken : List ℕ → Spoken
unfolding computed spoken_in
spoken l = spoken_in l

-- what a message holds, the ledger after a call, and what it says of the next one's message
unfoldable pub booked : List ℕ → Wire
unfolding computed is_sound_item parts_of message_in spoken_in content_of
booked s = content_of s

unfoldable pub noted : Ledger → Call → Notice → Ledger
unfolding computed is_ended ours_of becomes user_rejects all_sent releases fault_heard reject_heard heard_of heard_all find altered removed octets_of joined fit goes stays unsigned rejects_in answered shown played
noted L c t = played L c t

unfoldable pub heard : Ledger → Call → Wire
unfolding computed spoken_in spoken_by abort_spoken find octets_of joined fit goes for_service addressee is_entry_of entries_of may_begin_in to_entry cause_of said_for
heard L c = said L c

unfoldable pub looked : List Entry → ℕ → Option Entry
unfolding computed find
looked l d = find l d
