-- Every definition of the end-point and of the layers below it, opened by one name: `unfolding opened` opens all that its own line names.
-- For what is shown by computation. Assumes nothing.
use Rattle.below.specs.Below.{all_below, none_below, count_below, largest_below, run_from, run_below, first_below, times, fold_below, fill_below, each_below, join_below, list_below}
use Rattle.below.specs.Bits.{bit}
use Rattle.views.specs.Cuts.{count_of, cut_ok}
use Rattle.views.specs.Sets.{has, within, size, only, set_of, joined, less}
use Rattle.views.specs.Views.{start_of, all_zero, starts_fit, view_ok, starts_same, same}
use Rattle.marks.specs.Beyond.{none_from}
use Rattle.marks.specs.Bits.{with_bit}
use Rattle.marks.specs.Held.{is_word, held_at, marked, run_of, no_gap}
use Rattle.marks.specs.Marks.{row_of, held_in, run_in, no_gap_in, marked_in}
use Rattle.messages.specs.Layouts.{body, bytes_of, length_of, blank_view, fields_fit, well_formed}
use Rattle.records.specs.Records.{record_at, record_count, find_record, holds_record, the_record, newest, store_record, record_ok, records_well_formed, records_rise, records_at_most}
use Rattle.slots.specs.Slots.{place, tag_at, marks_at, used, is_for, slot_of, has_slot, held_word, run, mark_word, freed, free_slot, has_free, taken, with_slot, all_used, slots_differ, no_gaps}
use Rattle.slots.specs.Spent.{spent_by}
use Rattle.agreement.specs.Agreement.{agreement, agrees, cut_in}
use Rattle.agreement.specs.Due.{due, forward_mark, due_above, lowest_due, owes}
use Rattle.agreement.specs.Named.{named_held, named, in_both, in_t, T, named_cut, agreed, unnamed}
use Rattle.endpoint.specs.Application.{unfit, own_run, send_checks, after_send, area_after_send, block_ok_checks, after_block_ok}
use Rattle.endpoint.specs.Change.{ask_checks, after_ask, declared_set, declare_checks, after_declare, announce_checks, announces, own_next, pass_checks, passes, own_cut, sync_out_checks, syncs}
use Rattle.endpoint.specs.Due.{due as due_due, lowest_due as lowest_due_due, owes as owes_due}
use Rattle.endpoint.specs.Forward.{due_index, raised, forward_out_checks, forwards}
use Rattle.endpoint.specs.Fresh.{fresh_slots, fresh}
use Rattle.endpoint.specs.Give.{next_given, limit, nothing_next, beyond_cut, give_checks, gives_next, give_one, give_many, batch_number, batch, batch_area}
use Rattle.endpoint.specs.Install.{all_members, fewer, more, slots_after, after_install, install_checks}
use Rattle.endpoint.specs.Membership.{start_checks, after_start, membership_checks, after_membership}
use Rattle.endpoint.specs.Numbers.{verdict, settle, settle_area}
use Rattle.endpoint.specs.Ready.{ready, named_held as named_held_ready, named as named_ready, in_t as in_t_ready, T as T-ready, named_cut as named_cut_ready, agreed as agreed_ready, unnamed as unnamed_ready}
use Rattle.endpoint.specs.Receive.{unreceivable, other_word, store_word, store_area, needs_slot, view_checks, after_view, next_word, live, word_checks, after_word, area_after_word, sync_checks, after_sync, forward_checks, after_forward, area_after_forward, receive_checks, after_receive, area_after_receive}
use Rattle.endpoint.specs.Sound.{heard_from, all_others, flags_ok, views_ok, own_member, counts_ok, records_ok, slots_ok, heard_ok, given_ok, sound}
use Rattle.endpoint.specs.Spent.{spent}
use Rattle.endpoint.specs.Steps.{checks, effect, stored, step, area_after, fresh_step}

unfoldable pub opened : Unit {0}
unfolding all_below none_below count_below largest_below run_from run_below first_below times fold_below fill_below each_below join_below list_below bit count_of cut_ok has within size only set_of joined less start_of all_zero starts_fit view_ok starts_same same none_from with_bit is_word held_at marked run_of no_gap row_of held_in run_in no_gap_in marked_in body bytes_of length_of blank_view fields_fit well_formed record_at record_count find_record holds_record the_record newest store_record record_ok records_well_formed records_rise records_at_most place tag_at marks_at used is_for slot_of has_slot held_word run mark_word freed free_slot has_free taken with_slot all_used slots_differ no_gaps spent_by agreement agrees cut_in due forward_mark due_above lowest_due owes named_held named in_both in_t T named_cut agreed unnamed unfit own_run send_checks after_send area_after_send block_ok_checks after_block_ok ask_checks after_ask declared_set declare_checks after_declare announce_checks announces own_next pass_checks passes own_cut sync_out_checks syncs due_due lowest_due_due owes_due due_index raised forward_out_checks forwards fresh_slots fresh next_given limit nothing_next beyond_cut give_checks gives_next give_one give_many batch_number batch batch_area all_members fewer more slots_after after_install install_checks start_checks after_start membership_checks after_membership verdict settle settle_area ready named_held_ready named_ready in_t_ready T-ready named_cut_ready agreed_ready unnamed_ready unreceivable other_word store_word store_area needs_slot view_checks after_view next_word live word_checks after_word area_after_word sync_checks after_sync forward_checks after_forward area_after_forward receive_checks after_receive area_after_receive heard_from all_others flags_ok views_ok own_member counts_ok records_ok slots_ok heard_ok given_ok sound spent checks effect stored step area_after fresh_step
opened = tt

-- How a step is settled by its table, and no more.
unfoldable pub stepped : Unit {0}
unfolding checks effect stored step area_after settle settle_area verdict
stepped = tt
