-- To unfold `opened` is to unfold all definitions of the bridge, so that what they give on an example is computed.
use Rattle.octets.specs.Be
use Rattle.octets.specs.Fields
use Rattle.octets.specs.Parts
use Rattle.model.specs.Lists
use Rattle.model.specs.Applicant
use Rattle.model.specs.LeaveAll
use Rattle.model.specs.Places
use Rattle.model.specs.Machines
use Rattle.model.specs.State
use Rattle.model.specs.Registrations
use Rattle.model.specs.Frames
use Rattle.model.specs.Cutting
use Rattle.model.specs.Best
use Rattle.model.specs.AddressFrames
use Rattle.model.specs.Bandwidth
use Rattle.model.specs.Settling
use Rattle.model.specs.Reports
use Rattle.model.specs.Declarations
use Rattle.model.specs.WrittenFrames
use Rattle.model.specs.Writing
use Rattle.model.specs.Sending
use Rattle.model.specs.Table
use Rattle.model.specs.Why
use Rattle.model.specs.Calls

state_opened : Unit {0}
unfolding Lists.tabulate Lists.bit Lists.count_to State.empty State.unsettled State.no_fixed State.no_totals State.no_own State.blank State.fresh State.started State.no_port State.port_at State.is_port State.cell_at State.result_at State.class_of State.is_no_class State.same_class State.supports State.both_limits State.in_force State.class_latency State.class_priority State.class_id Settling.same_ready State.ready_number Lists.all_true Lists.parts Lists.is_one Lists.longest
state_opened = tt

octets_opened : Unit {0}
unfolding Be.be_at Be.be Fields.fields Fields.flat Parts.part Reports.refused_report Reports.word_of Reports.code_of Reports.report WrittenFrames.message_of WrittenFrames.fixed_numbers WrittenFrames.priority_octet Table.column_number Table.column_code Table.entry_number Table.declared_number Table.leaving_number Table.since_number Table.talker_type_number Table.bridge_number Table.code_number Table.talker_numbers Table.listener_numbers Table.cell_numbers Table.port_from Table.to_port Table.ports_field Table.to_settings Table.vlan_word Table.port_rule Table.every_part Table.settings_rules Table.settings_formed Fields.packed Declarations.talker_kind Declarations.attribute_of Declarations.same_attribute Declarations.domain_of Declarations.domain_values Declarations.declarations_of Declarations.of_kind Declarations.declarations Cutting.mac Cutting.values Cutting.octets_for Best.price Best.lighter Best.longer Best.bests Best.best Best.least Best.run Declarations.declared_id Declarations.declared_ids Declarations.having Declarations.vector_size Declarations.vectors_size Declarations.message_size Declarations.messages_size Declarations.fitting Declarations.takes WrittenFrames.failure_numbers WrittenFrames.first_numbers WrittenFrames.four_octets WrittenFrames.declaration_vector WrittenFrames.vector_octets WrittenFrames.message_octets WrittenFrames.listener_number WrittenFrames.said WrittenFrames.three_octet WrittenFrames.four_octet WrittenFrames.packed_vector WrittenFrames.cut_as WrittenFrames.listener_parts WrittenFrames.vectors_of WrittenFrames.pdu_octets
octets_opened = tt

receiving_opened : Unit {0}
unfolding Frames.type_octet Frames.type_number Frames.first_widths Frames.first_length Frames.three_length Frames.has_four Frames.four_length Frames.vector_at Frames.vector_end Frames.overpacked Frames.runs_past Frames.overflows Frames.strange_leave Frames.strange_vector Frames.vector_in Frames.checked_in Frames.typed_in Frames.list_length Frames.list_at Frames.message_end Frames.end_mark Frames.header_in Frames.message_in Frames.also Frames.both Frames.vectors_from Frames.vectors Frames.messages_from Frames.messages Frames.walk Frames.event Frames.three_packed Frames.four_packed Frames.event_of Frames.four_of Frames.asking Frames.priority_of Frames.rank_of Frames.fixed_value Frames.talker_type_value Frames.id_value Frames.hearing Frames.talker_act Frames.listener_act Frames.has_slot Frames.slot_act Frames.domain_act Frames.value_acts Frames.values_acts Frames.leave_all_acts Frames.vector_acts Frames.frame_acts Frames.walked Frames.wrong_port Frames.reading Registrations.begin Registrations.talks_as Registrations.hears_as Registrations.with_leaving Registrations.quit_talker Registrations.quit_listener Registrations.quit Registrations.same_fixed Registrations.first_join Registrations.same_join Registrations.other_join Registrations.join_talker Registrations.does Registrations.at Registrations.change Registrations.begun Registrations.touch Registrations.reach Registrations.apply Registrations.apply_all Registrations.quit_domain Registrations.does_domain Registrations.change_domains Registrations.apply_own Registrations.apply_owns Registrations.holding Registrations.owning Registrations.received Registrations.joins Registrations.asks Registrations.quit_presence Registrations.quit_address Registrations.joined_address Registrations.with_joined Registrations.with_left Registrations.does_address Registrations.does_addresses Registrations.change_addresses Registrations.received_addresses AddressFrames.first_octets AddressFrames.address_header AddressFrames.address_message_in AddressFrames.runs_out AddressFrames.overruns AddressFrames.addresses_checked AddressFrames.address_vector_in AddressFrames.address_vector_at AddressFrames.address_of AddressFrames.address_act AddressFrames.address_asking AddressFrames.address_values AddressFrames.all_addresses AddressFrames.address_vector_acts AddressFrames.then_list AddressFrames.addresses_from AddressFrames.address_vectors AddressFrames.then_frame AddressFrames.after_list AddressFrames.address_messages_from AddressFrames.address_messages AddressFrames.address_walk AddressFrames.address_reading Calls.receive_mmrp Calls.receive
receiving_opened = tt

settling_opened : Unit {0}
unfolding Bandwidth.demand Bandwidth.rate Bandwidth.rate_of_a Bandwidth.rate_of_b Bandwidth.rate_of Bandwidth.key Bandwidth.above Bandwidth.insert Bandwidth.sort Bandwidth.share Bandwidth.reserved Bandwidth.remains Bandwidth.admitted Bandwidth.total Settling.expired Settling.expire_talker Settling.expire_listener Settling.expire_cell Settling.expire Settling.is_talking Settling.is_hearing Settling.held Settling.remain Settling.source Settling.source_of Settling.is_source Settling.fixed_of Settling.latency_of Settling.talker_type_of Settling.stream_class Settling.registered Settling.is_ready Settling.expire_domain Settling.outlasts Settling.remain_addresses Settling.holds_address Settling.is_domain Settling.any_domain Settling.other_priority Settling.domains_of Settling.any_supports Settling.is_edge Settling.flag_of Settling.decide_own Settling.decide_owns Settling.boundary Settling.add_inbound Settling.inbounds_of Settling.is_inbound Settling.inbound_below Settling.may_bring Settling.is_kept_out Settling.same_address Settling.same_address_at Settling.shares Settling.first Settling.clear Settling.is_talker_failed Settling.failed_column Settling.outcome_column Settling.is_pruned Settling.steps_from Settling.steps Settling.age_of Settling.claim Settling.claims Settling.reserved_a Settling.limit_on Settling.left_for Settling.by_bandwidth Settling.column_of Settling.capped Settling.latency_out Settling.entry_of Settling.age_kept Settling.latency_kept Settling.passed Settling.merge Settling.merge_all Settling.merged Settling.decide_at Settling.decide Settling.total_on Settling.totals_on Settling.deciding Settling.declaring Settling.settle Settling.advance Why.letter Why.same_step Why.first_name Why.last_name Why.step_on Why.reserving Why.listed Why.plainly Why.reason_on Why.scene_now Why.reason Settling.bandwidth_steps
settling_opened = tt

sending_opened : Unit {0}
unfolding Applicant.to Applicant.by Applicant.after_new Applicant.passive_leaving_all Applicant.new_leaving_all Applicant.applicant_row Applicant.applicant_column Applicant.applicant_entry Applicant.is_written Applicant.message_number Applicant.opportunity Applicant.named Applicant.standing Applicant.becomes Applicant.sent Applicant.speaks Applicant.spoken Applicant.state_of Applicant.octet_of Applicant.step Applicant.asks Applicant.event_at LeaveAll.starting LeaveAll.sends_leave_all LeaveAll.inapplicable LeaveAll.leave_all_row LeaveAll.leave_all_column LeaveAll.leave_all_entry LeaveAll.leave_all_next LeaveAll.is_active LeaveAll.begun LeaveAll.has_run LeaveAll.timed_out Places.itself Places.each Places.saying Places.reached Places.behind Places.left_before Places.write_from Places.runs Places.left Machines.other_content Machines.heard_event Machines.with Machines.applicant_of Machines.listed_of Machines.after Machines.born Machines.decided Machines.moved Machines.heard Machines.way Sending.standing_number Sending.to_standing Sending.applicant_octets Sending.to_applicant Sending.applicant_formed Sending.both_octets Sending.to_both Sending.both_formed Sending.offer_numbers Sending.offer_from Sending.offer_octets Sending.to_offer Sending.failure_octets Sending.to_failure Sending.offer_formed Sending.ready_octets Sending.ready_in Sending.ready_formed Sending.failed_formed Sending.sends_octets Sending.to_sends Sending.sends_formed Sending.domain_applicant Sending.to_domain_applicant Sending.active_number Sending.to_active Sending.leave_all_octets Sending.to_leave_all Sending.sender_octets Sending.to_sender Sending.domain_standing Sending.slots_standing Sending.leave_all_formed Sending.sender_formed Writing.leaves_all Writing.port_way Writing.say_on Writing.takes_on Writing.wrote_on Writing.end_on Writing.moved_at Writing.machines Writing.machines_of Writing.moved_kind Writing.moved_streams Writing.moved_slots Writing.moved_sender Writing.own_leave_all Writing.after_write Writing.write State.no_sends State.no_sender State.sends_at State.sender_at State.slot_of State.is_own_slot State.declares_slot State.started_sender Registrations.move_kind Registrations.hears Registrations.moves Registrations.is_staying Registrations.talker_stays Registrations.listener_stays Registrations.domain_stays Registrations.registered_in Registrations.hears_leave_all Registrations.moves_sender Registrations.apply_senders Registrations.sending Frames.heard_of Frames.talker_heard Frames.listener_heard Frames.slot_heard Settling.is_applicant Settling.is_sending Settling.any_sending Settling.is_held Settling.drop_unheld Settling.advertised_by Settling.failed_by Settling.listened_by Settling.same_offer Settling.same_failed Settling.declare_sends Settling.declare Settling.time_sender Declarations.listed_as Declarations.advertise_of Declarations.failed_of Declarations.registered_of Declarations.is_registered Declarations.say Declarations.leave_of Declarations.hear_of Declarations.asked_of Declarations.said_acts Declarations.empty_size WrittenFrames.fixed_from WrittenFrames.to_ready WrittenFrames.event_said WrittenFrames.with_leave_all WrittenFrames.empty_vector WrittenFrames.leaving_all WrittenFrames.vectors_said Table.all_sends_part Table.sends Table.is_standing Table.stands Table.is_failed Table.alike Table.sent_rules Table.sent_formed Table.senders_part Table.senders_formed Lists.all_zero
sending_opened = tt

unfoldable pub opened : Unit {0}
unfolding state_opened octets_opened receiving_opened settling_opened sending_opened
opened = tt
