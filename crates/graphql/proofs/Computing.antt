-- All that a run computes with, opened: a proof by computation names `computing` on its `unfolding` line and nothing else.
use mathlib.Core.Bool.{Bool, true}

unfoldable pub computing : Bool
unfolding Rattle.graphql.specs.Run.after Rattle.graphql.specs.Run.pure Rattle.graphql.specs.Run.halt
    Rattle.graphql.specs.Run.fail Rattle.graphql.specs.Run.caught Rattle.graphql.specs.Run.or_else
    Rattle.graphql.specs.Run.lowered Rattle.graphql.specs.Run.passed Rattle.graphql.specs.Run.marked
    Rattle.graphql.specs.Run.mark Rattle.graphql.specs.Run.onward Rattle.graphql.specs.Run.◌>>=◌
    Rattle.graphql.specs.Run.when Rattle.graphql.specs.Run.note Rattle.graphql.specs.Run.pick
    Rattle.graphql.specs.Run.the Rattle.graphql.specs.Run.others Rattle.graphql.specs.Run.put_back
    Rattle.graphql.specs.Run.taking Rattle.graphql.specs.Run.any_order Rattle.graphql.specs.Run.in_order
    Rattle.graphql.specs.Json.items Rattle.graphql.specs.Json.members Rattle.graphql.specs.Json.print
    Rattle.graphql.specs.Json.print_items Rattle.graphql.specs.Json.print_members Rattle.graphql.specs.Json.containers
    Rattle.graphql.specs.Json.containers_of_items Rattle.graphql.specs.Json.containers_of_members
    Rattle.graphql.specs.Json.sort_of Rattle.graphql.specs.Json.is_a Rattle.graphql.specs.Json.string_of
    Rattle.graphql.specs.Data.entries Rattle.graphql.specs.Data.fields Rattle.graphql.specs.Data.print_data
    Rattle.graphql.specs.Data.print_entries Rattle.graphql.specs.Data.print_fields Rattle.codes.specs.Errors.place_of
    Rattle.graphql.specs.Errors.place_among Rattle.graphql.specs.Errors.error_of Rattle.graphql.specs.Lookup.rows_from
    Rattle.graphql.specs.Lookup.rows_in Rattle.graphql.specs.Lookup.find Rattle.graphql.specs.Lookup.any
    Rattle.graphql.specs.Lookup.non_null_ref Rattle.graphql.specs.Lookup.non_null Rattle.graphql.specs.Lookup.type_named
    Rattle.graphql.specs.Lookup.lists Rattle.graphql.specs.Lookup.has_value Rattle.graphql.specs.Lookup.field_named
    Rattle.graphql.specs.Lookup.fragment_named Rattle.graphql.specs.Lookup.selections_of
    Rattle.graphql.specs.Lookup.variable_named Rattle.graphql.specs.Lookup.field_answer
    Rattle.graphql.specs.Values.opened Rattle.graphql.specs.Values.array_of Rattle.graphql.specs.Values.object_of
    Rattle.graphql.specs.Values.node_form Rattle.graphql.specs.Values.value_of Rattle.graphql.specs.Values.node_value
    Rattle.graphql.specs.Values.variable_value Rattle.graphql.specs.Values.literal_form Rattle.graphql.specs.Values.parts_of
    Rattle.graphql.specs.Values.part_by_part Rattle.graphql.specs.Collect.visit Rattle.graphql.specs.Collect.grouped
    Rattle.graphql.specs.Collect.collect_field Rattle.graphql.specs.Collect.or_default
    Rattle.graphql.specs.Collect.variable_holds Rattle.graphql.specs.Collect.holds Rattle.graphql.specs.Collect.dropped
    Rattle.graphql.specs.Collect.applies_by Rattle.graphql.specs.Collect.does_fragment_type_apply
    Rattle.graphql.specs.Collect.inline_applies Rattle.graphql.specs.Collect.enter_fragment
    Rattle.graphql.specs.Collect.spread Rattle.graphql.specs.Collect.collect_selected
    Rattle.graphql.specs.Collect.collect_fields Rattle.graphql.specs.Collect.collect_within
    Rattle.graphql.specs.Collect.collect Rattle.graphql.specs.Coerce.argument_named Rattle.graphql.specs.Coerce.is_null_form
    Rattle.graphql.specs.Coerce.is_input_object Rattle.graphql.specs.Coerce.items_of Rattle.graphql.specs.Coerce.null_against
    Rattle.graphql.specs.Coerce.fail_at Rattle.graphql.specs.Coerce.coerce_variable Rattle.graphql.specs.Coerce.coerce_items
    Rattle.graphql.specs.Coerce.input_field Rattle.graphql.specs.Coerce.input_fields Rattle.graphql.specs.Coerce.unknown_key
    Rattle.graphql.specs.Coerce.known_object Rattle.graphql.specs.Coerce.input_object
    Rattle.graphql.specs.Coerce.coerce_named Rattle.graphql.specs.Coerce.coerce_shape
    Rattle.graphql.specs.Coerce.coerce_literal Rattle.graphql.specs.Coerce.coerce_argument_value
    Rattle.graphql.specs.Coerce.argument_error Rattle.graphql.specs.Coerce.is_non_null Rattle.graphql.specs.Coerce.valued
    Rattle.graphql.specs.Coerce.default_argument Rattle.graphql.specs.Coerce.variable_argument
    Rattle.graphql.specs.Coerce.literal_argument Rattle.graphql.specs.Coerce.given_argument
    Rattle.graphql.specs.Coerce.coerce_argument Rattle.graphql.specs.Coerce.coerce_argument_values
    Rattle.graphql.specs.Complete.rows_of_object Rattle.graphql.specs.Complete.numbered Rattle.graphql.specs.Complete.try_nullify Rattle.graphql.specs.Complete.takes
    Rattle.graphql.specs.Complete.field_name Rattle.graphql.specs.Complete.attached_type
    Rattle.graphql.specs.Complete.field_place Rattle.graphql.specs.Complete.field_error
    Rattle.graphql.specs.Complete.merge_selection_sets Rattle.graphql.specs.Complete.definition_of
    Rattle.graphql.specs.Complete.coerce_arguments Rattle.graphql.specs.Complete.echoed
    Rattle.graphql.specs.Complete.resolved Rattle.graphql.specs.Complete.answered
    Rattle.graphql.specs.Complete.resolve_field_value Rattle.graphql.specs.Complete.type_defined
    Rattle.graphql.specs.Complete.named_type Rattle.graphql.specs.Complete.scalar_leaf
    Rattle.graphql.specs.Complete.enum_leaf Rattle.graphql.specs.Complete.leaf_at
    Rattle.graphql.specs.Complete.complete_leaf_value Rattle.graphql.specs.Complete.object_named
    Rattle.graphql.specs.Complete.resolve_abstract_type Rattle.graphql.specs.Complete.object_type
    Rattle.graphql.specs.Complete.execute_group Rattle.graphql.specs.Complete.execute_selection_set
    Rattle.graphql.specs.Complete.complete_object_value Rattle.graphql.specs.Complete.complete_items
    Rattle.graphql.specs.Complete.complete_list_value Rattle.graphql.specs.Complete.complete_value Rattle.graphql.specs.Complete.complete_resolved
    Rattle.graphql.specs.Complete.complete_item Rattle.graphql.specs.Complete.execute_field
    Rattle.graphql.specs.Complete.step Rattle.graphql.specs.Complete.run Rattle.graphql.specs.Complete.execute
    Rattle.graphql.specs.Report.record_of Rattle.graphql.specs.Report.records_of Rattle.graphql.specs.Report.segment_words
    Rattle.graphql.specs.Report.record_words Rattle.graphql.specs.Report.words_of Rattle.graphql.specs.Report.ended
    Rattle.graphql.specs.Report.walk Rattle.graphql.specs.Report.refused Rattle.graphql.specs.Report.fitted
    Rattle.graphql.specs.Report.asks_schema Rattle.graphql.specs.Report.introspects Rattle.graphql.specs.Report.report_unbounded
    Rattle.graphql.specs.Report.report Rattle.graphql.specs.Report.report_in_order Rattle.graphql.specs.Report.filled
    Rattle.graphql.specs.Depth.rise_of Rattle.graphql.specs.Depth.and_then Rattle.graphql.specs.Depth.child_set
    Rattle.graphql.specs.Depth.check_field Rattle.graphql.specs.Depth.met_again Rattle.graphql.specs.Depth.remembered
    Rattle.graphql.specs.Depth.check_fragment Rattle.graphql.specs.Depth.check_spread
    Rattle.graphql.specs.Depth.check_selected Rattle.graphql.specs.Depth.check_selections
    Rattle.graphql.specs.Depth.check_set Rattle.graphql.specs.Depth.answered Rattle.graphql.specs.Depth.depth_report
    Rattle.graphql.specs.Kit.tables_of Rattle.rows.specs.Answers.answer_at Rattle.rows.specs.Ascii.ascii
    Rattle.rows.specs.Document.set_at Rattle.rows.specs.Document.field_selection Rattle.rows.specs.Document.spread_selection
    Rattle.rows.specs.Document.inline_selection Rattle.rows.specs.Document.selection_of Rattle.rows.specs.Document.selection_at
    Rattle.rows.specs.Document.given_at Rattle.rows.specs.Document.fragment_at Rattle.rows.specs.Json.node_at Rattle.rows.specs.Json.node_key
    Rattle.rows.specs.Json.literal_at Rattle.rows.specs.Json.variable_at Rattle.rows.specs.Names.name_at Rattle.rows.specs.Rows.all
    Rattle.rows.specs.Rows.rows_of Rattle.rows.specs.Rows.cell Rattle.rows.specs.Schema.type_ref_at Rattle.rows.specs.Schema.type_at
    Rattle.rows.specs.Schema.field_at Rattle.rows.specs.Schema.argument_at Rattle.rows.specs.Strings.same Rattle.rules.specs.Document.owned_set
    Rattle.rules.specs.Document.children_larger Rattle.rules.specs.Document.owned_nowhere Rattle.rules.specs.Json.key_new
    Rattle.rules.specs.Json.keys_distinct Rattle.rules.specs.Names.name_spelled Rattle.rules.specs.Names.name_new Rattle.rules.specs.Rows.is_new
    Rattle.rules.specs.Rows.distinct Rattle.tables.specs.Defaults.closed_to Rattle.tables.specs.Defaults.defaults_closed
    Rattle.tables.specs.Lawful.lawful Rattle.tables.specs.Lawful.table_code Rattle.tables.specs.Lawful.lawful_buffers
    Rattle.tables.specs.Lawful.lawful_choices Rattle.tables.specs.Rules.obeyed Rattle.tables.specs.Rules.rule_at
    Rattle.tables.specs.Rules.rows_lawful Rattle.text.specs.Ascii.is_ascii Rattle.text.specs.Names.NameStart
    Rattle.text.specs.Names.NameContinue Rattle.text.specs.Names.all_name_continue Rattle.text.specs.Names.is_name
    Rattle.text.specs.Numbers.digits Rattle.text.specs.Numbers.digits1 Rattle.text.specs.Numbers.decimal_point
    Rattle.text.specs.Numbers.digit1_9 Rattle.text.specs.Numbers.e Rattle.text.specs.Numbers.minus Rattle.text.specs.Numbers.plus
    Rattle.text.specs.Numbers.zero Rattle.text.specs.Numbers.int Rattle.text.specs.Numbers.frac Rattle.text.specs.Numbers.sign
    Rattle.text.specs.Numbers.exp Rattle.text.specs.Numbers.frac_or_exp Rattle.text.specs.Numbers.is_float Rattle.text.specs.Utf8.octets_after
    Rattle.text.specs.Utf8.is_utf8 Rattle.text.specs.Utf8.allowed Rattle.text.specs.Utf8.character_number
    Rattle.tokens.specs.Decimal.decimal_within Rattle.tokens.specs.Decimal.decimal Rattle.tokens.specs.Escape.escape_letter
    Rattle.tokens.specs.Escape.hex_digit Rattle.tokens.specs.Escape.escaped Rattle.tokens.specs.Escape.escaped_all
    Rattle.tokens.specs.Escape.quoted Rattle.writing.specs.Wrote.written Rattle.writing.specs.Wrote.saturated
    Rattle.writing.specs.Wrote.bracketed Rattle.writing.specs.Wrote.closed Rattle.writing.specs.Wrote.closed_end
    Rattle.writing.specs.Wrote.turned_into_place mathlib.Core.Bool.decide mathlib.Core.List.filter_map
computing = true
