-- More of the same runs.
use Rattle.std.specs.Prelude.{◌≡◌, true, [], ◌∷◌, codes, refl}
use Rattle.std.specs.Fmt.{digits}
use Rattle.awk_text.specs.Reading.{numeral_at, sign_at, fraction_at, exponent_at}
use Rattle.awk_text.specs.Number.{numerator, denominator}
use Rattle.awk_text.specs.Escapes.{unescaped, escaped, octal}
use Rattle.awk_tokens.specs.Words.{keywords, builtins, left_out_words}
use Rattle.ere_syntax.specs.Scan.{table}
use Rattle.ere_syntax.specs.Readers.{sign_of}
use Rattle.awk_values.specs.declared.fault.Fault.TheVariants.{Range}
use Rattle.world_core.specs.WorldState.{Standard, puts}
use Rattle.world_core.specs.declared.world.Ending.TheVariants.{End}
use Rattle.sem_scripts.specs.ScriptState.{spend_all}
use Rattle.awk_grammar.specs.Kinds.{special_arrays, special_scalars}
use Rattle.sem_scripts.specs.Kinds.{resolved}
use Rattle.sem_scripts.specs.Meaning.{asked}
use Rattle.sem_scripts.specs.Statements.{loop, over_keys}
use Rattle.sem_scripts.specs.ScriptRun.{first_assigned, records_done, Ended, FaultedBy, GoesOn, setting_of}
use Rattle.mid_program.specs.Sorted.{sorted, all_sorted, step_sorted, steps_sorted, is_sorted}
use Rattle.mid_program.specs.MidMeaning.{evaluated, all_evaluated, stepped, all_stepped, mid_called, mid_run_in}
use Rattle.mid_program.specs.Texts.{texts_in, all_texts, stmt_texts, stmts_texts}
use Rattle.mid_program.specs.Translation.{code_of, codes_of, key_code, kept_code, argument_codes, truncated_code, applied_code, step_code, steps_code, program_of}
use Rattle.test_parts.specs.Scripts as scripts
use Rattle.test_parts.specs.Settings.{no_job, no_input, empty, with_file}

-- { n++; print n }
pub count_across_an_assignment : mid_run_in (program_of (resolved scripts.count_across_an_assignment)) (setting_of (record {
  operands = ((codes "f")
      ∷ (codes "n=07") ∷ (codes "g") ∷ []);
  assigns = [];
  environment = [];
}) no_input
    (with_file (codes "g") (codes "b\n") End (with_file (codes "f") (codes "a\n") End empty))) 40 ≡ Ended 0 (puts Standard (codes "1\n8\n"))
unfolding special_arrays special_scalars spend_all asked loop over_keys first_assigned records_done evaluated all_evaluated stepped all_stepped mid_called texts_in all_texts stmt_texts stmts_texts code_of codes_of key_code kept_code argument_codes truncated_code applied_code step_code steps_code numeral_at sign_at fraction_at exponent_at numerator denominator digits unescaped escaped octal keywords builtins left_out_words table sign_of
count_across_an_assignment = refl

-- BEGIN { if (0) print 1/0; print 2^3*4 }
pub fault_not_reached : mid_run_in (program_of (resolved scripts.fault_not_reached)) (setting_of no_job no_input empty) 40
    ≡ Ended 0 (puts Standard (codes "32\n"))
unfolding special_arrays special_scalars spend_all asked loop over_keys first_assigned records_done evaluated all_evaluated stepped all_stepped mid_called texts_in all_texts stmt_texts stmts_texts code_of codes_of key_code kept_code argument_codes truncated_code applied_code step_code steps_code numeral_at sign_at fraction_at exponent_at numerator denominator digits unescaped escaped octal keywords builtins left_out_words table sign_of
fault_not_reached = refl

-- BEGIN { n = 2^53; n++; print "no" }
pub step_past_range : mid_run_in (program_of (resolved scripts.step_past_range)) (setting_of no_job no_input empty) 40 ≡ FaultedBy Range []
unfolding special_arrays special_scalars spend_all asked loop over_keys first_assigned records_done evaluated all_evaluated stepped all_stepped mid_called texts_in all_texts stmt_texts stmts_texts code_of codes_of key_code kept_code argument_codes truncated_code applied_code step_code steps_code numeral_at sign_at fraction_at exponent_at numerator denominator digits unescaped escaped octal keywords builtins left_out_words table sign_of
step_past_range = refl

-- BEGIN { while (n < 10) n = n + 1; print n }
pub loop_on_numbers : mid_run_in (program_of (resolved scripts.loop_on_numbers)) (setting_of no_job no_input empty) 40 ≡ Ended 0 (puts Standard (codes "10\n"))
unfolding special_arrays special_scalars spend_all asked loop over_keys first_assigned records_done evaluated all_evaluated stepped all_stepped mid_called texts_in all_texts stmt_texts stmts_texts code_of codes_of key_code kept_code argument_codes truncated_code applied_code step_code steps_code numeral_at sign_at fraction_at exponent_at numerator denominator digits unescaped escaped octal keywords builtins left_out_words table sign_of
loop_on_numbers = refl

-- BEGIN { while (n < 3) n = n + 1; print n }
pub turns_just_enough : mid_run_in (program_of (resolved scripts.turns_just_enough)) (setting_of no_job no_input empty) 4
    ≡ Ended 0 (puts Standard (codes "3\n"))
unfolding special_arrays special_scalars spend_all asked loop over_keys first_assigned records_done evaluated all_evaluated stepped all_stepped mid_called texts_in all_texts stmt_texts stmts_texts code_of codes_of key_code kept_code argument_codes truncated_code applied_code step_code steps_code numeral_at sign_at fraction_at exponent_at numerator denominator digits unescaped escaped octal keywords builtins left_out_words table sign_of
turns_just_enough = refl

-- BEGIN { while (n < 3) n = n + 1; print n }
pub one_turn_too_few : mid_run_in (program_of (resolved scripts.one_turn_too_few)) (setting_of no_job no_input empty) 3 ≡ GoesOn []
unfolding special_arrays special_scalars spend_all asked loop over_keys first_assigned records_done evaluated all_evaluated stepped all_stepped mid_called texts_in all_texts stmt_texts stmts_texts code_of codes_of key_code kept_code argument_codes truncated_code applied_code step_code steps_code numeral_at sign_at fraction_at exponent_at numerator denominator digits unescaped escaped octal keywords builtins left_out_words table sign_of
one_turn_too_few = refl

-- function f(x, y) { if (x < y) return x; y = x = x * 2; return y } BEGIN { print f(3, 5), f(7), f("10", 9), f() "." ; n = -n; n += !m; print n, n++
-- + ++n, n-- }
pub numbers_in_names : mid_run_in (program_of (resolved scripts.numbers_in_names)) (setting_of no_job no_input empty) 40
    ≡ Ended 0 (puts Standard (codes "3 14 10 0.\n1 4 3\n"))
unfolding special_arrays special_scalars spend_all asked loop over_keys first_assigned records_done evaluated all_evaluated stepped all_stepped mid_called texts_in all_texts stmt_texts stmts_texts code_of codes_of key_code kept_code argument_codes truncated_code applied_code step_code steps_code numeral_at sign_at fraction_at exponent_at numerator denominator digits unescaped escaped octal keywords builtins left_out_words table sign_of
numbers_in_names = refl

-- BEGIN { print n < 10, n < "10", n == 9; n = n + 1; print n < 10 }
pub text_in_a_number : mid_run_in (program_of (resolved scripts.text_in_a_number)) (setting_of (record {
  operands = [];
  assigns = ((
    (codes "n"),
    (codes "9"),
  ) ∷ []);
  environment = [];
}) no_input empty) 40 ≡ Ended 0 (puts Standard (codes "1 0 1\n0\n"))
unfolding special_arrays special_scalars spend_all asked loop over_keys first_assigned records_done evaluated all_evaluated stepped all_stepped mid_called texts_in all_texts stmt_texts stmts_texts code_of codes_of key_code kept_code argument_codes truncated_code applied_code step_code steps_code numeral_at sign_at fraction_at exponent_at numerator denominator digits unescaped escaped octal keywords builtins left_out_words table sign_of
text_in_a_number = refl

-- Well sorted.

pub name_read_when_met_sorted : is_sorted (program_of (resolved scripts.name_read_when_met)) ≡ true
unfolding special_arrays special_scalars spend_all asked loop over_keys first_assigned records_done evaluated all_evaluated stepped all_stepped mid_called texts_in all_texts stmt_texts stmts_texts code_of codes_of key_code kept_code argument_codes truncated_code applied_code step_code steps_code numeral_at sign_at fraction_at exponent_at numerator denominator digits unescaped escaped octal keywords builtins left_out_words table sign_of sorted all_sorted step_sorted steps_sorted
name_read_when_met_sorted = refl

pub getline_among_operands_sorted : is_sorted (program_of (resolved scripts.getline_among_operands)) ≡ true
unfolding special_arrays special_scalars spend_all asked loop over_keys first_assigned records_done evaluated all_evaluated stepped all_stepped mid_called texts_in all_texts stmt_texts stmts_texts code_of codes_of key_code kept_code argument_codes truncated_code applied_code step_code steps_code numeral_at sign_at fraction_at exponent_at numerator denominator digits unescaped escaped octal keywords builtins left_out_words table sign_of sorted all_sorted step_sorted steps_sorted
getline_among_operands_sorted = refl

pub value_of_special_assignment_sorted : is_sorted (program_of (resolved scripts.value_of_special_assignment)) ≡ true
unfolding special_arrays special_scalars spend_all asked loop over_keys first_assigned records_done evaluated all_evaluated stepped all_stepped mid_called texts_in all_texts stmt_texts stmts_texts code_of codes_of key_code kept_code argument_codes truncated_code applied_code step_code steps_code numeral_at sign_at fraction_at exponent_at numerator denominator digits unescaped escaped octal keywords builtins left_out_words table sign_of sorted all_sorted step_sorted steps_sorted
value_of_special_assignment_sorted = refl

pub count_as_key_sorted : is_sorted (program_of (resolved scripts.count_as_key)) ≡ true
unfolding special_arrays special_scalars spend_all asked loop over_keys first_assigned records_done evaluated all_evaluated stepped all_stepped mid_called texts_in all_texts stmt_texts stmts_texts code_of codes_of key_code kept_code argument_codes truncated_code applied_code step_code steps_code numeral_at sign_at fraction_at exponent_at numerator denominator digits unescaped escaped octal keywords builtins left_out_words table sign_of sorted all_sorted step_sorted steps_sorted
count_as_key_sorted = refl

pub key_below_zero_as_count_sorted : is_sorted (program_of (resolved scripts.key_below_zero_as_count)) ≡ true
unfolding special_arrays special_scalars spend_all asked loop over_keys first_assigned records_done evaluated all_evaluated stepped all_stepped mid_called texts_in all_texts stmt_texts stmts_texts code_of codes_of key_code kept_code argument_codes truncated_code applied_code step_code steps_code numeral_at sign_at fraction_at exponent_at numerator denominator digits unescaped escaped octal keywords builtins left_out_words table sign_of sorted all_sorted step_sorted steps_sorted
key_below_zero_as_count_sorted = refl

pub operators_with_assignment_sorted : is_sorted (program_of (resolved scripts.operators_with_assignment)) ≡ true
unfolding special_arrays special_scalars spend_all asked loop over_keys first_assigned records_done evaluated all_evaluated stepped all_stepped mid_called texts_in all_texts stmt_texts stmts_texts code_of codes_of key_code kept_code argument_codes truncated_code applied_code step_code steps_code numeral_at sign_at fraction_at exponent_at numerator denominator digits unescaped escaped octal keywords builtins left_out_words table sign_of sorted all_sorted step_sorted steps_sorted
operators_with_assignment_sorted = refl

pub steps_in_fields_sorted : is_sorted (program_of (resolved scripts.steps_in_fields)) ≡ true
unfolding special_arrays special_scalars spend_all asked loop over_keys first_assigned records_done evaluated all_evaluated stepped all_stepped mid_called texts_in all_texts stmt_texts stmts_texts code_of codes_of key_code kept_code argument_codes truncated_code applied_code step_code steps_code numeral_at sign_at fraction_at exponent_at numerator denominator digits unescaped escaped octal keywords builtins left_out_words table sign_of sorted all_sorted step_sorted steps_sorted
steps_in_fields_sorted = refl

pub special_steps_sorted : is_sorted (program_of (resolved scripts.special_steps)) ≡ true
unfolding special_arrays special_scalars spend_all asked loop over_keys first_assigned records_done evaluated all_evaluated stepped all_stepped mid_called texts_in all_texts stmt_texts stmts_texts code_of codes_of key_code kept_code argument_codes truncated_code applied_code step_code steps_code numeral_at sign_at fraction_at exponent_at numerator denominator digits unescaped escaped octal keywords builtins left_out_words table sign_of sorted all_sorted step_sorted steps_sorted
special_steps_sorted = refl

pub read_into_elements_sorted : is_sorted (program_of (resolved scripts.read_into_elements)) ≡ true
unfolding special_arrays special_scalars spend_all asked loop over_keys first_assigned records_done evaluated all_evaluated stepped all_stepped mid_called texts_in all_texts stmt_texts stmts_texts code_of codes_of key_code kept_code argument_codes truncated_code applied_code step_code steps_code numeral_at sign_at fraction_at exponent_at numerator denominator digits unescaped escaped octal keywords builtins left_out_words table sign_of sorted all_sorted step_sorted steps_sorted
read_into_elements_sorted = refl

pub read_into_field_sorted : is_sorted (program_of (resolved scripts.read_into_field)) ≡ true
unfolding special_arrays special_scalars spend_all asked loop over_keys first_assigned records_done evaluated all_evaluated stepped all_stepped mid_called texts_in all_texts stmt_texts stmts_texts code_of codes_of key_code kept_code argument_codes truncated_code applied_code step_code steps_code numeral_at sign_at fraction_at exponent_at numerator denominator digits unescaped escaped octal keywords builtins left_out_words table sign_of sorted all_sorted step_sorted steps_sorted
read_into_field_sorted = refl

pub assignments_among_reads_sorted : is_sorted (program_of (resolved scripts.assignments_among_reads)) ≡ true
unfolding special_arrays special_scalars spend_all asked loop over_keys first_assigned records_done evaluated all_evaluated stepped all_stepped mid_called texts_in all_texts stmt_texts stmts_texts code_of codes_of key_code kept_code argument_codes truncated_code applied_code step_code steps_code numeral_at sign_at fraction_at exponent_at numerator denominator digits unescaped escaped octal keywords builtins left_out_words table sign_of sorted all_sorted step_sorted steps_sorted
assignments_among_reads_sorted = refl

pub assignment_in_a_call_sorted : is_sorted (program_of (resolved scripts.assignment_in_a_call)) ≡ true
unfolding special_arrays special_scalars spend_all asked loop over_keys first_assigned records_done evaluated all_evaluated stepped all_stepped mid_called texts_in all_texts stmt_texts stmts_texts code_of codes_of key_code kept_code argument_codes truncated_code applied_code step_code steps_code numeral_at sign_at fraction_at exponent_at numerator denominator digits unescaped escaped octal keywords builtins left_out_words table sign_of sorted all_sorted step_sorted steps_sorted
assignment_in_a_call_sorted = refl

pub all_replaced_in_record_sorted : is_sorted (program_of (resolved scripts.all_replaced_in_record)) ≡ true
unfolding special_arrays special_scalars spend_all asked loop over_keys first_assigned records_done evaluated all_evaluated stepped all_stepped mid_called texts_in all_texts stmt_texts stmts_texts code_of codes_of key_code kept_code argument_codes truncated_code applied_code step_code steps_code numeral_at sign_at fraction_at exponent_at numerator denominator digits unescaped escaped octal keywords builtins left_out_words table sign_of sorted all_sorted step_sorted steps_sorted
all_replaced_in_record_sorted = refl

pub arrays_through_calls_sorted : is_sorted (program_of (resolved scripts.arrays_through_calls)) ≡ true
unfolding special_arrays special_scalars spend_all asked loop over_keys first_assigned records_done evaluated all_evaluated stepped all_stepped mid_called texts_in all_texts stmt_texts stmts_texts code_of codes_of key_code kept_code argument_codes truncated_code applied_code step_code steps_code numeral_at sign_at fraction_at exponent_at numerator denominator digits unescaped escaped octal keywords builtins left_out_words table sign_of sorted all_sorted step_sorted steps_sorted
arrays_through_calls_sorted = refl

pub fresh_array_handed_on_sorted : is_sorted (program_of (resolved scripts.fresh_array_handed_on)) ≡ true
unfolding special_arrays special_scalars spend_all asked loop over_keys first_assigned records_done evaluated all_evaluated stepped all_stepped mid_called texts_in all_texts stmt_texts stmts_texts code_of codes_of key_code kept_code argument_codes truncated_code applied_code step_code steps_code numeral_at sign_at fraction_at exponent_at numerator denominator digits unescaped escaped octal keywords builtins left_out_words table sign_of sorted all_sorted step_sorted steps_sorted
fresh_array_handed_on_sorted = refl

pub next_in_a_pattern_sorted : is_sorted (program_of (resolved scripts.next_in_a_pattern)) ≡ true
unfolding special_arrays special_scalars spend_all asked loop over_keys first_assigned records_done evaluated all_evaluated stepped all_stepped mid_called texts_in all_texts stmt_texts stmts_texts code_of codes_of key_code kept_code argument_codes truncated_code applied_code step_code steps_code numeral_at sign_at fraction_at exponent_at numerator denominator digits unescaped escaped octal keywords builtins left_out_words table sign_of sorted all_sorted step_sorted steps_sorted
next_in_a_pattern_sorted = refl

pub next_in_end_sorted : is_sorted (program_of (resolved scripts.next_in_end)) ≡ true
unfolding special_arrays special_scalars spend_all asked loop over_keys first_assigned records_done evaluated all_evaluated stepped all_stepped mid_called texts_in all_texts stmt_texts stmts_texts code_of codes_of key_code kept_code argument_codes truncated_code applied_code step_code steps_code numeral_at sign_at fraction_at exponent_at numerator denominator digits unescaped escaped octal keywords builtins left_out_words table sign_of sorted all_sorted step_sorted steps_sorted
next_in_end_sorted = refl

pub status_below_zero_sorted : is_sorted (program_of (resolved scripts.status_below_zero)) ≡ true
unfolding special_arrays special_scalars spend_all asked loop over_keys first_assigned records_done evaluated all_evaluated stepped all_stepped mid_called texts_in all_texts stmt_texts stmts_texts code_of codes_of key_code kept_code argument_codes truncated_code applied_code step_code steps_code numeral_at sign_at fraction_at exponent_at numerator denominator digits unescaped escaped octal keywords builtins left_out_words table sign_of sorted all_sorted step_sorted steps_sorted
status_below_zero_sorted = refl

pub exit_before_records_sorted : is_sorted (program_of (resolved scripts.exit_before_records)) ≡ true
unfolding special_arrays special_scalars spend_all asked loop over_keys first_assigned records_done evaluated all_evaluated stepped all_stepped mid_called texts_in all_texts stmt_texts stmts_texts code_of codes_of key_code kept_code argument_codes truncated_code applied_code step_code steps_code numeral_at sign_at fraction_at exponent_at numerator denominator digits unescaped escaped octal keywords builtins left_out_words table sign_of sorted all_sorted step_sorted steps_sorted
exit_before_records_sorted = refl

pub exit_with_fraction_sorted : is_sorted (program_of (resolved scripts.exit_with_fraction)) ≡ true
unfolding special_arrays special_scalars spend_all asked loop over_keys first_assigned records_done evaluated all_evaluated stepped all_stepped mid_called texts_in all_texts stmt_texts stmts_texts code_of codes_of key_code kept_code argument_codes truncated_code applied_code step_code steps_code numeral_at sign_at fraction_at exponent_at numerator denominator digits unescaped escaped octal keywords builtins left_out_words table sign_of sorted all_sorted step_sorted steps_sorted
exit_with_fraction_sorted = refl

pub arguments_before_conversion_sorted : is_sorted (program_of (resolved scripts.arguments_before_conversion)) ≡ true
unfolding special_arrays special_scalars spend_all asked loop over_keys first_assigned records_done evaluated all_evaluated stepped all_stepped mid_called texts_in all_texts stmt_texts stmts_texts code_of codes_of key_code kept_code argument_codes truncated_code applied_code step_code steps_code numeral_at sign_at fraction_at exponent_at numerator denominator digits unescaped escaped octal keywords builtins left_out_words table sign_of sorted all_sorted step_sorted steps_sorted
arguments_before_conversion_sorted = refl

pub sign_converts_at_once_sorted : is_sorted (program_of (resolved scripts.sign_converts_at_once)) ≡ true
unfolding special_arrays special_scalars spend_all asked loop over_keys first_assigned records_done evaluated all_evaluated stepped all_stepped mid_called texts_in all_texts stmt_texts stmts_texts code_of codes_of key_code kept_code argument_codes truncated_code applied_code step_code steps_code numeral_at sign_at fraction_at exponent_at numerator denominator digits unescaped escaped octal keywords builtins left_out_words table sign_of sorted all_sorted step_sorted steps_sorted
sign_converts_at_once_sorted = refl

pub format_before_file_sorted : is_sorted (program_of (resolved scripts.format_before_file)) ≡ true
unfolding special_arrays special_scalars spend_all asked loop over_keys first_assigned records_done evaluated all_evaluated stepped all_stepped mid_called texts_in all_texts stmt_texts stmts_texts code_of codes_of key_code kept_code argument_codes truncated_code applied_code step_code steps_code numeral_at sign_at fraction_at exponent_at numerator denominator digits unescaped escaped octal keywords builtins left_out_words table sign_of sorted all_sorted step_sorted steps_sorted
format_before_file_sorted = refl

pub truncated_quotient_sorted : is_sorted (program_of (resolved scripts.truncated_quotient)) ≡ true
unfolding special_arrays special_scalars spend_all asked loop over_keys first_assigned records_done evaluated all_evaluated stepped all_stepped mid_called texts_in all_texts stmt_texts stmts_texts code_of codes_of key_code kept_code argument_codes truncated_code applied_code step_code steps_code numeral_at sign_at fraction_at exponent_at numerator denominator digits unescaped escaped octal keywords builtins left_out_words table sign_of sorted all_sorted step_sorted steps_sorted
truncated_quotient_sorted = refl

pub quotient_under_a_sign_sorted : is_sorted (program_of (resolved scripts.quotient_under_a_sign)) ≡ true
unfolding special_arrays special_scalars spend_all asked loop over_keys first_assigned records_done evaluated all_evaluated stepped all_stepped mid_called texts_in all_texts stmt_texts stmts_texts code_of codes_of key_code kept_code argument_codes truncated_code applied_code step_code steps_code numeral_at sign_at fraction_at exponent_at numerator denominator digits unescaped escaped octal keywords builtins left_out_words table sign_of sorted all_sorted step_sorted steps_sorted
quotient_under_a_sign_sorted = refl

pub read_as_a_test_sorted : is_sorted (program_of (resolved scripts.read_as_a_test)) ≡ true
unfolding special_arrays special_scalars spend_all asked loop over_keys first_assigned records_done evaluated all_evaluated stepped all_stepped mid_called texts_in all_texts stmt_texts stmts_texts code_of codes_of key_code kept_code argument_codes truncated_code applied_code step_code steps_code numeral_at sign_at fraction_at exponent_at numerator denominator digits unescaped escaped octal keywords builtins left_out_words table sign_of sorted all_sorted step_sorted steps_sorted
read_as_a_test_sorted = refl

pub do_without_turns_sorted : is_sorted (program_of (resolved scripts.do_without_turns)) ≡ true
unfolding special_arrays special_scalars spend_all asked loop over_keys first_assigned records_done evaluated all_evaluated stepped all_stepped mid_called texts_in all_texts stmt_texts stmts_texts code_of codes_of key_code kept_code argument_codes truncated_code applied_code step_code steps_code numeral_at sign_at fraction_at exponent_at numerator denominator digits unescaped escaped octal keywords builtins left_out_words table sign_of sorted all_sorted step_sorted steps_sorted
do_without_turns_sorted = refl

pub call_without_turns_sorted : is_sorted (program_of (resolved scripts.call_without_turns)) ≡ true
unfolding special_arrays special_scalars spend_all asked loop over_keys first_assigned records_done evaluated all_evaluated stepped all_stepped mid_called texts_in all_texts stmt_texts stmts_texts code_of codes_of key_code kept_code argument_codes truncated_code applied_code step_code steps_code numeral_at sign_at fraction_at exponent_at numerator denominator digits unescaped escaped octal keywords builtins left_out_words table sign_of sorted all_sorted step_sorted steps_sorted
call_without_turns_sorted = refl

pub keys_and_turns_sorted : is_sorted (program_of (resolved scripts.keys_and_turns)) ≡ true
unfolding special_arrays special_scalars spend_all asked loop over_keys first_assigned records_done evaluated all_evaluated stepped all_stepped mid_called texts_in all_texts stmt_texts stmts_texts code_of codes_of key_code kept_code argument_codes truncated_code applied_code step_code steps_code numeral_at sign_at fraction_at exponent_at numerator denominator digits unescaped escaped octal keywords builtins left_out_words table sign_of sorted all_sorted step_sorted steps_sorted
keys_and_turns_sorted = refl

pub records_and_turns_sorted : is_sorted (program_of (resolved scripts.records_and_turns)) ≡ true
unfolding special_arrays special_scalars spend_all asked loop over_keys first_assigned records_done evaluated all_evaluated stepped all_stepped mid_called texts_in all_texts stmt_texts stmts_texts code_of codes_of key_code kept_code argument_codes truncated_code applied_code step_code steps_code numeral_at sign_at fraction_at exponent_at numerator denominator digits unescaped escaped octal keywords builtins left_out_words table sign_of sorted all_sorted step_sorted steps_sorted
records_and_turns_sorted = refl

pub turn_for_each_record_sorted : is_sorted (program_of (resolved scripts.turn_for_each_record)) ≡ true
unfolding special_arrays special_scalars spend_all asked loop over_keys first_assigned records_done evaluated all_evaluated stepped all_stepped mid_called texts_in all_texts stmt_texts stmts_texts code_of codes_of key_code kept_code argument_codes truncated_code applied_code step_code steps_code numeral_at sign_at fraction_at exponent_at numerator denominator digits unescaped escaped octal keywords builtins left_out_words table sign_of sorted all_sorted step_sorted steps_sorted
turn_for_each_record_sorted = refl

pub assignment_without_turns_sorted : is_sorted (program_of (resolved scripts.assignment_without_turns)) ≡ true
unfolding special_arrays special_scalars spend_all asked loop over_keys first_assigned records_done evaluated all_evaluated stepped all_stepped mid_called texts_in all_texts stmt_texts stmts_texts code_of codes_of key_code kept_code argument_codes truncated_code applied_code step_code steps_code numeral_at sign_at fraction_at exponent_at numerator denominator digits unescaped escaped octal keywords builtins left_out_words table sign_of sorted all_sorted step_sorted steps_sorted
assignment_without_turns_sorted = refl

pub special_assigned_without_turns_sorted : is_sorted (program_of (resolved scripts.special_assigned_without_turns)) ≡ true
unfolding special_arrays special_scalars spend_all asked loop over_keys first_assigned records_done evaluated all_evaluated stepped all_stepped mid_called texts_in all_texts stmt_texts stmts_texts code_of codes_of key_code kept_code argument_codes truncated_code applied_code step_code steps_code numeral_at sign_at fraction_at exponent_at numerator denominator digits unescaped escaped octal keywords builtins left_out_words table sign_of sorted all_sorted step_sorted steps_sorted
special_assigned_without_turns_sorted = refl

pub unused_name_without_turns_sorted : is_sorted (program_of (resolved scripts.unused_name_without_turns)) ≡ true
unfolding special_arrays special_scalars spend_all asked loop over_keys first_assigned records_done evaluated all_evaluated stepped all_stepped mid_called texts_in all_texts stmt_texts stmts_texts code_of codes_of key_code kept_code argument_codes truncated_code applied_code step_code steps_code numeral_at sign_at fraction_at exponent_at numerator denominator digits unescaped escaped octal keywords builtins left_out_words table sign_of sorted all_sorted step_sorted steps_sorted
unused_name_without_turns_sorted = refl

pub turn_for_each_assignment_sorted : is_sorted (program_of (resolved scripts.turn_for_each_assignment)) ≡ true
unfolding special_arrays special_scalars spend_all asked loop over_keys first_assigned records_done evaluated all_evaluated stepped all_stepped mid_called texts_in all_texts stmt_texts stmts_texts code_of codes_of key_code kept_code argument_codes truncated_code applied_code step_code steps_code numeral_at sign_at fraction_at exponent_at numerator denominator digits unescaped escaped octal keywords builtins left_out_words table sign_of sorted all_sorted step_sorted steps_sorted
turn_for_each_assignment_sorted = refl

pub too_few_turns_for_assignments_sorted : is_sorted (program_of (resolved scripts.too_few_turns_for_assignments)) ≡ true
unfolding special_arrays special_scalars spend_all asked loop over_keys first_assigned records_done evaluated all_evaluated stepped all_stepped mid_called texts_in all_texts stmt_texts stmts_texts code_of codes_of key_code kept_code argument_codes truncated_code applied_code step_code steps_code numeral_at sign_at fraction_at exponent_at numerator denominator digits unescaped escaped octal keywords builtins left_out_words table sign_of sorted all_sorted step_sorted steps_sorted
too_few_turns_for_assignments_sorted = refl

pub bad_assignment_not_reached_sorted : is_sorted (program_of (resolved scripts.bad_assignment_not_reached)) ≡ true
unfolding special_arrays special_scalars spend_all asked loop over_keys first_assigned records_done evaluated all_evaluated stepped all_stepped mid_called texts_in all_texts stmt_texts stmts_texts code_of codes_of key_code kept_code argument_codes truncated_code applied_code step_code steps_code numeral_at sign_at fraction_at exponent_at numerator denominator digits unescaped escaped octal keywords builtins left_out_words table sign_of sorted all_sorted step_sorted steps_sorted
bad_assignment_not_reached_sorted = refl

pub bad_assignment_reached_sorted : is_sorted (program_of (resolved scripts.bad_assignment_reached)) ≡ true
unfolding special_arrays special_scalars spend_all asked loop over_keys first_assigned records_done evaluated all_evaluated stepped all_stepped mid_called texts_in all_texts stmt_texts stmts_texts code_of codes_of key_code kept_code argument_codes truncated_code applied_code step_code steps_code numeral_at sign_at fraction_at exponent_at numerator denominator digits unescaped escaped octal keywords builtins left_out_words table sign_of sorted all_sorted step_sorted steps_sorted
bad_assignment_reached_sorted = refl

pub operand_without_turns_sorted : is_sorted (program_of (resolved scripts.operand_without_turns)) ≡ true
unfolding special_arrays special_scalars spend_all asked loop over_keys first_assigned records_done evaluated all_evaluated stepped all_stepped mid_called texts_in all_texts stmt_texts stmts_texts code_of codes_of key_code kept_code argument_codes truncated_code applied_code step_code steps_code numeral_at sign_at fraction_at exponent_at numerator denominator digits unescaped escaped octal keywords builtins left_out_words table sign_of sorted all_sorted step_sorted steps_sorted
operand_without_turns_sorted = refl

pub turns_of_operands_sorted : is_sorted (program_of (resolved scripts.turns_of_operands)) ≡ true
unfolding special_arrays special_scalars spend_all asked loop over_keys first_assigned records_done evaluated all_evaluated stepped all_stepped mid_called texts_in all_texts stmt_texts stmts_texts code_of codes_of key_code kept_code argument_codes truncated_code applied_code step_code steps_code numeral_at sign_at fraction_at exponent_at numerator denominator digits unescaped escaped octal keywords builtins left_out_words table sign_of sorted all_sorted step_sorted steps_sorted
turns_of_operands_sorted = refl

pub turns_of_getline_sorted : is_sorted (program_of (resolved scripts.turns_of_getline)) ≡ true
unfolding special_arrays special_scalars spend_all asked loop over_keys first_assigned records_done evaluated all_evaluated stepped all_stepped mid_called texts_in all_texts stmt_texts stmts_texts code_of codes_of key_code kept_code argument_codes truncated_code applied_code step_code steps_code numeral_at sign_at fraction_at exponent_at numerator denominator digits unescaped escaped octal keywords builtins left_out_words table sign_of sorted all_sorted step_sorted steps_sorted
turns_of_getline_sorted = refl

pub argc_read_at_the_end_sorted : is_sorted (program_of (resolved scripts.argc_read_at_the_end)) ≡ true
unfolding special_arrays special_scalars spend_all asked loop over_keys first_assigned records_done evaluated all_evaluated stepped all_stepped mid_called texts_in all_texts stmt_texts stmts_texts code_of codes_of key_code kept_code argument_codes truncated_code applied_code step_code steps_code numeral_at sign_at fraction_at exponent_at numerator denominator digits unescaped escaped octal keywords builtins left_out_words table sign_of sorted all_sorted step_sorted steps_sorted
argc_read_at_the_end_sorted = refl

pub argc_read_after_a_file_sorted : is_sorted (program_of (resolved scripts.argc_read_after_a_file)) ≡ true
unfolding special_arrays special_scalars spend_all asked loop over_keys first_assigned records_done evaluated all_evaluated stepped all_stepped mid_called texts_in all_texts stmt_texts stmts_texts code_of codes_of key_code kept_code argument_codes truncated_code applied_code step_code steps_code numeral_at sign_at fraction_at exponent_at numerator denominator digits unescaped escaped octal keywords builtins left_out_words table sign_of sorted all_sorted step_sorted steps_sorted
argc_read_after_a_file_sorted = refl

pub argc_hides_an_operand_sorted : is_sorted (program_of (resolved scripts.argc_hides_an_operand)) ≡ true
unfolding special_arrays special_scalars spend_all asked loop over_keys first_assigned records_done evaluated all_evaluated stepped all_stepped mid_called texts_in all_texts stmt_texts stmts_texts code_of codes_of key_code kept_code argument_codes truncated_code applied_code step_code steps_code numeral_at sign_at fraction_at exponent_at numerator denominator digits unescaped escaped octal keywords builtins left_out_words table sign_of sorted all_sorted step_sorted steps_sorted
argc_hides_an_operand_sorted = refl

pub argc_from_an_operand_sorted : is_sorted (program_of (resolved scripts.argc_from_an_operand)) ≡ true
unfolding special_arrays special_scalars spend_all asked loop over_keys first_assigned records_done evaluated all_evaluated stepped all_stepped mid_called texts_in all_texts stmt_texts stmts_texts code_of codes_of key_code kept_code argument_codes truncated_code applied_code step_code steps_code numeral_at sign_at fraction_at exponent_at numerator denominator digits unescaped escaped octal keywords builtins left_out_words table sign_of sorted all_sorted step_sorted steps_sorted
argc_from_an_operand_sorted = refl

pub names_and_counts_sorted : is_sorted (program_of (resolved scripts.names_and_counts)) ≡ true
unfolding special_arrays special_scalars spend_all asked loop over_keys first_assigned records_done evaluated all_evaluated stepped all_stepped mid_called texts_in all_texts stmt_texts stmts_texts code_of codes_of key_code kept_code argument_codes truncated_code applied_code step_code steps_code numeral_at sign_at fraction_at exponent_at numerator denominator digits unescaped escaped octal keywords builtins left_out_words table sign_of sorted all_sorted step_sorted steps_sorted
names_and_counts_sorted = refl

pub absent_file_passed_over_sorted : is_sorted (program_of (resolved scripts.absent_file_passed_over)) ≡ true
unfolding special_arrays special_scalars spend_all asked loop over_keys first_assigned records_done evaluated all_evaluated stepped all_stepped mid_called texts_in all_texts stmt_texts stmts_texts code_of codes_of key_code kept_code argument_codes truncated_code applied_code step_code steps_code numeral_at sign_at fraction_at exponent_at numerator denominator digits unescaped escaped octal keywords builtins left_out_words table sign_of sorted all_sorted step_sorted steps_sorted
absent_file_passed_over_sorted = refl

pub failing_main_input_sorted : is_sorted (program_of (resolved scripts.failing_main_input)) ≡ true
unfolding special_arrays special_scalars spend_all asked loop over_keys first_assigned records_done evaluated all_evaluated stepped all_stepped mid_called texts_in all_texts stmt_texts stmts_texts code_of codes_of key_code kept_code argument_codes truncated_code applied_code step_code steps_code numeral_at sign_at fraction_at exponent_at numerator denominator digits unescaped escaped octal keywords builtins left_out_words table sign_of sorted all_sorted step_sorted steps_sorted
failing_main_input_sorted = refl

pub specials_among_operands_sorted : is_sorted (program_of (resolved scripts.specials_among_operands)) ≡ true
unfolding special_arrays special_scalars spend_all asked loop over_keys first_assigned records_done evaluated all_evaluated stepped all_stepped mid_called texts_in all_texts stmt_texts stmts_texts code_of codes_of key_code kept_code argument_codes truncated_code applied_code step_code steps_code numeral_at sign_at fraction_at exponent_at numerator denominator digits unescaped escaped octal keywords builtins left_out_words table sign_of sorted all_sorted step_sorted steps_sorted
specials_among_operands_sorted = refl

pub counts_assigned_sorted : is_sorted (program_of (resolved scripts.counts_assigned)) ≡ true
unfolding special_arrays special_scalars spend_all asked loop over_keys first_assigned records_done evaluated all_evaluated stepped all_stepped mid_called texts_in all_texts stmt_texts stmts_texts code_of codes_of key_code kept_code argument_codes truncated_code applied_code step_code steps_code numeral_at sign_at fraction_at exponent_at numerator denominator digits unescaped escaped octal keywords builtins left_out_words table sign_of sorted all_sorted step_sorted steps_sorted
counts_assigned_sorted = refl

pub input_stays_ended_sorted : is_sorted (program_of (resolved scripts.input_stays_ended)) ≡ true
unfolding special_arrays special_scalars spend_all asked loop over_keys first_assigned records_done evaluated all_evaluated stepped all_stepped mid_called texts_in all_texts stmt_texts stmts_texts code_of codes_of key_code kept_code argument_codes truncated_code applied_code step_code steps_code numeral_at sign_at fraction_at exponent_at numerator denominator digits unescaped escaped octal keywords builtins left_out_words table sign_of sorted all_sorted step_sorted steps_sorted
input_stays_ended_sorted = refl

pub operand_from_a_number_sorted : is_sorted (program_of (resolved scripts.operand_from_a_number)) ≡ true
unfolding special_arrays special_scalars spend_all asked loop over_keys first_assigned records_done evaluated all_evaluated stepped all_stepped mid_called texts_in all_texts stmt_texts stmts_texts code_of codes_of key_code kept_code argument_codes truncated_code applied_code step_code steps_code numeral_at sign_at fraction_at exponent_at numerator denominator digits unescaped escaped octal keywords builtins left_out_words table sign_of sorted all_sorted step_sorted steps_sorted
operand_from_a_number_sorted = refl

pub record_kept_in_end_sorted : is_sorted (program_of (resolved scripts.record_kept_in_end)) ≡ true
unfolding special_arrays special_scalars spend_all asked loop over_keys first_assigned records_done evaluated all_evaluated stepped all_stepped mid_called texts_in all_texts stmt_texts stmts_texts code_of codes_of key_code kept_code argument_codes truncated_code applied_code step_code steps_code numeral_at sign_at fraction_at exponent_at numerator denominator digits unescaped escaped octal keywords builtins left_out_words table sign_of sorted all_sorted step_sorted steps_sorted
record_kept_in_end_sorted = refl

pub failing_after_paragraph_sorted : is_sorted (program_of (resolved scripts.failing_after_paragraph)) ≡ true
unfolding special_arrays special_scalars spend_all asked loop over_keys first_assigned records_done evaluated all_evaluated stepped all_stepped mid_called texts_in all_texts stmt_texts stmts_texts code_of codes_of key_code kept_code argument_codes truncated_code applied_code step_code steps_code numeral_at sign_at fraction_at exponent_at numerator denominator digits unescaped escaped octal keywords builtins left_out_words table sign_of sorted all_sorted step_sorted steps_sorted
failing_after_paragraph_sorted = refl

pub hyphen_is_a_file_for_getline_sorted : is_sorted (program_of (resolved scripts.hyphen_is_a_file_for_getline)) ≡ true
unfolding special_arrays special_scalars spend_all asked loop over_keys first_assigned records_done evaluated all_evaluated stepped all_stepped mid_called texts_in all_texts stmt_texts stmts_texts code_of codes_of key_code kept_code argument_codes truncated_code applied_code step_code steps_code numeral_at sign_at fraction_at exponent_at numerator denominator digits unescaped escaped octal keywords builtins left_out_words table sign_of sorted all_sorted step_sorted steps_sorted
hyphen_is_a_file_for_getline_sorted = refl

pub number_as_separator_sorted : is_sorted (program_of (resolved scripts.number_as_separator)) ≡ true
unfolding special_arrays special_scalars spend_all asked loop over_keys first_assigned records_done evaluated all_evaluated stepped all_stepped mid_called texts_in all_texts stmt_texts stmts_texts code_of codes_of key_code kept_code argument_codes truncated_code applied_code step_code steps_code numeral_at sign_at fraction_at exponent_at numerator denominator digits unescaped escaped octal keywords builtins left_out_words table sign_of sorted all_sorted step_sorted steps_sorted
number_as_separator_sorted = refl

pub failing_empty_file_sorted : is_sorted (program_of (resolved scripts.failing_empty_file)) ≡ true
unfolding special_arrays special_scalars spend_all asked loop over_keys first_assigned records_done evaluated all_evaluated stepped all_stepped mid_called texts_in all_texts stmt_texts stmts_texts code_of codes_of key_code kept_code argument_codes truncated_code applied_code step_code steps_code numeral_at sign_at fraction_at exponent_at numerator denominator digits unescaped escaped octal keywords builtins left_out_words table sign_of sorted all_sorted step_sorted steps_sorted
failing_empty_file_sorted = refl

pub written_then_read_sorted : is_sorted (program_of (resolved scripts.written_then_read)) ≡ true
unfolding special_arrays special_scalars spend_all asked loop over_keys first_assigned records_done evaluated all_evaluated stepped all_stepped mid_called texts_in all_texts stmt_texts stmts_texts code_of codes_of key_code kept_code argument_codes truncated_code applied_code step_code steps_code numeral_at sign_at fraction_at exponent_at numerator denominator digits unescaped escaped octal keywords builtins left_out_words table sign_of sorted all_sorted step_sorted steps_sorted
written_then_read_sorted = refl

pub appended_past_room_sorted : is_sorted (program_of (resolved scripts.appended_past_room)) ≡ true
unfolding special_arrays special_scalars spend_all asked loop over_keys first_assigned records_done evaluated all_evaluated stepped all_stepped mid_called texts_in all_texts stmt_texts stmts_texts code_of codes_of key_code kept_code argument_codes truncated_code applied_code step_code steps_code numeral_at sign_at fraction_at exponent_at numerator denominator digits unescaped escaped octal keywords builtins left_out_words table sign_of sorted all_sorted step_sorted steps_sorted
appended_past_room_sorted = refl

pub emptied_then_past_room_sorted : is_sorted (program_of (resolved scripts.emptied_then_past_room)) ≡ true
unfolding special_arrays special_scalars spend_all asked loop over_keys first_assigned records_done evaluated all_evaluated stepped all_stepped mid_called texts_in all_texts stmt_texts stmts_texts code_of codes_of key_code kept_code argument_codes truncated_code applied_code step_code steps_code numeral_at sign_at fraction_at exponent_at numerator denominator digits unescaped escaped octal keywords builtins left_out_words table sign_of sorted all_sorted step_sorted steps_sorted
emptied_then_past_room_sorted = refl

pub uninitialised_field_sorted : is_sorted (program_of (resolved scripts.uninitialised_field)) ≡ true
unfolding special_arrays special_scalars spend_all asked loop over_keys first_assigned records_done evaluated all_evaluated stepped all_stepped mid_called texts_in all_texts stmt_texts stmts_texts code_of codes_of key_code kept_code argument_codes truncated_code applied_code step_code steps_code numeral_at sign_at fraction_at exponent_at numerator denominator digits unescaped escaped octal keywords builtins left_out_words table sign_of sorted all_sorted step_sorted steps_sorted
uninitialised_field_sorted = refl

pub count_lowered_and_raised_sorted : is_sorted (program_of (resolved scripts.count_lowered_and_raised)) ≡ true
unfolding special_arrays special_scalars spend_all asked loop over_keys first_assigned records_done evaluated all_evaluated stepped all_stepped mid_called texts_in all_texts stmt_texts stmts_texts code_of codes_of key_code kept_code argument_codes truncated_code applied_code step_code steps_code numeral_at sign_at fraction_at exponent_at numerator denominator digits unescaped escaped octal keywords builtins left_out_words table sign_of sorted all_sorted step_sorted steps_sorted
count_lowered_and_raised_sorted = refl

pub count_on_command_line_sorted : is_sorted (program_of (resolved scripts.count_on_command_line)) ≡ true
unfolding special_arrays special_scalars spend_all asked loop over_keys first_assigned records_done evaluated all_evaluated stepped all_stepped mid_called texts_in all_texts stmt_texts stmts_texts code_of codes_of key_code kept_code argument_codes truncated_code applied_code step_code steps_code numeral_at sign_at fraction_at exponent_at numerator denominator digits unescaped escaped octal keywords builtins left_out_words table sign_of sorted all_sorted step_sorted steps_sorted
count_on_command_line_sorted = refl

pub count_below_zero_on_command_line_sorted : is_sorted (program_of (resolved scripts.count_below_zero_on_command_line)) ≡ true
unfolding special_arrays special_scalars spend_all asked loop over_keys first_assigned records_done evaluated all_evaluated stepped all_stepped mid_called texts_in all_texts stmt_texts stmts_texts code_of codes_of key_code kept_code argument_codes truncated_code applied_code step_code steps_code numeral_at sign_at fraction_at exponent_at numerator denominator digits unescaped escaped octal keywords builtins left_out_words table sign_of sorted all_sorted step_sorted steps_sorted
count_below_zero_on_command_line_sorted = refl

pub rebuilt_with_separator_sorted : is_sorted (program_of (resolved scripts.rebuilt_with_separator)) ≡ true
unfolding special_arrays special_scalars spend_all asked loop over_keys first_assigned records_done evaluated all_evaluated stepped all_stepped mid_called texts_in all_texts stmt_texts stmts_texts code_of codes_of key_code kept_code argument_codes truncated_code applied_code step_code steps_code numeral_at sign_at fraction_at exponent_at numerator denominator digits unescaped escaped octal keywords builtins left_out_words table sign_of sorted all_sorted step_sorted steps_sorted
rebuilt_with_separator_sorted = refl

pub separator_without_value_sorted : is_sorted (program_of (resolved scripts.separator_without_value)) ≡ true
unfolding special_arrays special_scalars spend_all asked loop over_keys first_assigned records_done evaluated all_evaluated stepped all_stepped mid_called texts_in all_texts stmt_texts stmts_texts code_of codes_of key_code kept_code argument_codes truncated_code applied_code step_code steps_code numeral_at sign_at fraction_at exponent_at numerator denominator digits unescaped escaped octal keywords builtins left_out_words table sign_of sorted all_sorted step_sorted steps_sorted
separator_without_value_sorted = refl

pub tab_and_newline_sorted : is_sorted (program_of (resolved scripts.tab_and_newline)) ≡ true
unfolding special_arrays special_scalars spend_all asked loop over_keys first_assigned records_done evaluated all_evaluated stepped all_stepped mid_called texts_in all_texts stmt_texts stmts_texts code_of codes_of key_code kept_code argument_codes truncated_code applied_code step_code steps_code numeral_at sign_at fraction_at exponent_at numerator denominator digits unescaped escaped octal keywords builtins left_out_words table sign_of sorted all_sorted step_sorted steps_sorted
tab_and_newline_sorted = refl

pub expression_and_newline_sorted : is_sorted (program_of (resolved scripts.expression_and_newline)) ≡ true
unfolding special_arrays special_scalars spend_all asked loop over_keys first_assigned records_done evaluated all_evaluated stepped all_stepped mid_called texts_in all_texts stmt_texts stmts_texts code_of codes_of key_code kept_code argument_codes truncated_code applied_code step_code steps_code numeral_at sign_at fraction_at exponent_at numerator denominator digits unescaped escaped octal keywords builtins left_out_words table sign_of sorted all_sorted step_sorted steps_sorted
expression_and_newline_sorted = refl

pub split_ignores_newline_sorted : is_sorted (program_of (resolved scripts.split_ignores_newline)) ≡ true
unfolding special_arrays special_scalars spend_all asked loop over_keys first_assigned records_done evaluated all_evaluated stepped all_stepped mid_called texts_in all_texts stmt_texts stmts_texts code_of codes_of key_code kept_code argument_codes truncated_code applied_code step_code steps_code numeral_at sign_at fraction_at exponent_at numerator denominator digits unescaped escaped octal keywords builtins left_out_words table sign_of sorted all_sorted step_sorted steps_sorted
split_ignores_newline_sorted = refl

pub split_of_its_own_element_sorted : is_sorted (program_of (resolved scripts.split_of_its_own_element)) ≡ true
unfolding special_arrays special_scalars spend_all asked loop over_keys first_assigned records_done evaluated all_evaluated stepped all_stepped mid_called texts_in all_texts stmt_texts stmts_texts code_of codes_of key_code kept_code argument_codes truncated_code applied_code step_code steps_code numeral_at sign_at fraction_at exponent_at numerator denominator digits unescaped escaped octal keywords builtins left_out_words table sign_of sorted all_sorted step_sorted steps_sorted
split_of_its_own_element_sorted = refl

pub bad_separator_unused_sorted : is_sorted (program_of (resolved scripts.bad_separator_unused)) ≡ true
unfolding special_arrays special_scalars spend_all asked loop over_keys first_assigned records_done evaluated all_evaluated stepped all_stepped mid_called texts_in all_texts stmt_texts stmts_texts code_of codes_of key_code kept_code argument_codes truncated_code applied_code step_code steps_code numeral_at sign_at fraction_at exponent_at numerator denominator digits unescaped escaped octal keywords builtins left_out_words table sign_of sorted all_sorted step_sorted steps_sorted
bad_separator_unused_sorted = refl

pub empty_match_at_the_end_sorted : is_sorted (program_of (resolved scripts.empty_match_at_the_end)) ≡ true
unfolding special_arrays special_scalars spend_all asked loop over_keys first_assigned records_done evaluated all_evaluated stepped all_stepped mid_called texts_in all_texts stmt_texts stmts_texts code_of codes_of key_code kept_code argument_codes truncated_code applied_code step_code steps_code numeral_at sign_at fraction_at exponent_at numerator denominator digits unescaped escaped octal keywords builtins left_out_words table sign_of sorted all_sorted step_sorted steps_sorted
empty_match_at_the_end_sorted = refl

pub matches_that_are_empty_sorted : is_sorted (program_of (resolved scripts.matches_that_are_empty)) ≡ true
unfolding special_arrays special_scalars spend_all asked loop over_keys first_assigned records_done evaluated all_evaluated stepped all_stepped mid_called texts_in all_texts stmt_texts stmts_texts code_of codes_of key_code kept_code argument_codes truncated_code applied_code step_code steps_code numeral_at sign_at fraction_at exponent_at numerator denominator digits unescaped escaped octal keywords builtins left_out_words table sign_of sorted all_sorted step_sorted steps_sorted
matches_that_are_empty_sorted = refl

pub parts_far_out_sorted : is_sorted (program_of (resolved scripts.parts_far_out)) ≡ true
unfolding special_arrays special_scalars spend_all asked loop over_keys first_assigned records_done evaluated all_evaluated stepped all_stepped mid_called texts_in all_texts stmt_texts stmts_texts code_of codes_of key_code kept_code argument_codes truncated_code applied_code step_code steps_code numeral_at sign_at fraction_at exponent_at numerator denominator digits unescaped escaped octal keywords builtins left_out_words table sign_of sorted all_sorted step_sorted steps_sorted
parts_far_out_sorted = refl

pub formats_of_numbers_sorted : is_sorted (program_of (resolved scripts.formats_of_numbers)) ≡ true
unfolding special_arrays special_scalars spend_all asked loop over_keys first_assigned records_done evaluated all_evaluated stepped all_stepped mid_called texts_in all_texts stmt_texts stmts_texts code_of codes_of key_code kept_code argument_codes truncated_code applied_code step_code steps_code numeral_at sign_at fraction_at exponent_at numerator denominator digits unescaped escaped octal keywords builtins left_out_words table sign_of sorted all_sorted step_sorted steps_sorted
formats_of_numbers_sorted = refl

pub range_before_format_sorted : is_sorted (program_of (resolved scripts.range_before_format)) ≡ true
unfolding special_arrays special_scalars spend_all asked loop over_keys first_assigned records_done evaluated all_evaluated stepped all_stepped mid_called texts_in all_texts stmt_texts stmts_texts code_of codes_of key_code kept_code argument_codes truncated_code applied_code step_code steps_code numeral_at sign_at fraction_at exponent_at numerator denominator digits unescaped escaped octal keywords builtins left_out_words table sign_of sorted all_sorted step_sorted steps_sorted
range_before_format_sorted = refl

pub misplaced_flag_sorted : is_sorted (program_of (resolved scripts.misplaced_flag)) ≡ true
unfolding special_arrays special_scalars spend_all asked loop over_keys first_assigned records_done evaluated all_evaluated stepped all_stepped mid_called texts_in all_texts stmt_texts stmts_texts code_of codes_of key_code kept_code argument_codes truncated_code applied_code step_code steps_code numeral_at sign_at fraction_at exponent_at numerator denominator digits unescaped escaped octal keywords builtins left_out_words table sign_of sorted all_sorted step_sorted steps_sorted
misplaced_flag_sorted = refl

pub bytes_formatted_sorted : is_sorted (program_of (resolved scripts.bytes_formatted)) ≡ true
unfolding special_arrays special_scalars spend_all asked loop over_keys first_assigned records_done evaluated all_evaluated stepped all_stepped mid_called texts_in all_texts stmt_texts stmts_texts code_of codes_of key_code kept_code argument_codes truncated_code applied_code step_code steps_code numeral_at sign_at fraction_at exponent_at numerator denominator digits unescaped escaped octal keywords builtins left_out_words table sign_of sorted all_sorted step_sorted steps_sorted
bytes_formatted_sorted = refl

pub unused_first_sorted : is_sorted (program_of (resolved scripts.unused_first)) ≡ true
unfolding special_arrays special_scalars spend_all asked loop over_keys first_assigned records_done evaluated all_evaluated stepped all_stepped mid_called texts_in all_texts stmt_texts stmts_texts code_of codes_of key_code kept_code argument_codes truncated_code applied_code step_code steps_code numeral_at sign_at fraction_at exponent_at numerator denominator digits unescaped escaped octal keywords builtins left_out_words table sign_of sorted all_sorted step_sorted steps_sorted
unused_first_sorted = refl

pub keys_deleted_on_the_way_sorted : is_sorted (program_of (resolved scripts.keys_deleted_on_the_way)) ≡ true
unfolding special_arrays special_scalars spend_all asked loop over_keys first_assigned records_done evaluated all_evaluated stepped all_stepped mid_called texts_in all_texts stmt_texts stmts_texts code_of codes_of key_code kept_code argument_codes truncated_code applied_code step_code steps_code numeral_at sign_at fraction_at exponent_at numerator denominator digits unescaped escaped octal keywords builtins left_out_words table sign_of sorted all_sorted step_sorted steps_sorted
keys_deleted_on_the_way_sorted = refl

pub do_while_counts_sorted : is_sorted (program_of (resolved scripts.do_while_counts)) ≡ true
unfolding special_arrays special_scalars spend_all asked loop over_keys first_assigned records_done evaluated all_evaluated stepped all_stepped mid_called texts_in all_texts stmt_texts stmts_texts code_of codes_of key_code kept_code argument_codes truncated_code applied_code step_code steps_code numeral_at sign_at fraction_at exponent_at numerator denominator digits unescaped escaped octal keywords builtins left_out_words table sign_of sorted all_sorted step_sorted steps_sorted
do_while_counts_sorted = refl

pub fraction_from_command_line_sorted : is_sorted (program_of (resolved scripts.fraction_from_command_line)) ≡ true
unfolding special_arrays special_scalars spend_all asked loop over_keys first_assigned records_done evaluated all_evaluated stepped all_stepped mid_called texts_in all_texts stmt_texts stmts_texts code_of codes_of key_code kept_code argument_codes truncated_code applied_code step_code steps_code numeral_at sign_at fraction_at exponent_at numerator denominator digits unescaped escaped octal keywords builtins left_out_words table sign_of sorted all_sorted step_sorted steps_sorted
fraction_from_command_line_sorted = refl

pub count_across_an_assignment_sorted : is_sorted (program_of (resolved scripts.count_across_an_assignment)) ≡ true
unfolding special_arrays special_scalars spend_all asked loop over_keys first_assigned records_done evaluated all_evaluated stepped all_stepped mid_called texts_in all_texts stmt_texts stmts_texts code_of codes_of key_code kept_code argument_codes truncated_code applied_code step_code steps_code numeral_at sign_at fraction_at exponent_at numerator denominator digits unescaped escaped octal keywords builtins left_out_words table sign_of sorted all_sorted step_sorted steps_sorted
count_across_an_assignment_sorted = refl

pub fault_not_reached_sorted : is_sorted (program_of (resolved scripts.fault_not_reached)) ≡ true
unfolding special_arrays special_scalars spend_all asked loop over_keys first_assigned records_done evaluated all_evaluated stepped all_stepped mid_called texts_in all_texts stmt_texts stmts_texts code_of codes_of key_code kept_code argument_codes truncated_code applied_code step_code steps_code numeral_at sign_at fraction_at exponent_at numerator denominator digits unescaped escaped octal keywords builtins left_out_words table sign_of sorted all_sorted step_sorted steps_sorted
fault_not_reached_sorted = refl

pub step_past_range_sorted : is_sorted (program_of (resolved scripts.step_past_range)) ≡ true
unfolding special_arrays special_scalars spend_all asked loop over_keys first_assigned records_done evaluated all_evaluated stepped all_stepped mid_called texts_in all_texts stmt_texts stmts_texts code_of codes_of key_code kept_code argument_codes truncated_code applied_code step_code steps_code numeral_at sign_at fraction_at exponent_at numerator denominator digits unescaped escaped octal keywords builtins left_out_words table sign_of sorted all_sorted step_sorted steps_sorted
step_past_range_sorted = refl

pub loop_on_numbers_sorted : is_sorted (program_of (resolved scripts.loop_on_numbers)) ≡ true
unfolding special_arrays special_scalars spend_all asked loop over_keys first_assigned records_done evaluated all_evaluated stepped all_stepped mid_called texts_in all_texts stmt_texts stmts_texts code_of codes_of key_code kept_code argument_codes truncated_code applied_code step_code steps_code numeral_at sign_at fraction_at exponent_at numerator denominator digits unescaped escaped octal keywords builtins left_out_words table sign_of sorted all_sorted step_sorted steps_sorted
loop_on_numbers_sorted = refl

pub turns_just_enough_sorted : is_sorted (program_of (resolved scripts.turns_just_enough)) ≡ true
unfolding special_arrays special_scalars spend_all asked loop over_keys first_assigned records_done evaluated all_evaluated stepped all_stepped mid_called texts_in all_texts stmt_texts stmts_texts code_of codes_of key_code kept_code argument_codes truncated_code applied_code step_code steps_code numeral_at sign_at fraction_at exponent_at numerator denominator digits unescaped escaped octal keywords builtins left_out_words table sign_of sorted all_sorted step_sorted steps_sorted
turns_just_enough_sorted = refl

pub one_turn_too_few_sorted : is_sorted (program_of (resolved scripts.one_turn_too_few)) ≡ true
unfolding special_arrays special_scalars spend_all asked loop over_keys first_assigned records_done evaluated all_evaluated stepped all_stepped mid_called texts_in all_texts stmt_texts stmts_texts code_of codes_of key_code kept_code argument_codes truncated_code applied_code step_code steps_code numeral_at sign_at fraction_at exponent_at numerator denominator digits unescaped escaped octal keywords builtins left_out_words table sign_of sorted all_sorted step_sorted steps_sorted
one_turn_too_few_sorted = refl

pub numbers_in_names_sorted : is_sorted (program_of (resolved scripts.numbers_in_names)) ≡ true
unfolding special_arrays special_scalars spend_all asked loop over_keys first_assigned records_done evaluated all_evaluated stepped all_stepped mid_called texts_in all_texts stmt_texts stmts_texts code_of codes_of key_code kept_code argument_codes truncated_code applied_code step_code steps_code numeral_at sign_at fraction_at exponent_at numerator denominator digits unescaped escaped octal keywords builtins left_out_words table sign_of sorted all_sorted step_sorted steps_sorted
numbers_in_names_sorted = refl

pub text_in_a_number_sorted : is_sorted (program_of (resolved scripts.text_in_a_number)) ≡ true
unfolding special_arrays special_scalars spend_all asked loop over_keys first_assigned records_done evaluated all_evaluated stepped all_stepped mid_called texts_in all_texts stmt_texts stmts_texts code_of codes_of key_code kept_code argument_codes truncated_code applied_code step_code steps_code numeral_at sign_at fraction_at exponent_at numerator denominator digits unescaped escaped octal keywords builtins left_out_words table sign_of sorted all_sorted step_sorted steps_sorted
text_in_a_number_sorted = refl

pub rest_of_a_file_sorted : is_sorted (program_of (resolved scripts.rest_of_a_file)) ≡ true
unfolding special_arrays special_scalars spend_all asked loop over_keys first_assigned records_done evaluated all_evaluated stepped all_stepped mid_called texts_in all_texts stmt_texts stmts_texts code_of codes_of key_code kept_code argument_codes truncated_code applied_code step_code steps_code numeral_at sign_at fraction_at exponent_at numerator denominator digits unescaped escaped octal keywords builtins left_out_words table sign_of sorted all_sorted step_sorted steps_sorted
rest_of_a_file_sorted = refl

pub file_left_among_operands_sorted : is_sorted (program_of (resolved scripts.file_left_among_operands)) ≡ true
unfolding special_arrays special_scalars spend_all asked loop over_keys first_assigned records_done evaluated all_evaluated stepped all_stepped mid_called texts_in all_texts stmt_texts stmts_texts code_of codes_of key_code kept_code argument_codes truncated_code applied_code step_code steps_code numeral_at sign_at fraction_at exponent_at numerator denominator digits unescaped escaped octal keywords builtins left_out_words table sign_of sorted all_sorted step_sorted steps_sorted
file_left_among_operands_sorted = refl

pub file_left_in_a_loop_sorted : is_sorted (program_of (resolved scripts.file_left_in_a_loop)) ≡ true
unfolding special_arrays special_scalars spend_all asked loop over_keys first_assigned records_done evaluated all_evaluated stepped all_stepped mid_called texts_in all_texts stmt_texts stmts_texts code_of codes_of key_code kept_code argument_codes truncated_code applied_code step_code steps_code numeral_at sign_at fraction_at exponent_at numerator denominator digits unescaped escaped octal keywords builtins left_out_words table sign_of sorted all_sorted step_sorted steps_sorted
file_left_in_a_loop_sorted = refl

pub file_left_in_a_walk_sorted : is_sorted (program_of (resolved scripts.file_left_in_a_walk)) ≡ true
unfolding special_arrays special_scalars spend_all asked loop over_keys first_assigned records_done evaluated all_evaluated stepped all_stepped mid_called texts_in all_texts stmt_texts stmts_texts code_of codes_of key_code kept_code argument_codes truncated_code applied_code step_code steps_code numeral_at sign_at fraction_at exponent_at numerator denominator digits unescaped escaped octal keywords builtins left_out_words table sign_of sorted all_sorted step_sorted steps_sorted
file_left_in_a_walk_sorted = refl

pub file_left_in_a_range_sorted : is_sorted (program_of (resolved scripts.file_left_in_a_range)) ≡ true
unfolding special_arrays special_scalars spend_all asked loop over_keys first_assigned records_done evaluated all_evaluated stepped all_stepped mid_called texts_in all_texts stmt_texts stmts_texts code_of codes_of key_code kept_code argument_codes truncated_code applied_code step_code steps_code numeral_at sign_at fraction_at exponent_at numerator denominator digits unescaped escaped octal keywords builtins left_out_words table sign_of sorted all_sorted step_sorted steps_sorted
file_left_in_a_range_sorted = refl

pub nextfile_outside_sorted : is_sorted (program_of (resolved scripts.nextfile_outside)) ≡ true
unfolding special_arrays special_scalars spend_all asked loop over_keys first_assigned records_done evaluated all_evaluated stepped all_stepped mid_called texts_in all_texts stmt_texts stmts_texts code_of codes_of key_code kept_code argument_codes truncated_code applied_code step_code steps_code numeral_at sign_at fraction_at exponent_at numerator denominator digits unescaped escaped octal keywords builtins left_out_words table sign_of sorted all_sorted step_sorted steps_sorted
nextfile_outside_sorted = refl

pub failing_rest_given_up_sorted : is_sorted (program_of (resolved scripts.failing_rest_given_up)) ≡ true
unfolding special_arrays special_scalars spend_all asked loop over_keys first_assigned records_done evaluated all_evaluated stepped all_stepped mid_called texts_in all_texts stmt_texts stmts_texts code_of codes_of key_code kept_code argument_codes truncated_code applied_code step_code steps_code numeral_at sign_at fraction_at exponent_at numerator denominator digits unescaped escaped octal keywords builtins left_out_words table sign_of sorted all_sorted step_sorted steps_sorted
failing_rest_given_up_sorted = refl

pub standard_input_given_up_sorted : is_sorted (program_of (resolved scripts.standard_input_given_up)) ≡ true
unfolding special_arrays special_scalars spend_all asked loop over_keys first_assigned records_done evaluated all_evaluated stepped all_stepped mid_called texts_in all_texts stmt_texts stmts_texts code_of codes_of key_code kept_code argument_codes truncated_code applied_code step_code steps_code numeral_at sign_at fraction_at exponent_at numerator denominator digits unescaped escaped octal keywords builtins left_out_words table sign_of sorted all_sorted step_sorted steps_sorted
standard_input_given_up_sorted = refl

pub emptied_in_a_walk_sorted : is_sorted (program_of (resolved scripts.emptied_in_a_walk)) ≡ true
unfolding special_arrays special_scalars spend_all asked loop over_keys first_assigned records_done evaluated all_evaluated stepped all_stepped mid_called texts_in all_texts stmt_texts stmts_texts code_of codes_of key_code kept_code argument_codes truncated_code applied_code step_code steps_code numeral_at sign_at fraction_at exponent_at numerator denominator digits unescaped escaped octal keywords builtins left_out_words table sign_of sorted all_sorted step_sorted steps_sorted
emptied_in_a_walk_sorted = refl

pub emptied_and_refilled_sorted : is_sorted (program_of (resolved scripts.emptied_and_refilled)) ≡ true
unfolding special_arrays special_scalars spend_all asked loop over_keys first_assigned records_done evaluated all_evaluated stepped all_stepped mid_called texts_in all_texts stmt_texts stmts_texts code_of codes_of key_code kept_code argument_codes truncated_code applied_code step_code steps_code numeral_at sign_at fraction_at exponent_at numerator denominator digits unescaped escaped octal keywords builtins left_out_words table sign_of sorted all_sorted step_sorted steps_sorted
emptied_and_refilled_sorted = refl

pub emptied_parameter_sorted : is_sorted (program_of (resolved scripts.emptied_parameter)) ≡ true
unfolding special_arrays special_scalars spend_all asked loop over_keys first_assigned records_done evaluated all_evaluated stepped all_stepped mid_called texts_in all_texts stmt_texts stmts_texts code_of codes_of key_code kept_code argument_codes truncated_code applied_code step_code steps_code numeral_at sign_at fraction_at exponent_at numerator denominator digits unescaped escaped octal keywords builtins left_out_words table sign_of sorted all_sorted step_sorted steps_sorted
emptied_parameter_sorted = refl

pub emptied_operands_sorted : is_sorted (program_of (resolved scripts.emptied_operands)) ≡ true
unfolding special_arrays special_scalars spend_all asked loop over_keys first_assigned records_done evaluated all_evaluated stepped all_stepped mid_called texts_in all_texts stmt_texts stmts_texts code_of codes_of key_code kept_code argument_codes truncated_code applied_code step_code steps_code numeral_at sign_at fraction_at exponent_at numerator denominator digits unescaped escaped octal keywords builtins left_out_words table sign_of sorted all_sorted step_sorted steps_sorted
emptied_operands_sorted = refl

pub flushed_sorted : is_sorted (program_of (resolved scripts.flushed)) ≡ true
unfolding special_arrays special_scalars spend_all asked loop over_keys first_assigned records_done evaluated all_evaluated stepped all_stepped mid_called texts_in all_texts stmt_texts stmts_texts code_of codes_of key_code kept_code argument_codes truncated_code applied_code step_code steps_code numeral_at sign_at fraction_at exponent_at numerator denominator digits unescaped escaped octal keywords builtins left_out_words table sign_of sorted all_sorted step_sorted steps_sorted
flushed_sorted = refl

pub reader_not_flushed_sorted : is_sorted (program_of (resolved scripts.reader_not_flushed)) ≡ true
unfolding special_arrays special_scalars spend_all asked loop over_keys first_assigned records_done evaluated all_evaluated stepped all_stepped mid_called texts_in all_texts stmt_texts stmts_texts code_of codes_of key_code kept_code argument_codes truncated_code applied_code step_code steps_code numeral_at sign_at fraction_at exponent_at numerator denominator digits unescaped escaped octal keywords builtins left_out_words table sign_of sorted all_sorted step_sorted steps_sorted
reader_not_flushed_sorted = refl
