-- Places that runs pass, computed: at each place the number of places from there to the end of its block is put out, by the machine over values and
-- by the mid code.
use Rattle.std.specs.Prelude.{◌≡◌, ◌+◌, [], ◌∷◌, ◌++◌, codes, Some, refl}
use Rattle.std.specs.Fmt.{digits}
use Rattle.awk_text.specs.Reading.{numeral_at, sign_at, fraction_at, exponent_at}
use Rattle.awk_text.specs.Number.{numerator, denominator}
use Rattle.awk_text.specs.Escapes.{unescaped, escaped, octal}
use Rattle.awk_tokens.specs.Words.{keywords, builtins, left_out_words}
use Rattle.ere_syntax.specs.Scan.{table}
use Rattle.ere_syntax.specs.Readers.{sign_of}
use Rattle.world_core.specs.WorldState.{Standard, Outside, Source, absent, puts}
use Rattle.world_core.specs.declared.world.Ending.TheVariants.{End}
use Rattle.sem_primitives.specs.Jobs.{JobForm}
use Rattle.awk_grammar.specs.Kinds.{special_arrays, special_scalars}
use Rattle.sem_scripts.specs.Kinds.{resolved}
use Rattle.sem_scripts.specs.Meaning.{asked}
use Rattle.mid_program.specs.MidMeaning.{evaluated, all_evaluated, stepped}
use Rattle.sem_scripts.specs.ScriptRun.{first_assigned, records_done, Ended, setting_of}
use Rattle.sem_scripts.specs.ScriptState.{spend_all}
use Rattle.mid_program.specs.Scripts as scripts
use Rattle.sem_scripts.specs.Statements.{loop, over_keys}
use Rattle.mid_program.specs.Texts.{texts_in, all_texts, stmt_texts, stmts_texts}
use Rattle.mid_program.specs.Translation.{code_of, codes_of, key_code, kept_code, argument_codes, truncated_code, applied_code, step_code, steps_code, program_of}
use Rattle.test_parts.specs.Scripts as language
use Rattle.lower_model.specs.Boundaries.{nops_in}
use Rattle.lower_model.specs.Emission.{emitted, all_emitted}
use Rattle.lower_model.specs.Machine.{Notes}
use Rattle.lower_model.specs.Noted.{step_noted, steps_noted, noted_called, noted_run_in}
use Rattle.lower_model.specs.Runs.{noting_run}
use Rattle.lower_model.specs.Statements.{step_emitted, steps_emitted}

abbrev no_job : JobForm
no_job = record { operands = []; assigns = []; environment = [] }

abbrev no_input : Source
no_input = record { rest = []; ending = End }

abbrev empty : Outside
empty = λ target. absent

-- a digit
abbrev counted : Notes
counted code output = output ++ puts Standard ((48 + nops_in code) ∷ [])

-- BEGIN { for (;;) if (i++ > 2) break; print i }: the block of BEGIN, that of the `for`, its first part in which there is nothing, the loop; three
-- rounds whose test fails, and one that ends by `break`; and `print`
pub test_left_out_costs_a_turn : noting_run counted (program_of (resolved scripts.test_left_out_costs_a_turn)) (setting_of no_job no_input empty) 3000
    ≡ Some (Ended 0 (puts Standard (codes "87653131313114\n")))
unfolding special_arrays special_scalars spend_all asked loop over_keys first_assigned records_done evaluated all_evaluated stepped step_noted steps_noted noted_called texts_in all_texts stmt_texts stmts_texts code_of codes_of key_code kept_code argument_codes truncated_code applied_code step_code steps_code emitted all_emitted step_emitted steps_emitted numeral_at sign_at fraction_at exponent_at numerator denominator digits unescaped escaped octal keywords builtins left_out_words table sign_of
test_left_out_costs_a_turn = refl

pub test_left_out_costs_a_turn_noted : noted_run_in counted (program_of (resolved scripts.test_left_out_costs_a_turn))
    (setting_of no_job no_input empty) 30 ≡ Ended 0 (puts Standard (codes "87653131313114\n"))
unfolding special_arrays special_scalars spend_all asked loop over_keys first_assigned records_done evaluated all_evaluated stepped step_noted steps_noted noted_called texts_in all_texts stmt_texts stmts_texts code_of codes_of key_code kept_code argument_codes truncated_code applied_code step_code steps_code emitted all_emitted step_emitted steps_emitted numeral_at sign_at fraction_at exponent_at numerator denominator digits unescaped escaped octal keywords builtins left_out_words table sign_of
test_left_out_costs_a_turn_noted = refl

-- function r(n) { return n ? r(n-1) : 7 } BEGIN { print r(3) }: the block, `print`, and four times `return`, before the line is put out
pub calls_nested : noting_run counted (program_of (resolved scripts.calls_nested)) (setting_of no_job no_input empty) 3000
    ≡ Some (Ended 0 (puts Standard (codes "2111117\n")))
unfolding special_arrays special_scalars spend_all asked loop over_keys first_assigned records_done evaluated all_evaluated stepped step_noted steps_noted noted_called texts_in all_texts stmt_texts stmts_texts code_of codes_of key_code kept_code argument_codes truncated_code applied_code step_code steps_code emitted all_emitted step_emitted steps_emitted numeral_at sign_at fraction_at exponent_at numerator denominator digits unescaped escaped octal keywords builtins left_out_words table sign_of
calls_nested = refl

pub calls_nested_noted : noted_run_in counted (program_of (resolved scripts.calls_nested)) (setting_of no_job no_input empty) 30
    ≡ Ended 0 (puts Standard (codes "2111117\n"))
unfolding special_arrays special_scalars spend_all asked loop over_keys first_assigned records_done evaluated all_evaluated stepped step_noted steps_noted noted_called texts_in all_texts stmt_texts stmts_texts code_of codes_of key_code kept_code argument_codes truncated_code applied_code step_code steps_code emitted all_emitted step_emitted steps_emitted numeral_at sign_at fraction_at exponent_at numerator denominator digits unescaped escaped octal keywords builtins left_out_words table sign_of
calls_nested_noted = refl

-- BEGIN { do {  n++ }  while (n < 3)  print n }: the block, the loop; three rounds of a block, the statement in it, the third part in which there is
-- nothing, and the test; and `print`
pub do_while_counts : noting_run counted (program_of (resolved language.do_while_counts)) (setting_of no_job no_input empty) 4000
    ≡ Some (Ended 0 (puts Standard (codes "7621212121212113\n")))
unfolding special_arrays special_scalars spend_all asked loop over_keys first_assigned records_done evaluated all_evaluated stepped step_noted steps_noted noted_called texts_in all_texts stmt_texts stmts_texts code_of codes_of key_code kept_code argument_codes truncated_code applied_code step_code steps_code emitted all_emitted step_emitted steps_emitted numeral_at sign_at fraction_at exponent_at numerator denominator digits unescaped escaped octal keywords builtins left_out_words table sign_of
do_while_counts = refl

pub do_while_counts_noted : noted_run_in counted (program_of (resolved language.do_while_counts)) (setting_of no_job no_input empty) 30
    ≡ Ended 0 (puts Standard (codes "7621212121212113\n"))
unfolding special_arrays special_scalars spend_all asked loop over_keys first_assigned records_done evaluated all_evaluated stepped step_noted steps_noted noted_called texts_in all_texts stmt_texts stmts_texts code_of codes_of key_code kept_code argument_codes truncated_code applied_code step_code steps_code emitted all_emitted step_emitted steps_emitted numeral_at sign_at fraction_at exponent_at numerator denominator digits unescaped escaped octal keywords builtins left_out_words table sign_of
do_while_counts_noted = refl
