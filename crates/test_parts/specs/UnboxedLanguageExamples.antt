-- Runs of modules on the machine over values: of more scripts with unboxed names.
use Rattle.std.specs.Prelude.{◌≡◌, ℕ, true, false, List, [], ◌∷◌, codes, Some, None, refl}
use Rattle.std.specs.Fmt.{digits}
use Rattle.awk_text.specs.Reading.{numeral_at, sign_at, fraction_at, exponent_at}
use Rattle.awk_text.specs.Number.{numerator, denominator}
use Rattle.awk_text.specs.Escapes.{unescaped, escaped, octal}
use Rattle.awk_tokens.specs.Words.{keywords, builtins, left_out_words}
use Rattle.ere_syntax.specs.Scan.{table}
use Rattle.ere_syntax.specs.Readers.{sign_of}
use Rattle.awk_values.specs.declared.fault.Fault.TheVariants.{Range, Fraction}
use Rattle.world_core.specs.WorldState.{Standard, Named, Outside, Source, absent, replaced, puts}
use Rattle.world_core.specs.declared.world.Ending.{Ending}
use Rattle.world_core.specs.declared.world.Ending.TheVariants.{End}
use Rattle.sem_primitives.specs.Jobs.{JobForm}
use Rattle.awk_grammar.specs.Kinds.{special_arrays, special_scalars}
use Rattle.sem_scripts.specs.Kinds.{resolved}
use Rattle.sem_scripts.specs.ScriptRun.{Ended, FaultedBy, setting_of}
use Rattle.mid_program.specs.Texts.{texts_in, all_texts, stmt_texts, stmts_texts}
use Rattle.mid_program.specs.Translation.{code_of, codes_of, key_code, kept_code, argument_codes, truncated_code, applied_code, step_code, steps_code, program_of}
use Rattle.test_parts.specs.Scripts as scripts
use Rattle.sem_scripts.specs.ScriptState.{spend_all}
use Rattle.sem_scripts.specs.Meaning.{asked}
use Rattle.sem_scripts.specs.Statements.{loop, over_keys}
use Rattle.sem_scripts.specs.ScriptRun.{first_assigned, records_done}
use Rattle.mid_program.specs.MidMeaning.{evaluated, all_evaluated, stepped, all_stepped, mid_called}
use Rattle.mid_program.specs.Sorted.{sorted, all_sorted, step_sorted, steps_sorted, is_sorted}
use Rattle.test_parts.specs.Agreeing.{AgreesWith}
use Rattle.test_parts.specs.Lanes.{unboxed}
use Rattle.lower_model.specs.Emission.{emitted, all_emitted}
use Rattle.lower_model.specs.Statements.{step_emitted, steps_emitted}
use Rattle.lower_model.specs.Runs.{value_run}

abbrev no_job : JobForm
no_job = record { operands = []; assigns = []; environment = [] }

abbrev no_input : Source
no_input = record { rest = []; ending = End }

abbrev empty : Outside
empty = λ target. absent

-- where standard output has room for so many bytes
abbrev narrow : ℕ → Outside
narrow room = replaced Standard (record { bytes = Some []; ending = End; room = Some room; opens = true }) empty

abbrev with_file : List ℕ → List ℕ → Ending → Outside → Outside
with_file name bytes ending outside = replaced (Named name) (record { bytes = Some bytes; ending = ending; room = None; opens = true }) outside

abbrev without_opening : List ℕ → Outside → Outside
without_opening name outside = replaced (Named name) (record { bytes = Some []; ending = End; room = None; opens = false }) outside

-- where a name holds bytes and has room for so many
abbrev with_room : List ℕ → List ℕ → ℕ → Outside → Outside
with_room name bytes room outside = replaced (Named name) (record { bytes = Some bytes; ending = End; room = Some room; opens = true }) outside

-- function f() { x = 5; return 1 } BEGIN { x = 1; print x + f(), x; x = 1; print x f() x; x = 1; x += f(); print x }
pub name_read_when_met : is_sorted (unboxed (true ∷ []) ([]) (program_of (resolved scripts.name_read_when_met))) ≡ true
    × value_run (unboxed (true ∷ []) ([]) (program_of (resolved scripts.name_read_when_met))) (setting_of no_job no_input empty) 2500
    ≡ Some (Ended 0 (puts Standard (codes "2 5\n115\n6\n")))
unfolding special_arrays special_scalars emitted all_emitted step_emitted steps_emitted texts_in all_texts stmt_texts stmts_texts code_of codes_of key_code kept_code argument_codes truncated_code applied_code step_code steps_code numeral_at sign_at fraction_at exponent_at numerator denominator digits unescaped escaped octal keywords builtins left_out_words table sign_of sorted all_sorted step_sorted steps_sorted
name_read_when_met = (refl, refl)

-- BEGIN { i = 2; $0 = "1 5 c"; print $i++, $2, i, ++$i, $0, $(i++) = i, $0, i }
pub steps_in_fields : is_sorted (unboxed (true ∷ []) ([]) (program_of (resolved scripts.steps_in_fields))) ≡ true
    × value_run (unboxed (true ∷ []) ([]) (program_of (resolved scripts.steps_in_fields))) (setting_of no_job no_input empty) 2500
    ≡ Some (Ended 0 (puts Standard (codes "5 6 2 7 1 7 c 3 1 3 c 3\n")))
unfolding special_arrays special_scalars emitted all_emitted step_emitted steps_emitted texts_in all_texts stmt_texts stmts_texts code_of codes_of key_code kept_code argument_codes truncated_code applied_code step_code steps_code numeral_at sign_at fraction_at exponent_at numerator denominator digits unescaped escaped octal keywords builtins left_out_words table sign_of sorted all_sorted step_sorted steps_sorted
steps_in_fields = (refl, refl)

-- BEGIN { while ((getline a[n++]) > 0) ; print n, a[0], (1 in a), (2 in a) }
pub read_into_elements : is_sorted (unboxed (false ∷ true ∷ []) ([]) (program_of (resolved scripts.read_into_elements))) ≡ true
    × value_run (unboxed (false ∷ true
    ∷ []) ([]) (program_of (resolved scripts.read_into_elements))) (setting_of no_job (record { rest = (codes "l\nm\n"); ending = End }) empty) 2500
    ≡ Some (Ended 0 (puts Standard (codes "3 l 1 0\n")))
unfolding special_arrays special_scalars emitted all_emitted step_emitted steps_emitted texts_in all_texts stmt_texts stmts_texts code_of codes_of key_code kept_code argument_codes truncated_code applied_code step_code steps_code numeral_at sign_at fraction_at exponent_at numerator denominator digits unescaped escaped octal keywords builtins left_out_words table sign_of sorted all_sorted step_sorted steps_sorted
read_into_elements = (refl, refl)

-- BEGIN { while ((getline x) > 0) print x, v, NR; print v }
pub assignments_among_reads : is_sorted (unboxed (false ∷ true ∷ []) ([]) (program_of (resolved scripts.assignments_among_reads))) ≡ true
    × value_run (unboxed (false ∷ true
    ∷ []) ([]) (program_of (resolved scripts.assignments_among_reads))) (setting_of (record {
      operands = ((codes "v=1") ∷ (codes "f") ∷ (codes "v=2")
          ∷ (codes "g") ∷ (codes "v=3") ∷ []);
      assigns = [];
      environment = [];
    }) no_input
    (with_file (codes "g") (codes "s\n") End (with_file (codes "f") (codes "p q\nr\n") End empty))) 2500
    ≡ Some (Ended 0 (puts Standard (codes "p q 1 1\nr 1 2\ns 2 3\n3\n")))
unfolding special_arrays special_scalars emitted all_emitted step_emitted steps_emitted texts_in all_texts stmt_texts stmts_texts code_of codes_of key_code kept_code argument_codes truncated_code applied_code step_code steps_code numeral_at sign_at fraction_at exponent_at numerator denominator digits unescaped escaped octal keywords builtins left_out_words table sign_of sorted all_sorted step_sorted steps_sorted
assignments_among_reads = (refl, refl)

-- function f(v) { getline; return v } BEGIN { print f(4), v, $0 }
pub assignment_in_a_call : is_sorted (unboxed (true ∷ []) ((true ∷ []) ∷ []) (program_of (resolved scripts.assignment_in_a_call))) ≡ true
    × value_run (unboxed (true ∷ []) ((true ∷ [])
    ∷ []) (program_of (resolved scripts.assignment_in_a_call))) (setting_of (record {
      operands = ((codes "v=1") ∷ (codes "f")
          ∷ []);
      assigns = [];
      environment = [];
    }) no_input (with_file (codes "f") (codes "p q\nr\n") End empty)) 2500
    ≡ Some (Ended 0 (puts Standard (codes "4 1 p q\n")))
unfolding special_arrays special_scalars emitted all_emitted step_emitted steps_emitted texts_in all_texts stmt_texts stmts_texts code_of codes_of key_code kept_code argument_codes truncated_code applied_code step_code steps_code numeral_at sign_at fraction_at exponent_at numerator denominator digits unescaped escaped octal keywords builtins left_out_words table sign_of sorted all_sorted step_sorted steps_sorted
assignment_in_a_call = (refl, refl)

-- function r(n, a) { a[n]; if (n) r(n - 1); for (k in a) c = c k } BEGIN { r(2); print c }
pub fresh_array_handed_on : is_sorted (unboxed ([]) ((true ∷ []) ∷ []) (program_of (resolved scripts.fresh_array_handed_on))) ≡ true
    × value_run (unboxed ([]) ((true ∷ []) ∷ []) (program_of (resolved scripts.fresh_array_handed_on))) (setting_of no_job no_input empty) 2500
    ≡ Some (Ended 0 (puts Standard (codes "012\n")))
unfolding special_arrays special_scalars emitted all_emitted step_emitted steps_emitted texts_in all_texts stmt_texts stmts_texts code_of codes_of key_code kept_code argument_codes truncated_code applied_code step_code steps_code numeral_at sign_at fraction_at exponent_at numerator denominator digits unescaped escaped octal keywords builtins left_out_words table sign_of sorted all_sorted step_sorted steps_sorted
fresh_array_handed_on = (refl, refl)

-- BEGIN { print v }
pub assignment_without_turns : is_sorted (unboxed (true ∷ []) ([]) (program_of (resolved scripts.assignment_without_turns))) ≡ true
    × AgreesWith (unboxed (true ∷ []) ([]) (program_of (resolved scripts.assignment_without_turns)))
    (setting_of (record { operands = []; assigns = (((codes "v"), (codes "1")) ∷ []); environment = [] }) no_input empty) 1500 0
unfolding special_arrays special_scalars emitted all_emitted step_emitted steps_emitted texts_in all_texts stmt_texts stmts_texts code_of codes_of key_code kept_code argument_codes truncated_code applied_code step_code steps_code numeral_at sign_at fraction_at exponent_at numerator denominator digits unescaped escaped octal keywords builtins left_out_words table sign_of spend_all asked loop over_keys first_assigned records_done evaluated all_evaluated stepped all_stepped mid_called sorted all_sorted step_sorted steps_sorted
assignment_without_turns = (refl, refl)

-- BEGIN { print v FS OFS "x" }
pub turn_for_each_assignment : is_sorted (unboxed (true ∷ []) ([]) (program_of (resolved scripts.turn_for_each_assignment))) ≡ true
    × value_run (unboxed (true ∷ []) ([]) (program_of (resolved scripts.turn_for_each_assignment)))
    (setting_of (record {
      operands = [];
      assigns = (((codes "FS"), (codes ":")) ∷ ((codes "w"), (codes "1")) ∷ ((codes "v"), (codes "1"))
          ∷ ((codes "OFS"), (codes ":")) ∷ []);
      environment = [];
    }) no_input empty) 2500 ≡ Some (Ended 0 (puts Standard (codes "1::x\n")))
unfolding special_arrays special_scalars emitted all_emitted step_emitted steps_emitted texts_in all_texts stmt_texts stmts_texts code_of codes_of key_code kept_code argument_codes truncated_code applied_code step_code steps_code numeral_at sign_at fraction_at exponent_at numerator denominator digits unescaped escaped octal keywords builtins left_out_words table sign_of sorted all_sorted step_sorted steps_sorted
turn_for_each_assignment = (refl, refl)

-- BEGIN { print v FS OFS "x" }
pub too_few_turns_for_assignments : is_sorted (unboxed (true ∷ []) ([]) (program_of (resolved scripts.too_few_turns_for_assignments))) ≡ true
    × AgreesWith (unboxed (true ∷ []) ([]) (program_of (resolved scripts.too_few_turns_for_assignments)))
    (setting_of (record {
      operands = [];
      assigns = (((codes "FS"), (codes ":")) ∷ ((codes "w"), (codes "1")) ∷ ((codes "v"), (codes "1"))
          ∷ ((codes "OFS"), (codes ":")) ∷ []);
      environment = [];
    }) no_input empty) 1500 3
unfolding special_arrays special_scalars emitted all_emitted step_emitted steps_emitted texts_in all_texts stmt_texts stmts_texts code_of codes_of key_code kept_code argument_codes truncated_code applied_code step_code steps_code numeral_at sign_at fraction_at exponent_at numerator denominator digits unescaped escaped octal keywords builtins left_out_words table sign_of spend_all asked loop over_keys first_assigned records_done evaluated all_evaluated stepped all_stepped mid_called sorted all_sorted step_sorted steps_sorted
too_few_turns_for_assignments = (refl, refl)

-- BEGIN{$0="a b c";$2=u;print NF,$0;print ($2==0),($2=="");$0=$0;print NF,($2==0)}
pub uninitialised_field : is_sorted (unboxed (true ∷ []) ([]) (program_of (resolved scripts.uninitialised_field))) ≡ true
    × value_run (unboxed (true ∷ []) ([]) (program_of (resolved scripts.uninitialised_field))) (setting_of no_job no_input empty) 2500
    ≡ Some (Ended 0 (puts Standard (codes "3 a  c\n1 1\n2 0\n")))
unfolding special_arrays special_scalars emitted all_emitted step_emitted steps_emitted texts_in all_texts stmt_texts stmts_texts code_of codes_of key_code kept_code argument_codes truncated_code applied_code step_code steps_code numeral_at sign_at fraction_at exponent_at numerator denominator digits unescaped escaped octal keywords builtins left_out_words table sign_of sorted all_sorted step_sorted steps_sorted
uninitialised_field = (refl, refl)

-- BEGIN{FS=u;$0="a b";print NF;FS=1;$0="a1b";print NF}
pub separator_without_value : is_sorted (unboxed (true ∷ []) ([]) (program_of (resolved scripts.separator_without_value))) ≡ true
    × value_run (unboxed (true ∷ []) ([]) (program_of (resolved scripts.separator_without_value))) (setting_of no_job no_input empty) 2500
    ≡ Some (Ended 0 (puts Standard (codes "3\n2\n")))
unfolding special_arrays special_scalars emitted all_emitted step_emitted steps_emitted texts_in all_texts stmt_texts stmts_texts code_of codes_of key_code kept_code argument_codes truncated_code applied_code step_code steps_code numeral_at sign_at fraction_at exponent_at numerator denominator digits unescaped escaped octal keywords builtins left_out_words table sign_of sorted all_sorted step_sorted steps_sorted
separator_without_value = (refl, refl)

-- BEGIN { do {  n++ }  while (n < 3)  print n }
pub do_while_counts : is_sorted (unboxed (true ∷ []) ([]) (program_of (resolved scripts.do_while_counts))) ≡ true
    × value_run (unboxed (true ∷ []) ([]) (program_of (resolved scripts.do_while_counts))) (setting_of no_job no_input empty) 2500
    ≡ Some (Ended 0 (puts Standard (codes "3\n")))
unfolding special_arrays special_scalars emitted all_emitted step_emitted steps_emitted texts_in all_texts stmt_texts stmts_texts code_of codes_of key_code kept_code argument_codes truncated_code applied_code step_code steps_code numeral_at sign_at fraction_at exponent_at numerator denominator digits unescaped escaped octal keywords builtins left_out_words table sign_of sorted all_sorted step_sorted steps_sorted
do_while_counts = (refl, refl)

-- BEGIN { print n; print n + 1 }
pub fraction_from_command_line : is_sorted (unboxed (true ∷ []) ([]) (program_of (resolved scripts.fraction_from_command_line))) ≡ true
    × value_run (unboxed (true ∷ []) ([]) (program_of (resolved scripts.fraction_from_command_line)))
    (setting_of (record { operands = []; assigns = (((codes "n"), (codes "0.5")) ∷ []); environment = [] }) no_input empty) 2500
    ≡ Some (FaultedBy Fraction (puts Standard (codes "0.5\n")))
unfolding special_arrays special_scalars emitted all_emitted step_emitted steps_emitted texts_in all_texts stmt_texts stmts_texts code_of codes_of key_code kept_code argument_codes truncated_code applied_code step_code steps_code numeral_at sign_at fraction_at exponent_at numerator denominator digits unescaped escaped octal keywords builtins left_out_words table sign_of sorted all_sorted step_sorted steps_sorted
fraction_from_command_line = (refl, refl)

-- { n++; print n }
pub count_across_an_assignment : is_sorted (unboxed (true ∷ []) ([]) (program_of (resolved scripts.count_across_an_assignment))) ≡ true
    × value_run (unboxed (true ∷ []) ([]) (program_of (resolved scripts.count_across_an_assignment))) (setting_of (record {
      operands = ((codes "f")
          ∷ (codes "n=07") ∷ (codes "g") ∷ []);
      assigns = [];
      environment = [];
    }) no_input
    (with_file (codes "g") (codes "b\n") End (with_file (codes "f") (codes "a\n") End empty))) 2500 ≡ Some (Ended 0 (puts Standard (codes "1\n8\n")))
unfolding special_arrays special_scalars emitted all_emitted step_emitted steps_emitted texts_in all_texts stmt_texts stmts_texts code_of codes_of key_code kept_code argument_codes truncated_code applied_code step_code steps_code numeral_at sign_at fraction_at exponent_at numerator denominator digits unescaped escaped octal keywords builtins left_out_words table sign_of sorted all_sorted step_sorted steps_sorted
count_across_an_assignment = (refl, refl)

-- BEGIN { n = 2^53; n++; print "no" }
pub step_past_range : is_sorted (unboxed (true ∷ []) ([]) (program_of (resolved scripts.step_past_range))) ≡ true
    × value_run (unboxed (true ∷ []) ([]) (program_of (resolved scripts.step_past_range))) (setting_of no_job no_input empty) 2500
    ≡ Some (FaultedBy Range [])
unfolding special_arrays special_scalars emitted all_emitted step_emitted steps_emitted texts_in all_texts stmt_texts stmts_texts code_of codes_of key_code kept_code argument_codes truncated_code applied_code step_code steps_code numeral_at sign_at fraction_at exponent_at numerator denominator digits unescaped escaped octal keywords builtins left_out_words table sign_of sorted all_sorted step_sorted steps_sorted
step_past_range = (refl, refl)

-- BEGIN { while (n < 10) n = n + 1; print n }
pub loop_on_numbers : is_sorted (unboxed (true ∷ []) ([]) (program_of (resolved scripts.loop_on_numbers))) ≡ true
    × value_run (unboxed (true ∷ []) ([]) (program_of (resolved scripts.loop_on_numbers))) (setting_of no_job no_input empty) 2500
    ≡ Some (Ended 0 (puts Standard (codes "10\n")))
unfolding special_arrays special_scalars emitted all_emitted step_emitted steps_emitted texts_in all_texts stmt_texts stmts_texts code_of codes_of key_code kept_code argument_codes truncated_code applied_code step_code steps_code numeral_at sign_at fraction_at exponent_at numerator denominator digits unescaped escaped octal keywords builtins left_out_words table sign_of sorted all_sorted step_sorted steps_sorted
loop_on_numbers = (refl, refl)

-- BEGIN { while (n < 3) n = n + 1; print n }
pub turns_just_enough : is_sorted (unboxed (true ∷ []) ([]) (program_of (resolved scripts.turns_just_enough))) ≡ true
    × value_run (unboxed (true ∷ []) ([]) (program_of (resolved scripts.turns_just_enough))) (setting_of no_job no_input empty) 2500
    ≡ Some (Ended 0 (puts Standard (codes "3\n")))
unfolding special_arrays special_scalars emitted all_emitted step_emitted steps_emitted texts_in all_texts stmt_texts stmts_texts code_of codes_of key_code kept_code argument_codes truncated_code applied_code step_code steps_code numeral_at sign_at fraction_at exponent_at numerator denominator digits unescaped escaped octal keywords builtins left_out_words table sign_of sorted all_sorted step_sorted steps_sorted
turns_just_enough = (refl, refl)

-- BEGIN { while (n < 3) n = n + 1; print n }
pub one_turn_too_few : is_sorted (unboxed (true ∷ []) ([]) (program_of (resolved scripts.one_turn_too_few))) ≡ true
    × AgreesWith (unboxed (true ∷ []) ([]) (program_of (resolved scripts.one_turn_too_few))) (setting_of no_job no_input empty) 1500 3
unfolding special_arrays special_scalars emitted all_emitted step_emitted steps_emitted texts_in all_texts stmt_texts stmts_texts code_of codes_of key_code kept_code argument_codes truncated_code applied_code step_code steps_code numeral_at sign_at fraction_at exponent_at numerator denominator digits unescaped escaped octal keywords builtins left_out_words table sign_of spend_all asked loop over_keys first_assigned records_done evaluated all_evaluated stepped all_stepped mid_called sorted all_sorted step_sorted steps_sorted
one_turn_too_few = (refl, refl)

-- function f(x, y) { if (x < y) return x; y = x = x * 2; return y } BEGIN { print f(3, 5), f(7), f("10", 9), f() "." ; n = -n; n += !m; print n, n++
-- + ++n, n-- }
pub numbers_in_names : is_sorted (unboxed (true ∷ true ∷ []) ((false ∷ true ∷ []) ∷ []) (program_of (resolved scripts.numbers_in_names))) ≡ true
    × value_run (unboxed (true ∷ true ∷ []) ((false ∷ true ∷ [])
    ∷ []) (program_of (resolved scripts.numbers_in_names))) (setting_of no_job no_input empty) 2500
    ≡ Some (Ended 0 (puts Standard (codes "3 14 10 0.\n1 4 3\n")))
unfolding special_arrays special_scalars emitted all_emitted step_emitted steps_emitted texts_in all_texts stmt_texts stmts_texts code_of codes_of key_code kept_code argument_codes truncated_code applied_code step_code steps_code numeral_at sign_at fraction_at exponent_at numerator denominator digits unescaped escaped octal keywords builtins left_out_words table sign_of sorted all_sorted step_sorted steps_sorted
numbers_in_names = (refl, refl)

-- BEGIN { print n < 10, n < "10", n == 9; n = n + 1; print n < 10 }
pub text_in_a_number : is_sorted (unboxed (true ∷ []) ([]) (program_of (resolved scripts.text_in_a_number))) ≡ true
    × value_run (unboxed (true ∷ []) ([]) (program_of (resolved scripts.text_in_a_number)))
    (setting_of (record { operands = []; assigns = (((codes "n"), (codes "9")) ∷ []); environment = [] }) no_input empty) 2500
    ≡ Some (Ended 0 (puts Standard (codes "1 0 1\n0\n")))
unfolding special_arrays special_scalars emitted all_emitted step_emitted steps_emitted texts_in all_texts stmt_texts stmts_texts code_of codes_of key_code kept_code argument_codes truncated_code applied_code step_code steps_code numeral_at sign_at fraction_at exponent_at numerator denominator digits unescaped escaped octal keywords builtins left_out_words table sign_of sorted all_sorted step_sorted steps_sorted
text_in_a_number = (refl, refl)
