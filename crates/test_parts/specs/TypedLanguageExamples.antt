-- Runs of modules on the machine over values: they are typed.
use Rattle.std.specs.Prelude.{◌≡◌, ℕ, true, false, List, [], ◌∷◌, Some, None, refl}
use Rattle.std.specs.Fmt.{digits}
use Rattle.awk_text.specs.Reading.{numeral_at, sign_at, fraction_at, exponent_at}
use Rattle.awk_text.specs.Number.{numerator, denominator}
use Rattle.awk_text.specs.Escapes.{unescaped, escaped, octal}
use Rattle.awk_tokens.specs.Words.{keywords, builtins, left_out_words}
use Rattle.ere_syntax.specs.Scan.{table}
use Rattle.ere_syntax.specs.Readers.{sign_of}
use Rattle.world_core.specs.WorldState.{Standard, Named, Outside, Source, absent, replaced}
use Rattle.world_core.specs.declared.world.Ending.{Ending}
use Rattle.world_core.specs.declared.world.Ending.TheVariants.{End}
use Rattle.sem_primitives.specs.Jobs.{JobForm}
use Rattle.awk_grammar.specs.Kinds.{special_arrays, special_scalars}
use Rattle.sem_scripts.specs.Kinds.{resolved}
use Rattle.mid_program.specs.Texts.{texts_in, all_texts, stmt_texts, stmts_texts}
use Rattle.mid_program.specs.Translation.{code_of, codes_of, key_code, kept_code, argument_codes, truncated_code, applied_code, step_code, steps_code, program_of}
use Rattle.test_parts.specs.Scripts as scripts
use Rattle.test_parts.specs.Lanes.{unboxed}
use Rattle.lower_model.specs.Modules.{module_of}
use Rattle.test_parts.specs.Typed.{is_typed}
use Rattle.lower_model.specs.Emission.{emitted, all_emitted}
use Rattle.lower_model.specs.Statements.{step_emitted, steps_emitted}

abbrev no_job : JobForm
no_job = record { operands = []; assigns = []; environment = [] }

abbrev no_input : Source
no_input = record { rest = []; ending = End }

abbrev empty : Outside
empty = λ target. absent

-- where standard output has room for so many bytes
abbrev narrow : ℕ → Outside
narrow room = replaced Standard (record { bytes = Some []; ending = End; room = Some room; opens = true }) empty

abbrev with_file : List ℕ → List ℕ → Ending → Outside → Outside
with_file name bytes ending outside = replaced (Named name) (record { bytes = Some bytes; ending = ending; room = None; opens = true }) outside

abbrev without_opening : List ℕ → Outside → Outside
without_opening name outside = replaced (Named name) (record { bytes = Some []; ending = End; room = None; opens = false }) outside

-- where a name holds bytes and has room for so many
abbrev with_room : List ℕ → List ℕ → ℕ → Outside → Outside
with_room name bytes room outside = replaced (Named name) (record { bytes = Some bytes; ending = End; room = Some room; opens = true }) outside

-- BEGIN { print (NR = "4") (NR += 1) NR++ NR }
pub special_steps : is_typed (module_of (program_of (resolved scripts.special_steps))) ≡ true
unfolding special_arrays special_scalars emitted all_emitted step_emitted steps_emitted texts_in all_texts stmt_texts stmts_texts code_of codes_of key_code kept_code argument_codes truncated_code applied_code step_code steps_code numeral_at sign_at fraction_at exponent_at numerator denominator digits unescaped escaped octal keywords builtins left_out_words table sign_of
special_steps = refl

-- BEGIN { while ((getline a[n++]) > 0) ; print n, a[0], (1 in a), (2 in a) }
pub read_into_elements : is_typed (module_of (program_of (resolved scripts.read_into_elements))) ≡ true
unfolding special_arrays special_scalars emitted all_emitted step_emitted steps_emitted texts_in all_texts stmt_texts stmts_texts code_of codes_of key_code kept_code argument_codes truncated_code applied_code step_code steps_code numeral_at sign_at fraction_at exponent_at numerator denominator digits unescaped escaped octal keywords builtins left_out_words table sign_of
read_into_elements = refl

pub read_into_elements_unboxed : is_typed (module_of (unboxed (false ∷ true ∷ []) ([]) (program_of (resolved scripts.read_into_elements)))) ≡ true
unfolding special_arrays special_scalars emitted all_emitted step_emitted steps_emitted texts_in all_texts stmt_texts stmts_texts code_of codes_of key_code kept_code argument_codes truncated_code applied_code step_code steps_code numeral_at sign_at fraction_at exponent_at numerator denominator digits unescaped escaped octal keywords builtins left_out_words table sign_of
read_into_elements_unboxed = refl

-- BEGIN { while ((getline x) > 0) print x, v, NR; print v }
pub assignments_among_reads : is_typed (module_of (program_of (resolved scripts.assignments_among_reads))) ≡ true
unfolding special_arrays special_scalars emitted all_emitted step_emitted steps_emitted texts_in all_texts stmt_texts stmts_texts code_of codes_of key_code kept_code argument_codes truncated_code applied_code step_code steps_code numeral_at sign_at fraction_at exponent_at numerator denominator digits unescaped escaped octal keywords builtins left_out_words table sign_of
assignments_among_reads = refl

pub assignments_among_reads_unboxed : is_typed (module_of (unboxed (false ∷ true ∷ []) ([]) (program_of (resolved scripts.assignments_among_reads)))) ≡ true
unfolding special_arrays special_scalars emitted all_emitted step_emitted steps_emitted texts_in all_texts stmt_texts stmts_texts code_of codes_of key_code kept_code argument_codes truncated_code applied_code step_code steps_code numeral_at sign_at fraction_at exponent_at numerator denominator digits unescaped escaped octal keywords builtins left_out_words table sign_of
assignments_among_reads_unboxed = refl

-- function f(v) { getline; return v } BEGIN { print f(4), v, $0 }
pub assignment_in_a_call : is_typed (module_of (program_of (resolved scripts.assignment_in_a_call))) ≡ true
unfolding special_arrays special_scalars emitted all_emitted step_emitted steps_emitted texts_in all_texts stmt_texts stmts_texts code_of codes_of key_code kept_code argument_codes truncated_code applied_code step_code steps_code numeral_at sign_at fraction_at exponent_at numerator denominator digits unescaped escaped octal keywords builtins left_out_words table sign_of
assignment_in_a_call = refl

pub assignment_in_a_call_unboxed : is_typed (module_of (unboxed (true ∷ []) ((true ∷ []) ∷ []) (program_of (resolved scripts.assignment_in_a_call)))) ≡ true
unfolding special_arrays special_scalars emitted all_emitted step_emitted steps_emitted texts_in all_texts stmt_texts stmts_texts code_of codes_of key_code kept_code argument_codes truncated_code applied_code step_code steps_code numeral_at sign_at fraction_at exponent_at numerator denominator digits unescaped escaped octal keywords builtins left_out_words table sign_of
assignment_in_a_call_unboxed = refl

-- function g(q) { q[1] = 7 } function f(p) { g(p) } function h(u) { return 3 } BEGIN { f(t); print t[1], h(t), h(), h(w) }
pub arrays_through_calls : is_typed (module_of (program_of (resolved scripts.arrays_through_calls))) ≡ true
unfolding special_arrays special_scalars emitted all_emitted step_emitted steps_emitted texts_in all_texts stmt_texts stmts_texts code_of codes_of key_code kept_code argument_codes truncated_code applied_code step_code steps_code numeral_at sign_at fraction_at exponent_at numerator denominator digits unescaped escaped octal keywords builtins left_out_words table sign_of
arrays_through_calls = refl

-- function r(n, a) { a[n]; if (n) r(n - 1); for (k in a) c = c k } BEGIN { r(2); print c }
pub fresh_array_handed_on : is_typed (module_of (program_of (resolved scripts.fresh_array_handed_on))) ≡ true
unfolding special_arrays special_scalars emitted all_emitted step_emitted steps_emitted texts_in all_texts stmt_texts stmts_texts code_of codes_of key_code kept_code argument_codes truncated_code applied_code step_code steps_code numeral_at sign_at fraction_at exponent_at numerator denominator digits unescaped escaped octal keywords builtins left_out_words table sign_of
fresh_array_handed_on = refl

pub fresh_array_handed_on_unboxed : is_typed (module_of (unboxed ([]) ((true ∷ []) ∷ []) (program_of (resolved scripts.fresh_array_handed_on)))) ≡ true
unfolding special_arrays special_scalars emitted all_emitted step_emitted steps_emitted texts_in all_texts stmt_texts stmts_texts code_of codes_of key_code kept_code argument_codes truncated_code applied_code step_code steps_code numeral_at sign_at fraction_at exponent_at numerator denominator digits unescaped escaped octal keywords builtins left_out_words table sign_of
fresh_array_handed_on_unboxed = refl

-- BEGIN { exit 5 } { print "no" } END { print NR; exit "3x" + 300 }
pub exit_before_records : is_typed (module_of (program_of (resolved scripts.exit_before_records))) ≡ true
unfolding special_arrays special_scalars emitted all_emitted step_emitted steps_emitted texts_in all_texts stmt_texts stmts_texts code_of codes_of key_code kept_code argument_codes truncated_code applied_code step_code steps_code numeral_at sign_at fraction_at exponent_at numerator denominator digits unescaped escaped octal keywords builtins left_out_words table sign_of
exit_before_records = refl

-- function f(x, y) { if (x < y) return x; y = x = x * 2; return y } BEGIN { print f(3, 5), f(7), f("10", 9), f() "." ; n = -n; n += !m; print n, n++
-- + ++n, n-- }
pub numbers_in_names : is_typed (module_of (program_of (resolved scripts.numbers_in_names))) ≡ true
unfolding special_arrays special_scalars emitted all_emitted step_emitted steps_emitted texts_in all_texts stmt_texts stmts_texts code_of codes_of key_code kept_code argument_codes truncated_code applied_code step_code steps_code numeral_at sign_at fraction_at exponent_at numerator denominator digits unescaped escaped octal keywords builtins left_out_words table sign_of
numbers_in_names = refl

pub numbers_in_names_unboxed : is_typed (module_of (unboxed (true ∷ true ∷ []) ((false ∷ true ∷ [])
    ∷ []) (program_of (resolved scripts.numbers_in_names)))) ≡ true
unfolding special_arrays special_scalars emitted all_emitted step_emitted steps_emitted texts_in all_texts stmt_texts stmts_texts code_of codes_of key_code kept_code argument_codes truncated_code applied_code step_code steps_code numeral_at sign_at fraction_at exponent_at numerator denominator digits unescaped escaped octal keywords builtins left_out_words table sign_of
numbers_in_names_unboxed = refl

-- BEGIN { print n < 10, n < "10", n == 9; n = n + 1; print n < 10 }
pub text_in_a_number : is_typed (module_of (program_of (resolved scripts.text_in_a_number))) ≡ true
unfolding special_arrays special_scalars emitted all_emitted step_emitted steps_emitted texts_in all_texts stmt_texts stmts_texts code_of codes_of key_code kept_code argument_codes truncated_code applied_code step_code steps_code numeral_at sign_at fraction_at exponent_at numerator denominator digits unescaped escaped octal keywords builtins left_out_words table sign_of
text_in_a_number = refl

pub text_in_a_number_unboxed : is_typed (module_of (unboxed (true ∷ []) ([]) (program_of (resolved scripts.text_in_a_number)))) ≡ true
unfolding special_arrays special_scalars emitted all_emitted step_emitted steps_emitted texts_in all_texts stmt_texts stmts_texts code_of codes_of key_code kept_code argument_codes truncated_code applied_code step_code steps_code numeral_at sign_at fraction_at exponent_at numerator denominator digits unescaped escaped octal keywords builtins left_out_words table sign_of
text_in_a_number_unboxed = refl
