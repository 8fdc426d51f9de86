-- Runs of modules on the machine over values: of scripts with unboxed names: they are well sorted, and the module agrees.
use Rattle.std.specs.Prelude.{◌≡◌, ℕ, true, false, List, [], ◌∷◌, codes, Some, None, refl}
use Rattle.std.specs.Fmt.{digits}
use Rattle.awk_text.specs.Reading.{numeral_at, sign_at, fraction_at, exponent_at}
use Rattle.awk_text.specs.Number.{numerator, denominator}
use Rattle.awk_text.specs.Escapes.{unescaped, escaped, octal}
use Rattle.awk_tokens.specs.Words.{keywords, builtins, left_out_words}
use Rattle.ere_syntax.specs.Scan.{table}
use Rattle.ere_syntax.specs.Readers.{sign_of}
use Rattle.awk_values.specs.declared.fault.Fault.TheVariants.{Fraction, OpenInput}
use Rattle.world_core.specs.WorldState.{Standard, Named, Outside, Source, absent, replaced, puts}
use Rattle.world_core.specs.declared.world.Ending.{Ending}
use Rattle.world_core.specs.declared.world.Ending.TheVariants.{End}
use Rattle.sem_primitives.specs.Jobs.{JobForm, Closed}
use Rattle.awk_grammar.specs.Kinds.{special_arrays, special_scalars}
use Rattle.sem_scripts.specs.Kinds.{resolved}
use Rattle.sem_scripts.specs.ScriptRun.{Ended, FaultedBy, Exhausted, setting_of}
use Rattle.mid_program.specs.Texts.{texts_in, all_texts, stmt_texts, stmts_texts}
use Rattle.mid_program.specs.Translation.{code_of, codes_of, key_code, kept_code, argument_codes, truncated_code, applied_code, step_code, steps_code, program_of}
use Rattle.mid_program.specs.Scripts as scripts
use Rattle.mid_program.specs.Sorted.{sorted, all_sorted, step_sorted, steps_sorted, is_sorted}
use Rattle.test_parts.specs.Lanes.{unboxed}
use Rattle.lower_model.specs.Emission.{emitted, all_emitted}
use Rattle.lower_model.specs.Statements.{step_emitted, steps_emitted}
use Rattle.lower_model.specs.Runs.{value_run}

abbrev no_job : JobForm
no_job = record { operands = []; assigns = []; environment = [] }

abbrev no_input : Source
no_input = record { rest = []; ending = End }

abbrev empty : Outside
empty = λ target. absent

-- where standard output has room for so many bytes
abbrev narrow : ℕ → Outside
narrow room = replaced Standard (record { bytes = Some []; ending = End; room = Some room; opens = true }) empty

abbrev with_file : List ℕ → List ℕ → Ending → Outside → Outside
with_file name bytes ending outside = replaced (Named name) (record { bytes = Some bytes; ending = ending; room = None; opens = true }) outside

abbrev without_opening : List ℕ → Outside → Outside
without_opening name outside = replaced (Named name) (record { bytes = Some []; ending = End; room = None; opens = false }) outside

-- { if (NF) /x/ || n++ } END { print n/1 }
pub matched_or_counted : is_sorted (unboxed (true ∷ []) ([]) (program_of (resolved scripts.matched_or_counted))) ≡ true
    × value_run (unboxed (true ∷ []) ([]) (program_of (resolved scripts.matched_or_counted)))
    (setting_of no_job (record { rest = (codes "x\ny\n"); ending = End }) empty) 2500 ≡ Some (Ended 0 (puts Standard (codes "1\n")))
unfolding special_arrays special_scalars emitted all_emitted step_emitted steps_emitted texts_in all_texts stmt_texts stmts_texts code_of codes_of key_code kept_code argument_codes truncated_code applied_code step_code steps_code numeral_at sign_at fraction_at exponent_at numerator denominator digits unescaped escaped octal keywords builtins left_out_words table sign_of sorted all_sorted step_sorted steps_sorted
matched_or_counted = (refl, refl)

-- BEGIN { if (0) n = 1 % 0; print "[" n "]", n+0 }
pub unset_name : is_sorted (unboxed (true ∷ []) ([]) (program_of (resolved scripts.unset_name))) ≡ true
    × value_run (unboxed (true ∷ []) ([]) (program_of (resolved scripts.unset_name))) (setting_of no_job no_input empty) 2500
    ≡ Some (Ended 0 (puts Standard (codes "[] 0\n")))
unfolding special_arrays special_scalars emitted all_emitted step_emitted steps_emitted texts_in all_texts stmt_texts stmts_texts code_of codes_of key_code kept_code argument_codes truncated_code applied_code step_code steps_code numeral_at sign_at fraction_at exponent_at numerator denominator digits unescaped escaped octal keywords builtins left_out_words table sign_of sorted all_sorted step_sorted steps_sorted
unset_name = (refl, refl)

-- BEGIN { print n; n++; print n }
pub assigned_before : is_sorted (unboxed (true ∷ []) ([]) (program_of (resolved scripts.assigned_before))) ≡ true
    × value_run (unboxed (true ∷ []) ([]) (program_of (resolved scripts.assigned_before)))
    (setting_of (record { operands = []; assigns = (((codes "n"), (codes "007")) ∷ []); environment = [] }) no_input empty) 2500
    ≡ Some (Ended 0 (puts Standard (codes "007\n8\n")))
unfolding special_arrays special_scalars emitted all_emitted step_emitted steps_emitted texts_in all_texts stmt_texts stmts_texts code_of codes_of key_code kept_code argument_codes truncated_code applied_code step_code steps_code numeral_at sign_at fraction_at exponent_at numerator denominator digits unescaped escaped octal keywords builtins left_out_words table sign_of sorted all_sorted step_sorted steps_sorted
assigned_before = (refl, refl)

-- BEGIN { s = "abxxc"; n = gsub(/x*/, "-", s); print n, s }
pub all_replaced : is_sorted (unboxed (false ∷ true ∷ []) ([]) (program_of (resolved scripts.all_replaced))) ≡ true
    × value_run (unboxed (false ∷ true ∷ []) ([]) (program_of (resolved scripts.all_replaced))) (setting_of no_job no_input empty) 2500
    ≡ Some (Ended 0 (puts Standard (codes "4 -a-b-c-\n")))
unfolding special_arrays special_scalars emitted all_emitted step_emitted steps_emitted texts_in all_texts stmt_texts stmts_texts code_of codes_of key_code kept_code argument_codes truncated_code applied_code step_code steps_code numeral_at sign_at fraction_at exponent_at numerator denominator digits unescaped escaped octal keywords builtins left_out_words table sign_of sorted all_sorted step_sorted steps_sorted
all_replaced = (refl, refl)

-- function r(n) { return n ? r(n-1) : 7 } BEGIN { print r(3) }
pub calls_nested : is_sorted (unboxed ([]) ((true ∷ []) ∷ []) (program_of (resolved scripts.calls_nested))) ≡ true
    × value_run (unboxed ([]) ((true ∷ [])
    ∷ []) (program_of (resolved scripts.calls_nested))) (record { job = no_job; input = no_input; outside = Closed empty; deepest = 4 }) 2500
    ≡ Some (Ended 0 (puts Standard (codes "7\n")))
unfolding special_arrays special_scalars emitted all_emitted step_emitted steps_emitted texts_in all_texts stmt_texts stmts_texts code_of codes_of key_code kept_code argument_codes truncated_code applied_code step_code steps_code numeral_at sign_at fraction_at exponent_at numerator denominator digits unescaped escaped octal keywords builtins left_out_words table sign_of sorted all_sorted step_sorted steps_sorted
calls_nested = (refl, refl)

-- function r(n) { return n ? r(n-1) : 7 } BEGIN { print "x"; print r(4) }
pub calls_too_deep : is_sorted (unboxed ([]) ((true ∷ []) ∷ []) (program_of (resolved scripts.calls_too_deep))) ≡ true
    × value_run (unboxed ([]) ((true ∷ [])
    ∷ []) (program_of (resolved scripts.calls_too_deep))) (record { job = no_job; input = no_input; outside = Closed empty; deepest = 4 }) 2500
    ≡ Some (Exhausted (puts Standard (codes "x\n")))
unfolding special_arrays special_scalars emitted all_emitted step_emitted steps_emitted texts_in all_texts stmt_texts stmts_texts code_of codes_of key_code kept_code argument_codes truncated_code applied_code step_code steps_code numeral_at sign_at fraction_at exponent_at numerator denominator digits unescaped escaped octal keywords builtins left_out_words table sign_of sorted all_sorted step_sorted steps_sorted
calls_too_deep = (refl, refl)

-- { print v, FILENAME, FNR, NR }
pub assignments_between_files : is_sorted (unboxed (true ∷ []) ([]) (program_of (resolved scripts.assignments_between_files))) ≡ true
    × value_run (unboxed (true ∷ []) ([]) (program_of (resolved scripts.assignments_between_files))) (setting_of (record {
      operands = ((codes "v=1")
          ∷ (codes "f") ∷ (codes "v=a b") ∷ (codes "g") ∷ (codes "h")
          ∷ []);
      assigns = [];
      environment = [];
    }) no_input (with_file (codes "g") (codes "q") End (with_file (codes "f") (codes "p\n") End empty))) 2500
    ≡ Some (FaultedBy OpenInput (puts Standard (codes "1 f 1 1\na b g 1 2\n")))
unfolding special_arrays special_scalars emitted all_emitted step_emitted steps_emitted texts_in all_texts stmt_texts stmts_texts code_of codes_of key_code kept_code argument_codes truncated_code applied_code step_code steps_code numeral_at sign_at fraction_at exponent_at numerator denominator digits unescaped escaped octal keywords builtins left_out_words table sign_of sorted all_sorted step_sorted steps_sorted
assignments_between_files = (refl, refl)

-- { print ($1 == 1), ($1 == "1"), (u == 0), (u == "") }
pub numeric_strings : is_sorted (unboxed (true ∷ []) ([]) (program_of (resolved scripts.numeric_strings))) ≡ true
    × value_run (unboxed (true ∷ []) ([]) (program_of (resolved scripts.numeric_strings)))
    (setting_of no_job (record { rest = (codes "1.0\n"); ending = End }) empty) 2500 ≡ Some (Ended 0 (puts Standard (codes "1 0 1 1\n")))
unfolding special_arrays special_scalars emitted all_emitted step_emitted steps_emitted texts_in all_texts stmt_texts stmts_texts code_of codes_of key_code kept_code argument_codes truncated_code applied_code step_code steps_code numeral_at sign_at fraction_at exponent_at numerator denominator digits unescaped escaped octal keywords builtins left_out_words table sign_of sorted all_sorted step_sorted steps_sorted
numeric_strings = (refl, refl)

-- BEGIN { n = 1; print n ++ 2; print "a" ++n; x = 1 + 2 " " 3; print x; print 1==1, 2 ^ 3 ^ 2, -2 ^ 2, !1 + 1 }
pub steps_and_powers : is_sorted (unboxed (true ∷ false ∷ []) ([]) (program_of (resolved scripts.steps_and_powers))) ≡ true
    × value_run (unboxed (true ∷ false ∷ []) ([]) (program_of (resolved scripts.steps_and_powers))) (setting_of no_job no_input empty) 2500
    ≡ Some (Ended 0 (puts Standard (codes "12\na3\n3 3\n1 512 -4 1\n")))
unfolding special_arrays special_scalars emitted all_emitted step_emitted steps_emitted texts_in all_texts stmt_texts stmts_texts code_of codes_of key_code kept_code argument_codes truncated_code applied_code step_code steps_code numeral_at sign_at fraction_at exponent_at numerator denominator digits unescaped escaped octal keywords builtins left_out_words table sign_of sorted all_sorted step_sorted steps_sorted
steps_and_powers = (refl, refl)

-- BEGIN { for (;;) if (i++ > 2) break; print i }
pub test_left_out_costs_a_turn : is_sorted (unboxed (true ∷ []) ([]) (program_of (resolved scripts.test_left_out_costs_a_turn))) ≡ true
    × value_run (unboxed (true ∷ []) ([]) (program_of (resolved scripts.test_left_out_costs_a_turn))) (setting_of no_job no_input empty) 2500
    ≡ Some (Ended 0 (puts Standard (codes "4\n")))
unfolding special_arrays special_scalars emitted all_emitted step_emitted steps_emitted texts_in all_texts stmt_texts stmts_texts code_of codes_of key_code kept_code argument_codes truncated_code applied_code step_code steps_code numeral_at sign_at fraction_at exponent_at numerator denominator digits unescaped escaped octal keywords builtins left_out_words table sign_of sorted all_sorted step_sorted steps_sorted
test_left_out_costs_a_turn = (refl, refl)

-- BEGIN { x = 1; x += x++; print x; y = "0.5"; y += "1e99" }
pub old_value_after_right_side : is_sorted (unboxed (true ∷ false ∷ []) ([]) (program_of (resolved scripts.old_value_after_right_side))) ≡ true
    × value_run (unboxed (true ∷ false ∷ []) ([]) (program_of (resolved scripts.old_value_after_right_side))) (setting_of no_job no_input empty) 2500
    ≡ Some (FaultedBy Fraction (puts Standard (codes "3\n")))
unfolding special_arrays special_scalars emitted all_emitted step_emitted steps_emitted texts_in all_texts stmt_texts stmts_texts code_of codes_of key_code kept_code argument_codes truncated_code applied_code step_code steps_code numeral_at sign_at fraction_at exponent_at numerator denominator digits unescaped escaped octal keywords builtins left_out_words table sign_of sorted all_sorted step_sorted steps_sorted
old_value_after_right_side = (refl, refl)

-- function f(a, n, own) { own[1] = n; a["k"] = own[1]; n = 9; return length(own[1]) } BEGIN { n = 12; print f(t, n), t["k"], n }
pub arrays_by_reference : is_sorted (unboxed (true ∷ []) ([]) (program_of (resolved scripts.arrays_by_reference))) ≡ true
    × value_run (unboxed (true ∷ []) ([]) (program_of (resolved scripts.arrays_by_reference))) (setting_of no_job no_input empty) 2500
    ≡ Some (Ended 0 (puts Standard (codes "2 12 12\n")))
unfolding special_arrays special_scalars emitted all_emitted step_emitted steps_emitted texts_in all_texts stmt_texts stmts_texts code_of codes_of key_code kept_code argument_codes truncated_code applied_code step_code steps_code numeral_at sign_at fraction_at exponent_at numerator denominator digits unescaped escaped octal keywords builtins left_out_words table sign_of sorted all_sorted step_sorted steps_sorted
arrays_by_reference = (refl, refl)

-- BEGIN { do { i++; if (i == 2) continue; if (i == 4) break; print i } while (i < 9); for (j = 0; j < 3; j++) { if (j == 1) continue; print j } }
pub do_and_continue : is_sorted (unboxed (true ∷ true ∷ []) ([]) (program_of (resolved scripts.do_and_continue))) ≡ true
    × value_run (unboxed (true ∷ true ∷ []) ([]) (program_of (resolved scripts.do_and_continue))) (setting_of no_job no_input empty) 2500
    ≡ Some (Ended 0 (puts Standard (codes "1\n3\n0\n2\n")))
unfolding special_arrays special_scalars emitted all_emitted step_emitted steps_emitted texts_in all_texts stmt_texts stmts_texts code_of codes_of key_code kept_code argument_codes truncated_code applied_code step_code steps_code numeral_at sign_at fraction_at exponent_at numerator denominator digits unescaped escaped octal keywords builtins left_out_words table sign_of sorted all_sorted step_sorted steps_sorted
do_and_continue = (refl, refl)

-- function k() { printf "k"; return "q" } BEGIN { a["q"] = "aXb"; n = sub(/X/, "[&]", a[k()]); print n, a["q"] }
pub sub_keeps_key : is_sorted (unboxed (false ∷ true ∷ []) ([]) (program_of (resolved scripts.sub_keeps_key))) ≡ true
    × value_run (unboxed (false ∷ true ∷ []) ([]) (program_of (resolved scripts.sub_keeps_key))) (setting_of no_job no_input empty) 2500
    ≡ Some (Ended 0 (puts Standard (codes "k1 a[X]b\n")))
unfolding special_arrays special_scalars emitted all_emitted step_emitted steps_emitted texts_in all_texts stmt_texts stmts_texts code_of codes_of key_code kept_code argument_codes truncated_code applied_code step_code steps_code numeral_at sign_at fraction_at exponent_at numerator denominator digits unescaped escaped octal keywords builtins left_out_words table sign_of sorted all_sorted step_sorted steps_sorted
sub_keeps_key = (refl, refl)
