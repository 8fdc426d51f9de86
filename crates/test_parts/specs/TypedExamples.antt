-- Runs of modules on the machine over values: they are typed.
use Rattle.std.specs.Prelude.{◌≡◌, ℕ, true, false, List, [], ◌∷◌, Some, None, refl}
use Rattle.std.specs.Fmt.{digits}
use Rattle.awk_text.specs.Reading.{numeral_at, sign_at, fraction_at, exponent_at}
use Rattle.awk_text.specs.Number.{numerator, denominator}
use Rattle.awk_text.specs.Escapes.{unescaped, escaped, octal}
use Rattle.awk_tokens.specs.Words.{keywords, builtins, left_out_words}
use Rattle.ere_syntax.specs.Scan.{table}
use Rattle.ere_syntax.specs.Readers.{sign_of}
use Rattle.world_core.specs.WorldState.{Standard, Named, Outside, Source, absent, replaced}
use Rattle.world_core.specs.declared.world.Ending.{Ending}
use Rattle.world_core.specs.declared.world.Ending.TheVariants.{End}
use Rattle.sem_primitives.specs.Jobs.{JobForm}
use Rattle.awk_grammar.specs.Kinds.{special_arrays, special_scalars}
use Rattle.sem_scripts.specs.Kinds.{resolved}
use Rattle.mid_program.specs.Texts.{texts_in, all_texts, stmt_texts, stmts_texts}
use Rattle.mid_program.specs.Translation.{code_of, codes_of, key_code, kept_code, argument_codes, truncated_code, applied_code, step_code, steps_code, program_of}
use Rattle.mid_program.specs.Scripts as scripts
use Rattle.test_parts.specs.Lanes.{unboxed}
use Rattle.lower_model.specs.Modules.{module_of}
use Rattle.test_parts.specs.Typed.{is_typed}
use Rattle.lower_model.specs.Emission.{emitted, all_emitted}
use Rattle.lower_model.specs.Statements.{step_emitted, steps_emitted}

abbrev no_job : JobForm
no_job = record { operands = []; assigns = []; environment = [] }

abbrev no_input : Source
no_input = record { rest = []; ending = End }

abbrev empty : Outside
empty = λ target. absent

-- where standard output has room for so many bytes
abbrev narrow : ℕ → Outside
narrow room = replaced Standard (record { bytes = Some []; ending = End; room = Some room; opens = true }) empty

abbrev with_file : List ℕ → List ℕ → Ending → Outside → Outside
with_file name bytes ending outside = replaced (Named name) (record { bytes = Some bytes; ending = ending; room = None; opens = true }) outside

abbrev without_opening : List ℕ → Outside → Outside
without_opening name outside = replaced (Named name) (record { bytes = Some []; ending = End; room = None; opens = false }) outside

-- BEGIN { print 2+3 }
pub sum_printed : is_typed (module_of (program_of (resolved scripts.sum_printed))) ≡ true
unfolding special_arrays special_scalars emitted all_emitted step_emitted steps_emitted texts_in all_texts stmt_texts stmts_texts code_of codes_of key_code kept_code argument_codes truncated_code applied_code step_code steps_code numeral_at sign_at fraction_at exponent_at numerator denominator digits unescaped escaped octal keywords builtins left_out_words table sign_of
sum_printed = refl

-- BEGIN { print int(7/2), int(-7/2), -7%3; print 7/2; print "no" }
pub quotients : is_typed (module_of (program_of (resolved scripts.quotients))) ≡ true
unfolding special_arrays special_scalars emitted all_emitted step_emitted steps_emitted texts_in all_texts stmt_texts stmts_texts code_of codes_of key_code kept_code argument_codes truncated_code applied_code step_code steps_code numeral_at sign_at fraction_at exponent_at numerator denominator digits unescaped escaped octal keywords builtins left_out_words table sign_of
quotients = refl

-- { if (NF) /x/ || n++ } END { print n/1 }
pub matched_or_counted : is_typed (module_of (program_of (resolved scripts.matched_or_counted))) ≡ true
unfolding special_arrays special_scalars emitted all_emitted step_emitted steps_emitted texts_in all_texts stmt_texts stmts_texts code_of codes_of key_code kept_code argument_codes truncated_code applied_code step_code steps_code numeral_at sign_at fraction_at exponent_at numerator denominator digits unescaped escaped octal keywords builtins left_out_words table sign_of
matched_or_counted = refl

pub matched_or_counted_unboxed : is_typed (module_of (unboxed (true ∷ []) ([]) (program_of (resolved scripts.matched_or_counted)))) ≡ true
unfolding special_arrays special_scalars emitted all_emitted step_emitted steps_emitted texts_in all_texts stmt_texts stmts_texts code_of codes_of key_code kept_code argument_codes truncated_code applied_code step_code steps_code numeral_at sign_at fraction_at exponent_at numerator denominator digits unescaped escaped octal keywords builtins left_out_words table sign_of
matched_or_counted_unboxed = refl

-- BEGIN { if (0) n = 1 % 0; print "[" n "]", n+0 }
pub unset_name : is_typed (module_of (program_of (resolved scripts.unset_name))) ≡ true
unfolding special_arrays special_scalars emitted all_emitted step_emitted steps_emitted texts_in all_texts stmt_texts stmts_texts code_of codes_of key_code kept_code argument_codes truncated_code applied_code step_code steps_code numeral_at sign_at fraction_at exponent_at numerator denominator digits unescaped escaped octal keywords builtins left_out_words table sign_of
unset_name = refl

pub unset_name_unboxed : is_typed (module_of (unboxed (true ∷ []) ([]) (program_of (resolved scripts.unset_name)))) ≡ true
unfolding special_arrays special_scalars emitted all_emitted step_emitted steps_emitted texts_in all_texts stmt_texts stmts_texts code_of codes_of key_code kept_code argument_codes truncated_code applied_code step_code steps_code numeral_at sign_at fraction_at exponent_at numerator denominator digits unescaped escaped octal keywords builtins left_out_words table sign_of
unset_name_unboxed = refl

-- function f(x) { if (x == "b") next; return x } { print "<" f($1) ">" }
pub next_in_function : is_typed (module_of (program_of (resolved scripts.next_in_function))) ≡ true
unfolding special_arrays special_scalars emitted all_emitted step_emitted steps_emitted texts_in all_texts stmt_texts stmts_texts code_of codes_of key_code kept_code argument_codes truncated_code applied_code step_code steps_code numeral_at sign_at fraction_at exponent_at numerator denominator digits unescaped escaped octal keywords builtins left_out_words table sign_of
next_in_function = refl

-- function g() { exit 3 } BEGIN { print "a" g(); print "no" } END { print "end" }
pub exit_in_function : is_typed (module_of (program_of (resolved scripts.exit_in_function))) ≡ true
unfolding special_arrays special_scalars emitted all_emitted step_emitted steps_emitted texts_in all_texts stmt_texts stmts_texts code_of codes_of key_code kept_code argument_codes truncated_code applied_code step_code steps_code numeral_at sign_at fraction_at exponent_at numerator denominator digits unescaped escaped octal keywords builtins left_out_words table sign_of
exit_in_function = refl

-- BEGIN { s = "abxxc"; n = gsub(/x*/, "-", s); print n, s }
pub all_replaced : is_typed (module_of (program_of (resolved scripts.all_replaced))) ≡ true
unfolding special_arrays special_scalars emitted all_emitted step_emitted steps_emitted texts_in all_texts stmt_texts stmts_texts code_of codes_of key_code kept_code argument_codes truncated_code applied_code step_code steps_code numeral_at sign_at fraction_at exponent_at numerator denominator digits unescaped escaped octal keywords builtins left_out_words table sign_of
all_replaced = refl

pub all_replaced_unboxed : is_typed (module_of (unboxed (false ∷ true ∷ []) ([]) (program_of (resolved scripts.all_replaced)))) ≡ true
unfolding special_arrays special_scalars emitted all_emitted step_emitted steps_emitted texts_in all_texts stmt_texts stmts_texts code_of codes_of key_code kept_code argument_codes truncated_code applied_code step_code steps_code numeral_at sign_at fraction_at exponent_at numerator denominator digits unescaped escaped octal keywords builtins left_out_words table sign_of
all_replaced_unboxed = refl

-- BEGIN { OFS = "-" } { $5 = "e"; print; print NF; NF = 2; print }
pub fields_joined : is_typed (module_of (program_of (resolved scripts.fields_joined))) ≡ true
unfolding special_arrays special_scalars emitted all_emitted step_emitted steps_emitted texts_in all_texts stmt_texts stmts_texts code_of codes_of key_code kept_code argument_codes truncated_code applied_code step_code steps_code numeral_at sign_at fraction_at exponent_at numerator denominator digits unescaped escaped octal keywords builtins left_out_words table sign_of
fields_joined = refl

-- function r(n) { return n ? r(n-1) : 7 } BEGIN { print r(3) }
pub calls_nested : is_typed (module_of (program_of (resolved scripts.calls_nested))) ≡ true
unfolding special_arrays special_scalars emitted all_emitted step_emitted steps_emitted texts_in all_texts stmt_texts stmts_texts code_of codes_of key_code kept_code argument_codes truncated_code applied_code step_code steps_code numeral_at sign_at fraction_at exponent_at numerator denominator digits unescaped escaped octal keywords builtins left_out_words table sign_of
calls_nested = refl

pub calls_nested_unboxed : is_typed (module_of (unboxed ([]) ((true ∷ []) ∷ []) (program_of (resolved scripts.calls_nested)))) ≡ true
unfolding special_arrays special_scalars emitted all_emitted step_emitted steps_emitted texts_in all_texts stmt_texts stmts_texts code_of codes_of key_code kept_code argument_codes truncated_code applied_code step_code steps_code numeral_at sign_at fraction_at exponent_at numerator denominator digits unescaped escaped octal keywords builtins left_out_words table sign_of
calls_nested_unboxed = refl

-- BEGIN { printf "%5d|%-4s|%04d|%x|%c|%.2f|%%\n", 42, "ab", -7, 255, 65, 3; printf "%d\n" }
pub formatted : is_typed (module_of (program_of (resolved scripts.formatted))) ≡ true
unfolding special_arrays special_scalars emitted all_emitted step_emitted steps_emitted texts_in all_texts stmt_texts stmts_texts code_of codes_of key_code kept_code argument_codes truncated_code applied_code step_code steps_code numeral_at sign_at fraction_at exponent_at numerator denominator digits unescaped escaped octal keywords builtins left_out_words table sign_of
formatted = refl

-- BEGIN { print ("abcd" ~ "b|bc"), match("abcd", "b|bc"), RSTART, RLENGTH; print "x" ~ "(" }
pub longest_match : is_typed (module_of (program_of (resolved scripts.longest_match))) ≡ true
unfolding special_arrays special_scalars emitted all_emitted step_emitted steps_emitted texts_in all_texts stmt_texts stmts_texts code_of codes_of key_code kept_code argument_codes truncated_code applied_code step_code steps_code numeral_at sign_at fraction_at exponent_at numerator denominator digits unescaped escaped octal keywords builtins left_out_words table sign_of
longest_match = refl

-- BEGIN { a["x"]; a["y"]; a["z"]; delete a["x"]; a["x"] = 1; for (k in a) { printf "%s ", k; delete a["x"] }; print ("x" in a) }
pub keys_visited : is_typed (module_of (program_of (resolved scripts.keys_visited))) ≡ true
unfolding special_arrays special_scalars emitted all_emitted step_emitted steps_emitted texts_in all_texts stmt_texts stmts_texts code_of codes_of key_code kept_code argument_codes truncated_code applied_code step_code steps_code numeral_at sign_at fraction_at exponent_at numerator denominator digits unescaped escaped octal keywords builtins left_out_words table sign_of
keys_visited = refl

-- BEGIN { print "a" > "f"; print "b" > "f"; print close("f"), close("f"); while ((getline x < "f") > 0) print "got " x; print "c" >> "f" }
pub file_written_and_read : is_typed (module_of (program_of (resolved scripts.file_written_and_read))) ≡ true
unfolding special_arrays special_scalars emitted all_emitted step_emitted steps_emitted texts_in all_texts stmt_texts stmts_texts code_of codes_of key_code kept_code argument_codes truncated_code applied_code step_code steps_code numeral_at sign_at fraction_at exponent_at numerator denominator digits unescaped escaped octal keywords builtins left_out_words table sign_of
file_written_and_read = refl

-- { print v, FILENAME, FNR, NR }
pub assignments_between_files : is_typed (module_of (program_of (resolved scripts.assignments_between_files))) ≡ true
unfolding special_arrays special_scalars emitted all_emitted step_emitted steps_emitted texts_in all_texts stmt_texts stmts_texts code_of codes_of key_code kept_code argument_codes truncated_code applied_code step_code steps_code numeral_at sign_at fraction_at exponent_at numerator denominator digits unescaped escaped octal keywords builtins left_out_words table sign_of
assignments_between_files = refl

pub assignments_between_files_unboxed : is_typed (module_of (unboxed (true ∷ []) ([]) (program_of (resolved scripts.assignments_between_files)))) ≡ true
unfolding special_arrays special_scalars emitted all_emitted step_emitted steps_emitted texts_in all_texts stmt_texts stmts_texts code_of codes_of key_code kept_code argument_codes truncated_code applied_code step_code steps_code numeral_at sign_at fraction_at exponent_at numerator denominator digits unescaped escaped octal keywords builtins left_out_words table sign_of
assignments_between_files_unboxed = refl

-- { print ($1 == 1), ($1 == "1"), (u == 0), (u == "") }
pub numeric_strings : is_typed (module_of (program_of (resolved scripts.numeric_strings))) ≡ true
unfolding special_arrays special_scalars emitted all_emitted step_emitted steps_emitted texts_in all_texts stmt_texts stmts_texts code_of codes_of key_code kept_code argument_codes truncated_code applied_code step_code steps_code numeral_at sign_at fraction_at exponent_at numerator denominator digits unescaped escaped octal keywords builtins left_out_words table sign_of
numeric_strings = refl

pub numeric_strings_unboxed : is_typed (module_of (unboxed (true ∷ []) ([]) (program_of (resolved scripts.numeric_strings)))) ≡ true
unfolding special_arrays special_scalars emitted all_emitted step_emitted steps_emitted texts_in all_texts stmt_texts stmts_texts code_of codes_of key_code kept_code argument_codes truncated_code applied_code step_code steps_code numeral_at sign_at fraction_at exponent_at numerator denominator digits unescaped escaped octal keywords builtins left_out_words table sign_of
numeric_strings_unboxed = refl

-- NR == 1 { getline; print; getline x; print x, NR, $0 }
pub getline_in_loop : is_typed (module_of (program_of (resolved scripts.getline_in_loop))) ≡ true
unfolding special_arrays special_scalars emitted all_emitted step_emitted steps_emitted texts_in all_texts stmt_texts stmts_texts code_of codes_of key_code kept_code argument_codes truncated_code applied_code step_code steps_code numeral_at sign_at fraction_at exponent_at numerator denominator digits unescaped escaped octal keywords builtins left_out_words table sign_of
getline_in_loop = refl

-- /b/, /c/; /b/, /b/ { print NR }
pub ranges : is_typed (module_of (program_of (resolved scripts.ranges))) ≡ true
unfolding special_arrays special_scalars emitted all_emitted step_emitted steps_emitted texts_in all_texts stmt_texts stmts_texts code_of codes_of key_code kept_code argument_codes truncated_code applied_code step_code steps_code numeral_at sign_at fraction_at exponent_at numerator denominator digits unescaped escaped octal keywords builtins left_out_words table sign_of
ranges = refl

-- BEGIN { print substr("hello", 0, 3), substr("hello", -1), substr("hello", 4, 99), index("hello", "l"), split("a:b::c", p, ":"), "[" p[3] "]",
-- toupper("ab") tolower("CD") }
pub text_functions : is_typed (module_of (program_of (resolved scripts.text_functions))) ≡ true
unfolding special_arrays special_scalars emitted all_emitted step_emitted steps_emitted texts_in all_texts stmt_texts stmts_texts code_of codes_of key_code kept_code argument_codes truncated_code applied_code step_code steps_code numeral_at sign_at fraction_at exponent_at numerator denominator digits unescaped escaped octal keywords builtins left_out_words table sign_of
text_functions = refl

-- BEGIN { n = 1; print n ++ 2; print "a" ++n; x = 1 + 2 " " 3; print x; print 1==1, 2 ^ 3 ^ 2, -2 ^ 2, !1 + 1 }
pub steps_and_powers : is_typed (module_of (program_of (resolved scripts.steps_and_powers))) ≡ true
unfolding special_arrays special_scalars emitted all_emitted step_emitted steps_emitted texts_in all_texts stmt_texts stmts_texts code_of codes_of key_code kept_code argument_codes truncated_code applied_code step_code steps_code numeral_at sign_at fraction_at exponent_at numerator denominator digits unescaped escaped octal keywords builtins left_out_words table sign_of
steps_and_powers = refl

pub steps_and_powers_unboxed : is_typed (module_of (unboxed (true ∷ false ∷ []) ([]) (program_of (resolved scripts.steps_and_powers)))) ≡ true
unfolding special_arrays special_scalars emitted all_emitted step_emitted steps_emitted texts_in all_texts stmt_texts stmts_texts code_of codes_of key_code kept_code argument_codes truncated_code applied_code step_code steps_code numeral_at sign_at fraction_at exponent_at numerator denominator digits unescaped escaped octal keywords builtins left_out_words table sign_of
steps_and_powers_unboxed = refl

-- BEGIN { a["x"] = a["y"]; for (k in a) print k; b["k"] = ("k" in b); print b["k"] }
pub element_made_last : is_typed (module_of (program_of (resolved scripts.element_made_last))) ≡ true
unfolding special_arrays special_scalars emitted all_emitted step_emitted steps_emitted texts_in all_texts stmt_texts stmts_texts code_of codes_of key_code kept_code argument_codes truncated_code applied_code step_code steps_code numeral_at sign_at fraction_at exponent_at numerator denominator digits unescaped escaped octal keywords builtins left_out_words table sign_of
element_made_last = refl

-- BEGIN { a[1, 2, SUBSEP = "-"] = 5; for (k in a) print k; print ((1, 2, "-") in a) }
pub subscripts_joined : is_typed (module_of (program_of (resolved scripts.subscripts_joined))) ≡ true
unfolding special_arrays special_scalars emitted all_emitted step_emitted steps_emitted texts_in all_texts stmt_texts stmts_texts code_of codes_of key_code kept_code argument_codes truncated_code applied_code step_code steps_code numeral_at sign_at fraction_at exponent_at numerator denominator digits unescaped escaped octal keywords builtins left_out_words table sign_of
subscripts_joined = refl

-- function f(a, n, own) { own[1] = n; a["k"] = own[1]; n = 9; return length(own[1]) } BEGIN { n = 12; print f(t, n), t["k"], n }
pub arrays_by_reference : is_typed (module_of (program_of (resolved scripts.arrays_by_reference))) ≡ true
unfolding special_arrays special_scalars emitted all_emitted step_emitted steps_emitted texts_in all_texts stmt_texts stmts_texts code_of codes_of key_code kept_code argument_codes truncated_code applied_code step_code steps_code numeral_at sign_at fraction_at exponent_at numerator denominator digits unescaped escaped octal keywords builtins left_out_words table sign_of
arrays_by_reference = refl

pub arrays_by_reference_unboxed : is_typed (module_of (unboxed (true ∷ []) ([]) (program_of (resolved scripts.arrays_by_reference)))) ≡ true
unfolding special_arrays special_scalars emitted all_emitted step_emitted steps_emitted texts_in all_texts stmt_texts stmts_texts code_of codes_of key_code kept_code argument_codes truncated_code applied_code step_code steps_code numeral_at sign_at fraction_at exponent_at numerator denominator digits unescaped escaped octal keywords builtins left_out_words table sign_of
arrays_by_reference_unboxed = refl

-- BEGIN { do { i++; if (i == 2) continue; if (i == 4) break; print i } while (i < 9); for (j = 0; j < 3; j++) { if (j == 1) continue; print j } }
pub do_and_continue : is_typed (module_of (program_of (resolved scripts.do_and_continue))) ≡ true
unfolding special_arrays special_scalars emitted all_emitted step_emitted steps_emitted texts_in all_texts stmt_texts stmts_texts code_of codes_of key_code kept_code argument_codes truncated_code applied_code step_code steps_code numeral_at sign_at fraction_at exponent_at numerator denominator digits unescaped escaped octal keywords builtins left_out_words table sign_of
do_and_continue = refl

pub do_and_continue_unboxed : is_typed (module_of (unboxed (true ∷ true ∷ []) ([]) (program_of (resolved scripts.do_and_continue)))) ≡ true
unfolding special_arrays special_scalars emitted all_emitted step_emitted steps_emitted texts_in all_texts stmt_texts stmts_texts code_of codes_of key_code kept_code argument_codes truncated_code applied_code step_code steps_code numeral_at sign_at fraction_at exponent_at numerator denominator digits unescaped escaped octal keywords builtins left_out_words table sign_of
do_and_continue_unboxed = refl

-- BEGIN { exit 2 } END { print "e"; exit; print "no" }
pub exit_in_end : is_typed (module_of (program_of (resolved scripts.exit_in_end))) ≡ true
unfolding special_arrays special_scalars emitted all_emitted step_emitted steps_emitted texts_in all_texts stmt_texts stmts_texts code_of codes_of key_code kept_code argument_codes truncated_code applied_code step_code steps_code numeral_at sign_at fraction_at exponent_at numerator denominator digits unescaped escaped octal keywords builtins left_out_words table sign_of
exit_in_end = refl

-- END { print getline, getline x, x "", NR }
pub getline_at_end : is_typed (module_of (program_of (resolved scripts.getline_at_end))) ≡ true
unfolding special_arrays special_scalars emitted all_emitted step_emitted steps_emitted texts_in all_texts stmt_texts stmts_texts code_of codes_of key_code kept_code argument_codes truncated_code applied_code step_code steps_code numeral_at sign_at fraction_at exponent_at numerator denominator digits unescaped escaped octal keywords builtins left_out_words table sign_of
getline_at_end = refl

-- function k() { printf "k"; return "q" } BEGIN { a["q"] = "aXb"; n = sub(/X/, "[&]", a[k()]); print n, a["q"] }
pub sub_keeps_key : is_typed (module_of (program_of (resolved scripts.sub_keeps_key))) ≡ true
unfolding special_arrays special_scalars emitted all_emitted step_emitted steps_emitted texts_in all_texts stmt_texts stmts_texts code_of codes_of key_code kept_code argument_codes truncated_code applied_code step_code steps_code numeral_at sign_at fraction_at exponent_at numerator denominator digits unescaped escaped octal keywords builtins left_out_words table sign_of
sub_keeps_key = refl

pub sub_keeps_key_unboxed : is_typed (module_of (unboxed (false ∷ true ∷ []) ([]) (program_of (resolved scripts.sub_keeps_key)))) ≡ true
unfolding special_arrays special_scalars emitted all_emitted step_emitted steps_emitted texts_in all_texts stmt_texts stmts_texts code_of codes_of key_code kept_code argument_codes truncated_code applied_code step_code steps_code numeral_at sign_at fraction_at exponent_at numerator denominator digits unescaped escaped octal keywords builtins left_out_words table sign_of
sub_keeps_key_unboxed = refl

-- BEGIN { $0 = "a b"; print > ($0 = "f") }
pub target_after_operands : is_typed (module_of (program_of (resolved scripts.target_after_operands))) ≡ true
unfolding special_arrays special_scalars emitted all_emitted step_emitted steps_emitted texts_in all_texts stmt_texts stmts_texts code_of codes_of key_code kept_code argument_codes truncated_code applied_code step_code steps_code numeral_at sign_at fraction_at exponent_at numerator denominator digits unescaped escaped octal keywords builtins left_out_words table sign_of
target_after_operands = refl
