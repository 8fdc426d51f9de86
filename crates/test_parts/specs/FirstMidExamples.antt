-- The same runs, computed from the scripts' mid code; and that this code is well sorted.
use Rattle.std.specs.Prelude.{◌≡◌, ℕ, true, false, List, [], ◌∷◌, ◌++◌, codes, Some, None, refl}
use Rattle.std.specs.Fmt.{digits}
use Rattle.awk_text.specs.Reading.{numeral_at, sign_at, fraction_at, exponent_at}
use Rattle.awk_text.specs.Number.{numerator, denominator}
use Rattle.awk_text.specs.Escapes.{unescaped, escaped, octal}
use Rattle.awk_tokens.specs.Words.{keywords, builtins, left_out_words}
use Rattle.ere_syntax.specs.Scan.{table}
use Rattle.ere_syntax.specs.Readers.{sign_of}
use Rattle.awk_values.specs.declared.fault.Fault.TheVariants.{Range, Fraction, DivisionByZero, Inexact, FieldNumber, Format, BadEre, OpenInput, ReadFailed, OpenOutput, WriteFailed, NextOutside, BadAssignment}
use Rattle.world_core.specs.WorldState.{Standard, Named, Outside, Source, absent, replaced, Open, puts}
use Rattle.world_core.specs.declared.world.Ending.{Ending}
use Rattle.world_core.specs.declared.world.Ending.TheVariants.{End, Fails}
use Rattle.sem_primitives.specs.Jobs.{JobForm, Closed}
use Rattle.sem_scripts.specs.ScriptState.{spend_all}
use Rattle.awk_grammar.specs.Kinds.{special_arrays, special_scalars}
use Rattle.sem_scripts.specs.Kinds.{resolved}
use Rattle.sem_scripts.specs.Meaning.{asked}
use Rattle.sem_scripts.specs.Statements.{loop, over_keys}
use Rattle.sem_scripts.specs.ScriptRun.{first_assigned, records_done, Ended, FaultedBy, GoesOn, Exhausted, setting_of}
use Rattle.mid_program.specs.Sorted.{sorted, all_sorted, step_sorted, steps_sorted, is_sorted}
use Rattle.mid_program.specs.MidMeaning.{evaluated, all_evaluated, stepped, all_stepped, mid_called, mid_run_in}
use Rattle.mid_program.specs.Texts.{texts_in, all_texts, stmt_texts, stmts_texts}
use Rattle.mid_program.specs.Translation.{code_of, codes_of, key_code, kept_code, argument_codes, truncated_code, applied_code, step_code, steps_code, program_of}
use Rattle.mid_program.specs.Scripts as scripts

abbrev no_job : JobForm
no_job = record { operands = []; assigns = []; environment = [] }

abbrev no_input : Source
no_input = record { rest = []; ending = End }

abbrev empty : Outside
empty = λ target. absent

-- where standard output has room for so many bytes
abbrev narrow : ℕ → Outside
narrow room = replaced Standard (record { bytes = Some []; ending = End; room = Some room; opens = true }) empty

abbrev with_file : List ℕ → List ℕ → Ending → Outside → Outside
with_file name bytes ending outside = replaced (Named name) (record { bytes = Some bytes; ending = ending; room = None; opens = true }) outside

abbrev without_opening : List ℕ → Outside → Outside
without_opening name outside = replaced (Named name) (record { bytes = Some []; ending = End; room = None; opens = false }) outside

-- BEGIN { print 2+3 }
pub sum_printed : mid_run_in (program_of (resolved scripts.sum_printed)) (setting_of no_job no_input empty) 20 ≡ Ended 0 (puts Standard (codes "5\n"))
unfolding special_arrays special_scalars spend_all asked loop over_keys first_assigned records_done evaluated all_evaluated stepped all_stepped mid_called texts_in all_texts stmt_texts stmts_texts code_of codes_of key_code kept_code argument_codes truncated_code applied_code step_code steps_code numeral_at sign_at fraction_at exponent_at numerator denominator digits unescaped escaped octal keywords builtins left_out_words table sign_of
sum_printed = refl

--
pub nothing_read : mid_run_in (program_of (resolved scripts.nothing_read)) (setting_of no_job (record { rest = (codes "x"); ending = End }) empty) 20
    ≡ Ended 0 []
unfolding special_arrays special_scalars spend_all asked loop over_keys first_assigned records_done evaluated all_evaluated stepped all_stepped mid_called texts_in all_texts stmt_texts stmts_texts code_of codes_of key_code kept_code argument_codes truncated_code applied_code step_code steps_code numeral_at sign_at fraction_at exponent_at numerator denominator digits unescaped escaped octal keywords builtins left_out_words table sign_of
nothing_read = refl

-- BEGIN { print int(7/2), int(-7/2), -7%3; print 7/2; print "no" }
pub quotients : mid_run_in (program_of (resolved scripts.quotients)) (setting_of no_job no_input empty) 20
    ≡ FaultedBy Inexact (puts Standard (codes "3 -3 -1\n"))
unfolding special_arrays special_scalars spend_all asked loop over_keys first_assigned records_done evaluated all_evaluated stepped all_stepped mid_called texts_in all_texts stmt_texts stmts_texts code_of codes_of key_code kept_code argument_codes truncated_code applied_code step_code steps_code numeral_at sign_at fraction_at exponent_at numerator denominator digits unescaped escaped octal keywords builtins left_out_words table sign_of
quotients = refl

-- BEGIN { print 2^53; print 2^53+1 }
pub powers : mid_run_in (program_of (resolved scripts.powers)) (setting_of no_job no_input empty) 20
    ≡ FaultedBy Range (puts Standard (codes "9007199254740992\n"))
unfolding special_arrays special_scalars spend_all asked loop over_keys first_assigned records_done evaluated all_evaluated stepped all_stepped mid_called texts_in all_texts stmt_texts stmts_texts code_of codes_of key_code kept_code argument_codes truncated_code applied_code step_code steps_code numeral_at sign_at fraction_at exponent_at numerator denominator digits unescaped escaped octal keywords builtins left_out_words table sign_of
powers = refl

-- { if (NF) /x/ || n++ } END { print n/1 }
pub matched_or_counted : mid_run_in (program_of (resolved scripts.matched_or_counted))
    (setting_of no_job (record { rest = (codes "x\ny\n"); ending = End }) empty) 20 ≡ Ended 0 (puts Standard (codes "1\n"))
unfolding special_arrays special_scalars spend_all asked loop over_keys first_assigned records_done evaluated all_evaluated stepped all_stepped mid_called texts_in all_texts stmt_texts stmts_texts code_of codes_of key_code kept_code argument_codes truncated_code applied_code step_code steps_code numeral_at sign_at fraction_at exponent_at numerator denominator digits unescaped escaped octal keywords builtins left_out_words table sign_of
matched_or_counted = refl

-- BEGIN { if (0) n = 1 % 0; print "[" n "]", n+0 }
pub unset_name : mid_run_in (program_of (resolved scripts.unset_name)) (setting_of no_job no_input empty) 20 ≡ Ended 0 (puts Standard (codes "[] 0\n"))
unfolding special_arrays special_scalars spend_all asked loop over_keys first_assigned records_done evaluated all_evaluated stepped all_stepped mid_called texts_in all_texts stmt_texts stmts_texts code_of codes_of key_code kept_code argument_codes truncated_code applied_code step_code steps_code numeral_at sign_at fraction_at exponent_at numerator denominator digits unescaped escaped octal keywords builtins left_out_words table sign_of
unset_name = refl

-- { print ($1 > $2), ($1 > "9") }
pub compared_fields : mid_run_in (program_of (resolved scripts.compared_fields))
    (setting_of no_job (record { rest = (codes "10 9\n"); ending = End }) empty) 20 ≡ Ended 0 (puts Standard (codes "1 0\n"))
unfolding special_arrays special_scalars spend_all asked loop over_keys first_assigned records_done evaluated all_evaluated stepped all_stepped mid_called texts_in all_texts stmt_texts stmts_texts code_of codes_of key_code kept_code argument_codes truncated_code applied_code step_code steps_code numeral_at sign_at fraction_at exponent_at numerator denominator digits unescaped escaped octal keywords builtins left_out_words table sign_of
compared_fields = refl

-- BEGIN { print n; n++; print n }
pub assigned_before : mid_run_in (program_of (resolved scripts.assigned_before)) (setting_of (record {
  operands = [];
  assigns = ((
    (codes "n"),
    (codes "007"),
  ) ∷ []);
  environment = [];
}) no_input empty) 20 ≡ Ended 0 (puts Standard (codes "007\n8\n"))
unfolding special_arrays special_scalars spend_all asked loop over_keys first_assigned records_done evaluated all_evaluated stepped all_stepped mid_called texts_in all_texts stmt_texts stmts_texts code_of codes_of key_code kept_code argument_codes truncated_code applied_code step_code steps_code numeral_at sign_at fraction_at exponent_at numerator denominator digits unescaped escaped octal keywords builtins left_out_words table sign_of
assigned_before = refl

-- { print $2 }
pub separator_assigned : mid_run_in (program_of (resolved scripts.separator_assigned)) (setting_of (record {
  operands = [];
  assigns = ((
    (codes "FS"),
    (codes ":"),
  ) ∷ []);
  environment = [];
}) (record { rest = (codes "a:b\n"); ending = End }) empty) 20 ≡ Ended 0 (puts Standard (codes "b\n"))
unfolding special_arrays special_scalars spend_all asked loop over_keys first_assigned records_done evaluated all_evaluated stepped all_stepped mid_called texts_in all_texts stmt_texts stmts_texts code_of codes_of key_code kept_code argument_codes truncated_code applied_code step_code steps_code numeral_at sign_at fraction_at exponent_at numerator denominator digits unescaped escaped octal keywords builtins left_out_words table sign_of
separator_assigned = refl

-- function f(x) { if (x == "b") next; return x } { print "<" f($1) ">" }
pub next_in_function : mid_run_in (program_of (resolved scripts.next_in_function))
    (setting_of no_job (record { rest = (codes "a\nb\nc\n"); ending = End }) empty) 20 ≡ Ended 0 (puts Standard (codes "<a>\n<c>\n"))
unfolding special_arrays special_scalars spend_all asked loop over_keys first_assigned records_done evaluated all_evaluated stepped all_stepped mid_called texts_in all_texts stmt_texts stmts_texts code_of codes_of key_code kept_code argument_codes truncated_code applied_code step_code steps_code numeral_at sign_at fraction_at exponent_at numerator denominator digits unescaped escaped octal keywords builtins left_out_words table sign_of
next_in_function = refl

-- function g() { exit 3 } BEGIN { print "a" g(); print "no" } END { print "end" }
pub exit_in_function : mid_run_in (program_of (resolved scripts.exit_in_function)) (setting_of no_job no_input empty) 20
    ≡ Ended 3 (puts Standard (codes "end\n"))
unfolding special_arrays special_scalars spend_all asked loop over_keys first_assigned records_done evaluated all_evaluated stepped all_stepped mid_called texts_in all_texts stmt_texts stmts_texts code_of codes_of key_code kept_code argument_codes truncated_code applied_code step_code steps_code numeral_at sign_at fraction_at exponent_at numerator denominator digits unescaped escaped octal keywords builtins left_out_words table sign_of
exit_in_function = refl

-- BEGIN { print -12 " " -24 }
pub joined_signs : mid_run_in (program_of (resolved scripts.joined_signs)) (setting_of no_job no_input empty) 20 ≡ Ended 0 (puts Standard (codes "-12-24\n"))
unfolding special_arrays special_scalars spend_all asked loop over_keys first_assigned records_done evaluated all_evaluated stepped all_stepped mid_called texts_in all_texts stmt_texts stmts_texts code_of codes_of key_code kept_code argument_codes truncated_code applied_code step_code steps_code numeral_at sign_at fraction_at exponent_at numerator denominator digits unescaped escaped octal keywords builtins left_out_words table sign_of
joined_signs = refl

-- BEGIN { s = "abxxc"; n = gsub(/x*/, "-", s); print n, s }
pub all_replaced : mid_run_in (program_of (resolved scripts.all_replaced)) (setting_of no_job no_input empty) 20 ≡ Ended 0 (puts Standard (codes "4 -a-b-c-\n"))
unfolding special_arrays special_scalars spend_all asked loop over_keys first_assigned records_done evaluated all_evaluated stepped all_stepped mid_called texts_in all_texts stmt_texts stmts_texts code_of codes_of key_code kept_code argument_codes truncated_code applied_code step_code steps_code numeral_at sign_at fraction_at exponent_at numerator denominator digits unescaped escaped octal keywords builtins left_out_words table sign_of
all_replaced = refl

-- BEGIN { RS = ""; FS = "," } { print NF ":" $1 "|" $NF }
pub paragraphs : mid_run_in (program_of (resolved scripts.paragraphs))
    (setting_of no_job (record { rest = (codes "\n\na,b\nc\n\n\nd\n"); ending = End }) empty) 20 ≡ Ended 0 (puts Standard (codes "3:a|c\n1:d|d\n"))
unfolding special_arrays special_scalars spend_all asked loop over_keys first_assigned records_done evaluated all_evaluated stepped all_stepped mid_called texts_in all_texts stmt_texts stmts_texts code_of codes_of key_code kept_code argument_codes truncated_code applied_code step_code steps_code numeral_at sign_at fraction_at exponent_at numerator denominator digits unescaped escaped octal keywords builtins left_out_words table sign_of
paragraphs = refl

-- { print }
pub input_fails : mid_run_in (program_of (resolved scripts.input_fails))
    (setting_of no_job (record { rest = (codes "a\nb"); ending = Fails }) empty) 20 ≡ FaultedBy ReadFailed (puts Standard (codes "a\n"))
unfolding special_arrays special_scalars spend_all asked loop over_keys first_assigned records_done evaluated all_evaluated stepped all_stepped mid_called texts_in all_texts stmt_texts stmts_texts code_of codes_of key_code kept_code argument_codes truncated_code applied_code step_code steps_code numeral_at sign_at fraction_at exponent_at numerator denominator digits unescaped escaped octal keywords builtins left_out_words table sign_of
input_fails = refl

-- BEGIN { print (getline < "f"), $0; print (getline < "f") }
pub file_fails : mid_run_in (program_of (resolved scripts.file_fails))
    (setting_of no_job no_input (with_file (codes "f") (codes "a\nb") Fails empty)) 20 ≡ Ended 0 (puts Standard (codes "1 a\n-1\n"))
unfolding special_arrays special_scalars spend_all asked loop over_keys first_assigned records_done evaluated all_evaluated stepped all_stepped mid_called texts_in all_texts stmt_texts stmts_texts code_of codes_of key_code kept_code argument_codes truncated_code applied_code step_code steps_code numeral_at sign_at fraction_at exponent_at numerator denominator digits unescaped escaped octal keywords builtins left_out_words table sign_of
file_fails = refl

-- BEGIN { print "ab"; print "cd" }
pub little_room : mid_run_in (program_of (resolved scripts.little_room)) (setting_of no_job no_input (narrow 4)) 20
    ≡ FaultedBy WriteFailed (puts Standard (codes "ab\nc"))
unfolding special_arrays special_scalars spend_all asked loop over_keys first_assigned records_done evaluated all_evaluated stepped all_stepped mid_called texts_in all_texts stmt_texts stmts_texts code_of codes_of key_code kept_code argument_codes truncated_code applied_code step_code steps_code numeral_at sign_at fraction_at exponent_at numerator denominator digits unescaped escaped octal keywords builtins left_out_words table sign_of
little_room = refl

-- BEGIN { OFS = "-" } { $5 = "e"; print; print NF; NF = 2; print }
pub fields_joined : mid_run_in (program_of (resolved scripts.fields_joined))
    (setting_of no_job (record { rest = (codes "a b c\n"); ending = End }) empty) 20 ≡ Ended 0 (puts Standard (codes "a-b-c--e\n5\na-b\n"))
unfolding special_arrays special_scalars spend_all asked loop over_keys first_assigned records_done evaluated all_evaluated stepped all_stepped mid_called texts_in all_texts stmt_texts stmts_texts code_of codes_of key_code kept_code argument_codes truncated_code applied_code step_code steps_code numeral_at sign_at fraction_at exponent_at numerator denominator digits unescaped escaped octal keywords builtins left_out_words table sign_of
fields_joined = refl

-- { print $1; print int($1); print $1+0 }
pub fraction_read : mid_run_in (program_of (resolved scripts.fraction_read))
    (setting_of no_job (record { rest = (codes "0.5\n"); ending = End }) empty) 20 ≡ FaultedBy Fraction (puts Standard (codes "0.5\n0\n"))
unfolding special_arrays special_scalars spend_all asked loop over_keys first_assigned records_done evaluated all_evaluated stepped all_stepped mid_called texts_in all_texts stmt_texts stmts_texts code_of codes_of key_code kept_code argument_codes truncated_code applied_code step_code steps_code numeral_at sign_at fraction_at exponent_at numerator denominator digits unescaped escaped octal keywords builtins left_out_words table sign_of
fraction_read = refl

-- function r(n) { return n ? r(n-1) : 7 } BEGIN { print r(3) }
pub calls_nested : mid_run_in (program_of (resolved scripts.calls_nested))
    (record { job = no_job; input = no_input; outside = Closed empty; deepest = 4 }) 20 ≡ Ended 0 (puts Standard (codes "7\n"))
unfolding special_arrays special_scalars spend_all asked loop over_keys first_assigned records_done evaluated all_evaluated stepped all_stepped mid_called texts_in all_texts stmt_texts stmts_texts code_of codes_of key_code kept_code argument_codes truncated_code applied_code step_code steps_code numeral_at sign_at fraction_at exponent_at numerator denominator digits unescaped escaped octal keywords builtins left_out_words table sign_of
calls_nested = refl

-- function r(n) { return n ? r(n-1) : 7 } BEGIN { print "x"; print r(4) }
pub calls_too_deep : mid_run_in (program_of (resolved scripts.calls_too_deep))
    (record { job = no_job; input = no_input; outside = Closed empty; deepest = 4 }) 20 ≡ Exhausted (puts Standard (codes "x\n"))
unfolding special_arrays special_scalars spend_all asked loop over_keys first_assigned records_done evaluated all_evaluated stepped all_stepped mid_called texts_in all_texts stmt_texts stmts_texts code_of codes_of key_code kept_code argument_codes truncated_code applied_code step_code steps_code numeral_at sign_at fraction_at exponent_at numerator denominator digits unescaped escaped octal keywords builtins left_out_words table sign_of
calls_too_deep = refl

-- function h() { next } BEGIN { h() }
pub next_outside : mid_run_in (program_of (resolved scripts.next_outside)) (setting_of no_job no_input empty) 20 ≡ FaultedBy NextOutside []
unfolding special_arrays special_scalars spend_all asked loop over_keys first_assigned records_done evaluated all_evaluated stepped all_stepped mid_called texts_in all_texts stmt_texts stmts_texts code_of codes_of key_code kept_code argument_codes truncated_code applied_code step_code steps_code numeral_at sign_at fraction_at exponent_at numerator denominator digits unescaped escaped octal keywords builtins left_out_words table sign_of
next_outside = refl

-- BEGIN { printf "%5d|%-4s|%04d|%x|%c|%.2f|%%\n", 42, "ab", -7, 255, 65, 3; printf "%d\n" }
pub formatted : mid_run_in (program_of (resolved scripts.formatted)) (setting_of no_job no_input empty) 20
    ≡ FaultedBy Format (puts Standard (codes "   42|ab  |-007|ff|A|3.00|%\n"))
unfolding special_arrays special_scalars spend_all asked loop over_keys first_assigned records_done evaluated all_evaluated stepped all_stepped mid_called texts_in all_texts stmt_texts stmts_texts code_of codes_of key_code kept_code argument_codes truncated_code applied_code step_code steps_code numeral_at sign_at fraction_at exponent_at numerator denominator digits unescaped escaped octal keywords builtins left_out_words table sign_of
formatted = refl

-- BEGIN { print ("abcd" ~ "b|bc"), match("abcd", "b|bc"), RSTART, RLENGTH; print "x" ~ "(" }
pub longest_match : mid_run_in (program_of (resolved scripts.longest_match)) (setting_of no_job no_input empty) 20
    ≡ FaultedBy BadEre (puts Standard (codes "1 2 2 2\n"))
unfolding special_arrays special_scalars spend_all asked loop over_keys first_assigned records_done evaluated all_evaluated stepped all_stepped mid_called texts_in all_texts stmt_texts stmts_texts code_of codes_of key_code kept_code argument_codes truncated_code applied_code step_code steps_code numeral_at sign_at fraction_at exponent_at numerator denominator digits unescaped escaped octal keywords builtins left_out_words table sign_of
longest_match = refl

-- BEGIN { a["x"]; a["y"]; a["z"]; delete a["x"]; a["x"] = 1; for (k in a) { printf "%s ", k; delete a["x"] }; print ("x" in a) }
pub keys_visited : mid_run_in (program_of (resolved scripts.keys_visited)) (setting_of no_job no_input empty) 20 ≡ Ended 0 (puts Standard (codes "y z x 0\n"))
unfolding special_arrays special_scalars spend_all asked loop over_keys first_assigned records_done evaluated all_evaluated stepped all_stepped mid_called texts_in all_texts stmt_texts stmts_texts code_of codes_of key_code kept_code argument_codes truncated_code applied_code step_code steps_code numeral_at sign_at fraction_at exponent_at numerator denominator digits unescaped escaped octal keywords builtins left_out_words table sign_of
keys_visited = refl

-- BEGIN { print "a" > "f"; print "b" > "f"; print close("f"), close("f"); while ((getline x < "f") > 0) print "got " x; print "c" >> "f" }
pub file_written_and_read : mid_run_in (program_of (resolved scripts.file_written_and_read)) (setting_of no_job no_input empty) 20
    ≡ Ended 0 ((Open (codes "f") false ∷ [])
    ++ (puts (Named (codes "f")) (codes "a\nb\n")
    ++ (puts Standard (codes "0 -1\ngot a\ngot b\n") ++ ((Open (codes "f") true ∷ []) ++ (puts (Named (codes "f")) (codes "c\n"))))))
unfolding special_arrays special_scalars spend_all asked loop over_keys first_assigned records_done evaluated all_evaluated stepped all_stepped mid_called texts_in all_texts stmt_texts stmts_texts code_of codes_of key_code kept_code argument_codes truncated_code applied_code step_code steps_code numeral_at sign_at fraction_at exponent_at numerator denominator digits unescaped escaped octal keywords builtins left_out_words table sign_of
file_written_and_read = refl

-- { print v, FILENAME, FNR, NR }
pub assignments_between_files : mid_run_in (program_of (resolved scripts.assignments_between_files)) (setting_of (record {
  operands = ((codes "v=1")
      ∷ (codes "f") ∷ (codes "v=a b") ∷ (codes "g") ∷ (codes "h")
      ∷ []);
  assigns = [];
  environment = [];
}) no_input (with_file (codes "g") (codes "q") End (with_file (codes "f") (codes "p\n") End empty))) 20
    ≡ FaultedBy OpenInput (puts Standard (codes "1 f 1 1\na b g 1 2\n"))
unfolding special_arrays special_scalars spend_all asked loop over_keys first_assigned records_done evaluated all_evaluated stepped all_stepped mid_called texts_in all_texts stmt_texts stmts_texts code_of codes_of key_code kept_code argument_codes truncated_code applied_code step_code steps_code numeral_at sign_at fraction_at exponent_at numerator denominator digits unescaped escaped octal keywords builtins left_out_words table sign_of
assignments_between_files = refl

-- BEGIN { a = 2^53; print a * a }
pub product_past_range : mid_run_in (program_of (resolved scripts.product_past_range)) (setting_of no_job no_input empty) 20 ≡ FaultedBy Range []
unfolding special_arrays special_scalars spend_all asked loop over_keys first_assigned records_done evaluated all_evaluated stepped all_stepped mid_called texts_in all_texts stmt_texts stmts_texts code_of codes_of key_code kept_code argument_codes truncated_code applied_code step_code steps_code numeral_at sign_at fraction_at exponent_at numerator denominator digits unescaped escaped octal keywords builtins left_out_words table sign_of
product_past_range = refl

-- BEGIN { print $1048577 }
pub field_past_limit : mid_run_in (program_of (resolved scripts.field_past_limit)) (setting_of no_job no_input empty) 20 ≡ FaultedBy FieldNumber []
unfolding special_arrays special_scalars spend_all asked loop over_keys first_assigned records_done evaluated all_evaluated stepped all_stepped mid_called texts_in all_texts stmt_texts stmts_texts code_of codes_of key_code kept_code argument_codes truncated_code applied_code step_code steps_code numeral_at sign_at fraction_at exponent_at numerator denominator digits unescaped escaped octal keywords builtins left_out_words table sign_of
field_past_limit = refl

-- BEGIN { print $(-1) }
pub field_below_zero : mid_run_in (program_of (resolved scripts.field_below_zero)) (setting_of no_job no_input empty) 20 ≡ FaultedBy FieldNumber []
unfolding special_arrays special_scalars spend_all asked loop over_keys first_assigned records_done evaluated all_evaluated stepped all_stepped mid_called texts_in all_texts stmt_texts stmts_texts code_of codes_of key_code kept_code argument_codes truncated_code applied_code step_code steps_code numeral_at sign_at fraction_at exponent_at numerator denominator digits unescaped escaped octal keywords builtins left_out_words table sign_of
field_below_zero = refl

-- BEGIN { printf "%s", "x"; exit -1 }
pub status_modulo : mid_run_in (program_of (resolved scripts.status_modulo)) (setting_of no_job no_input empty) 20 ≡ Ended 255 (puts Standard (codes "x"))
unfolding special_arrays special_scalars spend_all asked loop over_keys first_assigned records_done evaluated all_evaluated stepped all_stepped mid_called texts_in all_texts stmt_texts stmts_texts code_of codes_of key_code kept_code argument_codes truncated_code applied_code step_code steps_code numeral_at sign_at fraction_at exponent_at numerator denominator digits unescaped escaped octal keywords builtins left_out_words table sign_of
status_modulo = refl

-- function f() { } BEGIN { print 1 }
pub function_assigned : mid_run_in (program_of (resolved scripts.function_assigned)) (setting_of (record {
  operands = [];
  assigns = ((
    (codes "f"),
    (codes "1"),
  ) ∷ []);
  environment = [];
}) no_input empty) 20 ≡ FaultedBy BadAssignment []
unfolding special_arrays special_scalars spend_all asked loop over_keys first_assigned records_done evaluated all_evaluated stepped all_stepped mid_called texts_in all_texts stmt_texts stmts_texts code_of codes_of key_code kept_code argument_codes truncated_code applied_code step_code steps_code numeral_at sign_at fraction_at exponent_at numerator denominator digits unescaped escaped octal keywords builtins left_out_words table sign_of
function_assigned = refl

-- BEGIN { print "x" > "d" }
pub file_that_does_not_open : mid_run_in (program_of (resolved scripts.file_that_does_not_open))
    (setting_of no_job no_input (without_opening (codes "d") empty)) 20 ≡ FaultedBy OpenOutput []
unfolding special_arrays special_scalars spend_all asked loop over_keys first_assigned records_done evaluated all_evaluated stepped all_stepped mid_called texts_in all_texts stmt_texts stmts_texts code_of codes_of key_code kept_code argument_codes truncated_code applied_code step_code steps_code numeral_at sign_at fraction_at exponent_at numerator denominator digits unescaped escaped octal keywords builtins left_out_words table sign_of
file_that_does_not_open = refl

-- { print ($1 == 1), ($1 == "1"), (u == 0), (u == "") }
pub numeric_strings : mid_run_in (program_of (resolved scripts.numeric_strings))
    (setting_of no_job (record { rest = (codes "1.0\n"); ending = End }) empty) 20 ≡ Ended 0 (puts Standard (codes "1 0 1 1\n"))
unfolding special_arrays special_scalars spend_all asked loop over_keys first_assigned records_done evaluated all_evaluated stepped all_stepped mid_called texts_in all_texts stmt_texts stmts_texts code_of codes_of key_code kept_code argument_codes truncated_code applied_code step_code steps_code numeral_at sign_at fraction_at exponent_at numerator denominator digits unescaped escaped octal keywords builtins left_out_words table sign_of
numeric_strings = refl

-- NR == 1 { getline; print; getline x; print x, NR, $0 }
pub getline_in_loop : mid_run_in (program_of (resolved scripts.getline_in_loop))
    (setting_of no_job (record { rest = (codes "a\nb\nc\n"); ending = End }) empty) 20 ≡ Ended 0 (puts Standard (codes "b\nc 3 b\n"))
unfolding special_arrays special_scalars spend_all asked loop over_keys first_assigned records_done evaluated all_evaluated stepped all_stepped mid_called texts_in all_texts stmt_texts stmts_texts code_of codes_of key_code kept_code argument_codes truncated_code applied_code step_code steps_code numeral_at sign_at fraction_at exponent_at numerator denominator digits unescaped escaped octal keywords builtins left_out_words table sign_of
getline_in_loop = refl

-- /b/, /c/; /b/, /b/ { print NR }
pub ranges : mid_run_in (program_of (resolved scripts.ranges)) (setting_of no_job (record { rest = (codes "a\nb\nc\nb\n"); ending = End }) empty) 20
    ≡ Ended 0 (puts Standard (codes "b\n2\nc\nb\n4\n"))
unfolding special_arrays special_scalars spend_all asked loop over_keys first_assigned records_done evaluated all_evaluated stepped all_stepped mid_called texts_in all_texts stmt_texts stmts_texts code_of codes_of key_code kept_code argument_codes truncated_code applied_code step_code steps_code numeral_at sign_at fraction_at exponent_at numerator denominator digits unescaped escaped octal keywords builtins left_out_words table sign_of
ranges = refl

-- BEGIN { print substr("hello", 0, 3), substr("hello", -1), substr("hello", 4, 99), index("hello", "l"), split("a:b::c", p, ":"), "[" p[3] "]",
-- toupper("ab") tolower("CD") }
pub text_functions : mid_run_in (program_of (resolved scripts.text_functions)) (setting_of no_job no_input empty) 20
    ≡ Ended 0 (puts Standard (codes "he hello lo 3 4 [] ABcd\n"))
unfolding special_arrays special_scalars spend_all asked loop over_keys first_assigned records_done evaluated all_evaluated stepped all_stepped mid_called texts_in all_texts stmt_texts stmts_texts code_of codes_of key_code kept_code argument_codes truncated_code applied_code step_code steps_code numeral_at sign_at fraction_at exponent_at numerator denominator digits unescaped escaped octal keywords builtins left_out_words table sign_of
text_functions = refl

-- BEGIN { n = 1; print n ++ 2; print "a" ++n; x = 1 + 2 " " 3; print x; print 1==1, 2 ^ 3 ^ 2, -2 ^ 2, !1 + 1 }
pub steps_and_powers : mid_run_in (program_of (resolved scripts.steps_and_powers)) (setting_of no_job no_input empty) 20
    ≡ Ended 0 (puts Standard (codes "12\na3\n3 3\n1 512 -4 1\n"))
unfolding special_arrays special_scalars spend_all asked loop over_keys first_assigned records_done evaluated all_evaluated stepped all_stepped mid_called texts_in all_texts stmt_texts stmts_texts code_of codes_of key_code kept_code argument_codes truncated_code applied_code step_code steps_code numeral_at sign_at fraction_at exponent_at numerator denominator digits unescaped escaped octal keywords builtins left_out_words table sign_of
steps_and_powers = refl

-- BEGIN { print "a", 1 / 0 }
pub no_output_before_a_fault : mid_run_in (program_of (resolved scripts.no_output_before_a_fault)) (setting_of no_job no_input empty) 20
    ≡ FaultedBy DivisionByZero []
unfolding special_arrays special_scalars spend_all asked loop over_keys first_assigned records_done evaluated all_evaluated stepped all_stepped mid_called texts_in all_texts stmt_texts stmts_texts code_of codes_of key_code kept_code argument_codes truncated_code applied_code step_code steps_code numeral_at sign_at fraction_at exponent_at numerator denominator digits unescaped escaped octal keywords builtins left_out_words table sign_of
no_output_before_a_fault = refl

-- BEGIN { while (1) print "y" }
pub turns_end : mid_run_in (program_of (resolved scripts.turns_end)) (setting_of no_job no_input empty) 5 ≡ GoesOn (puts Standard (codes "y\ny\ny\ny\ny\n"))
unfolding special_arrays special_scalars spend_all asked loop over_keys first_assigned records_done evaluated all_evaluated stepped all_stepped mid_called texts_in all_texts stmt_texts stmts_texts code_of codes_of key_code kept_code argument_codes truncated_code applied_code step_code steps_code numeral_at sign_at fraction_at exponent_at numerator denominator digits unescaped escaped octal keywords builtins left_out_words table sign_of
turns_end = refl

-- BEGIN { for (;;) if (i++ > 2) break; print i }
pub test_left_out_costs_a_turn : mid_run_in (program_of (resolved scripts.test_left_out_costs_a_turn)) (setting_of no_job no_input empty) 4
    ≡ Ended 0 (puts Standard (codes "4\n"))
unfolding special_arrays special_scalars spend_all asked loop over_keys first_assigned records_done evaluated all_evaluated stepped all_stepped mid_called texts_in all_texts stmt_texts stmts_texts code_of codes_of key_code kept_code argument_codes truncated_code applied_code step_code steps_code numeral_at sign_at fraction_at exponent_at numerator denominator digits unescaped escaped octal keywords builtins left_out_words table sign_of
test_left_out_costs_a_turn = refl

-- function f() { printf "f"; return 1 } BEGIN { print "0.5" + f() }
pub operands_before_conversions : mid_run_in (program_of (resolved scripts.operands_before_conversions)) (setting_of no_job no_input empty) 20
    ≡ FaultedBy Fraction (puts Standard (codes "f"))
unfolding special_arrays special_scalars spend_all asked loop over_keys first_assigned records_done evaluated all_evaluated stepped all_stepped mid_called texts_in all_texts stmt_texts stmts_texts code_of codes_of key_code kept_code argument_codes truncated_code applied_code step_code steps_code numeral_at sign_at fraction_at exponent_at numerator denominator digits unescaped escaped octal keywords builtins left_out_words table sign_of
operands_before_conversions = refl

-- BEGIN { x = 1; x += x++; print x; y = "0.5"; y += "1e99" }
pub old_value_after_right_side : mid_run_in (program_of (resolved scripts.old_value_after_right_side)) (setting_of no_job no_input empty) 20
    ≡ FaultedBy Fraction (puts Standard (codes "3\n"))
unfolding special_arrays special_scalars spend_all asked loop over_keys first_assigned records_done evaluated all_evaluated stepped all_stepped mid_called texts_in all_texts stmt_texts stmts_texts code_of codes_of key_code kept_code argument_codes truncated_code applied_code step_code steps_code numeral_at sign_at fraction_at exponent_at numerator denominator digits unescaped escaped octal keywords builtins left_out_words table sign_of
old_value_after_right_side = refl

-- function f() { printf "f" } BEGIN { $(-1) = f() }
pub field_checked_first : mid_run_in (program_of (resolved scripts.field_checked_first)) (setting_of no_job no_input empty) 20 ≡ FaultedBy FieldNumber []
unfolding special_arrays special_scalars spend_all asked loop over_keys first_assigned records_done evaluated all_evaluated stepped all_stepped mid_called texts_in all_texts stmt_texts stmts_texts code_of codes_of key_code kept_code argument_codes truncated_code applied_code step_code steps_code numeral_at sign_at fraction_at exponent_at numerator denominator digits unescaped escaped octal keywords builtins left_out_words table sign_of
field_checked_first = refl

-- BEGIN { a["x"] = a["y"]; for (k in a) print k; b["k"] = ("k" in b); print b["k"] }
pub element_made_last : mid_run_in (program_of (resolved scripts.element_made_last)) (setting_of no_job no_input empty) 20
    ≡ Ended 0 (puts Standard (codes "y\nx\n0\n"))
unfolding special_arrays special_scalars spend_all asked loop over_keys first_assigned records_done evaluated all_evaluated stepped all_stepped mid_called texts_in all_texts stmt_texts stmts_texts code_of codes_of key_code kept_code argument_codes truncated_code applied_code step_code steps_code numeral_at sign_at fraction_at exponent_at numerator denominator digits unescaped escaped octal keywords builtins left_out_words table sign_of
element_made_last = refl

-- BEGIN { a[1, 2, SUBSEP = "-"] = 5; for (k in a) print k; print ((1, 2, "-") in a) }
pub subscripts_joined : mid_run_in (program_of (resolved scripts.subscripts_joined)) (setting_of no_job no_input empty) 20
    ≡ Ended 0 (puts Standard (codes "1-2--\n1\n"))
unfolding special_arrays special_scalars spend_all asked loop over_keys first_assigned records_done evaluated all_evaluated stepped all_stepped mid_called texts_in all_texts stmt_texts stmts_texts code_of codes_of key_code kept_code argument_codes truncated_code applied_code step_code steps_code numeral_at sign_at fraction_at exponent_at numerator denominator digits unescaped escaped octal keywords builtins left_out_words table sign_of
subscripts_joined = refl

-- function f(a, n, own) { own[1] = n; a["k"] = own[1]; n = 9; return length(own[1]) } BEGIN { n = 12; print f(t, n), t["k"], n }
pub arrays_by_reference : mid_run_in (program_of (resolved scripts.arrays_by_reference)) (setting_of no_job no_input empty) 20
    ≡ Ended 0 (puts Standard (codes "2 12 12\n"))
unfolding special_arrays special_scalars spend_all asked loop over_keys first_assigned records_done evaluated all_evaluated stepped all_stepped mid_called texts_in all_texts stmt_texts stmts_texts code_of codes_of key_code kept_code argument_codes truncated_code applied_code step_code steps_code numeral_at sign_at fraction_at exponent_at numerator denominator digits unescaped escaped octal keywords builtins left_out_words table sign_of
arrays_by_reference = refl

-- BEGIN { do { i++; if (i == 2) continue; if (i == 4) break; print i } while (i < 9); for (j = 0; j < 3; j++) { if (j == 1) continue; print j } }
pub do_and_continue : mid_run_in (program_of (resolved scripts.do_and_continue)) (setting_of no_job no_input empty) 20
    ≡ Ended 0 (puts Standard (codes "1\n3\n0\n2\n"))
unfolding special_arrays special_scalars spend_all asked loop over_keys first_assigned records_done evaluated all_evaluated stepped all_stepped mid_called texts_in all_texts stmt_texts stmts_texts code_of codes_of key_code kept_code argument_codes truncated_code applied_code step_code steps_code numeral_at sign_at fraction_at exponent_at numerator denominator digits unescaped escaped octal keywords builtins left_out_words table sign_of
do_and_continue = refl

-- BEGIN { exit 2 } END { print "e"; exit; print "no" }
pub exit_in_end : mid_run_in (program_of (resolved scripts.exit_in_end)) (setting_of no_job no_input empty) 20 ≡ Ended 2 (puts Standard (codes "e\n"))
unfolding special_arrays special_scalars spend_all asked loop over_keys first_assigned records_done evaluated all_evaluated stepped all_stepped mid_called texts_in all_texts stmt_texts stmts_texts code_of codes_of key_code kept_code argument_codes truncated_code applied_code step_code steps_code numeral_at sign_at fraction_at exponent_at numerator denominator digits unescaped escaped octal keywords builtins left_out_words table sign_of
exit_in_end = refl

-- END { print getline, getline x, x "", NR }
pub getline_at_end : mid_run_in (program_of (resolved scripts.getline_at_end))
    (setting_of no_job (record { rest = (codes "a\n"); ending = End }) empty) 20 ≡ Ended 0 (puts Standard (codes "0 0  1\n"))
unfolding special_arrays special_scalars spend_all asked loop over_keys first_assigned records_done evaluated all_evaluated stepped all_stepped mid_called texts_in all_texts stmt_texts stmts_texts code_of codes_of key_code kept_code argument_codes truncated_code applied_code step_code steps_code numeral_at sign_at fraction_at exponent_at numerator denominator digits unescaped escaped octal keywords builtins left_out_words table sign_of
getline_at_end = refl

-- function k() { printf "k"; return "q" } BEGIN { a["q"] = "aXb"; n = sub(/X/, "[&]", a[k()]); print n, a["q"] }
pub sub_keeps_key : mid_run_in (program_of (resolved scripts.sub_keeps_key)) (setting_of no_job no_input empty) 20
    ≡ Ended 0 (puts Standard (codes "k1 a[X]b\n"))
unfolding special_arrays special_scalars spend_all asked loop over_keys first_assigned records_done evaluated all_evaluated stepped all_stepped mid_called texts_in all_texts stmt_texts stmts_texts code_of codes_of key_code kept_code argument_codes truncated_code applied_code step_code steps_code numeral_at sign_at fraction_at exponent_at numerator denominator digits unescaped escaped octal keywords builtins left_out_words table sign_of
sub_keeps_key = refl

-- BEGIN { $0 = "a b"; print > ($0 = "f") }
pub target_after_operands : mid_run_in (program_of (resolved scripts.target_after_operands)) (setting_of no_job no_input empty) 20
    ≡ Ended 0 ((Open (codes "f") false ∷ []) ++ (puts (Named (codes "f")) (codes "a b\n")))
unfolding special_arrays special_scalars spend_all asked loop over_keys first_assigned records_done evaluated all_evaluated stepped all_stepped mid_called texts_in all_texts stmt_texts stmts_texts code_of codes_of key_code kept_code argument_codes truncated_code applied_code step_code steps_code numeral_at sign_at fraction_at exponent_at numerator denominator digits unescaped escaped octal keywords builtins left_out_words table sign_of
target_after_operands = refl

-- Well sorted.

pub sum_printed_sorted : is_sorted (program_of (resolved scripts.sum_printed)) ≡ true
unfolding special_arrays special_scalars spend_all asked loop over_keys first_assigned records_done evaluated all_evaluated stepped all_stepped mid_called texts_in all_texts stmt_texts stmts_texts code_of codes_of key_code kept_code argument_codes truncated_code applied_code step_code steps_code numeral_at sign_at fraction_at exponent_at numerator denominator digits unescaped escaped octal keywords builtins left_out_words table sign_of sorted all_sorted step_sorted steps_sorted
sum_printed_sorted = refl

pub nothing_read_sorted : is_sorted (program_of (resolved scripts.nothing_read)) ≡ true
unfolding special_arrays special_scalars spend_all asked loop over_keys first_assigned records_done evaluated all_evaluated stepped all_stepped mid_called texts_in all_texts stmt_texts stmts_texts code_of codes_of key_code kept_code argument_codes truncated_code applied_code step_code steps_code numeral_at sign_at fraction_at exponent_at numerator denominator digits unescaped escaped octal keywords builtins left_out_words table sign_of sorted all_sorted step_sorted steps_sorted
nothing_read_sorted = refl

pub quotients_sorted : is_sorted (program_of (resolved scripts.quotients)) ≡ true
unfolding special_arrays special_scalars spend_all asked loop over_keys first_assigned records_done evaluated all_evaluated stepped all_stepped mid_called texts_in all_texts stmt_texts stmts_texts code_of codes_of key_code kept_code argument_codes truncated_code applied_code step_code steps_code numeral_at sign_at fraction_at exponent_at numerator denominator digits unescaped escaped octal keywords builtins left_out_words table sign_of sorted all_sorted step_sorted steps_sorted
quotients_sorted = refl

pub powers_sorted : is_sorted (program_of (resolved scripts.powers)) ≡ true
unfolding special_arrays special_scalars spend_all asked loop over_keys first_assigned records_done evaluated all_evaluated stepped all_stepped mid_called texts_in all_texts stmt_texts stmts_texts code_of codes_of key_code kept_code argument_codes truncated_code applied_code step_code steps_code numeral_at sign_at fraction_at exponent_at numerator denominator digits unescaped escaped octal keywords builtins left_out_words table sign_of sorted all_sorted step_sorted steps_sorted
powers_sorted = refl

pub matched_or_counted_sorted : is_sorted (program_of (resolved scripts.matched_or_counted)) ≡ true
unfolding special_arrays special_scalars spend_all asked loop over_keys first_assigned records_done evaluated all_evaluated stepped all_stepped mid_called texts_in all_texts stmt_texts stmts_texts code_of codes_of key_code kept_code argument_codes truncated_code applied_code step_code steps_code numeral_at sign_at fraction_at exponent_at numerator denominator digits unescaped escaped octal keywords builtins left_out_words table sign_of sorted all_sorted step_sorted steps_sorted
matched_or_counted_sorted = refl

pub unset_name_sorted : is_sorted (program_of (resolved scripts.unset_name)) ≡ true
unfolding special_arrays special_scalars spend_all asked loop over_keys first_assigned records_done evaluated all_evaluated stepped all_stepped mid_called texts_in all_texts stmt_texts stmts_texts code_of codes_of key_code kept_code argument_codes truncated_code applied_code step_code steps_code numeral_at sign_at fraction_at exponent_at numerator denominator digits unescaped escaped octal keywords builtins left_out_words table sign_of sorted all_sorted step_sorted steps_sorted
unset_name_sorted = refl

pub compared_fields_sorted : is_sorted (program_of (resolved scripts.compared_fields)) ≡ true
unfolding special_arrays special_scalars spend_all asked loop over_keys first_assigned records_done evaluated all_evaluated stepped all_stepped mid_called texts_in all_texts stmt_texts stmts_texts code_of codes_of key_code kept_code argument_codes truncated_code applied_code step_code steps_code numeral_at sign_at fraction_at exponent_at numerator denominator digits unescaped escaped octal keywords builtins left_out_words table sign_of sorted all_sorted step_sorted steps_sorted
compared_fields_sorted = refl

pub assigned_before_sorted : is_sorted (program_of (resolved scripts.assigned_before)) ≡ true
unfolding special_arrays special_scalars spend_all asked loop over_keys first_assigned records_done evaluated all_evaluated stepped all_stepped mid_called texts_in all_texts stmt_texts stmts_texts code_of codes_of key_code kept_code argument_codes truncated_code applied_code step_code steps_code numeral_at sign_at fraction_at exponent_at numerator denominator digits unescaped escaped octal keywords builtins left_out_words table sign_of sorted all_sorted step_sorted steps_sorted
assigned_before_sorted = refl

pub separator_assigned_sorted : is_sorted (program_of (resolved scripts.separator_assigned)) ≡ true
unfolding special_arrays special_scalars spend_all asked loop over_keys first_assigned records_done evaluated all_evaluated stepped all_stepped mid_called texts_in all_texts stmt_texts stmts_texts code_of codes_of key_code kept_code argument_codes truncated_code applied_code step_code steps_code numeral_at sign_at fraction_at exponent_at numerator denominator digits unescaped escaped octal keywords builtins left_out_words table sign_of sorted all_sorted step_sorted steps_sorted
separator_assigned_sorted = refl

pub next_in_function_sorted : is_sorted (program_of (resolved scripts.next_in_function)) ≡ true
unfolding special_arrays special_scalars spend_all asked loop over_keys first_assigned records_done evaluated all_evaluated stepped all_stepped mid_called texts_in all_texts stmt_texts stmts_texts code_of codes_of key_code kept_code argument_codes truncated_code applied_code step_code steps_code numeral_at sign_at fraction_at exponent_at numerator denominator digits unescaped escaped octal keywords builtins left_out_words table sign_of sorted all_sorted step_sorted steps_sorted
next_in_function_sorted = refl

pub exit_in_function_sorted : is_sorted (program_of (resolved scripts.exit_in_function)) ≡ true
unfolding special_arrays special_scalars spend_all asked loop over_keys first_assigned records_done evaluated all_evaluated stepped all_stepped mid_called texts_in all_texts stmt_texts stmts_texts code_of codes_of key_code kept_code argument_codes truncated_code applied_code step_code steps_code numeral_at sign_at fraction_at exponent_at numerator denominator digits unescaped escaped octal keywords builtins left_out_words table sign_of sorted all_sorted step_sorted steps_sorted
exit_in_function_sorted = refl

pub joined_signs_sorted : is_sorted (program_of (resolved scripts.joined_signs)) ≡ true
unfolding special_arrays special_scalars spend_all asked loop over_keys first_assigned records_done evaluated all_evaluated stepped all_stepped mid_called texts_in all_texts stmt_texts stmts_texts code_of codes_of key_code kept_code argument_codes truncated_code applied_code step_code steps_code numeral_at sign_at fraction_at exponent_at numerator denominator digits unescaped escaped octal keywords builtins left_out_words table sign_of sorted all_sorted step_sorted steps_sorted
joined_signs_sorted = refl

pub all_replaced_sorted : is_sorted (program_of (resolved scripts.all_replaced)) ≡ true
unfolding special_arrays special_scalars spend_all asked loop over_keys first_assigned records_done evaluated all_evaluated stepped all_stepped mid_called texts_in all_texts stmt_texts stmts_texts code_of codes_of key_code kept_code argument_codes truncated_code applied_code step_code steps_code numeral_at sign_at fraction_at exponent_at numerator denominator digits unescaped escaped octal keywords builtins left_out_words table sign_of sorted all_sorted step_sorted steps_sorted
all_replaced_sorted = refl

pub paragraphs_sorted : is_sorted (program_of (resolved scripts.paragraphs)) ≡ true
unfolding special_arrays special_scalars spend_all asked loop over_keys first_assigned records_done evaluated all_evaluated stepped all_stepped mid_called texts_in all_texts stmt_texts stmts_texts code_of codes_of key_code kept_code argument_codes truncated_code applied_code step_code steps_code numeral_at sign_at fraction_at exponent_at numerator denominator digits unescaped escaped octal keywords builtins left_out_words table sign_of sorted all_sorted step_sorted steps_sorted
paragraphs_sorted = refl

pub input_fails_sorted : is_sorted (program_of (resolved scripts.input_fails)) ≡ true
unfolding special_arrays special_scalars spend_all asked loop over_keys first_assigned records_done evaluated all_evaluated stepped all_stepped mid_called texts_in all_texts stmt_texts stmts_texts code_of codes_of key_code kept_code argument_codes truncated_code applied_code step_code steps_code numeral_at sign_at fraction_at exponent_at numerator denominator digits unescaped escaped octal keywords builtins left_out_words table sign_of sorted all_sorted step_sorted steps_sorted
input_fails_sorted = refl

pub file_fails_sorted : is_sorted (program_of (resolved scripts.file_fails)) ≡ true
unfolding special_arrays special_scalars spend_all asked loop over_keys first_assigned records_done evaluated all_evaluated stepped all_stepped mid_called texts_in all_texts stmt_texts stmts_texts code_of codes_of key_code kept_code argument_codes truncated_code applied_code step_code steps_code numeral_at sign_at fraction_at exponent_at numerator denominator digits unescaped escaped octal keywords builtins left_out_words table sign_of sorted all_sorted step_sorted steps_sorted
file_fails_sorted = refl

pub little_room_sorted : is_sorted (program_of (resolved scripts.little_room)) ≡ true
unfolding special_arrays special_scalars spend_all asked loop over_keys first_assigned records_done evaluated all_evaluated stepped all_stepped mid_called texts_in all_texts stmt_texts stmts_texts code_of codes_of key_code kept_code argument_codes truncated_code applied_code step_code steps_code numeral_at sign_at fraction_at exponent_at numerator denominator digits unescaped escaped octal keywords builtins left_out_words table sign_of sorted all_sorted step_sorted steps_sorted
little_room_sorted = refl

pub fields_joined_sorted : is_sorted (program_of (resolved scripts.fields_joined)) ≡ true
unfolding special_arrays special_scalars spend_all asked loop over_keys first_assigned records_done evaluated all_evaluated stepped all_stepped mid_called texts_in all_texts stmt_texts stmts_texts code_of codes_of key_code kept_code argument_codes truncated_code applied_code step_code steps_code numeral_at sign_at fraction_at exponent_at numerator denominator digits unescaped escaped octal keywords builtins left_out_words table sign_of sorted all_sorted step_sorted steps_sorted
fields_joined_sorted = refl

pub fraction_read_sorted : is_sorted (program_of (resolved scripts.fraction_read)) ≡ true
unfolding special_arrays special_scalars spend_all asked loop over_keys first_assigned records_done evaluated all_evaluated stepped all_stepped mid_called texts_in all_texts stmt_texts stmts_texts code_of codes_of key_code kept_code argument_codes truncated_code applied_code step_code steps_code numeral_at sign_at fraction_at exponent_at numerator denominator digits unescaped escaped octal keywords builtins left_out_words table sign_of sorted all_sorted step_sorted steps_sorted
fraction_read_sorted = refl

pub calls_nested_sorted : is_sorted (program_of (resolved scripts.calls_nested)) ≡ true
unfolding special_arrays special_scalars spend_all asked loop over_keys first_assigned records_done evaluated all_evaluated stepped all_stepped mid_called texts_in all_texts stmt_texts stmts_texts code_of codes_of key_code kept_code argument_codes truncated_code applied_code step_code steps_code numeral_at sign_at fraction_at exponent_at numerator denominator digits unescaped escaped octal keywords builtins left_out_words table sign_of sorted all_sorted step_sorted steps_sorted
calls_nested_sorted = refl

pub calls_too_deep_sorted : is_sorted (program_of (resolved scripts.calls_too_deep)) ≡ true
unfolding special_arrays special_scalars spend_all asked loop over_keys first_assigned records_done evaluated all_evaluated stepped all_stepped mid_called texts_in all_texts stmt_texts stmts_texts code_of codes_of key_code kept_code argument_codes truncated_code applied_code step_code steps_code numeral_at sign_at fraction_at exponent_at numerator denominator digits unescaped escaped octal keywords builtins left_out_words table sign_of sorted all_sorted step_sorted steps_sorted
calls_too_deep_sorted = refl

pub next_outside_sorted : is_sorted (program_of (resolved scripts.next_outside)) ≡ true
unfolding special_arrays special_scalars spend_all asked loop over_keys first_assigned records_done evaluated all_evaluated stepped all_stepped mid_called texts_in all_texts stmt_texts stmts_texts code_of codes_of key_code kept_code argument_codes truncated_code applied_code step_code steps_code numeral_at sign_at fraction_at exponent_at numerator denominator digits unescaped escaped octal keywords builtins left_out_words table sign_of sorted all_sorted step_sorted steps_sorted
next_outside_sorted = refl

pub formatted_sorted : is_sorted (program_of (resolved scripts.formatted)) ≡ true
unfolding special_arrays special_scalars spend_all asked loop over_keys first_assigned records_done evaluated all_evaluated stepped all_stepped mid_called texts_in all_texts stmt_texts stmts_texts code_of codes_of key_code kept_code argument_codes truncated_code applied_code step_code steps_code numeral_at sign_at fraction_at exponent_at numerator denominator digits unescaped escaped octal keywords builtins left_out_words table sign_of sorted all_sorted step_sorted steps_sorted
formatted_sorted = refl

pub longest_match_sorted : is_sorted (program_of (resolved scripts.longest_match)) ≡ true
unfolding special_arrays special_scalars spend_all asked loop over_keys first_assigned records_done evaluated all_evaluated stepped all_stepped mid_called texts_in all_texts stmt_texts stmts_texts code_of codes_of key_code kept_code argument_codes truncated_code applied_code step_code steps_code numeral_at sign_at fraction_at exponent_at numerator denominator digits unescaped escaped octal keywords builtins left_out_words table sign_of sorted all_sorted step_sorted steps_sorted
longest_match_sorted = refl

pub keys_visited_sorted : is_sorted (program_of (resolved scripts.keys_visited)) ≡ true
unfolding special_arrays special_scalars spend_all asked loop over_keys first_assigned records_done evaluated all_evaluated stepped all_stepped mid_called texts_in all_texts stmt_texts stmts_texts code_of codes_of key_code kept_code argument_codes truncated_code applied_code step_code steps_code numeral_at sign_at fraction_at exponent_at numerator denominator digits unescaped escaped octal keywords builtins left_out_words table sign_of sorted all_sorted step_sorted steps_sorted
keys_visited_sorted = refl

pub file_written_and_read_sorted : is_sorted (program_of (resolved scripts.file_written_and_read)) ≡ true
unfolding special_arrays special_scalars spend_all asked loop over_keys first_assigned records_done evaluated all_evaluated stepped all_stepped mid_called texts_in all_texts stmt_texts stmts_texts code_of codes_of key_code kept_code argument_codes truncated_code applied_code step_code steps_code numeral_at sign_at fraction_at exponent_at numerator denominator digits unescaped escaped octal keywords builtins left_out_words table sign_of sorted all_sorted step_sorted steps_sorted
file_written_and_read_sorted = refl

pub assignments_between_files_sorted : is_sorted (program_of (resolved scripts.assignments_between_files)) ≡ true
unfolding special_arrays special_scalars spend_all asked loop over_keys first_assigned records_done evaluated all_evaluated stepped all_stepped mid_called texts_in all_texts stmt_texts stmts_texts code_of codes_of key_code kept_code argument_codes truncated_code applied_code step_code steps_code numeral_at sign_at fraction_at exponent_at numerator denominator digits unescaped escaped octal keywords builtins left_out_words table sign_of sorted all_sorted step_sorted steps_sorted
assignments_between_files_sorted = refl

pub product_past_range_sorted : is_sorted (program_of (resolved scripts.product_past_range)) ≡ true
unfolding special_arrays special_scalars spend_all asked loop over_keys first_assigned records_done evaluated all_evaluated stepped all_stepped mid_called texts_in all_texts stmt_texts stmts_texts code_of codes_of key_code kept_code argument_codes truncated_code applied_code step_code steps_code numeral_at sign_at fraction_at exponent_at numerator denominator digits unescaped escaped octal keywords builtins left_out_words table sign_of sorted all_sorted step_sorted steps_sorted
product_past_range_sorted = refl

pub field_past_limit_sorted : is_sorted (program_of (resolved scripts.field_past_limit)) ≡ true
unfolding special_arrays special_scalars spend_all asked loop over_keys first_assigned records_done evaluated all_evaluated stepped all_stepped mid_called texts_in all_texts stmt_texts stmts_texts code_of codes_of key_code kept_code argument_codes truncated_code applied_code step_code steps_code numeral_at sign_at fraction_at exponent_at numerator denominator digits unescaped escaped octal keywords builtins left_out_words table sign_of sorted all_sorted step_sorted steps_sorted
field_past_limit_sorted = refl

pub field_below_zero_sorted : is_sorted (program_of (resolved scripts.field_below_zero)) ≡ true
unfolding special_arrays special_scalars spend_all asked loop over_keys first_assigned records_done evaluated all_evaluated stepped all_stepped mid_called texts_in all_texts stmt_texts stmts_texts code_of codes_of key_code kept_code argument_codes truncated_code applied_code step_code steps_code numeral_at sign_at fraction_at exponent_at numerator denominator digits unescaped escaped octal keywords builtins left_out_words table sign_of sorted all_sorted step_sorted steps_sorted
field_below_zero_sorted = refl

pub status_modulo_sorted : is_sorted (program_of (resolved scripts.status_modulo)) ≡ true
unfolding special_arrays special_scalars spend_all asked loop over_keys first_assigned records_done evaluated all_evaluated stepped all_stepped mid_called texts_in all_texts stmt_texts stmts_texts code_of codes_of key_code kept_code argument_codes truncated_code applied_code step_code steps_code numeral_at sign_at fraction_at exponent_at numerator denominator digits unescaped escaped octal keywords builtins left_out_words table sign_of sorted all_sorted step_sorted steps_sorted
status_modulo_sorted = refl

pub function_assigned_sorted : is_sorted (program_of (resolved scripts.function_assigned)) ≡ true
unfolding special_arrays special_scalars spend_all asked loop over_keys first_assigned records_done evaluated all_evaluated stepped all_stepped mid_called texts_in all_texts stmt_texts stmts_texts code_of codes_of key_code kept_code argument_codes truncated_code applied_code step_code steps_code numeral_at sign_at fraction_at exponent_at numerator denominator digits unescaped escaped octal keywords builtins left_out_words table sign_of sorted all_sorted step_sorted steps_sorted
function_assigned_sorted = refl

pub file_that_does_not_open_sorted : is_sorted (program_of (resolved scripts.file_that_does_not_open)) ≡ true
unfolding special_arrays special_scalars spend_all asked loop over_keys first_assigned records_done evaluated all_evaluated stepped all_stepped mid_called texts_in all_texts stmt_texts stmts_texts code_of codes_of key_code kept_code argument_codes truncated_code applied_code step_code steps_code numeral_at sign_at fraction_at exponent_at numerator denominator digits unescaped escaped octal keywords builtins left_out_words table sign_of sorted all_sorted step_sorted steps_sorted
file_that_does_not_open_sorted = refl

pub numeric_strings_sorted : is_sorted (program_of (resolved scripts.numeric_strings)) ≡ true
unfolding special_arrays special_scalars spend_all asked loop over_keys first_assigned records_done evaluated all_evaluated stepped all_stepped mid_called texts_in all_texts stmt_texts stmts_texts code_of codes_of key_code kept_code argument_codes truncated_code applied_code step_code steps_code numeral_at sign_at fraction_at exponent_at numerator denominator digits unescaped escaped octal keywords builtins left_out_words table sign_of sorted all_sorted step_sorted steps_sorted
numeric_strings_sorted = refl

pub getline_in_loop_sorted : is_sorted (program_of (resolved scripts.getline_in_loop)) ≡ true
unfolding special_arrays special_scalars spend_all asked loop over_keys first_assigned records_done evaluated all_evaluated stepped all_stepped mid_called texts_in all_texts stmt_texts stmts_texts code_of codes_of key_code kept_code argument_codes truncated_code applied_code step_code steps_code numeral_at sign_at fraction_at exponent_at numerator denominator digits unescaped escaped octal keywords builtins left_out_words table sign_of sorted all_sorted step_sorted steps_sorted
getline_in_loop_sorted = refl

pub ranges_sorted : is_sorted (program_of (resolved scripts.ranges)) ≡ true
unfolding special_arrays special_scalars spend_all asked loop over_keys first_assigned records_done evaluated all_evaluated stepped all_stepped mid_called texts_in all_texts stmt_texts stmts_texts code_of codes_of key_code kept_code argument_codes truncated_code applied_code step_code steps_code numeral_at sign_at fraction_at exponent_at numerator denominator digits unescaped escaped octal keywords builtins left_out_words table sign_of sorted all_sorted step_sorted steps_sorted
ranges_sorted = refl

pub text_functions_sorted : is_sorted (program_of (resolved scripts.text_functions)) ≡ true
unfolding special_arrays special_scalars spend_all asked loop over_keys first_assigned records_done evaluated all_evaluated stepped all_stepped mid_called texts_in all_texts stmt_texts stmts_texts code_of codes_of key_code kept_code argument_codes truncated_code applied_code step_code steps_code numeral_at sign_at fraction_at exponent_at numerator denominator digits unescaped escaped octal keywords builtins left_out_words table sign_of sorted all_sorted step_sorted steps_sorted
text_functions_sorted = refl

pub steps_and_powers_sorted : is_sorted (program_of (resolved scripts.steps_and_powers)) ≡ true
unfolding special_arrays special_scalars spend_all asked loop over_keys first_assigned records_done evaluated all_evaluated stepped all_stepped mid_called texts_in all_texts stmt_texts stmts_texts code_of codes_of key_code kept_code argument_codes truncated_code applied_code step_code steps_code numeral_at sign_at fraction_at exponent_at numerator denominator digits unescaped escaped octal keywords builtins left_out_words table sign_of sorted all_sorted step_sorted steps_sorted
steps_and_powers_sorted = refl

pub no_output_before_a_fault_sorted : is_sorted (program_of (resolved scripts.no_output_before_a_fault)) ≡ true
unfolding special_arrays special_scalars spend_all asked loop over_keys first_assigned records_done evaluated all_evaluated stepped all_stepped mid_called texts_in all_texts stmt_texts stmts_texts code_of codes_of key_code kept_code argument_codes truncated_code applied_code step_code steps_code numeral_at sign_at fraction_at exponent_at numerator denominator digits unescaped escaped octal keywords builtins left_out_words table sign_of sorted all_sorted step_sorted steps_sorted
no_output_before_a_fault_sorted = refl

pub turns_end_sorted : is_sorted (program_of (resolved scripts.turns_end)) ≡ true
unfolding special_arrays special_scalars spend_all asked loop over_keys first_assigned records_done evaluated all_evaluated stepped all_stepped mid_called texts_in all_texts stmt_texts stmts_texts code_of codes_of key_code kept_code argument_codes truncated_code applied_code step_code steps_code numeral_at sign_at fraction_at exponent_at numerator denominator digits unescaped escaped octal keywords builtins left_out_words table sign_of sorted all_sorted step_sorted steps_sorted
turns_end_sorted = refl

pub test_left_out_costs_a_turn_sorted : is_sorted (program_of (resolved scripts.test_left_out_costs_a_turn)) ≡ true
unfolding special_arrays special_scalars spend_all asked loop over_keys first_assigned records_done evaluated all_evaluated stepped all_stepped mid_called texts_in all_texts stmt_texts stmts_texts code_of codes_of key_code kept_code argument_codes truncated_code applied_code step_code steps_code numeral_at sign_at fraction_at exponent_at numerator denominator digits unescaped escaped octal keywords builtins left_out_words table sign_of sorted all_sorted step_sorted steps_sorted
test_left_out_costs_a_turn_sorted = refl

pub operands_before_conversions_sorted : is_sorted (program_of (resolved scripts.operands_before_conversions)) ≡ true
unfolding special_arrays special_scalars spend_all asked loop over_keys first_assigned records_done evaluated all_evaluated stepped all_stepped mid_called texts_in all_texts stmt_texts stmts_texts code_of codes_of key_code kept_code argument_codes truncated_code applied_code step_code steps_code numeral_at sign_at fraction_at exponent_at numerator denominator digits unescaped escaped octal keywords builtins left_out_words table sign_of sorted all_sorted step_sorted steps_sorted
operands_before_conversions_sorted = refl

pub old_value_after_right_side_sorted : is_sorted (program_of (resolved scripts.old_value_after_right_side)) ≡ true
unfolding special_arrays special_scalars spend_all asked loop over_keys first_assigned records_done evaluated all_evaluated stepped all_stepped mid_called texts_in all_texts stmt_texts stmts_texts code_of codes_of key_code kept_code argument_codes truncated_code applied_code step_code steps_code numeral_at sign_at fraction_at exponent_at numerator denominator digits unescaped escaped octal keywords builtins left_out_words table sign_of sorted all_sorted step_sorted steps_sorted
old_value_after_right_side_sorted = refl

pub field_checked_first_sorted : is_sorted (program_of (resolved scripts.field_checked_first)) ≡ true
unfolding special_arrays special_scalars spend_all asked loop over_keys first_assigned records_done evaluated all_evaluated stepped all_stepped mid_called texts_in all_texts stmt_texts stmts_texts code_of codes_of key_code kept_code argument_codes truncated_code applied_code step_code steps_code numeral_at sign_at fraction_at exponent_at numerator denominator digits unescaped escaped octal keywords builtins left_out_words table sign_of sorted all_sorted step_sorted steps_sorted
field_checked_first_sorted = refl

pub element_made_last_sorted : is_sorted (program_of (resolved scripts.element_made_last)) ≡ true
unfolding special_arrays special_scalars spend_all asked loop over_keys first_assigned records_done evaluated all_evaluated stepped all_stepped mid_called texts_in all_texts stmt_texts stmts_texts code_of codes_of key_code kept_code argument_codes truncated_code applied_code step_code steps_code numeral_at sign_at fraction_at exponent_at numerator denominator digits unescaped escaped octal keywords builtins left_out_words table sign_of sorted all_sorted step_sorted steps_sorted
element_made_last_sorted = refl

pub subscripts_joined_sorted : is_sorted (program_of (resolved scripts.subscripts_joined)) ≡ true
unfolding special_arrays special_scalars spend_all asked loop over_keys first_assigned records_done evaluated all_evaluated stepped all_stepped mid_called texts_in all_texts stmt_texts stmts_texts code_of codes_of key_code kept_code argument_codes truncated_code applied_code step_code steps_code numeral_at sign_at fraction_at exponent_at numerator denominator digits unescaped escaped octal keywords builtins left_out_words table sign_of sorted all_sorted step_sorted steps_sorted
subscripts_joined_sorted = refl

pub arrays_by_reference_sorted : is_sorted (program_of (resolved scripts.arrays_by_reference)) ≡ true
unfolding special_arrays special_scalars spend_all asked loop over_keys first_assigned records_done evaluated all_evaluated stepped all_stepped mid_called texts_in all_texts stmt_texts stmts_texts code_of codes_of key_code kept_code argument_codes truncated_code applied_code step_code steps_code numeral_at sign_at fraction_at exponent_at numerator denominator digits unescaped escaped octal keywords builtins left_out_words table sign_of sorted all_sorted step_sorted steps_sorted
arrays_by_reference_sorted = refl

pub do_and_continue_sorted : is_sorted (program_of (resolved scripts.do_and_continue)) ≡ true
unfolding special_arrays special_scalars spend_all asked loop over_keys first_assigned records_done evaluated all_evaluated stepped all_stepped mid_called texts_in all_texts stmt_texts stmts_texts code_of codes_of key_code kept_code argument_codes truncated_code applied_code step_code steps_code numeral_at sign_at fraction_at exponent_at numerator denominator digits unescaped escaped octal keywords builtins left_out_words table sign_of sorted all_sorted step_sorted steps_sorted
do_and_continue_sorted = refl

pub exit_in_end_sorted : is_sorted (program_of (resolved scripts.exit_in_end)) ≡ true
unfolding special_arrays special_scalars spend_all asked loop over_keys first_assigned records_done evaluated all_evaluated stepped all_stepped mid_called texts_in all_texts stmt_texts stmts_texts code_of codes_of key_code kept_code argument_codes truncated_code applied_code step_code steps_code numeral_at sign_at fraction_at exponent_at numerator denominator digits unescaped escaped octal keywords builtins left_out_words table sign_of sorted all_sorted step_sorted steps_sorted
exit_in_end_sorted = refl

pub getline_at_end_sorted : is_sorted (program_of (resolved scripts.getline_at_end)) ≡ true
unfolding special_arrays special_scalars spend_all asked loop over_keys first_assigned records_done evaluated all_evaluated stepped all_stepped mid_called texts_in all_texts stmt_texts stmts_texts code_of codes_of key_code kept_code argument_codes truncated_code applied_code step_code steps_code numeral_at sign_at fraction_at exponent_at numerator denominator digits unescaped escaped octal keywords builtins left_out_words table sign_of sorted all_sorted step_sorted steps_sorted
getline_at_end_sorted = refl

pub sub_keeps_key_sorted : is_sorted (program_of (resolved scripts.sub_keeps_key)) ≡ true
unfolding special_arrays special_scalars spend_all asked loop over_keys first_assigned records_done evaluated all_evaluated stepped all_stepped mid_called texts_in all_texts stmt_texts stmts_texts code_of codes_of key_code kept_code argument_codes truncated_code applied_code step_code steps_code numeral_at sign_at fraction_at exponent_at numerator denominator digits unescaped escaped octal keywords builtins left_out_words table sign_of sorted all_sorted step_sorted steps_sorted
sub_keeps_key_sorted = refl

pub target_after_operands_sorted : is_sorted (program_of (resolved scripts.target_after_operands)) ≡ true
unfolding special_arrays special_scalars spend_all asked loop over_keys first_assigned records_done evaluated all_evaluated stepped all_stepped mid_called texts_in all_texts stmt_texts stmts_texts code_of codes_of key_code kept_code argument_codes truncated_code applied_code step_code steps_code numeral_at sign_at fraction_at exponent_at numerator denominator digits unescaped escaped octal keywords builtins left_out_words table sign_of sorted all_sorted step_sorted steps_sorted
target_after_operands_sorted = refl
