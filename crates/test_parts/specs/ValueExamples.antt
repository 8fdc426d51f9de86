-- Runs of modules on the machine over values: of scripts, by their mid code.
use Rattle.std.specs.Prelude.{◌≡◌, ℕ, true, false, List, [], ◌∷◌, ◌++◌, codes, Some, None, refl}
use Rattle.std.specs.Fmt.{digits}
use Rattle.awk_text.specs.Reading.{numeral_at, sign_at, fraction_at, exponent_at}
use Rattle.awk_text.specs.Number.{numerator, denominator}
use Rattle.awk_text.specs.Escapes.{unescaped, escaped, octal}
use Rattle.awk_tokens.specs.Words.{keywords, builtins, left_out_words}
use Rattle.ere_syntax.specs.Scan.{table}
use Rattle.ere_syntax.specs.Readers.{sign_of}
use Rattle.awk_values.specs.declared.fault.Fault.TheVariants.{Range, Fraction, DivisionByZero, Inexact, FieldNumber, Format, BadEre, OpenInput, ReadFailed, OpenOutput, WriteFailed, NextOutside, BadAssignment}
use Rattle.world_core.specs.WorldState.{Standard, Named, Outside, Source, absent, replaced, Open, puts}
use Rattle.world_core.specs.declared.world.Ending.{Ending}
use Rattle.world_core.specs.declared.world.Ending.TheVariants.{End, Fails}
use Rattle.sem_primitives.specs.Jobs.{JobForm, Closed}
use Rattle.awk_grammar.specs.Kinds.{special_arrays, special_scalars}
use Rattle.sem_scripts.specs.Kinds.{resolved}
use Rattle.sem_scripts.specs.ScriptRun.{Ended, FaultedBy, Exhausted, setting_of}
use Rattle.mid_program.specs.Texts.{texts_in, all_texts, stmt_texts, stmts_texts}
use Rattle.mid_program.specs.Translation.{code_of, codes_of, key_code, kept_code, argument_codes, truncated_code, applied_code, step_code, steps_code, program_of}
use Rattle.mid_program.specs.Scripts as scripts
use Rattle.lower_model.specs.Emission.{emitted, all_emitted}
use Rattle.lower_model.specs.Statements.{step_emitted, steps_emitted}
use Rattle.lower_model.specs.Runs.{value_run}

abbrev no_job : JobForm
no_job = record { operands = []; assigns = []; environment = [] }

abbrev no_input : Source
no_input = record { rest = []; ending = End }

abbrev empty : Outside
empty = λ target. absent

-- where standard output has room for so many bytes
abbrev narrow : ℕ → Outside
narrow room = replaced Standard (record { bytes = Some []; ending = End; room = Some room; opens = true }) empty

abbrev with_file : List ℕ → List ℕ → Ending → Outside → Outside
with_file name bytes ending outside = replaced (Named name) (record { bytes = Some bytes; ending = ending; room = None; opens = true }) outside

abbrev without_opening : List ℕ → Outside → Outside
without_opening name outside = replaced (Named name) (record { bytes = Some []; ending = End; room = None; opens = false }) outside

-- BEGIN { print 2+3 }
pub sum_printed : value_run (program_of (resolved scripts.sum_printed)) (setting_of no_job no_input empty) 3000 ≡ Some (Ended 0 (puts Standard (codes "5\n")))
unfolding special_arrays special_scalars emitted all_emitted step_emitted steps_emitted texts_in all_texts stmt_texts stmts_texts code_of codes_of key_code kept_code argument_codes truncated_code applied_code step_code steps_code numeral_at sign_at fraction_at exponent_at numerator denominator digits unescaped escaped octal keywords builtins left_out_words table sign_of
sum_printed = refl

--
pub nothing_read : value_run (program_of (resolved scripts.nothing_read)) (setting_of no_job (record { rest = (codes "x"); ending = End }) empty) 3000
    ≡ Some (Ended 0 [])
unfolding special_arrays special_scalars emitted all_emitted step_emitted steps_emitted texts_in all_texts stmt_texts stmts_texts code_of codes_of key_code kept_code argument_codes truncated_code applied_code step_code steps_code numeral_at sign_at fraction_at exponent_at numerator denominator digits unescaped escaped octal keywords builtins left_out_words table sign_of
nothing_read = refl

-- BEGIN { print int(7/2), int(-7/2), -7%3; print 7/2; print "no" }
pub quotients : value_run (program_of (resolved scripts.quotients)) (setting_of no_job no_input empty) 3000
    ≡ Some (FaultedBy Inexact (puts Standard (codes "3 -3 -1\n")))
unfolding special_arrays special_scalars emitted all_emitted step_emitted steps_emitted texts_in all_texts stmt_texts stmts_texts code_of codes_of key_code kept_code argument_codes truncated_code applied_code step_code steps_code numeral_at sign_at fraction_at exponent_at numerator denominator digits unescaped escaped octal keywords builtins left_out_words table sign_of
quotients = refl

-- BEGIN { print 2^53; print 2^53+1 }
pub powers : value_run (program_of (resolved scripts.powers)) (setting_of no_job no_input empty) 3000
    ≡ Some (FaultedBy Range (puts Standard (codes "9007199254740992\n")))
unfolding special_arrays special_scalars emitted all_emitted step_emitted steps_emitted texts_in all_texts stmt_texts stmts_texts code_of codes_of key_code kept_code argument_codes truncated_code applied_code step_code steps_code numeral_at sign_at fraction_at exponent_at numerator denominator digits unescaped escaped octal keywords builtins left_out_words table sign_of
powers = refl

-- { if (NF) /x/ || n++ } END { print n/1 }
pub matched_or_counted : value_run (program_of (resolved scripts.matched_or_counted))
    (setting_of no_job (record { rest = (codes "x\ny\n"); ending = End }) empty) 3000 ≡ Some (Ended 0 (puts Standard (codes "1\n")))
unfolding special_arrays special_scalars emitted all_emitted step_emitted steps_emitted texts_in all_texts stmt_texts stmts_texts code_of codes_of key_code kept_code argument_codes truncated_code applied_code step_code steps_code numeral_at sign_at fraction_at exponent_at numerator denominator digits unescaped escaped octal keywords builtins left_out_words table sign_of
matched_or_counted = refl

-- BEGIN { if (0) n = 1 % 0; print "[" n "]", n+0 }
pub unset_name : value_run (program_of (resolved scripts.unset_name)) (setting_of no_job no_input empty) 3000 ≡ Some (Ended 0 (puts Standard (codes "[] 0\n")))
unfolding special_arrays special_scalars emitted all_emitted step_emitted steps_emitted texts_in all_texts stmt_texts stmts_texts code_of codes_of key_code kept_code argument_codes truncated_code applied_code step_code steps_code numeral_at sign_at fraction_at exponent_at numerator denominator digits unescaped escaped octal keywords builtins left_out_words table sign_of
unset_name = refl

-- { print ($1 > $2), ($1 > "9") }
pub compared_fields : value_run (program_of (resolved scripts.compared_fields))
    (setting_of no_job (record { rest = (codes "10 9\n"); ending = End }) empty) 3000 ≡ Some (Ended 0 (puts Standard (codes "1 0\n")))
unfolding special_arrays special_scalars emitted all_emitted step_emitted steps_emitted texts_in all_texts stmt_texts stmts_texts code_of codes_of key_code kept_code argument_codes truncated_code applied_code step_code steps_code numeral_at sign_at fraction_at exponent_at numerator denominator digits unescaped escaped octal keywords builtins left_out_words table sign_of
compared_fields = refl

-- BEGIN { print n; n++; print n }
pub assigned_before : value_run (program_of (resolved scripts.assigned_before)) (setting_of (record {
  operands = [];
  assigns = ((
    (codes "n"),
    (codes "007"),
  ) ∷ []);
  environment = [];
}) no_input empty) 3000 ≡ Some (Ended 0 (puts Standard (codes "007\n8\n")))
unfolding special_arrays special_scalars emitted all_emitted step_emitted steps_emitted texts_in all_texts stmt_texts stmts_texts code_of codes_of key_code kept_code argument_codes truncated_code applied_code step_code steps_code numeral_at sign_at fraction_at exponent_at numerator denominator digits unescaped escaped octal keywords builtins left_out_words table sign_of
assigned_before = refl

-- { print $2 }
pub separator_assigned : value_run (program_of (resolved scripts.separator_assigned)) (setting_of (record {
  operands = [];
  assigns = ((
    (codes "FS"),
    (codes ":"),
  ) ∷ []);
  environment = [];
}) (record { rest = (codes "a:b\n"); ending = End }) empty) 3000
    ≡ Some (Ended 0 (puts Standard (codes "b\n")))
unfolding special_arrays special_scalars emitted all_emitted step_emitted steps_emitted texts_in all_texts stmt_texts stmts_texts code_of codes_of key_code kept_code argument_codes truncated_code applied_code step_code steps_code numeral_at sign_at fraction_at exponent_at numerator denominator digits unescaped escaped octal keywords builtins left_out_words table sign_of
separator_assigned = refl

-- function f(x) { if (x == "b") next; return x } { print "<" f($1) ">" }
pub next_in_function : value_run (program_of (resolved scripts.next_in_function))
    (setting_of no_job (record { rest = (codes "a\nb\nc\n"); ending = End }) empty) 3000 ≡ Some (Ended 0 (puts Standard (codes "<a>\n<c>\n")))
unfolding special_arrays special_scalars emitted all_emitted step_emitted steps_emitted texts_in all_texts stmt_texts stmts_texts code_of codes_of key_code kept_code argument_codes truncated_code applied_code step_code steps_code numeral_at sign_at fraction_at exponent_at numerator denominator digits unescaped escaped octal keywords builtins left_out_words table sign_of
next_in_function = refl

-- function g() { exit 3 } BEGIN { print "a" g(); print "no" } END { print "end" }
pub exit_in_function : value_run (program_of (resolved scripts.exit_in_function)) (setting_of no_job no_input empty) 3000
    ≡ Some (Ended 3 (puts Standard (codes "end\n")))
unfolding special_arrays special_scalars emitted all_emitted step_emitted steps_emitted texts_in all_texts stmt_texts stmts_texts code_of codes_of key_code kept_code argument_codes truncated_code applied_code step_code steps_code numeral_at sign_at fraction_at exponent_at numerator denominator digits unescaped escaped octal keywords builtins left_out_words table sign_of
exit_in_function = refl

-- BEGIN { print -12 " " -24 }
pub joined_signs : value_run (program_of (resolved scripts.joined_signs)) (setting_of no_job no_input empty) 3000
    ≡ Some (Ended 0 (puts Standard (codes "-12-24\n")))
unfolding special_arrays special_scalars emitted all_emitted step_emitted steps_emitted texts_in all_texts stmt_texts stmts_texts code_of codes_of key_code kept_code argument_codes truncated_code applied_code step_code steps_code numeral_at sign_at fraction_at exponent_at numerator denominator digits unescaped escaped octal keywords builtins left_out_words table sign_of
joined_signs = refl

-- BEGIN { s = "abxxc"; n = gsub(/x*/, "-", s); print n, s }
pub all_replaced : value_run (program_of (resolved scripts.all_replaced)) (setting_of no_job no_input empty) 3000
    ≡ Some (Ended 0 (puts Standard (codes "4 -a-b-c-\n")))
unfolding special_arrays special_scalars emitted all_emitted step_emitted steps_emitted texts_in all_texts stmt_texts stmts_texts code_of codes_of key_code kept_code argument_codes truncated_code applied_code step_code steps_code numeral_at sign_at fraction_at exponent_at numerator denominator digits unescaped escaped octal keywords builtins left_out_words table sign_of
all_replaced = refl

-- BEGIN { RS = ""; FS = "," } { print NF ":" $1 "|" $NF }
pub paragraphs : value_run (program_of (resolved scripts.paragraphs))
    (setting_of no_job (record { rest = (codes "\n\na,b\nc\n\n\nd\n"); ending = End }) empty) 3000
    ≡ Some (Ended 0 (puts Standard (codes "3:a|c\n1:d|d\n")))
unfolding special_arrays special_scalars emitted all_emitted step_emitted steps_emitted texts_in all_texts stmt_texts stmts_texts code_of codes_of key_code kept_code argument_codes truncated_code applied_code step_code steps_code numeral_at sign_at fraction_at exponent_at numerator denominator digits unescaped escaped octal keywords builtins left_out_words table sign_of
paragraphs = refl

-- { print }
pub input_fails : value_run (program_of (resolved scripts.input_fails))
    (setting_of no_job (record { rest = (codes "a\nb"); ending = Fails }) empty) 3000 ≡ Some (FaultedBy ReadFailed (puts Standard (codes "a\n")))
unfolding special_arrays special_scalars emitted all_emitted step_emitted steps_emitted texts_in all_texts stmt_texts stmts_texts code_of codes_of key_code kept_code argument_codes truncated_code applied_code step_code steps_code numeral_at sign_at fraction_at exponent_at numerator denominator digits unescaped escaped octal keywords builtins left_out_words table sign_of
input_fails = refl

-- BEGIN { print (getline < "f"), $0; print (getline < "f") }
pub file_fails : value_run (program_of (resolved scripts.file_fails))
    (setting_of no_job no_input (with_file (codes "f") (codes "a\nb") Fails empty)) 3000 ≡ Some (Ended 0 (puts Standard (codes "1 a\n-1\n")))
unfolding special_arrays special_scalars emitted all_emitted step_emitted steps_emitted texts_in all_texts stmt_texts stmts_texts code_of codes_of key_code kept_code argument_codes truncated_code applied_code step_code steps_code numeral_at sign_at fraction_at exponent_at numerator denominator digits unescaped escaped octal keywords builtins left_out_words table sign_of
file_fails = refl

-- BEGIN { print "ab"; print "cd" }
pub little_room : value_run (program_of (resolved scripts.little_room)) (setting_of no_job no_input (narrow 4)) 3000
    ≡ Some (FaultedBy WriteFailed (puts Standard (codes "ab\nc")))
unfolding special_arrays special_scalars emitted all_emitted step_emitted steps_emitted texts_in all_texts stmt_texts stmts_texts code_of codes_of key_code kept_code argument_codes truncated_code applied_code step_code steps_code numeral_at sign_at fraction_at exponent_at numerator denominator digits unescaped escaped octal keywords builtins left_out_words table sign_of
little_room = refl

-- BEGIN { OFS = "-" } { $5 = "e"; print; print NF; NF = 2; print }
pub fields_joined : value_run (program_of (resolved scripts.fields_joined))
    (setting_of no_job (record { rest = (codes "a b c\n"); ending = End }) empty) 3000 ≡ Some (Ended 0 (puts Standard (codes "a-b-c--e\n5\na-b\n")))
unfolding special_arrays special_scalars emitted all_emitted step_emitted steps_emitted texts_in all_texts stmt_texts stmts_texts code_of codes_of key_code kept_code argument_codes truncated_code applied_code step_code steps_code numeral_at sign_at fraction_at exponent_at numerator denominator digits unescaped escaped octal keywords builtins left_out_words table sign_of
fields_joined = refl

-- { print $1; print int($1); print $1+0 }
pub fraction_read : value_run (program_of (resolved scripts.fraction_read))
    (setting_of no_job (record { rest = (codes "0.5\n"); ending = End }) empty) 3000 ≡ Some (FaultedBy Fraction (puts Standard (codes "0.5\n0\n")))
unfolding special_arrays special_scalars emitted all_emitted step_emitted steps_emitted texts_in all_texts stmt_texts stmts_texts code_of codes_of key_code kept_code argument_codes truncated_code applied_code step_code steps_code numeral_at sign_at fraction_at exponent_at numerator denominator digits unescaped escaped octal keywords builtins left_out_words table sign_of
fraction_read = refl

-- function r(n) { return n ? r(n-1) : 7 } BEGIN { print r(3) }
pub calls_nested : value_run (program_of (resolved scripts.calls_nested))
    (record { job = no_job; input = no_input; outside = Closed empty; deepest = 4 }) 3000 ≡ Some (Ended 0 (puts Standard (codes "7\n")))
unfolding special_arrays special_scalars emitted all_emitted step_emitted steps_emitted texts_in all_texts stmt_texts stmts_texts code_of codes_of key_code kept_code argument_codes truncated_code applied_code step_code steps_code numeral_at sign_at fraction_at exponent_at numerator denominator digits unescaped escaped octal keywords builtins left_out_words table sign_of
calls_nested = refl

-- function r(n) { return n ? r(n-1) : 7 } BEGIN { print "x"; print r(4) }
pub calls_too_deep : value_run (program_of (resolved scripts.calls_too_deep))
    (record { job = no_job; input = no_input; outside = Closed empty; deepest = 4 }) 3000 ≡ Some (Exhausted (puts Standard (codes "x\n")))
unfolding special_arrays special_scalars emitted all_emitted step_emitted steps_emitted texts_in all_texts stmt_texts stmts_texts code_of codes_of key_code kept_code argument_codes truncated_code applied_code step_code steps_code numeral_at sign_at fraction_at exponent_at numerator denominator digits unescaped escaped octal keywords builtins left_out_words table sign_of
calls_too_deep = refl

-- function h() { next } BEGIN { h() }
pub next_outside : value_run (program_of (resolved scripts.next_outside)) (setting_of no_job no_input empty) 3000 ≡ Some (FaultedBy NextOutside [])
unfolding special_arrays special_scalars emitted all_emitted step_emitted steps_emitted texts_in all_texts stmt_texts stmts_texts code_of codes_of key_code kept_code argument_codes truncated_code applied_code step_code steps_code numeral_at sign_at fraction_at exponent_at numerator denominator digits unescaped escaped octal keywords builtins left_out_words table sign_of
next_outside = refl

-- BEGIN { printf "%5d|%-4s|%04d|%x|%c|%.2f|%%\n", 42, "ab", -7, 255, 65, 3; printf "%d\n" }
pub formatted : value_run (program_of (resolved scripts.formatted)) (setting_of no_job no_input empty) 3000
    ≡ Some (FaultedBy Format (puts Standard (codes "   42|ab  |-007|ff|A|3.00|%\n")))
unfolding special_arrays special_scalars emitted all_emitted step_emitted steps_emitted texts_in all_texts stmt_texts stmts_texts code_of codes_of key_code kept_code argument_codes truncated_code applied_code step_code steps_code numeral_at sign_at fraction_at exponent_at numerator denominator digits unescaped escaped octal keywords builtins left_out_words table sign_of
formatted = refl

-- BEGIN { print ("abcd" ~ "b|bc"), match("abcd", "b|bc"), RSTART, RLENGTH; print "x" ~ "(" }
pub longest_match : value_run (program_of (resolved scripts.longest_match)) (setting_of no_job no_input empty) 3000
    ≡ Some (FaultedBy BadEre (puts Standard (codes "1 2 2 2\n")))
unfolding special_arrays special_scalars emitted all_emitted step_emitted steps_emitted texts_in all_texts stmt_texts stmts_texts code_of codes_of key_code kept_code argument_codes truncated_code applied_code step_code steps_code numeral_at sign_at fraction_at exponent_at numerator denominator digits unescaped escaped octal keywords builtins left_out_words table sign_of
longest_match = refl

-- BEGIN { a["x"]; a["y"]; a["z"]; delete a["x"]; a["x"] = 1; for (k in a) { printf "%s ", k; delete a["x"] }; print ("x" in a) }
pub keys_visited : value_run (program_of (resolved scripts.keys_visited)) (setting_of no_job no_input empty) 3000
    ≡ Some (Ended 0 (puts Standard (codes "y z x 0\n")))
unfolding special_arrays special_scalars emitted all_emitted step_emitted steps_emitted texts_in all_texts stmt_texts stmts_texts code_of codes_of key_code kept_code argument_codes truncated_code applied_code step_code steps_code numeral_at sign_at fraction_at exponent_at numerator denominator digits unescaped escaped octal keywords builtins left_out_words table sign_of
keys_visited = refl

-- BEGIN { print "a" > "f"; print "b" > "f"; print close("f"), close("f"); while ((getline x < "f") > 0) print "got " x; print "c" >> "f" }
pub file_written_and_read : value_run (program_of (resolved scripts.file_written_and_read)) (setting_of no_job no_input empty) 3000
    ≡ Some (Ended 0 ((Open (codes "f") false ∷ [])
    ++ (puts (Named (codes "f")) (codes "a\nb\n")
    ++ (puts Standard (codes "0 -1\ngot a\ngot b\n") ++ ((Open (codes "f") true ∷ []) ++ (puts (Named (codes "f")) (codes "c\n")))))))
unfolding special_arrays special_scalars emitted all_emitted step_emitted steps_emitted texts_in all_texts stmt_texts stmts_texts code_of codes_of key_code kept_code argument_codes truncated_code applied_code step_code steps_code numeral_at sign_at fraction_at exponent_at numerator denominator digits unescaped escaped octal keywords builtins left_out_words table sign_of
file_written_and_read = refl

-- { print v, FILENAME, FNR, NR }
pub assignments_between_files : value_run (program_of (resolved scripts.assignments_between_files)) (setting_of (record {
  operands = ((codes "v=1")
      ∷ (codes "f") ∷ (codes "v=a b") ∷ (codes "g") ∷ (codes "h")
      ∷ []);
  assigns = [];
  environment = [];
}) no_input (with_file (codes "g") (codes "q") End (with_file (codes "f") (codes "p\n") End empty))) 3000
    ≡ Some (FaultedBy OpenInput (puts Standard (codes "1 f 1 1\na b g 1 2\n")))
unfolding special_arrays special_scalars emitted all_emitted step_emitted steps_emitted texts_in all_texts stmt_texts stmts_texts code_of codes_of key_code kept_code argument_codes truncated_code applied_code step_code steps_code numeral_at sign_at fraction_at exponent_at numerator denominator digits unescaped escaped octal keywords builtins left_out_words table sign_of
assignments_between_files = refl

-- BEGIN { a = 2^53; print a * a }
pub product_past_range : value_run (program_of (resolved scripts.product_past_range)) (setting_of no_job no_input empty) 3000 ≡ Some (FaultedBy Range [])
unfolding special_arrays special_scalars emitted all_emitted step_emitted steps_emitted texts_in all_texts stmt_texts stmts_texts code_of codes_of key_code kept_code argument_codes truncated_code applied_code step_code steps_code numeral_at sign_at fraction_at exponent_at numerator denominator digits unescaped escaped octal keywords builtins left_out_words table sign_of
product_past_range = refl

-- BEGIN { print $1048577 }
pub field_past_limit : value_run (program_of (resolved scripts.field_past_limit)) (setting_of no_job no_input empty) 3000 ≡ Some (FaultedBy FieldNumber [])
unfolding special_arrays special_scalars emitted all_emitted step_emitted steps_emitted texts_in all_texts stmt_texts stmts_texts code_of codes_of key_code kept_code argument_codes truncated_code applied_code step_code steps_code numeral_at sign_at fraction_at exponent_at numerator denominator digits unescaped escaped octal keywords builtins left_out_words table sign_of
field_past_limit = refl

-- BEGIN { print $(-1) }
pub field_below_zero : value_run (program_of (resolved scripts.field_below_zero)) (setting_of no_job no_input empty) 3000 ≡ Some (FaultedBy FieldNumber [])
unfolding special_arrays special_scalars emitted all_emitted step_emitted steps_emitted texts_in all_texts stmt_texts stmts_texts code_of codes_of key_code kept_code argument_codes truncated_code applied_code step_code steps_code numeral_at sign_at fraction_at exponent_at numerator denominator digits unescaped escaped octal keywords builtins left_out_words table sign_of
field_below_zero = refl

-- BEGIN { printf "%s", "x"; exit -1 }
pub status_modulo : value_run (program_of (resolved scripts.status_modulo)) (setting_of no_job no_input empty) 3000
    ≡ Some (Ended 255 (puts Standard (codes "x")))
unfolding special_arrays special_scalars emitted all_emitted step_emitted steps_emitted texts_in all_texts stmt_texts stmts_texts code_of codes_of key_code kept_code argument_codes truncated_code applied_code step_code steps_code numeral_at sign_at fraction_at exponent_at numerator denominator digits unescaped escaped octal keywords builtins left_out_words table sign_of
status_modulo = refl

-- function f() { } BEGIN { print 1 }
pub function_assigned : value_run (program_of (resolved scripts.function_assigned)) (setting_of (record {
  operands = [];
  assigns = ((
    (codes "f"),
    (codes "1"),
  ) ∷ []);
  environment = [];
}) no_input empty) 3000 ≡ Some (FaultedBy BadAssignment [])
unfolding special_arrays special_scalars emitted all_emitted step_emitted steps_emitted texts_in all_texts stmt_texts stmts_texts code_of codes_of key_code kept_code argument_codes truncated_code applied_code step_code steps_code numeral_at sign_at fraction_at exponent_at numerator denominator digits unescaped escaped octal keywords builtins left_out_words table sign_of
function_assigned = refl

-- BEGIN { print "x" > "d" }
pub file_that_does_not_open : value_run (program_of (resolved scripts.file_that_does_not_open))
    (setting_of no_job no_input (without_opening (codes "d") empty)) 3000 ≡ Some (FaultedBy OpenOutput [])
unfolding special_arrays special_scalars emitted all_emitted step_emitted steps_emitted texts_in all_texts stmt_texts stmts_texts code_of codes_of key_code kept_code argument_codes truncated_code applied_code step_code steps_code numeral_at sign_at fraction_at exponent_at numerator denominator digits unescaped escaped octal keywords builtins left_out_words table sign_of
file_that_does_not_open = refl

-- { print ($1 == 1), ($1 == "1"), (u == 0), (u == "") }
pub numeric_strings : value_run (program_of (resolved scripts.numeric_strings))
    (setting_of no_job (record { rest = (codes "1.0\n"); ending = End }) empty) 3000 ≡ Some (Ended 0 (puts Standard (codes "1 0 1 1\n")))
unfolding special_arrays special_scalars emitted all_emitted step_emitted steps_emitted texts_in all_texts stmt_texts stmts_texts code_of codes_of key_code kept_code argument_codes truncated_code applied_code step_code steps_code numeral_at sign_at fraction_at exponent_at numerator denominator digits unescaped escaped octal keywords builtins left_out_words table sign_of
numeric_strings = refl

-- NR == 1 { getline; print; getline x; print x, NR, $0 }
pub getline_in_loop : value_run (program_of (resolved scripts.getline_in_loop))
    (setting_of no_job (record { rest = (codes "a\nb\nc\n"); ending = End }) empty) 3000 ≡ Some (Ended 0 (puts Standard (codes "b\nc 3 b\n")))
unfolding special_arrays special_scalars emitted all_emitted step_emitted steps_emitted texts_in all_texts stmt_texts stmts_texts code_of codes_of key_code kept_code argument_codes truncated_code applied_code step_code steps_code numeral_at sign_at fraction_at exponent_at numerator denominator digits unescaped escaped octal keywords builtins left_out_words table sign_of
getline_in_loop = refl

-- /b/, /c/; /b/, /b/ { print NR }
pub ranges : value_run (program_of (resolved scripts.ranges)) (setting_of no_job (record { rest = (codes "a\nb\nc\nb\n"); ending = End }) empty) 3000
    ≡ Some (Ended 0 (puts Standard (codes "b\n2\nc\nb\n4\n")))
unfolding special_arrays special_scalars emitted all_emitted step_emitted steps_emitted texts_in all_texts stmt_texts stmts_texts code_of codes_of key_code kept_code argument_codes truncated_code applied_code step_code steps_code numeral_at sign_at fraction_at exponent_at numerator denominator digits unescaped escaped octal keywords builtins left_out_words table sign_of
ranges = refl

-- BEGIN { print substr("hello", 0, 3), substr("hello", -1), substr("hello", 4, 99), index("hello", "l"), split("a:b::c", p, ":"), "[" p[3] "]",
-- toupper("ab") tolower("CD") }
pub text_functions : value_run (program_of (resolved scripts.text_functions)) (setting_of no_job no_input empty) 3000
    ≡ Some (Ended 0 (puts Standard (codes "he hello lo 3 4 [] ABcd\n")))
unfolding special_arrays special_scalars emitted all_emitted step_emitted steps_emitted texts_in all_texts stmt_texts stmts_texts code_of codes_of key_code kept_code argument_codes truncated_code applied_code step_code steps_code numeral_at sign_at fraction_at exponent_at numerator denominator digits unescaped escaped octal keywords builtins left_out_words table sign_of
text_functions = refl

-- BEGIN { n = 1; print n ++ 2; print "a" ++n; x = 1 + 2 " " 3; print x; print 1==1, 2 ^ 3 ^ 2, -2 ^ 2, !1 + 1 }
pub steps_and_powers : value_run (program_of (resolved scripts.steps_and_powers)) (setting_of no_job no_input empty) 3000
    ≡ Some (Ended 0 (puts Standard (codes "12\na3\n3 3\n1 512 -4 1\n")))
unfolding special_arrays special_scalars emitted all_emitted step_emitted steps_emitted texts_in all_texts stmt_texts stmts_texts code_of codes_of key_code kept_code argument_codes truncated_code applied_code step_code steps_code numeral_at sign_at fraction_at exponent_at numerator denominator digits unescaped escaped octal keywords builtins left_out_words table sign_of
steps_and_powers = refl

-- BEGIN { print "a", 1 / 0 }
pub no_output_before_a_fault : value_run (program_of (resolved scripts.no_output_before_a_fault)) (setting_of no_job no_input empty) 3000
    ≡ Some (FaultedBy DivisionByZero [])
unfolding special_arrays special_scalars emitted all_emitted step_emitted steps_emitted texts_in all_texts stmt_texts stmts_texts code_of codes_of key_code kept_code argument_codes truncated_code applied_code step_code steps_code numeral_at sign_at fraction_at exponent_at numerator denominator digits unescaped escaped octal keywords builtins left_out_words table sign_of
no_output_before_a_fault = refl

-- BEGIN { for (;;) if (i++ > 2) break; print i }
pub test_left_out_costs_a_turn : value_run (program_of (resolved scripts.test_left_out_costs_a_turn)) (setting_of no_job no_input empty) 3000
    ≡ Some (Ended 0 (puts Standard (codes "4\n")))
unfolding special_arrays special_scalars emitted all_emitted step_emitted steps_emitted texts_in all_texts stmt_texts stmts_texts code_of codes_of key_code kept_code argument_codes truncated_code applied_code step_code steps_code numeral_at sign_at fraction_at exponent_at numerator denominator digits unescaped escaped octal keywords builtins left_out_words table sign_of
test_left_out_costs_a_turn = refl

-- function f() { printf "f"; return 1 } BEGIN { print "0.5" + f() }
pub operands_before_conversions : value_run (program_of (resolved scripts.operands_before_conversions)) (setting_of no_job no_input empty) 3000
    ≡ Some (FaultedBy Fraction (puts Standard (codes "f")))
unfolding special_arrays special_scalars emitted all_emitted step_emitted steps_emitted texts_in all_texts stmt_texts stmts_texts code_of codes_of key_code kept_code argument_codes truncated_code applied_code step_code steps_code numeral_at sign_at fraction_at exponent_at numerator denominator digits unescaped escaped octal keywords builtins left_out_words table sign_of
operands_before_conversions = refl

-- BEGIN { x = 1; x += x++; print x; y = "0.5"; y += "1e99" }
pub old_value_after_right_side : value_run (program_of (resolved scripts.old_value_after_right_side)) (setting_of no_job no_input empty) 3000
    ≡ Some (FaultedBy Fraction (puts Standard (codes "3\n")))
unfolding special_arrays special_scalars emitted all_emitted step_emitted steps_emitted texts_in all_texts stmt_texts stmts_texts code_of codes_of key_code kept_code argument_codes truncated_code applied_code step_code steps_code numeral_at sign_at fraction_at exponent_at numerator denominator digits unescaped escaped octal keywords builtins left_out_words table sign_of
old_value_after_right_side = refl

-- function f() { printf "f" } BEGIN { $(-1) = f() }
pub field_checked_first : value_run (program_of (resolved scripts.field_checked_first)) (setting_of no_job no_input empty) 3000
    ≡ Some (FaultedBy FieldNumber [])
unfolding special_arrays special_scalars emitted all_emitted step_emitted steps_emitted texts_in all_texts stmt_texts stmts_texts code_of codes_of key_code kept_code argument_codes truncated_code applied_code step_code steps_code numeral_at sign_at fraction_at exponent_at numerator denominator digits unescaped escaped octal keywords builtins left_out_words table sign_of
field_checked_first = refl

-- BEGIN { a["x"] = a["y"]; for (k in a) print k; b["k"] = ("k" in b); print b["k"] }
pub element_made_last : value_run (program_of (resolved scripts.element_made_last)) (setting_of no_job no_input empty) 3000
    ≡ Some (Ended 0 (puts Standard (codes "y\nx\n0\n")))
unfolding special_arrays special_scalars emitted all_emitted step_emitted steps_emitted texts_in all_texts stmt_texts stmts_texts code_of codes_of key_code kept_code argument_codes truncated_code applied_code step_code steps_code numeral_at sign_at fraction_at exponent_at numerator denominator digits unescaped escaped octal keywords builtins left_out_words table sign_of
element_made_last = refl

-- BEGIN { a[1, 2, SUBSEP = "-"] = 5; for (k in a) print k; print ((1, 2, "-") in a) }
pub subscripts_joined : value_run (program_of (resolved scripts.subscripts_joined)) (setting_of no_job no_input empty) 3000
    ≡ Some (Ended 0 (puts Standard (codes "1-2--\n1\n")))
unfolding special_arrays special_scalars emitted all_emitted step_emitted steps_emitted texts_in all_texts stmt_texts stmts_texts code_of codes_of key_code kept_code argument_codes truncated_code applied_code step_code steps_code numeral_at sign_at fraction_at exponent_at numerator denominator digits unescaped escaped octal keywords builtins left_out_words table sign_of
subscripts_joined = refl

-- function f(a, n, own) { own[1] = n; a["k"] = own[1]; n = 9; return length(own[1]) } BEGIN { n = 12; print f(t, n), t["k"], n }
pub arrays_by_reference : value_run (program_of (resolved scripts.arrays_by_reference)) (setting_of no_job no_input empty) 3000
    ≡ Some (Ended 0 (puts Standard (codes "2 12 12\n")))
unfolding special_arrays special_scalars emitted all_emitted step_emitted steps_emitted texts_in all_texts stmt_texts stmts_texts code_of codes_of key_code kept_code argument_codes truncated_code applied_code step_code steps_code numeral_at sign_at fraction_at exponent_at numerator denominator digits unescaped escaped octal keywords builtins left_out_words table sign_of
arrays_by_reference = refl

-- BEGIN { do { i++; if (i == 2) continue; if (i == 4) break; print i } while (i < 9); for (j = 0; j < 3; j++) { if (j == 1) continue; print j } }
pub do_and_continue : value_run (program_of (resolved scripts.do_and_continue)) (setting_of no_job no_input empty) 3000
    ≡ Some (Ended 0 (puts Standard (codes "1\n3\n0\n2\n")))
unfolding special_arrays special_scalars emitted all_emitted step_emitted steps_emitted texts_in all_texts stmt_texts stmts_texts code_of codes_of key_code kept_code argument_codes truncated_code applied_code step_code steps_code numeral_at sign_at fraction_at exponent_at numerator denominator digits unescaped escaped octal keywords builtins left_out_words table sign_of
do_and_continue = refl

-- BEGIN { exit 2 } END { print "e"; exit; print "no" }
pub exit_in_end : value_run (program_of (resolved scripts.exit_in_end)) (setting_of no_job no_input empty) 3000 ≡ Some (Ended 2 (puts Standard (codes "e\n")))
unfolding special_arrays special_scalars emitted all_emitted step_emitted steps_emitted texts_in all_texts stmt_texts stmts_texts code_of codes_of key_code kept_code argument_codes truncated_code applied_code step_code steps_code numeral_at sign_at fraction_at exponent_at numerator denominator digits unescaped escaped octal keywords builtins left_out_words table sign_of
exit_in_end = refl

-- END { print getline, getline x, x "", NR }
pub getline_at_end : value_run (program_of (resolved scripts.getline_at_end))
    (setting_of no_job (record { rest = (codes "a\n"); ending = End }) empty) 3000 ≡ Some (Ended 0 (puts Standard (codes "0 0  1\n")))
unfolding special_arrays special_scalars emitted all_emitted step_emitted steps_emitted texts_in all_texts stmt_texts stmts_texts code_of codes_of key_code kept_code argument_codes truncated_code applied_code step_code steps_code numeral_at sign_at fraction_at exponent_at numerator denominator digits unescaped escaped octal keywords builtins left_out_words table sign_of
getline_at_end = refl

-- function k() { printf "k"; return "q" } BEGIN { a["q"] = "aXb"; n = sub(/X/, "[&]", a[k()]); print n, a["q"] }
pub sub_keeps_key : value_run (program_of (resolved scripts.sub_keeps_key)) (setting_of no_job no_input empty) 3000
    ≡ Some (Ended 0 (puts Standard (codes "k1 a[X]b\n")))
unfolding special_arrays special_scalars emitted all_emitted step_emitted steps_emitted texts_in all_texts stmt_texts stmts_texts code_of codes_of key_code kept_code argument_codes truncated_code applied_code step_code steps_code numeral_at sign_at fraction_at exponent_at numerator denominator digits unescaped escaped octal keywords builtins left_out_words table sign_of
sub_keeps_key = refl

-- BEGIN { $0 = "a b"; print > ($0 = "f") }
pub target_after_operands : value_run (program_of (resolved scripts.target_after_operands)) (setting_of no_job no_input empty) 3000
    ≡ Some (Ended 0 ((Open (codes "f") false ∷ []) ++ (puts (Named (codes "f")) (codes "a b\n"))))
unfolding special_arrays special_scalars emitted all_emitted step_emitted steps_emitted texts_in all_texts stmt_texts stmts_texts code_of codes_of key_code kept_code argument_codes truncated_code applied_code step_code steps_code numeral_at sign_at fraction_at exponent_at numerator denominator digits unescaped escaped octal keywords builtins left_out_words table sign_of
target_after_operands = refl
