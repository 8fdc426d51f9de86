-- Scripts' runs, computed from the definition.
use Rattle.std.specs.Prelude.{◌≡◌, ℕ, true, false, List, [], ◌∷◌, ◌++◌, codes, Some, None, refl}
use Rattle.std.specs.Fmt.{digits}
use Rattle.awk_text.specs.Reading.{numeral_at, sign_at, fraction_at, exponent_at}
use Rattle.awk_text.specs.Number.{numerator, denominator}
use Rattle.awk_text.specs.Escapes.{unescaped, escaped, octal}
use Rattle.awk_tokens.specs.Words.{keywords, builtins, left_out_words}
use Rattle.ere_syntax.specs.Scan.{table}
use Rattle.ere_syntax.specs.Readers.{sign_of}
use Rattle.awk_values.specs.declared.fault.Fault.TheVariants.{Range, Fraction, DivisionByZero, Inexact, FieldNumber, Format, BadEre, OpenInput, ReadFailed, OpenOutput, WriteFailed, NextOutside, BadAssignment}
use Rattle.world_core.specs.WorldState.{Standard, Named, Outside, Source, absent, replaced, Open, puts}
use Rattle.world_core.specs.declared.world.Ending.{Ending}
use Rattle.world_core.specs.declared.world.Ending.TheVariants.{End, Fails}
use Rattle.sem_primitives.specs.Jobs.{JobForm, Closed}
use Rattle.sem_scripts.specs.ScriptState.{spend_all}
use Rattle.awk_grammar.specs.Kinds.{special_arrays, special_scalars}
use Rattle.sem_scripts.specs.Kinds.{resolved}
use Rattle.sem_scripts.specs.Meaning.{asked, value_of, values_of, key_of, place_of, passed, truncated_of, applied}
use Rattle.sem_scripts.specs.Statements.{loop, over_keys, plain_done, done_by, all_done, called}
use Rattle.sem_scripts.specs.Items.{items_done, begun, ended}
use Rattle.sem_scripts.specs.ScriptRun.{first_assigned, records_done, Ended, FaultedBy, GoesOn, Exhausted, resolved_run}
use Rattle.sem_scripts.specs.RunOf.{run_of}
use Rattle.mid_program.specs.Scripts as scripts

abbrev no_job : JobForm
no_job = record { operands = []; assigns = []; environment = [] }

abbrev no_input : Source
no_input = record { rest = []; ending = End }

abbrev empty : Outside
empty = λ target. absent

-- where standard output has room for so many bytes
abbrev narrow : ℕ → Outside
narrow room = replaced Standard (record { bytes = Some []; ending = End; room = Some room; opens = true }) empty

abbrev with_file : List ℕ → List ℕ → Ending → Outside → Outside
with_file name bytes ending outside = replaced (Named name) (record { bytes = Some bytes; ending = ending; room = None; opens = true }) outside

abbrev without_opening : List ℕ → Outside → Outside
without_opening name outside = replaced (Named name) (record { bytes = Some []; ending = End; room = None; opens = false }) outside

-- BEGIN { print 2+3 }
pub sum_printed : run_of scripts.sum_printed no_job no_input empty 20 ≡ Ended 0 (puts Standard (codes "5\n"))
unfolding special_arrays special_scalars spend_all asked value_of values_of key_of place_of passed truncated_of applied loop over_keys plain_done done_by all_done called items_done begun ended first_assigned records_done numeral_at sign_at fraction_at exponent_at numerator denominator digits unescaped escaped octal keywords builtins left_out_words table sign_of
sum_printed = refl

--
pub nothing_read : run_of scripts.nothing_read no_job (record { rest = (codes "x"); ending = End }) empty 20 ≡ Ended 0 []
unfolding special_arrays special_scalars spend_all asked value_of values_of key_of place_of passed truncated_of applied loop over_keys plain_done done_by all_done called items_done begun ended first_assigned records_done numeral_at sign_at fraction_at exponent_at numerator denominator digits unescaped escaped octal keywords builtins left_out_words table sign_of
nothing_read = refl

-- BEGIN { print int(7/2), int(-7/2), -7%3; print 7/2; print "no" }
pub quotients : run_of scripts.quotients no_job no_input empty 20 ≡ FaultedBy Inexact (puts Standard (codes "3 -3 -1\n"))
unfolding special_arrays special_scalars spend_all asked value_of values_of key_of place_of passed truncated_of applied loop over_keys plain_done done_by all_done called items_done begun ended first_assigned records_done numeral_at sign_at fraction_at exponent_at numerator denominator digits unescaped escaped octal keywords builtins left_out_words table sign_of
quotients = refl

-- BEGIN { print 2^53; print 2^53+1 }
pub powers : run_of scripts.powers no_job no_input empty 20 ≡ FaultedBy Range (puts Standard (codes "9007199254740992\n"))
unfolding special_arrays special_scalars spend_all asked value_of values_of key_of place_of passed truncated_of applied loop over_keys plain_done done_by all_done called items_done begun ended first_assigned records_done numeral_at sign_at fraction_at exponent_at numerator denominator digits unescaped escaped octal keywords builtins left_out_words table sign_of
powers = refl

-- { if (NF) /x/ || n++ } END { print n/1 }
pub matched_or_counted : run_of scripts.matched_or_counted no_job (record { rest = (codes "x\ny\n"); ending = End }) empty 20
    ≡ Ended 0 (puts Standard (codes "1\n"))
unfolding special_arrays special_scalars spend_all asked value_of values_of key_of place_of passed truncated_of applied loop over_keys plain_done done_by all_done called items_done begun ended first_assigned records_done numeral_at sign_at fraction_at exponent_at numerator denominator digits unescaped escaped octal keywords builtins left_out_words table sign_of
matched_or_counted = refl

-- BEGIN { if (0) n = 1 % 0; print "[" n "]", n+0 }
pub unset_name : run_of scripts.unset_name no_job no_input empty 20 ≡ Ended 0 (puts Standard (codes "[] 0\n"))
unfolding special_arrays special_scalars spend_all asked value_of values_of key_of place_of passed truncated_of applied loop over_keys plain_done done_by all_done called items_done begun ended first_assigned records_done numeral_at sign_at fraction_at exponent_at numerator denominator digits unescaped escaped octal keywords builtins left_out_words table sign_of
unset_name = refl

-- { print ($1 > $2), ($1 > "9") }
pub compared_fields : run_of scripts.compared_fields no_job (record { rest = (codes "10 9\n"); ending = End }) empty 20
    ≡ Ended 0 (puts Standard (codes "1 0\n"))
unfolding special_arrays special_scalars spend_all asked value_of values_of key_of place_of passed truncated_of applied loop over_keys plain_done done_by all_done called items_done begun ended first_assigned records_done numeral_at sign_at fraction_at exponent_at numerator denominator digits unescaped escaped octal keywords builtins left_out_words table sign_of
compared_fields = refl

-- BEGIN { print n; n++; print n }
pub assigned_before : run_of scripts.assigned_before (record {
  operands = [];
  assigns = (((codes "n"), (codes "007"))
      ∷ []);
  environment = [];
}) no_input empty 20 ≡ Ended 0 (puts Standard (codes "007\n8\n"))
unfolding special_arrays special_scalars spend_all asked value_of values_of key_of place_of passed truncated_of applied loop over_keys plain_done done_by all_done called items_done begun ended first_assigned records_done numeral_at sign_at fraction_at exponent_at numerator denominator digits unescaped escaped octal keywords builtins left_out_words table sign_of
assigned_before = refl

-- { print $2 }
pub separator_assigned : run_of scripts.separator_assigned (record {
  operands = [];
  assigns = (((codes "FS"), (codes ":"))
      ∷ []);
  environment = [];
}) (record { rest = (codes "a:b\n"); ending = End }) empty 20 ≡ Ended 0 (puts Standard (codes "b\n"))
unfolding special_arrays special_scalars spend_all asked value_of values_of key_of place_of passed truncated_of applied loop over_keys plain_done done_by all_done called items_done begun ended first_assigned records_done numeral_at sign_at fraction_at exponent_at numerator denominator digits unescaped escaped octal keywords builtins left_out_words table sign_of
separator_assigned = refl

-- function f(x) { if (x == "b") next; return x } { print "<" f($1) ">" }
pub next_in_function : run_of scripts.next_in_function no_job (record { rest = (codes "a\nb\nc\n"); ending = End }) empty 20
    ≡ Ended 0 (puts Standard (codes "<a>\n<c>\n"))
unfolding special_arrays special_scalars spend_all asked value_of values_of key_of place_of passed truncated_of applied loop over_keys plain_done done_by all_done called items_done begun ended first_assigned records_done numeral_at sign_at fraction_at exponent_at numerator denominator digits unescaped escaped octal keywords builtins left_out_words table sign_of
next_in_function = refl

-- function g() { exit 3 } BEGIN { print "a" g(); print "no" } END { print "end" }
pub exit_in_function : run_of scripts.exit_in_function no_job no_input empty 20 ≡ Ended 3 (puts Standard (codes "end\n"))
unfolding special_arrays special_scalars spend_all asked value_of values_of key_of place_of passed truncated_of applied loop over_keys plain_done done_by all_done called items_done begun ended first_assigned records_done numeral_at sign_at fraction_at exponent_at numerator denominator digits unescaped escaped octal keywords builtins left_out_words table sign_of
exit_in_function = refl

-- BEGIN { print -12 " " -24 }
pub joined_signs : run_of scripts.joined_signs no_job no_input empty 20 ≡ Ended 0 (puts Standard (codes "-12-24\n"))
unfolding special_arrays special_scalars spend_all asked value_of values_of key_of place_of passed truncated_of applied loop over_keys plain_done done_by all_done called items_done begun ended first_assigned records_done numeral_at sign_at fraction_at exponent_at numerator denominator digits unescaped escaped octal keywords builtins left_out_words table sign_of
joined_signs = refl

-- BEGIN { s = "abxxc"; n = gsub(/x*/, "-", s); print n, s }
pub all_replaced : run_of scripts.all_replaced no_job no_input empty 20 ≡ Ended 0 (puts Standard (codes "4 -a-b-c-\n"))
unfolding special_arrays special_scalars spend_all asked value_of values_of key_of place_of passed truncated_of applied loop over_keys plain_done done_by all_done called items_done begun ended first_assigned records_done numeral_at sign_at fraction_at exponent_at numerator denominator digits unescaped escaped octal keywords builtins left_out_words table sign_of
all_replaced = refl

-- BEGIN { RS = ""; FS = "," } { print NF ":" $1 "|" $NF }
pub paragraphs : run_of scripts.paragraphs no_job (record { rest = (codes "\n\na,b\nc\n\n\nd\n"); ending = End }) empty 20
    ≡ Ended 0 (puts Standard (codes "3:a|c\n1:d|d\n"))
unfolding special_arrays special_scalars spend_all asked value_of values_of key_of place_of passed truncated_of applied loop over_keys plain_done done_by all_done called items_done begun ended first_assigned records_done numeral_at sign_at fraction_at exponent_at numerator denominator digits unescaped escaped octal keywords builtins left_out_words table sign_of
paragraphs = refl

-- { print }
pub input_fails : run_of scripts.input_fails no_job (record { rest = (codes "a\nb"); ending = Fails }) empty 20
    ≡ FaultedBy ReadFailed (puts Standard (codes "a\n"))
unfolding special_arrays special_scalars spend_all asked value_of values_of key_of place_of passed truncated_of applied loop over_keys plain_done done_by all_done called items_done begun ended first_assigned records_done numeral_at sign_at fraction_at exponent_at numerator denominator digits unescaped escaped octal keywords builtins left_out_words table sign_of
input_fails = refl

-- BEGIN { print (getline < "f"), $0; print (getline < "f") }
pub file_fails : run_of scripts.file_fails no_job no_input (with_file (codes "f") (codes "a\nb") Fails empty) 20 ≡ Ended 0 (puts Standard (codes "1 a\n-1\n"))
unfolding special_arrays special_scalars spend_all asked value_of values_of key_of place_of passed truncated_of applied loop over_keys plain_done done_by all_done called items_done begun ended first_assigned records_done numeral_at sign_at fraction_at exponent_at numerator denominator digits unescaped escaped octal keywords builtins left_out_words table sign_of
file_fails = refl

-- BEGIN { print "ab"; print "cd" }
pub little_room : run_of scripts.little_room no_job no_input (narrow 4) 20 ≡ FaultedBy WriteFailed (puts Standard (codes "ab\nc"))
unfolding special_arrays special_scalars spend_all asked value_of values_of key_of place_of passed truncated_of applied loop over_keys plain_done done_by all_done called items_done begun ended first_assigned records_done numeral_at sign_at fraction_at exponent_at numerator denominator digits unescaped escaped octal keywords builtins left_out_words table sign_of
little_room = refl

-- BEGIN { OFS = "-" } { $5 = "e"; print; print NF; NF = 2; print }
pub fields_joined : run_of scripts.fields_joined no_job (record { rest = (codes "a b c\n"); ending = End }) empty 20
    ≡ Ended 0 (puts Standard (codes "a-b-c--e\n5\na-b\n"))
unfolding special_arrays special_scalars spend_all asked value_of values_of key_of place_of passed truncated_of applied loop over_keys plain_done done_by all_done called items_done begun ended first_assigned records_done numeral_at sign_at fraction_at exponent_at numerator denominator digits unescaped escaped octal keywords builtins left_out_words table sign_of
fields_joined = refl

-- { print $1; print int($1); print $1+0 }
pub fraction_read : run_of scripts.fraction_read no_job (record { rest = (codes "0.5\n"); ending = End }) empty 20
    ≡ FaultedBy Fraction (puts Standard (codes "0.5\n0\n"))
unfolding special_arrays special_scalars spend_all asked value_of values_of key_of place_of passed truncated_of applied loop over_keys plain_done done_by all_done called items_done begun ended first_assigned records_done numeral_at sign_at fraction_at exponent_at numerator denominator digits unescaped escaped octal keywords builtins left_out_words table sign_of
fraction_read = refl

-- function r(n) { return n ? r(n-1) : 7 } BEGIN { print r(3) }
pub calls_nested : resolved_run (resolved scripts.calls_nested) (record { job = no_job; input = no_input; outside = Closed empty; deepest = 4 }) 20
    ≡ Ended 0 (puts Standard (codes "7\n"))
unfolding special_arrays special_scalars spend_all asked value_of values_of key_of place_of passed truncated_of applied loop over_keys plain_done done_by all_done called items_done begun ended first_assigned records_done numeral_at sign_at fraction_at exponent_at numerator denominator digits unescaped escaped octal keywords builtins left_out_words table sign_of
calls_nested = refl

-- function r(n) { return n ? r(n-1) : 7 } BEGIN { print "x"; print r(4) }
pub calls_too_deep : resolved_run (resolved scripts.calls_too_deep) (record { job = no_job; input = no_input; outside = Closed empty; deepest = 4 }) 20
    ≡ Exhausted (puts Standard (codes "x\n"))
unfolding special_arrays special_scalars spend_all asked value_of values_of key_of place_of passed truncated_of applied loop over_keys plain_done done_by all_done called items_done begun ended first_assigned records_done numeral_at sign_at fraction_at exponent_at numerator denominator digits unescaped escaped octal keywords builtins left_out_words table sign_of
calls_too_deep = refl

-- function h() { next } BEGIN { h() }
pub next_outside : run_of scripts.next_outside no_job no_input empty 20 ≡ FaultedBy NextOutside []
unfolding special_arrays special_scalars spend_all asked value_of values_of key_of place_of passed truncated_of applied loop over_keys plain_done done_by all_done called items_done begun ended first_assigned records_done numeral_at sign_at fraction_at exponent_at numerator denominator digits unescaped escaped octal keywords builtins left_out_words table sign_of
next_outside = refl

-- BEGIN { printf "%5d|%-4s|%04d|%x|%c|%.2f|%%\n", 42, "ab", -7, 255, 65, 3; printf "%d\n" }
pub formatted : run_of scripts.formatted no_job no_input empty 20 ≡ FaultedBy Format (puts Standard (codes "   42|ab  |-007|ff|A|3.00|%\n"))
unfolding special_arrays special_scalars spend_all asked value_of values_of key_of place_of passed truncated_of applied loop over_keys plain_done done_by all_done called items_done begun ended first_assigned records_done numeral_at sign_at fraction_at exponent_at numerator denominator digits unescaped escaped octal keywords builtins left_out_words table sign_of
formatted = refl

-- BEGIN { print ("abcd" ~ "b|bc"), match("abcd", "b|bc"), RSTART, RLENGTH; print "x" ~ "(" }
pub longest_match : run_of scripts.longest_match no_job no_input empty 20 ≡ FaultedBy BadEre (puts Standard (codes "1 2 2 2\n"))
unfolding special_arrays special_scalars spend_all asked value_of values_of key_of place_of passed truncated_of applied loop over_keys plain_done done_by all_done called items_done begun ended first_assigned records_done numeral_at sign_at fraction_at exponent_at numerator denominator digits unescaped escaped octal keywords builtins left_out_words table sign_of
longest_match = refl

-- BEGIN { a["x"]; a["y"]; a["z"]; delete a["x"]; a["x"] = 1; for (k in a) { printf "%s ", k; delete a["x"] }; print ("x" in a) }
pub keys_visited : run_of scripts.keys_visited no_job no_input empty 20 ≡ Ended 0 (puts Standard (codes "y z x 0\n"))
unfolding special_arrays special_scalars spend_all asked value_of values_of key_of place_of passed truncated_of applied loop over_keys plain_done done_by all_done called items_done begun ended first_assigned records_done numeral_at sign_at fraction_at exponent_at numerator denominator digits unescaped escaped octal keywords builtins left_out_words table sign_of
keys_visited = refl

-- BEGIN { print "a" > "f"; print "b" > "f"; print close("f"), close("f"); while ((getline x < "f") > 0) print "got " x; print "c" >> "f" }
pub file_written_and_read : run_of scripts.file_written_and_read no_job no_input empty 20
    ≡ Ended 0 ((Open (codes "f") false ∷ [])
    ++ (puts (Named (codes "f")) (codes "a\nb\n")
    ++ (puts Standard (codes "0 -1\ngot a\ngot b\n") ++ ((Open (codes "f") true ∷ []) ++ (puts (Named (codes "f")) (codes "c\n"))))))
unfolding special_arrays special_scalars spend_all asked value_of values_of key_of place_of passed truncated_of applied loop over_keys plain_done done_by all_done called items_done begun ended first_assigned records_done numeral_at sign_at fraction_at exponent_at numerator denominator digits unescaped escaped octal keywords builtins left_out_words table sign_of
file_written_and_read = refl

-- { print v, FILENAME, FNR, NR }
pub assignments_between_files : run_of scripts.assignments_between_files (record {
  operands = ((codes "v=1") ∷ (codes "f") ∷ (codes "v=a b")
      ∷ (codes "g") ∷ (codes "h") ∷ []);
  assigns = [];
  environment = [];
}) no_input
    (with_file (codes "g") (codes "q") End (with_file (codes "f") (codes "p\n") End empty)) 20
    ≡ FaultedBy OpenInput (puts Standard (codes "1 f 1 1\na b g 1 2\n"))
unfolding special_arrays special_scalars spend_all asked value_of values_of key_of place_of passed truncated_of applied loop over_keys plain_done done_by all_done called items_done begun ended first_assigned records_done numeral_at sign_at fraction_at exponent_at numerator denominator digits unescaped escaped octal keywords builtins left_out_words table sign_of
assignments_between_files = refl

-- BEGIN { a = 2^53; print a * a }
pub product_past_range : run_of scripts.product_past_range no_job no_input empty 20 ≡ FaultedBy Range []
unfolding special_arrays special_scalars spend_all asked value_of values_of key_of place_of passed truncated_of applied loop over_keys plain_done done_by all_done called items_done begun ended first_assigned records_done numeral_at sign_at fraction_at exponent_at numerator denominator digits unescaped escaped octal keywords builtins left_out_words table sign_of
product_past_range = refl

-- BEGIN { print $1048577 }
pub field_past_limit : run_of scripts.field_past_limit no_job no_input empty 20 ≡ FaultedBy FieldNumber []
unfolding special_arrays special_scalars spend_all asked value_of values_of key_of place_of passed truncated_of applied loop over_keys plain_done done_by all_done called items_done begun ended first_assigned records_done numeral_at sign_at fraction_at exponent_at numerator denominator digits unescaped escaped octal keywords builtins left_out_words table sign_of
field_past_limit = refl

-- BEGIN { print $(-1) }
pub field_below_zero : run_of scripts.field_below_zero no_job no_input empty 20 ≡ FaultedBy FieldNumber []
unfolding special_arrays special_scalars spend_all asked value_of values_of key_of place_of passed truncated_of applied loop over_keys plain_done done_by all_done called items_done begun ended first_assigned records_done numeral_at sign_at fraction_at exponent_at numerator denominator digits unescaped escaped octal keywords builtins left_out_words table sign_of
field_below_zero = refl

-- BEGIN { printf "%s", "x"; exit -1 }
pub status_modulo : run_of scripts.status_modulo no_job no_input empty 20 ≡ Ended 255 (puts Standard (codes "x"))
unfolding special_arrays special_scalars spend_all asked value_of values_of key_of place_of passed truncated_of applied loop over_keys plain_done done_by all_done called items_done begun ended first_assigned records_done numeral_at sign_at fraction_at exponent_at numerator denominator digits unescaped escaped octal keywords builtins left_out_words table sign_of
status_modulo = refl

-- function f() { } BEGIN { print 1 }
pub function_assigned : run_of scripts.function_assigned (record {
  operands = [];
  assigns = (((codes "f"), (codes "1"))
      ∷ []);
  environment = [];
}) no_input empty 20 ≡ FaultedBy BadAssignment []
unfolding special_arrays special_scalars spend_all asked value_of values_of key_of place_of passed truncated_of applied loop over_keys plain_done done_by all_done called items_done begun ended first_assigned records_done numeral_at sign_at fraction_at exponent_at numerator denominator digits unescaped escaped octal keywords builtins left_out_words table sign_of
function_assigned = refl

-- BEGIN { print "x" > "d" }
pub file_that_does_not_open : run_of scripts.file_that_does_not_open no_job no_input (without_opening (codes "d") empty) 20 ≡ FaultedBy OpenOutput []
unfolding special_arrays special_scalars spend_all asked value_of values_of key_of place_of passed truncated_of applied loop over_keys plain_done done_by all_done called items_done begun ended first_assigned records_done numeral_at sign_at fraction_at exponent_at numerator denominator digits unescaped escaped octal keywords builtins left_out_words table sign_of
file_that_does_not_open = refl

-- { print ($1 == 1), ($1 == "1"), (u == 0), (u == "") }
pub numeric_strings : run_of scripts.numeric_strings no_job (record { rest = (codes "1.0\n"); ending = End }) empty 20
    ≡ Ended 0 (puts Standard (codes "1 0 1 1\n"))
unfolding special_arrays special_scalars spend_all asked value_of values_of key_of place_of passed truncated_of applied loop over_keys plain_done done_by all_done called items_done begun ended first_assigned records_done numeral_at sign_at fraction_at exponent_at numerator denominator digits unescaped escaped octal keywords builtins left_out_words table sign_of
numeric_strings = refl

-- NR == 1 { getline; print; getline x; print x, NR, $0 }
pub getline_in_loop : run_of scripts.getline_in_loop no_job (record { rest = (codes "a\nb\nc\n"); ending = End }) empty 20
    ≡ Ended 0 (puts Standard (codes "b\nc 3 b\n"))
unfolding special_arrays special_scalars spend_all asked value_of values_of key_of place_of passed truncated_of applied loop over_keys plain_done done_by all_done called items_done begun ended first_assigned records_done numeral_at sign_at fraction_at exponent_at numerator denominator digits unescaped escaped octal keywords builtins left_out_words table sign_of
getline_in_loop = refl

-- /b/, /c/; /b/, /b/ { print NR }
pub ranges : run_of scripts.ranges no_job (record { rest = (codes "a\nb\nc\nb\n"); ending = End }) empty 20 ≡ Ended 0 (puts Standard (codes "b\n2\nc\nb\n4\n"))
unfolding special_arrays special_scalars spend_all asked value_of values_of key_of place_of passed truncated_of applied loop over_keys plain_done done_by all_done called items_done begun ended first_assigned records_done numeral_at sign_at fraction_at exponent_at numerator denominator digits unescaped escaped octal keywords builtins left_out_words table sign_of
ranges = refl

-- BEGIN { print substr("hello", 0, 3), substr("hello", -1), substr("hello", 4, 99), index("hello", "l"), split("a:b::c", p, ":"), "[" p[3] "]",
-- toupper("ab") tolower("CD") }
pub text_functions : run_of scripts.text_functions no_job no_input empty 20 ≡ Ended 0 (puts Standard (codes "he hello lo 3 4 [] ABcd\n"))
unfolding special_arrays special_scalars spend_all asked value_of values_of key_of place_of passed truncated_of applied loop over_keys plain_done done_by all_done called items_done begun ended first_assigned records_done numeral_at sign_at fraction_at exponent_at numerator denominator digits unescaped escaped octal keywords builtins left_out_words table sign_of
text_functions = refl

-- BEGIN { n = 1; print n ++ 2; print "a" ++n; x = 1 + 2 " " 3; print x; print 1==1, 2 ^ 3 ^ 2, -2 ^ 2, !1 + 1 }
pub steps_and_powers : run_of scripts.steps_and_powers no_job no_input empty 20 ≡ Ended 0 (puts Standard (codes "12\na3\n3 3\n1 512 -4 1\n"))
unfolding special_arrays special_scalars spend_all asked value_of values_of key_of place_of passed truncated_of applied loop over_keys plain_done done_by all_done called items_done begun ended first_assigned records_done numeral_at sign_at fraction_at exponent_at numerator denominator digits unescaped escaped octal keywords builtins left_out_words table sign_of
steps_and_powers = refl

-- BEGIN { print "a", 1 / 0 }
pub no_output_before_a_fault : run_of scripts.no_output_before_a_fault no_job no_input empty 20 ≡ FaultedBy DivisionByZero []
unfolding special_arrays special_scalars spend_all asked value_of values_of key_of place_of passed truncated_of applied loop over_keys plain_done done_by all_done called items_done begun ended first_assigned records_done numeral_at sign_at fraction_at exponent_at numerator denominator digits unescaped escaped octal keywords builtins left_out_words table sign_of
no_output_before_a_fault = refl

-- BEGIN { while (1) print "y" }
pub turns_end : run_of scripts.turns_end no_job no_input empty 5 ≡ GoesOn (puts Standard (codes "y\ny\ny\ny\ny\n"))
unfolding special_arrays special_scalars spend_all asked value_of values_of key_of place_of passed truncated_of applied loop over_keys plain_done done_by all_done called items_done begun ended first_assigned records_done numeral_at sign_at fraction_at exponent_at numerator denominator digits unescaped escaped octal keywords builtins left_out_words table sign_of
turns_end = refl

-- BEGIN { for (;;) if (i++ > 2) break; print i }
pub test_left_out_costs_a_turn : run_of scripts.test_left_out_costs_a_turn no_job no_input empty 4 ≡ Ended 0 (puts Standard (codes "4\n"))
unfolding special_arrays special_scalars spend_all asked value_of values_of key_of place_of passed truncated_of applied loop over_keys plain_done done_by all_done called items_done begun ended first_assigned records_done numeral_at sign_at fraction_at exponent_at numerator denominator digits unescaped escaped octal keywords builtins left_out_words table sign_of
test_left_out_costs_a_turn = refl

-- function f() { printf "f"; return 1 } BEGIN { print "0.5" + f() }
pub operands_before_conversions : run_of scripts.operands_before_conversions no_job no_input empty 20 ≡ FaultedBy Fraction (puts Standard (codes "f"))
unfolding special_arrays special_scalars spend_all asked value_of values_of key_of place_of passed truncated_of applied loop over_keys plain_done done_by all_done called items_done begun ended first_assigned records_done numeral_at sign_at fraction_at exponent_at numerator denominator digits unescaped escaped octal keywords builtins left_out_words table sign_of
operands_before_conversions = refl

-- BEGIN { x = 1; x += x++; print x; y = "0.5"; y += "1e99" }
pub old_value_after_right_side : run_of scripts.old_value_after_right_side no_job no_input empty 20 ≡ FaultedBy Fraction (puts Standard (codes "3\n"))
unfolding special_arrays special_scalars spend_all asked value_of values_of key_of place_of passed truncated_of applied loop over_keys plain_done done_by all_done called items_done begun ended first_assigned records_done numeral_at sign_at fraction_at exponent_at numerator denominator digits unescaped escaped octal keywords builtins left_out_words table sign_of
old_value_after_right_side = refl

-- function f() { printf "f" } BEGIN { $(-1) = f() }
pub field_checked_first : run_of scripts.field_checked_first no_job no_input empty 20 ≡ FaultedBy FieldNumber []
unfolding special_arrays special_scalars spend_all asked value_of values_of key_of place_of passed truncated_of applied loop over_keys plain_done done_by all_done called items_done begun ended first_assigned records_done numeral_at sign_at fraction_at exponent_at numerator denominator digits unescaped escaped octal keywords builtins left_out_words table sign_of
field_checked_first = refl

-- BEGIN { a["x"] = a["y"]; for (k in a) print k; b["k"] = ("k" in b); print b["k"] }
pub element_made_last : run_of scripts.element_made_last no_job no_input empty 20 ≡ Ended 0 (puts Standard (codes "y\nx\n0\n"))
unfolding special_arrays special_scalars spend_all asked value_of values_of key_of place_of passed truncated_of applied loop over_keys plain_done done_by all_done called items_done begun ended first_assigned records_done numeral_at sign_at fraction_at exponent_at numerator denominator digits unescaped escaped octal keywords builtins left_out_words table sign_of
element_made_last = refl

-- BEGIN { a[1, 2, SUBSEP = "-"] = 5; for (k in a) print k; print ((1, 2, "-") in a) }
pub subscripts_joined : run_of scripts.subscripts_joined no_job no_input empty 20 ≡ Ended 0 (puts Standard (codes "1-2--\n1\n"))
unfolding special_arrays special_scalars spend_all asked value_of values_of key_of place_of passed truncated_of applied loop over_keys plain_done done_by all_done called items_done begun ended first_assigned records_done numeral_at sign_at fraction_at exponent_at numerator denominator digits unescaped escaped octal keywords builtins left_out_words table sign_of
subscripts_joined = refl

-- function f(a, n, own) { own[1] = n; a["k"] = own[1]; n = 9; return length(own[1]) } BEGIN { n = 12; print f(t, n), t["k"], n }
pub arrays_by_reference : run_of scripts.arrays_by_reference no_job no_input empty 20 ≡ Ended 0 (puts Standard (codes "2 12 12\n"))
unfolding special_arrays special_scalars spend_all asked value_of values_of key_of place_of passed truncated_of applied loop over_keys plain_done done_by all_done called items_done begun ended first_assigned records_done numeral_at sign_at fraction_at exponent_at numerator denominator digits unescaped escaped octal keywords builtins left_out_words table sign_of
arrays_by_reference = refl

-- BEGIN { do { i++; if (i == 2) continue; if (i == 4) break; print i } while (i < 9); for (j = 0; j < 3; j++) { if (j == 1) continue; print j } }
pub do_and_continue : run_of scripts.do_and_continue no_job no_input empty 20 ≡ Ended 0 (puts Standard (codes "1\n3\n0\n2\n"))
unfolding special_arrays special_scalars spend_all asked value_of values_of key_of place_of passed truncated_of applied loop over_keys plain_done done_by all_done called items_done begun ended first_assigned records_done numeral_at sign_at fraction_at exponent_at numerator denominator digits unescaped escaped octal keywords builtins left_out_words table sign_of
do_and_continue = refl

-- BEGIN { exit 2 } END { print "e"; exit; print "no" }
pub exit_in_end : run_of scripts.exit_in_end no_job no_input empty 20 ≡ Ended 2 (puts Standard (codes "e\n"))
unfolding special_arrays special_scalars spend_all asked value_of values_of key_of place_of passed truncated_of applied loop over_keys plain_done done_by all_done called items_done begun ended first_assigned records_done numeral_at sign_at fraction_at exponent_at numerator denominator digits unescaped escaped octal keywords builtins left_out_words table sign_of
exit_in_end = refl

-- END { print getline, getline x, x "", NR }
pub getline_at_end : run_of scripts.getline_at_end no_job (record { rest = (codes "a\n"); ending = End }) empty 20 ≡ Ended 0 (puts Standard (codes "0 0  1\n"))
unfolding special_arrays special_scalars spend_all asked value_of values_of key_of place_of passed truncated_of applied loop over_keys plain_done done_by all_done called items_done begun ended first_assigned records_done numeral_at sign_at fraction_at exponent_at numerator denominator digits unescaped escaped octal keywords builtins left_out_words table sign_of
getline_at_end = refl

-- function k() { printf "k"; return "q" } BEGIN { a["q"] = "aXb"; n = sub(/X/, "[&]", a[k()]); print n, a["q"] }
pub sub_keeps_key : run_of scripts.sub_keeps_key no_job no_input empty 20 ≡ Ended 0 (puts Standard (codes "k1 a[X]b\n"))
unfolding special_arrays special_scalars spend_all asked value_of values_of key_of place_of passed truncated_of applied loop over_keys plain_done done_by all_done called items_done begun ended first_assigned records_done numeral_at sign_at fraction_at exponent_at numerator denominator digits unescaped escaped octal keywords builtins left_out_words table sign_of
sub_keeps_key = refl

-- BEGIN { $0 = "a b"; print > ($0 = "f") }
pub target_after_operands : run_of scripts.target_after_operands no_job no_input empty 20
    ≡ Ended 0 ((Open (codes "f") false ∷ []) ++ (puts (Named (codes "f")) (codes "a b\n")))
unfolding special_arrays special_scalars spend_all asked value_of values_of key_of place_of passed truncated_of applied loop over_keys plain_done done_by all_done called items_done begun ended first_assigned records_done numeral_at sign_at fraction_at exponent_at numerator denominator digits unescaped escaped octal keywords builtins left_out_words table sign_of
target_after_operands = refl
