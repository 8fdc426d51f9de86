-- Scripts' runs, computed from the definition.
use Rattle.std.specs.Prelude.{◌≡◌, true, false, [], ◌∷◌, ◌++◌, codes, refl}
use Rattle.std.specs.Fmt.{digits}
use Rattle.awk_text.specs.Reading.{numeral_at, sign_at, fraction_at, exponent_at}
use Rattle.awk_text.specs.Number.{numerator, denominator}
use Rattle.awk_text.specs.Escapes.{unescaped, escaped, octal}
use Rattle.awk_tokens.specs.Words.{keywords, builtins, left_out_words}
use Rattle.ere_syntax.specs.Scan.{table}
use Rattle.ere_syntax.specs.Readers.{sign_of}
use Rattle.awk_values.specs.declared.fault.Fault.TheVariants.{Range, Fraction, Inexact, FieldNumber, Format, BadEre, ReadFailed, WriteFailed, NextOutside, BadAssignment}
use Rattle.world_core.specs.WorldState.{Standard, Named, Open, puts}
use Rattle.world_core.specs.declared.world.Ending.TheVariants.{End, Fails}
use Rattle.sem_scripts.specs.ScriptState.{spend_all}
use Rattle.awk_grammar.specs.Kinds.{special_arrays, special_scalars}
use Rattle.sem_scripts.specs.Meaning.{asked, value_of, values_of, key_of, place_of, passed, truncated_of, applied}
use Rattle.sem_scripts.specs.Statements.{loop, over_keys, plain_done, done_by, all_done, called}
use Rattle.sem_scripts.specs.Items.{items_done, begun, ended}
use Rattle.sem_scripts.specs.ScriptRun.{first_assigned, records_done, Ended, FaultedBy, GoesOn}
use Rattle.sem_scripts.specs.RunOf.{run_of}
use Rattle.test_parts.specs.Scripts as scripts
use Rattle.test_parts.specs.Settings.{no_job, no_input, empty, with_file, with_room, two_files}

-- function f() { x = 5; return 1 } BEGIN { x = 1; print x + f(), x; x = 1; print x f() x; x = 1; x += f(); print x }
pub name_read_when_met : run_of scripts.name_read_when_met no_job no_input empty 40 ≡ Ended 0 (puts Standard (codes "2 5\n115\n6\n"))
unfolding special_arrays special_scalars spend_all asked value_of values_of key_of place_of passed truncated_of applied loop over_keys plain_done done_by all_done called items_done begun ended first_assigned records_done numeral_at sign_at fraction_at exponent_at numerator denominator digits unescaped escaped octal keywords builtins left_out_words table sign_of
name_read_when_met = refl

-- { print $1, (getline), $1, NF, NR }
pub getline_among_operands : run_of scripts.getline_among_operands no_job (record { rest = (codes "a b\nc\n"); ending = End }) empty 40
    ≡ Ended 0 (puts Standard (codes "a 1 c 1 2\n"))
unfolding special_arrays special_scalars spend_all asked value_of values_of key_of place_of passed truncated_of applied loop over_keys plain_done done_by all_done called items_done begun ended first_assigned records_done numeral_at sign_at fraction_at exponent_at numerator denominator digits unescaped escaped octal keywords builtins left_out_words table sign_of
getline_among_operands = refl

-- BEGIN { print (NF = "02"), NF, ($0 = 5) + 1, $1, NF }
pub value_of_special_assignment : run_of scripts.value_of_special_assignment no_job no_input empty 40 ≡ Ended 0 (puts Standard (codes "02 2 6 5 1\n"))
unfolding special_arrays special_scalars spend_all asked value_of values_of key_of place_of passed truncated_of applied loop over_keys plain_done done_by all_done called items_done begun ended first_assigned records_done numeral_at sign_at fraction_at exponent_at numerator denominator digits unescaped escaped octal keywords builtins left_out_words table sign_of
value_of_special_assignment = refl

-- BEGIN { a[3]; a["x"]; $0 = "p q"; for (NF in a) print NF, $0 "." }
pub count_as_key : run_of scripts.count_as_key no_job no_input empty 40 ≡ Ended 0 (puts Standard (codes "3 p q .\n0 .\n"))
unfolding special_arrays special_scalars spend_all asked value_of values_of key_of place_of passed truncated_of applied loop over_keys plain_done done_by all_done called items_done begun ended first_assigned records_done numeral_at sign_at fraction_at exponent_at numerator denominator digits unescaped escaped octal keywords builtins left_out_words table sign_of
count_as_key = refl

-- BEGIN { a["-1"]; for (NF in a) print "no" }
pub key_below_zero_as_count : run_of scripts.key_below_zero_as_count no_job no_input empty 40 ≡ FaultedBy FieldNumber []
unfolding special_arrays special_scalars spend_all asked value_of values_of key_of place_of passed truncated_of applied loop over_keys plain_done done_by all_done called items_done begun ended first_assigned records_done numeral_at sign_at fraction_at exponent_at numerator denominator digits unescaped escaped octal keywords builtins left_out_words table sign_of
key_below_zero_as_count = refl

-- BEGIN { x = 2; x ^= x += 1; print x; a["i"] -= a["j"]--; for (k in a) print k a[k]; $2 *= 4; $3 %= NF; print NF $0 }
pub operators_with_assignment : run_of scripts.operators_with_assignment no_job no_input empty 40 ≡ Ended 0 (puts Standard (codes "27\nj-1\ni0\n3 0 0\n"))
unfolding special_arrays special_scalars spend_all asked value_of values_of key_of place_of passed truncated_of applied loop over_keys plain_done done_by all_done called items_done begun ended first_assigned records_done numeral_at sign_at fraction_at exponent_at numerator denominator digits unescaped escaped octal keywords builtins left_out_words table sign_of
operators_with_assignment = refl

-- BEGIN { i = 2; $0 = "1 5 c"; print $i++, $2, i, ++$i, $0, $(i++) = i, $0, i }
pub steps_in_fields : run_of scripts.steps_in_fields no_job no_input empty 40 ≡ Ended 0 (puts Standard (codes "5 6 2 7 1 7 c 3 1 3 c 3\n"))
unfolding special_arrays special_scalars spend_all asked value_of values_of key_of place_of passed truncated_of applied loop over_keys plain_done done_by all_done called items_done begun ended first_assigned records_done numeral_at sign_at fraction_at exponent_at numerator denominator digits unescaped escaped octal keywords builtins left_out_words table sign_of
steps_in_fields = refl

-- BEGIN { print (NR = "4") (NR += 1) NR++ NR }
pub special_steps : run_of scripts.special_steps no_job no_input empty 40 ≡ Ended 0 (puts Standard (codes "4556\n"))
unfolding special_arrays special_scalars spend_all asked value_of values_of key_of place_of passed truncated_of applied loop over_keys plain_done done_by all_done called items_done begun ended first_assigned records_done numeral_at sign_at fraction_at exponent_at numerator denominator digits unescaped escaped octal keywords builtins left_out_words table sign_of
special_steps = refl

-- BEGIN { while ((getline a[n++]) > 0) ; print n, a[0], (1 in a), (2 in a) }
pub read_into_elements : run_of scripts.read_into_elements no_job (record { rest = (codes "l\nm\n"); ending = End }) empty 40
    ≡ Ended 0 (puts Standard (codes "3 l 1 0\n"))
unfolding special_arrays special_scalars spend_all asked value_of values_of key_of place_of passed truncated_of applied loop over_keys plain_done done_by all_done called items_done begun ended first_assigned records_done numeral_at sign_at fraction_at exponent_at numerator denominator digits unescaped escaped octal keywords builtins left_out_words table sign_of
read_into_elements = refl

-- BEGIN { while ((getline $2 < "f") > 0) print NF, $0 }
pub read_into_field : run_of scripts.read_into_field no_job no_input (with_file (codes "f") (codes "p q\nr\n") End empty) 40
    ≡ Ended 0 (puts Standard (codes "2  p q\n2  r\n"))
unfolding special_arrays special_scalars spend_all asked value_of values_of key_of place_of passed truncated_of applied loop over_keys plain_done done_by all_done called items_done begun ended first_assigned records_done numeral_at sign_at fraction_at exponent_at numerator denominator digits unescaped escaped octal keywords builtins left_out_words table sign_of
read_into_field = refl

-- BEGIN { while ((getline x) > 0) print x, v, NR; print v }
pub assignments_among_reads : run_of scripts.assignments_among_reads (record {
  operands = ((codes "v=1") ∷ (codes "f") ∷ (codes "v=2") ∷ (codes "g")
      ∷ (codes "v=3") ∷ []);
  assigns = [];
  environment = [];
}) no_input
    (with_file (codes "g") (codes "s\n") End (with_file (codes "f") (codes "p q\nr\n") End empty)) 40
    ≡ Ended 0 (puts Standard (codes "p q 1 1\nr 1 2\ns 2 3\n3\n"))
unfolding special_arrays special_scalars spend_all asked value_of values_of key_of place_of passed truncated_of applied loop over_keys plain_done done_by all_done called items_done begun ended first_assigned records_done numeral_at sign_at fraction_at exponent_at numerator denominator digits unescaped escaped octal keywords builtins left_out_words table sign_of
assignments_among_reads = refl

-- function f(v) { getline; return v } BEGIN { print f(4), v, $0 }
pub assignment_in_a_call : run_of scripts.assignment_in_a_call (record {
  operands = ((codes "v=1") ∷ (codes "f")
      ∷ []);
  assigns = [];
  environment = [];
}) no_input (with_file (codes "f") (codes "p q\nr\n") End empty) 40
    ≡ Ended 0 (puts Standard (codes "4 1 p q\n"))
unfolding special_arrays special_scalars spend_all asked value_of values_of key_of place_of passed truncated_of applied loop over_keys plain_done done_by all_done called items_done begun ended first_assigned records_done numeral_at sign_at fraction_at exponent_at numerator denominator digits unescaped escaped octal keywords builtins left_out_words table sign_of
assignment_in_a_call = refl

-- BEGIN { $0 = "aa b"; n = gsub(/a/, "&x"); print n, $0, $1, NF; print gsub("q", ""), $0 }
pub all_replaced_in_record : run_of scripts.all_replaced_in_record no_job no_input empty 40 ≡ Ended 0 (puts Standard (codes "2 axax b axax 2\n0 axax b\n"))
unfolding special_arrays special_scalars spend_all asked value_of values_of key_of place_of passed truncated_of applied loop over_keys plain_done done_by all_done called items_done begun ended first_assigned records_done numeral_at sign_at fraction_at exponent_at numerator denominator digits unescaped escaped octal keywords builtins left_out_words table sign_of
all_replaced_in_record = refl

-- function g(q) { q[1] = 7 } function f(p) { g(p) } function h(u) { return 3 } BEGIN { f(t); print t[1], h(t), h(), h(w) }
pub arrays_through_calls : run_of scripts.arrays_through_calls no_job no_input empty 40 ≡ Ended 0 (puts Standard (codes "7 3 3 3\n"))
unfolding special_arrays special_scalars spend_all asked value_of values_of key_of place_of passed truncated_of applied loop over_keys plain_done done_by all_done called items_done begun ended first_assigned records_done numeral_at sign_at fraction_at exponent_at numerator denominator digits unescaped escaped octal keywords builtins left_out_words table sign_of
arrays_through_calls = refl

-- function r(n, a) { a[n]; if (n) r(n - 1); for (k in a) c = c k } BEGIN { r(2); print c }
pub fresh_array_handed_on : run_of scripts.fresh_array_handed_on no_job no_input empty 40 ≡ Ended 0 (puts Standard (codes "012\n"))
unfolding special_arrays special_scalars spend_all asked value_of values_of key_of place_of passed truncated_of applied loop over_keys plain_done done_by all_done called items_done begun ended first_assigned records_done numeral_at sign_at fraction_at exponent_at numerator denominator digits unescaped escaped octal keywords builtins left_out_words table sign_of
fresh_array_handed_on = refl

-- function n() { next } /a/, n() { print } /b/ { print "B" }
pub next_in_a_pattern : run_of scripts.next_in_a_pattern no_job (record { rest = (codes "a\nb\n"); ending = End }) empty 40 ≡ Ended 0 []
unfolding special_arrays special_scalars spend_all asked value_of values_of key_of place_of passed truncated_of applied loop over_keys plain_done done_by all_done called items_done begun ended first_assigned records_done numeral_at sign_at fraction_at exponent_at numerator denominator digits unescaped escaped octal keywords builtins left_out_words table sign_of
next_in_a_pattern = refl

-- function f() { next } { print } END { f() }
pub next_in_end : run_of scripts.next_in_end no_job (record { rest = (codes "a\n"); ending = End }) empty 40
    ≡ FaultedBy NextOutside (puts Standard (codes "a\n"))
unfolding special_arrays special_scalars spend_all asked value_of values_of key_of place_of passed truncated_of applied loop over_keys plain_done done_by all_done called items_done begun ended first_assigned records_done numeral_at sign_at fraction_at exponent_at numerator denominator digits unescaped escaped octal keywords builtins left_out_words table sign_of
next_in_end = refl

-- function f() { exit -257 } { print "x" f() } END { print "e"; exit; print "no" }
pub status_below_zero : run_of scripts.status_below_zero no_job (record { rest = (codes "a\n"); ending = End }) empty 40
    ≡ Ended 255 (puts Standard (codes "e\n"))
unfolding special_arrays special_scalars spend_all asked value_of values_of key_of place_of passed truncated_of applied loop over_keys plain_done done_by all_done called items_done begun ended first_assigned records_done numeral_at sign_at fraction_at exponent_at numerator denominator digits unescaped escaped octal keywords builtins left_out_words table sign_of
status_below_zero = refl

-- BEGIN { exit 5 } { print "no" } END { print NR; exit "3x" + 300 }
pub exit_before_records : run_of scripts.exit_before_records no_job (record { rest = (codes "a\n"); ending = End }) empty 40
    ≡ Ended 47 (puts Standard (codes "0\n"))
unfolding special_arrays special_scalars spend_all asked value_of values_of key_of place_of passed truncated_of applied loop over_keys plain_done done_by all_done called items_done begun ended first_assigned records_done numeral_at sign_at fraction_at exponent_at numerator denominator digits unescaped escaped octal keywords builtins left_out_words table sign_of
exit_before_records = refl

-- BEGIN { exit "0.5" } END { print "no" }
pub exit_with_fraction : run_of scripts.exit_with_fraction no_job no_input empty 40 ≡ FaultedBy Fraction []
unfolding special_arrays special_scalars spend_all asked value_of values_of key_of place_of passed truncated_of applied loop over_keys plain_done done_by all_done called items_done begun ended first_assigned records_done numeral_at sign_at fraction_at exponent_at numerator denominator digits unescaped escaped octal keywords builtins left_out_words table sign_of
exit_with_fraction = refl

-- function f() { printf "f"; return 1 } BEGIN { print substr("x", "0.5", f()) }
pub arguments_before_conversion : run_of scripts.arguments_before_conversion no_job no_input empty 40 ≡ FaultedBy Fraction (puts Standard (codes "f"))
unfolding special_arrays special_scalars spend_all asked value_of values_of key_of place_of passed truncated_of applied loop over_keys plain_done done_by all_done called items_done begun ended first_assigned records_done numeral_at sign_at fraction_at exponent_at numerator denominator digits unescaped escaped octal keywords builtins left_out_words table sign_of
arguments_before_conversion = refl

-- function f() { printf "f"; return 1 } BEGIN { print -"0.5" + f() }
pub sign_converts_at_once : run_of scripts.sign_converts_at_once no_job no_input empty 40 ≡ FaultedBy Fraction []
unfolding special_arrays special_scalars spend_all asked value_of values_of key_of place_of passed truncated_of applied loop over_keys plain_done done_by all_done called items_done begun ended first_assigned records_done numeral_at sign_at fraction_at exponent_at numerator denominator digits unescaped escaped octal keywords builtins left_out_words table sign_of
sign_converts_at_once = refl

-- BEGIN { printf "%q", 1 > "f" }
pub format_before_file : run_of scripts.format_before_file no_job no_input empty 40 ≡ FaultedBy Format []
unfolding special_arrays special_scalars spend_all asked value_of values_of key_of place_of passed truncated_of applied loop over_keys plain_done done_by all_done called items_done begun ended first_assigned records_done numeral_at sign_at fraction_at exponent_at numerator denominator digits unescaped escaped octal keywords builtins left_out_words table sign_of
format_before_file = refl

-- BEGIN { print int((7/2)), -"3x", !"0" }
pub truncated_quotient : run_of scripts.truncated_quotient no_job no_input empty 40 ≡ Ended 0 (puts Standard (codes "3 -3 0\n"))
unfolding special_arrays special_scalars spend_all asked value_of values_of key_of place_of passed truncated_of applied loop over_keys plain_done done_by all_done called items_done begun ended first_assigned records_done numeral_at sign_at fraction_at exponent_at numerator denominator digits unescaped escaped octal keywords builtins left_out_words table sign_of
truncated_quotient = refl

-- BEGIN { print int(-(7/2)) }
pub quotient_under_a_sign : run_of scripts.quotient_under_a_sign no_job no_input empty 40 ≡ FaultedBy Inexact []
unfolding special_arrays special_scalars spend_all asked value_of values_of key_of place_of passed truncated_of applied loop over_keys plain_done done_by all_done called items_done begun ended first_assigned records_done numeral_at sign_at fraction_at exponent_at numerator denominator digits unescaped escaped octal keywords builtins left_out_words table sign_of
quotient_under_a_sign = refl

-- BEGIN { if (!(getline x < "no")) print "zero"; else print "true" }
pub read_as_a_test : run_of scripts.read_as_a_test no_job no_input empty 40 ≡ Ended 0 (puts Standard (codes "true\n"))
unfolding special_arrays special_scalars spend_all asked value_of values_of key_of place_of passed truncated_of applied loop over_keys plain_done done_by all_done called items_done begun ended first_assigned records_done numeral_at sign_at fraction_at exponent_at numerator denominator digits unescaped escaped octal keywords builtins left_out_words table sign_of
read_as_a_test = refl

-- BEGIN { do print "x"; while (0) }
pub do_without_turns : run_of scripts.do_without_turns no_job no_input empty 0 ≡ GoesOn (puts Standard (codes "x\n"))
unfolding special_arrays special_scalars spend_all asked value_of values_of key_of place_of passed truncated_of applied loop over_keys plain_done done_by all_done called items_done begun ended first_assigned records_done numeral_at sign_at fraction_at exponent_at numerator denominator digits unescaped escaped octal keywords builtins left_out_words table sign_of
do_without_turns = refl

-- function f() { } BEGIN { f(); print "x" }
pub call_without_turns : run_of scripts.call_without_turns no_job no_input empty 0 ≡ GoesOn []
unfolding special_arrays special_scalars spend_all asked value_of values_of key_of place_of passed truncated_of applied loop over_keys plain_done done_by all_done called items_done begun ended first_assigned records_done numeral_at sign_at fraction_at exponent_at numerator denominator digits unescaped escaped octal keywords builtins left_out_words table sign_of
call_without_turns = refl

-- BEGIN { a["p"]; a["q"]; for (k in a) print k }
pub keys_and_turns : run_of scripts.keys_and_turns no_job no_input empty 1 ≡ GoesOn (puts Standard (codes "p\n"))
unfolding special_arrays special_scalars spend_all asked value_of values_of key_of place_of passed truncated_of applied loop over_keys plain_done done_by all_done called items_done begun ended first_assigned records_done numeral_at sign_at fraction_at exponent_at numerator denominator digits unescaped escaped octal keywords builtins left_out_words table sign_of
keys_and_turns = refl

-- { print } END { print "e" }
pub records_and_turns : run_of scripts.records_and_turns no_job (record { rest = (codes "a\nb\n"); ending = End }) empty 1
    ≡ GoesOn (puts Standard (codes "a\n"))
unfolding special_arrays special_scalars spend_all asked value_of values_of key_of place_of passed truncated_of applied loop over_keys plain_done done_by all_done called items_done begun ended first_assigned records_done numeral_at sign_at fraction_at exponent_at numerator denominator digits unescaped escaped octal keywords builtins left_out_words table sign_of
records_and_turns = refl

-- { print } END { print "e" }
pub turn_for_each_record : run_of scripts.turn_for_each_record no_job (record { rest = (codes "a\nb\n"); ending = End }) empty 2
    ≡ Ended 0 (puts Standard (codes "a\nb\ne\n"))
unfolding special_arrays special_scalars spend_all asked value_of values_of key_of place_of passed truncated_of applied loop over_keys plain_done done_by all_done called items_done begun ended first_assigned records_done numeral_at sign_at fraction_at exponent_at numerator denominator digits unescaped escaped octal keywords builtins left_out_words table sign_of
turn_for_each_record = refl

-- BEGIN { print v }
pub assignment_without_turns : run_of scripts.assignment_without_turns (record {
  operands = [];
  assigns = (((codes "v"), (codes "1"))
      ∷ []);
  environment = [];
}) no_input empty 0 ≡ GoesOn []
unfolding special_arrays special_scalars spend_all asked value_of values_of key_of place_of passed truncated_of applied loop over_keys plain_done done_by all_done called items_done begun ended first_assigned records_done numeral_at sign_at fraction_at exponent_at numerator denominator digits unescaped escaped octal keywords builtins left_out_words table sign_of
assignment_without_turns = refl

-- BEGIN { print "x" }
pub special_assigned_without_turns : run_of scripts.special_assigned_without_turns (record {
  operands = [];
  assigns = (((codes "FS"), (codes ":"))
      ∷ []);
  environment = [];
}) no_input empty 0 ≡ GoesOn []
unfolding special_arrays special_scalars spend_all asked value_of values_of key_of place_of passed truncated_of applied loop over_keys plain_done done_by all_done called items_done begun ended first_assigned records_done numeral_at sign_at fraction_at exponent_at numerator denominator digits unescaped escaped octal keywords builtins left_out_words table sign_of
special_assigned_without_turns = refl

-- BEGIN { print "x" }
pub unused_name_without_turns : run_of scripts.unused_name_without_turns (record {
  operands = [];
  assigns = (((codes "w"), (codes "1"))
      ∷ []);
  environment = [];
}) no_input empty 0 ≡ GoesOn []
unfolding special_arrays special_scalars spend_all asked value_of values_of key_of place_of passed truncated_of applied loop over_keys plain_done done_by all_done called items_done begun ended first_assigned records_done numeral_at sign_at fraction_at exponent_at numerator denominator digits unescaped escaped octal keywords builtins left_out_words table sign_of
unused_name_without_turns = refl

-- BEGIN { print v FS OFS "x" }
pub turn_for_each_assignment : run_of scripts.turn_for_each_assignment (record {
  operands = [];
  assigns = (((codes "FS"), (codes ":"))
      ∷ ((codes "w"), (codes "1")) ∷ ((codes "v"), (codes "1")) ∷ ((codes "OFS"), (codes ":")) ∷ []);
  environment = [];
}) no_input empty 4
    ≡ Ended 0 (puts Standard (codes "1::x\n"))
unfolding special_arrays special_scalars spend_all asked value_of values_of key_of place_of passed truncated_of applied loop over_keys plain_done done_by all_done called items_done begun ended first_assigned records_done numeral_at sign_at fraction_at exponent_at numerator denominator digits unescaped escaped octal keywords builtins left_out_words table sign_of
turn_for_each_assignment = refl

-- BEGIN { print v FS OFS "x" }
pub too_few_turns_for_assignments : run_of scripts.too_few_turns_for_assignments (record {
  operands = [];
  assigns = (((codes "FS"), (codes ":"))
      ∷ ((codes "w"), (codes "1")) ∷ ((codes "v"), (codes "1")) ∷ ((codes "OFS"), (codes ":")) ∷ []);
  environment = [];
}) no_input empty 3 ≡ GoesOn []
unfolding special_arrays special_scalars spend_all asked value_of values_of key_of place_of passed truncated_of applied loop over_keys plain_done done_by all_done called items_done begun ended first_assigned records_done numeral_at sign_at fraction_at exponent_at numerator denominator digits unescaped escaped octal keywords builtins left_out_words table sign_of
too_few_turns_for_assignments = refl

-- BEGIN { print "x" }
pub bad_assignment_not_reached : run_of scripts.bad_assignment_not_reached (record {
  operands = [];
  assigns = (((codes "w"), (codes "1"))
      ∷ ((codes "sin"), (codes "1")) ∷ []);
  environment = [];
}) no_input empty 1 ≡ GoesOn []
unfolding special_arrays special_scalars spend_all asked value_of values_of key_of place_of passed truncated_of applied loop over_keys plain_done done_by all_done called items_done begun ended first_assigned records_done numeral_at sign_at fraction_at exponent_at numerator denominator digits unescaped escaped octal keywords builtins left_out_words table sign_of
bad_assignment_not_reached = refl

-- BEGIN { print "x" }
pub bad_assignment_reached : run_of scripts.bad_assignment_reached (record {
  operands = [];
  assigns = (((codes "w"), (codes "1"))
      ∷ ((codes "sin"), (codes "1")) ∷ []);
  environment = [];
}) no_input empty 2 ≡ FaultedBy BadAssignment []
unfolding special_arrays special_scalars spend_all asked value_of values_of key_of place_of passed truncated_of applied loop over_keys plain_done done_by all_done called items_done begun ended first_assigned records_done numeral_at sign_at fraction_at exponent_at numerator denominator digits unescaped escaped octal keywords builtins left_out_words table sign_of
bad_assignment_reached = refl

-- BEGIN { print "b" } { print "x" }
pub operand_without_turns : run_of scripts.operand_without_turns (record {
  operands = ((codes "FS=q") ∷ (codes "f")
      ∷ []);
  assigns = [];
  environment = [];
}) no_input (with_file (codes "f") (codes "p q\nr\n") End empty) 0 ≡ GoesOn (puts Standard (codes "b\n"))
unfolding special_arrays special_scalars spend_all asked value_of values_of key_of place_of passed truncated_of applied loop over_keys plain_done done_by all_done called items_done begun ended first_assigned records_done numeral_at sign_at fraction_at exponent_at numerator denominator digits unescaped escaped octal keywords builtins left_out_words table sign_of
operand_without_turns = refl

-- { print $1 }
pub turns_of_operands : run_of scripts.turns_of_operands (record {
  operands = ((codes "FS=:") ∷ (codes "w=1") ∷ (codes "f")
      ∷ []);
  assigns = [];
  environment = [];
}) no_input (with_file (codes "f") (codes "p q\nr\n") End empty) 3 ≡ GoesOn (puts Standard (codes "p q\n"))
unfolding special_arrays special_scalars spend_all asked value_of values_of key_of place_of passed truncated_of applied loop over_keys plain_done done_by all_done called items_done begun ended first_assigned records_done numeral_at sign_at fraction_at exponent_at numerator denominator digits unescaped escaped octal keywords builtins left_out_words table sign_of
turns_of_operands = refl

-- BEGIN { getline; print $1; getline; print $1 }
pub turns_of_getline : run_of scripts.turns_of_getline (record {
  operands = ((codes "FS=:") ∷ (codes "w=1") ∷ (codes "f") ∷ (codes "RS=:")
      ∷ (codes "g") ∷ []);
  assigns = [];
  environment = [];
}) no_input
    (with_file (codes "g") (codes "r\n") End (with_file (codes "f") (codes "p q\n") End empty)) 2 ≡ GoesOn (puts Standard (codes "p q\n"))
unfolding special_arrays special_scalars spend_all asked value_of values_of key_of place_of passed truncated_of applied loop over_keys plain_done done_by all_done called items_done begun ended first_assigned records_done numeral_at sign_at fraction_at exponent_at numerator denominator digits unescaped escaped octal keywords builtins left_out_words table sign_of
turns_of_getline = refl

-- NR==1{ARGC="1.5"}{print}
pub argc_read_at_the_end : run_of scripts.argc_read_at_the_end no_job (record { rest = (codes "a\nb\n"); ending = End }) empty 40
    ≡ Ended 0 (puts Standard (codes "a\nb\n"))
unfolding special_arrays special_scalars spend_all asked value_of values_of key_of place_of passed truncated_of applied loop over_keys plain_done done_by all_done called items_done begun ended first_assigned records_done numeral_at sign_at fraction_at exponent_at numerator denominator digits unescaped escaped octal keywords builtins left_out_words table sign_of
argc_read_at_the_end = refl

-- NR==1{ARGC="1.5"}{print}
pub argc_read_after_a_file : run_of scripts.argc_read_after_a_file (record {
  operands = ((codes "f")
      ∷ []);
  assigns = [];
  environment = [];
}) no_input (with_file (codes "f") (codes "a\nb\n") End empty) 40
    ≡ FaultedBy Fraction (puts Standard (codes "a\nb\n"))
unfolding special_arrays special_scalars spend_all asked value_of values_of key_of place_of passed truncated_of applied loop over_keys plain_done done_by all_done called items_done begun ended first_assigned records_done numeral_at sign_at fraction_at exponent_at numerator denominator digits unescaped escaped octal keywords builtins left_out_words table sign_of
argc_read_after_a_file = refl

-- {print}
pub argc_hides_an_operand : run_of scripts.argc_hides_an_operand (record {
  operands = ((codes "ARGC=2") ∷ (codes "f")
      ∷ []);
  assigns = [];
  environment = [];
}) (record { rest = (codes "s"); ending = End }) (with_file (codes "f") (codes "a\n") End empty) 40
    ≡ Ended 0 (puts Standard (codes "s\n"))
unfolding special_arrays special_scalars spend_all asked value_of values_of key_of place_of passed truncated_of applied loop over_keys plain_done done_by all_done called items_done begun ended first_assigned records_done numeral_at sign_at fraction_at exponent_at numerator denominator digits unescaped escaped octal keywords builtins left_out_words table sign_of
argc_hides_an_operand = refl

-- {print FILENAME,$0}
pub argc_from_an_operand : run_of scripts.argc_from_an_operand (record {
  operands = ((codes "f") ∷ (codes "ARGC=3") ∷ (codes "g")
      ∷ []);
  assigns = [];
  environment = [];
}) no_input (with_file (codes "g") (codes "b\n") End (with_file (codes "f") (codes "a\n") End empty)) 40
    ≡ Ended 0 (puts Standard (codes "f a\n"))
unfolding special_arrays special_scalars spend_all asked value_of values_of key_of place_of passed truncated_of applied loop over_keys plain_done done_by all_done called items_done begun ended first_assigned records_done numeral_at sign_at fraction_at exponent_at numerator denominator digits unescaped escaped octal keywords builtins left_out_words table sign_of
argc_from_an_operand = refl

-- {print FILENAME "," FNR "," NR} END{print FILENAME,FNR,NR}
pub names_and_counts : run_of scripts.names_and_counts (record {
  operands = ((codes "e") ∷ (codes "f") ∷ (codes "-")
      ∷ []);
  assigns = [];
  environment = [];
}) (record { rest = (codes "s\n"); ending = End })
    (with_file (codes "f") (codes "p\nq\n") End (with_file (codes "e") [] End empty)) 40
    ≡ Ended 0 (puts Standard (codes "f,1,1\nf,2,2\n-,1,3\n- 1 3\n"))
unfolding special_arrays special_scalars spend_all asked value_of values_of key_of place_of passed truncated_of applied loop over_keys plain_done done_by all_done called items_done begun ended first_assigned records_done numeral_at sign_at fraction_at exponent_at numerator denominator digits unescaped escaped octal keywords builtins left_out_words table sign_of
names_and_counts = refl

-- BEGIN{print (getline),(getline x),x,(getline),NR}
pub absent_file_passed_over : run_of scripts.absent_file_passed_over (record {
  operands = ((codes "h") ∷ (codes "f")
      ∷ []);
  assigns = [];
  environment = [];
}) no_input (with_file (codes "f") (codes "c\n") End empty) 40
    ≡ Ended 0 (puts Standard (codes "-1 1 c 0 1\n"))
unfolding special_arrays special_scalars spend_all asked value_of values_of key_of place_of passed truncated_of applied loop over_keys plain_done done_by all_done called items_done begun ended first_assigned records_done numeral_at sign_at fraction_at exponent_at numerator denominator digits unescaped escaped octal keywords builtins left_out_words table sign_of
absent_file_passed_over = refl

-- BEGIN{print (getline),(getline),(getline) $0}{print "no"}
pub failing_main_input : run_of scripts.failing_main_input (record {
  operands = ((codes "g") ∷ (codes "f")
      ∷ []);
  assigns = [];
  environment = [];
}) no_input (with_file (codes "f") (codes "c\n") End (with_file (codes "g") (codes "a\nb") Fails empty)) 40
    ≡ FaultedBy ReadFailed (puts Standard (codes "1 -1 -1a\n"))
unfolding special_arrays special_scalars spend_all asked value_of values_of key_of place_of passed truncated_of applied loop over_keys plain_done done_by all_done called items_done begun ended first_assigned records_done numeral_at sign_at fraction_at exponent_at numerator denominator digits unescaped escaped octal keywords builtins left_out_words table sign_of
failing_main_input = refl

-- {print $1,NF}
pub specials_among_operands : run_of scripts.specials_among_operands (record {
  operands = ((codes "FS=,") ∷ (codes "f") ∷ (codes "NF=2")
      ∷ (codes "RS=") ∷ (codes "g") ∷ []);
  assigns = [];
  environment = [];
}) no_input
    (with_file (codes "g") (codes "c\nd,e\n\nf") End (with_file (codes "f") (codes "a,b\n") End empty)) 40
    ≡ Ended 0 (puts Standard (codes "a 2\nc 3\nf 1\n"))
unfolding special_arrays special_scalars spend_all asked value_of values_of key_of place_of passed truncated_of applied loop over_keys plain_done done_by all_done called items_done begun ended first_assigned records_done numeral_at sign_at fraction_at exponent_at numerator denominator digits unescaped escaped octal keywords builtins left_out_words table sign_of
specials_among_operands = refl

-- BEGIN{NR="7x";FNR=100}{print NR,FNR}
pub counts_assigned : run_of scripts.counts_assigned no_job (record { rest = (codes "a\nb\n"); ending = End }) empty 40
    ≡ Ended 0 (puts Standard (codes "8 1\n9 2\n"))
unfolding special_arrays special_scalars spend_all asked value_of values_of key_of place_of passed truncated_of applied loop over_keys plain_done done_by all_done called items_done begun ended first_assigned records_done numeral_at sign_at fraction_at exponent_at numerator denominator digits unescaped escaped octal keywords builtins left_out_words table sign_of
counts_assigned = refl

-- BEGIN{while((getline x)>0)print x;ARGV[2]="f";ARGC=3;print getline}{print "no"}
pub input_stays_ended : run_of scripts.input_stays_ended (record {
  operands = ((codes "-")
      ∷ []);
  assigns = [];
  environment = [];
}) (record { rest = (codes "s"); ending = End }) (with_file (codes "f") (codes "a\n") End empty) 40
    ≡ Ended 0 (puts Standard (codes "s\n0\n"))
unfolding special_arrays special_scalars spend_all asked value_of values_of key_of place_of passed truncated_of applied loop over_keys plain_done done_by all_done called items_done begun ended first_assigned records_done numeral_at sign_at fraction_at exponent_at numerator denominator digits unescaped escaped octal keywords builtins left_out_words table sign_of
input_stays_ended = refl

-- BEGIN{ARGV[1]=5}{print FILENAME,FILENAME==5}
pub operand_from_a_number : run_of scripts.operand_from_a_number (record {
  operands = ((codes "x")
      ∷ []);
  assigns = [];
  environment = [];
}) no_input (with_file (codes "5") (codes "a\n") End empty) 40 ≡ Ended 0 (puts Standard (codes "5 1\n"))
unfolding special_arrays special_scalars spend_all asked value_of values_of key_of place_of passed truncated_of applied loop over_keys plain_done done_by all_done called items_done begun ended first_assigned records_done numeral_at sign_at fraction_at exponent_at numerator denominator digits unescaped escaped octal keywords builtins left_out_words table sign_of
operand_from_a_number = refl

-- END{$0="x y z";print NF,$2;NF=2;print;print getline,$0;print (getline<"f"),$0,NF,NR}
pub record_kept_in_end : run_of scripts.record_kept_in_end no_job (record { rest = (codes "a b"); ending = End })
    (with_file (codes "f") (codes "1 2 3\n") End empty) 40 ≡ Ended 0 (puts Standard (codes "3 y\nx y\n0 x y\n1 1 2 3 3 1\n"))
unfolding special_arrays special_scalars spend_all asked value_of values_of key_of place_of passed truncated_of applied loop over_keys plain_done done_by all_done called items_done begun ended first_assigned records_done numeral_at sign_at fraction_at exponent_at numerator denominator digits unescaped escaped octal keywords builtins left_out_words table sign_of
record_kept_in_end = refl

-- BEGIN{RS="";print (getline<"f") $0;RS="\n";print (getline<"f") $0;print (getline<"f")}
pub failing_after_paragraph : run_of scripts.failing_after_paragraph no_job no_input (with_file (codes "f") (codes "\n\na\nb\n\nc\n") Fails empty) 40
    ≡ Ended 0 (puts Standard (codes "1a\nb\n1c\n-1\n"))
unfolding special_arrays special_scalars spend_all asked value_of values_of key_of place_of passed truncated_of applied loop over_keys plain_done done_by all_done called items_done begun ended first_assigned records_done numeral_at sign_at fraction_at exponent_at numerator denominator digits unescaped escaped octal keywords builtins left_out_words table sign_of
failing_after_paragraph = refl

-- BEGIN{print (getline y<"-")}
pub hyphen_is_a_file_for_getline : run_of scripts.hyphen_is_a_file_for_getline no_job (record { rest = (codes "s"); ending = End }) empty 40
    ≡ Ended 0 (puts Standard (codes "-1\n"))
unfolding special_arrays special_scalars spend_all asked value_of values_of key_of place_of passed truncated_of applied loop over_keys plain_done done_by all_done called items_done begun ended first_assigned records_done numeral_at sign_at fraction_at exponent_at numerator denominator digits unescaped escaped octal keywords builtins left_out_words table sign_of
hyphen_is_a_file_for_getline = refl

-- BEGIN{RS="ab"}{print}
pub number_as_separator : run_of scripts.number_as_separator no_job (record { rest = (codes "1b2a3"); ending = End }) empty 40
    ≡ Ended 0 (puts Standard (codes "1b2\n3\n"))
unfolding special_arrays special_scalars spend_all asked value_of values_of key_of place_of passed truncated_of applied loop over_keys plain_done done_by all_done called items_done begun ended first_assigned records_done numeral_at sign_at fraction_at exponent_at numerator denominator digits unescaped escaped octal keywords builtins left_out_words table sign_of
number_as_separator = refl

-- BEGIN{print (getline x<"f"),close("f"),(getline x<"f"),close("f")}
pub failing_empty_file : run_of scripts.failing_empty_file no_job no_input (with_file (codes "f") [] Fails empty) 40
    ≡ Ended 0 (puts Standard (codes "-1 0 -1 0\n"))
unfolding special_arrays special_scalars spend_all asked value_of values_of key_of place_of passed truncated_of applied loop over_keys plain_done done_by all_done called items_done begun ended first_assigned records_done numeral_at sign_at fraction_at exponent_at numerator denominator digits unescaped escaped octal keywords builtins left_out_words table sign_of
failing_empty_file = refl

-- BEGIN{print "x">"f";getline y<"f";print y,close("f"),close("f")}
pub written_then_read : run_of scripts.written_then_read no_job no_input empty 40
    ≡ Ended 0 ((Open (codes "f") false ∷ []) ++ (puts (Named (codes "f")) (codes "x\n") ++ (puts Standard (codes "x 0 -1\n"))))
unfolding special_arrays special_scalars spend_all asked value_of values_of key_of place_of passed truncated_of applied loop over_keys plain_done done_by all_done called items_done begun ended first_assigned records_done numeral_at sign_at fraction_at exponent_at numerator denominator digits unescaped escaped octal keywords builtins left_out_words table sign_of
written_then_read = refl

-- BEGIN{print "abc">>"f"}
pub appended_past_room : run_of scripts.appended_past_room no_job no_input (with_room (codes "f") (codes "xy") 4 empty) 40
    ≡ FaultedBy WriteFailed ((Open (codes "f") true ∷ []) ++ (puts (Named (codes "f")) (codes "ab")))
unfolding special_arrays special_scalars spend_all asked value_of values_of key_of place_of passed truncated_of applied loop over_keys plain_done done_by all_done called items_done begun ended first_assigned records_done numeral_at sign_at fraction_at exponent_at numerator denominator digits unescaped escaped octal keywords builtins left_out_words table sign_of
appended_past_room = refl

-- BEGIN{print "abc">"f"}
pub emptied_then_past_room : run_of scripts.emptied_then_past_room no_job no_input (with_room (codes "f") (codes "xyzxyz") 3 empty) 40
    ≡ FaultedBy WriteFailed ((Open (codes "f") false ∷ []) ++ (puts (Named (codes "f")) (codes "abc")))
unfolding special_arrays special_scalars spend_all asked value_of values_of key_of place_of passed truncated_of applied loop over_keys plain_done done_by all_done called items_done begun ended first_assigned records_done numeral_at sign_at fraction_at exponent_at numerator denominator digits unescaped escaped octal keywords builtins left_out_words table sign_of
emptied_then_past_room = refl

-- BEGIN{$0="a b c";$2=u;print NF,$0;print ($2==0),($2=="");$0=$0;print NF,($2==0)}
pub uninitialised_field : run_of scripts.uninitialised_field no_job no_input empty 40 ≡ Ended 0 (puts Standard (codes "3 a  c\n1 1\n2 0\n"))
unfolding special_arrays special_scalars spend_all asked value_of values_of key_of place_of passed truncated_of applied loop over_keys plain_done done_by all_done called items_done begun ended first_assigned records_done numeral_at sign_at fraction_at exponent_at numerator denominator digits unescaped escaped octal keywords builtins left_out_words table sign_of
uninitialised_field = refl

-- BEGIN{$0="a b c";NF=1;NF=3;print ($2==0),($2==""),$0 "."}
pub count_lowered_and_raised : run_of scripts.count_lowered_and_raised no_job no_input empty 40 ≡ Ended 0 (puts Standard (codes "1 1 a  .\n"))
unfolding special_arrays special_scalars spend_all asked value_of values_of key_of place_of passed truncated_of applied loop over_keys plain_done done_by all_done called items_done begun ended first_assigned records_done numeral_at sign_at fraction_at exponent_at numerator denominator digits unescaped escaped octal keywords builtins left_out_words table sign_of
count_lowered_and_raised = refl

-- BEGIN{print $0}
pub count_on_command_line : run_of scripts.count_on_command_line (record {
  operands = [];
  assigns = (((codes "OFS"), (codes "-"))
      ∷ ((codes "NF"), (codes "3")) ∷ []);
  environment = [];
}) no_input empty 40 ≡ Ended 0 (puts Standard (codes "--\n"))
unfolding special_arrays special_scalars spend_all asked value_of values_of key_of place_of passed truncated_of applied loop over_keys plain_done done_by all_done called items_done begun ended first_assigned records_done numeral_at sign_at fraction_at exponent_at numerator denominator digits unescaped escaped octal keywords builtins left_out_words table sign_of
count_on_command_line = refl

-- BEGIN{print $0}
pub count_below_zero_on_command_line : run_of scripts.count_below_zero_on_command_line (record {
  operands = [];
  assigns = ((
    (codes "NF"),
    (codes "-1"),
  ) ∷ []);
  environment = [];
}) no_input empty 40 ≡ FaultedBy FieldNumber []
unfolding special_arrays special_scalars spend_all asked value_of values_of key_of place_of passed truncated_of applied loop over_keys plain_done done_by all_done called items_done begun ended first_assigned records_done numeral_at sign_at fraction_at exponent_at numerator denominator digits unescaped escaped octal keywords builtins left_out_words table sign_of
count_below_zero_on_command_line = refl

-- BEGIN{OFS="-";$0="a b";NF=NF;OFS="+";print;$3="c";print}
pub rebuilt_with_separator : run_of scripts.rebuilt_with_separator no_job no_input empty 40 ≡ Ended 0 (puts Standard (codes "a-b\na+b+c\n"))
unfolding special_arrays special_scalars spend_all asked value_of values_of key_of place_of passed truncated_of applied loop over_keys plain_done done_by all_done called items_done begun ended first_assigned records_done numeral_at sign_at fraction_at exponent_at numerator denominator digits unescaped escaped octal keywords builtins left_out_words table sign_of
rebuilt_with_separator = refl

-- BEGIN{FS=u;$0="a b";print NF;FS=1;$0="a1b";print NF}
pub separator_without_value : run_of scripts.separator_without_value no_job no_input empty 40 ≡ Ended 0 (puts Standard (codes "3\n2\n"))
unfolding special_arrays special_scalars spend_all asked value_of values_of key_of place_of passed truncated_of applied loop over_keys plain_done done_by all_done called items_done begun ended first_assigned records_done numeral_at sign_at fraction_at exponent_at numerator denominator digits unescaped escaped octal keywords builtins left_out_words table sign_of
separator_without_value = refl

-- BEGIN{RS="";FS="\t"}{print NF}
pub tab_and_newline : run_of scripts.tab_and_newline no_job (record { rest = (97 ∷ 9 ∷ 98 ∷ 10 ∷ 99 ∷ []); ending = End }) empty 40
    ≡ Ended 0 (puts Standard (codes "3\n"))
unfolding special_arrays special_scalars spend_all asked value_of values_of key_of place_of passed truncated_of applied loop over_keys plain_done done_by all_done called items_done begun ended first_assigned records_done numeral_at sign_at fraction_at exponent_at numerator denominator digits unescaped escaped octal keywords builtins left_out_words table sign_of
tab_and_newline = refl

-- BEGIN{RS="";FS="b*"}{print NF,"[" $2 "]"}
pub expression_and_newline : run_of scripts.expression_and_newline no_job (record { rest = (codes "abb\nc"); ending = End }) empty 40
    ≡ Ended 0 (puts Standard (codes "3 []\n"))
unfolding special_arrays special_scalars spend_all asked value_of values_of key_of place_of passed truncated_of applied loop over_keys plain_done done_by all_done called items_done begun ended first_assigned records_done numeral_at sign_at fraction_at exponent_at numerator denominator digits unescaped escaped octal keywords builtins left_out_words table sign_of
expression_and_newline = refl

-- BEGIN{RS="";print split("a\nb,c",p,","),split("abc",p,/./),split("abc",p,//),split("a.b",p,".")}
pub split_ignores_newline : run_of scripts.split_ignores_newline no_job no_input empty 40 ≡ Ended 0 (puts Standard (codes "2 4 1 2\n"))
unfolding special_arrays special_scalars spend_all asked value_of values_of key_of place_of passed truncated_of applied loop over_keys plain_done done_by all_done called items_done begun ended first_assigned records_done numeral_at sign_at fraction_at exponent_at numerator denominator digits unescaped escaped octal keywords builtins left_out_words table sign_of
split_ignores_newline = refl

-- BEGIN{a["x"]="p q";print split(a["x"],a),("x" in a),a[2]}
pub split_of_its_own_element : run_of scripts.split_of_its_own_element no_job no_input empty 40 ≡ Ended 0 (puts Standard (codes "2 0 q\n"))
unfolding special_arrays special_scalars spend_all asked value_of values_of key_of place_of passed truncated_of applied loop over_keys plain_done done_by all_done called items_done begun ended first_assigned records_done numeral_at sign_at fraction_at exponent_at numerator denominator digits unescaped escaped octal keywords builtins left_out_words table sign_of
split_of_its_own_element = refl

-- BEGIN{FS="((";print (getline x<"f");print (getline<"f")}
pub bad_separator_unused : run_of scripts.bad_separator_unused no_job no_input (with_file (codes "f") (codes "p q\nr\n") End empty) 40
    ≡ FaultedBy BadEre (puts Standard (codes "1\n"))
unfolding special_arrays special_scalars spend_all asked value_of values_of key_of place_of passed truncated_of applied loop over_keys plain_done done_by all_done called items_done begun ended first_assigned records_done numeral_at sign_at fraction_at exponent_at numerator denominator digits unescaped escaped octal keywords builtins left_out_words table sign_of
bad_separator_unused = refl

-- BEGIN{s="aaa";print gsub(/x*$/,"-",s),s;s="";print gsub(/x*/,"-",s),s;s="abcX";print gsub(/^/,">",s),s}
pub empty_match_at_the_end : run_of scripts.empty_match_at_the_end no_job no_input empty 40 ≡ Ended 0 (puts Standard (codes "1 aaa-\n1 -\n1 >abcX\n"))
unfolding special_arrays special_scalars spend_all asked value_of values_of key_of place_of passed truncated_of applied loop over_keys plain_done done_by all_done called items_done begun ended first_assigned records_done numeral_at sign_at fraction_at exponent_at numerator denominator digits unescaped escaped octal keywords builtins left_out_words table sign_of
empty_match_at_the_end = refl

-- BEGIN{print match("aXb","X*$"),RLENGTH,match("",/^$/),RLENGTH}
pub matches_that_are_empty : run_of scripts.matches_that_are_empty no_job no_input empty 40 ≡ Ended 0 (puts Standard (codes "4 0 1 0\n"))
unfolding special_arrays special_scalars spend_all asked value_of values_of key_of place_of passed truncated_of applied loop over_keys plain_done done_by all_done called items_done begun ended first_assigned records_done numeral_at sign_at fraction_at exponent_at numerator denominator digits unescaped escaped octal keywords builtins left_out_words table sign_of
matches_that_are_empty = refl

-- BEGIN{print "[" substr("hello",-2^53,2^53) "]",substr("hello",2,2^53)}
pub parts_far_out : run_of scripts.parts_far_out no_job no_input empty 40 ≡ Ended 0 (puts Standard (codes "[] ello\n"))
unfolding special_arrays special_scalars spend_all asked value_of values_of key_of place_of passed truncated_of applied loop over_keys plain_done done_by all_done called items_done begun ended first_assigned records_done numeral_at sign_at fraction_at exponent_at numerator denominator digits unescaped escaped octal keywords builtins left_out_words table sign_of
parts_far_out = refl

-- BEGIN{printf "[%-05d][%+.0d][%05.1f][%#.0x][%#05o][% 05d][%.s]\n",-3,0,-2,0,8,42,"ab"}
pub formats_of_numbers : run_of scripts.formats_of_numbers no_job no_input empty 40 ≡ Ended 0 (puts Standard (codes "[-3   ][+][-02.0][][00010][ 0042][]\n"))
unfolding special_arrays special_scalars spend_all asked value_of values_of key_of place_of passed truncated_of applied loop over_keys plain_done done_by all_done called items_done begun ended first_assigned records_done numeral_at sign_at fraction_at exponent_at numerator denominator digits unescaped escaped octal keywords builtins left_out_words table sign_of
formats_of_numbers = refl

-- BEGIN{printf "%d%q","1e99"}
pub range_before_format : run_of scripts.range_before_format no_job no_input empty 40 ≡ FaultedBy Range []
unfolding special_arrays special_scalars spend_all asked value_of values_of key_of place_of passed truncated_of applied loop over_keys plain_done done_by all_done called items_done begun ended first_assigned records_done numeral_at sign_at fraction_at exponent_at numerator denominator digits unescaped escaped octal keywords builtins left_out_words table sign_of
range_before_format = refl

-- BEGIN{printf "%.5-d",1}
pub misplaced_flag : run_of scripts.misplaced_flag no_job no_input empty 40 ≡ FaultedBy Format []
unfolding special_arrays special_scalars spend_all asked value_of values_of key_of place_of passed truncated_of applied loop over_keys plain_done done_by all_done called items_done begun ended first_assigned records_done numeral_at sign_at fraction_at exponent_at numerator denominator digits unescaped escaped octal keywords builtins left_out_words table sign_of
misplaced_flag = refl

-- BEGIN{printf "[%c][%.0c]",65,"q"}
pub bytes_formatted : run_of scripts.bytes_formatted no_job no_input empty 40 ≡ Ended 0 (puts Standard (codes "[A][q]"))
unfolding special_arrays special_scalars spend_all asked value_of values_of key_of place_of passed truncated_of applied loop over_keys plain_done done_by all_done called items_done begun ended first_assigned records_done numeral_at sign_at fraction_at exponent_at numerator denominator digits unescaped escaped octal keywords builtins left_out_words table sign_of
bytes_formatted = refl

-- BEGIN { getline a["k"] < "no"; x = 1; print x, ("k" in a); sub(/q/, "z", b["y"]); print ("y" in b) }
pub unused_first : run_of scripts.unused_first no_job no_input empty 40 ≡ Ended 0 (puts Standard (codes "1 0\n1\n"))
unfolding special_arrays special_scalars spend_all asked value_of values_of key_of place_of passed truncated_of applied loop over_keys plain_done done_by all_done called items_done begun ended first_assigned records_done numeral_at sign_at fraction_at exponent_at numerator denominator digits unescaped escaped octal keywords builtins left_out_words table sign_of
unused_first = refl

-- BEGIN { a["x"]; a["y"]; for (k in a) { print k; delete a["y"] }; print ("y" in a) }
pub keys_deleted_on_the_way : run_of scripts.keys_deleted_on_the_way no_job no_input empty 40 ≡ Ended 0 (puts Standard (codes "x\ny\n0\n"))
unfolding special_arrays special_scalars spend_all asked value_of values_of key_of place_of passed truncated_of applied loop over_keys plain_done done_by all_done called items_done begun ended first_assigned records_done numeral_at sign_at fraction_at exponent_at numerator denominator digits unescaped escaped octal keywords builtins left_out_words table sign_of
keys_deleted_on_the_way = refl

-- BEGIN { do {  n++ }  while (n < 3)  print n }
pub do_while_counts : run_of scripts.do_while_counts no_job no_input empty 40 ≡ Ended 0 (puts Standard (codes "3\n"))
unfolding special_arrays special_scalars spend_all asked value_of values_of key_of place_of passed truncated_of applied loop over_keys plain_done done_by all_done called items_done begun ended first_assigned records_done numeral_at sign_at fraction_at exponent_at numerator denominator digits unescaped escaped octal keywords builtins left_out_words table sign_of
do_while_counts = refl

-- BEGIN { print n; print n + 1 }
pub fraction_from_command_line : run_of scripts.fraction_from_command_line (record {
  operands = [];
  assigns = (((codes "n"), (codes "0.5"))
      ∷ []);
  environment = [];
}) no_input empty 40 ≡ FaultedBy Fraction (puts Standard (codes "0.5\n"))
unfolding special_arrays special_scalars spend_all asked value_of values_of key_of place_of passed truncated_of applied loop over_keys plain_done done_by all_done called items_done begun ended first_assigned records_done numeral_at sign_at fraction_at exponent_at numerator denominator digits unescaped escaped octal keywords builtins left_out_words table sign_of
fraction_from_command_line = refl

-- { n++; print n }
pub count_across_an_assignment : run_of scripts.count_across_an_assignment (record {
  operands = ((codes "f") ∷ (codes "n=07") ∷ (codes "g")
      ∷ []);
  assigns = [];
  environment = [];
}) no_input (with_file (codes "g") (codes "b\n") End (with_file (codes "f") (codes "a\n") End empty)) 40
    ≡ Ended 0 (puts Standard (codes "1\n8\n"))
unfolding special_arrays special_scalars spend_all asked value_of values_of key_of place_of passed truncated_of applied loop over_keys plain_done done_by all_done called items_done begun ended first_assigned records_done numeral_at sign_at fraction_at exponent_at numerator denominator digits unescaped escaped octal keywords builtins left_out_words table sign_of
count_across_an_assignment = refl

-- BEGIN { if (0) print 1/0; print 2^3*4 }
pub fault_not_reached : run_of scripts.fault_not_reached no_job no_input empty 40 ≡ Ended 0 (puts Standard (codes "32\n"))
unfolding special_arrays special_scalars spend_all asked value_of values_of key_of place_of passed truncated_of applied loop over_keys plain_done done_by all_done called items_done begun ended first_assigned records_done numeral_at sign_at fraction_at exponent_at numerator denominator digits unescaped escaped octal keywords builtins left_out_words table sign_of
fault_not_reached = refl

-- BEGIN { n = 2^53; n++; print "no" }
pub step_past_range : run_of scripts.step_past_range no_job no_input empty 40 ≡ FaultedBy Range []
unfolding special_arrays special_scalars spend_all asked value_of values_of key_of place_of passed truncated_of applied loop over_keys plain_done done_by all_done called items_done begun ended first_assigned records_done numeral_at sign_at fraction_at exponent_at numerator denominator digits unescaped escaped octal keywords builtins left_out_words table sign_of
step_past_range = refl

-- BEGIN { while (n < 10) n = n + 1; print n }
pub loop_on_numbers : run_of scripts.loop_on_numbers no_job no_input empty 40 ≡ Ended 0 (puts Standard (codes "10\n"))
unfolding special_arrays special_scalars spend_all asked value_of values_of key_of place_of passed truncated_of applied loop over_keys plain_done done_by all_done called items_done begun ended first_assigned records_done numeral_at sign_at fraction_at exponent_at numerator denominator digits unescaped escaped octal keywords builtins left_out_words table sign_of
loop_on_numbers = refl

-- BEGIN { while (n < 3) n = n + 1; print n }
pub turns_just_enough : run_of scripts.turns_just_enough no_job no_input empty 4 ≡ Ended 0 (puts Standard (codes "3\n"))
unfolding special_arrays special_scalars spend_all asked value_of values_of key_of place_of passed truncated_of applied loop over_keys plain_done done_by all_done called items_done begun ended first_assigned records_done numeral_at sign_at fraction_at exponent_at numerator denominator digits unescaped escaped octal keywords builtins left_out_words table sign_of
turns_just_enough = refl

-- BEGIN { while (n < 3) n = n + 1; print n }
pub one_turn_too_few : run_of scripts.one_turn_too_few no_job no_input empty 3 ≡ GoesOn []
unfolding special_arrays special_scalars spend_all asked value_of values_of key_of place_of passed truncated_of applied loop over_keys plain_done done_by all_done called items_done begun ended first_assigned records_done numeral_at sign_at fraction_at exponent_at numerator denominator digits unescaped escaped octal keywords builtins left_out_words table sign_of
one_turn_too_few = refl

-- function f(x, y) { if (x < y) return x; y = x = x * 2; return y } BEGIN { print f(3, 5), f(7), f("10", 9), f() "." ; n = -n; n += !m; print n, n++
-- + ++n, n-- }
pub numbers_in_names : run_of scripts.numbers_in_names no_job no_input empty 40 ≡ Ended 0 (puts Standard (codes "3 14 10 0.\n1 4 3\n"))
unfolding special_arrays special_scalars spend_all asked value_of values_of key_of place_of passed truncated_of applied loop over_keys plain_done done_by all_done called items_done begun ended first_assigned records_done numeral_at sign_at fraction_at exponent_at numerator denominator digits unescaped escaped octal keywords builtins left_out_words table sign_of
numbers_in_names = refl

-- BEGIN { print n < 10, n < "10", n == 9; n = n + 1; print n < 10 }
pub text_in_a_number : run_of scripts.text_in_a_number (record {
  operands = [];
  assigns = (((codes "n"), (codes "9"))
      ∷ []);
  environment = [];
}) no_input empty 40 ≡ Ended 0 (puts Standard (codes "1 0 1\n0\n"))
unfolding special_arrays special_scalars spend_all asked value_of values_of key_of place_of passed truncated_of applied loop over_keys plain_done done_by all_done called items_done begun ended first_assigned records_done numeral_at sign_at fraction_at exponent_at numerator denominator digits unescaped escaped octal keywords builtins left_out_words table sign_of
text_in_a_number = refl

-- FNR == 2 { nextfile } { print FILENAME, $0 }
pub rest_of_a_file : run_of scripts.rest_of_a_file (record {
  operands = ((codes "f") ∷ (codes "g")
      ∷ []);
  assigns = [];
  environment = [];
}) no_input two_files 40 ≡ Ended 0 (puts Standard (codes "f p\ng s\n"))
unfolding special_arrays special_scalars spend_all asked value_of values_of key_of place_of passed truncated_of applied loop over_keys plain_done done_by all_done called items_done begun ended first_assigned records_done numeral_at sign_at fraction_at exponent_at numerator denominator digits unescaped escaped octal keywords builtins left_out_words table sign_of
rest_of_a_file = refl

-- function h(x) { if (x == "q") nextfile; return x } { print FNR, h($0), NR }
pub file_left_among_operands : run_of scripts.file_left_among_operands (record {
  operands = ((codes "f") ∷ (codes "g")
      ∷ []);
  assigns = [];
  environment = [];
}) no_input two_files 40 ≡ Ended 0 (puts Standard (codes "1 p 1\n1 s 3\n"))
unfolding special_arrays special_scalars spend_all asked value_of values_of key_of place_of passed truncated_of applied loop over_keys plain_done done_by all_done called items_done begun ended first_assigned records_done numeral_at sign_at fraction_at exponent_at numerator denominator digits unescaped escaped octal keywords builtins left_out_words table sign_of
file_left_among_operands = refl

-- { print; while (1) { n++; if (n > 2) nextfile } } END { print n, NR }
pub file_left_in_a_loop : run_of scripts.file_left_in_a_loop (record {
  operands = ((codes "f") ∷ (codes "g")
      ∷ []);
  assigns = [];
  environment = [];
}) no_input two_files 40 ≡ Ended 0 (puts Standard (codes "p\ns\n4 2\n"))
unfolding special_arrays special_scalars spend_all asked value_of values_of key_of place_of passed truncated_of applied loop over_keys plain_done done_by all_done called items_done begun ended first_assigned records_done numeral_at sign_at fraction_at exponent_at numerator denominator digits unescaped escaped octal keywords builtins left_out_words table sign_of
file_left_in_a_loop = refl

-- BEGIN { a[1]; a[2]; a[3] } { for (k in a) { n++; if (k > 1) nextfile } } END { print n, NR }
pub file_left_in_a_walk : run_of scripts.file_left_in_a_walk (record {
  operands = ((codes "f") ∷ (codes "g")
      ∷ []);
  assigns = [];
  environment = [];
}) no_input two_files 40 ≡ Ended 0 (puts Standard (codes "4 2\n"))
unfolding special_arrays special_scalars spend_all asked value_of values_of key_of place_of passed truncated_of applied loop over_keys plain_done done_by all_done called items_done begun ended first_assigned records_done numeral_at sign_at fraction_at exponent_at numerator denominator digits unescaped escaped octal keywords builtins left_out_words table sign_of
file_left_in_a_walk = refl

-- /q/, /s/ { print "r", $0; nextfile } { print $0 }
pub file_left_in_a_range : run_of scripts.file_left_in_a_range (record {
  operands = ((codes "f") ∷ (codes "g")
      ∷ []);
  assigns = [];
  environment = [];
}) no_input two_files 40 ≡ Ended 0 (puts Standard (codes "p\nr q\nr s\n"))
unfolding special_arrays special_scalars spend_all asked value_of values_of key_of place_of passed truncated_of applied loop over_keys plain_done done_by all_done called items_done begun ended first_assigned records_done numeral_at sign_at fraction_at exponent_at numerator denominator digits unescaped escaped octal keywords builtins left_out_words table sign_of
file_left_in_a_range = refl

-- function h() { nextfile } BEGIN { h() }
pub nextfile_outside : run_of scripts.nextfile_outside no_job no_input empty 40 ≡ FaultedBy NextOutside []
unfolding special_arrays special_scalars spend_all asked value_of values_of key_of place_of passed truncated_of applied loop over_keys plain_done done_by all_done called items_done begun ended first_assigned records_done numeral_at sign_at fraction_at exponent_at numerator denominator digits unescaped escaped octal keywords builtins left_out_words table sign_of
nextfile_outside = refl

-- { nextfile }
pub failing_rest_given_up : run_of scripts.failing_rest_given_up no_job (record { rest = (codes "a\n"); ending = Fails }) empty 40 ≡ Ended 0 []
unfolding special_arrays special_scalars spend_all asked value_of values_of key_of place_of passed truncated_of applied loop over_keys plain_done done_by all_done called items_done begun ended first_assigned records_done numeral_at sign_at fraction_at exponent_at numerator denominator digits unescaped escaped octal keywords builtins left_out_words table sign_of
failing_rest_given_up = refl

-- NR == 2 { nextfile } { print FILENAME $0 }
pub standard_input_given_up : run_of scripts.standard_input_given_up (record {
  operands = ((codes "-") ∷ (codes "-") ∷ (codes "g")
      ∷ []);
  assigns = [];
  environment = [];
}) (record { rest = (codes "a\nb\nc\n"); ending = Fails }) two_files 40
    ≡ Ended 0 (puts Standard (codes "-a\ngs\n"))
unfolding special_arrays special_scalars spend_all asked value_of values_of key_of place_of passed truncated_of applied loop over_keys plain_done done_by all_done called items_done begun ended first_assigned records_done numeral_at sign_at fraction_at exponent_at numerator denominator digits unescaped escaped octal keywords builtins left_out_words table sign_of
standard_input_given_up = refl

-- BEGIN { a["x"]; a["y"]; for (k in a) { delete a; n++ }; print n, ("x" in a) }
pub emptied_in_a_walk : run_of scripts.emptied_in_a_walk no_job no_input empty 40 ≡ Ended 0 (puts Standard (codes "2 0\n"))
unfolding special_arrays special_scalars spend_all asked value_of values_of key_of place_of passed truncated_of applied loop over_keys plain_done done_by all_done called items_done begun ended first_assigned records_done numeral_at sign_at fraction_at exponent_at numerator denominator digits unescaped escaped octal keywords builtins left_out_words table sign_of
emptied_in_a_walk = refl

-- BEGIN { a["x"] = 1; a["y"] = 2; for (k in a) { s = s k; delete a; a["w" k] = k }; for (k in a) t = t k; print s, t, a["x"] "." }
pub emptied_and_refilled : run_of scripts.emptied_and_refilled no_job no_input empty 40 ≡ Ended 0 (puts Standard (codes "xy wy .\n"))
unfolding special_arrays special_scalars spend_all asked value_of values_of key_of place_of passed truncated_of applied loop over_keys plain_done done_by all_done called items_done begun ended first_assigned records_done numeral_at sign_at fraction_at exponent_at numerator denominator digits unescaped escaped octal keywords builtins left_out_words table sign_of
emptied_and_refilled = refl

-- function e(p) { delete p; p["n"] = 1 } BEGIN { a["x"] = 1; b["x"] = 2; e(a); for (k in a) print k, a[k]; print ("x" in a), b["x"] }
pub emptied_parameter : run_of scripts.emptied_parameter no_job no_input empty 40 ≡ Ended 0 (puts Standard (codes "n 1\n0 2\n"))
unfolding special_arrays special_scalars spend_all asked value_of values_of key_of place_of passed truncated_of applied loop over_keys plain_done done_by all_done called items_done begun ended first_assigned records_done numeral_at sign_at fraction_at exponent_at numerator denominator digits unescaped escaped octal keywords builtins left_out_words table sign_of
emptied_parameter = refl

-- FNR == 1 { delete ARGV; ARGV[2] = "g" } { print FILENAME $0 }
pub emptied_operands : run_of scripts.emptied_operands (record {
  operands = ((codes "f") ∷ (codes "h")
      ∷ []);
  assigns = [];
  environment = [];
}) no_input two_files 40 ≡ Ended 0 (puts Standard (codes "fp\nfq\nfr\ngs\n"))
unfolding special_arrays special_scalars spend_all asked value_of values_of key_of place_of passed truncated_of applied loop over_keys plain_done done_by all_done called items_done begun ended first_assigned records_done numeral_at sign_at fraction_at exponent_at numerator denominator digits unescaped escaped octal keywords builtins left_out_words table sign_of
emptied_operands = refl

-- BEGIN { print "x" > "f"; print fflush("f"), fflush("g"), fflush() }
pub flushed : run_of scripts.flushed no_job no_input empty 40
    ≡ Ended 0 ((Open (codes "f") false ∷ []) ++ (puts (Named (codes "f")) (codes "x\n") ++ (puts Standard (codes "0 -1 0\n"))))
unfolding special_arrays special_scalars spend_all asked value_of values_of key_of place_of passed truncated_of applied loop over_keys plain_done done_by all_done called items_done begun ended first_assigned records_done numeral_at sign_at fraction_at exponent_at numerator denominator digits unescaped escaped octal keywords builtins left_out_words table sign_of
flushed = refl

-- BEGIN { print (getline x < "f"), fflush("f"); print x >> "f"; print fflush("f"), close("f"), fflush("f"), fflush("") }
pub reader_not_flushed : run_of scripts.reader_not_flushed no_job no_input (with_file (codes "f") (codes "a\n") End empty) 40
    ≡ Ended 0 (puts Standard (codes "1 -1\n")
    ++ ((Open (codes "f") true ∷ []) ++ (puts (Named (codes "f")) (codes "a\n") ++ (puts Standard (codes "0 0 -1 0\n")))))
unfolding special_arrays special_scalars spend_all asked value_of values_of key_of place_of passed truncated_of applied loop over_keys plain_done done_by all_done called items_done begun ended first_assigned records_done numeral_at sign_at fraction_at exponent_at numerator denominator digits unescaped escaped octal keywords builtins left_out_words table sign_of
reader_not_flushed = refl
