-- Scripts by their bytes: each has this tree, and runs so.
use Rattle.std.specs.Prelude.{true, false, [], ◌∷◌, ◌++◌, codes, refl}
use Rattle.awk_values.specs.declared.fault.Fault.TheVariants.{Range, Fraction, DivisionByZero, Inexact, FieldNumber, Format, BadEre, OpenInput, ReadFailed, OpenOutput, WriteFailed, NextOutside, BadAssignment}
use Rattle.world_core.specs.WorldState.{Standard, Named, Open, puts}
use Rattle.world_core.specs.declared.world.Ending.TheVariants.{End, Fails}
use Rattle.sem_scripts.specs.ScriptRun.{Ended, FaultedBy, GoesOn, Exhausted}
use Rattle.mid_program.specs.Scripts as scripts
use Rattle.test_parts.specs.Settings.{no_job, no_input, empty, narrow, with_file, without_opening}
use Rattle.test_parts.specs.Jobs.{input, failing, operands, assigns}
use Rattle.test_parts.specs.Sources.{RunsAs, RunsWithin, computed}

pub sum_printed : RunsAs scripts.sum_printed
    (codes "BEGIN { print 2+3 }")
    no_job no_input empty 20 (Ended 0 (puts Standard (codes "5\n")))
unfolding computed
sum_printed = (refl, refl)

pub nothing_read : RunsAs scripts.nothing_read
    []
    no_job (input (codes "x")) empty 20 (Ended 0 [])
unfolding computed
nothing_read = (refl, refl)

pub quotients : RunsAs scripts.quotients
    (codes "BEGIN { print int(7/2), int(-7/2), -7%3; print 7/2; print \"no\" }")
    no_job no_input empty 20 (FaultedBy Inexact (puts Standard (codes "3 -3 -1\n")))
unfolding computed
quotients = (refl, refl)

pub powers : RunsAs scripts.powers
    (codes "BEGIN { print 2^53; print 2^53+1 }")
    no_job no_input empty 20 (FaultedBy Range (puts Standard (codes "9007199254740992\n")))
unfolding computed
powers = (refl, refl)

pub matched_or_counted : RunsAs scripts.matched_or_counted
    (codes "{ if (NF) /x/ || n++ } END { print n/1 }")
    no_job (input (codes "x\ny\n")) empty 20 (Ended 0 (puts Standard (codes "1\n")))
unfolding computed
matched_or_counted = (refl, refl)

pub unset_name : RunsAs scripts.unset_name
    (codes "BEGIN { if (0) n = 1 % 0; print \"[\" n \"]\", n+0 }")
    no_job no_input empty 20 (Ended 0 (puts Standard (codes "[] 0\n")))
unfolding computed
unset_name = (refl, refl)

pub compared_fields : RunsAs scripts.compared_fields
    (codes "{ print ($1 > $2), ($1 > \"9\") }")
    no_job (input (codes "10 9\n")) empty 20 (Ended 0 (puts Standard (codes "1 0\n")))
unfolding computed
compared_fields = (refl, refl)

pub assigned_before : RunsAs scripts.assigned_before
    (codes "BEGIN { print n; n++; print n }")
    (assigns ((codes "n", codes "007") ∷ [])) no_input empty 20 (Ended 0 (puts Standard (codes "007\n8\n")))
unfolding computed
assigned_before = (refl, refl)

pub separator_assigned : RunsAs scripts.separator_assigned
    (codes "{ print $2 }")
    (assigns ((codes "FS", codes ":") ∷ [])) (input (codes "a:b\n")) empty 20 (Ended 0 (puts Standard (codes "b\n")))
unfolding computed
separator_assigned = (refl, refl)

pub next_in_function : RunsAs scripts.next_in_function
    (codes "function f(x) { if (x == \"b\") next; return x } { print \"<\" f($1) \">\" }")
    no_job (input (codes "a\nb\nc\n")) empty 20 (Ended 0 (puts Standard (codes "<a>\n<c>\n")))
unfolding computed
next_in_function = (refl, refl)

pub exit_in_function : RunsAs scripts.exit_in_function
    (codes "function g() { exit 3 } BEGIN { print \"a\" g(); print \"no\" } END { print \"end\" }")
    no_job no_input empty 20 (Ended 3 (puts Standard (codes "end\n")))
unfolding computed
exit_in_function = (refl, refl)

pub joined_signs : RunsAs scripts.joined_signs
    (codes "BEGIN { print -12 \" \" -24 }")
    no_job no_input empty 20 (Ended 0 (puts Standard (codes "-12-24\n")))
unfolding computed
joined_signs = (refl, refl)

pub all_replaced : RunsAs scripts.all_replaced
    (codes "BEGIN { s = \"abxxc\"; n = gsub(/x*/, \"-\", s); print n, s }")
    no_job no_input empty 20 (Ended 0 (puts Standard (codes "4 -a-b-c-\n")))
unfolding computed
all_replaced = (refl, refl)

pub paragraphs : RunsAs scripts.paragraphs
    (codes "BEGIN { RS = \"\"; FS = \",\" } { print NF \":\" $1 \"|\" $NF }")
    no_job (input (codes "\n\na,b\nc\n\n\nd\n")) empty 20 (Ended 0 (puts Standard (codes "3:a|c\n1:d|d\n")))
unfolding computed
paragraphs = (refl, refl)

pub input_fails : RunsAs scripts.input_fails
    (codes "{ print }")
    no_job (failing (codes "a\nb")) empty 20 (FaultedBy ReadFailed (puts Standard (codes "a\n")))
unfolding computed
input_fails = (refl, refl)

pub file_fails : RunsAs scripts.file_fails
    (codes "BEGIN { print (getline < \"f\"), $0; print (getline < \"f\") }")
    no_job no_input (with_file (codes "f") (codes "a\nb") Fails empty) 20 (Ended 0 (puts Standard (codes "1 a\n-1\n")))
unfolding computed
file_fails = (refl, refl)

pub little_room : RunsAs scripts.little_room
    (codes "BEGIN { print \"ab\"; print \"cd\" }")
    no_job no_input (narrow 4) 20 (FaultedBy WriteFailed (puts Standard (codes "ab\nc")))
unfolding computed
little_room = (refl, refl)

pub fields_joined : RunsAs scripts.fields_joined
    (codes "BEGIN { OFS = \"-\" } { $5 = \"e\"; print; print NF; NF = 2; print }")
    no_job (input (codes "a b c\n")) empty 20 (Ended 0 (puts Standard (codes "a-b-c--e\n5\na-b\n")))
unfolding computed
fields_joined = (refl, refl)

pub fraction_read : RunsAs scripts.fraction_read
    (codes "{ print $1; print int($1); print $1+0 }")
    no_job (input (codes "0.5\n")) empty 20 (FaultedBy Fraction (puts Standard (codes "0.5\n0\n")))
unfolding computed
fraction_read = (refl, refl)

pub calls_nested : RunsWithin 4 scripts.calls_nested
    (codes "function r(n) { return n ? r(n-1) : 7 } BEGIN { print r(3) }")
    no_job no_input empty 20 (Ended 0 (puts Standard (codes "7\n")))
unfolding computed
calls_nested = (refl, refl)

pub calls_too_deep : RunsWithin 4 scripts.calls_too_deep
    (codes "function r(n) { return n ? r(n-1) : 7 } BEGIN { print \"x\"; print r(4) }")
    no_job no_input empty 20 (Exhausted (puts Standard (codes "x\n")))
unfolding computed
calls_too_deep = (refl, refl)

pub next_outside : RunsAs scripts.next_outside
    (codes "function h() { next } BEGIN { h() }")
    no_job no_input empty 20 (FaultedBy NextOutside [])
unfolding computed
next_outside = (refl, refl)

pub formatted : RunsAs scripts.formatted
    (codes "BEGIN { printf \"%5d|%-4s|%04d|%x|%c|%.2f|%%\\n\", 42, \"ab\", -7, 255, 65, 3; printf \"%d\\n\" }")
    no_job no_input empty 20 (FaultedBy Format (puts Standard (codes "   42|ab  |-007|ff|A|3.00|%\n")))
unfolding computed
formatted = (refl, refl)

pub longest_match : RunsAs scripts.longest_match
    (codes "BEGIN { print (\"abcd\" ~ \"b|bc\"), match(\"abcd\", \"b|bc\"), RSTART, RLENGTH; print \"x\" ~ \"(\" }")
    no_job no_input empty 20 (FaultedBy BadEre (puts Standard (codes "1 2 2 2\n")))
unfolding computed
longest_match = (refl, refl)

pub keys_visited : RunsAs scripts.keys_visited
    (codes "BEGIN { a[\"x\"]; a[\"y\"]; a[\"z\"]; delete a[\"x\"]; a[\"x\"] = 1; for (k in a) { printf \"%s \", k; delete a[\"x\"] " ++
    codes "}; print (\"x\" in a) }")
    no_job no_input empty 20 (Ended 0 (puts Standard (codes "y z x 0\n")))
unfolding computed
keys_visited = (refl, refl)

pub file_written_and_read : RunsAs scripts.file_written_and_read
    (codes "BEGIN { print \"a\" > \"f\"; print \"b\" > \"f\"; print close(\"f\"), close(\"f\"); while ((getline x < \"f\") > 0) " ++
    codes "print \"got \" x; print \"c\" >> \"f\" }")
    no_job no_input empty 20
    (Ended 0 ((Open (codes "f") false ∷ []) ++ (puts (Named (codes "f")) (codes "a\nb\n") ++ (puts Standard (codes "0 -1\ngot a\ngot b\n") ++
    ((Open (codes "f") true ∷ []) ++ (puts (Named (codes "f")) (codes "c\n")))))))
unfolding computed
file_written_and_read = (refl, refl)

pub assignments_between_files : RunsAs scripts.assignments_between_files
    (codes "{ print v, FILENAME, FNR, NR }")
    (operands (codes "v=1" ∷ codes "f" ∷ codes "v=a b" ∷ codes "g" ∷ codes "h" ∷ [])) no_input
    (with_file (codes "g") (codes "q") End (with_file (codes "f") (codes "p\n") End empty)) 20
    (FaultedBy OpenInput (puts Standard (codes "1 f 1 1\na b g 1 2\n")))
unfolding computed
assignments_between_files = (refl, refl)

pub product_past_range : RunsAs scripts.product_past_range
    (codes "BEGIN { a = 2^53; print a * a }")
    no_job no_input empty 20 (FaultedBy Range [])
unfolding computed
product_past_range = (refl, refl)

pub field_past_limit : RunsAs scripts.field_past_limit
    (codes "BEGIN { print $1048577 }")
    no_job no_input empty 20 (FaultedBy FieldNumber [])
unfolding computed
field_past_limit = (refl, refl)

pub field_below_zero : RunsAs scripts.field_below_zero
    (codes "BEGIN { print $(-1) }")
    no_job no_input empty 20 (FaultedBy FieldNumber [])
unfolding computed
field_below_zero = (refl, refl)

pub status_modulo : RunsAs scripts.status_modulo
    (codes "BEGIN { printf \"%s\", \"x\"; exit -1 }")
    no_job no_input empty 20 (Ended 255 (puts Standard (codes "x")))
unfolding computed
status_modulo = (refl, refl)

pub function_assigned : RunsAs scripts.function_assigned
    (codes "function f() { } BEGIN { print 1 }")
    (assigns ((codes "f", codes "1") ∷ [])) no_input empty 20 (FaultedBy BadAssignment [])
unfolding computed
function_assigned = (refl, refl)

pub file_that_does_not_open : RunsAs scripts.file_that_does_not_open
    (codes "BEGIN { print \"x\" > \"d\" }")
    no_job no_input (without_opening (codes "d") empty) 20 (FaultedBy OpenOutput [])
unfolding computed
file_that_does_not_open = (refl, refl)

pub numeric_strings : RunsAs scripts.numeric_strings
    (codes "{ print ($1 == 1), ($1 == \"1\"), (u == 0), (u == \"\") }")
    no_job (input (codes "1.0\n")) empty 20 (Ended 0 (puts Standard (codes "1 0 1 1\n")))
unfolding computed
numeric_strings = (refl, refl)

pub getline_in_loop : RunsAs scripts.getline_in_loop
    (codes "NR == 1 { getline; print; getline x; print x, NR, $0 }")
    no_job (input (codes "a\nb\nc\n")) empty 20 (Ended 0 (puts Standard (codes "b\nc 3 b\n")))
unfolding computed
getline_in_loop = (refl, refl)

pub ranges : RunsAs scripts.ranges
    (codes "/b/, /c/; /b/, /b/ { print NR }")
    no_job (input (codes "a\nb\nc\nb\n")) empty 20 (Ended 0 (puts Standard (codes "b\n2\nc\nb\n4\n")))
unfolding computed
ranges = (refl, refl)

pub text_functions : RunsAs scripts.text_functions
    (codes "BEGIN { print substr(\"hello\", 0, 3), substr(\"hello\", -1), substr(\"hello\", 4, 99), index(\"hello\", \"l\"), " ++
    codes "split(\"a:b::c\", p, \":\"), \"[\" p[3] \"]\", toupper(\"ab\") tolower(\"CD\") }")
    no_job no_input empty 20 (Ended 0 (puts Standard (codes "he hello lo 3 4 [] ABcd\n")))
unfolding computed
text_functions = (refl, refl)

pub steps_and_powers : RunsAs scripts.steps_and_powers
    (codes "BEGIN { n = 1; print n ++ 2; print \"a\" ++n; x = 1 + 2 \" \" 3; print x; print 1==1, 2 ^ 3 ^ 2, -2 ^ 2, !1 + 1 }")
    no_job no_input empty 20 (Ended 0 (puts Standard (codes "12\na3\n3 3\n1 512 -4 1\n")))
unfolding computed
steps_and_powers = (refl, refl)

pub no_output_before_a_fault : RunsAs scripts.no_output_before_a_fault
    (codes "BEGIN { print \"a\", 1 / 0 }")
    no_job no_input empty 20 (FaultedBy DivisionByZero [])
unfolding computed
no_output_before_a_fault = (refl, refl)

pub turns_end : RunsAs scripts.turns_end
    (codes "BEGIN { while (1) print \"y\" }")
    no_job no_input empty 5 (GoesOn (puts Standard (codes "y\ny\ny\ny\ny\n")))
unfolding computed
turns_end = (refl, refl)

pub test_left_out_costs_a_turn : RunsAs scripts.test_left_out_costs_a_turn
    (codes "BEGIN { for (;;) if (i++ > 2) break; print i }")
    no_job no_input empty 4 (Ended 0 (puts Standard (codes "4\n")))
unfolding computed
test_left_out_costs_a_turn = (refl, refl)

pub operands_before_conversions : RunsAs scripts.operands_before_conversions
    (codes "function f() { printf \"f\"; return 1 } BEGIN { print \"0.5\" + f() }")
    no_job no_input empty 20 (FaultedBy Fraction (puts Standard (codes "f")))
unfolding computed
operands_before_conversions = (refl, refl)

pub old_value_after_right_side : RunsAs scripts.old_value_after_right_side
    (codes "BEGIN { x = 1; x += x++; print x; y = \"0.5\"; y += \"1e99\" }")
    no_job no_input empty 20 (FaultedBy Fraction (puts Standard (codes "3\n")))
unfolding computed
old_value_after_right_side = (refl, refl)

pub field_checked_first : RunsAs scripts.field_checked_first
    (codes "function f() { printf \"f\" } BEGIN { $(-1) = f() }")
    no_job no_input empty 20 (FaultedBy FieldNumber [])
unfolding computed
field_checked_first = (refl, refl)

pub element_made_last : RunsAs scripts.element_made_last
    (codes "BEGIN { a[\"x\"] = a[\"y\"]; for (k in a) print k; b[\"k\"] = (\"k\" in b); print b[\"k\"] }")
    no_job no_input empty 20 (Ended 0 (puts Standard (codes "y\nx\n0\n")))
unfolding computed
element_made_last = (refl, refl)

pub subscripts_joined : RunsAs scripts.subscripts_joined
    (codes "BEGIN { a[1, 2, SUBSEP = \"-\"] = 5; for (k in a) print k; print ((1, 2, \"-\") in a) }")
    no_job no_input empty 20 (Ended 0 (puts Standard (codes "1-2--\n1\n")))
unfolding computed
subscripts_joined = (refl, refl)

pub arrays_by_reference : RunsAs scripts.arrays_by_reference
    (codes "function f(a, n, own) { own[1] = n; a[\"k\"] = own[1]; n = 9; return length(own[1]) } BEGIN { n = 12; print f(t, n), t[\"k\"], n }")
    no_job no_input empty 20 (Ended 0 (puts Standard (codes "2 12 12\n")))
unfolding computed
arrays_by_reference = (refl, refl)

pub do_and_continue : RunsAs scripts.do_and_continue
    (codes "BEGIN { do { i++; if (i == 2) continue; if (i == 4) break; print i } while (i < 9); for (j = 0; j < 3; " ++
    codes "j++) { if (j == 1) continue; print j } }")
    no_job no_input empty 20 (Ended 0 (puts Standard (codes "1\n3\n0\n2\n")))
unfolding computed
do_and_continue = (refl, refl)

pub exit_in_end : RunsAs scripts.exit_in_end
    (codes "BEGIN { exit 2 } END { print \"e\"; exit; print \"no\" }")
    no_job no_input empty 20 (Ended 2 (puts Standard (codes "e\n")))
unfolding computed
exit_in_end = (refl, refl)

pub getline_at_end : RunsAs scripts.getline_at_end
    (codes "END { print getline, getline x, x \"\", NR }")
    no_job (input (codes "a\n")) empty 20 (Ended 0 (puts Standard (codes "0 0  1\n")))
unfolding computed
getline_at_end = (refl, refl)

pub sub_keeps_key : RunsAs scripts.sub_keeps_key
    (codes "function k() { printf \"k\"; return \"q\" } BEGIN { a[\"q\"] = \"aXb\"; n = sub(/X/, \"[&]\", a[k()]); print n, a[\"q\"] }")
    no_job no_input empty 20 (Ended 0 (puts Standard (codes "k1 a[X]b\n")))
unfolding computed
sub_keeps_key = (refl, refl)

pub target_after_operands : RunsAs scripts.target_after_operands
    (codes "BEGIN { $0 = \"a b\"; print > ($0 = \"f\") }")
    no_job no_input empty 20 (Ended 0 ((Open (codes "f") false ∷ []) ++ (puts (Named (codes "f")) (codes "a b\n"))))
unfolding computed
target_after_operands = (refl, refl)
