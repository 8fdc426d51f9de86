-- Further scripts by their bytes: each has this tree, and runs so.
use Rattle.std.specs.Prelude.{true, false, [], ◌∷◌, ◌++◌, codes, refl}
use Rattle.awk_values.specs.declared.fault.Fault.TheVariants.{Range, Fraction, Inexact, FieldNumber, Format, BadEre, ReadFailed, WriteFailed, NextOutside, BadAssignment}
use Rattle.world_core.specs.WorldState.{Standard, Named, Open, puts}
use Rattle.world_core.specs.declared.world.Ending.TheVariants.{End, Fails}
use Rattle.sem_scripts.specs.ScriptRun.{Ended, FaultedBy, GoesOn}
use Rattle.test_parts.specs.Scripts as scripts
use Rattle.test_parts.specs.Settings.{no_job, no_input, empty, with_file, with_room, two_files}
use Rattle.test_parts.specs.Jobs.{input, failing, operands, assigns}
use Rattle.test_parts.specs.Sources.{RunsAs, computed}

pub name_read_when_met : RunsAs scripts.name_read_when_met
    (codes "function f() { x = 5; return 1 } BEGIN { x = 1; print x + f(), x; x = 1; print x f() x; x = 1; x += f(); print x }")
    no_job no_input empty 40 (Ended 0 (puts Standard (codes "2 5\n115\n6\n")))
unfolding computed
name_read_when_met = (refl, refl)

pub getline_among_operands : RunsAs scripts.getline_among_operands
    (codes "{ print $1, (getline), $1, NF, NR }")
    no_job (input (codes "a b\nc\n")) empty 40 (Ended 0 (puts Standard (codes "a 1 c 1 2\n")))
unfolding computed
getline_among_operands = (refl, refl)

pub value_of_special_assignment : RunsAs scripts.value_of_special_assignment
    (codes "BEGIN { print (NF = \"02\"), NF, ($0 = 5) + 1, $1, NF }")
    no_job no_input empty 40 (Ended 0 (puts Standard (codes "02 2 6 5 1\n")))
unfolding computed
value_of_special_assignment = (refl, refl)

pub count_as_key : RunsAs scripts.count_as_key
    (codes "BEGIN { a[3]; a[\"x\"]; $0 = \"p q\"; for (NF in a) print NF, $0 \".\" }")
    no_job no_input empty 40 (Ended 0 (puts Standard (codes "3 p q .\n0 .\n")))
unfolding computed
count_as_key = (refl, refl)

pub key_below_zero_as_count : RunsAs scripts.key_below_zero_as_count
    (codes "BEGIN { a[\"-1\"]; for (NF in a) print \"no\" }")
    no_job no_input empty 40 (FaultedBy FieldNumber [])
unfolding computed
key_below_zero_as_count = (refl, refl)

pub operators_with_assignment : RunsAs scripts.operators_with_assignment
    (codes "BEGIN { x = 2; x ^= x += 1; print x; a[\"i\"] -= a[\"j\"]--; for (k in a) print k a[k]; $2 *= 4; $3 %= NF; print NF $0 }")
    no_job no_input empty 40 (Ended 0 (puts Standard (codes "27\nj-1\ni0\n3 0 0\n")))
unfolding computed
operators_with_assignment = (refl, refl)

pub steps_in_fields : RunsAs scripts.steps_in_fields
    (codes "BEGIN { i = 2; $0 = \"1 5 c\"; print $i++, $2, i, ++$i, $0, $(i++) = i, $0, i }")
    no_job no_input empty 40 (Ended 0 (puts Standard (codes "5 6 2 7 1 7 c 3 1 3 c 3\n")))
unfolding computed
steps_in_fields = (refl, refl)

pub special_steps : RunsAs scripts.special_steps
    (codes "BEGIN { print (NR = \"4\") (NR += 1) NR++ NR }")
    no_job no_input empty 40 (Ended 0 (puts Standard (codes "4556\n")))
unfolding computed
special_steps = (refl, refl)

pub read_into_elements : RunsAs scripts.read_into_elements
    (codes "BEGIN { while ((getline a[n++]) > 0) ; print n, a[0], (1 in a), (2 in a) }")
    no_job (input (codes "l\nm\n")) empty 40 (Ended 0 (puts Standard (codes "3 l 1 0\n")))
unfolding computed
read_into_elements = (refl, refl)

pub read_into_field : RunsAs scripts.read_into_field
    (codes "BEGIN { while ((getline $2 < \"f\") > 0) print NF, $0 }")
    no_job no_input (with_file (codes "f") (codes "p q\nr\n") End empty) 40 (Ended 0 (puts Standard (codes "2  p q\n2  r\n")))
unfolding computed
read_into_field = (refl, refl)

pub assignments_among_reads : RunsAs scripts.assignments_among_reads
    (codes "BEGIN { while ((getline x) > 0) print x, v, NR; print v }")
    (operands (codes "v=1" ∷ codes "f" ∷ codes "v=2" ∷ codes "g" ∷ codes "v=3" ∷ [])) no_input
    (with_file (codes "g") (codes "s\n") End (with_file (codes "f") (codes "p q\nr\n") End empty)) 40
    (Ended 0 (puts Standard (codes "p q 1 1\nr 1 2\ns 2 3\n3\n")))
unfolding computed
assignments_among_reads = (refl, refl)

pub assignment_in_a_call : RunsAs scripts.assignment_in_a_call
    (codes "function f(v) { getline; return v } BEGIN { print f(4), v, $0 }")
    (operands (codes "v=1" ∷ codes "f" ∷ [])) no_input (with_file (codes "f") (codes "p q\nr\n") End empty) 40 (Ended 0 (puts Standard (codes "4 1 p q\n")))
unfolding computed
assignment_in_a_call = (refl, refl)

pub all_replaced_in_record : RunsAs scripts.all_replaced_in_record
    (codes "BEGIN { $0 = \"aa b\"; n = gsub(/a/, \"&x\"); print n, $0, $1, NF; print gsub(\"q\", \"\"), $0 }")
    no_job no_input empty 40 (Ended 0 (puts Standard (codes "2 axax b axax 2\n0 axax b\n")))
unfolding computed
all_replaced_in_record = (refl, refl)

pub arrays_through_calls : RunsAs scripts.arrays_through_calls
    (codes "function g(q) { q[1] = 7 } function f(p) { g(p) } function h(u) { return 3 } BEGIN { f(t); print t[1], h(t), h(), h(w) }")
    no_job no_input empty 40 (Ended 0 (puts Standard (codes "7 3 3 3\n")))
unfolding computed
arrays_through_calls = (refl, refl)

pub fresh_array_handed_on : RunsAs scripts.fresh_array_handed_on
    (codes "function r(n, a) { a[n]; if (n) r(n - 1); for (k in a) c = c k } BEGIN { r(2); print c }")
    no_job no_input empty 40 (Ended 0 (puts Standard (codes "012\n")))
unfolding computed
fresh_array_handed_on = (refl, refl)

pub next_in_a_pattern : RunsAs scripts.next_in_a_pattern
    (codes "function n() { next } /a/, n() { print } /b/ { print \"B\" }")
    no_job (input (codes "a\nb\n")) empty 40 (Ended 0 [])
unfolding computed
next_in_a_pattern = (refl, refl)

pub next_in_end : RunsAs scripts.next_in_end
    (codes "function f() { next } { print } END { f() }")
    no_job (input (codes "a\n")) empty 40 (FaultedBy NextOutside (puts Standard (codes "a\n")))
unfolding computed
next_in_end = (refl, refl)

pub status_below_zero : RunsAs scripts.status_below_zero
    (codes "function f() { exit -257 } { print \"x\" f() } END { print \"e\"; exit; print \"no\" }")
    no_job (input (codes "a\n")) empty 40 (Ended 255 (puts Standard (codes "e\n")))
unfolding computed
status_below_zero = (refl, refl)

pub exit_before_records : RunsAs scripts.exit_before_records
    (codes "BEGIN { exit 5 } { print \"no\" } END { print NR; exit \"3x\" + 300 }")
    no_job (input (codes "a\n")) empty 40 (Ended 47 (puts Standard (codes "0\n")))
unfolding computed
exit_before_records = (refl, refl)

pub exit_with_fraction : RunsAs scripts.exit_with_fraction
    (codes "BEGIN { exit \"0.5\" } END { print \"no\" }")
    no_job no_input empty 40 (FaultedBy Fraction [])
unfolding computed
exit_with_fraction = (refl, refl)

pub arguments_before_conversion : RunsAs scripts.arguments_before_conversion
    (codes "function f() { printf \"f\"; return 1 } BEGIN { print substr(\"x\", \"0.5\", f()) }")
    no_job no_input empty 40 (FaultedBy Fraction (puts Standard (codes "f")))
unfolding computed
arguments_before_conversion = (refl, refl)

pub sign_converts_at_once : RunsAs scripts.sign_converts_at_once
    (codes "function f() { printf \"f\"; return 1 } BEGIN { print -\"0.5\" + f() }")
    no_job no_input empty 40 (FaultedBy Fraction [])
unfolding computed
sign_converts_at_once = (refl, refl)

pub format_before_file : RunsAs scripts.format_before_file
    (codes "BEGIN { printf \"%q\", 1 > \"f\" }")
    no_job no_input empty 40 (FaultedBy Format [])
unfolding computed
format_before_file = (refl, refl)

pub truncated_quotient : RunsAs scripts.truncated_quotient
    (codes "BEGIN { print int((7/2)), -\"3x\", !\"0\" }")
    no_job no_input empty 40 (Ended 0 (puts Standard (codes "3 -3 0\n")))
unfolding computed
truncated_quotient = (refl, refl)

pub quotient_under_a_sign : RunsAs scripts.quotient_under_a_sign
    (codes "BEGIN { print int(-(7/2)) }")
    no_job no_input empty 40 (FaultedBy Inexact [])
unfolding computed
quotient_under_a_sign = (refl, refl)

pub read_as_a_test : RunsAs scripts.read_as_a_test
    (codes "BEGIN { if (!(getline x < \"no\")) print \"zero\"; else print \"true\" }")
    no_job no_input empty 40 (Ended 0 (puts Standard (codes "true\n")))
unfolding computed
read_as_a_test = (refl, refl)

pub do_without_turns : RunsAs scripts.do_without_turns
    (codes "BEGIN { do print \"x\"; while (0) }")
    no_job no_input empty 0 (GoesOn (puts Standard (codes "x\n")))
unfolding computed
do_without_turns = (refl, refl)

pub call_without_turns : RunsAs scripts.call_without_turns
    (codes "function f() { } BEGIN { f(); print \"x\" }")
    no_job no_input empty 0 (GoesOn [])
unfolding computed
call_without_turns = (refl, refl)

pub keys_and_turns : RunsAs scripts.keys_and_turns
    (codes "BEGIN { a[\"p\"]; a[\"q\"]; for (k in a) print k }")
    no_job no_input empty 1 (GoesOn (puts Standard (codes "p\n")))
unfolding computed
keys_and_turns = (refl, refl)

pub records_and_turns : RunsAs scripts.records_and_turns
    (codes "{ print } END { print \"e\" }")
    no_job (input (codes "a\nb\n")) empty 1 (GoesOn (puts Standard (codes "a\n")))
unfolding computed
records_and_turns = (refl, refl)

pub turn_for_each_record : RunsAs scripts.turn_for_each_record
    (codes "{ print } END { print \"e\" }")
    no_job (input (codes "a\nb\n")) empty 2 (Ended 0 (puts Standard (codes "a\nb\ne\n")))
unfolding computed
turn_for_each_record = (refl, refl)

pub assignment_without_turns : RunsAs scripts.assignment_without_turns
    (codes "BEGIN { print v }")
    (assigns ((codes "v", codes "1") ∷ [])) no_input empty 0 (GoesOn [])
unfolding computed
assignment_without_turns = (refl, refl)

pub special_assigned_without_turns : RunsAs scripts.special_assigned_without_turns
    (codes "BEGIN { print \"x\" }")
    (assigns ((codes "FS", codes ":") ∷ [])) no_input empty 0 (GoesOn [])
unfolding computed
special_assigned_without_turns = (refl, refl)

pub unused_name_without_turns : RunsAs scripts.unused_name_without_turns
    (codes "BEGIN { print \"x\" }")
    (assigns ((codes "w", codes "1") ∷ [])) no_input empty 0 (GoesOn [])
unfolding computed
unused_name_without_turns = (refl, refl)

pub turn_for_each_assignment : RunsAs scripts.turn_for_each_assignment
    (codes "BEGIN { print v FS OFS \"x\" }")
    (assigns ((codes "FS", codes ":") ∷ (codes "w", codes "1") ∷ (codes "v", codes "1") ∷ (codes "OFS", codes ":") ∷ [])) no_input empty 4
    (Ended 0 (puts Standard (codes "1::x\n")))
unfolding computed
turn_for_each_assignment = (refl, refl)

pub too_few_turns_for_assignments : RunsAs scripts.too_few_turns_for_assignments
    (codes "BEGIN { print v FS OFS \"x\" }")
    (assigns ((codes "FS", codes ":") ∷ (codes "w", codes "1") ∷ (codes "v", codes "1") ∷ (codes "OFS", codes ":") ∷ [])) no_input empty 3 (GoesOn [])
unfolding computed
too_few_turns_for_assignments = (refl, refl)

pub bad_assignment_not_reached : RunsAs scripts.bad_assignment_not_reached
    (codes "BEGIN { print \"x\" }")
    (assigns ((codes "w", codes "1") ∷ (codes "sin", codes "1") ∷ [])) no_input empty 1 (GoesOn [])
unfolding computed
bad_assignment_not_reached = (refl, refl)

pub bad_assignment_reached : RunsAs scripts.bad_assignment_reached
    (codes "BEGIN { print \"x\" }")
    (assigns ((codes "w", codes "1") ∷ (codes "sin", codes "1") ∷ [])) no_input empty 2 (FaultedBy BadAssignment [])
unfolding computed
bad_assignment_reached = (refl, refl)

pub operand_without_turns : RunsAs scripts.operand_without_turns
    (codes "BEGIN { print \"b\" } { print \"x\" }")
    (operands (codes "FS=q" ∷ codes "f" ∷ [])) no_input (with_file (codes "f") (codes "p q\nr\n") End empty) 0 (GoesOn (puts Standard (codes "b\n")))
unfolding computed
operand_without_turns = (refl, refl)

pub turns_of_operands : RunsAs scripts.turns_of_operands
    (codes "{ print $1 }")
    (operands (codes "FS=:" ∷ codes "w=1" ∷ codes "f" ∷ [])) no_input (with_file (codes "f") (codes "p q\nr\n") End empty) 3
    (GoesOn (puts Standard (codes "p q\n")))
unfolding computed
turns_of_operands = (refl, refl)

pub turns_of_getline : RunsAs scripts.turns_of_getline
    (codes "BEGIN { getline; print $1; getline; print $1 }")
    (operands (codes "FS=:" ∷ codes "w=1" ∷ codes "f" ∷ codes "RS=:" ∷ codes "g" ∷ [])) no_input
    (with_file (codes "g") (codes "r\n") End (with_file (codes "f") (codes "p q\n") End empty)) 2
    (GoesOn (puts Standard (codes "p q\n")))
unfolding computed
turns_of_getline = (refl, refl)

pub argc_read_at_the_end : RunsAs scripts.argc_read_at_the_end
    (codes "NR==1{ARGC=\"1.5\"}{print}")
    no_job (input (codes "a\nb\n")) empty 40 (Ended 0 (puts Standard (codes "a\nb\n")))
unfolding computed
argc_read_at_the_end = (refl, refl)

pub argc_read_after_a_file : RunsAs scripts.argc_read_after_a_file
    (codes "NR==1{ARGC=\"1.5\"}{print}")
    (operands (codes "f" ∷ [])) no_input (with_file (codes "f") (codes "a\nb\n") End empty) 40 (FaultedBy Fraction (puts Standard (codes "a\nb\n")))
unfolding computed
argc_read_after_a_file = (refl, refl)

pub argc_hides_an_operand : RunsAs scripts.argc_hides_an_operand
    (codes "{print}")
    (operands (codes "ARGC=2" ∷ codes "f" ∷ [])) (input (codes "s")) (with_file (codes "f") (codes "a\n") End empty) 40
    (Ended 0 (puts Standard (codes "s\n")))
unfolding computed
argc_hides_an_operand = (refl, refl)

pub argc_from_an_operand : RunsAs scripts.argc_from_an_operand
    (codes "{print FILENAME,$0}")
    (operands (codes "f" ∷ codes "ARGC=3" ∷ codes "g" ∷ [])) no_input
    (with_file (codes "g") (codes "b\n") End (with_file (codes "f") (codes "a\n") End empty)) 40
    (Ended 0 (puts Standard (codes "f a\n")))
unfolding computed
argc_from_an_operand = (refl, refl)

pub names_and_counts : RunsAs scripts.names_and_counts
    (codes "{print FILENAME \",\" FNR \",\" NR} END{print FILENAME,FNR,NR}")
    (operands (codes "e" ∷ codes "f" ∷ codes "-" ∷ [])) (input (codes "s\n"))
    (with_file (codes "f") (codes "p\nq\n") End (with_file (codes "e") [] End empty)) 40
    (Ended 0 (puts Standard (codes "f,1,1\nf,2,2\n-,1,3\n- 1 3\n")))
unfolding computed
names_and_counts = (refl, refl)

pub absent_file_passed_over : RunsAs scripts.absent_file_passed_over
    (codes "BEGIN{print (getline),(getline x),x,(getline),NR}")
    (operands (codes "h" ∷ codes "f" ∷ [])) no_input (with_file (codes "f") (codes "c\n") End empty) 40 (Ended 0 (puts Standard (codes "-1 1 c 0 1\n")))
unfolding computed
absent_file_passed_over = (refl, refl)

pub failing_main_input : RunsAs scripts.failing_main_input
    (codes "BEGIN{print (getline),(getline),(getline) $0}{print \"no\"}")
    (operands (codes "g" ∷ codes "f" ∷ [])) no_input (with_file (codes "f") (codes "c\n") End (with_file (codes "g") (codes "a\nb") Fails empty)) 40
    (FaultedBy ReadFailed (puts Standard (codes "1 -1 -1a\n")))
unfolding computed
failing_main_input = (refl, refl)

pub specials_among_operands : RunsAs scripts.specials_among_operands
    (codes "{print $1,NF}")
    (operands (codes "FS=," ∷ codes "f" ∷ codes "NF=2" ∷ codes "RS=" ∷ codes "g" ∷ [])) no_input
    (with_file (codes "g") (codes "c\nd,e\n\nf") End (with_file (codes "f") (codes "a,b\n") End empty)) 40
    (Ended 0 (puts Standard (codes "a 2\nc 3\nf 1\n")))
unfolding computed
specials_among_operands = (refl, refl)

pub counts_assigned : RunsAs scripts.counts_assigned
    (codes "BEGIN{NR=\"7x\";FNR=100}{print NR,FNR}")
    no_job (input (codes "a\nb\n")) empty 40 (Ended 0 (puts Standard (codes "8 1\n9 2\n")))
unfolding computed
counts_assigned = (refl, refl)

pub input_stays_ended : RunsAs scripts.input_stays_ended
    (codes "BEGIN{while((getline x)>0)print x;ARGV[2]=\"f\";ARGC=3;print getline}{print \"no\"}")
    (operands (codes "-" ∷ [])) (input (codes "s")) (with_file (codes "f") (codes "a\n") End empty) 40 (Ended 0 (puts Standard (codes "s\n0\n")))
unfolding computed
input_stays_ended = (refl, refl)

pub operand_from_a_number : RunsAs scripts.operand_from_a_number
    (codes "BEGIN{ARGV[1]=5}{print FILENAME,FILENAME==5}")
    (operands (codes "x" ∷ [])) no_input (with_file (codes "5") (codes "a\n") End empty) 40 (Ended 0 (puts Standard (codes "5 1\n")))
unfolding computed
operand_from_a_number = (refl, refl)

pub record_kept_in_end : RunsAs scripts.record_kept_in_end
    (codes "END{$0=\"x y z\";print NF,$2;NF=2;print;print getline,$0;print (getline<\"f\"),$0,NF,NR}")
    no_job (input (codes "a b")) (with_file (codes "f") (codes "1 2 3\n") End empty) 40 (Ended 0 (puts Standard (codes "3 y\nx y\n0 x y\n1 1 2 3 3 1\n")))
unfolding computed
record_kept_in_end = (refl, refl)

pub failing_after_paragraph : RunsAs scripts.failing_after_paragraph
    (codes "BEGIN{RS=\"\";print (getline<\"f\") $0;RS=\"\\n\";print (getline<\"f\") $0;print (getline<\"f\")}")
    no_job no_input (with_file (codes "f") (codes "\n\na\nb\n\nc\n") Fails empty) 40 (Ended 0 (puts Standard (codes "1a\nb\n1c\n-1\n")))
unfolding computed
failing_after_paragraph = (refl, refl)

pub hyphen_is_a_file_for_getline : RunsAs scripts.hyphen_is_a_file_for_getline
    (codes "BEGIN{print (getline y<\"-\")}")
    no_job (input (codes "s")) empty 40 (Ended 0 (puts Standard (codes "-1\n")))
unfolding computed
hyphen_is_a_file_for_getline = (refl, refl)

pub number_as_separator : RunsAs scripts.number_as_separator
    (codes "BEGIN{RS=\"ab\"}{print}")
    no_job (input (codes "1b2a3")) empty 40 (Ended 0 (puts Standard (codes "1b2\n3\n")))
unfolding computed
number_as_separator = (refl, refl)

pub failing_empty_file : RunsAs scripts.failing_empty_file
    (codes "BEGIN{print (getline x<\"f\"),close(\"f\"),(getline x<\"f\"),close(\"f\")}")
    no_job no_input (with_file (codes "f") [] Fails empty) 40 (Ended 0 (puts Standard (codes "-1 0 -1 0\n")))
unfolding computed
failing_empty_file = (refl, refl)

pub written_then_read : RunsAs scripts.written_then_read
    (codes "BEGIN{print \"x\">\"f\";getline y<\"f\";print y,close(\"f\"),close(\"f\")}")
    no_job no_input empty 40 (Ended 0 ((Open (codes "f") false ∷ []) ++ (puts (Named (codes "f")) (codes "x\n") ++ puts Standard (codes "x 0 -1\n"))))
unfolding computed
written_then_read = (refl, refl)

pub appended_past_room : RunsAs scripts.appended_past_room
    (codes "BEGIN{print \"abc\">>\"f\"}")
    no_job no_input (with_room (codes "f") (codes "xy") 4 empty) 40
    (FaultedBy WriteFailed ((Open (codes "f") true ∷ []) ++ (puts (Named (codes "f")) (codes "ab"))))
unfolding computed
appended_past_room = (refl, refl)

pub emptied_then_past_room : RunsAs scripts.emptied_then_past_room
    (codes "BEGIN{print \"abc\">\"f\"}")
    no_job no_input (with_room (codes "f") (codes "xyzxyz") 3 empty) 40
    (FaultedBy WriteFailed ((Open (codes "f") false ∷ []) ++ (puts (Named (codes "f")) (codes "abc"))))
unfolding computed
emptied_then_past_room = (refl, refl)

pub uninitialised_field : RunsAs scripts.uninitialised_field
    (codes "BEGIN{$0=\"a b c\";$2=u;print NF,$0;print ($2==0),($2==\"\");$0=$0;print NF,($2==0)}")
    no_job no_input empty 40 (Ended 0 (puts Standard (codes "3 a  c\n1 1\n2 0\n")))
unfolding computed
uninitialised_field = (refl, refl)

pub count_lowered_and_raised : RunsAs scripts.count_lowered_and_raised
    (codes "BEGIN{$0=\"a b c\";NF=1;NF=3;print ($2==0),($2==\"\"),$0 \".\"}")
    no_job no_input empty 40 (Ended 0 (puts Standard (codes "1 1 a  .\n")))
unfolding computed
count_lowered_and_raised = (refl, refl)

pub count_on_command_line : RunsAs scripts.count_on_command_line
    (codes "BEGIN{print $0}")
    (assigns ((codes "OFS", codes "-") ∷ (codes "NF", codes "3") ∷ [])) no_input empty 40 (Ended 0 (puts Standard (codes "--\n")))
unfolding computed
count_on_command_line = (refl, refl)

pub count_below_zero_on_command_line : RunsAs scripts.count_below_zero_on_command_line
    (codes "BEGIN{print $0}")
    (assigns ((codes "NF", codes "-1") ∷ [])) no_input empty 40 (FaultedBy FieldNumber [])
unfolding computed
count_below_zero_on_command_line = (refl, refl)

pub rebuilt_with_separator : RunsAs scripts.rebuilt_with_separator
    (codes "BEGIN{OFS=\"-\";$0=\"a b\";NF=NF;OFS=\"+\";print;$3=\"c\";print}")
    no_job no_input empty 40 (Ended 0 (puts Standard (codes "a-b\na+b+c\n")))
unfolding computed
rebuilt_with_separator = (refl, refl)

pub separator_without_value : RunsAs scripts.separator_without_value
    (codes "BEGIN{FS=u;$0=\"a b\";print NF;FS=1;$0=\"a1b\";print NF}")
    no_job no_input empty 40 (Ended 0 (puts Standard (codes "3\n2\n")))
unfolding computed
separator_without_value = (refl, refl)

pub tab_and_newline : RunsAs scripts.tab_and_newline
    (codes "BEGIN{RS=\"\";FS=\"\\t\"}{print NF}")
    no_job (input (97 ∷ 9 ∷ 98 ∷ 10 ∷ 99 ∷ [])) empty 40 (Ended 0 (puts Standard (codes "3\n")))
unfolding computed
tab_and_newline = (refl, refl)

pub expression_and_newline : RunsAs scripts.expression_and_newline
    (codes "BEGIN{RS=\"\";FS=\"b*\"}{print NF,\"[\" $2 \"]\"}")
    no_job (input (codes "abb\nc")) empty 40 (Ended 0 (puts Standard (codes "3 []\n")))
unfolding computed
expression_and_newline = (refl, refl)

pub split_ignores_newline : RunsAs scripts.split_ignores_newline
    (codes "BEGIN{RS=\"\";print split(\"a\\nb,c\",p,\",\"),split(\"abc\",p,/./),split(\"abc\",p,//),split(\"a.b\",p,\".\")}")
    no_job no_input empty 40 (Ended 0 (puts Standard (codes "2 4 1 2\n")))
unfolding computed
split_ignores_newline = (refl, refl)

pub split_of_its_own_element : RunsAs scripts.split_of_its_own_element
    (codes "BEGIN{a[\"x\"]=\"p q\";print split(a[\"x\"],a),(\"x\" in a),a[2]}")
    no_job no_input empty 40 (Ended 0 (puts Standard (codes "2 0 q\n")))
unfolding computed
split_of_its_own_element = (refl, refl)

pub bad_separator_unused : RunsAs scripts.bad_separator_unused
    (codes "BEGIN{FS=\"((\";print (getline x<\"f\");print (getline<\"f\")}")
    no_job no_input (with_file (codes "f") (codes "p q\nr\n") End empty) 40 (FaultedBy BadEre (puts Standard (codes "1\n")))
unfolding computed
bad_separator_unused = (refl, refl)

pub empty_match_at_the_end : RunsAs scripts.empty_match_at_the_end
    (codes "BEGIN{s=\"aaa\";print gsub(/x*$/,\"-\",s),s;s=\"\";print gsub(/x*/,\"-\",s),s;s=\"abcX\";print gsub(/^/,\">\",s),s}")
    no_job no_input empty 40 (Ended 0 (puts Standard (codes "1 aaa-\n1 -\n1 >abcX\n")))
unfolding computed
empty_match_at_the_end = (refl, refl)

pub matches_that_are_empty : RunsAs scripts.matches_that_are_empty
    (codes "BEGIN{print match(\"aXb\",\"X*$\"),RLENGTH,match(\"\",/^$/),RLENGTH}")
    no_job no_input empty 40 (Ended 0 (puts Standard (codes "4 0 1 0\n")))
unfolding computed
matches_that_are_empty = (refl, refl)

pub parts_far_out : RunsAs scripts.parts_far_out
    (codes "BEGIN{print \"[\" substr(\"hello\",-2^53,2^53) \"]\",substr(\"hello\",2,2^53)}")
    no_job no_input empty 40 (Ended 0 (puts Standard (codes "[] ello\n")))
unfolding computed
parts_far_out = (refl, refl)

pub formats_of_numbers : RunsAs scripts.formats_of_numbers
    (codes "BEGIN{printf \"[%-05d][%+.0d][%05.1f][%#.0x][%#05o][% 05d][%.s]\\n\",-3,0,-2,0,8,42,\"ab\"}")
    no_job no_input empty 40 (Ended 0 (puts Standard (codes "[-3   ][+][-02.0][][00010][ 0042][]\n")))
unfolding computed
formats_of_numbers = (refl, refl)

pub range_before_format : RunsAs scripts.range_before_format
    (codes "BEGIN{printf \"%d%q\",\"1e99\"}")
    no_job no_input empty 40 (FaultedBy Range [])
unfolding computed
range_before_format = (refl, refl)

pub misplaced_flag : RunsAs scripts.misplaced_flag
    (codes "BEGIN{printf \"%.5-d\",1}")
    no_job no_input empty 40 (FaultedBy Format [])
unfolding computed
misplaced_flag = (refl, refl)

pub bytes_formatted : RunsAs scripts.bytes_formatted
    (codes "BEGIN{printf \"[%c][%.0c]\",65,\"q\"}")
    no_job no_input empty 40 (Ended 0 (puts Standard (codes "[A][q]")))
unfolding computed
bytes_formatted = (refl, refl)

pub unused_first : RunsAs scripts.unused_first
    (codes "BEGIN { getline a[\"k\"] < \"no\"; x = 1; print x, (\"k\" in a); sub(/q/, \"z\", b[\"y\"]); print (\"y\" in b) }")
    no_job no_input empty 40 (Ended 0 (puts Standard (codes "1 0\n1\n")))
unfolding computed
unused_first = (refl, refl)

pub keys_deleted_on_the_way : RunsAs scripts.keys_deleted_on_the_way
    (codes "BEGIN { a[\"x\"]; a[\"y\"]; for (k in a) { print k; delete a[\"y\"] }; print (\"y\" in a) }")
    no_job no_input empty 40 (Ended 0 (puts Standard (codes "x\ny\n0\n")))
unfolding computed
keys_deleted_on_the_way = (refl, refl)

pub do_while_counts : RunsAs scripts.do_while_counts
    (codes "BEGIN { do {  n++ }  while (n < 3)  print n }")
    no_job no_input empty 40 (Ended 0 (puts Standard (codes "3\n")))
unfolding computed
do_while_counts = (refl, refl)

pub fraction_from_command_line : RunsAs scripts.fraction_from_command_line
    (codes "BEGIN { print n; print n + 1 }")
    (assigns ((codes "n", codes "0.5") ∷ [])) no_input empty 40 (FaultedBy Fraction (puts Standard (codes "0.5\n")))
unfolding computed
fraction_from_command_line = (refl, refl)

pub count_across_an_assignment : RunsAs scripts.count_across_an_assignment
    (codes "{ n++; print n }")
    (operands (codes "f" ∷ codes "n=07" ∷ codes "g" ∷ [])) no_input
    (with_file (codes "g") (codes "b\n") End (with_file (codes "f") (codes "a\n") End empty)) 40
    (Ended 0 (puts Standard (codes "1\n8\n")))
unfolding computed
count_across_an_assignment = (refl, refl)

pub fault_not_reached : RunsAs scripts.fault_not_reached
    (codes "BEGIN { if (0) print 1/0; print 2^3*4 }")
    no_job no_input empty 40 (Ended 0 (puts Standard (codes "32\n")))
unfolding computed
fault_not_reached = (refl, refl)

pub step_past_range : RunsAs scripts.step_past_range
    (codes "BEGIN { n = 2^53; n++; print \"no\" }")
    no_job no_input empty 40 (FaultedBy Range [])
unfolding computed
step_past_range = (refl, refl)

pub loop_on_numbers : RunsAs scripts.loop_on_numbers
    (codes "BEGIN { while (n < 10) n = n + 1; print n }")
    no_job no_input empty 40 (Ended 0 (puts Standard (codes "10\n")))
unfolding computed
loop_on_numbers = (refl, refl)

pub turns_just_enough : RunsAs scripts.turns_just_enough
    (codes "BEGIN { while (n < 3) n = n + 1; print n }")
    no_job no_input empty 4 (Ended 0 (puts Standard (codes "3\n")))
unfolding computed
turns_just_enough = (refl, refl)

pub one_turn_too_few : RunsAs scripts.one_turn_too_few
    (codes "BEGIN { while (n < 3) n = n + 1; print n }")
    no_job no_input empty 3 (GoesOn [])
unfolding computed
one_turn_too_few = (refl, refl)

pub numbers_in_names : RunsAs scripts.numbers_in_names
    (codes "function f(x, y) { if (x < y) return x; y = x = x * 2; return y } BEGIN { print f(3, 5), f(7), f(\"10\", " ++
    codes "9), f() \".\" ; n = -n; n += !m; print n, n++ + ++n, n-- }")
    no_job no_input empty 40 (Ended 0 (puts Standard (codes "3 14 10 0.\n1 4 3\n")))
unfolding computed
numbers_in_names = (refl, refl)

pub text_in_a_number : RunsAs scripts.text_in_a_number
    (codes "BEGIN { print n < 10, n < \"10\", n == 9; n = n + 1; print n < 10 }")
    (assigns ((codes "n", codes "9") ∷ [])) no_input empty 40 (Ended 0 (puts Standard (codes "1 0 1\n0\n")))
unfolding computed
text_in_a_number = (refl, refl)

pub rest_of_a_file : RunsAs scripts.rest_of_a_file
    (codes "FNR == 2 { nextfile } { print FILENAME, $0 }")
    (operands (codes "f" ∷ codes "g" ∷ [])) no_input two_files 40 (Ended 0 (puts Standard (codes "f p\ng s\n")))
unfolding computed
rest_of_a_file = (refl, refl)

pub file_left_among_operands : RunsAs scripts.file_left_among_operands
    (codes "function h(x) { if (x == \"q\") nextfile; return x } { print FNR, h($0), NR }")
    (operands (codes "f" ∷ codes "g" ∷ [])) no_input two_files 40 (Ended 0 (puts Standard (codes "1 p 1\n1 s 3\n")))
unfolding computed
file_left_among_operands = (refl, refl)

pub file_left_in_a_loop : RunsAs scripts.file_left_in_a_loop
    (codes "{ print; while (1) { n++; if (n > 2) nextfile } } END { print n, NR }")
    (operands (codes "f" ∷ codes "g" ∷ [])) no_input two_files 40 (Ended 0 (puts Standard (codes "p\ns\n4 2\n")))
unfolding computed
file_left_in_a_loop = (refl, refl)

pub file_left_in_a_walk : RunsAs scripts.file_left_in_a_walk
    (codes "BEGIN { a[1]; a[2]; a[3] } { for (k in a) { n++; if (k > 1) nextfile } } END { print n, NR }")
    (operands (codes "f" ∷ codes "g" ∷ [])) no_input two_files 40 (Ended 0 (puts Standard (codes "4 2\n")))
unfolding computed
file_left_in_a_walk = (refl, refl)

pub file_left_in_a_range : RunsAs scripts.file_left_in_a_range
    (codes "/q/, /s/ { print \"r\", $0; nextfile } { print $0 }")
    (operands (codes "f" ∷ codes "g" ∷ [])) no_input two_files 40 (Ended 0 (puts Standard (codes "p\nr q\nr s\n")))
unfolding computed
file_left_in_a_range = (refl, refl)

pub nextfile_outside : RunsAs scripts.nextfile_outside
    (codes "function h() { nextfile } BEGIN { h() }")
    no_job no_input empty 40 (FaultedBy NextOutside [])
unfolding computed
nextfile_outside = (refl, refl)

pub failing_rest_given_up : RunsAs scripts.failing_rest_given_up
    (codes "{ nextfile }")
    no_job (failing (codes "a\n")) empty 40 (Ended 0 [])
unfolding computed
failing_rest_given_up = (refl, refl)

pub standard_input_given_up : RunsAs scripts.standard_input_given_up
    (codes "NR == 2 { nextfile } { print FILENAME $0 }")
    (operands (codes "-" ∷ codes "-" ∷ codes "g" ∷ [])) (failing (codes "a\nb\nc\n")) two_files 40
    (Ended 0 (puts Standard (codes "-a\ngs\n")))
unfolding computed
standard_input_given_up = (refl, refl)

pub emptied_in_a_walk : RunsAs scripts.emptied_in_a_walk
    (codes "BEGIN { a[\"x\"]; a[\"y\"]; for (k in a) { delete a; n++ }; print n, (\"x\" in a) }")
    no_job no_input empty 40 (Ended 0 (puts Standard (codes "2 0\n")))
unfolding computed
emptied_in_a_walk = (refl, refl)

pub emptied_and_refilled : RunsAs scripts.emptied_and_refilled
    (codes "BEGIN { a[\"x\"] = 1; a[\"y\"] = 2; for (k in a) { s = s k; delete a; a[\"w\" k] = k }; for (k in a) t = " ++
    codes "t k; print s, t, a[\"x\"] \".\" }")
    no_job no_input empty 40 (Ended 0 (puts Standard (codes "xy wy .\n")))
unfolding computed
emptied_and_refilled = (refl, refl)

pub emptied_parameter : RunsAs scripts.emptied_parameter
    (codes "function e(p) { delete p; p[\"n\"] = 1 } BEGIN { a[\"x\"] = 1; b[\"x\"] = 2; e(a); for (k in a) print k, " ++
    codes "a[k]; print (\"x\" in a), b[\"x\"] }")
    no_job no_input empty 40 (Ended 0 (puts Standard (codes "n 1\n0 2\n")))
unfolding computed
emptied_parameter = (refl, refl)

pub emptied_operands : RunsAs scripts.emptied_operands
    (codes "FNR == 1 { delete ARGV; ARGV[2] = \"g\" } { print FILENAME $0 }")
    (operands (codes "f" ∷ codes "h" ∷ [])) no_input two_files 40 (Ended 0 (puts Standard (codes "fp\nfq\nfr\ngs\n")))
unfolding computed
emptied_operands = (refl, refl)

pub flushed : RunsAs scripts.flushed
    (codes "BEGIN { print \"x\" > \"f\"; print fflush(\"f\"), fflush(\"g\"), fflush() }")
    no_job no_input empty 40 (Ended 0 ((Open (codes "f") false ∷ []) ++ (puts (Named (codes "f")) (codes "x\n") ++ (puts Standard (codes "0 -1 0\n")))))
unfolding computed
flushed = (refl, refl)

pub reader_not_flushed : RunsAs scripts.reader_not_flushed
    (codes "BEGIN { print (getline x < \"f\"), fflush(\"f\"); print x >> \"f\"; print fflush(\"f\"), close(\"f\"), " ++
    codes "fflush(\"f\"), fflush(\"\") }")
    no_job no_input (with_file (codes "f") (codes "a\n") End empty) 40
    (Ended 0 (puts Standard (codes "1 -1\n") ++ ((Open (codes "f") true ∷ [])
    ++ (puts (Named (codes "f")) (codes "a\n") ++ (puts Standard (codes "0 0 -1 0\n"))))))
unfolding computed
reader_not_flushed = (refl, refl)
