-- Runs of modules on the machine over values: of yet more scripts.
use Rattle.std.specs.Prelude.{◌≡◌, ℕ, true, false, List, [], ◌∷◌, ◌++◌, codes, Some, None, refl}
use Rattle.std.specs.Fmt.{digits}
use Rattle.awk_text.specs.Reading.{numeral_at, sign_at, fraction_at, exponent_at}
use Rattle.awk_text.specs.Number.{numerator, denominator}
use Rattle.awk_text.specs.Escapes.{unescaped, escaped, octal}
use Rattle.awk_tokens.specs.Words.{keywords, builtins, left_out_words}
use Rattle.ere_syntax.specs.Scan.{table}
use Rattle.ere_syntax.specs.Readers.{sign_of}
use Rattle.awk_values.specs.declared.fault.Fault.TheVariants.{Range, Fraction, FieldNumber, Format, BadEre, WriteFailed}
use Rattle.world_core.specs.WorldState.{Standard, Named, Outside, Source, absent, replaced, Open, puts}
use Rattle.world_core.specs.declared.world.Ending.{Ending}
use Rattle.world_core.specs.declared.world.Ending.TheVariants.{End}
use Rattle.sem_primitives.specs.Jobs.{JobForm}
use Rattle.awk_grammar.specs.Kinds.{special_arrays, special_scalars}
use Rattle.sem_scripts.specs.Kinds.{resolved}
use Rattle.sem_scripts.specs.ScriptRun.{Ended, FaultedBy, setting_of}
use Rattle.mid_program.specs.Texts.{texts_in, all_texts, stmt_texts, stmts_texts}
use Rattle.mid_program.specs.Translation.{code_of, codes_of, key_code, kept_code, argument_codes, truncated_code, applied_code, step_code, steps_code, program_of}
use Rattle.test_parts.specs.Scripts as scripts
use Rattle.lower_model.specs.Emission.{emitted, all_emitted}
use Rattle.lower_model.specs.Statements.{step_emitted, steps_emitted}
use Rattle.lower_model.specs.Runs.{value_run}

abbrev no_job : JobForm
no_job = record { operands = []; assigns = []; environment = [] }

abbrev no_input : Source
no_input = record { rest = []; ending = End }

abbrev empty : Outside
empty = λ target. absent

-- where standard output has room for so many bytes
abbrev narrow : ℕ → Outside
narrow room = replaced Standard (record { bytes = Some []; ending = End; room = Some room; opens = true }) empty

abbrev with_file : List ℕ → List ℕ → Ending → Outside → Outside
with_file name bytes ending outside = replaced (Named name) (record { bytes = Some bytes; ending = ending; room = None; opens = true }) outside

abbrev without_opening : List ℕ → Outside → Outside
without_opening name outside = replaced (Named name) (record { bytes = Some []; ending = End; room = None; opens = false }) outside

-- where a name holds bytes and has room for so many
abbrev with_room : List ℕ → List ℕ → ℕ → Outside → Outside
with_room name bytes room outside = replaced (Named name) (record { bytes = Some bytes; ending = End; room = Some room; opens = true }) outside

-- BEGIN{print "x">"f";getline y<"f";print y,close("f"),close("f")}
pub written_then_read : value_run (program_of (resolved scripts.written_then_read)) (setting_of no_job no_input empty) 4000
    ≡ Some (Ended 0 ((Open (codes "f") false ∷ []) ++ (puts (Named (codes "f")) (codes "x\n") ++ (puts Standard (codes "x 0 -1\n")))))
unfolding special_arrays special_scalars emitted all_emitted step_emitted steps_emitted texts_in all_texts stmt_texts stmts_texts code_of codes_of key_code kept_code argument_codes truncated_code applied_code step_code steps_code numeral_at sign_at fraction_at exponent_at numerator denominator digits unescaped escaped octal keywords builtins left_out_words table sign_of
written_then_read = refl

-- BEGIN{print "abc">>"f"}
pub appended_past_room : value_run (program_of (resolved scripts.appended_past_room))
    (setting_of no_job no_input (with_room (codes "f") (codes "xy") 4 empty)) 4000
    ≡ Some (FaultedBy WriteFailed ((Open (codes "f") true ∷ []) ++ (puts (Named (codes "f")) (codes "ab"))))
unfolding special_arrays special_scalars emitted all_emitted step_emitted steps_emitted texts_in all_texts stmt_texts stmts_texts code_of codes_of key_code kept_code argument_codes truncated_code applied_code step_code steps_code numeral_at sign_at fraction_at exponent_at numerator denominator digits unescaped escaped octal keywords builtins left_out_words table sign_of
appended_past_room = refl

-- BEGIN{print "abc">"f"}
pub emptied_then_past_room : value_run (program_of (resolved scripts.emptied_then_past_room))
    (setting_of no_job no_input (with_room (codes "f") (codes "xyzxyz") 3 empty)) 4000
    ≡ Some (FaultedBy WriteFailed ((Open (codes "f") false ∷ []) ++ (puts (Named (codes "f")) (codes "abc"))))
unfolding special_arrays special_scalars emitted all_emitted step_emitted steps_emitted texts_in all_texts stmt_texts stmts_texts code_of codes_of key_code kept_code argument_codes truncated_code applied_code step_code steps_code numeral_at sign_at fraction_at exponent_at numerator denominator digits unescaped escaped octal keywords builtins left_out_words table sign_of
emptied_then_past_room = refl

-- BEGIN{$0="a b c";$2=u;print NF,$0;print ($2==0),($2=="");$0=$0;print NF,($2==0)}
pub uninitialised_field : value_run (program_of (resolved scripts.uninitialised_field)) (setting_of no_job no_input empty) 4000
    ≡ Some (Ended 0 (puts Standard (codes "3 a  c\n1 1\n2 0\n")))
unfolding special_arrays special_scalars emitted all_emitted step_emitted steps_emitted texts_in all_texts stmt_texts stmts_texts code_of codes_of key_code kept_code argument_codes truncated_code applied_code step_code steps_code numeral_at sign_at fraction_at exponent_at numerator denominator digits unescaped escaped octal keywords builtins left_out_words table sign_of
uninitialised_field = refl

-- BEGIN{$0="a b c";NF=1;NF=3;print ($2==0),($2==""),$0 "."}
pub count_lowered_and_raised : value_run (program_of (resolved scripts.count_lowered_and_raised)) (setting_of no_job no_input empty) 4000
    ≡ Some (Ended 0 (puts Standard (codes "1 1 a  .\n")))
unfolding special_arrays special_scalars emitted all_emitted step_emitted steps_emitted texts_in all_texts stmt_texts stmts_texts code_of codes_of key_code kept_code argument_codes truncated_code applied_code step_code steps_code numeral_at sign_at fraction_at exponent_at numerator denominator digits unescaped escaped octal keywords builtins left_out_words table sign_of
count_lowered_and_raised = refl

-- BEGIN{print $0}
pub count_on_command_line : value_run (program_of (resolved scripts.count_on_command_line))
    (setting_of (record {
      operands = [];
      assigns = (((codes "OFS"), (codes "-")) ∷ ((codes "NF"), (codes "3"))
          ∷ []);
      environment = [];
    }) no_input empty) 4000 ≡ Some (Ended 0 (puts Standard (codes "--\n")))
unfolding special_arrays special_scalars emitted all_emitted step_emitted steps_emitted texts_in all_texts stmt_texts stmts_texts code_of codes_of key_code kept_code argument_codes truncated_code applied_code step_code steps_code numeral_at sign_at fraction_at exponent_at numerator denominator digits unescaped escaped octal keywords builtins left_out_words table sign_of
count_on_command_line = refl

-- BEGIN{print $0}
pub count_below_zero_on_command_line : value_run (program_of (resolved scripts.count_below_zero_on_command_line))
    (setting_of (record { operands = []; assigns = (((codes "NF"), (codes "-1")) ∷ []); environment = [] }) no_input empty) 4000
    ≡ Some (FaultedBy FieldNumber [])
unfolding special_arrays special_scalars emitted all_emitted step_emitted steps_emitted texts_in all_texts stmt_texts stmts_texts code_of codes_of key_code kept_code argument_codes truncated_code applied_code step_code steps_code numeral_at sign_at fraction_at exponent_at numerator denominator digits unescaped escaped octal keywords builtins left_out_words table sign_of
count_below_zero_on_command_line = refl

-- BEGIN{OFS="-";$0="a b";NF=NF;OFS="+";print;$3="c";print}
pub rebuilt_with_separator : value_run (program_of (resolved scripts.rebuilt_with_separator)) (setting_of no_job no_input empty) 4000
    ≡ Some (Ended 0 (puts Standard (codes "a-b\na+b+c\n")))
unfolding special_arrays special_scalars emitted all_emitted step_emitted steps_emitted texts_in all_texts stmt_texts stmts_texts code_of codes_of key_code kept_code argument_codes truncated_code applied_code step_code steps_code numeral_at sign_at fraction_at exponent_at numerator denominator digits unescaped escaped octal keywords builtins left_out_words table sign_of
rebuilt_with_separator = refl

-- BEGIN{FS=u;$0="a b";print NF;FS=1;$0="a1b";print NF}
pub separator_without_value : value_run (program_of (resolved scripts.separator_without_value)) (setting_of no_job no_input empty) 4000
    ≡ Some (Ended 0 (puts Standard (codes "3\n2\n")))
unfolding special_arrays special_scalars emitted all_emitted step_emitted steps_emitted texts_in all_texts stmt_texts stmts_texts code_of codes_of key_code kept_code argument_codes truncated_code applied_code step_code steps_code numeral_at sign_at fraction_at exponent_at numerator denominator digits unescaped escaped octal keywords builtins left_out_words table sign_of
separator_without_value = refl

-- BEGIN{RS="";FS="\t"}{print NF}
pub tab_and_newline : value_run (program_of (resolved scripts.tab_and_newline)) (setting_of no_job (record {
  rest = (97 ∷ 9 ∷ 98 ∷ 10 ∷ 99
      ∷ []);
  ending = End;
}) empty) 4000 ≡ Some (Ended 0 (puts Standard (codes "3\n")))
unfolding special_arrays special_scalars emitted all_emitted step_emitted steps_emitted texts_in all_texts stmt_texts stmts_texts code_of codes_of key_code kept_code argument_codes truncated_code applied_code step_code steps_code numeral_at sign_at fraction_at exponent_at numerator denominator digits unescaped escaped octal keywords builtins left_out_words table sign_of
tab_and_newline = refl

-- BEGIN{RS="";FS="b*"}{print NF,"[" $2 "]"}
pub expression_and_newline : value_run (program_of (resolved scripts.expression_and_newline))
    (setting_of no_job (record { rest = (codes "abb\nc"); ending = End }) empty) 4000 ≡ Some (Ended 0 (puts Standard (codes "3 []\n")))
unfolding special_arrays special_scalars emitted all_emitted step_emitted steps_emitted texts_in all_texts stmt_texts stmts_texts code_of codes_of key_code kept_code argument_codes truncated_code applied_code step_code steps_code numeral_at sign_at fraction_at exponent_at numerator denominator digits unescaped escaped octal keywords builtins left_out_words table sign_of
expression_and_newline = refl

-- BEGIN{RS="";print split("a\nb,c",p,","),split("abc",p,/./),split("abc",p,//),split("a.b",p,".")}
pub split_ignores_newline : value_run (program_of (resolved scripts.split_ignores_newline)) (setting_of no_job no_input empty) 4000
    ≡ Some (Ended 0 (puts Standard (codes "2 4 1 2\n")))
unfolding special_arrays special_scalars emitted all_emitted step_emitted steps_emitted texts_in all_texts stmt_texts stmts_texts code_of codes_of key_code kept_code argument_codes truncated_code applied_code step_code steps_code numeral_at sign_at fraction_at exponent_at numerator denominator digits unescaped escaped octal keywords builtins left_out_words table sign_of
split_ignores_newline = refl

-- BEGIN{a["x"]="p q";print split(a["x"],a),("x" in a),a[2]}
pub split_of_its_own_element : value_run (program_of (resolved scripts.split_of_its_own_element)) (setting_of no_job no_input empty) 4000
    ≡ Some (Ended 0 (puts Standard (codes "2 0 q\n")))
unfolding special_arrays special_scalars emitted all_emitted step_emitted steps_emitted texts_in all_texts stmt_texts stmts_texts code_of codes_of key_code kept_code argument_codes truncated_code applied_code step_code steps_code numeral_at sign_at fraction_at exponent_at numerator denominator digits unescaped escaped octal keywords builtins left_out_words table sign_of
split_of_its_own_element = refl

-- BEGIN{FS="((";print (getline x<"f");print (getline<"f")}
pub bad_separator_unused : value_run (program_of (resolved scripts.bad_separator_unused))
    (setting_of no_job no_input (with_file (codes "f") (codes "p q\nr\n") End empty)) 4000 ≡ Some (FaultedBy BadEre (puts Standard (codes "1\n")))
unfolding special_arrays special_scalars emitted all_emitted step_emitted steps_emitted texts_in all_texts stmt_texts stmts_texts code_of codes_of key_code kept_code argument_codes truncated_code applied_code step_code steps_code numeral_at sign_at fraction_at exponent_at numerator denominator digits unescaped escaped octal keywords builtins left_out_words table sign_of
bad_separator_unused = refl

-- BEGIN{s="aaa";print gsub(/x*$/,"-",s),s;s="";print gsub(/x*/,"-",s),s;s="abcX";print gsub(/^/,">",s),s}
pub empty_match_at_the_end : value_run (program_of (resolved scripts.empty_match_at_the_end)) (setting_of no_job no_input empty) 4000
    ≡ Some (Ended 0 (puts Standard (codes "1 aaa-\n1 -\n1 >abcX\n")))
unfolding special_arrays special_scalars emitted all_emitted step_emitted steps_emitted texts_in all_texts stmt_texts stmts_texts code_of codes_of key_code kept_code argument_codes truncated_code applied_code step_code steps_code numeral_at sign_at fraction_at exponent_at numerator denominator digits unescaped escaped octal keywords builtins left_out_words table sign_of
empty_match_at_the_end = refl

-- BEGIN{print match("aXb","X*$"),RLENGTH,match("",/^$/),RLENGTH}
pub matches_that_are_empty : value_run (program_of (resolved scripts.matches_that_are_empty)) (setting_of no_job no_input empty) 4000
    ≡ Some (Ended 0 (puts Standard (codes "4 0 1 0\n")))
unfolding special_arrays special_scalars emitted all_emitted step_emitted steps_emitted texts_in all_texts stmt_texts stmts_texts code_of codes_of key_code kept_code argument_codes truncated_code applied_code step_code steps_code numeral_at sign_at fraction_at exponent_at numerator denominator digits unescaped escaped octal keywords builtins left_out_words table sign_of
matches_that_are_empty = refl

-- BEGIN{print "[" substr("hello",-2^53,2^53) "]",substr("hello",2,2^53)}
pub parts_far_out : value_run (program_of (resolved scripts.parts_far_out)) (setting_of no_job no_input empty) 4000
    ≡ Some (Ended 0 (puts Standard (codes "[] ello\n")))
unfolding special_arrays special_scalars emitted all_emitted step_emitted steps_emitted texts_in all_texts stmt_texts stmts_texts code_of codes_of key_code kept_code argument_codes truncated_code applied_code step_code steps_code numeral_at sign_at fraction_at exponent_at numerator denominator digits unescaped escaped octal keywords builtins left_out_words table sign_of
parts_far_out = refl

-- BEGIN{printf "[%-05d][%+.0d][%05.1f][%#.0x][%#05o][% 05d][%.s]\n",-3,0,-2,0,8,42,"ab"}
pub formats_of_numbers : value_run (program_of (resolved scripts.formats_of_numbers)) (setting_of no_job no_input empty) 4000
    ≡ Some (Ended 0 (puts Standard (codes "[-3   ][+][-02.0][][00010][ 0042][]\n")))
unfolding special_arrays special_scalars emitted all_emitted step_emitted steps_emitted texts_in all_texts stmt_texts stmts_texts code_of codes_of key_code kept_code argument_codes truncated_code applied_code step_code steps_code numeral_at sign_at fraction_at exponent_at numerator denominator digits unescaped escaped octal keywords builtins left_out_words table sign_of
formats_of_numbers = refl

-- BEGIN{printf "%d%q","1e99"}
pub range_before_format : value_run (program_of (resolved scripts.range_before_format)) (setting_of no_job no_input empty) 4000 ≡ Some (FaultedBy Range [])
unfolding special_arrays special_scalars emitted all_emitted step_emitted steps_emitted texts_in all_texts stmt_texts stmts_texts code_of codes_of key_code kept_code argument_codes truncated_code applied_code step_code steps_code numeral_at sign_at fraction_at exponent_at numerator denominator digits unescaped escaped octal keywords builtins left_out_words table sign_of
range_before_format = refl

-- BEGIN{printf "%.5-d",1}
pub misplaced_flag : value_run (program_of (resolved scripts.misplaced_flag)) (setting_of no_job no_input empty) 4000 ≡ Some (FaultedBy Format [])
unfolding special_arrays special_scalars emitted all_emitted step_emitted steps_emitted texts_in all_texts stmt_texts stmts_texts code_of codes_of key_code kept_code argument_codes truncated_code applied_code step_code steps_code numeral_at sign_at fraction_at exponent_at numerator denominator digits unescaped escaped octal keywords builtins left_out_words table sign_of
misplaced_flag = refl

-- BEGIN{printf "[%c][%.0c]",65,"q"}
pub bytes_formatted : value_run (program_of (resolved scripts.bytes_formatted)) (setting_of no_job no_input empty) 4000
    ≡ Some (Ended 0 (puts Standard (codes "[A][q]")))
unfolding special_arrays special_scalars emitted all_emitted step_emitted steps_emitted texts_in all_texts stmt_texts stmts_texts code_of codes_of key_code kept_code argument_codes truncated_code applied_code step_code steps_code numeral_at sign_at fraction_at exponent_at numerator denominator digits unescaped escaped octal keywords builtins left_out_words table sign_of
bytes_formatted = refl

-- BEGIN { getline a["k"] < "no"; x = 1; print x, ("k" in a); sub(/q/, "z", b["y"]); print ("y" in b) }
pub unused_first : value_run (program_of (resolved scripts.unused_first)) (setting_of no_job no_input empty) 4000
    ≡ Some (Ended 0 (puts Standard (codes "1 0\n1\n")))
unfolding special_arrays special_scalars emitted all_emitted step_emitted steps_emitted texts_in all_texts stmt_texts stmts_texts code_of codes_of key_code kept_code argument_codes truncated_code applied_code step_code steps_code numeral_at sign_at fraction_at exponent_at numerator denominator digits unescaped escaped octal keywords builtins left_out_words table sign_of
unused_first = refl

-- BEGIN { a["x"]; a["y"]; for (k in a) { print k; delete a["y"] }; print ("y" in a) }
pub keys_deleted_on_the_way : value_run (program_of (resolved scripts.keys_deleted_on_the_way)) (setting_of no_job no_input empty) 4000
    ≡ Some (Ended 0 (puts Standard (codes "x\ny\n0\n")))
unfolding special_arrays special_scalars emitted all_emitted step_emitted steps_emitted texts_in all_texts stmt_texts stmts_texts code_of codes_of key_code kept_code argument_codes truncated_code applied_code step_code steps_code numeral_at sign_at fraction_at exponent_at numerator denominator digits unescaped escaped octal keywords builtins left_out_words table sign_of
keys_deleted_on_the_way = refl

-- BEGIN { do {  n++ }  while (n < 3)  print n }
pub do_while_counts : value_run (program_of (resolved scripts.do_while_counts)) (setting_of no_job no_input empty) 4000
    ≡ Some (Ended 0 (puts Standard (codes "3\n")))
unfolding special_arrays special_scalars emitted all_emitted step_emitted steps_emitted texts_in all_texts stmt_texts stmts_texts code_of codes_of key_code kept_code argument_codes truncated_code applied_code step_code steps_code numeral_at sign_at fraction_at exponent_at numerator denominator digits unescaped escaped octal keywords builtins left_out_words table sign_of
do_while_counts = refl

-- BEGIN { print n; print n + 1 }
pub fraction_from_command_line : value_run (program_of (resolved scripts.fraction_from_command_line))
    (setting_of (record { operands = []; assigns = (((codes "n"), (codes "0.5")) ∷ []); environment = [] }) no_input empty) 4000
    ≡ Some (FaultedBy Fraction (puts Standard (codes "0.5\n")))
unfolding special_arrays special_scalars emitted all_emitted step_emitted steps_emitted texts_in all_texts stmt_texts stmts_texts code_of codes_of key_code kept_code argument_codes truncated_code applied_code step_code steps_code numeral_at sign_at fraction_at exponent_at numerator denominator digits unescaped escaped octal keywords builtins left_out_words table sign_of
fraction_from_command_line = refl

-- { n++; print n }
pub count_across_an_assignment : value_run (program_of (resolved scripts.count_across_an_assignment)) (setting_of (record {
  operands = ((codes "f")
      ∷ (codes "n=07") ∷ (codes "g") ∷ []);
  assigns = [];
  environment = [];
}) no_input
    (with_file (codes "g") (codes "b\n") End (with_file (codes "f") (codes "a\n") End empty))) 4000 ≡ Some (Ended 0 (puts Standard (codes "1\n8\n")))
unfolding special_arrays special_scalars emitted all_emitted step_emitted steps_emitted texts_in all_texts stmt_texts stmts_texts code_of codes_of key_code kept_code argument_codes truncated_code applied_code step_code steps_code numeral_at sign_at fraction_at exponent_at numerator denominator digits unescaped escaped octal keywords builtins left_out_words table sign_of
count_across_an_assignment = refl

-- BEGIN { if (0) print 1/0; print 2^3*4 }
pub fault_not_reached : value_run (program_of (resolved scripts.fault_not_reached)) (setting_of no_job no_input empty) 4000
    ≡ Some (Ended 0 (puts Standard (codes "32\n")))
unfolding special_arrays special_scalars emitted all_emitted step_emitted steps_emitted texts_in all_texts stmt_texts stmts_texts code_of codes_of key_code kept_code argument_codes truncated_code applied_code step_code steps_code numeral_at sign_at fraction_at exponent_at numerator denominator digits unescaped escaped octal keywords builtins left_out_words table sign_of
fault_not_reached = refl

-- BEGIN { n = 2^53; n++; print "no" }
pub step_past_range : value_run (program_of (resolved scripts.step_past_range)) (setting_of no_job no_input empty) 4000 ≡ Some (FaultedBy Range [])
unfolding special_arrays special_scalars emitted all_emitted step_emitted steps_emitted texts_in all_texts stmt_texts stmts_texts code_of codes_of key_code kept_code argument_codes truncated_code applied_code step_code steps_code numeral_at sign_at fraction_at exponent_at numerator denominator digits unescaped escaped octal keywords builtins left_out_words table sign_of
step_past_range = refl

-- BEGIN { while (n < 10) n = n + 1; print n }
pub loop_on_numbers : value_run (program_of (resolved scripts.loop_on_numbers)) (setting_of no_job no_input empty) 4000
    ≡ Some (Ended 0 (puts Standard (codes "10\n")))
unfolding special_arrays special_scalars emitted all_emitted step_emitted steps_emitted texts_in all_texts stmt_texts stmts_texts code_of codes_of key_code kept_code argument_codes truncated_code applied_code step_code steps_code numeral_at sign_at fraction_at exponent_at numerator denominator digits unescaped escaped octal keywords builtins left_out_words table sign_of
loop_on_numbers = refl

-- BEGIN { while (n < 3) n = n + 1; print n }
pub turns_just_enough : value_run (program_of (resolved scripts.turns_just_enough)) (setting_of no_job no_input empty) 4000
    ≡ Some (Ended 0 (puts Standard (codes "3\n")))
unfolding special_arrays special_scalars emitted all_emitted step_emitted steps_emitted texts_in all_texts stmt_texts stmts_texts code_of codes_of key_code kept_code argument_codes truncated_code applied_code step_code steps_code numeral_at sign_at fraction_at exponent_at numerator denominator digits unescaped escaped octal keywords builtins left_out_words table sign_of
turns_just_enough = refl

-- function f(x, y) { if (x < y) return x; y = x = x * 2; return y } BEGIN { print f(3, 5), f(7), f("10", 9), f() "." ; n = -n; n += !m; print n, n++
-- + ++n, n-- }
pub numbers_in_names : value_run (program_of (resolved scripts.numbers_in_names)) (setting_of no_job no_input empty) 4000
    ≡ Some (Ended 0 (puts Standard (codes "3 14 10 0.\n1 4 3\n")))
unfolding special_arrays special_scalars emitted all_emitted step_emitted steps_emitted texts_in all_texts stmt_texts stmts_texts code_of codes_of key_code kept_code argument_codes truncated_code applied_code step_code steps_code numeral_at sign_at fraction_at exponent_at numerator denominator digits unescaped escaped octal keywords builtins left_out_words table sign_of
numbers_in_names = refl

-- BEGIN { print n < 10, n < "10", n == 9; n = n + 1; print n < 10 }
pub text_in_a_number : value_run (program_of (resolved scripts.text_in_a_number)) (setting_of (record {
  operands = [];
  assigns = ((
    (codes "n"),
    (codes "9"),
  ) ∷ []);
  environment = [];
}) no_input empty) 4000 ≡ Some (Ended 0 (puts Standard (codes "1 0 1\n0\n")))
unfolding special_arrays special_scalars emitted all_emitted step_emitted steps_emitted texts_in all_texts stmt_texts stmts_texts code_of codes_of key_code kept_code argument_codes truncated_code applied_code step_code steps_code numeral_at sign_at fraction_at exponent_at numerator denominator digits unescaped escaped octal keywords builtins left_out_words table sign_of
text_in_a_number = refl
