-- Runs of modules on the machine over values: of more scripts.
use Rattle.std.specs.Prelude.{◌≡◌, ℕ, true, false, List, [], ◌∷◌, codes, Some, None, refl}
use Rattle.std.specs.Fmt.{digits}
use Rattle.awk_text.specs.Reading.{numeral_at, sign_at, fraction_at, exponent_at}
use Rattle.awk_text.specs.Number.{numerator, denominator}
use Rattle.awk_text.specs.Escapes.{unescaped, escaped, octal}
use Rattle.awk_tokens.specs.Words.{keywords, builtins, left_out_words}
use Rattle.ere_syntax.specs.Scan.{table}
use Rattle.ere_syntax.specs.Readers.{sign_of}
use Rattle.awk_values.specs.declared.fault.Fault.TheVariants.{Fraction, Inexact, FieldNumber, Format, ReadFailed, NextOutside, BadAssignment}
use Rattle.world_core.specs.WorldState.{Standard, Named, Outside, Source, absent, replaced, puts}
use Rattle.world_core.specs.declared.world.Ending.{Ending}
use Rattle.world_core.specs.declared.world.Ending.TheVariants.{End, Fails}
use Rattle.sem_primitives.specs.Jobs.{JobForm}
use Rattle.awk_grammar.specs.Kinds.{special_arrays, special_scalars}
use Rattle.sem_scripts.specs.Kinds.{resolved}
use Rattle.sem_scripts.specs.ScriptRun.{Ended, FaultedBy, setting_of}
use Rattle.mid_program.specs.Texts.{texts_in, all_texts, stmt_texts, stmts_texts}
use Rattle.mid_program.specs.Translation.{code_of, codes_of, key_code, kept_code, argument_codes, truncated_code, applied_code, step_code, steps_code, program_of}
use Rattle.test_parts.specs.Scripts as scripts
use Rattle.lower_model.specs.Emission.{emitted, all_emitted}
use Rattle.lower_model.specs.Statements.{step_emitted, steps_emitted}
use Rattle.lower_model.specs.Runs.{value_run}

abbrev no_job : JobForm
no_job = record { operands = []; assigns = []; environment = [] }

abbrev no_input : Source
no_input = record { rest = []; ending = End }

abbrev empty : Outside
empty = λ target. absent

-- where standard output has room for so many bytes
abbrev narrow : ℕ → Outside
narrow room = replaced Standard (record { bytes = Some []; ending = End; room = Some room; opens = true }) empty

abbrev with_file : List ℕ → List ℕ → Ending → Outside → Outside
with_file name bytes ending outside = replaced (Named name) (record { bytes = Some bytes; ending = ending; room = None; opens = true }) outside

abbrev without_opening : List ℕ → Outside → Outside
without_opening name outside = replaced (Named name) (record { bytes = Some []; ending = End; room = None; opens = false }) outside

-- where a name holds bytes and has room for so many
abbrev with_room : List ℕ → List ℕ → ℕ → Outside → Outside
with_room name bytes room outside = replaced (Named name) (record { bytes = Some bytes; ending = End; room = Some room; opens = true }) outside

-- function f() { x = 5; return 1 } BEGIN { x = 1; print x + f(), x; x = 1; print x f() x; x = 1; x += f(); print x }
pub name_read_when_met : value_run (program_of (resolved scripts.name_read_when_met)) (setting_of no_job no_input empty) 4000
    ≡ Some (Ended 0 (puts Standard (codes "2 5\n115\n6\n")))
unfolding special_arrays special_scalars emitted all_emitted step_emitted steps_emitted texts_in all_texts stmt_texts stmts_texts code_of codes_of key_code kept_code argument_codes truncated_code applied_code step_code steps_code numeral_at sign_at fraction_at exponent_at numerator denominator digits unescaped escaped octal keywords builtins left_out_words table sign_of
name_read_when_met = refl

-- { print $1, (getline), $1, NF, NR }
pub getline_among_operands : value_run (program_of (resolved scripts.getline_among_operands))
    (setting_of no_job (record { rest = (codes "a b\nc\n"); ending = End }) empty) 4000 ≡ Some (Ended 0 (puts Standard (codes "a 1 c 1 2\n")))
unfolding special_arrays special_scalars emitted all_emitted step_emitted steps_emitted texts_in all_texts stmt_texts stmts_texts code_of codes_of key_code kept_code argument_codes truncated_code applied_code step_code steps_code numeral_at sign_at fraction_at exponent_at numerator denominator digits unescaped escaped octal keywords builtins left_out_words table sign_of
getline_among_operands = refl

-- BEGIN { print (NF = "02"), NF, ($0 = 5) + 1, $1, NF }
pub value_of_special_assignment : value_run (program_of (resolved scripts.value_of_special_assignment)) (setting_of no_job no_input empty) 4000
    ≡ Some (Ended 0 (puts Standard (codes "02 2 6 5 1\n")))
unfolding special_arrays special_scalars emitted all_emitted step_emitted steps_emitted texts_in all_texts stmt_texts stmts_texts code_of codes_of key_code kept_code argument_codes truncated_code applied_code step_code steps_code numeral_at sign_at fraction_at exponent_at numerator denominator digits unescaped escaped octal keywords builtins left_out_words table sign_of
value_of_special_assignment = refl

-- BEGIN { a[3]; a["x"]; $0 = "p q"; for (NF in a) print NF, $0 "." }
pub count_as_key : value_run (program_of (resolved scripts.count_as_key)) (setting_of no_job no_input empty) 4000
    ≡ Some (Ended 0 (puts Standard (codes "3 p q .\n0 .\n")))
unfolding special_arrays special_scalars emitted all_emitted step_emitted steps_emitted texts_in all_texts stmt_texts stmts_texts code_of codes_of key_code kept_code argument_codes truncated_code applied_code step_code steps_code numeral_at sign_at fraction_at exponent_at numerator denominator digits unescaped escaped octal keywords builtins left_out_words table sign_of
count_as_key = refl

-- BEGIN { a["-1"]; for (NF in a) print "no" }
pub key_below_zero_as_count : value_run (program_of (resolved scripts.key_below_zero_as_count)) (setting_of no_job no_input empty) 4000
    ≡ Some (FaultedBy FieldNumber [])
unfolding special_arrays special_scalars emitted all_emitted step_emitted steps_emitted texts_in all_texts stmt_texts stmts_texts code_of codes_of key_code kept_code argument_codes truncated_code applied_code step_code steps_code numeral_at sign_at fraction_at exponent_at numerator denominator digits unescaped escaped octal keywords builtins left_out_words table sign_of
key_below_zero_as_count = refl

-- BEGIN { x = 2; x ^= x += 1; print x; a["i"] -= a["j"]--; for (k in a) print k a[k]; $2 *= 4; $3 %= NF; print NF $0 }
pub operators_with_assignment : value_run (program_of (resolved scripts.operators_with_assignment)) (setting_of no_job no_input empty) 4000
    ≡ Some (Ended 0 (puts Standard (codes "27\nj-1\ni0\n3 0 0\n")))
unfolding special_arrays special_scalars emitted all_emitted step_emitted steps_emitted texts_in all_texts stmt_texts stmts_texts code_of codes_of key_code kept_code argument_codes truncated_code applied_code step_code steps_code numeral_at sign_at fraction_at exponent_at numerator denominator digits unescaped escaped octal keywords builtins left_out_words table sign_of
operators_with_assignment = refl

-- BEGIN { i = 2; $0 = "1 5 c"; print $i++, $2, i, ++$i, $0, $(i++) = i, $0, i }
pub steps_in_fields : value_run (program_of (resolved scripts.steps_in_fields)) (setting_of no_job no_input empty) 4000
    ≡ Some (Ended 0 (puts Standard (codes "5 6 2 7 1 7 c 3 1 3 c 3\n")))
unfolding special_arrays special_scalars emitted all_emitted step_emitted steps_emitted texts_in all_texts stmt_texts stmts_texts code_of codes_of key_code kept_code argument_codes truncated_code applied_code step_code steps_code numeral_at sign_at fraction_at exponent_at numerator denominator digits unescaped escaped octal keywords builtins left_out_words table sign_of
steps_in_fields = refl

-- BEGIN { print (NR = "4") (NR += 1) NR++ NR }
pub special_steps : value_run (program_of (resolved scripts.special_steps)) (setting_of no_job no_input empty) 4000
    ≡ Some (Ended 0 (puts Standard (codes "4556\n")))
unfolding special_arrays special_scalars emitted all_emitted step_emitted steps_emitted texts_in all_texts stmt_texts stmts_texts code_of codes_of key_code kept_code argument_codes truncated_code applied_code step_code steps_code numeral_at sign_at fraction_at exponent_at numerator denominator digits unescaped escaped octal keywords builtins left_out_words table sign_of
special_steps = refl

-- BEGIN { while ((getline a[n++]) > 0) ; print n, a[0], (1 in a), (2 in a) }
pub read_into_elements : value_run (program_of (resolved scripts.read_into_elements))
    (setting_of no_job (record { rest = (codes "l\nm\n"); ending = End }) empty) 4000 ≡ Some (Ended 0 (puts Standard (codes "3 l 1 0\n")))
unfolding special_arrays special_scalars emitted all_emitted step_emitted steps_emitted texts_in all_texts stmt_texts stmts_texts code_of codes_of key_code kept_code argument_codes truncated_code applied_code step_code steps_code numeral_at sign_at fraction_at exponent_at numerator denominator digits unescaped escaped octal keywords builtins left_out_words table sign_of
read_into_elements = refl

-- BEGIN { while ((getline $2 < "f") > 0) print NF, $0 }
pub read_into_field : value_run (program_of (resolved scripts.read_into_field))
    (setting_of no_job no_input (with_file (codes "f") (codes "p q\nr\n") End empty)) 4000 ≡ Some (Ended 0 (puts Standard (codes "2  p q\n2  r\n")))
unfolding special_arrays special_scalars emitted all_emitted step_emitted steps_emitted texts_in all_texts stmt_texts stmts_texts code_of codes_of key_code kept_code argument_codes truncated_code applied_code step_code steps_code numeral_at sign_at fraction_at exponent_at numerator denominator digits unescaped escaped octal keywords builtins left_out_words table sign_of
read_into_field = refl

-- BEGIN { while ((getline x) > 0) print x, v, NR; print v }
pub assignments_among_reads : value_run (program_of (resolved scripts.assignments_among_reads)) (setting_of (record {
  operands = ((codes "v=1")
      ∷ (codes "f") ∷ (codes "v=2") ∷ (codes "g") ∷ (codes "v=3")
      ∷ []);
  assigns = [];
  environment = [];
}) no_input
    (with_file (codes "g") (codes "s\n") End (with_file (codes "f") (codes "p q\nr\n") End empty))) 4000
    ≡ Some (Ended 0 (puts Standard (codes "p q 1 1\nr 1 2\ns 2 3\n3\n")))
unfolding special_arrays special_scalars emitted all_emitted step_emitted steps_emitted texts_in all_texts stmt_texts stmts_texts code_of codes_of key_code kept_code argument_codes truncated_code applied_code step_code steps_code numeral_at sign_at fraction_at exponent_at numerator denominator digits unescaped escaped octal keywords builtins left_out_words table sign_of
assignments_among_reads = refl

-- function f(v) { getline; return v } BEGIN { print f(4), v, $0 }
pub assignment_in_a_call : value_run (program_of (resolved scripts.assignment_in_a_call)) (setting_of (record {
  operands = ((codes "v=1")
      ∷ (codes "f") ∷ []);
  assigns = [];
  environment = [];
}) no_input (with_file (codes "f") (codes "p q\nr\n") End empty)) 4000
    ≡ Some (Ended 0 (puts Standard (codes "4 1 p q\n")))
unfolding special_arrays special_scalars emitted all_emitted step_emitted steps_emitted texts_in all_texts stmt_texts stmts_texts code_of codes_of key_code kept_code argument_codes truncated_code applied_code step_code steps_code numeral_at sign_at fraction_at exponent_at numerator denominator digits unescaped escaped octal keywords builtins left_out_words table sign_of
assignment_in_a_call = refl

-- BEGIN { $0 = "aa b"; n = gsub(/a/, "&x"); print n, $0, $1, NF; print gsub("q", ""), $0 }
pub all_replaced_in_record : value_run (program_of (resolved scripts.all_replaced_in_record)) (setting_of no_job no_input empty) 4000
    ≡ Some (Ended 0 (puts Standard (codes "2 axax b axax 2\n0 axax b\n")))
unfolding special_arrays special_scalars emitted all_emitted step_emitted steps_emitted texts_in all_texts stmt_texts stmts_texts code_of codes_of key_code kept_code argument_codes truncated_code applied_code step_code steps_code numeral_at sign_at fraction_at exponent_at numerator denominator digits unescaped escaped octal keywords builtins left_out_words table sign_of
all_replaced_in_record = refl

-- function g(q) { q[1] = 7 } function f(p) { g(p) } function h(u) { return 3 } BEGIN { f(t); print t[1], h(t), h(), h(w) }
pub arrays_through_calls : value_run (program_of (resolved scripts.arrays_through_calls)) (setting_of no_job no_input empty) 4000
    ≡ Some (Ended 0 (puts Standard (codes "7 3 3 3\n")))
unfolding special_arrays special_scalars emitted all_emitted step_emitted steps_emitted texts_in all_texts stmt_texts stmts_texts code_of codes_of key_code kept_code argument_codes truncated_code applied_code step_code steps_code numeral_at sign_at fraction_at exponent_at numerator denominator digits unescaped escaped octal keywords builtins left_out_words table sign_of
arrays_through_calls = refl

-- function r(n, a) { a[n]; if (n) r(n - 1); for (k in a) c = c k } BEGIN { r(2); print c }
pub fresh_array_handed_on : value_run (program_of (resolved scripts.fresh_array_handed_on)) (setting_of no_job no_input empty) 4000
    ≡ Some (Ended 0 (puts Standard (codes "012\n")))
unfolding special_arrays special_scalars emitted all_emitted step_emitted steps_emitted texts_in all_texts stmt_texts stmts_texts code_of codes_of key_code kept_code argument_codes truncated_code applied_code step_code steps_code numeral_at sign_at fraction_at exponent_at numerator denominator digits unescaped escaped octal keywords builtins left_out_words table sign_of
fresh_array_handed_on = refl

-- function n() { next } /a/, n() { print } /b/ { print "B" }
pub next_in_a_pattern : value_run (program_of (resolved scripts.next_in_a_pattern))
    (setting_of no_job (record { rest = (codes "a\nb\n"); ending = End }) empty) 4000 ≡ Some (Ended 0 [])
unfolding special_arrays special_scalars emitted all_emitted step_emitted steps_emitted texts_in all_texts stmt_texts stmts_texts code_of codes_of key_code kept_code argument_codes truncated_code applied_code step_code steps_code numeral_at sign_at fraction_at exponent_at numerator denominator digits unescaped escaped octal keywords builtins left_out_words table sign_of
next_in_a_pattern = refl

-- function f() { next } { print } END { f() }
pub next_in_end : value_run (program_of (resolved scripts.next_in_end)) (setting_of no_job (record { rest = (codes "a\n"); ending = End }) empty) 4000
    ≡ Some (FaultedBy NextOutside (puts Standard (codes "a\n")))
unfolding special_arrays special_scalars emitted all_emitted step_emitted steps_emitted texts_in all_texts stmt_texts stmts_texts code_of codes_of key_code kept_code argument_codes truncated_code applied_code step_code steps_code numeral_at sign_at fraction_at exponent_at numerator denominator digits unescaped escaped octal keywords builtins left_out_words table sign_of
next_in_end = refl

-- function f() { exit -257 } { print "x" f() } END { print "e"; exit; print "no" }
pub status_below_zero : value_run (program_of (resolved scripts.status_below_zero))
    (setting_of no_job (record { rest = (codes "a\n"); ending = End }) empty) 4000 ≡ Some (Ended 255 (puts Standard (codes "e\n")))
unfolding special_arrays special_scalars emitted all_emitted step_emitted steps_emitted texts_in all_texts stmt_texts stmts_texts code_of codes_of key_code kept_code argument_codes truncated_code applied_code step_code steps_code numeral_at sign_at fraction_at exponent_at numerator denominator digits unescaped escaped octal keywords builtins left_out_words table sign_of
status_below_zero = refl

-- BEGIN { exit 5 } { print "no" } END { print NR; exit "3x" + 300 }
pub exit_before_records : value_run (program_of (resolved scripts.exit_before_records))
    (setting_of no_job (record { rest = (codes "a\n"); ending = End }) empty) 4000 ≡ Some (Ended 47 (puts Standard (codes "0\n")))
unfolding special_arrays special_scalars emitted all_emitted step_emitted steps_emitted texts_in all_texts stmt_texts stmts_texts code_of codes_of key_code kept_code argument_codes truncated_code applied_code step_code steps_code numeral_at sign_at fraction_at exponent_at numerator denominator digits unescaped escaped octal keywords builtins left_out_words table sign_of
exit_before_records = refl

-- BEGIN { exit "0.5" } END { print "no" }
pub exit_with_fraction : value_run (program_of (resolved scripts.exit_with_fraction)) (setting_of no_job no_input empty) 4000 ≡ Some (FaultedBy Fraction [])
unfolding special_arrays special_scalars emitted all_emitted step_emitted steps_emitted texts_in all_texts stmt_texts stmts_texts code_of codes_of key_code kept_code argument_codes truncated_code applied_code step_code steps_code numeral_at sign_at fraction_at exponent_at numerator denominator digits unescaped escaped octal keywords builtins left_out_words table sign_of
exit_with_fraction = refl

-- function f() { printf "f"; return 1 } BEGIN { print substr("x", "0.5", f()) }
pub arguments_before_conversion : value_run (program_of (resolved scripts.arguments_before_conversion)) (setting_of no_job no_input empty) 4000
    ≡ Some (FaultedBy Fraction (puts Standard (codes "f")))
unfolding special_arrays special_scalars emitted all_emitted step_emitted steps_emitted texts_in all_texts stmt_texts stmts_texts code_of codes_of key_code kept_code argument_codes truncated_code applied_code step_code steps_code numeral_at sign_at fraction_at exponent_at numerator denominator digits unescaped escaped octal keywords builtins left_out_words table sign_of
arguments_before_conversion = refl

-- function f() { printf "f"; return 1 } BEGIN { print -"0.5" + f() }
pub sign_converts_at_once : value_run (program_of (resolved scripts.sign_converts_at_once)) (setting_of no_job no_input empty) 4000
    ≡ Some (FaultedBy Fraction [])
unfolding special_arrays special_scalars emitted all_emitted step_emitted steps_emitted texts_in all_texts stmt_texts stmts_texts code_of codes_of key_code kept_code argument_codes truncated_code applied_code step_code steps_code numeral_at sign_at fraction_at exponent_at numerator denominator digits unescaped escaped octal keywords builtins left_out_words table sign_of
sign_converts_at_once = refl

-- BEGIN { printf "%q", 1 > "f" }
pub format_before_file : value_run (program_of (resolved scripts.format_before_file)) (setting_of no_job no_input empty) 4000 ≡ Some (FaultedBy Format [])
unfolding special_arrays special_scalars emitted all_emitted step_emitted steps_emitted texts_in all_texts stmt_texts stmts_texts code_of codes_of key_code kept_code argument_codes truncated_code applied_code step_code steps_code numeral_at sign_at fraction_at exponent_at numerator denominator digits unescaped escaped octal keywords builtins left_out_words table sign_of
format_before_file = refl

-- BEGIN { print int((7/2)), -"3x", !"0" }
pub truncated_quotient : value_run (program_of (resolved scripts.truncated_quotient)) (setting_of no_job no_input empty) 4000
    ≡ Some (Ended 0 (puts Standard (codes "3 -3 0\n")))
unfolding special_arrays special_scalars emitted all_emitted step_emitted steps_emitted texts_in all_texts stmt_texts stmts_texts code_of codes_of key_code kept_code argument_codes truncated_code applied_code step_code steps_code numeral_at sign_at fraction_at exponent_at numerator denominator digits unescaped escaped octal keywords builtins left_out_words table sign_of
truncated_quotient = refl

-- BEGIN { print int(-(7/2)) }
pub quotient_under_a_sign : value_run (program_of (resolved scripts.quotient_under_a_sign)) (setting_of no_job no_input empty) 4000
    ≡ Some (FaultedBy Inexact [])
unfolding special_arrays special_scalars emitted all_emitted step_emitted steps_emitted texts_in all_texts stmt_texts stmts_texts code_of codes_of key_code kept_code argument_codes truncated_code applied_code step_code steps_code numeral_at sign_at fraction_at exponent_at numerator denominator digits unescaped escaped octal keywords builtins left_out_words table sign_of
quotient_under_a_sign = refl

-- BEGIN { if (!(getline x < "no")) print "zero"; else print "true" }
pub read_as_a_test : value_run (program_of (resolved scripts.read_as_a_test)) (setting_of no_job no_input empty) 4000
    ≡ Some (Ended 0 (puts Standard (codes "true\n")))
unfolding special_arrays special_scalars emitted all_emitted step_emitted steps_emitted texts_in all_texts stmt_texts stmts_texts code_of codes_of key_code kept_code argument_codes truncated_code applied_code step_code steps_code numeral_at sign_at fraction_at exponent_at numerator denominator digits unescaped escaped octal keywords builtins left_out_words table sign_of
read_as_a_test = refl

-- { print } END { print "e" }
pub turn_for_each_record : value_run (program_of (resolved scripts.turn_for_each_record))
    (setting_of no_job (record { rest = (codes "a\nb\n"); ending = End }) empty) 4000 ≡ Some (Ended 0 (puts Standard (codes "a\nb\ne\n")))
unfolding special_arrays special_scalars emitted all_emitted step_emitted steps_emitted texts_in all_texts stmt_texts stmts_texts code_of codes_of key_code kept_code argument_codes truncated_code applied_code step_code steps_code numeral_at sign_at fraction_at exponent_at numerator denominator digits unescaped escaped octal keywords builtins left_out_words table sign_of
turn_for_each_record = refl

-- BEGIN { print v FS OFS "x" }
pub turn_for_each_assignment : value_run (program_of (resolved scripts.turn_for_each_assignment))
    (setting_of (record {
      operands = [];
      assigns = (((codes "FS"), (codes ":")) ∷ ((codes "w"), (codes "1")) ∷ ((codes "v"), (codes "1"))
          ∷ ((codes "OFS"), (codes ":")) ∷ []);
      environment = [];
    }) no_input empty) 4000 ≡ Some (Ended 0 (puts Standard (codes "1::x\n")))
unfolding special_arrays special_scalars emitted all_emitted step_emitted steps_emitted texts_in all_texts stmt_texts stmts_texts code_of codes_of key_code kept_code argument_codes truncated_code applied_code step_code steps_code numeral_at sign_at fraction_at exponent_at numerator denominator digits unescaped escaped octal keywords builtins left_out_words table sign_of
turn_for_each_assignment = refl

-- BEGIN { print "x" }
pub bad_assignment_reached : value_run (program_of (resolved scripts.bad_assignment_reached))
    (setting_of (record {
      operands = [];
      assigns = (((codes "w"), (codes "1")) ∷ ((codes "sin"), (codes "1"))
          ∷ []);
      environment = [];
    }) no_input empty) 4000 ≡ Some (FaultedBy BadAssignment [])
unfolding special_arrays special_scalars emitted all_emitted step_emitted steps_emitted texts_in all_texts stmt_texts stmts_texts code_of codes_of key_code kept_code argument_codes truncated_code applied_code step_code steps_code numeral_at sign_at fraction_at exponent_at numerator denominator digits unescaped escaped octal keywords builtins left_out_words table sign_of
bad_assignment_reached = refl

-- NR==1{ARGC="1.5"}{print}
pub argc_read_at_the_end : value_run (program_of (resolved scripts.argc_read_at_the_end))
    (setting_of no_job (record { rest = (codes "a\nb\n"); ending = End }) empty) 4000 ≡ Some (Ended 0 (puts Standard (codes "a\nb\n")))
unfolding special_arrays special_scalars emitted all_emitted step_emitted steps_emitted texts_in all_texts stmt_texts stmts_texts code_of codes_of key_code kept_code argument_codes truncated_code applied_code step_code steps_code numeral_at sign_at fraction_at exponent_at numerator denominator digits unescaped escaped octal keywords builtins left_out_words table sign_of
argc_read_at_the_end = refl

-- NR==1{ARGC="1.5"}{print}
pub argc_read_after_a_file : value_run (program_of (resolved scripts.argc_read_after_a_file)) (setting_of (record {
  operands = ((codes "f")
      ∷ []);
  assigns = [];
  environment = [];
}) no_input (with_file (codes "f") (codes "a\nb\n") End empty)) 4000
    ≡ Some (FaultedBy Fraction (puts Standard (codes "a\nb\n")))
unfolding special_arrays special_scalars emitted all_emitted step_emitted steps_emitted texts_in all_texts stmt_texts stmts_texts code_of codes_of key_code kept_code argument_codes truncated_code applied_code step_code steps_code numeral_at sign_at fraction_at exponent_at numerator denominator digits unescaped escaped octal keywords builtins left_out_words table sign_of
argc_read_after_a_file = refl

-- {print}
pub argc_hides_an_operand : value_run (program_of (resolved scripts.argc_hides_an_operand)) (setting_of (record {
  operands = ((codes "ARGC=2")
      ∷ (codes "f") ∷ []);
  assigns = [];
  environment = [];
}) (record { rest = (codes "s"); ending = End })
    (with_file (codes "f") (codes "a\n") End empty)) 4000 ≡ Some (Ended 0 (puts Standard (codes "s\n")))
unfolding special_arrays special_scalars emitted all_emitted step_emitted steps_emitted texts_in all_texts stmt_texts stmts_texts code_of codes_of key_code kept_code argument_codes truncated_code applied_code step_code steps_code numeral_at sign_at fraction_at exponent_at numerator denominator digits unescaped escaped octal keywords builtins left_out_words table sign_of
argc_hides_an_operand = refl

-- {print FILENAME,$0}
pub argc_from_an_operand : value_run (program_of (resolved scripts.argc_from_an_operand)) (setting_of (record {
  operands = ((codes "f")
      ∷ (codes "ARGC=3") ∷ (codes "g")
      ∷ []);
  assigns = [];
  environment = [];
}) no_input (with_file (codes "g") (codes "b\n") End (with_file (codes "f") (codes "a\n") End empty))) 4000
    ≡ Some (Ended 0 (puts Standard (codes "f a\n")))
unfolding special_arrays special_scalars emitted all_emitted step_emitted steps_emitted texts_in all_texts stmt_texts stmts_texts code_of codes_of key_code kept_code argument_codes truncated_code applied_code step_code steps_code numeral_at sign_at fraction_at exponent_at numerator denominator digits unescaped escaped octal keywords builtins left_out_words table sign_of
argc_from_an_operand = refl

-- {print FILENAME "," FNR "," NR} END{print FILENAME,FNR,NR}
pub names_and_counts : value_run (program_of (resolved scripts.names_and_counts)) (setting_of (record {
  operands = ((codes "e") ∷ (codes "f")
      ∷ (codes "-") ∷ []);
  assigns = [];
  environment = [];
}) (record { rest = (codes "s\n"); ending = End })
    (with_file (codes "f") (codes "p\nq\n") End (with_file (codes "e") [] End empty))) 4000
    ≡ Some (Ended 0 (puts Standard (codes "f,1,1\nf,2,2\n-,1,3\n- 1 3\n")))
unfolding special_arrays special_scalars emitted all_emitted step_emitted steps_emitted texts_in all_texts stmt_texts stmts_texts code_of codes_of key_code kept_code argument_codes truncated_code applied_code step_code steps_code numeral_at sign_at fraction_at exponent_at numerator denominator digits unescaped escaped octal keywords builtins left_out_words table sign_of
names_and_counts = refl

-- BEGIN{print (getline),(getline x),x,(getline),NR}
pub absent_file_passed_over : value_run (program_of (resolved scripts.absent_file_passed_over)) (setting_of (record {
  operands = ((codes "h")
      ∷ (codes "f") ∷ []);
  assigns = [];
  environment = [];
}) no_input (with_file (codes "f") (codes "c\n") End empty)) 4000
    ≡ Some (Ended 0 (puts Standard (codes "-1 1 c 0 1\n")))
unfolding special_arrays special_scalars emitted all_emitted step_emitted steps_emitted texts_in all_texts stmt_texts stmts_texts code_of codes_of key_code kept_code argument_codes truncated_code applied_code step_code steps_code numeral_at sign_at fraction_at exponent_at numerator denominator digits unescaped escaped octal keywords builtins left_out_words table sign_of
absent_file_passed_over = refl

-- BEGIN{print (getline),(getline),(getline) $0}{print "no"}
pub failing_main_input : value_run (program_of (resolved scripts.failing_main_input)) (setting_of (record {
  operands = ((codes "g") ∷ (codes "f")
      ∷ []);
  assigns = [];
  environment = [];
}) no_input
    (with_file (codes "f") (codes "c\n") End (with_file (codes "g") (codes "a\nb") Fails empty))) 4000
    ≡ Some (FaultedBy ReadFailed (puts Standard (codes "1 -1 -1a\n")))
unfolding special_arrays special_scalars emitted all_emitted step_emitted steps_emitted texts_in all_texts stmt_texts stmts_texts code_of codes_of key_code kept_code argument_codes truncated_code applied_code step_code steps_code numeral_at sign_at fraction_at exponent_at numerator denominator digits unescaped escaped octal keywords builtins left_out_words table sign_of
failing_main_input = refl

-- {print $1,NF}
pub specials_among_operands : value_run (program_of (resolved scripts.specials_among_operands)) (setting_of (record {
  operands = ((codes "FS=,")
      ∷ (codes "f") ∷ (codes "NF=2") ∷ (codes "RS=") ∷ (codes "g")
      ∷ []);
  assigns = [];
  environment = [];
}) no_input
    (with_file (codes "g") (codes "c\nd,e\n\nf") End (with_file (codes "f") (codes "a,b\n") End empty))) 4000
    ≡ Some (Ended 0 (puts Standard (codes "a 2\nc 3\nf 1\n")))
unfolding special_arrays special_scalars emitted all_emitted step_emitted steps_emitted texts_in all_texts stmt_texts stmts_texts code_of codes_of key_code kept_code argument_codes truncated_code applied_code step_code steps_code numeral_at sign_at fraction_at exponent_at numerator denominator digits unescaped escaped octal keywords builtins left_out_words table sign_of
specials_among_operands = refl

-- BEGIN{NR="7x";FNR=100}{print NR,FNR}
pub counts_assigned : value_run (program_of (resolved scripts.counts_assigned))
    (setting_of no_job (record { rest = (codes "a\nb\n"); ending = End }) empty) 4000 ≡ Some (Ended 0 (puts Standard (codes "8 1\n9 2\n")))
unfolding special_arrays special_scalars emitted all_emitted step_emitted steps_emitted texts_in all_texts stmt_texts stmts_texts code_of codes_of key_code kept_code argument_codes truncated_code applied_code step_code steps_code numeral_at sign_at fraction_at exponent_at numerator denominator digits unescaped escaped octal keywords builtins left_out_words table sign_of
counts_assigned = refl

-- BEGIN{while((getline x)>0)print x;ARGV[2]="f";ARGC=3;print getline}{print "no"}
pub input_stays_ended : value_run (program_of (resolved scripts.input_stays_ended)) (setting_of (record {
  operands = ((codes "-")
      ∷ []);
  assigns = [];
  environment = [];
}) (record { rest = (codes "s"); ending = End }) (with_file (codes "f") (codes "a\n") End empty)) 4000
    ≡ Some (Ended 0 (puts Standard (codes "s\n0\n")))
unfolding special_arrays special_scalars emitted all_emitted step_emitted steps_emitted texts_in all_texts stmt_texts stmts_texts code_of codes_of key_code kept_code argument_codes truncated_code applied_code step_code steps_code numeral_at sign_at fraction_at exponent_at numerator denominator digits unescaped escaped octal keywords builtins left_out_words table sign_of
input_stays_ended = refl

-- BEGIN{ARGV[1]=5}{print FILENAME,FILENAME==5}
pub operand_from_a_number : value_run (program_of (resolved scripts.operand_from_a_number)) (setting_of (record {
  operands = ((codes "x")
      ∷ []);
  assigns = [];
  environment = [];
}) no_input (with_file (codes "5") (codes "a\n") End empty)) 4000
    ≡ Some (Ended 0 (puts Standard (codes "5 1\n")))
unfolding special_arrays special_scalars emitted all_emitted step_emitted steps_emitted texts_in all_texts stmt_texts stmts_texts code_of codes_of key_code kept_code argument_codes truncated_code applied_code step_code steps_code numeral_at sign_at fraction_at exponent_at numerator denominator digits unescaped escaped octal keywords builtins left_out_words table sign_of
operand_from_a_number = refl

-- END{$0="x y z";print NF,$2;NF=2;print;print getline,$0;print (getline<"f"),$0,NF,NR}
pub record_kept_in_end : value_run (program_of (resolved scripts.record_kept_in_end))
    (setting_of no_job (record { rest = (codes "a b"); ending = End }) (with_file (codes "f") (codes "1 2 3\n") End empty)) 4000
    ≡ Some (Ended 0 (puts Standard (codes "3 y\nx y\n0 x y\n1 1 2 3 3 1\n")))
unfolding special_arrays special_scalars emitted all_emitted step_emitted steps_emitted texts_in all_texts stmt_texts stmts_texts code_of codes_of key_code kept_code argument_codes truncated_code applied_code step_code steps_code numeral_at sign_at fraction_at exponent_at numerator denominator digits unescaped escaped octal keywords builtins left_out_words table sign_of
record_kept_in_end = refl

-- BEGIN{RS="";print (getline<"f") $0;RS="\n";print (getline<"f") $0;print (getline<"f")}
pub failing_after_paragraph : value_run (program_of (resolved scripts.failing_after_paragraph))
    (setting_of no_job no_input (with_file (codes "f") (codes "\n\na\nb\n\nc\n") Fails empty)) 4000
    ≡ Some (Ended 0 (puts Standard (codes "1a\nb\n1c\n-1\n")))
unfolding special_arrays special_scalars emitted all_emitted step_emitted steps_emitted texts_in all_texts stmt_texts stmts_texts code_of codes_of key_code kept_code argument_codes truncated_code applied_code step_code steps_code numeral_at sign_at fraction_at exponent_at numerator denominator digits unescaped escaped octal keywords builtins left_out_words table sign_of
failing_after_paragraph = refl

-- BEGIN{print (getline y<"-")}
pub hyphen_is_a_file_for_getline : value_run (program_of (resolved scripts.hyphen_is_a_file_for_getline))
    (setting_of no_job (record { rest = (codes "s"); ending = End }) empty) 4000 ≡ Some (Ended 0 (puts Standard (codes "-1\n")))
unfolding special_arrays special_scalars emitted all_emitted step_emitted steps_emitted texts_in all_texts stmt_texts stmts_texts code_of codes_of key_code kept_code argument_codes truncated_code applied_code step_code steps_code numeral_at sign_at fraction_at exponent_at numerator denominator digits unescaped escaped octal keywords builtins left_out_words table sign_of
hyphen_is_a_file_for_getline = refl

-- BEGIN{RS="ab"}{print}
pub number_as_separator : value_run (program_of (resolved scripts.number_as_separator))
    (setting_of no_job (record { rest = (codes "1b2a3"); ending = End }) empty) 4000 ≡ Some (Ended 0 (puts Standard (codes "1b2\n3\n")))
unfolding special_arrays special_scalars emitted all_emitted step_emitted steps_emitted texts_in all_texts stmt_texts stmts_texts code_of codes_of key_code kept_code argument_codes truncated_code applied_code step_code steps_code numeral_at sign_at fraction_at exponent_at numerator denominator digits unescaped escaped octal keywords builtins left_out_words table sign_of
number_as_separator = refl

-- BEGIN{print (getline x<"f"),close("f"),(getline x<"f"),close("f")}
pub failing_empty_file : value_run (program_of (resolved scripts.failing_empty_file))
    (setting_of no_job no_input (with_file (codes "f") [] Fails empty)) 4000 ≡ Some (Ended 0 (puts Standard (codes "-1 0 -1 0\n")))
unfolding special_arrays special_scalars emitted all_emitted step_emitted steps_emitted texts_in all_texts stmt_texts stmts_texts code_of codes_of key_code kept_code argument_codes truncated_code applied_code step_code steps_code numeral_at sign_at fraction_at exponent_at numerator denominator digits unescaped escaped octal keywords builtins left_out_words table sign_of
failing_empty_file = refl
