-- Runs of modules on the machine over values: of scripts whose turns run out.
use Rattle.std.specs.Prelude.{ℕ, true, false, List, [], ◌∷◌, codes, Some, None, refl}
use Rattle.std.specs.Fmt.{digits}
use Rattle.awk_text.specs.Reading.{numeral_at, sign_at, fraction_at, exponent_at}
use Rattle.awk_text.specs.Number.{numerator, denominator}
use Rattle.awk_text.specs.Escapes.{unescaped, escaped, octal}
use Rattle.awk_tokens.specs.Words.{keywords, builtins, left_out_words}
use Rattle.ere_syntax.specs.Scan.{table}
use Rattle.ere_syntax.specs.Readers.{sign_of}
use Rattle.world_core.specs.WorldState.{Standard, Named, Outside, Source, absent, replaced}
use Rattle.world_core.specs.declared.world.Ending.{Ending}
use Rattle.world_core.specs.declared.world.Ending.TheVariants.{End}
use Rattle.sem_primitives.specs.Jobs.{JobForm}
use Rattle.awk_grammar.specs.Kinds.{special_arrays, special_scalars}
use Rattle.sem_scripts.specs.Kinds.{resolved}
use Rattle.sem_scripts.specs.ScriptRun.{setting_of}
use Rattle.mid_program.specs.Texts.{texts_in, all_texts, stmt_texts, stmts_texts}
use Rattle.mid_program.specs.Translation.{code_of, codes_of, key_code, kept_code, argument_codes, truncated_code, applied_code, step_code, steps_code, program_of}
use Rattle.test_parts.specs.Scripts as scripts
use Rattle.sem_scripts.specs.ScriptState.{spend_all}
use Rattle.sem_scripts.specs.Meaning.{asked}
use Rattle.sem_scripts.specs.Statements.{loop, over_keys}
use Rattle.sem_scripts.specs.ScriptRun.{first_assigned, records_done}
use Rattle.mid_program.specs.MidMeaning.{evaluated, all_evaluated, stepped, all_stepped, mid_called}
use Rattle.test_parts.specs.Agreeing.{AgreesWith}
use Rattle.lower_model.specs.Emission.{emitted, all_emitted}
use Rattle.lower_model.specs.Statements.{step_emitted, steps_emitted}

abbrev no_job : JobForm
no_job = record { operands = []; assigns = []; environment = [] }

abbrev no_input : Source
no_input = record { rest = []; ending = End }

abbrev empty : Outside
empty = λ target. absent

-- where standard output has room for so many bytes
abbrev narrow : ℕ → Outside
narrow room = replaced Standard (record { bytes = Some []; ending = End; room = Some room; opens = true }) empty

abbrev with_file : List ℕ → List ℕ → Ending → Outside → Outside
with_file name bytes ending outside = replaced (Named name) (record { bytes = Some bytes; ending = ending; room = None; opens = true }) outside

abbrev without_opening : List ℕ → Outside → Outside
without_opening name outside = replaced (Named name) (record { bytes = Some []; ending = End; room = None; opens = false }) outside

-- where a name holds bytes and has room for so many
abbrev with_room : List ℕ → List ℕ → ℕ → Outside → Outside
with_room name bytes room outside = replaced (Named name) (record { bytes = Some bytes; ending = End; room = Some room; opens = true }) outside

-- BEGIN { do print "x"; while (0) }
pub do_without_turns : AgreesWith (program_of (resolved scripts.do_without_turns)) (setting_of no_job no_input empty) 1500 0
unfolding special_arrays special_scalars emitted all_emitted step_emitted steps_emitted texts_in all_texts stmt_texts stmts_texts code_of codes_of key_code kept_code argument_codes truncated_code applied_code step_code steps_code numeral_at sign_at fraction_at exponent_at numerator denominator digits unescaped escaped octal keywords builtins left_out_words table sign_of spend_all asked loop over_keys first_assigned records_done evaluated all_evaluated stepped all_stepped mid_called
do_without_turns = refl

-- function f() { } BEGIN { f(); print "x" }
pub call_without_turns : AgreesWith (program_of (resolved scripts.call_without_turns)) (setting_of no_job no_input empty) 1500 0
unfolding special_arrays special_scalars emitted all_emitted step_emitted steps_emitted texts_in all_texts stmt_texts stmts_texts code_of codes_of key_code kept_code argument_codes truncated_code applied_code step_code steps_code numeral_at sign_at fraction_at exponent_at numerator denominator digits unescaped escaped octal keywords builtins left_out_words table sign_of spend_all asked loop over_keys first_assigned records_done evaluated all_evaluated stepped all_stepped mid_called
call_without_turns = refl

-- BEGIN { a["p"]; a["q"]; for (k in a) print k }
pub keys_and_turns : AgreesWith (program_of (resolved scripts.keys_and_turns)) (setting_of no_job no_input empty) 1500 1
unfolding special_arrays special_scalars emitted all_emitted step_emitted steps_emitted texts_in all_texts stmt_texts stmts_texts code_of codes_of key_code kept_code argument_codes truncated_code applied_code step_code steps_code numeral_at sign_at fraction_at exponent_at numerator denominator digits unescaped escaped octal keywords builtins left_out_words table sign_of spend_all asked loop over_keys first_assigned records_done evaluated all_evaluated stepped all_stepped mid_called
keys_and_turns = refl

-- { print } END { print "e" }
pub records_and_turns : AgreesWith (program_of (resolved scripts.records_and_turns))
    (setting_of no_job (record { rest = (codes "a\nb\n"); ending = End }) empty) 1500 1
unfolding special_arrays special_scalars emitted all_emitted step_emitted steps_emitted texts_in all_texts stmt_texts stmts_texts code_of codes_of key_code kept_code argument_codes truncated_code applied_code step_code steps_code numeral_at sign_at fraction_at exponent_at numerator denominator digits unescaped escaped octal keywords builtins left_out_words table sign_of spend_all asked loop over_keys first_assigned records_done evaluated all_evaluated stepped all_stepped mid_called
records_and_turns = refl

-- BEGIN { print v }
pub assignment_without_turns : AgreesWith (program_of (resolved scripts.assignment_without_turns))
    (setting_of (record { operands = []; assigns = (((codes "v"), (codes "1")) ∷ []); environment = [] }) no_input empty) 1500 0
unfolding special_arrays special_scalars emitted all_emitted step_emitted steps_emitted texts_in all_texts stmt_texts stmts_texts code_of codes_of key_code kept_code argument_codes truncated_code applied_code step_code steps_code numeral_at sign_at fraction_at exponent_at numerator denominator digits unescaped escaped octal keywords builtins left_out_words table sign_of spend_all asked loop over_keys first_assigned records_done evaluated all_evaluated stepped all_stepped mid_called
assignment_without_turns = refl

-- BEGIN { print "x" }
pub special_assigned_without_turns : AgreesWith (program_of (resolved scripts.special_assigned_without_turns))
    (setting_of (record { operands = []; assigns = (((codes "FS"), (codes ":")) ∷ []); environment = [] }) no_input empty) 1500 0
unfolding special_arrays special_scalars emitted all_emitted step_emitted steps_emitted texts_in all_texts stmt_texts stmts_texts code_of codes_of key_code kept_code argument_codes truncated_code applied_code step_code steps_code numeral_at sign_at fraction_at exponent_at numerator denominator digits unescaped escaped octal keywords builtins left_out_words table sign_of spend_all asked loop over_keys first_assigned records_done evaluated all_evaluated stepped all_stepped mid_called
special_assigned_without_turns = refl

-- BEGIN { print "x" }
pub unused_name_without_turns : AgreesWith (program_of (resolved scripts.unused_name_without_turns))
    (setting_of (record { operands = []; assigns = (((codes "w"), (codes "1")) ∷ []); environment = [] }) no_input empty) 1500 0
unfolding special_arrays special_scalars emitted all_emitted step_emitted steps_emitted texts_in all_texts stmt_texts stmts_texts code_of codes_of key_code kept_code argument_codes truncated_code applied_code step_code steps_code numeral_at sign_at fraction_at exponent_at numerator denominator digits unescaped escaped octal keywords builtins left_out_words table sign_of spend_all asked loop over_keys first_assigned records_done evaluated all_evaluated stepped all_stepped mid_called
unused_name_without_turns = refl

-- BEGIN { print v FS OFS "x" }
pub too_few_turns_for_assignments : AgreesWith (program_of (resolved scripts.too_few_turns_for_assignments))
    (setting_of (record {
      operands = [];
      assigns = (((codes "FS"), (codes ":")) ∷ ((codes "w"), (codes "1")) ∷ ((codes "v"), (codes "1"))
          ∷ ((codes "OFS"), (codes ":")) ∷ []);
      environment = [];
    }) no_input empty) 1500 3
unfolding special_arrays special_scalars emitted all_emitted step_emitted steps_emitted texts_in all_texts stmt_texts stmts_texts code_of codes_of key_code kept_code argument_codes truncated_code applied_code step_code steps_code numeral_at sign_at fraction_at exponent_at numerator denominator digits unescaped escaped octal keywords builtins left_out_words table sign_of spend_all asked loop over_keys first_assigned records_done evaluated all_evaluated stepped all_stepped mid_called
too_few_turns_for_assignments = refl

-- BEGIN { print "x" }
pub bad_assignment_not_reached : AgreesWith (program_of (resolved scripts.bad_assignment_not_reached))
    (setting_of (record {
      operands = [];
      assigns = (((codes "w"), (codes "1")) ∷ ((codes "sin"), (codes "1"))
          ∷ []);
      environment = [];
    }) no_input empty) 1500 1
unfolding special_arrays special_scalars emitted all_emitted step_emitted steps_emitted texts_in all_texts stmt_texts stmts_texts code_of codes_of key_code kept_code argument_codes truncated_code applied_code step_code steps_code numeral_at sign_at fraction_at exponent_at numerator denominator digits unescaped escaped octal keywords builtins left_out_words table sign_of spend_all asked loop over_keys first_assigned records_done evaluated all_evaluated stepped all_stepped mid_called
bad_assignment_not_reached = refl

-- BEGIN { print "b" } { print "x" }
pub operand_without_turns : AgreesWith (program_of (resolved scripts.operand_without_turns)) (setting_of (record {
  operands = ((codes "FS=q")
      ∷ (codes "f") ∷ []);
  assigns = [];
  environment = [];
}) no_input (with_file (codes "f") (codes "p q\nr\n") End empty)) 1500 0
unfolding special_arrays special_scalars emitted all_emitted step_emitted steps_emitted texts_in all_texts stmt_texts stmts_texts code_of codes_of key_code kept_code argument_codes truncated_code applied_code step_code steps_code numeral_at sign_at fraction_at exponent_at numerator denominator digits unescaped escaped octal keywords builtins left_out_words table sign_of spend_all asked loop over_keys first_assigned records_done evaluated all_evaluated stepped all_stepped mid_called
operand_without_turns = refl

-- { print $1 }
pub turns_of_operands : AgreesWith (program_of (resolved scripts.turns_of_operands)) (setting_of (record {
  operands = ((codes "FS=:") ∷ (codes "w=1")
      ∷ (codes "f") ∷ []);
  assigns = [];
  environment = [];
}) no_input (with_file (codes "f") (codes "p q\nr\n") End empty)) 1500 3
unfolding special_arrays special_scalars emitted all_emitted step_emitted steps_emitted texts_in all_texts stmt_texts stmts_texts code_of codes_of key_code kept_code argument_codes truncated_code applied_code step_code steps_code numeral_at sign_at fraction_at exponent_at numerator denominator digits unescaped escaped octal keywords builtins left_out_words table sign_of spend_all asked loop over_keys first_assigned records_done evaluated all_evaluated stepped all_stepped mid_called
turns_of_operands = refl

-- BEGIN { getline; print $1; getline; print $1 }
pub turns_of_getline : AgreesWith (program_of (resolved scripts.turns_of_getline)) (setting_of (record {
  operands = ((codes "FS=:") ∷ (codes "w=1")
      ∷ (codes "f") ∷ (codes "RS=:") ∷ (codes "g")
      ∷ []);
  assigns = [];
  environment = [];
}) no_input
    (with_file (codes "g") (codes "r\n") End (with_file (codes "f") (codes "p q\n") End empty))) 1500 2
unfolding special_arrays special_scalars emitted all_emitted step_emitted steps_emitted texts_in all_texts stmt_texts stmts_texts code_of codes_of key_code kept_code argument_codes truncated_code applied_code step_code steps_code numeral_at sign_at fraction_at exponent_at numerator denominator digits unescaped escaped octal keywords builtins left_out_words table sign_of spend_all asked loop over_keys first_assigned records_done evaluated all_evaluated stepped all_stepped mid_called
turns_of_getline = refl

-- BEGIN { while (n < 3) n = n + 1; print n }
pub one_turn_too_few : AgreesWith (program_of (resolved scripts.one_turn_too_few)) (setting_of no_job no_input empty) 1500 3
unfolding special_arrays special_scalars emitted all_emitted step_emitted steps_emitted texts_in all_texts stmt_texts stmts_texts code_of codes_of key_code kept_code argument_codes truncated_code applied_code step_code steps_code numeral_at sign_at fraction_at exponent_at numerator denominator digits unescaped escaped octal keywords builtins left_out_words table sign_of spend_all asked loop over_keys first_assigned records_done evaluated all_evaluated stepped all_stepped mid_called
one_turn_too_few = refl
