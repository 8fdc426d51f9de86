-- How many steps scripts take, computed from the definitions: the one that calls `main`, and those of its code. Rows of test_scripts allow the same scripts as
-- many, and with one less the run is out of steps.
use Rattle.std.specs.Prelude.{◌≡◌, ℕ, suc, List, codes, refl}
use Rattle.std.specs.Fmt.{digits}
use Rattle.awk_text.specs.Reading.{numeral_at, sign_at, fraction_at, exponent_at}
use Rattle.awk_text.specs.Number.{numerator, denominator}
use Rattle.awk_text.specs.Escapes.{unescaped, escaped, octal}
use Rattle.awk_tokens.specs.Words.{keywords, builtins, left_out_words}
use Rattle.ere_syntax.specs.Scan.{table}
use Rattle.ere_syntax.specs.Readers.{sign_of}
use Rattle.world_core.specs.WorldState.{Source}
use Rattle.awk_grammar.specs.Trees.{Item}
use Rattle.awk_grammar.specs.Kinds.{special_arrays, special_scalars}
use Rattle.sem_scripts.specs.Kinds.{resolved}
use Rattle.sem_scripts.specs.ScriptRun.{setting_of}
use Rattle.mid_program.specs.Texts.{texts_in, all_texts, stmt_texts, stmts_texts}
use Rattle.mid_program.specs.Translation.{code_of, codes_of, key_code, kept_code, argument_codes, truncated_code, applied_code, step_code, steps_code, program_of}
use Rattle.mid_program.specs.Scripts as scripts
use Rattle.lower_model.specs.Emission.{emitted, all_emitted}
use Rattle.lower_model.specs.Statements.{step_emitted, steps_emitted}
use Rattle.lower_model.specs.Runs.{code_of as emitted_of, begun}
use Rattle.test_parts.specs.Counting.{steps_within}
use Rattle.test_parts.specs.Jobs.{input}
use Rattle.test_parts.specs.Settings.{no_job, no_input, empty}

abbrev pub steps_on : Source → List Item → ℕ
steps_on given script =
    let program = program_of (resolved script) in
    steps_within (emitted_of program 9999) 4000 (begun program (setting_of no_job given empty))

-- function f(x) { if (x == "b") next; return x } { print "<" f($1) ">" }
pub next_in_function : suc (steps_on (input (codes "a\nb\nc\n")) scripts.next_in_function) ≡ 346
unfolding special_arrays special_scalars emitted all_emitted step_emitted steps_emitted texts_in all_texts stmt_texts stmts_texts code_of codes_of key_code kept_code argument_codes truncated_code applied_code step_code steps_code numeral_at sign_at fraction_at exponent_at numerator denominator digits unescaped escaped octal keywords builtins left_out_words table sign_of
next_in_function = refl

-- function g() { exit 3 } BEGIN { print "a" g(); print "no" } END { print "end" }
pub exit_in_function : suc (steps_on no_input scripts.exit_in_function) ≡ 105
unfolding special_arrays special_scalars emitted all_emitted step_emitted steps_emitted texts_in all_texts stmt_texts stmts_texts code_of codes_of key_code kept_code argument_codes truncated_code applied_code step_code steps_code numeral_at sign_at fraction_at exponent_at numerator denominator digits unescaped escaped octal keywords builtins left_out_words table sign_of
exit_in_function = refl

-- BEGIN { a["x"]; a["y"]; a["z"]; delete a["x"]; a["x"] = 1; for (k in a) { printf "%s ", k; delete a["x"] }; print ("x" in a) }
pub keys_visited : suc (steps_on no_input scripts.keys_visited) ≡ 313
unfolding special_arrays special_scalars emitted all_emitted step_emitted steps_emitted texts_in all_texts stmt_texts stmts_texts code_of codes_of key_code kept_code argument_codes truncated_code applied_code step_code steps_code numeral_at sign_at fraction_at exponent_at numerator denominator digits unescaped escaped octal keywords builtins left_out_words table sign_of
keys_visited = refl
