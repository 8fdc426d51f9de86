-- A run of a module on the machine over values in which a text of the command line is copied.
use Rattle.std.specs.Prelude.{◌≡◌, ℕ, List, [], ◌∷◌, codes, Some, refl}
use Rattle.std.specs.Fmt.{digits}
use Rattle.awk_text.specs.Reading.{numeral_at, sign_at, fraction_at, exponent_at}
use Rattle.awk_text.specs.Number.{numerator, denominator}
use Rattle.awk_text.specs.Escapes.{unescaped, escaped, octal}
use Rattle.awk_tokens.specs.Words.{keywords, builtins, left_out_words}
use Rattle.world_core.specs.WorldState.{Standard, Source, Outside, absent, puts}
use Rattle.world_core.specs.declared.world.Ending.TheVariants.{End}
use Rattle.sem_primitives.specs.Jobs.{JobForm}
use Rattle.awk_grammar.specs.Kinds.{special_arrays, special_scalars}
use Rattle.awk_grammar.specs.Token as token
use Rattle.awk_grammar.specs.Trees as tree
use Rattle.awk_grammar.specs.Trees.{Item}
use Rattle.sem_scripts.specs.Kinds.{resolved}
use Rattle.sem_scripts.specs.ScriptRun.{Ended, setting_of}
use Rattle.mid_program.specs.Mid.{Program}
use Rattle.mid_program.specs.Texts.{texts_in, all_texts, stmt_texts, stmts_texts}
use Rattle.mid_program.specs.Translation.{code_of, codes_of, key_code, kept_code, argument_codes, truncated_code, applied_code, step_code, steps_code, program_of}
use Rattle.value_kinds.specs.Applied.{apply}
use Rattle.value_kinds.specs.Lanes.{infer}
use Rattle.lower_model.specs.Emission.{emitted, all_emitted}
use Rattle.lower_model.specs.Statements.{step_emitted, steps_emitted}
use Rattle.lower_model.specs.Runs.{value_run}

abbrev assigned : List ℕ → tree.Tree → tree.Stmt
assigned x t = tree.Simple (tree.Eval (tree.Bin (tree.Other (token.Assign token.Set)) (tree.Var x) t))

-- BEGIN { n = i; i = i + 1; m = i; print n, i, m }
abbrev copied : List Item
copied = tree.Begin (tree.And (assigned (codes "n") (tree.Var (codes "i")))
    (tree.And (assigned (codes "i") (tree.Bin (tree.Add token.Plus) (tree.Var (codes "i")) (tree.Leaf (token.Number (codes "1")))))
    (tree.And (assigned (codes "m") (tree.Var (codes "i")))
    (tree.And (tree.Simple (tree.Put tree.Print (tree.Listed (tree.Then (tree.Var (codes "n")) (tree.Then (tree.Var (codes "i"))
    (tree.Then (tree.Var (codes "m")) tree.NoTree)))) tree.NoTarget)) tree.NoStmt)))) ∷ []

abbrev with_names : Program → Program
with_names p = apply (infer p) p

-- -v i=007
abbrev job : JobForm
job = record { operands = []; assigns = (codes "i", codes "007") ∷ []; environment = [] }

abbrev no_input : Source
no_input = record { rest = []; ending = End }

abbrev empty : Outside
empty = λ target. absent

pub text_is_copied : value_run (with_names (program_of (resolved copied))) (setting_of job no_input empty) 2500 ≡ Some (Ended 0 (puts Standard (codes "007 8 8\n")))
unfolding special_arrays special_scalars emitted all_emitted step_emitted steps_emitted texts_in all_texts stmt_texts stmts_texts code_of codes_of key_code kept_code argument_codes truncated_code applied_code step_code steps_code numeral_at sign_at fraction_at exponent_at numerator denominator digits unescaped escaped octal keywords builtins left_out_words
text_is_copied = refl
