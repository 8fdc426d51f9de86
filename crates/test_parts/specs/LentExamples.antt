-- Scripts whose functions are given a global that lends its value: the parameter has nothing, and is read as the global, a text of the command line.
use Rattle.std.specs.Prelude.{◌≡◌, ℕ, ◌+◌, List, [], ◌∷◌, true, codes, None, Some, refl}
use Rattle.std.specs.Fmt.{digits}
use Rattle.awk_text.specs.Reading.{numeral_at, sign_at, fraction_at, exponent_at}
use Rattle.awk_text.specs.Number.{numerator, denominator}
use Rattle.awk_text.specs.Escapes.{unescaped}
use Rattle.awk_tokens.specs.Words.{keywords, builtins, left_out_words}
use Rattle.awk_grammar.specs.Kinds.{special_arrays, special_scalars}
use Rattle.awk_grammar.specs.Token.{Sign, Plus, Minus, Less, Compare, Assign, Set, Number}
use Rattle.awk_grammar.specs.Trees.{Tree, Leaf, Var, Call, Cond, Bin, Other, Add, Then, NoTree, Stmt, Stmts, And, NoStmt, Simple, Eval, Put, Print, Listed, NoTarget, Leave, Return, Function, Begin}
use Rattle.sem_scripts.specs.Kinds.{resolved}
use Rattle.sem_scripts.specs.ScriptRun.{Setting, Ended, setting_of}
use Rattle.mid_program.specs.Mid.{Program}
use Rattle.mid_program.specs.Sorted.{sorted, all_sorted, step_sorted, steps_sorted, is_sorted}
use Rattle.mid_program.specs.Texts.{texts_in, all_texts, stmt_texts, stmts_texts}
use Rattle.mid_program.specs.Translation.{code_of, codes_of, key_code, kept_code, argument_codes, truncated_code, applied_code, step_code, steps_code, program_of}
use Rattle.world_core.specs.WorldState.{Standard, puts}
use Rattle.script_code.specs.Coded.{unboxed}
use Rattle.lower_model.specs.Emission.{emitted, all_emitted}
use Rattle.lower_model.specs.Statements.{step_emitted, steps_emitted}
use Rattle.lower_model.specs.Runs as runs
use Rattle.lower_model.specs.Runs.{begun, value_run}
use Rattle.test_parts.specs.Counting.{steps_within}
use Rattle.test_parts.specs.Settings.{empty, no_input, no_job}

-- -v n=TEXT
abbrev with_n : List ℕ → Setting
with_n text = setting_of (record { operands = []; assigns = (codes "n", text) ∷ []; environment = [] }) no_input empty

abbrev n : Tree
n = Var (codes "n")

abbrev x : Tree
x = Var (codes "x")

abbrev number : List ℕ → Tree
number text = Leaf (Number text)

abbrev sum : Sign → Tree → Tree → Tree
sum s a b = Bin (Add s) a b

abbrev f : Tree → Tree
f t = Call (codes "f") (Then t NoTree)

abbrev prints : Tree → Stmt
prints t = Simple (Put Print (Listed (Then t NoTree)) NoTarget)

-- function f(PARAMETERS) { BODY } function g() { return f(1) } BEGIN { print f(n) }: n lends, since a number is given there too
abbrev calling : List (List ℕ) → Stmts → Program
calling parameters body = unboxed (program_of (resolved (Function (codes "f") parameters body
    ∷ (Function (codes "g") [] (And (Leave Return (Some (f (number (codes "1"))))) NoStmt) ∷ (Begin (And (prints (f n)) NoStmt) ∷ [])))))

-- function f(n) { return n < 2 ? n : f(n - 1) + f(n - 2) }
abbrev fib : Program
fib = calling (codes "n" ∷ []) (And (Leave Return (Some (Cond (Bin (Other (Compare Less)) n (number (codes "2"))) n
    (sum Plus (f (sum Minus n (number (codes "1")))) (f (sum Minus n (number (codes "2")))))))) NoStmt)

pub fib_of_six : (fib.lenders ≡ Some 0 ∷ []) × (is_sorted fib ≡ true) × (value_run fib (with_n (codes "6")) 4000 ≡ Some (Ended 0 (puts Standard (codes "8\n"))))
unfolding special_arrays special_scalars sorted all_sorted step_sorted steps_sorted emitted all_emitted step_emitted steps_emitted texts_in all_texts stmt_texts stmts_texts code_of codes_of key_code kept_code argument_codes truncated_code applied_code step_code steps_code numeral_at sign_at fraction_at exponent_at numerator denominator digits unescaped keywords builtins left_out_words
fib_of_six = (refl, refl, refl)

abbrev steps_for : List ℕ → ℕ
steps_for text = steps_within (runs.code_of fib 9999) 4000 (begun fib (with_n text))

-- f(4) makes 9 calls and f(3) 5: 18 steps more than where nothing lends (`CallExamples`), which find that the parameter has a number
pub fib_steps : steps_for (codes "4") ≡ steps_for (codes "3") + 190
unfolding special_arrays special_scalars sorted all_sorted step_sorted steps_sorted emitted all_emitted step_emitted steps_emitted texts_in all_texts stmt_texts stmts_texts code_of codes_of key_code kept_code argument_codes truncated_code applied_code step_code steps_code numeral_at sign_at fraction_at exponent_at numerator denominator digits unescaped keywords builtins left_out_words
fib_steps = refl

-- function f(n, x) { print n; x = n + 1; print x; return n }
abbrev told : Program
told = calling (codes "n" ∷ (codes "x" ∷ [])) (And (prints n) (And (Simple (Eval (Bin (Other (Assign Set)) x (sum Plus n (number (codes "1"))))))
    (And (prints x) (And (Leave Return (Some n)) NoStmt))))

pub told_text : (told.lenders ≡ Some 0 ∷ (None ∷ [])) × (is_sorted told ≡ true) × (value_run told (with_n (codes " 06x")) 4000 ≡ Some (Ended 0 (puts Standard (codes " 06x\n7\n 06x\n"))))
unfolding special_arrays special_scalars sorted all_sorted step_sorted steps_sorted emitted all_emitted step_emitted steps_emitted texts_in all_texts stmt_texts stmts_texts code_of codes_of key_code kept_code argument_codes truncated_code applied_code step_code steps_code numeral_at sign_at fraction_at exponent_at numerator denominator digits unescaped keywords builtins left_out_words
told_text = (refl, refl, refl)

-- where the command line gives n no value
pub told_nothing : value_run told (setting_of no_job no_input empty) 4000 ≡ Some (Ended 0 (puts Standard (codes "\n1\n\n")))
unfolding special_arrays special_scalars sorted all_sorted step_sorted steps_sorted emitted all_emitted step_emitted steps_emitted texts_in all_texts stmt_texts stmts_texts code_of codes_of key_code kept_code argument_codes truncated_code applied_code step_code steps_code numeral_at sign_at fraction_at exponent_at numerator denominator digits unescaped keywords builtins left_out_words
told_nothing = refl
