-- The globals that lend their values, of small scripts.
use Rattle.std.specs.Prelude.{◌≡◌, ℕ, true, List, [], ◌∷◌, codes, Some, None, refl}
use Rattle.std.specs.Fmt.{digits}
use Rattle.awk_text.specs.Reading.{numeral_at, sign_at, fraction_at, exponent_at}
use Rattle.awk_text.specs.Number.{numerator, denominator}
use Rattle.awk_text.specs.Escapes.{unescaped, escaped, octal}
use Rattle.world_core.specs.WorldState.{Standard, puts}
use Rattle.awk_grammar.specs.Kinds.{special_arrays, special_scalars}
use Rattle.awk_tokens.specs.Words.{keywords, builtins, left_out_words}
use Rattle.awk_grammar.specs.Token as token
use Rattle.awk_grammar.specs.Trees as tree
use Rattle.awk_grammar.specs.Trees.{Item, Stmt, Stmts, Tree}
use Rattle.sem_scripts.specs.ScriptState.{spend_all}
use Rattle.sem_scripts.specs.Meaning.{asked}
use Rattle.sem_scripts.specs.Statements.{loop, over_keys}
use Rattle.sem_scripts.specs.ScriptRun.{first_assigned, records_done, Ended, setting_of}
use Rattle.mid_program.specs.Mid.{Boxed, Unboxed}
use Rattle.mid_program.specs.MidMeaning.{evaluated, all_evaluated, stepped, all_stepped, mid_called, mid_run_in}
use Rattle.mid_program.specs.Sorted.{sorted, all_sorted, step_sorted, steps_sorted, is_sorted}
use Rattle.mid_program.specs.Texts.{texts_in, all_texts, stmt_texts, stmts_texts}
use Rattle.mid_program.specs.Translation.{code_of, codes_of, key_code, kept_code, argument_codes, truncated_code, applied_code, step_code, steps_code}
use Rattle.value_kinds.specs.Examples.{assigned, empty, job_with, lanes_of, name, no_input, with_lanes}

abbrev numeral : List ℕ → Tree
numeral text = tree.Leaf (token.Number text)

abbrev called_with : Tree → Tree
called_with t = tree.Call (codes "fib") (tree.Then t tree.NoTree)

abbrev without : List ℕ → Tree
without text = tree.Bin (tree.Add token.Minus) (name (codes "n")) (numeral text)

abbrev printed : Tree → Stmt
printed t = tree.Simple (tree.Put tree.Print (tree.Listed (tree.Then t tree.NoTree)) tree.NoTarget)

-- function fib(n) { return n < 2 ? n : fib(n - 1) + fib(n - 2) } BEGIN { print fib(n); .. }
abbrev numbers_of : Stmts → List Item
numbers_of rest = tree.Function (codes "fib") (codes "n" ∷ []) (tree.And (tree.Leave tree.Return
    (Some (tree.Cond (tree.Bin (tree.Other (token.Compare token.Less)) (name (codes "n")) (numeral (codes "2"))) (name (codes "n"))
    (tree.Bin (tree.Add token.Plus) (called_with (without (codes "1"))) (called_with (without (codes "2"))))))) tree.NoStmt)
    ∷ tree.Begin (tree.And (printed (called_with (name (codes "n")))) rest) ∷ []

-- -v n=01: the parameter is unboxed, and the text goes through it
pub global_lends : lanes_of (numbers_of tree.NoStmt) ≡ record {
  numbers = Unboxed ∷ [];
  globals = Unboxed ∷ [];
  parameters = (Unboxed ∷ []) ∷ [];
  lenders = Some 0 ∷ [];
}
    × is_sorted (with_lanes (numbers_of tree.NoStmt)) ≡ true
    × mid_run_in (with_lanes (numbers_of tree.NoStmt)) (setting_of (job_with [] ((codes "n", codes "01") ∷ [])) no_input empty) 20
    ≡ Ended 0 (puts Standard (codes "01\n"))
unfolding special_arrays special_scalars spend_all asked loop over_keys first_assigned records_done evaluated all_evaluated stepped all_stepped mid_called sorted all_sorted step_sorted steps_sorted texts_in all_texts stmt_texts stmts_texts code_of codes_of key_code kept_code argument_codes truncated_code applied_code step_code steps_code numeral_at sign_at fraction_at exponent_at numerator denominator digits unescaped escaped octal keywords builtins left_out_words
global_lends = (refl, refl, refl)

-- .. n = 1
abbrev stored : List Item
stored = numbers_of (tree.And (assigned (codes "n") (numeral (codes "1"))) tree.NoStmt)

pub stored_lends_not : (lanes_of stored).lenders ≡ None ∷ [] × (lanes_of stored).parameters ≡ (Boxed ∷ []) ∷ [] × is_sorted (with_lanes stored) ≡ true
unfolding special_arrays special_scalars sorted all_sorted step_sorted steps_sorted texts_in all_texts stmt_texts stmts_texts code_of codes_of key_code kept_code argument_codes truncated_code applied_code step_code steps_code numeral_at sign_at fraction_at exponent_at numerator denominator digits unescaped escaped octal keywords builtins left_out_words
stored_lends_not = (refl, refl, refl)

-- .. getline
abbrev read : List Item
read = numbers_of (tree.And (tree.Simple (tree.Eval tree.Get)) tree.NoStmt)

pub read_lends_not : (lanes_of read).lenders ≡ None ∷ [] × (lanes_of read).parameters ≡ (Boxed ∷ []) ∷ [] × is_sorted (with_lanes read) ≡ true
unfolding special_arrays special_scalars sorted all_sorted step_sorted steps_sorted texts_in all_texts stmt_texts stmts_texts code_of codes_of key_code kept_code argument_codes truncated_code applied_code step_code steps_code numeral_at sign_at fraction_at exponent_at numerator denominator digits unescaped escaped octal keywords builtins left_out_words
read_lends_not = (refl, refl, refl)

-- .. print fib(): nothing is given, which does not stand for the global
abbrev left_out : List Item
left_out = numbers_of (tree.And (printed (tree.Call (codes "fib") tree.NoTree)) tree.NoStmt)

pub left_out_is_boxed : (lanes_of left_out).parameters ≡ (Boxed ∷ []) ∷ [] × is_sorted (with_lanes left_out) ≡ true
unfolding special_arrays special_scalars sorted all_sorted step_sorted steps_sorted texts_in all_texts stmt_texts stmts_texts code_of codes_of key_code kept_code argument_codes truncated_code applied_code step_code steps_code numeral_at sign_at fraction_at exponent_at numerator denominator digits unescaped escaped octal keywords builtins left_out_words
left_out_is_boxed = (refl, refl)

-- .. print fib(m): two globals at one place
abbrev two_given : List Item
two_given = numbers_of (tree.And (printed (called_with (name (codes "m")))) tree.NoStmt)

pub two_given_are_boxed : (lanes_of two_given).parameters ≡ (Boxed ∷ []) ∷ [] × is_sorted (with_lanes two_given) ≡ true
unfolding special_arrays special_scalars sorted all_sorted step_sorted steps_sorted texts_in all_texts stmt_texts stmts_texts code_of codes_of key_code kept_code argument_codes truncated_code applied_code step_code steps_code numeral_at sign_at fraction_at exponent_at numerator denominator digits unescaped escaped octal keywords builtins left_out_words
two_given_are_boxed = (refl, refl)

-- .. print half(6), with function half(m) { return m / 2 }: numbers alone are given for m, so it stays as it was, and nothing lends at its place
abbrev beside_numbers : List Item
beside_numbers = tree.Function (codes "half") (codes "m" ∷ []) (tree.And (tree.Leave tree.Return
    (Some (tree.Bin (tree.Other (token.Mul token.Over)) (name (codes "m")) (numeral (codes "2"))))) tree.NoStmt)
    ∷ numbers_of (tree.And (printed (tree.Call (codes "half") (tree.Then (numeral (codes "6")) tree.NoTree))) tree.NoStmt)

pub numbers_keep_their_place : (lanes_of beside_numbers).lenders ≡ None ∷ [] × (lanes_of beside_numbers).parameters ≡ (Unboxed ∷ []) ∷ (Boxed ∷ []) ∷ []
    × is_sorted (with_lanes beside_numbers) ≡ true
unfolding special_arrays special_scalars sorted all_sorted step_sorted steps_sorted texts_in all_texts stmt_texts stmts_texts code_of codes_of key_code kept_code argument_codes truncated_code applied_code step_code steps_code numeral_at sign_at fraction_at exponent_at numerator denominator digits unescaped escaped octal keywords builtins left_out_words
numbers_keep_their_place = (refl, refl, refl)

-- function half(m) { return m / 2 } BEGIN { print half(n) }: where no number is given, nothing lends
abbrev no_number : List Item
no_number = tree.Function (codes "half") (codes "m" ∷ []) (tree.And (tree.Leave tree.Return
    (Some (tree.Bin (tree.Other (token.Mul token.Over)) (name (codes "m")) (numeral (codes "2"))))) tree.NoStmt)
    ∷ tree.Begin (tree.And (printed (tree.Call (codes "half") (tree.Then (name (codes "n")) tree.NoTree))) tree.NoStmt) ∷ []

pub no_number_lends_not : (lanes_of no_number).lenders ≡ None ∷ [] × (lanes_of no_number).parameters ≡ (Boxed ∷ []) ∷ [] × is_sorted (with_lanes no_number) ≡ true
unfolding special_arrays special_scalars sorted all_sorted step_sorted steps_sorted texts_in all_texts stmt_texts stmts_texts code_of codes_of key_code kept_code argument_codes truncated_code applied_code step_code steps_code numeral_at sign_at fraction_at exponent_at numerator denominator digits unescaped escaped octal keywords builtins left_out_words
no_number_lends_not = (refl, refl, refl)
