-- Lanes that are found, and runs of scripts whose names have them.
use Rattle.std.specs.Prelude.{◌≡◌, ℕ, true, false, List, [], ◌∷◌, codes, Some, None, refl}
use Rattle.std.specs.Fmt.{digits}
use Rattle.awk_text.specs.Reading.{numeral_at, sign_at, fraction_at, exponent_at}
use Rattle.awk_text.specs.Number.{numerator, denominator}
use Rattle.awk_text.specs.Escapes.{unescaped, escaped, octal}
use Rattle.awk_values.specs.declared.fault.Fault.TheVariants.{Fraction, Range}
use Rattle.world_core.specs.WorldState.{Standard, Named, Outside, Source, absent, replaced, puts}
use Rattle.world_core.specs.declared.world.Ending.TheVariants.{End}
use Rattle.sem_primitives.specs.Jobs.{JobForm}
use Rattle.awk_grammar.specs.Kinds.{special_arrays, special_scalars}
use Rattle.awk_tokens.specs.Words.{keywords, builtins, left_out_words}
use Rattle.awk_grammar.specs.Token as token
use Rattle.awk_grammar.specs.Trees as tree
use Rattle.awk_grammar.specs.Trees.{Item}
use Rattle.sem_scripts.specs.ScriptState.{spend_all}
use Rattle.sem_scripts.specs.Kinds.{resolved}
use Rattle.sem_scripts.specs.Meaning.{asked}
use Rattle.mid_program.specs.Mid.{Boxed, Unboxed, ArrayKind, Program}
use Rattle.mid_program.specs.Scripts as scripts
use Rattle.sem_scripts.specs.Statements.{loop, over_keys}
use Rattle.sem_scripts.specs.ScriptRun.{first_assigned, records_done, Ended, FaultedBy, setting_of}
use Rattle.mid_program.specs.MidMeaning.{evaluated, all_evaluated, stepped, all_stepped, mid_called, mid_run_in}
use Rattle.mid_program.specs.Sorted.{sorted, all_sorted, step_sorted, steps_sorted, is_sorted, mixed_of}
use Rattle.mid_program.specs.Texts.{texts_in, all_texts, stmt_texts, stmts_texts}
use Rattle.mid_program.specs.Translation.{code_of, codes_of, key_code, kept_code, argument_codes, truncated_code, applied_code, step_code, steps_code, program_of}
use Rattle.value_kinds.specs.Lanes.{Lanes, infer}
use Rattle.value_kinds.specs.Applied.{apply}

abbrev pub lanes_of : List Item → Lanes
lanes_of items = infer (program_of (resolved items))

abbrev pub with_lanes : List Item → Program
with_lanes items = apply (lanes_of items) (program_of (resolved items))

abbrev pub job_with : List (List ℕ) → List (List ℕ × List ℕ) → JobForm
job_with operands assigns = record { operands = operands; assigns = assigns; environment = [] }

abbrev pub no_input : Source
no_input = record { rest = []; ending = End }

abbrev pub empty : Outside
empty = λ target. absent

abbrev with_file : List ℕ → List ℕ → Outside → Outside
with_file name bytes outside = replaced (Named name) (record { bytes = Some bytes; ending = End; room = None; opens = true }) outside

-- BEGIN { print n; print n + 1 }
abbrev printed_then_added : List Item
printed_then_added = (tree.Begin (tree.And (tree.Simple
    (tree.Put tree.Print (tree.Listed (tree.Then (tree.Var (codes "n")) tree.NoTree)) tree.NoTarget))
    (tree.And (tree.Simple (tree.Put tree.Print
    (tree.Listed (tree.Then (tree.Bin (tree.Add token.Plus) (tree.Var (codes "n"))
    (tree.Leaf (token.Number (codes "1")))) tree.NoTree)) tree.NoTarget)) tree.NoStmt))) ∷ []

-- { n++; print n }
abbrev counted : List Item
counted = (tree.Always (tree.And (tree.Simple (tree.Eval (tree.Post token.Increment (tree.Var (codes "n")))))
    (tree.And (tree.Simple (tree.Put tree.Print (tree.Listed (tree.Then (tree.Var (codes "n")) tree.NoTree)) tree.NoTarget)) tree.NoStmt))) ∷ []

-- BEGIN { n = 2^53; n++; print "no" }
abbrev past_range : List Item
past_range = (tree.Begin (tree.And (tree.Simple
    (tree.Eval (tree.Bin (tree.Other (token.Assign token.Set)) (tree.Var (codes "n"))
    (tree.Bin (tree.Other token.Pow) (tree.Leaf (token.Number (codes "2"))) (tree.Leaf (token.Number (codes "53")))))))
    (tree.And (tree.Simple (tree.Eval (tree.Post token.Increment (tree.Var (codes "n")))))
    (tree.And (tree.Simple (tree.Put tree.Print (tree.Listed (tree.Then (tree.Leaf (token.Quoted (34 ∷ 110 ∷ 111 ∷ 34
    ∷ []))) tree.NoTree)) tree.NoTarget)) tree.NoStmt)))) ∷ []

-- -v n=0.5: the text is printed as it is; its number is a fraction
pub text_before_a_number : lanes_of printed_then_added ≡ record { numbers = Unboxed ∷ []; globals = Unboxed ∷ []; parameters = []; lenders = [] }
    × is_sorted (with_lanes printed_then_added) ≡ true
    × mid_run_in (with_lanes printed_then_added) (setting_of (job_with [] ((codes "n", codes "0.5") ∷ [])) no_input empty) 20
    ≡ FaultedBy Fraction (puts Standard (codes "0.5\n"))
unfolding special_arrays special_scalars spend_all asked loop over_keys first_assigned records_done evaluated all_evaluated stepped all_stepped mid_called sorted all_sorted step_sorted steps_sorted texts_in all_texts stmt_texts stmts_texts code_of codes_of key_code kept_code argument_codes truncated_code applied_code step_code steps_code numeral_at sign_at fraction_at exponent_at numerator denominator digits unescaped escaped octal keywords builtins left_out_words
text_before_a_number = (refl, refl, refl)

-- operands f, n=07, g
pub text_between_records : lanes_of counted ≡ record { numbers = Unboxed ∷ []; globals = Unboxed ∷ []; parameters = []; lenders = [] } × is_sorted (with_lanes counted) ≡ true
    × mid_run_in (with_lanes counted) (setting_of (job_with (codes "f" ∷ codes "n=07" ∷ codes "g"
    ∷ []) []) no_input (with_file (codes "f") (codes "a\n") (with_file (codes "g") (codes "b\n") empty))) 20
    ≡ Ended 0 (puts Standard (codes "1\n8\n"))
unfolding special_arrays special_scalars spend_all asked loop over_keys first_assigned records_done evaluated all_evaluated stepped all_stepped mid_called sorted all_sorted step_sorted steps_sorted texts_in all_texts stmt_texts stmts_texts code_of codes_of key_code kept_code argument_codes truncated_code applied_code step_code steps_code numeral_at sign_at fraction_at exponent_at numerator denominator digits unescaped escaped octal keywords builtins left_out_words
text_between_records = (refl, refl, refl)

pub range_of_a_number : lanes_of past_range ≡ record { numbers = Unboxed ∷ []; globals = Unboxed ∷ []; parameters = []; lenders = [] } × is_sorted (with_lanes past_range) ≡ true
    × mid_run_in (with_lanes past_range) (setting_of (job_with [] []) no_input empty) 20 ≡ FaultedBy Range []
unfolding special_arrays special_scalars spend_all asked loop over_keys first_assigned records_done evaluated all_evaluated stepped all_stepped mid_called sorted all_sorted step_sorted steps_sorted texts_in all_texts stmt_texts stmts_texts code_of codes_of key_code kept_code argument_codes truncated_code applied_code step_code steps_code numeral_at sign_at fraction_at exponent_at numerator denominator digits unescaped escaped octal keywords builtins left_out_words
range_of_a_number = (refl, refl, refl)

-- BEGIN { s = "abxxc"; n = gsub(/x*/, "-", s); print n, s }: a text is stored into s, and numbers alone into n
pub text_is_boxed : lanes_of scripts.all_replaced ≡ record { numbers = Boxed ∷ Unboxed ∷ []; globals = Boxed ∷ Unboxed ∷ []; parameters = []; lenders = [] }
unfolding special_arrays special_scalars texts_in all_texts stmt_texts stmts_texts code_of codes_of key_code kept_code argument_codes truncated_code applied_code step_code steps_code numeral_at sign_at fraction_at exponent_at numerator denominator digits unescaped escaped octal keywords builtins left_out_words
text_is_boxed = refl

-- function r(n) { return n ? r(n-1) : 7 } BEGIN { print "x"; print r(4) }: numbers alone are given for n
pub parameter_is_unboxed : lanes_of scripts.calls_too_deep ≡ record { numbers = []; globals = []; parameters = (Unboxed ∷ []) ∷ []; lenders = None ∷ [] }
    × is_sorted (with_lanes scripts.calls_too_deep) ≡ true
unfolding special_arrays special_scalars sorted all_sorted step_sorted steps_sorted texts_in all_texts stmt_texts stmts_texts code_of codes_of key_code kept_code argument_codes truncated_code applied_code step_code steps_code numeral_at sign_at fraction_at exponent_at numerator denominator digits unescaped escaped octal keywords builtins left_out_words
parameter_is_unboxed = (refl, refl)

-- function f(a, n, own) { .. n = 9; .. } BEGIN { n = 12; print f(t, n), t["k"], n }: the global n is given for the parameter n, which is a copy of
-- what a name has, so that one is boxed
pub given_copies_are_boxed : lanes_of scripts.arrays_by_reference ≡ record { numbers = Unboxed ∷ ArrayKind ∷ []; globals = Unboxed ∷ ArrayKind ∷ []; parameters = (ArrayKind ∷ Boxed ∷ ArrayKind ∷ []) ∷ []; lenders = None ∷ None ∷ None ∷ [] }
    × is_sorted (with_lanes scripts.arrays_by_reference) ≡ true
unfolding special_arrays special_scalars sorted all_sorted step_sorted steps_sorted texts_in all_texts stmt_texts stmts_texts code_of codes_of key_code kept_code argument_codes truncated_code applied_code step_code steps_code numeral_at sign_at fraction_at exponent_at numerator denominator digits unescaped escaped octal keywords builtins left_out_words
given_copies_are_boxed = (refl, refl)

abbrev pub name : List ℕ → tree.Tree
name x = tree.Var x

abbrev pub assigned : List ℕ → tree.Tree → tree.Stmt
assigned x t = tree.Simple (tree.Eval (tree.Bin (tree.Other (token.Assign token.Set)) (name x) t))

-- BEGIN { n = i; i = i + 1; m = (i); k = n; print n, i, m, k }
abbrev copied : List Item
copied = (tree.Begin (tree.And (assigned (codes "n") (name (codes "i")))
    (tree.And (assigned (codes "i") (tree.Bin (tree.Add token.Plus) (name (codes "i")) (tree.Leaf (token.Number (codes "1")))))
    (tree.And (assigned (codes "m") (tree.Group (name (codes "i"))))
    (tree.And (assigned (codes "k") (name (codes "n")))
    (tree.And (tree.Simple (tree.Put tree.Print (tree.Listed (tree.Then (name (codes "n")) (tree.Then (name (codes "i"))
    (tree.Then (name (codes "m")) (tree.Then (name (codes "k")) tree.NoTree))))) tree.NoTarget)) tree.NoStmt)))))) ∷ []

-- -v i=007: numbers alone are stored into i, so n and m take copies of it, the text too; a copy of n is boxed
pub copies_of_numbers_are_unboxed : lanes_of copied ≡ record {
  numbers = Boxed ∷ Unboxed ∷ Boxed ∷ Boxed ∷ [];
  globals = Unboxed ∷ Unboxed ∷ Unboxed ∷ Boxed ∷ [];
  parameters = [];
  lenders = [];
}
    × mixed_of (with_lanes copied).globals ≡ true ∷ false ∷ true ∷ false ∷ []
    × is_sorted (with_lanes copied) ≡ true
    × mid_run_in (with_lanes copied) (setting_of (job_with [] ((codes "i", codes "007") ∷ [])) no_input empty) 40
    ≡ Ended 0 (puts Standard (codes "007 8 8 007\n"))
unfolding special_arrays special_scalars spend_all asked loop over_keys first_assigned records_done evaluated all_evaluated stepped all_stepped mid_called sorted all_sorted step_sorted steps_sorted texts_in all_texts stmt_texts stmts_texts code_of codes_of key_code kept_code argument_codes truncated_code applied_code step_code steps_code numeral_at sign_at fraction_at exponent_at numerator denominator digits unescaped escaped octal keywords builtins left_out_words
copies_of_numbers_are_unboxed = (refl, refl, refl, refl)

-- function f(p) { n = p } BEGIN { f(1); t = $1; u = t }: numbers alone are given for p, so n takes copies of it; u takes a copy of a text
abbrev copied_parameter : List Item
copied_parameter = tree.Function (codes "f") (codes "p" ∷ []) (tree.And (assigned (codes "n") (name (codes "p"))) tree.NoStmt)
    ∷ tree.Begin (tree.And (tree.Simple (tree.Eval (tree.Call (codes "f") (tree.Then (tree.Leaf (token.Number (codes "1"))) tree.NoTree))))
    (tree.And (assigned (codes "t") (tree.Field (tree.Leaf (token.Number (codes "1")))))
    (tree.And (assigned (codes "u") (name (codes "t"))) tree.NoStmt))) ∷ []

pub copies_of_texts_are_boxed : lanes_of copied_parameter ≡ record {
  numbers = Boxed ∷ Boxed ∷ Boxed ∷ [];
  globals = Unboxed ∷ Boxed ∷ Boxed ∷ [];
  parameters = (Unboxed ∷ []) ∷ [];
  lenders = None ∷ [];
}
    × is_sorted (with_lanes copied_parameter) ≡ true
unfolding special_arrays special_scalars sorted all_sorted step_sorted steps_sorted texts_in all_texts stmt_texts stmts_texts code_of codes_of key_code kept_code argument_codes truncated_code applied_code step_code steps_code numeral_at sign_at fraction_at exponent_at numerator denominator digits unescaped escaped octal keywords builtins left_out_words
copies_of_texts_are_boxed = (refl, refl)

-- BEGIN { while (n < 10) n = n + 1; print n }
abbrev counted_up : List Item
counted_up = (tree.Begin (tree.And (tree.While (tree.Bin (tree.Other (token.Compare token.Less)) (tree.Var (codes "n"))
    (tree.Leaf (token.Number (codes "10"))))
    (tree.Simple (tree.Eval (tree.Bin (tree.Other (token.Assign token.Set)) (tree.Var (codes "n"))
    (tree.Bin (tree.Add token.Plus) (tree.Var (codes "n")) (tree.Leaf (token.Number (codes "1"))))))))
    (tree.And (tree.Simple (tree.Put tree.Print (tree.Listed (tree.Then (tree.Var (codes "n")) tree.NoTree)) tree.NoTarget)) tree.NoStmt))) ∷ []

-- a test on numbers, and a sum
pub counted_in_a_loop : lanes_of counted_up ≡ record { numbers = Unboxed ∷ []; globals = Unboxed ∷ []; parameters = []; lenders = [] } × is_sorted (with_lanes counted_up) ≡ true
    × mid_run_in (with_lanes counted_up) (setting_of (job_with [] []) no_input empty) 20 ≡ Ended 0 (puts Standard (codes "10\n"))
unfolding special_arrays special_scalars spend_all asked loop over_keys first_assigned records_done evaluated all_evaluated stepped all_stepped mid_called sorted all_sorted step_sorted steps_sorted texts_in all_texts stmt_texts stmts_texts code_of codes_of key_code kept_code argument_codes truncated_code applied_code step_code steps_code numeral_at sign_at fraction_at exponent_at numerator denominator digits unescaped escaped octal keywords builtins left_out_words
counted_in_a_loop = (refl, refl, refl)

-- what was never stored is the empty text, and nought
pub never_stored : lanes_of scripts.unset_name ≡ record { numbers = Unboxed ∷ []; globals = Unboxed ∷ []; parameters = []; lenders = [] } × is_sorted (with_lanes scripts.unset_name) ≡ true
    × mid_run_in (with_lanes scripts.unset_name) (setting_of (job_with [] []) no_input empty) 20 ≡ Ended 0 (puts Standard (codes "[] 0\n"))
unfolding special_arrays special_scalars spend_all asked loop over_keys first_assigned records_done evaluated all_evaluated stepped all_stepped mid_called sorted all_sorted step_sorted steps_sorted texts_in all_texts stmt_texts stmts_texts code_of codes_of key_code kept_code argument_codes truncated_code applied_code step_code steps_code numeral_at sign_at fraction_at exponent_at numerator denominator digits unescaped escaped octal keywords builtins left_out_words
never_stored = (refl, refl, refl)

-- -v n=007: the text is printed as it is, and counted as its number
pub text_then_number : lanes_of scripts.assigned_before ≡ record { numbers = Unboxed ∷ []; globals = Unboxed ∷ []; parameters = []; lenders = [] }
    × is_sorted (with_lanes scripts.assigned_before) ≡ true
    × mid_run_in (with_lanes scripts.assigned_before) (setting_of (job_with [] ((codes "n", codes "007") ∷ [])) no_input empty) 20
    ≡ Ended 0 (puts Standard (codes "007\n8\n"))
unfolding special_arrays special_scalars spend_all asked loop over_keys first_assigned records_done evaluated all_evaluated stepped all_stepped mid_called sorted all_sorted step_sorted steps_sorted texts_in all_texts stmt_texts stmts_texts code_of codes_of key_code kept_code argument_codes truncated_code applied_code step_code steps_code numeral_at sign_at fraction_at exponent_at numerator denominator digits unescaped escaped octal keywords builtins left_out_words
text_then_number = (refl, refl, refl)

-- BEGIN { a = 2^53; print a * a }
pub range_of_a_product : lanes_of scripts.product_past_range ≡ record { numbers = Unboxed ∷ []; globals = Unboxed ∷ []; parameters = []; lenders = [] }
    × is_sorted (with_lanes scripts.product_past_range) ≡ true
    × mid_run_in (with_lanes scripts.product_past_range) (setting_of (job_with [] []) no_input empty) 20 ≡ FaultedBy Range []
unfolding special_arrays special_scalars spend_all asked loop over_keys first_assigned records_done evaluated all_evaluated stepped all_stepped mid_called sorted all_sorted step_sorted steps_sorted texts_in all_texts stmt_texts stmts_texts code_of codes_of key_code kept_code argument_codes truncated_code applied_code step_code steps_code numeral_at sign_at fraction_at exponent_at numerator denominator digits unescaped escaped octal keywords builtins left_out_words
range_of_a_product = (refl, refl, refl)

-- BEGIN { n = 1; print n ++ 2; print "a" ++n; x = 1 + 2 " " 3; .. }: the steps of n are numbers, and what x is given is a text
pub steps_are_numbers : lanes_of scripts.steps_and_powers ≡ record { numbers = Unboxed ∷ Boxed ∷ []; globals = Unboxed ∷ Boxed ∷ []; parameters = []; lenders = [] }
    × is_sorted (with_lanes scripts.steps_and_powers) ≡ true
unfolding special_arrays special_scalars sorted all_sorted step_sorted steps_sorted texts_in all_texts stmt_texts stmts_texts code_of codes_of key_code kept_code argument_codes truncated_code applied_code step_code steps_code numeral_at sign_at fraction_at exponent_at numerator denominator digits unescaped escaped octal keywords builtins left_out_words
steps_are_numbers = (refl, refl)
