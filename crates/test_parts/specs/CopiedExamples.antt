-- Copies of names of numbers: which names take them, runs of scripts where they bring a text of the command line, and when a text comes to a name.
use Rattle.std.specs.Prelude.{◌≡◌, ℕ, Bool, true, false, List, [], ◌∷◌, codes, Option, None, Some, refl}
use Rattle.std.specs.Fmt.{digits}
use Rattle.awk_text.specs.Reading.{numeral_at, sign_at, fraction_at, exponent_at}
use Rattle.awk_text.specs.Number.{numerator, denominator}
use Rattle.awk_text.specs.Escapes.{unescaped}
use Rattle.awk_values.specs.declared.value.Value.TheVariants.{Uninit}
use Rattle.awk_tokens.specs.Words.{keywords, builtins, left_out_words}
use Rattle.awk_grammar.specs.Kinds.{special_arrays, special_scalars}
use Rattle.awk_grammar.specs.Token.{Plus, Assign, Set, Number}
use Rattle.awk_grammar.specs.Trees.{Tree, Leaf, Var, Bin, Other, Add, Then, NoTree, Stmt, And, NoStmt, Simple, Eval, Put, Print, Listed, NoTarget, Always, Begin}
use Rattle.world_core.specs.WorldState.{Standard, Outside, puts}
use Rattle.world_core.specs.declared.world.Ending.TheVariants.{End}
use Rattle.sem_primitives.specs.Jobs.{JobForm}
use Rattle.wasm_store.specs.declared.word.Word.TheVariants.{I32, I64}
use Rattle.sem_scripts.specs.Kinds.{resolved}
use Rattle.sem_scripts.specs.ScriptRun.{Ended, setting_of}
use Rattle.mid_program.specs.Mid.{Boxed, Unboxed, Slot, Global, Parameter, Program, Form, a_number, a_value}
use Rattle.mid_program.specs.Sorted.{Context, takes, kinds_of, mixed_of, sorted, all_sorted, step_sorted, steps_sorted, is_sorted}
use Rattle.mid_program.specs.Texts.{texts_in, all_texts, stmt_texts, stmts_texts}
use Rattle.mid_program.specs.Translation.{code_of, codes_of, key_code, kept_code, argument_codes, truncated_code, applied_code, step_code, steps_code, program_of}
use Rattle.script_code.specs.Coded.{unboxed}
use Rattle.lower_model.specs.Emission.{emitted, all_emitted}
use Rattle.lower_model.specs.Statements.{step_emitted, steps_emitted}
use Rattle.lower_model.specs.Cells.{Cell, Bits, Held, Gone, may_come}
use Rattle.lower_model.specs.Small.{minus_one}
use Rattle.lower_model.specs.Runs.{value_run}
use Rattle.test_parts.specs.Settings.{empty, no_input, with_file}

abbrev i : Tree
i = Var (codes "i")

abbrev set_to : List ℕ → Tree → Tree
set_to x t = Bin (Other (Assign Set)) (Var x) t

abbrev does : Tree → Stmt
does t = Simple (Eval t)

abbrev counts_i : Stmt
counts_i = does (set_to (codes "i") (Bin (Add Plus) i (Leaf (Number (codes "1")))))

-- BEGIN { m = n = i; i = i + 1; k = k; r = NR; print m, n, i }
abbrev copies : Program
copies = unboxed (program_of (resolved (Begin (And (does (set_to (codes "m") (set_to (codes "n") i))) (And counts_i
    (And (does (set_to (codes "k") (Var (codes "k")))) (And (does (set_to (codes "r") (Var (codes "NR"))))
    (And (Simple (Put Print (Listed (Then (Var (codes "m")) (Then (Var (codes "n")) (Then i NoTree)))) NoTarget)) NoStmt))))) ∷ [])))

-- -v i=007
abbrev job : JobForm
job = record { operands = []; assigns = (codes "i", codes "007") ∷ []; environment = [] }

-- n takes a copy of i. What an assignment gives is no copy, so m is boxed; so are a name that is copied to itself alone, and one with a special variable's value
pub copies_are_told_apart : kinds_of copies.globals ≡ Boxed ∷ Unboxed ∷ Unboxed ∷ Boxed ∷ Boxed ∷ []
    × mixed_of copies.globals ≡ false ∷ true ∷ false ∷ false ∷ false ∷ []
    × is_sorted copies ≡ true
    × value_run copies (setting_of job no_input empty) 4000 ≡ Some (Ended 0 (puts Standard (codes "007 007 8\n")))
unfolding special_arrays special_scalars sorted all_sorted step_sorted steps_sorted emitted all_emitted step_emitted steps_emitted texts_in all_texts stmt_texts stmts_texts code_of codes_of key_code kept_code argument_codes truncated_code applied_code step_code steps_code numeral_at sign_at fraction_at exponent_at numerator denominator digits unescaped keywords builtins left_out_words
copies_are_told_apart = (refl, refl, refl, refl)

-- { n = i; print n; i = i + 1 }
abbrev copied_each_time : Program
copied_each_time = unboxed (program_of (resolved (Always (And (does (set_to (codes "n") i))
    (And (Simple (Put Print (Listed (Then (Var (codes "n")) NoTree)) NoTarget)) (And counts_i NoStmt))) ∷ [])))

abbrev files : Outside
files = with_file (codes "f") (codes "a\nb\n") End (with_file (codes "g") (codes "c\n") End empty)

abbrev between : JobForm
between = record { operands = codes "f" ∷ (codes "i=07" ∷ (codes "g" ∷ [])); assigns = []; environment = [] }

-- operands f, i=07, g: nothing, a number, and a text that came between records
pub copied_between_records : is_sorted copied_each_time ≡ true
    × value_run copied_each_time (setting_of between no_input files) 4000 ≡ Some (Ended 0 (puts Standard (codes "\n1\n07\n")))
unfolding special_arrays special_scalars sorted all_sorted step_sorted steps_sorted emitted all_emitted step_emitted steps_emitted texts_in all_texts stmt_texts stmts_texts code_of codes_of key_code kept_code argument_codes truncated_code applied_code step_code steps_code numeral_at sign_at fraction_at exponent_at numerator denominator digits unescaped keywords builtins left_out_words
copied_between_records = (refl, refl)

-- globals 0, into which copies are stored, 1, of numbers alone, and 2, which is boxed; an unboxed parameter and a boxed one
abbrev among : List (Option ℕ) → Context
among lenders = record {
  texts = 0;
  globals = Unboxed ∷ (Unboxed ∷ (Boxed ∷ []));
  mixed = true ∷ (false ∷ (false ∷ []));
  arrays = 0;
  ranges = 0;
  calls = [];
  parameters = Unboxed ∷ (Boxed ∷ []);
  lenders = lenders;
}

abbrev takes_here : Slot → Option Slot → Form → Bool
takes_here = takes (among (None ∷ (None ∷ [])))

-- a copy of a name of numbers, of a boxed name, and a value that is no copy
pub mixed_name_takes_copies : takes_here (Global true 0) (Some (Global true 1)) a_value ≡ true
    × takes_here (Global true 0) (Some (Parameter true 0)) a_value ≡ true
    × takes_here (Global true 0) None a_number ≡ true
    × takes_here (Global true 0) (Some (Global false 2)) a_value ≡ false
    × takes_here (Global true 0) None a_value ≡ false
mixed_name_takes_copies = (refl, refl, refl, refl, refl)

pub name_of_numbers_takes_none : takes_here (Global true 1) None a_number ≡ true
    × takes_here (Global true 1) (Some (Global true 0)) a_value ≡ false
    × takes_here (Parameter true 0) None a_number ≡ true
    × takes_here (Parameter true 0) (Some (Global true 1)) a_value ≡ false
name_of_numbers_takes_none = (refl, refl, refl, refl)

pub boxed_name_takes_all : takes_here (Global false 2) (Some (Global true 0)) a_value ≡ true × takes_here (Parameter false 1) None a_value ≡ true
boxed_name_takes_all = (refl, refl)

-- nothing is stored into a global that lends, nor into the parameters to which it does
pub lender_takes_nothing : takes (among (Some 1 ∷ [])) (Global true 1) None a_number ≡ false
    × takes (among (Some 1 ∷ [])) (Parameter true 0) None a_number ≡ false
    × takes (among (Some 1 ∷ [])) (Global true 0) None a_number ≡ true
lender_takes_nothing = (refl, refl, refl)

-- Of two names whose globals begin at the fifth, numbers alone come to the first, and copies to the second.
abbrev comes : (assigning : Option ℕ) → (place : ℕ) → (old new : Cell) → Bool
comes = may_come 5 (true ∷ (false ∷ []))

abbrev none_beside : Cell
none_beside = Bits (I32 minus_one)

-- a text comes to the first while the command line assigns to that name, and back to where it was moved from
pub text_for_a_number : comes None 5 none_beside (Held Uninit) ≡ false
    × comes (Some 1) 5 none_beside (Held Uninit) ≡ false
    × comes (Some 0) 5 none_beside (Held Uninit) ≡ true
    × comes None 5 Gone (Held Uninit) ≡ true
text_for_a_number = (refl, refl, refl, refl)

pub text_for_a_copy : comes None 7 none_beside (Held Uninit) ≡ true
text_for_a_copy = refl

-- words come to all
pub word_for_a_number : comes None 5 (Held Uninit) none_beside ≡ true × comes None 6 none_beside (Bits (I64 7)) ≡ true
word_for_a_number = (refl, refl)
