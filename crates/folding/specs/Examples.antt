-- Folding, computed on code, and the run of a folded script.
use Rattle.std.specs.Prelude.{◌≡◌, ℕ, true, List, [], ◌∷◌, codes, pos, neg_ℤ, refl}
use Rattle.std.specs.Fmt.{digits}
use Rattle.awk_text.specs.Reading.{numeral_at, sign_at, fraction_at, exponent_at}
use Rattle.awk_text.specs.Number.{numerator, denominator}
use Rattle.awk_text.specs.Escapes.{unescaped, escaped, octal}
use Rattle.awk_values.specs.declared.fault.Fault.TheVariants.{DivisionByZero}
use Rattle.world_core.specs.WorldState.{Standard, Outside, Source, absent, puts}
use Rattle.world_core.specs.declared.world.Ending.TheVariants.{End}
use Rattle.sem_primitives.specs.Jobs.{JobForm}
use Rattle.sem_primitives.specs.declared.table.Primitive.TheVariants.{Pow, Field}
use Rattle.sem_primitives.specs.declared.sorts.Sort.TheVariants as sort
use Rattle.awk_grammar.specs.Kinds.{special_arrays, special_scalars}
use Rattle.awk_tokens.specs.Words.{keywords, builtins, left_out_words}
use Rattle.awk_grammar.specs.Token as token
use Rattle.awk_grammar.specs.Trees as tree
use Rattle.awk_grammar.specs.Trees.{Item}
use Rattle.sem_scripts.specs.ScriptState.{spend_all}
use Rattle.sem_scripts.specs.Kinds.{resolved}
use Rattle.sem_scripts.specs.Meaning.{asked}
use Rattle.sem_scripts.specs.Statements.{loop, over_keys}
use Rattle.sem_scripts.specs.ScriptRun.{first_assigned, records_done, Ended, FaultedBy, setting_of}
use Rattle.mid_program.specs.Mid.{Code, Do, Number, Choose, Let, Bound}
use Rattle.mid_program.specs.MidMeaning.{evaluated, all_evaluated, stepped, all_stepped, mid_called, mid_run_in}
use Rattle.mid_program.specs.Sorted.{sorted, all_sorted, step_sorted, steps_sorted, is_sorted}
use Rattle.mid_program.specs.Texts.{texts_in, all_texts, stmt_texts, stmts_texts}
use Rattle.mid_program.specs.Translation.{one, two, code_of, codes_of, key_code, kept_code, argument_codes, truncated_code, applied_code, step_code, steps_code, program_of}
use Rattle.mid_program.specs.declared.mid.Arithmetic.TheVariants.{Plus, Minus, Times, Over, Modulo, Truncated}
use Rattle.mid_program.specs.declared.mid.Operation.TheVariants.{Host, Inline, AsNumber, FieldNumber}
use Rattle.folding.specs.Folding.{folded, fold}

abbrev number : ℕ → Code
number n = Number (pos n)

abbrev minus : ℕ → Code
minus n = Number (neg_ℤ (pos n))

-- 2 ^ 3 * 4
pub power_times : folded (Do (Inline Times) (two (Do (Host Pow) (two (number 2) (number 3))) (number 4))) ≡ number 32
power_times = refl

-- -7 % 3, int(-7 / 2), -5
pub signs : (folded (Do (Inline Modulo) (two (minus 7) (number 3))) ≡ minus 1) × (folded (Do (Inline Truncated) (two (minus 7) (number 2))) ≡ minus 3)
    × (folded (Do (Inline Minus) (two (number 0) (number 5))) ≡ minus 5)
signs = (refl, refl, refl)

-- 1 / 0, 7 / 2, 2 ^ -1: they fault, and stay
pub faults_stay :
    (folded (Do (Inline Over) (two (number 1) (number 0))) ≡ Do (Inline Over) (two (number 1) (number 0))) ×
    (folded (Do (Inline Over) (two (number 7) (number 2))) ≡ Do (Inline Over) (two (number 7) (number 2))) ×
    (folded (Do (Host Pow) (two (number 2) (minus 1))) ≡ Do (Host Pow) (two (number 2) (minus 1)))
faults_stay = (refl, refl, refl)

-- 2 ^ 53 + 1: the power is computed, the sum faults and stays
pub range_stays : folded (Do (Inline Plus) (two (Do (Host Pow) (two (number 2) (number 53))) (number 1)))
    ≡ Do (Inline Plus) (two (number 9007199254740992) (number 1))
range_stays = refl

-- the number of a field is checked; -1 is none, and stays
pub field_numbers : (folded (Do (Host Field) (one (Do FieldNumber (one (number 1))))) ≡ Do (Host Field) (one (number 1)))
    × (folded (Do FieldNumber (one (minus 1))) ≡ Do FieldNumber (one (minus 1)))
field_numbers = (refl, refl)

-- what is kept, and what is chosen, is folded within
pub within : folded (Let (Do AsNumber (one (number 3))) (Choose sort.Number (Bound true 0) (Do (Inline Plus) (two (number 1) (number 1))) (number 0)))
    ≡ Let (number 3) (Choose sort.Number (Bound true 0) (number 2) (number 0))
within = refl

-- BEGIN { if (0) print 1/0; print 2^3*4 }
abbrev constant_parts : List Item
constant_parts = (tree.Begin (tree.And (tree.If (tree.Leaf (token.Number (codes "0")))
    (tree.Simple (tree.Put tree.Print
    (tree.Listed (tree.Then (tree.Bin (tree.Other (token.Mul token.Over)) (tree.Leaf (token.Number (codes "1")))
    (tree.Leaf (token.Number (codes "0")))) tree.NoTree)) tree.NoTarget)))
    (tree.And (tree.Simple (tree.Put tree.Print
    (tree.Listed (tree.Then (tree.Bin (tree.Other (token.Mul token.Times)) (tree.Bin (tree.Other token.Pow) (tree.Leaf (token.Number (codes "2")))
    (tree.Leaf (token.Number (codes "3")))) (tree.Leaf (token.Number (codes "4")))) tree.NoTree)) tree.NoTarget)) tree.NoStmt))) ∷ []

-- BEGIN { print 1; print 1/0 }
abbrev fault_reached : List Item
fault_reached = (tree.Begin (tree.And (tree.Simple
    (tree.Put tree.Print (tree.Listed (tree.Then (tree.Leaf (token.Number (codes "1"))) tree.NoTree)) tree.NoTarget))
    (tree.And (tree.Simple (tree.Put tree.Print
    (tree.Listed (tree.Then (tree.Bin (tree.Other (token.Mul token.Over)) (tree.Leaf (token.Number (codes "1")))
    (tree.Leaf (token.Number (codes "0")))) tree.NoTree)) tree.NoTarget)) tree.NoStmt))) ∷ []

abbrev no_job : JobForm
no_job = record { operands = []; assigns = []; environment = [] }

abbrev no_input : Source
no_input = record { rest = []; ending = End }

abbrev empty : Outside
empty = λ target. absent

pub constant_parts_run : is_sorted (fold (program_of (resolved constant_parts))) ≡ true
    × mid_run_in (fold (program_of (resolved constant_parts))) (setting_of no_job no_input empty) 20 ≡ Ended 0 (puts Standard (codes "32\n"))
unfolding special_arrays special_scalars spend_all asked loop over_keys first_assigned records_done evaluated all_evaluated stepped all_stepped mid_called sorted all_sorted step_sorted steps_sorted texts_in all_texts stmt_texts stmts_texts code_of codes_of key_code kept_code argument_codes truncated_code applied_code step_code steps_code numeral_at sign_at fraction_at exponent_at numerator denominator digits unescaped escaped octal keywords builtins left_out_words
constant_parts_run = (refl, refl)

pub fault_reached_run : mid_run_in (fold (program_of (resolved fault_reached))) (setting_of no_job no_input empty) 20
    ≡ FaultedBy DivisionByZero (puts Standard (codes "1\n"))
unfolding special_arrays special_scalars spend_all asked loop over_keys first_assigned records_done evaluated all_evaluated stepped all_stepped mid_called texts_in all_texts stmt_texts stmts_texts code_of codes_of key_code kept_code argument_codes truncated_code applied_code step_code steps_code numeral_at sign_at fraction_at exponent_at numerator denominator digits unescaped escaped octal keywords builtins left_out_words
fault_reached_run = refl
