-- Parts of the definitions, which are added by functions of their own.
use Rattle.std.specs.Prelude.{ℕ, suc, true}
use Rattle.awk_values.specs.declared.comparison.CompareOp.{CompareOp}
use Rattle.sem_primitives.specs.ConstantNumbers.{comparison_number}
use Rattle.sem_primitives.specs.declared.table.Primitive.TheVariants.{Compare, Truth}
use Rattle.wasm_types.specs.Syntax.{Instructions, Done}
use Rattle.wasm_types.specs.declared.instr.CvtOp.TheVariants.{I64ExtendI32U}
use Rattle.wasm_types.specs.declared.instr.Simple.TheVariants.{Convert, I32Const, LocalSet}
use Rattle.mid_program.specs.Mid.{Form}
use Rattle.lower_model.specs.Arithmetic.{any_product, near_product, numbers_compared, texts_beside, values_compared}
use Rattle.lower_model.specs.Places.{Bases, handle_local, number_local}
use Rattle.lower_model.specs.Small.{ask_row, emit, emit_if, kept_code, moved_out, number_is, text_beside, zeroed}
use Rattle.lower_model.specs.Statements.{block}

-- what an unboxed name has becomes a number with its truth
abbrev pub emit_truth : Bases → ℕ → Instructions → Instructions
emit_truth bases temporary after =
    number_is (number_local bases temporary) text_beside
    (emit_if (moved_out (handle_local bases temporary) (ask_row Truth (emit (Convert I64ExtendI32U) (emit (LocalSet (number_local bases temporary)) Done))))
    (zeroed bases temporary Done) after)

-- a product's quick way, in a block, and then the one of all cases
abbrev pub product_inside : ℕ → ℕ → ℕ → ℕ → Instructions → Instructions
product_inside left right product exit after = block (near_product left right Done) (any_product left right product (suc exit) after)

-- the host is asked for a comparison of two values
abbrev pub host_compared : Bases → CompareOp → ℕ → ℕ → Instructions → Instructions
host_compared bases op temporary exit after =
    emit (I32Const (comparison_number op))
    (moved_out (handle_local bases temporary) (moved_out (handle_local bases (suc temporary)) (ask_row Compare (kept_code bases true temporary exit after))))

-- both comparisons, and the test which of them is made
abbrev pub emit_compare : Bases → CompareOp → Form → Form → ℕ → ℕ → Instructions → Instructions
emit_compare bases op left right temporary exit after =
    texts_beside bases left right temporary
    (emit_if (values_compared bases op left right temporary (suc exit) Done) (numbers_compared bases op left right temporary Done) after)
