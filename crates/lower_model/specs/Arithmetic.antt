-- Arithmetic and comparison that the module carries out itself. Operands stand in a temporary and the next one; the result goes to the first.
use Rattle.std.specs.Prelude.{ℕ, zero, suc, ◌+◌, ◌^◌, Bool, true, false, ◌||◌, None, if◌then◌else◌}
use Rattle.awk_text.specs.Number.{largest}
use Rattle.awk_values.specs.declared.fault.Fault.TheVariants.{Range, DivisionByZero, Inexact, FieldNumber}
use Rattle.awk_values.specs.declared.comparison.CompareOp.{CompareOp}
use Rattle.awk_values.specs.declared.comparison.CompareOp.TheVariants as compare
use Rattle.sem_primitives.specs.ConstantNumbers.{comparison_number}
use Rattle.sem_primitives.specs.Limits.{most_fields}
use Rattle.sem_primitives.specs.declared.sorts.Sort.TheVariants as sort
use Rattle.sem_primitives.specs.declared.sorts.Answer.TheVariants as answer
use Rattle.sem_primitives.specs.declared.table.Primitive.TheVariants as row
use Rattle.wasm_types.specs.Syntax.{Block, Instructions, Done, Then}
use Rattle.wasm_types.specs.declared.types.ValType.TheVariants.{I32, I64}
use Rattle.wasm_types.specs.declared.instr.Simple.TheVariants.{Br, BrIf, LocalGet, LocalSet, I32Const, I64Const, Test, Compare, Binary, Convert}
use Rattle.wasm_types.specs.declared.instr.IBinOp.{IBinOp}
use Rattle.wasm_types.specs.declared.instr.IBinOp.TheVariants.{Add, Sub, Mul, DivS, RemS, And, Or}
use Rattle.wasm_types.specs.declared.instr.IRelOp.{IRelOp}
use Rattle.wasm_types.specs.declared.instr.IRelOp.TheVariants.{Eq, Ne, LtS, LeS, GtS, GeS, GtU}
use Rattle.wasm_types.specs.declared.instr.ITestOp.TheVariants.{Eqz}
use Rattle.wasm_types.specs.declared.instr.CvtOp.TheVariants.{I64ExtendI32U}
use Rattle.mid_program.specs.declared.mid.Arithmetic.{Arithmetic}
use Rattle.mid_program.specs.declared.mid.Arithmetic.TheVariants as inline
use Rattle.mid_program.specs.Mid.{Form, PrimitiveAnswer, NumberOrText, OptionalNumber}
use Rattle.lower_model.specs.Places.{Bases, handle_local, number_local}
use Rattle.lower_model.specs.Small.{emit, ask_row, emit_if, text_beside, moved_out, fail_if, number_is, kept_code, to_value, zeroed}

-- whether the number in a local is out of range
abbrev pub out_of_range : ℕ → Instructions → Instructions
out_of_range local after = emit (LocalGet local) (emit (I64Const largest) (emit (Binary I64 Add) (emit (I64Const (2 ^ 54)) (emit (Compare I64 GtU) after))))

abbrev pub two_numbers : ℕ → ℕ → IBinOp → Instructions → Instructions
two_numbers left right op after = emit (LocalGet left) (emit (LocalGet right) (emit (Binary I64 op) after))

-- a sum or a difference
abbrev pub ranged : IBinOp → ℕ → ℕ → ℕ → Instructions → Instructions
ranged op left right exit after = two_numbers left right op (emit (LocalSet left) (out_of_range left (fail_if Range exit after)))

-- A product may pass 64 bits: it did not exactly where it divided by a factor that is not 0 gives the other factor.
abbrev pub factors_differ : ℕ → ℕ → ℕ → Instructions → Instructions
factors_differ product left right after =
    emit (LocalGet product)
    (emit (LocalGet left) (emit (LocalGet left) (emit (Test I64 Eqz) (emit (Convert I64ExtendI32U) (emit (Binary I64 Add) (emit (Binary I64 DivS)
    (emit (LocalGet right) (emit (Compare I64 Ne)
    (emit (LocalGet left) (emit (I64Const 0) (emit (Compare I64 Ne) (emit (Binary I32 And) after))))))))))))

-- a product of any two numbers
abbrev pub any_product : ℕ → ℕ → ℕ → ℕ → Instructions → Instructions
any_product left right product exit after = two_numbers left right Mul (emit (LocalSet product)
    (factors_differ product left right
    (out_of_range product (emit (Binary I32 Or) (fail_if Range exit (emit (LocalGet product) (emit (LocalSet left) after)))))))

-- numbers of at most this size are near 0: the product of two is in range
abbrev pub near : ℕ
near = 2 ^ 26

-- whether the number in a local is far from 0
abbrev pub far_off : ℕ → Instructions → Instructions
far_off local after = emit (LocalGet local) (emit (I64Const near) (emit (Binary I64 Add) (emit (I64Const (near + near)) (emit (Compare I64 GtU) after))))

-- within two blocks: the product of two numbers near 0, and out of both; where one is far, out of the inner one
abbrev pub near_product : ℕ → ℕ → Instructions → Instructions
near_product left right after = far_off left (emit (BrIf zero) (far_off right (emit (BrIf zero) (two_numbers left right Mul
    (emit (LocalSet left) (emit (Br 1) after))))))

abbrev pub times : ℕ → ℕ → ℕ → ℕ → Instructions → Instructions
times left right product exit after =
    Then (Block None (Then (Block None (near_product left right Done)) (any_product left right product (suc exit) Done))) after

abbrev pub unless_zero : ℕ → ℕ → Instructions → Instructions
unless_zero right exit after = emit (LocalGet right) (emit (Test I64 Eqz) (fail_if DivisionByZero exit after))

abbrev pub divided : IBinOp → ℕ → ℕ → Instructions → Instructions
divided op left right after = two_numbers left right op (emit (LocalSet left) after)

-- a quotient is whole
abbrev pub unless_broken : ℕ → ℕ → ℕ → Instructions → Instructions
unless_broken left right exit after = two_numbers left right RemS (emit (I64Const 0) (emit (Compare I64 Ne) (fail_if Inexact exit after)))

abbrev pub relation : CompareOp → IRelOp
relation compare.Less = LtS
relation compare.LessOrEqual = LeS
relation compare.Equal = Eq
relation compare.NotEqual = Ne
relation compare.Greater = GtS
relation compare.GreaterOrEqual = GeS

-- whether a form is a value that only the host compares, and whether a text may stand beside a number
abbrev pub is_value : Form → Bool
is_value (PrimitiveAnswer (answer.Of sort.Number)) = false
is_value (PrimitiveAnswer answer.Truth) = false
is_value NumberOrText = false
is_value OptionalNumber = false
is_value form = true

abbrev pub may_be_text : Form → Bool
may_be_text NumberOrText = true
may_be_text form = false

module _ (bases : Bases) where
  abbrev pub calculated : Arithmetic → ℕ → ℕ → Instructions → Instructions
  calculated inline.Plus temporary exit after = ranged Add (number_local bases temporary) (number_local bases (suc temporary)) exit after
  calculated inline.Minus temporary exit after = ranged Sub (number_local bases temporary) (number_local bases (suc temporary)) exit after
  calculated inline.Times temporary exit after =
      times (number_local bases temporary) (number_local bases (suc temporary)) (number_local bases (suc (suc temporary))) exit after
  calculated inline.Over temporary exit after =
      unless_zero (number_local bases (suc temporary)) exit (unless_broken (number_local bases temporary) (number_local bases (suc temporary)) exit
      (divided DivS (number_local bases temporary) (number_local bases (suc temporary)) after))
  calculated inline.Modulo temporary exit after =
      unless_zero (number_local bases (suc temporary)) exit (divided RemS (number_local bases temporary) (number_local bases (suc temporary)) after)
  calculated inline.Truncated temporary exit after =
      unless_zero (number_local bases (suc temporary)) exit (divided DivS (number_local bases temporary) (number_local bases (suc temporary)) after)

  -- a field's number is from 0 to that of the last one: a negative one is a large one without its sign
  abbrev pub field_checked : ℕ → ℕ → Instructions → Instructions
  field_checked temporary exit after =
      emit (LocalGet (number_local bases temporary)) (emit (I64Const most_fields) (emit (Compare I64 GtU) (fail_if FieldNumber exit after)))

  -- Comparison: by the host where one is a value, or a text stands beside one; else of numbers, of which one that is not there yet is 0.

  abbrev pub values_compared : CompareOp → Form → Form → ℕ → ℕ → Instructions → Instructions
  values_compared op left right temporary exit after =
      to_value bases left temporary (to_value bases right (suc temporary)
      (emit (I32Const (comparison_number op)) (moved_out (handle_local bases temporary)
      (moved_out (handle_local bases (suc temporary)) (ask_row row.Compare (kept_code bases true temporary exit after))))))

  abbrev pub zeroed_if : Form → ℕ → Instructions → Instructions
  zeroed_if NumberOrText temporary after = zeroed bases temporary after
  zeroed_if OptionalNumber temporary after = zeroed bases temporary after
  zeroed_if form temporary after = after

  abbrev pub numbers_compared : CompareOp → Form → Form → ℕ → Instructions → Instructions
  numbers_compared op left right temporary after =
      zeroed_if left temporary (zeroed_if right (suc temporary)
      (emit (LocalGet (number_local bases temporary)) (emit (LocalGet (number_local bases (suc temporary)))
      (emit (Compare I64 (relation op)) (emit (Convert I64ExtendI32U) (emit (LocalSet (number_local bases temporary)) after))))))

  -- whether a text stands beside one of the two
  abbrev pub texts_beside : Form → Form → ℕ → Instructions → Instructions
  texts_beside NumberOrText NumberOrText temporary after =
      number_is (number_local bases temporary) text_beside (number_is (number_local bases (suc temporary)) text_beside (emit (Binary I32 Or) after))
  texts_beside NumberOrText right temporary after = number_is (number_local bases temporary) text_beside after
  texts_beside left right temporary after = number_is (number_local bases (suc temporary)) text_beside after

  abbrev pub bare_compared : CompareOp → Form → Form → ℕ → ℕ → Instructions → Instructions
  bare_compared op left right temporary exit after =
      if may_be_text left || may_be_text right
      then texts_beside left right temporary
      (emit_if (values_compared op left right temporary (suc exit) Done) (numbers_compared op left right temporary Done) after)
      else numbers_compared op left right temporary after

  abbrev pub compared : CompareOp → Form → Form → ℕ → ℕ → Instructions → Instructions
  compared op left right temporary exit after =
      if is_value left || is_value right then values_compared op left right temporary exit after else bare_compared op left right temporary exit after
