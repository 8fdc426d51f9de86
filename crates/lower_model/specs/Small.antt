-- Small pieces of emitted code, each with the code after it: answers are kept, handles are moved, copied and let go, and one form is converted to another.
-- A temporary's local of 32 bits holds a handle or -1, and nothing else.
use Rattle.std.specs.Prelude.{ℕ, suc, ◌+◌, ◌-◌, ◌^◌, Bool, true, false, None}
use Rattle.awk_values.specs.Faults.{fault_number}
use Rattle.awk_values.specs.declared.fault.Fault.{Fault}
use Rattle.sem_primitives.specs.declared.sorts.Sort.{Sort}
use Rattle.sem_primitives.specs.declared.sorts.Sort.TheVariants as sort
use Rattle.sem_primitives.specs.declared.sorts.Answer.{Answer}
use Rattle.sem_primitives.specs.declared.sorts.Answer.TheVariants as answer
use Rattle.sem_primitives.specs.declared.table.Primitive.{Primitive}
use Rattle.sem_primitives.specs.declared.table.Primitive.TheVariants as row
use Rattle.wasm_types.specs.Syntax.{Plain, If, Instructions, Done, Then}
use Rattle.wasm_types.specs.declared.types.ValType.TheVariants.{I32, I64}
use Rattle.wasm_types.specs.declared.instr.Simple.{Simple}
use Rattle.wasm_types.specs.declared.instr.Simple.TheVariants.{Br, BrIf, Call, Drop as Discard, LocalGet, LocalSet, LocalTee, GlobalGet, I32Const, I64Const, Test, Compare, Binary, Convert}
use Rattle.wasm_types.specs.declared.instr.IBinOp.TheVariants.{Sub}
use Rattle.wasm_types.specs.declared.instr.IRelOp.TheVariants.{Eq, LeS, Ne}
use Rattle.wasm_types.specs.declared.instr.ITestOp.TheVariants.{Eqz}
use Rattle.wasm_types.specs.declared.instr.CvtOp.TheVariants.{I64ExtendI32S, I64ExtendI32U}
use Rattle.mid_program.specs.Mid.{Form, PrimitiveAnswer, NumberOrText, OptionalNumber}
use Rattle.host_imports.specs.Names.{import_number}
use Rattle.lower_model.specs.Places.{Bases, text_global, handle_local, number_local}
use Rattle.host_imports.specs.declared.import.Import.{Import}
use Rattle.host_imports.specs.declared.import.Import.TheVariants.{OfPrimitive, Drop}

-- one instruction before others
abbrev pub emit : Simple → Instructions → Instructions
emit simple after = Then (Plain simple) after

abbrev pub ask : Import → Instructions → Instructions
ask import after = emit (Call (import_number import)) after

abbrev pub ask_row : Primitive → Instructions → Instructions
ask_row primitive after = ask (OfPrimitive primitive) after

abbrev pub when : Instructions → Instructions → Instructions
when so after = Then (If None so Done) after

abbrev pub emit_if : Instructions → Instructions → Instructions → Instructions
emit_if so otherwise after = Then (If None so otherwise) after

-- -1 and the least number of 64 bits stand for a fault. In an unboxed name the least one says that there is no number yet, and the next one that a
-- text stands beside.
abbrev pub minus_one : ℕ
minus_one = 2 ^ 32 - 1

abbrev pub end_code : ℕ
end_code = 2 ^ 32 - 2

abbrev pub least : ℕ
least = 2 ^ 63

abbrev pub text_beside : ℕ
text_beside = 2 ^ 63 + 1

-- what a function answers that was left: no name has it
abbrev pub was_left : ℕ
was_left = 2 ^ 63 + 2

-- Handles.

-- out of its local onto the stack
abbrev pub moved_out : ℕ → Instructions → Instructions
moved_out local after = emit (LocalGet local) (emit (I32Const minus_one) (emit (LocalSet local) after))

-- from local to local
abbrev pub moved : ℕ → ℕ → Instructions → Instructions
moved from to after = moved_out from (emit (LocalSet to) after)

abbrev pub emptied : ℕ → Instructions → Instructions
emptied local after = emit (I32Const minus_one) (emit (LocalSet local) after)

-- whether a local has a handle
abbrev pub has_handle : ℕ → Instructions → Instructions
has_handle local after = emit (LocalGet local) (emit (LocalTee local) (emit (I32Const minus_one) (emit (Compare I32 Ne) after)))

-- what a local has is let go, if it has anything
abbrev pub let_go : Import → ℕ → Instructions → Instructions
let_go import local after = has_handle local (when (moved_out local (ask import Done)) after)

-- a second handle for the value of a place, which goes to a local and stays where it was: `get` and `set` read and write the place
abbrev pub copied : Simple → Simple → ℕ → Instructions → Instructions
copied get set to after = emit get (emit (LocalTee to) (ask_row row.Dup (emit set after)))

-- the same where there may be none
abbrev pub copied_if_any : Simple → Simple → ℕ → Instructions → Instructions
copied_if_any get set to after =
    emit get (emit (LocalTee to) (emit (I32Const minus_one) (emit (Compare I32 Ne)
    (when (copied (LocalGet to) set to Done) after))))

-- Faults.

-- where the topmost operand is not 0 a fault is kept and the function is left, whose exit is so many labels further out
abbrev pub fail_if : Fault → ℕ → Instructions → Instructions
fail_if fault exit after = when (emit (I32Const (fault_number fault)) (ask_row row.Fail (emit (Br (suc exit)) Done))) after

abbrev pub number_is : ℕ → ℕ → Instructions → Instructions
number_is local number after = emit (LocalGet local) (emit (I64Const number) (emit (Compare I64 Eq) after))

module _ (bases : Bases) where
  -- An answer goes to a temporary: a value's handle, a number, or a code as a number. Where it may stand for a fault, and does, the function is left.

  abbrev pub kept_code : Bool → ℕ → ℕ → Instructions → Instructions
  kept_code true temporary exit after =
      emit (Convert I64ExtendI32S)
      (emit (LocalTee (number_local bases temporary)) (emit (I64Const (2 ^ 64 - 1)) (emit (Compare I64 Eq) (emit (BrIf exit) after))))
  kept_code false temporary exit after = emit (Convert I64ExtendI32U) (emit (LocalSet (number_local bases temporary)) after)

  abbrev pub kept_value : Bool → ℕ → ℕ → Instructions → Instructions
  kept_value true temporary exit after =
      emit (LocalTee (handle_local bases temporary)) (emit (I32Const minus_one) (emit (Compare I32 Eq) (emit (BrIf exit) after)))
  kept_value false temporary exit after = emit (LocalSet (handle_local bases temporary)) after

  abbrev pub kept_number : Bool → ℕ → ℕ → Instructions → Instructions
  kept_number true temporary exit after =
      emit (LocalTee (number_local bases temporary)) (emit (I64Const least) (emit (Compare I64 Eq) (emit (BrIf exit) after)))
  kept_number false temporary exit after = emit (LocalSet (number_local bases temporary)) after

  abbrev pub kept_done : Bool → ℕ → Instructions → Instructions
  kept_done true exit after = emit (I32Const minus_one) (emit (Compare I32 Eq) (emit (BrIf exit) after))
  kept_done false exit after = emit Discard after

  -- The answer of a function: a number, or nothing, or that a text waits, which is moved to the temporary; or the function was left, and so is this one.

  abbrev pub text_taken : (temporary : ℕ) → Instructions → Instructions
  text_taken temporary after = emit (GlobalGet text_global) (emit (LocalSet (handle_local bases temporary)) after)

  abbrev pub text_or_left : (temporary exit : ℕ) → Instructions → Instructions
  text_or_left temporary exit after =
      number_is (number_local bases temporary) text_beside
      (emit_if (text_taken temporary Done) (number_is (number_local bases temporary) was_left (emit (BrIf (suc (suc exit))) Done)) after)

  abbrev pub answer_kept : (temporary exit : ℕ) → Instructions → Instructions
  answer_kept temporary exit after =
      emit (LocalTee (number_local bases temporary)) (emit (I64Const was_left) (emit (Compare I64 LeS) (when (text_or_left temporary exit Done) after)))

  abbrev pub kept : Bool → Answer → ℕ → ℕ → Instructions → Instructions
  kept faults (answer.Of sort.Value) temporary exit after = kept_value faults temporary exit after
  kept faults (answer.Of sort.Number) temporary exit after = kept_number faults temporary exit after
  kept faults answer.Truth temporary exit after = kept_code faults temporary exit after
  kept faults answer.Input temporary exit after = kept_code faults temporary exit after
  kept faults answer.Assign temporary exit after = kept_code faults temporary exit after
  kept faults answer.Stream temporary exit after = kept_code faults temporary exit after
  kept faults answer.Done temporary exit after = kept_done faults exit after
  kept faults _ temporary exit after = after

  -- Conversions in place: a temporary has something of this form, and gets what is wanted.

  abbrev pub boxed_number : ℕ → Instructions → Instructions
  boxed_number temporary after = emit (LocalGet (number_local bases temporary)) (ask_row row.Num after)

  -- a number, or none yet, as a value on the stack, where `put` takes it
  abbrev pub boxed_perhaps : ℕ → (put : Simple) → Instructions → Instructions
  boxed_perhaps temporary put after =
      number_is (number_local bases temporary) least (emit_if (ask_row row.Uninit (emit put Done)) (boxed_number temporary (emit put Done)) after)

  -- whether an unboxed name has no number: the two words that are none are the least ones
  abbrev pub unnumbered : ℕ → Instructions → Instructions
  unnumbered temporary after = emit (LocalGet (number_local bases temporary)) (emit (I64Const text_beside) (emit (Compare I64 LeS) after))

  -- the uninitialised value where there is nothing yet; a text beside is a value already
  abbrev pub nothing_boxed : ℕ → Instructions → Instructions
  nothing_boxed temporary after =
      number_is (number_local bases temporary) least (when (ask_row row.Uninit (emit (LocalSet (handle_local bases temporary)) Done)) after)

  abbrev pub to_value : Form → ℕ → Instructions → Instructions
  to_value (PrimitiveAnswer (answer.Of sort.Value)) temporary after = after
  to_value (PrimitiveAnswer (answer.Of sort.Number)) temporary after = boxed_number temporary (emit (LocalSet (handle_local bases temporary)) after)
  to_value (PrimitiveAnswer answer.Truth) temporary after = boxed_number temporary (emit (LocalSet (handle_local bases temporary)) after)
  to_value NumberOrText temporary after =
      unnumbered temporary
      (emit_if (nothing_boxed temporary Done) (boxed_number temporary (emit (LocalSet (handle_local bases temporary)) Done)) after)
  to_value OptionalNumber temporary after = boxed_perhaps temporary (LocalSet (handle_local bases temporary)) after
  to_value _ temporary after = ask_row row.Uninit (emit (LocalSet (handle_local bases temporary)) after)

  -- 0 where there is no number yet
  abbrev pub zeroed : ℕ → Instructions → Instructions
  zeroed temporary after = number_is (number_local bases temporary) least (when (emit (I64Const 0) (emit (LocalSet (number_local bases temporary)) Done)) after)

  -- 1 stays, 3 is -1, and all else is 0
  abbrev pub code_number : ℕ → Instructions → Instructions
  code_number temporary after =
      number_is (number_local bases temporary) 1
      (number_is (number_local bases temporary) 3 (emit (Binary I32 Sub) (emit (Convert I64ExtendI32S) (emit (LocalSet (number_local bases temporary)) after))))

  abbrev pub number_of_value : ℕ → ℕ → Instructions → Instructions
  number_of_value temporary exit after = moved_out (handle_local bases temporary) (ask_row row.ToNum (kept_number true temporary exit after))

  -- the number of a text beside, and 0 where there is none yet
  abbrev pub number_made : ℕ → ℕ → Instructions → Instructions
  number_made temporary exit after =
      number_is (number_local bases temporary) text_beside
      (emit_if (number_of_value temporary (suc (suc exit)) Done) (emit (I64Const 0) (emit (LocalSet (number_local bases temporary)) Done)) after)

  abbrev pub to_number : Form → ℕ → ℕ → Instructions → Instructions
  to_number (PrimitiveAnswer (answer.Of sort.Value)) temporary exit after = number_of_value temporary exit after
  to_number (PrimitiveAnswer answer.Input) temporary exit after = code_number temporary after
  to_number (PrimitiveAnswer answer.Stream) temporary exit after = code_number temporary after
  to_number NumberOrText temporary exit after = unnumbered temporary (when (number_made temporary exit Done) after)
  to_number OptionalNumber temporary exit after = zeroed temporary after
  to_number _ temporary exit after = after

  abbrev pub converted : Form → Sort → ℕ → ℕ → Instructions → Instructions
  converted form sort.Value temporary exit after = to_value form temporary after
  converted form sort.Number temporary exit after = to_number form temporary exit after
  converted form _ temporary exit after = after

  -- the truth of a temporary, on the stack
  abbrev pub not_zero : ℕ → Instructions → Instructions
  not_zero temporary after = emit (LocalGet (number_local bases temporary)) (emit (Test I64 Eqz) (emit (Test I32 Eqz) after))

  abbrev pub truth : Form → ℕ → Instructions → Instructions
  truth (PrimitiveAnswer (answer.Of sort.Value)) temporary after = moved_out (handle_local bases temporary) (ask_row row.Truth after)
  truth NumberOrText temporary after =
      number_is (number_local bases temporary) text_beside (emit_if
      (moved_out (handle_local bases temporary) (ask_row row.Truth (emit (Convert I64ExtendI32U) (emit (LocalSet (number_local bases temporary)) Done))))
      (zeroed temporary Done) (not_zero temporary after))
  truth OptionalNumber temporary after = zeroed temporary (not_zero temporary after)
  truth _ temporary after = not_zero temporary after

  -- What is in a temporary is dropped, moved to another one, or copied there.

  abbrev pub unused : Form → ℕ → Instructions → Instructions
  unused (PrimitiveAnswer (answer.Of sort.Value)) temporary after = moved_out (handle_local bases temporary) (ask Drop after)
  unused NumberOrText temporary after = let_go Drop (handle_local bases temporary) after
  unused _ temporary after = after

  -- what was kept is dropped, unless it was moved away
  abbrev pub released : Form → ℕ → Instructions → Instructions
  released (PrimitiveAnswer (answer.Of sort.Value)) temporary after = let_go Drop (handle_local bases temporary) after
  released NumberOrText temporary after = let_go Drop (handle_local bases temporary) after
  released _ temporary after = after

  abbrev pub number_copied : ℕ → ℕ → Instructions → Instructions
  number_copied from to after = emit (LocalGet (number_local bases from)) (emit (LocalSet (number_local bases to)) after)

  abbrev pub moved_from : Form → ℕ → ℕ → Instructions → Instructions
  moved_from (PrimitiveAnswer (answer.Of sort.Value)) from to after = moved (handle_local bases from) (handle_local bases to) after
  moved_from NumberOrText from to after = number_copied from to (moved (handle_local bases from) (handle_local bases to) after)
  moved_from _ from to after = number_copied from to after

  abbrev pub copied_from : Form → ℕ → ℕ → Instructions → Instructions
  copied_from (PrimitiveAnswer (answer.Of sort.Value)) from to after =
      copied (LocalGet (handle_local bases from)) (LocalSet (handle_local bases from)) (handle_local bases to) after
  copied_from NumberOrText from to after =
      number_copied from to (copied_if_any (LocalGet (handle_local bases from)) (LocalSet (handle_local bases from)) (handle_local bases to) after)
  copied_from _ from to after = number_copied from to after

  abbrev pub bound_from : Bool → Form → ℕ → ℕ → Instructions → Instructions
  bound_from true form from to after = moved_from form from to after
  bound_from false form from to after = copied_from form from to after
