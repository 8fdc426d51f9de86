-- The code of mid code, each part with the code after it (`after`). The value of code goes to `temporary`, where those from it on are free; so many
-- `arrays` of calls are in use, and the function's exit is `exit` labels further out. Between two parts of code nothing is on the stack.
use Rattle.std.specs.Prelude.{ℕ, zero, suc, ◌+◌, ◌-◌, ◌^◌, Bool, true, false, if◌then◌else◌, List, [], ◌∷◌, length, get_or, Option, Some, None, ℤ, pos}
use Rattle.std.specs.Int.{w64, cast_unsigned}
use Rattle.awk_values.specs.declared.comparison.CompareOp.{CompareOp}
use Rattle.sem_primitives.specs.ConstantNumbers.{comparison_number, destination_number, flag_number}
use Rattle.sem_primitives.specs.Table.{arguments_of, answer_of, can_fault}
use Rattle.sem_primitives.specs.declared.constants.Destination.{Destination}
use Rattle.sem_primitives.specs.declared.constants.Destination.TheVariants.{Standard, Emptied, Appended}
use Rattle.sem_primitives.specs.declared.sorts.Sort.TheVariants as sort
use Rattle.sem_primitives.specs.declared.sorts.Argument.{Argument}
use Rattle.sem_primitives.specs.declared.sorts.Argument.TheVariants as argument
use Rattle.sem_primitives.specs.declared.sorts.Answer.TheVariants as answer
use Rattle.sem_primitives.specs.declared.table.Primitive.{Primitive}
use Rattle.sem_primitives.specs.declared.table.Primitive.TheVariants as row
use Rattle.sem_primitives.specs.declared.table.Listed.{Listed}
use Rattle.sem_primitives.specs.declared.table.Listed.TheVariants as listed
use Rattle.wasm_types.specs.Syntax.{Loop as Again, Instructions, Done, Then}
use Rattle.wasm_types.specs.declared.types.ValType.TheVariants.{I64}
use Rattle.wasm_types.specs.declared.instr.Simple.{Simple}
use Rattle.wasm_types.specs.declared.instr.Simple.TheVariants.{Br, Call as CallOf, LocalGet, LocalSet, LocalTee, GlobalGet, GlobalSet, I32Const, I64Const, Test, Compare as Comparing, Binary, Convert}
use Rattle.wasm_types.specs.declared.instr.IRelOp.TheVariants.{Eq}
use Rattle.wasm_types.specs.declared.instr.ITestOp.TheVariants.{Eqz}
use Rattle.wasm_types.specs.declared.instr.CvtOp.TheVariants.{I64ExtendI32U}
use Rattle.mid_program.specs.declared.mid.Operation.{Operation}
use Rattle.mid_program.specs.declared.mid.Operation.TheVariants.{Host, Inline, AsNumber, FieldNumber}
use Rattle.mid_program.specs.MidMeaning.{three_values}
use Rattle.sem_scripts.specs.Names.{ArrayName, Numbered, Given}
use Rattle.sem_scripts.specs.Steps.{is_field_number}
use Rattle.mid_program.specs.Mid.{Kind, Boxed, Unboxed, ArrayKind, Slot, Global, Parameter, Code, Do, Over, Compare, Call, Ask, AskLine, FileLine, Replace, Number, Text, Unset, Get, Set, Array, IsOpen, Choose, Seq, Let, Bound, Codes, End, At, Fixed, Fresh, Form, PrimitiveAnswer, NumberOrText, OptionalNumber, a_value, form_of, form_at, arguments, parameters_at}
use Rattle.mid_program.specs.Sorted.{count_of, lender_at}
use Rattle.host_imports.specs.Imports.{import_count}
use Rattle.lower_model.specs.Places.{Bases, place_of, array_local, array_name, range_global, handle_global, number_global, made_in, handle_local, number_local}
use Rattle.lower_model.specs.Small.{emit, ask, ask_row, when, emit_if, minus_one, least, text_beside, moved_out, let_go, copied, number_is, kept, kept_code, kept_value, answer_kept, boxed_number, boxed_perhaps, to_value, converted, code_number, truth, unused, released, moved_from, bound_from}
use Rattle.lower_model.specs.Arithmetic.{calculated, field_checked, compared, is_value}
use Rattle.lower_model.specs.Quick.{Holder, OfName, OfParameter, Source, Held, Constant, Addition, addition_names, addition_in, all_unsure, sum_op}
use Rattle.host_imports.specs.declared.import.VariadicImport.TheVariants as listing
use Rattle.host_imports.specs.declared.import.Import.TheVariants.{Variadic as OverLast, Arg, Drop, FreeArray}

-- What the code of a function is emitted for: the texts in memory, how many ranges there are, the kinds of the names and of the functions'
-- parameters, what lends at their places, and where the function's own things stand.
pub record Layout : Type 0 where
  pub texts : List (List ℕ)
  pub ranges : ℕ
  pub names : List Kind
  pub calls : List (List Kind)
  pub lenders : List (Option ℕ)
  pub bases : Bases

-- the functions of a script come after the imports
abbrev pub function_number : ℕ → ℕ
function_number function = import_count + function

-- the array that code stands for, once what it does is done
abbrev pub array_meant : Code → ArrayName
array_meant (Array array) = array
array_meant (Seq first second) = array_meant second
array_meant (Let value rest) = array_meant rest
array_meant code = Numbered zero

-- how many values are taken from the list, beside the name of a file
abbrev pub values_counted : Destination → ℕ → ℕ
values_counted Standard count = count
values_counted Emptied count = count - 1
values_counted Appended count = count - 1

-- A field whose number is a constant is there, whatever the record: the number that is read, if an operation does that.

abbrev pub constant_field : Code → Option ℤ
constant_field (Number number) = if is_field_number number then Some number else None
constant_field code = None

abbrev pub one_field : Codes → Option ℤ
one_field (At code End) = constant_field code
one_field operands = None

abbrev pub field_in : Operation → Codes → Option ℤ
field_in (Host row.Field) operands = one_field operands
field_in operation operands = None

abbrev pub field_at : Code → Option ℤ
field_at (Do operation operands) = field_in operation operands
field_at code = None

-- Operands that are immediate: what they give can be put on the stack where it is asked for, since they can neither fail nor change anything.
pub data Immediate : Type 0 where
  FieldOf : ℤ → Immediate
  TextOf : ℕ → Immediate
  NumberOf : ℤ → Immediate

abbrev pub immediate_field : Option ℤ → Option Immediate
immediate_field (Some number) = Some (FieldOf number)
immediate_field None = None

-- a number is one where it is asked for as a value
abbrev pub immediate_in : (valued : Bool) → Code → Option Immediate
immediate_in valued (Do operation operands) = immediate_field (field_in operation operands)
immediate_in valued (Text text) = Some (TextOf text)
immediate_in true (Number number) = Some (NumberOf number)
immediate_in valued code = None

module _ (layout : Layout) where
  abbrev pub bases : Bases
  bases = layout.bases

  -- ARGV and ENVIRON are the arrays 0 and 1
  abbrev pub array_pushed : ArrayName → Instructions → Instructions
  array_pushed (Numbered zero) after = emit (I32Const 0) after
  array_pushed (Numbered (suc zero)) after = emit (I32Const 1) after
  array_pushed (Numbered (suc (suc number))) after = emit (GlobalGet (handle_global layout.ranges (array_name layout.names number))) after
  array_pushed (Given parameter) after = emit (LocalGet parameter) after

  abbrev pub text_pushed : ℕ → Instructions → Instructions
  text_pushed text after = emit (I32Const (place_of layout.texts text)) (emit (I32Const (length (get_or layout.texts text []))) after)

  -- Names.

  -- the handle, or none, of a name that is no array: how it is read and written
  abbrev pub global_handle : ℕ → ℕ
  global_handle name = handle_global layout.ranges name

  abbrev pub global_number : ℕ → ℕ
  global_number name = number_global layout.ranges name

  abbrev pub boxed_read : ℕ → ℕ → Instructions → Instructions
  boxed_read name temporary after = copied (GlobalGet (global_handle name)) (GlobalSet (global_handle name)) (handle_local bases temporary) after

  abbrev pub unboxed_read : ℕ → ℕ → Instructions → Instructions
  unboxed_read name temporary after =
      emit (GlobalGet (global_number name)) (emit (LocalTee (number_local bases temporary)) (emit (I64Const text_beside) (emit (Comparing I64 Eq)
      (when (boxed_read name temporary Done) after))))

  -- an unboxed parameter; one that has nothing stands for what lends at its place
  abbrev pub parameter_read : Option ℕ → ℕ → ℕ → Instructions → Instructions
  parameter_read None place temporary after = emit (LocalGet place) (emit (LocalSet (number_local bases temporary)) after)
  parameter_read (Some name) place temporary after =
      emit (LocalGet place) (emit (LocalTee (number_local bases temporary)) (emit (I64Const least) (emit (Comparing I64 Eq)
      (when (unboxed_read name temporary Done) after))))

  abbrev pub slot_read : Slot → ℕ → Instructions → Instructions
  slot_read (Global false name) temporary after = boxed_read name temporary after
  slot_read (Global true name) temporary after = unboxed_read name temporary after
  slot_read (Parameter false place) temporary after = copied (LocalGet place) (LocalSet place) (handle_local bases temporary) after
  slot_read (Parameter true place) temporary after = parameter_read (lender_at layout.lenders place) place temporary after

  -- the value of a temporary by `put` into a place that is empty: a second handle, where the first stays the answer, or the only one
  abbrev pub handle_stored : (only : Bool) → ℕ → Simple → Instructions → Instructions
  handle_stored true temporary put after = moved_out (handle_local bases temporary) (emit put after)
  handle_stored false temporary put after =
      emit (LocalGet (handle_local bases temporary)) (emit (LocalTee (handle_local bases temporary)) (ask_row row.Dup (emit put after)))

  abbrev pub value_stored : (only : Bool) → Form → ℕ → Simple → Instructions → Instructions
  value_stored only (PrimitiveAnswer (answer.Of sort.Value)) temporary put after = handle_stored only temporary put after
  value_stored only (PrimitiveAnswer (answer.Of sort.Number)) temporary put after = boxed_number bases temporary (emit put after)
  value_stored only (PrimitiveAnswer answer.Truth) temporary put after = boxed_number bases temporary (emit put after)
  value_stored only NumberOrText temporary put after =
      number_is (number_local bases temporary) text_beside (emit_if (handle_stored only temporary put Done) (boxed_perhaps bases temporary put Done) after)
  value_stored only OptionalNumber temporary put after = boxed_perhaps bases temporary put after
  value_stored only form temporary put after = ask_row row.Uninit (emit put after)

  -- the text beside an unboxed name, if there is one, is dropped
  abbrev pub text_dropped : ℕ → Instructions → Instructions
  text_dropped name after =
      emit (GlobalGet (global_number name)) (emit (I64Const text_beside) (emit (Comparing I64 Eq)
      (when (emit (GlobalGet (global_handle name)) (ask Drop (emit (I32Const minus_one) (emit (GlobalSet (global_handle name)) Done)))) after)))

  -- the text beside the number of a temporary, if there is one, comes beside an unboxed name
  abbrev pub text_stored : (only : Bool) → ℕ → Form → ℕ → Instructions → Instructions
  text_stored only name NumberOrText temporary after =
      number_is (number_local bases temporary) text_beside (when (handle_stored only temporary (GlobalSet (global_handle name)) Done) after)
  text_stored only name form temporary after = after

  abbrev pub slot_set : (only : Bool) → Slot → Form → ℕ → Instructions → Instructions
  slot_set only (Global false name) form temporary after =
      emit (GlobalGet (global_handle name)) (ask Drop (value_stored only form temporary (GlobalSet (global_handle name)) after))
  slot_set only (Global true name) form temporary after =
      text_dropped name (text_stored only name form temporary (emit (LocalGet (number_local bases temporary)) (emit (GlobalSet (global_number name)) after)))
  slot_set only (Parameter false place) form temporary after = emit (LocalGet place) (ask Drop (value_stored only form temporary (LocalSet place) after))
  slot_set only (Parameter true place) form temporary after = emit (LocalGet (number_local bases temporary)) (emit (LocalSet place) after)

  -- Assignments of the command line: the name's number and the value go to a temporary, and the name that has this number takes the value.

  abbrev pub assigned : Kind → ℕ → ℕ → Instructions → Instructions
  assigned Boxed name temporary after =
      emit (GlobalGet (global_handle name)) (ask Drop (moved_out (handle_local bases temporary) (emit (GlobalSet (global_handle name)) after)))
  assigned Unboxed name temporary after =
      text_dropped name (moved_out (handle_local bases temporary) (emit (GlobalSet (global_handle name))
      (emit (I64Const text_beside) (emit (GlobalSet (global_number name)) after))))
  assigned ArrayKind name temporary after = after

  abbrev pub assigned_by_number : List Kind → ℕ → ℕ → Instructions → Instructions
  assigned_by_number [] name temporary after = after
  assigned_by_number (ArrayKind ∷ kinds) name temporary after = assigned_by_number kinds (suc name) temporary after
  assigned_by_number (kind ∷ kinds) name temporary after =
      number_is (number_local bases temporary) name (when (assigned kind name temporary Done) (assigned_by_number kinds (suc name) temporary after))

  abbrev pub pending_assigned : ℕ → Instructions → Instructions
  pending_assigned temporary after =
      ask_row row.PendingName (emit (Convert I64ExtendI32U) (emit (LocalSet (number_local bases temporary))
      (ask_row row.PendingValue (emit (LocalSet (handle_local bases temporary)) (assigned_by_number layout.names zero temporary after)))))

  -- an import is asked until no assignment is pending
  abbrev pub asked : Primitive → ℕ → ℕ → Instructions → Instructions
  asked primitive temporary exit after =
      Then (Again None (ask_row primitive (kept_code bases true temporary (suc exit)
      (number_is (number_local bases temporary) 2 (when (pending_assigned temporary (emit (Br 1) Done)) Done))))) after

  -- Operands.

  abbrev pub all_converted : List Form → List Argument → Codes → ℕ → ℕ → Instructions → Instructions
  all_converted forms (argument.Of wanted ∷ rest) (At code operands) temporary exit after =
      converted bases (form_of forms code) wanted temporary exit (all_converted forms rest operands (suc temporary) exit after)
  all_converted forms (first ∷ rest) (Fixed number operands) temporary exit after = all_converted forms rest operands temporary exit after
  all_converted forms _ _ temporary exit after = after

  abbrev pub one_pushed : Argument → Code → ℕ → Instructions → Instructions
  one_pushed (argument.Of sort.Value) code temporary after = moved_out (handle_local bases temporary) after
  one_pushed (argument.Of sort.Number) code temporary after = emit (LocalGet (number_local bases temporary)) after
  one_pushed (argument.Of sort.Array) code temporary after = array_pushed (array_meant code) after
  one_pushed wanted code temporary after = after

  abbrev pub all_pushed : List Argument → Codes → ℕ → Instructions → Instructions
  all_pushed (first ∷ rest) (At code operands) temporary after = one_pushed first code temporary (all_pushed rest operands (suc temporary) after)
  all_pushed (first ∷ rest) (Fixed number operands) temporary after = emit (I32Const number) (all_pushed rest operands temporary after)
  all_pushed _ _ temporary after = after

  -- an operation, once its operands are converted
  abbrev pub performed : Operation → Codes → ℕ → ℕ → Instructions → Instructions
  performed (Host primitive) operands temporary exit after =
      all_pushed (arguments_of primitive) operands temporary (ask_row primitive (kept bases (can_fault primitive) (answer_of primitive) temporary exit after))
  performed (Inline operator) operands temporary exit after = calculated bases operator temporary exit after
  performed AsNumber operands temporary exit after = after
  performed FieldNumber operands temporary exit after = field_checked bases temporary exit after

  abbrev pub all_boxed : List Form → Codes → ℕ → Instructions → Instructions
  all_boxed forms (At code operands) temporary after = to_value bases (form_of forms code) temporary (all_boxed forms operands (suc temporary) after)
  all_boxed forms _ temporary after = after

  -- values onto the argument list
  abbrev pub all_appended : Codes → ℕ → Instructions → Instructions
  all_appended (At code operands) temporary after = moved_out (handle_local bases temporary) (ask Arg (all_appended operands (suc temporary) after))
  all_appended _ temporary after = after

  abbrev pub listed_asked : Listed → ℕ → ℕ → ℕ → Instructions → Instructions
  listed_asked listed.Sprintf count temporary exit after = emit (I32Const count) (ask (OverLast listing.Sprintf) (kept_value bases true temporary exit after))
  listed_asked (listed.Print to) count temporary exit after = emit (I32Const (values_counted to count))
      (emit (I32Const (destination_number to)) (ask (OverLast listing.Print) (kept bases true answer.Done temporary exit after)))
  listed_asked (listed.Printf to) count temporary exit after = emit (I32Const (values_counted to count))
      (emit (I32Const (destination_number to)) (ask (OverLast listing.Printf) (kept bases true answer.Done temporary exit after)))

  -- What a call is given. An array that is made for it stays where it can be freed, and its number is lent.

  -- an unboxed parameter is given no text: of what lends its value it is given the number, or nothing
  abbrev pub lent : Form → ℕ → Instructions → Instructions
  lent NumberOrText temporary after =
      number_is (number_local bases temporary) text_beside
      (when (moved_out (handle_local bases temporary) (ask Drop (emit (I64Const least) (emit (LocalSet (number_local bases temporary)) Done)))) after)
  lent form temporary after = after

  abbrev pub all_given : List Form → List Kind → Codes → ℕ → Instructions → Instructions
  all_given forms (Boxed ∷ kinds) (At code operands) temporary after =
      to_value bases (form_of forms code) temporary (all_given forms kinds operands (suc temporary) after)
  all_given forms (Unboxed ∷ kinds) (At code operands) temporary after =
      lent (form_of forms code) temporary (all_given forms kinds operands (suc temporary) after)
  all_given forms (kind ∷ kinds) (At code operands) temporary after = all_given forms kinds operands (suc temporary) after
  all_given forms (kind ∷ kinds) (Fresh operands) temporary after = all_given forms kinds operands temporary after
  all_given forms _ _ temporary after = after

  abbrev pub one_given : Kind → Code → ℕ → Instructions → Instructions
  one_given Boxed code temporary after = moved_out (handle_local bases temporary) after
  one_given Unboxed code temporary after = emit (LocalGet (number_local bases temporary)) after
  one_given ArrayKind code temporary after = array_pushed (array_meant code) after

  abbrev pub all_given_pushed : List Kind → Codes → ℕ → ℕ → Instructions → Instructions
  all_given_pushed (kind ∷ kinds) (At code operands) temporary arrays after =
      one_given kind code temporary (all_given_pushed kinds operands (suc temporary) arrays after)
  all_given_pushed (kind ∷ kinds) (Fresh operands) temporary arrays after =
      emit (LocalGet (array_local bases arrays)) (emit (LocalTee (array_local bases arrays)) (all_given_pushed kinds operands temporary (suc arrays) after))
  all_given_pushed _ _ temporary arrays after = after

  -- the arrays of a call are freed, the last one first
  abbrev pub all_freed : ℕ → ℕ → Instructions → Instructions
  all_freed arrays zero after = after
  all_freed arrays (suc count) after = moved_out (array_local bases (arrays + count)) (ask FreeArray (all_freed arrays count after))

  -- Where something was read or replaced, the text goes to the next temporary, and is stored from there.
  abbrev pub text_kept : Primitive → ℕ → Instructions → Instructions
  text_kept primitive temporary store = ask_row primitive (emit (LocalSet (handle_local bases (suc temporary))) store)

  -- Sums of two sources whose names have numbers near 0, which are in range: neither is kept, nor is anything tested after it.

  -- a holder's number is read
  abbrev pub name_read : Holder → Simple
  name_read (OfName name) = GlobalGet (global_number name)
  name_read (OfParameter place) = LocalGet place

  abbrev pub source_pushed : Source → Instructions → Instructions
  source_pushed (Held name) after = emit (name_read name) after
  source_pushed (Constant number) after = emit (I64Const (cast_unsigned w64 number)) after

  abbrev pub added : Addition → ℕ → Instructions → Instructions
  added addition temporary after = source_pushed addition.left (source_pushed addition.right
      (emit (Binary I64 (sum_op addition.op)) (emit (LocalSet (number_local bases temporary)) after)))

  -- `anyway` is the code of all cases beside it, and `other` that of what is no such sum
  abbrev pub added_or : Option Addition → ℕ → (anyway after other : Instructions) → Instructions
  added_or (Some addition) temporary anyway after other =
      all_unsure name_read (addition_names addition) (pos (2 ^ 52)) (2 ^ 53) (emit_if anyway (added addition temporary Done) after)
  added_or None temporary anyway after other = other

  -- such a field is read without a test for a fault
  abbrev pub field_read : ℤ → ℕ → Instructions → Instructions
  field_read number temporary after = emit (I64Const (cast_unsigned w64 number)) (ask_row row.Field (emit (LocalSet (handle_local bases temporary)) after))

  abbrev pub field_or : Option ℤ → ℕ → (after other : Instructions) → Instructions
  field_or (Some number) temporary after other = field_read number temporary after
  field_or None temporary after other = other

  -- as a value, on the stack
  abbrev pub immediate_pushed : Immediate → Instructions → Instructions
  immediate_pushed (FieldOf number) after = emit (I64Const (cast_unsigned w64 number)) (ask_row row.Field after)
  immediate_pushed (TextOf text) after = text_pushed text (ask_row row.Lit after)
  immediate_pushed (NumberOf number) after = emit (I64Const (cast_unsigned w64 number)) (ask_row row.Num after)

  -- what stands in a temporary, of this form, is compared with an immediate operand, by the host
  abbrev pub immediately_compared : CompareOp → Form → Immediate → ℕ → ℕ → Instructions → Instructions
  immediately_compared op form immediate temporary exit after =
      to_value bases form temporary (emit (I32Const (comparison_number op)) (moved_out (handle_local bases temporary)
      (immediate_pushed immediate (ask_row row.Compare (kept_code bases true temporary exit after)))))

  abbrev pub immediate_or : CompareOp → Form → Option Immediate → ℕ → ℕ → (after other : Instructions) → Instructions
  immediate_or op form (Some immediate) temporary exit after other = immediately_compared op form immediate temporary exit after
  immediate_or op form None temporary exit after other = other

  -- What is evaluated for what it does alone leaves this to be dropped. An assignment has given its value away then, what was kept is dropped where
  -- it was kept, and code in which something comes last has dropped that.
  abbrev pub left_over : Code → Form → ℕ → Instructions → Instructions
  left_over (Set slot value) form temporary after = after
  left_over (Seq first second) form temporary after = after
  left_over (Let value rest) form temporary after = after
  left_over (Bound moves place) form temporary after = after
  left_over code form temporary after = unused bases form temporary after

  -- the end of a sequence, whose last code has an answer of this form
  abbrev pub sequence_closed : (only : Bool) → Code → Form → ℕ → Instructions → Instructions
  sequence_closed true code form temporary after = left_over code form temporary after
  sequence_closed false code form temporary after = after

  -- the end of what is kept, of form `held`: it is dropped, unless it was moved away, and the answer of the code, of form `form`, takes its place, or is
  -- dropped too
  abbrev pub keeping_closed : (only : Bool) → Code → (held form : Form) → ℕ → Instructions → Instructions
  keeping_closed true code held form temporary after = left_over code form (suc temporary) (released bases held temporary after)
  keeping_closed false code held form temporary after = released bases held temporary (moved_from bases form (suc temporary) temporary after)

  -- what was kept is nothing to do, where nobody asks for it
  abbrev pub bound_read : (only moves : Bool) → Form → ℕ → ℕ → Instructions → Instructions
  bound_read true moves form from to after = after
  bound_read false moves form from to after = bound_from bases moves form from to after

  -- after code that stored the text of the next temporary
  abbrev pub text_let_go : List Form → Code → ℕ → Instructions → Instructions
  text_let_go forms store temporary after =
      left_over store (form_of (a_value ∷ forms) store) (suc (suc temporary)) (let_go Drop (handle_local bases (suc temporary)) after)

  -- Code. What is kept is of these `forms` and stands in these `temporaries`. Where code is evaluated for what it does alone, an assignment moves its value,
  -- and no answer is brought to its place that would be dropped there.
  unfoldable mutual
    pub emitted : (only : Bool) → List Form → List ℕ → Code → (temporary arrays exit : ℕ) → Instructions → Instructions
    emitted only forms temporaries (Do operation operands) temporary arrays exit after =
        field_or (field_in operation operands) temporary after (added_or (addition_in operation operands) temporary
        (all_emitted forms temporaries operands temporary arrays (suc exit)
        (all_converted forms (arguments operation) operands temporary (suc exit) (performed operation operands temporary (suc exit) Done))) after
        (all_emitted forms temporaries operands temporary arrays exit
        (all_converted forms (arguments operation) operands temporary exit (performed operation operands temporary exit after))))
    emitted only forms temporaries (Over what operands) temporary arrays exit after =
        all_emitted forms temporaries operands temporary arrays exit
        (all_boxed forms operands temporary (all_appended operands temporary (listed_asked what (count_of operands) temporary exit after)))
    emitted only forms temporaries (Compare op left right) temporary arrays exit after =
        let form = form_of forms left in
        emitted false forms temporaries left temporary arrays exit (immediate_or op form (immediate_in (is_value form) right) temporary exit after
        (emitted false forms temporaries right (suc temporary) arrays exit (compared bases op form (form_of forms right) temporary exit after)))
    emitted only forms temporaries (Call function operands) temporary arrays exit after =
        let kinds = parameters_at layout.calls function in
        all_emitted forms temporaries operands temporary arrays exit (all_given forms kinds operands temporary (all_given_pushed kinds operands temporary arrays
        (emit (CallOf (function_number function)) (answer_kept bases temporary exit (all_freed arrays (made_in operands) after)))))
    emitted only forms temporaries Ask temporary arrays exit after = asked row.Getline temporary exit (code_number bases temporary after)
    emitted only forms temporaries (AskLine store) temporary arrays exit after =
        asked row.GetlineVar temporary exit (number_is (number_local bases temporary) 1
        (when (text_kept row.Line temporary (emitted true (a_value ∷ forms) (suc temporary ∷ temporaries) store (suc (suc temporary)) arrays (suc exit)
        (text_let_go forms store temporary Done))) (code_number bases temporary after)))
    emitted only forms temporaries (FileLine file store) temporary arrays exit after =
        emitted false forms temporaries file temporary arrays exit (to_value bases (form_of forms file) temporary (moved_out (handle_local bases temporary)
        (ask_row row.GetlineVarFile (kept_code bases true temporary exit (number_is (number_local bases temporary) 1
        (when (text_kept row.Line temporary (emitted true (a_value ∷ forms) (suc temporary ∷ temporaries) store (suc (suc temporary)) arrays (suc exit)
        (text_let_go forms store temporary Done))) (code_number bases temporary after)))))))
    emitted only forms temporaries (Replace all operands store) temporary arrays exit after =
        all_emitted forms temporaries operands temporary arrays exit
        (all_converted forms three_values operands temporary exit (all_pushed three_values operands temporary
        (emit (I32Const (flag_number all)) (ask_row row.Sub (kept bases true (answer.Of sort.Number) temporary exit
        (emit (LocalGet (number_local bases temporary)) (emit (Test I64 Eqz)
        (emit_if Done (text_kept row.SubResult temporary
        (emitted true (a_value ∷ forms) (suc temporary ∷ temporaries) store (suc (suc temporary)) arrays (suc exit)
        (text_let_go forms store temporary Done))) after))))))))
    emitted only forms temporaries (Number number) temporary arrays exit after =
        emit (I64Const (cast_unsigned w64 number)) (emit (LocalSet (number_local bases temporary)) after)
    emitted only forms temporaries (Text text) temporary arrays exit after =
        text_pushed text (ask_row row.Lit (emit (LocalSet (handle_local bases temporary)) after))
    emitted only forms temporaries Unset temporary arrays exit after = emit (I64Const least) (emit (LocalSet (number_local bases temporary)) after)
    emitted only forms temporaries (Get slot) temporary arrays exit after = slot_read slot temporary after
    emitted only forms temporaries (Set slot value) temporary arrays exit after =
        emitted false forms temporaries value temporary arrays exit (slot_set only slot (form_of forms value) temporary after)
    emitted only forms temporaries (Array array) temporary arrays exit after = after
    emitted only forms temporaries (IsOpen item) temporary arrays exit after =
        emit (GlobalGet (range_global item)) (emit (Convert I64ExtendI32U) (emit (LocalSet (number_local bases temporary)) after))
    emitted only forms temporaries (Choose wanted test so otherwise) temporary arrays exit after =
        emitted false forms temporaries test temporary arrays exit (truth bases (form_of forms test) temporary (emit_if
        (emitted false forms temporaries so temporary arrays (suc exit) (converted bases (form_of forms so) wanted temporary (suc exit) Done))
        (emitted false forms temporaries otherwise temporary arrays (suc exit)
        (converted bases (form_of forms otherwise) wanted temporary (suc exit) Done)) after))
    emitted only forms temporaries (Seq first second) temporary arrays exit after = emitted true forms temporaries first temporary arrays exit
        (left_over first (form_of forms first) temporary
        (emitted only forms temporaries second temporary arrays exit (sequence_closed only second (form_of forms second) temporary after)))
    emitted only forms temporaries (Let value rest) temporary arrays exit after =
        let held = form_of forms value in
        emitted false forms temporaries value temporary arrays exit (emitted only (held ∷ forms) (temporary ∷ temporaries) rest (suc temporary) arrays exit
        (keeping_closed only rest held (form_of (held ∷ forms) rest) temporary after))
    emitted only forms temporaries (Bound moves place) temporary arrays exit after =
        bound_read only moves (form_at forms place) (get_or temporaries place zero) temporary after

    pub all_emitted : List Form → List ℕ → Codes → (temporary arrays exit : ℕ) → Instructions → Instructions
    all_emitted forms temporaries End temporary arrays exit after = after
    all_emitted forms temporaries (At code operands) temporary arrays exit after =
        emitted false forms temporaries code temporary arrays exit (all_emitted forms temporaries operands (suc temporary) arrays exit after)
    all_emitted forms temporaries (Fixed number operands) temporary arrays exit after = all_emitted forms temporaries operands temporary arrays exit after
    all_emitted forms temporaries (Fresh operands) temporary arrays exit after =
        ask_row row.NewArray (emit (LocalSet (array_local bases arrays)) (all_emitted forms temporaries operands temporary (suc arrays) exit after))

  -- for what it does alone
  abbrev pub dropped : List Form → List ℕ → Code → (temporary arrays exit : ℕ) → Instructions → Instructions
  dropped forms temporaries code temporary arrays exit after =
      emitted true forms temporaries code temporary arrays exit (left_over code (form_of forms code) temporary after)

  -- its truth, on the stack
  abbrev pub tested : List Form → List ℕ → Code → (temporary arrays exit : ℕ) → Instructions → Instructions
  tested forms temporaries code temporary arrays exit after =
      emitted false forms temporaries code temporary arrays exit (truth bases (form_of forms code) temporary after)
