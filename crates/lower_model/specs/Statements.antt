-- The code of steps, of functions and of `main`. A statement's place is the `nop` that begins its code: there the function holds nothing, iterators aside.
use Rattle.std.specs.Prelude.{ℕ, zero, suc, ◌+◌, ◌^◌, Bool, true, false, if◌then◌else◌, List, [], ◌∷◌, length, Option, Some, None, is_some, ℤ, pos}
use Rattle.awk_text.specs.Number.{largest}
use Rattle.std.specs.Int.{w64, cast_unsigned}
use Rattle.awk_values.specs.Faults.{fault_number}
use Rattle.awk_values.specs.declared.fault.Fault.TheVariants.{NextOutside, Range}
use Rattle.sem_primitives.specs.ConstantNumbers.{flag_number, kind_number, special_number}
use Rattle.sem_primitives.specs.declared.constants.NameKind.{NameKind}
use Rattle.sem_primitives.specs.declared.constants.NameKind.TheVariants.{Scalar, ArrayOrFunction}
use Rattle.sem_primitives.specs.declared.constants.Special.TheVariants.{Nf}
use Rattle.sem_primitives.specs.declared.sorts.Sort.TheVariants as sort
use Rattle.sem_primitives.specs.declared.sorts.Answer.TheVariants as answer
use Rattle.sem_primitives.specs.declared.table.Primitive.TheVariants as row
use Rattle.wasm_types.specs.Syntax.{Block, Loop as Again, Instructions, Done, Then}
use Rattle.wasm_types.specs.declared.types.ValType.TheVariants.{I32, I64}
use Rattle.wasm_types.specs.declared.instr.Simple.{Simple}
use Rattle.wasm_types.specs.declared.instr.Simple.TheVariants.{Nop, Br, BrIf, LocalGet, LocalSet, LocalTee, GlobalGet, GlobalSet, I32Const, I64Const, Test, Compare as Comparing, Binary, Convert}
use Rattle.wasm_types.specs.declared.instr.IBinOp.{IBinOp}
use Rattle.wasm_types.specs.declared.instr.IBinOp.TheVariants.{Add, RemS}
use Rattle.wasm_types.specs.declared.instr.IRelOp.TheVariants.{Eq, GtU, LeS, Ne}
use Rattle.wasm_types.specs.declared.instr.ITestOp.TheVariants.{Eqz}
use Rattle.wasm_types.specs.declared.instr.CvtOp.TheVariants.{I32WrapI64}
use Rattle.sem_scripts.specs.Names.{ArrayName}
use Rattle.mid_program.specs.Sorted.{lender_at}
use Rattle.mid_program.specs.Mid.{Kind, Boxed, Unboxed, ArrayKind, Parameter, Code, Do, Get, Choose, End, At, Form, PrimitiveAnswer, NumberOrText, OptionalNumber, Step, Eval, Block as Steps_, If as Either, Loop, Each, Break, Continue, Next, Exit, ExitWith, Return, Mark, Steps, NoStep, Then as AndThen, Program, a_value, form_of}
use Rattle.lower_model.specs.Places.{Bases, way_global, status_global, text_global, range_global, handle_global, answer_local, iterator_local, array_local, handle_local, number_local}
use Rattle.lower_model.specs.Small.{emit, ask, ask_row, when, emit_if, end_code, text_beside, copied, moved_out, emptied, let_go, fail_if, number_is, least, was_left, kept_code, kept_value, kept_number, kept_done, to_value, number_of_value, to_number}
use Rattle.lower_model.specs.Quick.{Within, unsure, test_within, Holder, OfName, OfParameter, Source, Held, Constant, all_unsure, Sum, sum_names, sum_op, sum_in, Update, update_in, Tally, tally_in, Remainder, remainder_in, remainder_names, most_multiplied, multiplied, Counted, counted_in, Pair, pair_names, pair_in, contrary, step_jumps, is_nothing}
use Rattle.lower_model.specs.Appends.{Append, append_in}
use Rattle.lower_model.specs.Arithmetic.{relation}
use Rattle.lower_model.specs.Emission.{Layout, array_pushed, text_pushed, global_number, name_read, source_pushed, pending_assigned, asked, text_dropped, field_at, emitted, dropped, tested}
use Rattle.host_imports.specs.declared.import.Import.TheVariants.{Drop, IterFree, FreeArray}

abbrev pub block : Instructions → Instructions → Instructions
block inside after = Then (Block None inside) after

abbrev pub again : Instructions → Instructions → Instructions
again inside after = Then (Again None inside) after

-- how a function is being left: by a fault, or `return`; by `next`; by `exit`
abbrev pub way_none : ℕ
way_none = 0

abbrev pub way_next : ℕ
way_next = 1

abbrev pub way_exit : ℕ
way_exit = 2

abbrev pub left_by : ℕ → ℕ → Instructions → Instructions
left_by way exit after = emit (I32Const way) (emit (GlobalSet way_global) (emit (Br exit) after))

abbrev pub has_functions : List (List Kind) → Bool
has_functions [] = false
has_functions (kinds ∷ rest) = true

module _ (layout : Layout) where
  abbrev pub bases : Bases
  bases = layout.bases

  -- the next key goes to temporary 0, and is stored from there; past the last one the loop is left
  abbrev pub key_stored : ℕ → Code → ℕ → Instructions → Instructions
  key_stored iterators store exit after =
      emit (LocalGet (iterator_local bases iterators)) (emit (LocalTee (iterator_local bases iterators)) (ask_row row.IterNext
      (emit (LocalTee (handle_local bases zero)) (emit (I32Const end_code) (emit (Comparing I32 Eq) (emit (BrIf 1)
      (dropped layout (a_value ∷ []) (zero ∷ []) store 1 zero exit (let_go Drop (handle_local bases zero) after))))))))

  abbrev pub iterator_left : ℕ → Instructions → Instructions
  iterator_left iterators after = emptied (handle_local bases zero) (moved_out (iterator_local bases iterators) (ask IterFree after))

  -- Quick ways: sums that go to a name, and tests.

  -- a holder's number is written
  abbrev pub name_put : Holder → Simple
  name_put (OfName name) = GlobalSet (global_number layout name)
  name_put (OfParameter place) = LocalSet place

  -- the text beside a name, if there is one, is dropped; none stands beside a parameter
  abbrev pub holder_cleared : Holder → Instructions → Instructions
  holder_cleared (OfName name) after = text_dropped layout name after
  holder_cleared (OfParameter place) after = after

  abbrev pub summed : Sum → Instructions → Instructions
  summed sum after = source_pushed layout sum.left (source_pushed layout sum.right (emit (Binary I64 (sum_op sum.op)) (emit (name_put sum.target) after)))

  -- Sums in all cases: where a name has no number it is 0, or that of the text beside.

  -- of the text beside a name
  abbrev pub number_there : ℕ → (temporary exit : ℕ) → Instructions → Instructions
  number_there name temporary exit after =
      copied (GlobalGet (handle_global layout.ranges name)) (GlobalSet (handle_global layout.ranges name)) (handle_local bases temporary)
      (number_of_value bases temporary exit after)

  -- of what a global has that has no number
  abbrev pub global_found : ℕ → (temporary exit : ℕ) → Instructions → Instructions
  global_found name temporary exit after =
      number_is (number_local bases temporary) text_beside
      (emit_if (number_there name temporary (suc (suc exit)) Done) (emit (I64Const 0) (emit (LocalSet (number_local bases temporary)) Done)) after)

  -- what `read` gives in a temporary, or, where that is no number, what is `found` in its place
  abbrev pub numbered_or : (read : Simple) (found : Instructions) (temporary : ℕ) → Instructions → Instructions
  numbered_or read found temporary after =
      emit read (emit (LocalTee (number_local bases temporary)) (emit (I64Const text_beside) (emit (Comparing I64 LeS) (when found after))))

  -- of a parameter that has none: 0, or the number of what lends at its place
  abbrev pub parameter_found : Option ℕ → (temporary exit : ℕ) → Instructions → Instructions
  parameter_found None temporary exit after = emit (I64Const 0) (emit (LocalSet (number_local bases temporary)) after)
  parameter_found (Some name) temporary exit after =
      numbered_or (GlobalGet (global_number layout name)) (global_found name temporary (suc exit) Done) temporary after

  abbrev pub number_found : Holder → (temporary exit : ℕ) → Instructions → Instructions
  number_found (OfName name) temporary exit after = global_found name temporary exit after
  number_found (OfParameter place) temporary exit after = parameter_found (lender_at layout.lenders place) temporary exit after

  -- a name's number in a temporary
  abbrev pub name_numbered : Holder → (temporary exit : ℕ) → Instructions → Instructions
  name_numbered name temporary exit after = numbered_or (name_read layout name) (number_found name temporary exit Done) temporary after

  abbrev pub source_numbered : Source → (temporary exit : ℕ) → Instructions → Instructions
  source_numbered (Held name) temporary exit after = name_numbered name temporary exit after
  source_numbered source temporary exit after = after

  abbrev pub source_taken : Source → ℕ → Instructions → Instructions
  source_taken (Constant number) temporary after = emit (I64Const (cast_unsigned w64 number)) after
  source_taken source temporary after = emit (LocalGet (number_local bases temporary)) after

  -- two numbers are on the stack: what an operator gives of them goes to a temporary, and is tested
  abbrev pub sum_kept : IBinOp → (temporary exit : ℕ) → Instructions → Instructions
  sum_kept op temporary exit after = emit (Binary I64 op) (emit (LocalTee (number_local bases temporary))
      (emit (I64Const largest) (emit (Binary I64 Add) (emit (I64Const (2 ^ 54)) (emit (Comparing I64 GtU) (fail_if Range exit after))))))

  -- the same, and a name takes it
  abbrev pub sum_taken : IBinOp → Holder → (temporary exit : ℕ) → Instructions → Instructions
  sum_taken op name temporary exit after =
      sum_kept op temporary exit (holder_cleared name (emit (LocalGet (number_local bases temporary)) (emit (name_put name) after)))

  abbrev pub summed_anyway : Sum → ℕ → Instructions → Instructions
  summed_anyway sum exit after =
      source_numbered sum.left zero exit (source_numbered sum.right 1 exit
      (source_taken sum.left zero (source_taken sum.right 1 (sum_taken (sum_op sum.op) sum.target zero exit after))))

  -- The number of a field that a constant gives, on the stack, above another number. Where the field's text has none a fault is kept, and the least
  -- number of 64 bits stands for it: no sum with that is in range, so the test of the sum finds the fault too.
  abbrev pub field_numbered : ℤ → Instructions → Instructions
  field_numbered number after = emit (I64Const (cast_unsigned w64 number)) (ask_row row.Field (ask_row row.ToNum after))

  -- The number of a name and that of what is added, on the stack. What is added stands in temporary 0, the name's number in the next one; a field that
  -- a constant gives needs no temporary.
  abbrev pub both_asked : Option ℤ → Update → ℕ → Instructions → Instructions
  both_asked (Some number) update exit after = name_numbered update.name zero exit (emit (LocalGet (number_local bases zero)) (field_numbered number after))
  both_asked None update exit after =
      emitted layout false [] [] update.added zero zero exit (name_numbered update.name 1 exit (to_number bases (form_of [] update.added) zero exit
      (emit (LocalGet (number_local bases 1)) (emit (LocalGet (number_local bases zero)) after))))

  abbrev pub updated : Update → ℕ → Instructions → Instructions
  updated update exit after = both_asked (field_at update.added) update exit (sum_taken (sum_op update.op) update.target zero exit after)

  -- Counters in arrays: the key stands in temporary 0, what is added in the next one, and the element's number comes to the one after.

  -- the number of the element, whose key stays where it is
  abbrev pub element_numbered : ArrayName → ℕ → Instructions → Instructions
  element_numbered array exit after =
      array_pushed layout array (emit (LocalGet (handle_local bases zero)) (emit (LocalTee (handle_local bases zero))
      (ask_row row.Dup (ask_row row.Elem (ask_row row.ToNum (kept_number bases true 2 exit after))))))

  -- the element takes that number, and the key is given away
  abbrev pub element_given : ArrayName → Instructions → Instructions
  element_given array after =
      array_pushed layout array
      (moved_out (handle_local bases zero) (emit (LocalGet (number_local bases 2)) (ask_row row.Num (ask_row row.SetElem (kept_done bases false zero after)))))

  abbrev pub tallied : Tally → ℕ → Instructions → Instructions
  tallied tally exit after =
      let form = form_of [] tally.key in
      emitted layout false [] [] tally.key zero zero exit (emitted layout false (form ∷ []) (zero ∷ []) tally.added 1 zero exit
      (to_value bases form zero (element_numbered tally.read exit (to_number bases (form_of (form ∷ []) tally.added) 1 exit
      (emit (LocalGet (number_local bases 2))
      (emit (LocalGet (number_local bases 1)) (sum_kept (sum_op tally.op) 2 exit (element_given tally.written after))))))))

  -- A name takes a remainder that is in range: by the module itself where no product leaves it.

  abbrev pub remainder_taken : Remainder → Instructions → Instructions
  remainder_taken remainder after =
      emit (name_read layout remainder.multiple.name) (multiplied remainder.multiple.factor
      (emit (I64Const (cast_unsigned w64 remainder.divisor)) (emit (Binary I64 RemS) (emit (name_put remainder.target) after))))

  -- Texts are put behind a name's own: each is evaluated, then the name gives its text away, and takes the two as one. If these are too long the name has nothing,
  -- and the function is left.

  abbrev pub text_appended : ℕ → Code → ℕ → Instructions → Instructions
  text_appended name code exit after =
      emitted layout false [] [] code zero zero exit (to_value bases (form_of [] code) zero
      (emit (GlobalGet (handle_global layout.ranges name)) (moved_out (handle_local bases zero) (ask_row row.Concat (kept_value bases true zero exit
      (moved_out (handle_local bases zero) (emit (GlobalSet (handle_global layout.ranges name)) after)))))))

  abbrev pub chain_appended : ℕ → Code → ℕ → Instructions → Instructions
  chain_appended name (Do operation (At (Get slot) (At code End))) exit after = text_appended name code exit after
  chain_appended name (Do operation (At chain (At code End))) exit after = chain_appended name chain exit (text_appended name code exit after)
  chain_appended name chain exit after = after

  abbrev pub appended_dropped : Option Append → Code → ℕ → Instructions → Instructions
  appended_dropped None code exit after = dropped layout [] [] code zero zero exit after
  appended_dropped (Some append) code exit after = chain_appended append.target append.chain exit after

  abbrev pub remainder_dropped : Option Remainder → Code → ℕ → Instructions → Instructions
  remainder_dropped None code exit after = appended_dropped (append_in code) code exit after
  remainder_dropped (Some remainder) code exit after =
      let most = most_multiplied remainder.multiple.factor in
      all_unsure (name_read layout) (remainder_names remainder) (pos most) (most + most)
      (emit_if (dropped layout [] [] code zero zero (suc exit) Done) (remainder_taken remainder Done) after)

  abbrev pub barely_dropped : Option Tally → Code → ℕ → Instructions → Instructions
  barely_dropped None code exit after = remainder_dropped (remainder_in code) code exit after
  barely_dropped (Some tally) code exit after = tallied tally exit after

  abbrev pub plainly_dropped : Option Update → Code → ℕ → Instructions → Instructions
  plainly_dropped None code exit after = barely_dropped (tally_in code) code exit after
  plainly_dropped (Some update) code exit after = updated update exit after

  abbrev pub quickly_dropped : Option Sum → Code → ℕ → Instructions → Instructions
  quickly_dropped None code exit after = plainly_dropped (update_in code) code exit after
  quickly_dropped (Some sum) code exit after =
      all_unsure (name_read layout) (sum_names sum) (pos (2 ^ 52)) (2 ^ 53) (emit_if (summed_anyway sum (suc exit) Done) (summed sum Done) after)

  -- both ways of a comparison are quick
  abbrev pub pair_left : Pair → ℕ → Instructions → Instructions
  pair_left pair out after = source_pushed layout pair.left (source_pushed layout pair.right (emit (Comparing I64 (relation (contrary pair.op))) (emit (BrIf out) after)))

  -- a name's number is compared with that of the fields, which is in range: no fault comes of asking for it
  abbrev pub counted_left : Counted → ℕ → Instructions → Instructions
  counted_left counted out after =
      emit (name_read layout counted.name) (emit (I32Const (special_number Nf)) (ask_row row.GetSpecial (ask_row row.ToNum
      (emit (Comparing I64 (relation (contrary counted.op))) (emit (BrIf out) after)))))

  abbrev pub left_unless_counted : Option Counted → Code → (exit out : ℕ) → Instructions → Instructions
  left_unless_counted None test exit out after = tested layout [] [] test zero zero exit (emit (Test I32 Eqz) (emit (BrIf out) after))
  left_unless_counted (Some counted) test exit out after =
      emit (name_read layout counted.name) (emit (I64Const text_beside) (emit (Comparing I64 LeS)
      (emit_if (tested layout [] [] test zero zero (suc exit) (emit (Test I32 Eqz) (emit (BrIf (suc out)) Done))) (counted_left counted (suc out) Done) after)))

  abbrev pub left_unless_pair : Option Pair → Code → (exit out : ℕ) → Instructions → Instructions
  left_unless_pair None test exit out after = left_unless_counted (counted_in test) test exit out after
  left_unless_pair (Some pair) test exit out after =
      all_unsure (name_read layout) (pair_names pair) (pos largest) (2 ^ 54)
      (emit_if (tested layout [] [] test zero zero (suc exit) (emit (Test I32 Eqz) (emit (BrIf (suc out)) Done))) (pair_left pair (suc out) Done) after)

  -- where a test fails `out` labels further out are left
  abbrev pub left_unless : Option Within → Code → (exit out : ℕ) → Instructions → Instructions
  left_unless None test exit out after = left_unless_pair (pair_in test) test exit out after
  left_unless (Some within) test exit out after =
      unsure (name_read layout within.name) within.shift within.width
      (when (tested layout [] [] test zero zero (suc exit) (emit (Test I32 Eqz) (emit (BrIf (suc out)) Done))) after)

  -- `return`: what temporary 0 has is the answer. A text waits in a global. Nothing but iterators is held then, so the exit is one label further out
  -- than that for faults.

  abbrev pub word_given : (exit : ℕ) → Instructions → Instructions
  word_given exit after = emit (LocalGet (number_local bases zero)) (emit (LocalSet (answer_local bases)) (emit (Br (suc exit)) after))

  abbrev pub text_given : Instructions → Instructions
  text_given after = moved_out (handle_local bases zero) (emit (GlobalSet text_global) after)

  abbrev pub constant_given : (word out : ℕ) → Instructions → Instructions
  constant_given word out after = emit (I64Const word) (emit (LocalSet (answer_local bases)) (emit (Br out) after))

  abbrev pub answer_given : Form → (exit : ℕ) → Instructions → Instructions
  answer_given (PrimitiveAnswer (answer.Of sort.Value)) exit after = text_given (constant_given text_beside (suc exit) after)
  answer_given (PrimitiveAnswer (answer.Of sort.Number)) exit after = word_given exit after
  answer_given (PrimitiveAnswer answer.Truth) exit after = word_given exit after
  answer_given NumberOrText exit after = number_is (number_local bases zero) text_beside (when (text_given Done) (word_given exit after))
  answer_given OptionalNumber exit after = word_given exit after
  answer_given form exit after = constant_given least (suc exit) after

  -- The number of an unboxed parameter, or the mark that it has none, is the answer's word; where a global lends at its place, that mark is not.
  abbrev pub parameter_returned : Option ℕ → ℕ → (exit : ℕ) → Instructions → Instructions
  parameter_returned None place exit after = emit (LocalGet place) (emit (LocalSet (answer_local bases)) (emit (Br (suc exit)) after))
  parameter_returned (Some name) place exit after =
      emitted layout false [] [] (Get (Parameter true place)) zero zero exit (answer_given NumberOrText exit after)

  -- What is chosen is returned where it is chosen: in a block that a quick test leaves, or in an `if`.
  abbrev pub returned : Code → (exit : ℕ) → Instructions → Instructions
  returned (Choose sort.Value test so otherwise) exit after =
      if is_some (pair_in test)
      then block (left_unless_pair (pair_in test) test (suc exit) zero (returned so (suc exit) Done)) (returned otherwise exit after)
      else tested layout [] [] test zero zero exit (emit_if (returned so (suc exit) Done) (returned otherwise (suc exit) Done) after)
  returned (Get (Parameter true place)) exit after = parameter_returned (lender_at layout.lenders place) place exit after
  returned code exit after = emitted layout false [] [] code zero zero exit (answer_given (form_of [] code) exit after)

  -- Steps: so many iterators are in use; so many labels are between the code and the function's exit, the place where `break` goes, and the one where
  -- `continue` goes.
  unfoldable mutual
    pub step_emitted : Step → (iterators exit break_to continue_to : ℕ) → Instructions → Instructions
    step_emitted (Eval code) iterators exit break_to continue_to after = emit Nop (quickly_dropped (sum_in code) code exit after)
    step_emitted (Steps_ steps) iterators exit break_to continue_to after = emit Nop (steps_emitted steps iterators exit break_to continue_to after)
    step_emitted (Either test so otherwise) iterators exit break_to continue_to after =
        emit Nop (if is_some (pair_in test)
        then block (block (left_unless_pair (pair_in test) test (suc (suc exit)) zero
        (step_emitted so iterators (suc (suc exit)) (suc (suc break_to)) (suc (suc continue_to)) (emit (Br 1) Done)))
        (step_emitted otherwise iterators (suc exit) (suc break_to) (suc continue_to) Done)) after
        else tested layout [] [] test zero zero exit (emit_if (step_emitted so iterators (suc exit) (suc break_to) (suc continue_to) Done)
        (step_emitted otherwise iterators (suc exit) (suc break_to) (suc continue_to) Done) after))
    step_emitted (Loop true test body last) iterators exit break_to continue_to after =
        let rest = if is_nothing last then emit (Br zero) Done else step_emitted last iterators (suc (suc exit)) 1 zero (emit (Br zero) Done) in
        emit Nop (block (again (left_unless (test_within test) test (suc (suc exit)) 1
        (if step_jumps body then block (step_emitted body iterators (suc (suc (suc exit))) 2 zero Done) rest
        else step_emitted body iterators (suc (suc exit)) 1 zero rest)) Done) after)
    step_emitted (Loop false test body last) iterators exit break_to continue_to after =
        emit Nop (block (again (block (step_emitted body iterators (suc (suc (suc exit))) 2 zero Done)
        (step_emitted last iterators (suc (suc exit)) 1 zero
        (emit Nop (tested layout [] [] test zero zero (suc (suc exit)) (emit (BrIf zero) Done))))) Done) after)
    step_emitted (Each array store body) iterators exit break_to continue_to after =
        emit Nop (array_pushed layout array (ask_row row.Iter (emit (LocalSet (iterator_local bases iterators))
        (block (again (key_stored iterators store (suc (suc exit))
        (block (step_emitted body (suc iterators) (suc (suc (suc exit))) 2 zero Done) (emit (Br zero) Done))) Done)
        (iterator_left iterators after)))))
    step_emitted Break iterators exit break_to continue_to after = emit Nop (emit (Br break_to) after)
    step_emitted Continue iterators exit break_to continue_to after = emit Nop (emit (Br continue_to) after)
    step_emitted Next iterators exit break_to continue_to after = emit Nop (left_by way_next exit after)
    step_emitted Exit iterators exit break_to continue_to after = emit Nop (left_by way_exit exit after)
    step_emitted (ExitWith code) iterators exit break_to continue_to after =
        emit Nop (emitted layout false [] [] code zero zero exit (to_number bases (form_of [] code) zero exit
        (emit (LocalGet (number_local bases zero)) (emit (GlobalSet status_global) (left_by way_exit exit after)))))
    step_emitted (Return code) iterators exit break_to continue_to after = emit Nop (returned code exit after)
    step_emitted (Mark item opens) iterators exit break_to continue_to after =
        emit Nop (emit (I32Const (flag_number opens)) (emit (GlobalSet (range_global item)) after))

    pub steps_emitted : Steps → (iterators exit break_to continue_to : ℕ) → Instructions → Instructions
    steps_emitted NoStep iterators exit break_to continue_to after = after
    steps_emitted (AndThen step steps) iterators exit break_to continue_to after =
        step_emitted step iterators exit break_to continue_to (steps_emitted steps iterators exit break_to continue_to after)

  -- At a function's beginning its locals for handles, iterators and arrays are empty, and on every way out what they have is let go.

  abbrev pub temporaries_emptied : ℕ → ℕ → Instructions → Instructions
  temporaries_emptied temporary zero after = after
  temporaries_emptied temporary (suc count) after = emptied (handle_local bases temporary) (temporaries_emptied (suc temporary) count after)

  abbrev pub iterators_emptied : ℕ → ℕ → Instructions → Instructions
  iterators_emptied iterators zero after = after
  iterators_emptied iterators (suc count) after = emptied (iterator_local bases iterators) (iterators_emptied (suc iterators) count after)

  abbrev pub arrays_emptied : ℕ → ℕ → Instructions → Instructions
  arrays_emptied arrays zero after = after
  arrays_emptied arrays (suc count) after = emptied (array_local bases arrays) (arrays_emptied (suc arrays) count after)

  abbrev pub all_emptied : Instructions → Instructions
  all_emptied after =
      emit (I64Const was_left) (emit (LocalSet (answer_local bases))
      (temporaries_emptied zero bases.temporaries (iterators_emptied zero bases.iterators (arrays_emptied zero bases.arrays after))))

  abbrev pub temporaries_swept : ℕ → ℕ → Instructions → Instructions
  temporaries_swept temporary zero after = after
  temporaries_swept temporary (suc count) after = let_go Drop (handle_local bases temporary) (temporaries_swept (suc temporary) count after)

  abbrev pub iterators_swept : ℕ → ℕ → Instructions → Instructions
  iterators_swept iterators zero after = after
  iterators_swept iterators (suc count) after = let_go IterFree (iterator_local bases iterators) (iterators_swept (suc iterators) count after)

  abbrev pub arrays_swept : ℕ → ℕ → Instructions → Instructions
  arrays_swept arrays zero after = after
  arrays_swept arrays (suc count) after = let_go FreeArray (array_local bases arrays) (arrays_swept (suc arrays) count after)

  abbrev pub swept : Instructions → Instructions
  swept after = temporaries_swept zero bases.temporaries (iterators_swept zero bases.iterators (arrays_swept zero bases.arrays after))

  -- temporaries and arrays of calls
  abbrev pub operands_swept : Instructions → Instructions
  operands_swept after = temporaries_swept zero bases.temporaries (arrays_swept zero bases.arrays after)

  -- the values of parameters; numbers and arrays of the caller's are not the function's to drop
  abbrev pub parameters_dropped : ℕ → List Kind → Instructions → Instructions
  parameters_dropped place [] after = after
  parameters_dropped place (Boxed ∷ kinds) after = emit (LocalGet place) (ask Drop (parameters_dropped (suc place) kinds after))
  parameters_dropped place (Unboxed ∷ kinds) after = parameters_dropped (suc place) kinds after
  parameters_dropped place (ArrayKind ∷ kinds) after = parameters_dropped (suc place) kinds after

  -- A function that ends without `return` answers nothing. The inner block is the exit of one that is left, the outer one that of `return`.
  abbrev pub routine_ended : Instructions
  routine_ended = constant_given least 1 Done

  abbrev pub routine_exit : List Kind → Instructions
  routine_exit kinds = iterators_swept zero bases.iterators (parameters_dropped zero kinds (emit (LocalGet (answer_local bases)) Done))

  abbrev pub routine_body : List Kind → Steps → Instructions
  routine_body kinds body =
      all_emptied (block (block (steps_emitted body zero zero zero zero routine_ended) (operands_swept Done)) (routine_exit kinds))

  -- `main`.

  -- A job with a text past the limit keeps a fault from the start: this is the first import that may fault, and does nothing else.
  abbrev pub started : Instructions → Instructions
  started after = emit (I64Const 1) (emit (I64Const 1) (ask_row row.Pow (kept_number bases true zero zero after)))

  -- names stand in memory after the script's texts
  abbrev pub declared : NameKind → ℕ → Instructions → Instructions
  declared kind text after = text_pushed layout text (emit (I32Const (kind_number kind)) (ask_row row.Declare after))

  abbrev pub declared_kind : Kind → NameKind
  declared_kind ArrayKind = ArrayOrFunction
  declared_kind Boxed = Scalar
  declared_kind Unboxed = Scalar

  abbrev pub names_declared : ℕ → List Kind → Instructions → Instructions
  names_declared text [] after = after
  names_declared text (kind ∷ kinds) after = declared (declared_kind kind) text (names_declared (suc text) kinds after)

  abbrev pub routines_declared : ℕ → ℕ → Instructions → Instructions
  routines_declared text zero after = after
  routines_declared text (suc count) after = declared ArrayOrFunction text (routines_declared (suc text) count after)

  -- what a name has before the script runs; an unboxed one has nothing
  abbrev pub names_made : ℕ → List Kind → Instructions → Instructions
  names_made name [] after = after
  names_made name (Boxed ∷ kinds) after = ask_row row.Uninit (emit (GlobalSet (handle_global layout.ranges name)) (names_made (suc name) kinds after))
  names_made name (Unboxed ∷ kinds) after = names_made (suc name) kinds after
  names_made name (ArrayKind ∷ kinds) after = ask_row row.NewArray (emit (GlobalSet (handle_global layout.ranges name)) (names_made (suc name) kinds after))

  -- what `next` or `exit` left held is let go: where no function may have been called it is no more than iterators
  abbrev pub left_swept : (calls : Bool) → Instructions → Instructions
  left_swept true after = swept after
  left_swept false after = iterators_swept zero bases.iterators after

  -- what was left by `next` or by `exit` goes on once what it held is let go
  abbrev pub goes_on : Instructions → Instructions
  goes_on after = emit (I32Const way_none) (emit (GlobalSet way_global) (left_swept (has_functions layout.calls) after))

  -- the items for a record; `exit` labels out is where all but `next` goes on to
  abbrev pub record_done : Steps → ℕ → Instructions → Instructions
  record_done items exit after =
      block
      (block (steps_emitted items zero zero zero zero (emit (Br 1) Done))
      (emit (GlobalGet way_global) (emit (I32Const way_next) (emit (Comparing I32 Ne) (emit (BrIf (suc exit)) (goes_on Done))))))
      after

  abbrev pub records_read : Steps → ℕ → Instructions → Instructions
  records_read items exit after =
      again (ask_row row.NextMain (kept_code bases true zero (suc exit)
      (number_is (number_local bases zero) 1 (when (record_done items (suc (suc exit)) (emit (Br 1) Done))
      (number_is (number_local bases zero) 2 (when (pending_assigned layout zero (emit (Br 1) Done)) Done)))))) after

  -- a part, left by `exit` or at its end; so many labels out is the exit of `main`
  abbrev pub part_done : Instructions → ℕ → Instructions → Instructions
  part_done actions exit after =
      block
      (block actions
      (emit (GlobalGet way_global) (emit (Test I32 Eqz) (emit (BrIf (suc exit))
      (emit (GlobalGet way_global) (emit (I32Const way_next) (emit (Comparing I32 Eq)
      (when (emit (I32Const (fault_number NextOutside)) (ask_row row.Fail (emit (Br (suc (suc exit))) Done)))
      (goes_on Done)))))))))
      after

  abbrev pub first_part : Program → Instructions
  first_part program =
      steps_emitted program.begin zero zero zero zero (if program.reads then records_read program.items zero (emit (Br 1) Done) else emit (Br 1) Done)

  abbrev pub last_part : Program → Instructions
  last_part program = steps_emitted program.end zero zero zero zero (emit (Br 1) Done)

  abbrev pub before_parts : Program → Instructions → Instructions
  before_parts program after =
      started (names_declared (length program.texts) layout.names (routines_declared (length program.texts + length program.globals) (length program.routines)
      (names_made zero layout.names (asked layout row.StartAssign zero zero after))))

  -- the outer block is the exit of `main`, whose answer is the status
  abbrev pub main_body : Program → Instructions
  main_body program =
      all_emptied (block (before_parts program (part_done (first_part program) zero (ask_row row.BeginEnd (part_done (last_part program) zero Done))))
      (swept (emit (GlobalGet status_global) (emit (Convert I32WrapI64) Done))))
