-- Parts of the definitions, which are added by functions of their own. The words are those of the definitions (lower_model, `Emission`): `after` is the
-- code that comes after, `temporary` the one that the value goes to, `arrays` how many arrays of calls are in use, `exit` how many labels further out the
-- exit is, and `iterators` how many of them are in use.
use Rattle.std.specs.Prelude.{ℕ, zero, suc, ◌+◌, Bool, true, false, if◌then◌else◌, List, [], ◌∷◌, length, Some, is_some, ℤ, pos, ◌^◌}
use Rattle.std.specs.Int.{w64, cast_unsigned}
use Rattle.awk_values.specs.declared.fault.Fault.TheVariants.{NextOutside}
use Rattle.sem_primitives.specs.declared.table.Primitive.TheVariants as row
use Rattle.wasm_types.specs.Syntax.{Instructions, Done}
use Rattle.wasm_types.specs.declared.types.ValType.TheVariants.{I32, I64}
use Rattle.wasm_types.specs.declared.instr.CvtOp.TheVariants.{I32WrapI64}
use Rattle.wasm_types.specs.declared.instr.IRelOp.TheVariants.{Eq, LeS, Ne}
use Rattle.wasm_types.specs.declared.instr.ITestOp.TheVariants.{Eqz}
use Rattle.wasm_types.specs.declared.instr.Simple.TheVariants.{Nop, Br, BrIf, LocalGet, LocalSet, LocalTee, GlobalGet, GlobalSet, I32Const, I64Const, Test, Compare as Comparing, Convert}
use Rattle.sem_scripts.specs.Names.{ArrayName}
use Rattle.mid_program.specs.Mid.{Kind, Boxed, Unboxed, ArrayKind, Code, Get, Form, Step, Steps, Program, form_of}
use Rattle.lower_model.specs.Emission.{Layout, array_pushed, emitted, pending_assigned, tested, name_read}
use Rattle.lower_model.specs.Quick.{Counted, Holder, Pair, Remainder, Sum, all_unsure, sum_names, sum_op, Tally, Within, is_nothing, pair_in, step_jumps, test_within}
use Rattle.lower_model.specs.Places.{Bases, answer_local, handle_global, iterator_local, status_global, way_global, handle_local, number_local}
use Rattle.lower_model.specs.Small.{ask, ask_row, emit, emit_if, end_code, fail_if, kept_code, kept_value, least, moved_out, number_is, text_beside, to_number, when}
use Rattle.lower_model.specs.Statements.{again, all_emptied, before_parts, block, constant_given, first_part, goes_on, iterator_left, iterators_swept, operands_swept, key_stored, last_part, left_by, left_unless, left_unless_counted, left_unless_pair, name_numbered, names_declared, parameters_dropped, part_done, record_done, records_read, returned, routines_declared, step_emitted, steps_emitted, sum_kept, element_given, remainder_dropped, summed, summed_anyway, swept, way_exit, way_next}
use Rattle.host_imports.specs.declared.import.Import.TheVariants.{Drop}
use Rattle.lowering.specs.declared.around.Around.{Around}

-- the status of this form is set, and the function left by `exit`
abbrev pub status_left : Bases → Form → ℕ → Instructions → Instructions
status_left bases form exit after =
    to_number bases form zero exit (emit (LocalGet (number_local bases zero)) (emit (GlobalSet status_global) (left_by way_exit exit after)))

-- what is done over and over, within a label for its end
abbrev pub rounds : Instructions → Instructions → Instructions
rounds turn after = block (again turn Done) after

-- a test in all cases: where it does not hold, code is left to a label
abbrev pub test_left : Layout → Code → (exit out : ℕ) → Instructions → Instructions
test_left layout test exit out after = tested layout [] [] test zero zero exit (emit (Test I32 Eqz) (emit (BrIf out) after))

-- Quick ways.

-- a test that compares sources
abbrev pub pair_tested : Layout → Pair → Code → (exit out : ℕ) → Instructions → Instructions
pair_tested layout pair test exit out after = left_unless_pair layout (Some pair) test exit out after

-- a test that holds of some numbers of a name
abbrev pub within_tested : Layout → Within → Code → (exit out : ℕ) → Instructions → Instructions
within_tested layout within test exit out after = left_unless layout (Some within) test exit out after

-- a sum that a name takes: quickly where all numbers are near
abbrev pub sum_done : Layout → Sum → ℕ → Instructions → Instructions
sum_done layout sum exit after =
    all_unsure (name_read layout) (sum_names sum) (pos (2 ^ 52)) (2 ^ 53) (emit_if (summed_anyway layout sum (suc exit) Done) (summed layout sum Done) after)

-- a remainder that a name takes: quickly where no product leaves the range
abbrev pub remainder_done : Layout → Remainder → Code → ℕ → Instructions → Instructions
remainder_done layout remainder code exit after = remainder_dropped layout (Some remainder) code exit after

-- the value of temporary 0 is put behind a name's text
abbrev pub text_joined : Layout → ℕ → (exit : ℕ) → Instructions → Instructions
text_joined layout name exit after =
    emit (GlobalGet (handle_global layout.ranges name)) (moved_out (handle_local layout.bases zero) (ask_row row.Concat (kept_value layout.bases true zero exit
    (moved_out (handle_local layout.bases zero) (emit (GlobalSet (handle_global layout.ranges name)) after)))))

-- whether code reads a name
abbrev pub is_read : Code → Bool
is_read (Get slot) = true
is_read code = false

-- whether a name has no number
abbrev pub unnumbered : Layout → Holder → Instructions → Instructions
unnumbered layout name after = emit (name_read layout name) (emit (I64Const text_beside) (emit (Comparing I64 LeS) after))

-- a comparison of a name with how many fields there are
abbrev pub counted_tested : Layout → Counted → Code → (exit out : ℕ) → Instructions → Instructions
counted_tested layout counted test exit out after = left_unless_counted layout (Some counted) test exit out after

-- 0 where there is no number yet
abbrev pub zero_put : Bases → ℕ → Instructions → Instructions
zero_put bases temporary after = emit (I64Const 0) (emit (LocalSet (number_local bases temporary)) after)

-- the number of temporary 0 is put on the stack, and that of the field that a constant gives, by its bits
abbrev pub field_added : Bases → (bits : ℕ) → Instructions → Instructions
field_added bases bits after = emit (LocalGet (number_local bases zero)) (emit (I64Const bits) (ask_row row.Field (ask_row row.ToNum after)))

-- the numbers of a name and of the field with this number, on the stack
abbrev pub field_asked : Layout → Holder → ℤ → ℕ → Instructions → Instructions
field_asked layout name number exit after = name_numbered layout name zero exit (field_added layout.bases (cast_unsigned w64 number) after)

-- a counter's key, and what is added
abbrev pub tally_evaluated : Layout → Tally → ℕ → Instructions → Instructions
tally_evaluated layout tally exit after =
    emitted layout false [] [] tally.key zero zero exit (emitted layout false (form_of [] tally.key ∷ []) (zero ∷ []) tally.added 1 zero exit after)

-- an element takes the sum
abbrev pub sum_given : Layout → Tally → ℕ → Instructions → Instructions
sum_given layout tally exit after =
    emit (LocalGet (number_local layout.bases 2))
    (emit (LocalGet (number_local layout.bases 1)) (sum_kept layout (sum_op tally.op) 2 exit (element_given layout tally.written after)))

-- a turn begins again where the test holds
abbrev pub tested_on : Layout → Code → ℕ → Instructions → Instructions
tested_on layout test exit after = emit Nop (tested layout [] [] test zero zero (suc (suc exit)) (emit (BrIf zero) after))

-- a choice of two statements: by an `if`, or by a comparison of sources in two blocks

abbrev pub plainly_chosen : Layout → Code → Step → Step → Around → Instructions → Instructions
plainly_chosen layout test so otherwise at after =
    let exit = suc at.exit in
    tested layout [] [] test zero zero at.exit (emit_if
    (step_emitted layout so at.iterators exit (suc at.break_to) (suc at.continue_to) Done)
    (step_emitted layout otherwise at.iterators exit (suc at.break_to) (suc at.continue_to) Done) after)

abbrev pub quick_way : Layout → Code → Step → Around → Instructions → Instructions
quick_way layout test so at after =
    let exit = suc (suc at.exit) in
    left_unless_pair layout (pair_in test) test exit zero
    (step_emitted layout so at.iterators exit (suc (suc at.break_to)) (suc (suc at.continue_to)) (emit (Br 1) after))

abbrev pub quick_ways : Layout → Code → Step → Step → Around → Instructions → Instructions
quick_ways layout test so otherwise at after =
    block (quick_way layout test so at Done) (step_emitted layout otherwise at.iterators (suc at.exit) (suc at.break_to) (suc at.continue_to) after)

abbrev pub quickly_chosen : Layout → Code → Step → Step → Around → Instructions → Instructions
quickly_chosen layout test so otherwise at after = block (quick_ways layout test so otherwise at Done) after

abbrev pub chosen : Layout → Code → Step → Step → Around → Instructions → Instructions
chosen layout test so otherwise at after =
    if is_some (pair_in test) then quickly_chosen layout test so otherwise at after else plainly_chosen layout test so otherwise at after

-- the body of a loop
abbrev pub body_code : Layout → Step → (iterators exit : ℕ) → Instructions
body_code layout body iterators exit = step_emitted layout body iterators (suc (suc (suc exit))) 2 zero Done

-- the body of a loop that begins with its test: in a block where `break` or `continue` leaves it
abbrev pub turn_body : Layout → Step → (iterators exit : ℕ) → Instructions → Instructions
turn_body layout body iterators exit after =
    if step_jumps body then block (body_code layout body iterators exit) after else step_emitted layout body iterators (suc (suc exit)) 1 zero after

-- what comes after it, and the next turn
abbrev pub turn_ended : Layout → Step → (iterators exit : ℕ) → Instructions → Instructions
turn_ended layout last iterators exit after =
    if is_nothing last then emit (Br zero) after else step_emitted layout last iterators (suc (suc exit)) 1 zero (emit (Br zero) after)

-- a turn of a loop that begins with its test
abbrev pub tested_turn : Layout → Code → Step → Step → (iterators exit : ℕ) → Instructions → Instructions
tested_turn layout test body last iterators exit after =
    left_unless layout (test_within test) test (suc (suc exit)) 1 (turn_body layout body iterators exit (turn_ended layout last iterators exit after))

-- a turn of a loop that ends with its test
abbrev pub first_turn : Layout → Code → Step → Step → (iterators exit : ℕ) → Instructions → Instructions
first_turn layout test body last iterators exit after =
    block (body_code layout body iterators exit) (step_emitted layout last iterators (suc (suc exit)) 1 zero (tested_on layout test exit after))

abbrev pub turn : Bool → Layout → Code → Step → Step → (iterators exit : ℕ) → Instructions → Instructions
turn true layout test body last iterators exit after = tested_turn layout test body last iterators exit after
turn false layout test body last iterators exit after = first_turn layout test body last iterators exit after

-- an iterator over an array
abbrev pub iterator_made : Layout → ArrayName → ℕ → Instructions → Instructions
iterator_made layout array iterators after = array_pushed layout array (ask_row row.Iter (emit (LocalSet (iterator_local layout.bases iterators)) after))

-- the next key, and the end of the loop where there is none
abbrev pub key_asked : Bases → ℕ → Instructions → Instructions
key_asked bases iterators after =
    emit (LocalGet (iterator_local bases iterators)) (emit (LocalTee (iterator_local bases iterators)) (ask_row row.IterNext
    (emit (LocalTee (handle_local bases zero)) (emit (I32Const end_code) (emit (Comparing I32 Eq) (emit (BrIf 1) after))))))

-- a turn of a loop over keys
abbrev pub key_turn : Layout → Code → Step → (iterators exit : ℕ) → Instructions → Instructions
key_turn layout store body iterators exit after =
    key_stored layout iterators store (suc (suc exit)) (block (body_code layout body (suc iterators) exit) (emit (Br zero) after))

-- a loop over the keys of an array
abbrev pub keys_walked : Layout → ArrayName → Code → Step → (iterators exit : ℕ) → Instructions → Instructions
keys_walked layout array store body iterators exit after =
    iterator_made layout array iterators (rounds (key_turn layout store body iterators exit Done) (iterator_left layout iterators after))

-- the value of a parameter of this kind is dropped
abbrev pub parameter_dropped : Kind → ℕ → Instructions → Instructions
parameter_dropped Boxed place after = emit (LocalGet place) (ask Drop after)
parameter_dropped Unboxed place after = after
parameter_dropped ArrayKind place after = after

-- the answer's word is what a local has
abbrev pub local_given : Layout → ℕ → (exit : ℕ) → Instructions → Instructions
local_given layout local exit after = emit (LocalGet local) (emit (LocalSet (answer_local layout.bases)) (emit (Br (suc exit)) after))

-- one of two is returned: in a block that a quick test leaves, or after it; or both in an `if`

abbrev pub quick_returned : Layout → Code → Code → (exit : ℕ) → Instructions → Instructions
quick_returned layout test so exit after = left_unless_pair layout (pair_in test) test (suc exit) zero (returned layout so (suc exit) after)

abbrev pub quickly_returned : Layout → Code → Code → Code → (exit : ℕ) → Instructions → Instructions
quickly_returned layout test so otherwise exit after = block (quick_returned layout test so exit Done) (returned layout otherwise exit after)

abbrev pub either_returned : Layout → Code → Code → Code → (exit : ℕ) → Instructions → Instructions
either_returned layout test so otherwise exit after =
    tested layout [] [] test zero zero exit (emit_if (returned layout so (suc exit) Done) (returned layout otherwise (suc exit) Done) after)

-- what a function has where it returns is let go, and its answer given
abbrev pub answer_given : Layout → List Kind → Instructions → Instructions
answer_given layout kinds after =
    iterators_swept layout zero layout.bases.iterators (parameters_dropped layout zero kinds (emit (LocalGet (answer_local layout.bases)) after))

-- the statements of a function
abbrev pub routine_steps : Layout → Steps → Instructions → Instructions
routine_steps layout body after = steps_emitted layout body zero zero zero zero (constant_given layout least 1 after)

-- the same, and what a function holds that is left
abbrev pub routine_way : Layout → Steps → Instructions → Instructions
routine_way layout body after = block (routine_steps layout body Done) (operands_swept layout after)

-- a function, with more after it
abbrev pub routine_code : Layout → List Kind → Steps → Instructions → Instructions
routine_code layout kinds body after = all_emptied layout (block (routine_way layout body Done) (answer_given layout kinds after))

-- `main`

-- an item's statements, left by `next`, go on where this way was taken
abbrev pub next_taken : Layout → ℕ → Instructions → Instructions
next_taken layout exit after = emit (GlobalGet way_global) (emit (I32Const way_next) (emit (Comparing I32 Ne) (emit (BrIf (suc exit)) (goes_on layout after))))

-- the items for a record
abbrev pub items_code : Layout → Steps → Instructions → Instructions
items_code layout items after = steps_emitted layout items zero zero zero zero (emit (Br 1) after)

abbrev pub record_code : Layout → Steps → ℕ → Instructions → Instructions
record_code layout items exit after = block (items_code layout items Done) (next_taken layout exit after)

-- a record is asked for, and the test whether there is one
abbrev pub record_asked : Bases → ℕ → Instructions → Instructions
record_asked bases exit after = ask_row row.NextMain (kept_code bases true zero (suc exit) (number_is (number_local bases zero) 1 after))

-- the items are done for a record, and the next one is asked for
abbrev pub record_way : Layout → Steps → ℕ → Instructions → Instructions
record_way layout items exit after = record_done layout items exit (emit (Br 1) after)

-- an assignment of the command line is made where it stands before the next record
abbrev pub assignment_made : Layout → Instructions → Instructions
assignment_made layout after = number_is (number_local layout.bases zero) 2 (when (pending_assigned layout zero (emit (Br 1) Done)) after)

-- one record, or assignment
abbrev pub record_turn : Layout → Steps → ℕ → Instructions → Instructions
record_turn layout items exit after = record_asked layout.bases exit (when (record_way layout items (suc (suc exit)) Done) (assignment_made layout after))

-- how a part of `main` was left
abbrev pub part_left : Layout → ℕ → Instructions → Instructions
part_left layout exit after =
    emit (GlobalGet way_global) (emit (Test I32 Eqz) (emit (BrIf (suc exit))
    (emit (GlobalGet way_global) (emit (I32Const way_next) (emit (Comparing I32 Eq) (fail_if NextOutside (suc exit) (goes_on layout after)))))))

-- a part, once what it does is known
abbrev pub part_code : Layout → Instructions → ℕ → Instructions → Instructions
part_code layout actions exit after = block actions (part_left layout exit after)

-- records are read, if a script has any use for them
abbrev pub records_if : Layout → Bool → Steps → Instructions → Instructions
records_if layout true items after = records_read layout items zero after
records_if layout false items after = after

abbrev pub first_code : Layout → Program → Instructions → Instructions
first_code layout program after = steps_emitted layout program.begin zero zero zero zero (records_if layout program.reads program.items (emit (Br 1) after))

-- both parts, and what goes before them
abbrev pub parts_code : Layout → Program → Instructions → Instructions
parts_code layout program after =
    before_parts layout program
    (part_done layout (first_part layout program) zero (ask_row row.BeginEnd (part_done layout (last_part layout program) zero after)))

-- what `main` has is let go, and the status given
abbrev pub status_given : Layout → Instructions → Instructions
status_given layout after = swept layout (emit (GlobalGet status_global) (emit (Convert I32WrapI64) after))

abbrev pub main_code : Layout → Program → Instructions → Instructions
main_code layout program after = all_emptied layout (block (parts_code layout program Done) (status_given layout after))

-- names are announced, then functions
abbrev pub names_told : Layout → Program → Instructions → Instructions
names_told layout program after =
    names_declared layout (length program.texts) layout.names
    (routines_declared layout (length program.texts + length program.globals) (length program.routines) after)

-- what a name of this kind has before the script runs
abbrev pub name_made : Layout → Kind → ℕ → Instructions → Instructions
name_made layout Boxed name after = ask_row row.Uninit (emit (GlobalSet (handle_global layout.ranges name)) after)
name_made layout Unboxed name after = after
name_made layout ArrayKind name after = ask_row row.NewArray (emit (GlobalSet (handle_global layout.ranges name)) after)
