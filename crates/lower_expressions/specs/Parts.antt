-- Parts of the definitions, which are added by functions of their own. The words are those of the definitions (lower_model, `Emission`): `after` is the
-- code that comes after, `temporary` the one that the value goes to, `arrays` how many arrays of calls are in use, `exit` how many labels further out the
-- exit is.
use Rattle.std.specs.Prelude.{ℕ, zero, suc, ◌+◌, ◌^◌, pos, Bool, true, false, List, [], ◌∷◌, length}
use Rattle.sem_primitives.specs.ConstantNumbers.{flag_number}
use Rattle.sem_primitives.specs.Table.{arguments_of, answer_of, can_fault}
use Rattle.sem_primitives.specs.declared.sorts.Argument.{Argument}
use Rattle.sem_primitives.specs.declared.sorts.Argument.TheVariants as argument
use Rattle.sem_primitives.specs.declared.table.Listed.{Listed}
use Rattle.sem_primitives.specs.declared.table.Primitive.{Primitive}
use Rattle.sem_primitives.specs.declared.table.Primitive.TheVariants.{GetlineVarFile, Join, Sub}
use Rattle.sem_primitives.specs.declared.sorts.Answer.TheVariants as answer
use Rattle.sem_primitives.specs.declared.sorts.Sort.{Sort}
use Rattle.sem_primitives.specs.declared.sorts.Sort.TheVariants as sort
use Rattle.wasm_types.specs.declared.types.ValType.TheVariants.{I64}
use Rattle.wasm_types.specs.declared.instr.ITestOp.TheVariants.{Eqz}
use Rattle.mid_program.specs.MidMeaning.{three_values}
use Rattle.wasm_types.specs.Syntax.{Instructions, Done}
use Rattle.wasm_types.specs.declared.instr.Simple.TheVariants.{Br, Call as CallOf, I32Const, I64Const, LocalGet, LocalTee, Test}
use Rattle.mid_program.specs.Mid as plain
use Rattle.mid_program.specs.declared.mid.Operation.{Operation}
use Rattle.mid_program.specs.declared.mid.Operation.TheVariants.{Host}
use Rattle.mid_program.specs.Mid.{Kind, Boxed, Unboxed, ArrayKind, Code, Codes, End, At, Fixed, Fresh, arguments, form_of, parameters_at}
use Rattle.lower_model.specs.Places.{Bases, array_local, made_in, handle_local, number_local}
use Rattle.lower_model.specs.Small.{ask, ask_row, emit, emit_if, kept, kept_code, answer_kept, moved_out, number_is, to_value, converted, when}
use Rattle.lower_model.specs.Emission.{Layout, added, all_converted, all_emitted, all_pushed, emitted, name_read, text_kept, text_let_go, assigned, function_number, lent, listed_asked, one_given, pending_assigned, performed}
use Rattle.lower_model.specs.Quick.{Addition, addition_names, all_unsure}
use Rattle.host_imports.specs.declared.import.Import.TheVariants.{Arg, FreeArray}

-- a constant, and the value that a row has of it
abbrev pub constant_asked : (bits : ℕ) → Primitive → Instructions → Instructions
constant_asked bits primitive after = emit (I64Const bits) (ask_row primitive after)

-- what becomes of one name where the command line assigns
abbrev pub number_assigned : Layout → Kind → ℕ → ℕ → Instructions → Instructions
number_assigned layout kind name temporary after = number_is (number_local layout.bases temporary) name (when (assigned layout kind name temporary Done) after)

abbrev pub one_assigned : Layout → Kind → ℕ → ℕ → Instructions → Instructions
one_assigned layout ArrayKind name temporary after = after
one_assigned layout kind name temporary after = number_assigned layout kind name temporary after

-- an import is asked, and whether an assignment is pending
abbrev pub asked_once : Bases → Primitive → ℕ → ℕ → Instructions → Instructions
asked_once bases primitive temporary exit after =
    ask_row primitive (kept_code bases true temporary (suc exit) (number_is (number_local bases temporary) 2 after))

-- one turn of asking
abbrev pub one_asked : Layout → Primitive → ℕ → ℕ → Instructions → Instructions
one_asked layout primitive temporary exit after =
    asked_once layout.bases primitive temporary exit (when (pending_assigned layout temporary (emit (Br 1) Done)) after)

-- the forms of operands that are code
abbrev pub forms_in : List plain.Form → Codes → List plain.Form
forms_in forms End = []
forms_in forms (At code operands) = form_of forms code ∷ forms_in forms operands
forms_in forms (Fixed number operands) = forms_in forms operands
forms_in forms (Fresh operands) = forms_in forms operands

-- the same as what the definitions say, where the operands' forms are known

abbrev pub converted_with : Bases → List plain.Form → List Argument → Codes → ℕ → ℕ → Instructions → Instructions
converted_with bases (form ∷ forms) (argument.Of wanted ∷ rest) (At code operands) temporary exit after =
    converted bases form wanted temporary exit (converted_with bases forms rest operands (suc temporary) exit after)
converted_with bases forms (first ∷ rest) (Fixed number operands) temporary exit after = converted_with bases forms rest operands temporary exit after
converted_with bases _ _ _ temporary exit after = after

abbrev pub boxed_with : Bases → List plain.Form → ℕ → Instructions → Instructions
boxed_with bases [] temporary after = after
boxed_with bases (form ∷ forms) temporary after = to_value bases form temporary (boxed_with bases forms (suc temporary) after)

abbrev pub appended_with : Bases → List plain.Form → ℕ → Instructions → Instructions
appended_with bases [] temporary after = after
appended_with bases (form ∷ forms) temporary after = moved_out (handle_local bases temporary) (ask Arg (appended_with bases forms (suc temporary) after))

abbrev pub given_one : Layout → Kind → plain.Form → ℕ → Instructions → Instructions
given_one layout Boxed form temporary after = to_value layout.bases form temporary after
given_one layout Unboxed form temporary after = lent layout form temporary after
given_one layout ArrayKind form temporary after = after

abbrev pub given_with : Layout → List plain.Form → List Kind → Codes → ℕ → Instructions → Instructions
given_with layout (form ∷ forms) (kind ∷ kinds) (At code operands) temporary after =
    given_one layout kind form temporary (given_with layout forms kinds operands (suc temporary) after)
given_with layout forms (kind ∷ kinds) (At code operands) temporary after = given_with layout forms kinds operands temporary after
given_with layout forms (kind ∷ kinds) (Fixed number operands) temporary after = given_with layout forms kinds operands temporary after
given_with layout forms (kind ∷ kinds) (Fresh operands) temporary after = given_with layout forms kinds operands temporary after
given_with layout forms _ _ temporary after = after

abbrev pub pushed_with : Layout → List Kind → Codes → ℕ → ℕ → Instructions → Instructions
pushed_with layout (kind ∷ kinds) (At code operands) temporary arrays after =
    one_given layout kind code temporary (pushed_with layout kinds operands (suc temporary) arrays after)
pushed_with layout (kind ∷ kinds) (Fixed number operands) temporary arrays after = pushed_with layout kinds operands temporary arrays after
pushed_with layout (kind ∷ kinds) (Fresh operands) temporary arrays after =
    emit (LocalGet (array_local layout.bases arrays))
    (emit (LocalTee (array_local layout.bases arrays)) (pushed_with layout kinds operands temporary (suc arrays) after))
pushed_with layout _ _ temporary arrays after = after

abbrev pub freed_with : Bases → ℕ → ℕ → Instructions → Instructions
freed_with bases arrays zero after = after
freed_with bases arrays (suc count) after = moved_out (array_local bases (arrays + count)) (ask FreeArray (freed_with bases arrays count after))

-- an operation of the host
abbrev pub host_performed : Layout → Primitive → Codes → ℕ → ℕ → Instructions → Instructions
host_performed layout primitive operands temporary exit after =
    all_pushed layout (arguments_of primitive) operands temporary
    (ask_row primitive (kept layout.bases (can_fault primitive) (answer_of primitive) temporary exit after))

-- an operation once its operands, of these forms, are evaluated
abbrev pub operated : Layout → List plain.Form → Operation → Codes → ℕ → ℕ → Instructions → Instructions
operated layout forms operation operands temporary exit after =
    converted_with layout.bases forms (arguments operation) operands temporary exit (performed layout operation operands temporary exit after)

-- an operation as it is in all cases
abbrev pub anyway_with : Layout → List plain.Form → List ℕ → Operation → Codes → ℕ → ℕ → ℕ → Instructions → Instructions
anyway_with layout forms temporaries operation operands temporary arrays exit after =
    all_emitted layout forms temporaries operands temporary arrays exit
    (all_converted layout forms (arguments operation) operands temporary exit (performed layout operation operands temporary exit after))

-- a sum of two sources
abbrev pub sum_with : Layout → List plain.Form → List ℕ → Addition → Operation → Codes → ℕ → ℕ → ℕ → Instructions → Instructions
sum_with layout forms temporaries addition operation operands temporary arrays exit after =
    all_unsure (name_read layout) (addition_names addition) (pos (2 ^ 52)) (2 ^ 53)
    (emit_if (anyway_with layout forms temporaries operation operands temporary arrays (suc exit) Done) (added layout addition temporary Done) after)

-- two subscripts of these forms are joined
abbrev pub joined_with : Layout → plain.Form → plain.Form → ℕ → ℕ → Instructions → Instructions
joined_with layout first second temporary exit after =
    operated layout (first ∷ second ∷ []) (Host Join) (At plain.Unset (At plain.Unset End)) temporary exit after

abbrev pub joined_form : plain.Form
joined_form = plain.PrimitiveAnswer (answer_of Join)

-- the form of the key of subscripts, the last one apart
abbrev pub key_form : List plain.Form → plain.Form → plain.Form
key_form [] last = last
key_form (form ∷ forms) last = joined_form

-- subscripts of these forms, the last one apart, are joined from the last one on
abbrev pub all_joined : Layout → List plain.Form → plain.Form → ℕ → ℕ → Instructions → Instructions
all_joined layout [] last temporary exit after = after
all_joined layout (form ∷ forms) last temporary exit after =
    all_joined layout forms last (suc temporary) exit (joined_with layout form (key_form forms last) temporary exit after)

-- what takes a list of values, of these forms, that are evaluated
abbrev pub listed_with : Layout → List plain.Form → Listed → ℕ → ℕ → Instructions → Instructions
listed_with layout forms what temporary exit after =
    boxed_with layout.bases forms temporary (appended_with layout.bases forms temporary (listed_asked layout what (length forms) temporary exit after))

-- what a function is given, where its operands, of these forms, are evaluated
abbrev pub passed_with : Layout → List plain.Form → List Kind → Codes → ℕ → ℕ → Instructions → Instructions
passed_with layout forms kinds operands temporary arrays after =
    given_with layout forms kinds operands temporary (pushed_with layout kinds operands temporary arrays after)

-- a function is entered, and its answer kept
abbrev pub entered : Bases → ℕ → ℕ → ℕ → Instructions → Instructions
entered bases function temporary exit after = emit (CallOf (function_number function)) (answer_kept bases temporary exit after)

-- a call whose operands, of these forms, are evaluated
abbrev pub called_with : Layout → List plain.Form → ℕ → Codes → ℕ → ℕ → ℕ → Instructions → Instructions
called_with layout forms function operands temporary arrays exit after =
    passed_with layout forms (parameters_at layout.calls function) operands temporary arrays
    (entered layout.bases function temporary exit (freed_with layout.bases arrays (made_in operands) after))

-- a record of a file is asked for
abbrev pub file_asked : Bases → plain.Form → ℕ → ℕ → Instructions → Instructions
file_asked bases form temporary exit after =
    to_value bases form temporary (moved_out (handle_local bases temporary) (ask_row GetlineVarFile (kept_code bases true temporary exit after)))

-- code that stores is run where a text was read
abbrev pub stored_when : Bases → Instructions → ℕ → Instructions → Instructions
stored_when bases store temporary after = number_is (number_local bases temporary) 1 (when store after)

-- the host is asked for a replacement
abbrev pub replaced_asked : Layout → Bool → Codes → ℕ → ℕ → Instructions → Instructions
replaced_asked layout every operands temporary exit after = all_pushed layout three_values operands temporary
    (emit (I32Const (flag_number every)) (ask_row Sub (kept layout.bases true (answer.Of sort.Number) temporary exit after)))

-- code that stores a text, from within one label more
abbrev pub stored_with : Layout → List plain.Form → List ℕ → Primitive → Code → ℕ → ℕ → ℕ → Instructions → Instructions
stored_with layout forms temporaries primitive store temporary arrays exit after =
    text_kept layout primitive temporary
    (emitted layout true (plain.a_value ∷ forms) (suc temporary ∷ temporaries) store (suc (suc temporary)) arrays (suc exit)
    (text_let_go layout forms store temporary after))

-- a replacement once its operands, of these forms, are evaluated, and the test whether nothing was replaced
abbrev pub replaced_with : Layout → List plain.Form → Bool → Codes → ℕ → ℕ → Instructions → Instructions
replaced_with layout forms every operands temporary exit after =
    converted_with layout.bases forms three_values operands temporary exit
    (replaced_asked layout every operands temporary exit (emit (LocalGet (number_local layout.bases temporary)) (emit (Test I64 Eqz) after)))

-- one of two ways, as the sort that is wanted
abbrev pub branch_with : Layout → List plain.Form → List ℕ → Sort → Code → ℕ → ℕ → ℕ → Instructions → Instructions
branch_with layout forms temporaries wanted code temporary arrays exit after =
    emitted layout false forms temporaries code temporary arrays (suc exit) (converted layout.bases (form_of forms code) wanted temporary (suc exit) after)
