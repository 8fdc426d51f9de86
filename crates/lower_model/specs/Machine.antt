-- The machine over values: it runs emitted code with values in place of handles, and is a function. What is owned is moved and never copied: a read
-- leaves nothing behind, and where something would be lost or doubled, a call would be out of turn, or a statement would begin while something is
-- held, the machine is stuck. A look at what was just stored serves the next instruction alone.
use Rattle.std.specs.Prelude.{ℕ, zero, suc, ◌+◌, ◌-◌, ◌^◌, ◌%◌, Bool, true, false, not, ◌&&◌, ◌||◌, cond, nat_eq, nat_le, nat_lt, List, [], ◌∷◌, ◌++◌, length, map, take, drop, reverse, set, slice_get, Option, Some, None, Result, Ok, Err}
use Rattle.wasm_types.specs.Syntax.{Instruction, Plain, Block, Loop, If, Instructions, Done, Then}
use Rattle.wasm_types.specs.declared.types.ValType.{ValType}
use Rattle.wasm_types.specs.declared.types.ValType.TheVariants as ty
use Rattle.wasm_types.specs.declared.instr.Simple.{Simple}
use Rattle.wasm_types.specs.declared.instr.Simple.TheVariants.{Nop, Br, BrIf, Call, Drop, LocalGet, LocalSet, LocalTee, GlobalGet, GlobalSet, I32Const, Test, Compare, Binary, Convert}
use Rattle.wasm_types.specs.declared.instr.IRelOp.{IRelOp}
use Rattle.wasm_types.specs.declared.instr.IRelOp.TheVariants.{Eq, Ne}
use Rattle.wasm_store.specs.declared.trap.TrapKind.{TrapKind}
use Rattle.wasm_store.specs.declared.word.Word.{Word}
use Rattle.wasm_store.specs.declared.word.Word.TheVariants.{I32}
use Rattle.wasm_store.specs.Words.{binary_of, test_of, compare_of, converted, flag, zero_of}
use Rattle.wasm_model.specs.Frames.{constant_of}
use Rattle.mid_program.specs.Mid.{Kind, ArrayKind}
use Rattle.awk_values.specs.declared.value.Value.{Value}
use Rattle.world_core.specs.WorldState.{Action}
use Rattle.sem_scripts.specs.ScriptRun.{Ending, Ended, FaultedBy, GoesOn, Exhausted}
use Rattle.lower_model.specs.Cells.{Cell, Bits, Held, IteratorOf, OwnedArray, LentArray, Gone, is_owned, left_by, read_global, left_in_global, cell_at, has_room, none_owned, has_owner, arrays_owned, iterators_in, tidy_locals, locals_wait, tidy_name, ended_name, globals_by, marks_fit, may_come}
use Rattle.host_imports.specs.Imports.{import_at, import_arguments, import_count, params_of}
use Rattle.host_imports.specs.Names.{import_number}
use Rattle.lower_model.specs.ImportCalls.{Host, call, look, carried_by}
use Rattle.host_imports.specs.declared.import.Import.{Import}
use Rattle.host_imports.specs.declared.import.Import.TheVariants.{FreeArray, OfPrimitive}
use Rattle.sem_primitives.specs.declared.table.Primitive.TheVariants as row

pub record Label : Type 0 where
  pub under : List Cell
  pub again : Option Instructions
  pub rest : Instructions

-- a caller that waits, with the kinds of its parameters
pub record Frame : Type 0 where
  pub kinds : List Kind
  pub under : List Cell
  pub labels : List Label
  pub locals : List Cell
  pub rest : Instructions

-- what outlives calls; and the number of the name to which code is just making an assignment of the command line
pub record Store : Type 0 where
  pub globals : List Cell
  pub host : Host
  pub assigning : Option ℕ

-- a function of the module, its locals beside the parameters, and the type of its answer
pub record Callee : Type 0 where
  pub kinds : List Kind
  pub locals : List ValType
  pub answer : ValType
  pub body : Instructions

-- What is noted in the output where a statement begins, by the code from its place on. A module notes nothing; a run with notes shows at which places
-- it passes, and when.
abbrev pub Notes : Type 0
Notes = Instructions → List Action → List Action

abbrev pub no_notes : Notes
no_notes code output = output

-- what the machine runs: its functions, the texts in memory, how many globals stand before those of the names, the names' kinds and which are unboxed and
-- take no copies, how many callers may wait, and what is noted
pub record Code : Type 0 where
  pub memory : List ℕ
  pub before : ℕ
  pub names : List Kind
  pub bare : List Bool
  pub callees : List Callee
  pub deepest : ℕ
  pub notes : Notes

-- at work; at work where the topmost operand is a look at a local; ended with a word; a call too deep
pub data Conf : Type 0 where
  Run : (kinds : List Kind) (stack : List Cell) (labels : List Label) (locals : List Cell) (callers : List Frame) (rest : Instructions) (store : Store) → Conf
  Look : (local : ℕ)
      (kinds : List Kind) (stack : List Cell) (labels : List Label) (locals : List Cell) (callers : List Frame) (rest : Instructions) (store : Store) → Conf
  Over : Cell → Store → Conf
  Deep : Store → Conf
  Stuck : Conf

abbrev pub guarded : Bool → Conf → Conf
guarded true next = next
guarded false next = Stuck

-- constants take no step
abbrev pub at : List Kind → List Cell → List Label → List Cell → List Frame → Instructions → Store → Conf
at kinds stack labels locals callers Done store = Run kinds stack labels locals callers Done store
at kinds stack labels locals callers (Then instruction rest) store =
    elim (constant_of instruction) [
      | Some word ↦ at kinds (Bits word ∷ stack) labels locals callers rest store
      | None ↦ Run kinds stack labels locals callers (Then instruction rest) store
    ]

-- what may come next after a look
abbrev pub takes_look : Instructions → Bool
takes_look (Then (Plain (I32Const number)) (Then (Plain (Compare ty.I32 op)) rest)) = true
takes_look (Then (Plain (Call function)) rest) = true
takes_look _ = false

-- Operators on words.

abbrev pub push_word : List Cell → Option Word → Option (List Cell)
push_word stack None = None
push_word stack (Some word) = Some (Bits word ∷ stack)

abbrev pub push_result : List Cell → Option (Result Word TrapKind) → Option (List Cell)
push_result stack None = None
push_result stack (Some (Err trap)) = None
push_result stack (Some (Ok word)) = Some (Bits word ∷ stack)

-- a handle is below 2^31, so it is no word from there on
abbrev pub handle_compared : IRelOp → ℕ → Option Word
handle_compared Eq number = cond (nat_le (2 ^ 31) number) (Some (flag false)) None
handle_compared Ne number = cond (nat_le (2 ^ 31) number) (Some (flag true)) None
handle_compared _ number = None

abbrev pub looked_compared : IRelOp → Cell → ℕ → Option Word
looked_compared op (Bits word) number = compare_of ty.I32 op word (I32 number)
looked_compared op Gone number = None
looked_compared op cell number = handle_compared op number

-- the number of an array that is lent is below 2^31 too
abbrev pub compared : ValType → IRelOp → Cell → Cell → Option Word
compared valtype op (Bits left) (Bits right) = compare_of valtype op left right
compared ty.I32 op (LentArray array) (Bits (I32 number)) = handle_compared op number
compared valtype op _ _ = None

abbrev pub operated : Simple → List Cell → Option (List Cell)
operated (Test valtype op) (Bits left ∷ stack) = push_word stack (test_of valtype op left)
operated (Convert op) (Bits left ∷ stack) = push_word stack (converted op left)
operated (Compare valtype op) (right ∷ (left ∷ stack)) = push_word stack (compared valtype op left right)
operated (Binary valtype op) (Bits right ∷ (Bits left ∷ stack)) = push_result stack (binary_of valtype op left right)
operated Drop (Bits left ∷ stack) = Some stack
operated _ _ = None

abbrev pub onto : Option Cell → List Cell → List Cell
onto None stack = stack
onto (Some cell) stack = cell ∷ stack

-- Who owns an array that is lent: a global, this function, or a caller that waits.

abbrev pub owner_waits : ℕ → List Frame → Bool
owner_waits array [] = false
owner_waits array (caller ∷ callers) = has_owner array caller.locals || owner_waits array callers

abbrev pub is_live : List Cell → List Frame → List Cell → ℕ → Bool
is_live locals callers globals array = nat_lt array 2 || (has_owner array globals || (has_owner array locals || owner_waits array callers))

abbrev pub live_if_lent : List Cell → List Frame → List Cell → Cell → Bool
live_if_lent locals callers globals (LentArray array) = is_live locals callers globals array
live_if_lent locals callers globals cell = true

abbrev pub all_live : List Cell → List Frame → List Cell → List Cell → Bool
all_live locals callers globals [] = true
all_live locals callers globals (cell ∷ cells) = live_if_lent locals callers globals cell && all_live locals callers globals cells

-- Control.

-- a branch past so many labels
abbrev pub br : ℕ → List Kind → List Label → List Cell → List Frame → Store → Conf
br depth kinds [] locals callers store = Stuck
br zero kinds (inner ∷ labels) locals callers store =
    elim inner.again [ Some body ↦ at kinds [] (inner ∷ labels) locals callers body store | None ↦ at kinds inner.under labels locals callers inner.rest store ]
br (suc depth) kinds (inner ∷ labels) locals callers store = br depth kinds labels locals callers store

abbrev pub br_if : ℕ → List Kind → List Cell → List Label → List Cell → List Frame → Instructions → Store → Conf
br_if depth kinds (Bits (I32 number) ∷ stack) labels locals callers rest store =
    guarded (none_owned stack) (cond (nat_eq number 0) (at kinds stack labels locals callers rest store) (br depth kinds labels locals callers store))
br_if depth kinds _ labels locals callers rest store = Stuck

abbrev pub label : List Cell → Option Instructions → Instructions → Label
label stack again rest = record { under = stack; again = again; rest = rest }

abbrev pub choose : Instructions → Instructions → List Kind → List Cell → List Label → List Cell → List Frame → Instructions → Store → Conf
choose so otherwise kinds (Bits (I32 number) ∷ stack) labels locals callers rest store =
    guarded (none_owned stack) (at kinds [] (label stack None rest ∷ labels) locals callers (cond (nat_eq number 0) otherwise so) store)
choose so otherwise kinds _ labels locals callers rest store = Stuck

-- a cell of a store is moved; only an array's owner lends its number where it is stored
abbrev pub set_local : ℕ → List Kind → List Cell → List Label → List Cell → List Frame → Instructions → Store → Conf
set_local local kinds [] labels locals callers rest store = Stuck
set_local local kinds (cell ∷ stack) labels locals callers rest store =
    guarded (has_room locals local) (at kinds stack labels (set locals local cell) callers rest store)

abbrev pub teed : Cell → ℕ → List Kind → List Cell → List Label → List Cell → List Frame → Instructions → Store → Conf
teed (Bits word) local kinds stack labels locals callers rest store = at kinds (Bits word ∷ stack) labels locals callers rest store
teed (LentArray array) local kinds stack labels locals callers rest store = at kinds (LentArray array ∷ stack) labels locals callers rest store
teed (OwnedArray array) local kinds stack labels locals callers rest store = at kinds (LentArray array ∷ stack) labels locals callers rest store
teed (Held value) local kinds stack labels locals callers rest store = guarded (takes_look rest) (Look local kinds stack labels locals callers rest store)
teed (IteratorOf keys) local kinds stack labels locals callers rest store = guarded (takes_look rest) (Look local kinds stack labels locals callers rest store)
teed Gone local kinds stack labels locals callers rest store = Stuck

abbrev pub tee_local : ℕ → List Kind → List Cell → List Label → List Cell → List Frame → Instructions → Store → Conf
tee_local local kinds [] labels locals callers rest store = Stuck
tee_local local kinds (cell ∷ stack) labels locals callers rest store =
    guarded (has_room locals local) (teed cell local kinds stack labels (set locals local cell) callers rest store)

-- an assignment is made once its value stands in a global; words come into globals before
abbrev pub assigning_then : Cell → Option ℕ → Option ℕ
assigning_then (Bits word) name = name
assigning_then _ name = None

abbrev pub set_global : Code → ℕ → List Kind → List Cell → List Label → List Cell → List Frame → Instructions → Store → Conf
set_global code global kinds [] labels locals callers rest store = Stuck
set_global code global kinds (cell ∷ stack) labels locals callers rest store =
    guarded (has_room store.globals global && may_come code.before code.bare store.assigning global (cell_at store.globals global) cell)
    (at kinds stack labels locals callers rest (record store { globals = set store.globals global cell; assigning = assigning_then cell store.assigning }))

-- Calls.

-- how many words an import takes
abbrev pub width : Import → ℕ
width import = length (params_of (import_arguments import))

abbrev pub with_answer : Option (Option Cell × Host) → List Kind → List Cell → List Label → List Cell → List Frame → Instructions → Store → Conf
with_answer None kinds stack labels locals callers rest store = Stuck
with_answer (Some answer) kinds stack labels locals callers rest store =
    at kinds (onto answer.0 stack) labels locals callers rest (record store { host = answer.1 })

-- an assignment begins where code asks for the name of the one that is pending
abbrev pub number_pending : Option (ℕ × Value) → Option ℕ
number_pending None = None
number_pending (Some pending) = Some pending.0

abbrev pub assigning_after : Import → Store → Option ℕ
assigning_after (OfPrimitive row.PendingName) store = number_pending store.host.shared.inner.pending
assigning_after _ store = store.assigning

abbrev pub ask : List ℕ → Option Import → List Kind → List Cell → List Label → List Cell → List Frame → Instructions → Store → Conf
ask memory None kinds stack labels locals callers rest store = Stuck
ask memory (Some import) kinds stack labels locals callers rest store =
    let given = reverse (take (width import) stack) in
    guarded (all_live locals callers store.globals given)
    (with_answer (call memory import given store.host) kinds (drop (width import) stack) labels locals callers rest
    (record store { assigning = assigning_after import store }))

abbrev pub ask_looking : Option Import → Cell → List Kind → List Cell → List Label → List Cell → List Frame → Instructions → Store → Conf
ask_looking None cell kinds stack labels locals callers rest store = Stuck
ask_looking (Some import) cell kinds stack labels locals callers rest store =
    with_answer (look import cell store.host) kinds stack labels locals callers rest store

abbrev pub zeros : List ValType → List Cell
zeros types = map (λ valtype. Bits (zero_of valtype)) types

-- an iterator for each loop over keys that is walked, and no other: such a loop begins with the call for its next key
abbrev pub is_walk : Option Instructions → Bool
is_walk (Some (Then (Plain (LocalGet local)) (Then (Plain (LocalTee looked)) (Then (Plain (Call function)) rest)))) =
    nat_eq function (import_number (OfPrimitive row.IterNext))
is_walk _ = false

abbrev pub loops_walked : List Label → ℕ
loops_walked [] = 0
loops_walked (inner ∷ labels) = cond (is_walk inner.again) (suc (loops_walked labels)) (loops_walked labels)

-- the first local of the temporary that the answer of a call goes to: the answer is a number, or says that a text waits
abbrev pub answers_to : Instructions → ℕ
answers_to (Then (Plain (LocalTee (suc handle))) rest) = handle
answers_to _ = 0

-- how many arrays are let go, one after another
abbrev pub arrays_freed : Instructions → ℕ
arrays_freed (Then (Plain (LocalGet local)) (Then (Plain (I32Const word)) (Then (Plain (LocalSet emptied)) (Then (Plain (Call function)) rest)))) = cond
    (nat_eq function (import_number FreeArray)) (suc (arrays_freed rest)) 0
arrays_freed _ = 0

-- after a call, once its answer is kept
abbrev pub freed_next : Instructions → ℕ
freed_next (Then (Plain (LocalTee local)) (Then first (Then second (Then third rest)))) = arrays_freed rest
freed_next _ = 0

-- a caller that waits holds operands that are pending, its iterators, and arrays that were made for this call, which are let go right after it
abbrev pub waits : List Kind → List Label → List Cell → Instructions → Bool
waits kinds labels locals rest =
    locals_wait (answers_to rest) kinds locals && (nat_eq (iterators_in locals) (loops_walked labels) && nat_le (arrays_owned locals) (freed_next rest))

-- how many of these kinds are an array's
abbrev pub array_kinds : List Kind → ℕ
array_kinds [] = 0
array_kinds (ArrayKind ∷ kinds) = suc (array_kinds kinds)
array_kinds (kind ∷ kinds) = array_kinds kinds

-- a caller has made at most an array for each that a function with these parameters is given
abbrev pub makes_few : List Kind → List Cell → Bool
makes_few kinds locals = nat_le (arrays_owned locals) (array_kinds kinds)

-- the arguments are the first locals; nothing that is owned waits on the stack of a caller
abbrev pub enter : ℕ → Option Callee → List Kind → List Cell → List Label → List Cell → List Frame → Instructions → Store → Conf
enter deepest None kinds stack labels locals callers rest store = Stuck
enter deepest (Some callee) kinds stack labels locals callers rest store =
    let count = length callee.kinds in
    let under = drop count stack in
    guarded (((nat_le count (length stack) && none_owned under) && waits kinds labels locals rest) && makes_few callee.kinds locals)
    (cond (nat_lt (length callers) deepest)
    (at callee.kinds [] [] (reverse (take count stack) ++ zeros callee.locals)
    (record { kinds = kinds; under = under; labels = labels; locals = locals; rest = rest } ∷ callers) callee.body store)
    (Deep store))

-- where `main` ends names have what they are to have, unless a fault is kept
abbrev pub ending_name : {A : Type 0} → Option A → Kind → Cell → Bool
ending_name None kind cell = tidy_name kind cell
ending_name (Some fault) kind cell = ended_name kind cell

-- the end of a function, with its answer
abbrev pub leave_function : Code → Cell → List Frame → Store → Conf
leave_function code cell [] store =
    guarded (not (is_owned cell) && globals_by (ending_name store.host.fault) code.before code.names store.globals) (Over cell store)
leave_function code cell (caller ∷ callers) store = at caller.kinds (cell ∷ caller.under) caller.labels caller.locals callers caller.rest store

-- the end of a block, or of the function
abbrev pub leave : Code → List Kind → List Cell → List Label → List Cell → List Frame → Store → Conf
leave code kinds stack (inner ∷ labels) locals callers store =
    guarded (none_owned stack) (at kinds (stack ++ inner.under) labels locals callers inner.rest store)
leave code kinds [] [] locals callers store = Stuck
leave code kinds (cell ∷ stack) [] locals callers store = guarded (none_owned stack && none_owned locals) (leave_function code cell callers store)

-- where a statement begins nothing is on the stack or the argument list, names and parameters have what they are to have, and no other local of the
-- function has a value or an array
abbrev pub is_empty : {A : Type 0} → List A → Bool
is_empty [] = true
is_empty (first ∷ rest) = false

abbrev pub tidy : Code → List Kind → List Cell → List Label → List Cell → Store → Bool
tidy code kinds stack labels locals store = (is_empty stack && is_empty store.host.arguments)
    && ((tidy_locals kinds locals && nat_eq (iterators_in locals) (loops_walked labels))
    && (globals_by tidy_name code.before code.names store.globals && marks_fit code.names (drop code.before store.globals)))

abbrev pub with_operands : Option (List Cell) → List Kind → List Label → List Cell → List Frame → Instructions → Store → Conf
with_operands None kinds labels locals callers rest store = Stuck
with_operands (Some stack) kinds labels locals callers rest store = at kinds stack labels locals callers rest store

abbrev pub call_number : Code → ℕ → List Kind → List Cell → List Label → List Cell → List Frame → Instructions → Store → Conf
call_number code function kinds stack labels locals callers rest store =
    cond (nat_lt function import_count) (ask code.memory (import_at function) kinds stack labels locals callers rest store)
    (enter code.deepest (slice_get code.callees (function - import_count)) kinds stack labels locals callers rest store)

abbrev pub noted : Code → Instructions → Store → Store
noted code rest store = record store { host = record store.host { shared = record store.host.shared { output = code.notes rest store.host.shared.output } } }

abbrev pub act : Code → Simple → List Kind → List Cell → List Label → List Cell → List Frame → Instructions → Store → Conf
act code Nop kinds stack labels locals callers rest store =
    guarded (tidy code kinds stack labels locals store) (at kinds stack labels locals callers rest (noted code (Then (Plain Nop) rest) store))
act code (LocalGet local) kinds stack labels locals callers rest store =
    guarded (nat_lt local (length locals))
    (at kinds (cell_at locals local ∷ stack) labels (set locals local (left_by (cell_at locals local))) callers rest store)
act code (LocalSet local) kinds stack labels locals callers rest store = set_local local kinds stack labels locals callers rest store
act code (LocalTee local) kinds stack labels locals callers rest store = tee_local local kinds stack labels locals callers rest store
act code (GlobalGet global) kinds stack labels locals callers rest store = at kinds (read_global (cell_at store.globals global)
    ∷ stack) labels locals callers rest (record store { globals = set store.globals global (left_in_global (cell_at store.globals global)) })
act code (GlobalSet global) kinds stack labels locals callers rest store = set_global code global kinds stack labels locals callers rest store
act code (Br depth) kinds stack labels locals callers rest store = guarded (none_owned stack) (br depth kinds labels locals callers store)
act code (BrIf depth) kinds stack labels locals callers rest store = br_if depth kinds stack labels locals callers rest store
act code (Call function) kinds stack labels locals callers rest store = call_number code function kinds stack labels locals callers rest store
act code simple kinds stack labels locals callers rest store = with_operands (operated simple stack) kinds labels locals callers rest store

abbrev pub work : Code → Instruction → List Kind → List Cell → List Label → List Cell → List Frame → Instructions → Store → Conf
work code (Plain simple) kinds stack labels locals callers rest store = act code simple kinds stack labels locals callers rest store
work code (Block None inside) kinds stack labels locals callers rest store =
    guarded (none_owned stack) (at kinds [] (label stack None rest ∷ labels) locals callers inside store)
work code (Loop None inside) kinds stack labels locals callers rest store =
    guarded (none_owned stack) (at kinds [] (label stack (Some inside) rest ∷ labels) locals callers inside store)
work code (If None so otherwise) kinds stack labels locals callers rest store = choose so otherwise kinds stack labels locals callers rest store
work code _ kinds stack labels locals callers rest store = Stuck

abbrev pub run : Code → List Kind → List Cell → List Label → List Cell → List Frame → Instructions → Store → Conf
run code kinds stack labels locals callers Done store = leave code kinds stack labels locals callers store
run code kinds stack labels locals callers (Then instruction rest) store = work code instruction kinds stack labels locals callers rest store

abbrev pub run_looking : Code → ℕ → List Kind → List Cell → List Label → List Cell → List Frame → Instructions → Store → Conf
run_looking code local kinds stack labels locals callers (Then (Plain (I32Const number)) (Then (Plain (Compare ty.I32 op)) rest)) store = with_operands
    (push_word stack (looked_compared op (cell_at locals local) number)) kinds labels locals callers rest store
run_looking code local kinds stack labels locals callers (Then (Plain (Call function)) rest) store =
    ask_looking (import_at function) (cell_at locals local) kinds stack labels locals callers rest store
run_looking code local kinds stack labels locals callers rest store = Stuck

abbrev pub step : Code → Conf → Conf
step code (Run kinds stack labels locals callers rest store) = run code kinds stack labels locals callers rest store
step code (Look local kinds stack labels locals callers rest store) = run_looking code local kinds stack labels locals callers rest store
step code (Over cell store) = Over cell store
step code (Deep store) = Deep store
step code Stuck = Stuck

abbrev pub go : Code → ℕ → Conf → Conf
go code zero conf = conf
go code (suc count) conf = go code count (step code conf)

-- How a run shows after some steps; none where the machine is stuck.

-- the low bits of a word
abbrev pub status_of : Cell → Store → Option Ending
status_of (Bits (I32 number)) store = cond (nat_lt number (2 ^ 32)) (Some (Ended (number % 256) store.host.shared.output)) None
status_of _ store = None

abbrev pub over_by : Cell → Store → Option Ending
over_by cell store = elim store.host.fault [ Some fault ↦ Some (FaultedBy fault store.host.shared.output) | None ↦ status_of cell store ]

abbrev pub ending_at : Conf → Option Ending
ending_at (Run kinds stack labels locals callers rest store) = Some (GoesOn store.host.shared.output)
ending_at (Look local kinds stack labels locals callers rest store) = Some (GoesOn store.host.shared.output)
ending_at (Over cell store) = over_by cell store
ending_at (Deep store) = Some (Exhausted store.host.shared.output)
ending_at Stuck = None

-- How many turns a script spends at most while the machine takes some steps: one for each step, and one for each assignment that a call carries out by itself.

abbrev pub carried_if : Option Import → Store → ℕ
carried_if None store = 0
carried_if (Some import) store = carried_by import store.host.shared

abbrev pub carried_at : Conf → ℕ
carried_at (Run kinds stack labels locals callers (Then (Plain (Call function)) rest) store) = carried_if (import_at function) store
carried_at _ = 0

abbrev pub turns_within : Code → ℕ → Conf → ℕ
turns_within code zero conf = 0
turns_within code (suc count) conf = suc (carried_at conf + turns_within code count (step code conf))
