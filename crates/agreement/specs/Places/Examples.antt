-- Rows: sizes of code, and what places hold.
use Rattle.std.specs.Prelude.{◌≡◌, true, false, ℕ, List, [], ◌∷◌, Option, Some, None, refl}
use Rattle.sem_primitives.specs.declared.sorts.Sort.{Sort}
use Rattle.sem_primitives.specs.declared.sorts.Sort.TheVariants as sort
use Rattle.sem_primitives.specs.declared.table.Primitive.TheVariants as row
use Rattle.wasm_types.specs.Syntax.{Done, If, Instructions, Loop, Plain, Then}
use Rattle.wasm_types.specs.declared.instr.Simple.TheVariants.{Call, I32Const, LocalGet, LocalSet, LocalTee, Nop}
use Rattle.wasm_store.specs.declared.word.Word.{Word}
use Rattle.wasm_store.specs.declared.word.Word.TheVariants.{I32, I64}
use Rattle.wasm_model.specs.Frames.{LabelForm}
use Rattle.awk_grammar.specs.Token.{Number as Numeral}
use Rattle.awk_grammar.specs.Trees.{Tree, Leaf, Var, Call as CallOf, Bin, Join, NoTree, Then as AndTree, Print, NoArgs, Written, Put, Return, Stmt, Simple, Leave, NoStmt, And, Begin}
use Rattle.mid_program.specs.Mid as mid
use Rattle.mid_program.specs.Mid.{Kind, Boxed, Unboxed, ArrayKind, Codes, End, At, Fresh}
use Rattle.sem_scripts.specs.Names.{Resolved}
use Rattle.host_imports.specs.Names.{import_number}
use Rattle.lower_model.specs.Machine.{array_kinds, freed_next}
use Rattle.lower_model.specs.Small.{minus_one}
use Rattle.host_imports.specs.declared.import.Import.TheVariants.{FreeArray, OfPrimitive}
use Rattle.agreement.specs.Places.Calls.{code_calls, missing_arrays}
use Rattle.agreement.specs.Places.NoLeaks.{begins_statement, boxed, holders, is_keys, scalars, walks}
use Rattle.agreement.specs.Places.Nodes.{nodes_of}
use Rattle.agreement.specs.Places.Places.{size}

-- a statement in a loop, after a choice
abbrev code : Instructions
code = Then (If None (Then (Plain (I32Const 1)) (Then (Plain (LocalSet 0)) Done)) Done) (Then (Loop None (Then (Plain Nop) Done)) Done)

pub five_instructions : size code ≡ 5
five_instructions = refl

pub no_statement_yet : begins_statement code ≡ false
no_statement_yet = refl

pub statement_begins : begins_statement (Then (Plain Nop) Done) ≡ true
statement_begins = refl

-- a value, an array, nothing, and a number beside another value
abbrev places : List (Option Sort)
places = Some sort.Value ∷ (Some sort.Array ∷ (None ∷ (None ∷ (Some sort.Value ∷ []))))

abbrev words : List Word
words = I32 5 ∷ (I32 5 ∷ (I32 5 ∷ (I64 5 ∷ (I32 6 ∷ []))))

pub one_value : holders sort.Value 5 places words ∷ (holders sort.Value 6 places words ∷ (holders sort.Value 7 places words ∷ [])) ≡ 1 ∷ (1 ∷ (0 ∷ []))
one_value = refl

pub one_array : holders sort.Array 5 places words ∷ (holders sort.Iterator 5 places words ∷ []) ≡ 1 ∷ (0 ∷ [])
one_array = refl

-- a value that two places hold is counted twice
pub two_holders : holders sort.Value 5 (Some sort.Value ∷ (Some sort.Value ∷ [])) (I32 5 ∷ (I32 5 ∷ [])) ≡ 2
two_holders = refl

abbrev kinds : List Kind
kinds = Boxed ∷ (ArrayKind ∷ (Unboxed ∷ (Boxed ∷ [])))

pub names_counted : scalars kinds ∷ (array_kinds kinds ∷ (boxed kinds ∷ [])) ≡ 3 ∷ (1 ∷ (2 ∷ []))
names_counted = refl

-- A loop over keys begins with the call for its next key. In this module that import is the second one.

abbrev numbers : List ℕ
numbers = 0 ∷ (import_number (OfPrimitive row.IterNext) ∷ [])

abbrev next_key : ℕ → Option Instructions
next_key n = Some (Then (Plain (LocalGet 3)) (Then (Plain (LocalTee 3)) (Then (Plain (Call n)) Done)))

pub loop_over_keys : is_keys numbers (next_key 1) ≡ true
loop_over_keys = refl

pub other_import : is_keys numbers (next_key 0) ≡ false
other_import = refl

pub loop_with_a_test : is_keys numbers (Some (Then (Plain Nop) Done)) ≡ false
loop_with_a_test = refl

abbrev label : Option Instructions → LabelForm
label again = record { under = []; gives = None; again = again; rest = Done }

pub one_walk : walks numbers (label None ∷ (label (next_key 1) ∷ (label (Some Done) ∷ []))) ≡ 1
one_walk = refl

-- After a call whose answer is kept two arrays are let go.

abbrev let_go : ℕ → Instructions → Instructions
let_go x code = Then (Plain (LocalGet x)) (Then (Plain (I32Const minus_one)) (Then (Plain (LocalSet x)) (Then (Plain (Call (import_number FreeArray))) code)))

abbrev kept : Instructions → Instructions
kept code = Then (Plain (LocalTee 1)) (Then (Plain (I32Const minus_one)) (Then (Plain Nop) (Then (Plain Nop) code)))

pub two_arrays : freed_next (kept (let_go 4 (let_go 3 (Then (Plain Nop) (let_go 3 Done))))) ≡ 2
two_arrays = refl

-- `f(g())` has two calls; where `f` has an array after its first parameter, there is no argument for that

abbrev given : Codes
given = At (mid.Call 1 End) (Fresh End)

pub two_calls : code_calls (mid.Call 0 given) ≡ (0, given) ∷ ((1, End) ∷ [])
two_calls = refl

pub one_missing : missing_arrays (Boxed ∷ (ArrayKind ∷ [])) given ∷ (missing_arrays [] End ∷ []) ≡ 1 ∷ (0 ∷ [])
one_missing = refl

-- `return a b f(c)` has six expressions, each part counted, and `print > f(1)` two; the second stands in no function

abbrev name : ℕ → Tree
name x = Var (x ∷ [])

abbrev joined : Tree
joined = Bin Join (Bin Join (name 97) (name 98)) (CallOf (102 ∷ []) (AndTree (name 99) NoTree))

abbrev written : Stmt
written = Simple (Put Print NoArgs (Written (CallOf (102 ∷ []) (AndTree (Leaf (Numeral (49 ∷ []))) NoTree))))

abbrev script : Resolved
script = record {
  globals = [];
  functions = (record { name = 102 ∷ []; parameters = []; body = And (Leave Return (Some joined)) NoStmt }) ∷ [];
  items = Begin (And written NoStmt) ∷ [];
}

pub expressions_counted : nodes_of script ≡ 6 ∷ (2 ∷ [])
expressions_counted = refl
