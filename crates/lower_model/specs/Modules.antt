-- The module of a program. Its code is emitted for all imports; then those that no function calls are left out, and the others and the functions are
-- numbered anew.
use Rattle.std.specs.Prelude.{ℕ, zero, suc, ◌+◌, ◌/◌, nat_eq, Bool, true, false, ◌||◌, List, [], ◌∷◌, ◌++◌, length, map, codes, replicate, Some, None}
use Rattle.wasm_types.specs.Syntax.{Instruction, Plain, BrTable, Block, Loop, If, Instructions, Done, Then, Signature, ImportForm, FuncForm, GlobalForm, ExportForm, ModuleForm}
use Rattle.wasm_types.specs.declared.types.ValType.TheVariants.{I32, I64}
use Rattle.wasm_types.specs.declared.types.Limits.{Limits}
use Rattle.wasm_types.specs.declared.instr.Simple.{Simple}
use Rattle.wasm_types.specs.declared.instr.Simple.TheVariants.{Call, I32Const, I64Const}
use Rattle.wasm_types.specs.declared.module.ExportDesc.TheVariants.{Func, Memory}
use Rattle.mid_program.specs.Mid.{Kind, Program}
use Rattle.mid_program.specs.Sorted.{kinds_of}
use Rattle.host_imports.specs.Imports.{imports, import_type, module_name}
use Rattle.host_imports.specs.Names.{import_name}
use Rattle.lower_model.specs.Machine.{Callee}
use Rattle.lower_model.specs.Places.{memory_of, kind_type}
use Rattle.lower_model.specs.Small.{emit, minus_one, least}
use Rattle.lower_model.specs.Functions.{texts_of, routine_callee, main_callee}
use Rattle.host_imports.specs.declared.import.Import.{Import}

-- the functions, `main` last
abbrev pub all_callees : Program → List Callee
all_callees program = map (routine_callee program) program.routines ++ main_callee program ∷ []

-- Which imports are called.

abbrev pub is_call : ℕ → Simple → Bool
is_call import (Call number) = nat_eq import number
is_call import simple = false

abbrev mutual
  pub calls_in : ℕ → Instructions → Bool
  calls_in import Done = false
  calls_in import (Then instruction after) = calls_by import instruction || calls_in import after

  pub calls_by : ℕ → Instruction → Bool
  calls_by import (Plain simple) = is_call import simple
  calls_by import (BrTable targets other) = false
  calls_by import (Block result inside) = calls_in import inside
  calls_by import (Loop result inside) = calls_in import inside
  calls_by import (If result so otherwise) = calls_in import so || calls_in import otherwise

abbrev pub any_calls : ℕ → List Callee → Bool
any_calls import [] = false
any_calls import (function ∷ functions) = calls_in import function.body || any_calls import functions

-- for each import from this one on, whether it is called
abbrev pub called_from : ℕ → List Import → List Callee → List Bool
called_from import [] functions = []
called_from import (first ∷ rest) functions = any_calls import functions ∷ called_from (suc import) rest functions

abbrev pub called_imports : Program → List Bool
called_imports program = called_from zero imports (all_callees program)

abbrev pub chosen : {A : Type 0} → List Bool → List A → List A
chosen (true ∷ called) (first ∷ rest) = first ∷ chosen called rest
chosen (false ∷ called) (first ∷ rest) = chosen called rest
chosen _ _ = []

abbrev pub imports_of : Program → List Import
imports_of program = chosen (called_imports program) imports

-- the number of a function, an import or one after them, once those that are not called are left out
abbrev pub new_number : List Bool → ℕ → ℕ
new_number [] number = number
new_number (first ∷ called) zero = zero
new_number (true ∷ called) (suc number) = suc (new_number called number)
new_number (false ∷ called) (suc number) = new_number called number

abbrev pub renumbered_simple : List Bool → Simple → Simple
renumbered_simple called (Call function) = Call (new_number called function)
renumbered_simple called simple = simple

abbrev mutual
  pub renumbered : List Bool → Instructions → Instructions
  renumbered called Done = Done
  renumbered called (Then instruction after) = Then (renumbered_one called instruction) (renumbered called after)

  pub renumbered_one : List Bool → Instruction → Instruction
  renumbered_one called (Plain simple) = Plain (renumbered_simple called simple)
  renumbered_one called (BrTable targets other) = BrTable targets other
  renumbered_one called (Block result inside) = Block result (renumbered called inside)
  renumbered_one called (Loop result inside) = Loop result (renumbered called inside)
  renumbered_one called (If result so otherwise) = If result (renumbered called so) (renumbered called otherwise)

-- Types: of the imports, of the functions, each with a type of its own.

abbrev pub callee_type : Callee → Signature
callee_type function = record { params = map kind_type function.kinds; result = Some function.answer }

abbrev pub imported_from : ℕ → List Import → List ImportForm
imported_from number [] = []
imported_from number (import ∷ rest) = (record { from = module_name; name = import_name import; ty = number }) ∷ imported_from (suc number) rest

abbrev pub functions_from : List Bool → ℕ → List Callee → List FuncForm
functions_from called number [] = []
functions_from called number (function ∷ functions) =
    (record { ty = number; locals = function.locals; body = renumbered called function.body }) ∷ functions_from called (suc number) functions

-- Globals: the three of the module, those of ranges, and those of names, which have nothing yet.

abbrev pub word_global : ℕ → GlobalForm
word_global number = record { ty = record { value = I32; mutable = true }; init = emit (I32Const number) Done }

abbrev pub long_global : ℕ → GlobalForm
long_global number = record { ty = record { value = I64; mutable = true }; init = emit (I64Const number) Done }

abbrev pub name_globals : List Kind → List GlobalForm
name_globals [] = []
name_globals (kind ∷ kinds) = word_global minus_one ∷ (long_global least ∷ name_globals kinds)

abbrev pub globals_of : Program → List GlobalForm
globals_of program =
    word_global 0 ∷ (long_global 0 ∷ (word_global minus_one ∷ (replicate program.ranges (word_global 0) ++ name_globals (kinds_of program.globals))))

-- pages of 65,536 bytes
abbrev pub pages_for : ℕ → ℕ
pages_for bytes = (bytes + 65535) / 65536

abbrev pub memory_for : ℕ → Limits
memory_for bytes = record { min = pages_for bytes; max = Some (pages_for bytes) }

-- `main`, which has this number, and the memory, in which an engine's host reads the texts
abbrev pub exports_of : ℕ → List ExportForm
exports_of main = (record { name = codes "main"; desc = Func main }) ∷ ((record { name = codes "memory"; desc = Memory 0 }) ∷ [])

abbrev pub module_of : Program → ModuleForm
module_of program =
    let called = called_imports program in
    let used = chosen called imports in
    let memory = memory_of (texts_of program) in
    record {
      types = map import_type used ++ map callee_type (all_callees program);
      imports = imported_from zero used;
      funcs = functions_from called (length used) (all_callees program);
      tables = [];
      memories = memory_for (length memory) ∷ [];
      globals = globals_of program;
      exports = exports_of (length used + length program.routines);
      start = None;
      elems = [];
      data_segments = (record { memory = 0; offset = emit (I32Const 0) Done; init = memory }) ∷ [];
    }
