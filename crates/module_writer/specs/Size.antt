-- How many bytes a module has in its shortest form.
use Rattle.std.specs.Prelude.{ℕ, ◌+◌, List, [], ◌∷◌, length, Option, Some, None}
use Rattle.wasm_types.specs.declared.types.ValType.{ValType}
use Rattle.wasm_types.specs.declared.types.Limits.{Limits}
use Rattle.wasm_types.specs.declared.module.ExportDesc.{ExportDesc}
use Rattle.wasm_types.specs.declared.module.ExportDesc.TheVariants as export
use Rattle.wasm_types.specs.Syntax.{Instruction, Plain, BrTable, Block, Loop, If, Instructions, Done, Then, Signature, ImportForm, FuncForm, GlobalForm, ExportForm, ElemForm, DataForm, ModuleForm}
use Rattle.wasm_types.specs.Immediates.{Immediates, Nothing, Index, Memory, Bits32, Bits64, IndexReserved, Reserved, immediates}
use Rattle.wasm_types.specs.Leb128Texts.{u32_text, s32_text, s64_text}
use Rattle.module_writer.specs.Writing.{runs_of}

abbrev pub index_size : ℕ → ℕ
index_size n = length (u32_text n)

-- of parts one after the other
abbrev pub each_size : {A : Type 0} → (A → ℕ) → List A → ℕ
each_size f [] = 0
each_size f (x ∷ xs) = f x + each_size f xs

-- of a vector, with the number of its elements
abbrev pub vec_size : {A : Type 0} → (A → ℕ) → List A → ℕ
vec_size f xs = index_size (length xs) + each_size f xs

-- of at most one
abbrev pub option_size : {A : Type 0} → (A → ℕ) → Option A → ℕ
option_size f None = index_size 0
option_size f (Some x) = index_size 1 + f x

-- of so many bytes, with their number
abbrev pub bytes_size : ℕ → ℕ
bytes_size n = index_size n + n

abbrev pub type_size : ValType → ℕ
type_size t = 1

abbrev pub immediates_size : Immediates → ℕ
immediates_size Nothing = 0
immediates_size (Index n) = index_size n
immediates_size (Memory m) = index_size m.align + index_size m.offset
immediates_size (Bits32 n) = length (s32_text n)
immediates_size (Bits64 n) = length (s64_text n)
immediates_size (IndexReserved n) = index_size n + 1
immediates_size Reserved = 1

-- an `else` without instructions is left out
abbrev pub else_size : Instructions → ℕ → ℕ
else_size Done n = 0
else_size (Then i is) n = 1 + n

abbrev mutual
  pub instr_size : Instruction → ℕ
  instr_size (Plain p) = 1 + immediates_size (immediates p)
  instr_size (BrTable ns n) = 1 + (vec_size index_size ns + index_size n)
  instr_size (Block k is) = 1 + (1 + (instrs_size is + 1))
  instr_size (Loop k is) = 1 + (1 + (instrs_size is + 1))
  instr_size (If k is js) = 1 + (1 + ((instrs_size is + else_size js (instrs_size js)) + 1))

  pub instrs_size : Instructions → ℕ
  instrs_size Done = 0
  instrs_size (Then i is) = instr_size i + instrs_size is

abbrev pub expr_size : Instructions → ℕ
expr_size is = instrs_size is + 1

abbrev pub signature_size : Signature → ℕ
signature_size s = 1 + (vec_size type_size s.params + option_size type_size s.result)

abbrev pub import_size : ImportForm → ℕ
import_size i = bytes_size (length i.from) + (bytes_size (length i.name) + (1 + index_size i.ty))

abbrev pub most_size : Option ℕ → ℕ
most_size None = 0
most_size (Some n) = index_size n

abbrev pub limits_size : Limits → ℕ
limits_size l = (1 + index_size l.min) + most_size l.max

abbrev pub table_size : Limits → ℕ
table_size l = 1 + limits_size l

abbrev pub global_size : GlobalForm → ℕ
global_size g = 1 + (1 + expr_size g.init)

abbrev pub desc_size : ExportDesc → ℕ
desc_size (export.Func n) = 1 + index_size n
desc_size (export.Table n) = 1 + index_size n
desc_size (export.Memory n) = 1 + index_size n
desc_size (export.Global n) = 1 + index_size n

abbrev pub export_size : ExportForm → ℕ
export_size e = bytes_size (length e.name) + desc_size e.desc

abbrev pub elem_size : ElemForm → ℕ
elem_size e = index_size e.table + (expr_size e.offset + vec_size index_size e.init)

abbrev pub data_size : DataForm → ℕ
data_size d = index_size d.memory + (expr_size d.offset + bytes_size (length d.init))

-- a run of locals of one type is its length and the type
abbrev pub run_size : ℕ × ValType → ℕ
run_size r = index_size r.0 + 1

abbrev pub code_size : FuncForm → ℕ
code_size f = bytes_size (vec_size run_size (runs_of f.locals) + expr_size f.body)

abbrev pub type_index_size : FuncForm → ℕ
type_index_size f = index_size f.ty

-- a section, with its number; one that would be empty is left out
abbrev pub section_size : ℕ → ℕ
section_size n = 1 + bytes_size n

abbrev pub vec_section_size : {A : Type 0} → (A → ℕ) → List A → ℕ
vec_section_size f [] = 0
vec_section_size f (x ∷ xs) = section_size (vec_size f (x ∷ xs))

abbrev pub start_size : Option ℕ → ℕ
start_size None = 0
start_size (Some n) = section_size (index_size n)

-- eight bytes stand before the sections
abbrev pub module_size : ModuleForm → ℕ
module_size m =
    8 + (vec_section_size signature_size m.types
    + (vec_section_size import_size m.imports
    + (vec_section_size type_index_size m.funcs
    + (vec_section_size table_size m.tables
    + (vec_section_size limits_size m.memories
    + (vec_section_size global_size m.globals
    + (vec_section_size export_size m.exports
    + (start_size m.start
    + (vec_section_size elem_size m.elems
    + (vec_section_size code_size m.funcs
    + vec_section_size data_size m.data_segments))))))))))
