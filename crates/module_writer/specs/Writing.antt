-- Writing a module in the fewest bytes.
use Rattle.std.specs.Prelude.{ℕ, ◌+◌, ◌-◌, ◌==◌, List, [], ◌∷◌, length, Option, Some, None, Bool, true, false, nat_le, if◌then◌else◌}
use Rattle.wasm_types.specs.declared.types.ValType.{ValType}
use Rattle.wasm_types.specs.declared.types.ValType.TheVariants.{I32, I64}
use Rattle.wasm_types.specs.declared.types.Limits.{Limits}
use Rattle.wasm_types.specs.declared.instr.Simple.{Simple}
use Rattle.wasm_types.specs.declared.instr.MemArg.{MemArg}
use Rattle.wasm_types.specs.declared.module.ExportDesc.{ExportDesc}
use Rattle.wasm_types.specs.declared.module.ExportDesc.TheVariants as export
use Rattle.wasm_types.specs.declared.module.SectionId.{SectionId}
use Rattle.wasm_types.specs.declared.module.SectionId.TheVariants as section
use Rattle.wasm_types.specs.Syntax.{Instruction, Plain, BrTable, Block, Loop, If, Instructions, Done, Then, Signature, ImportForm, FuncForm, GlobalForm, ExportForm, ElemForm, DataForm, ModuleForm}
use Rattle.wasm_types.specs.Opcodes.{opcode}
use Rattle.wasm_types.specs.Immediates.{Immediates, Nothing, Index, Memory, Bits32, Bits64, IndexReserved, Reserved, immediates}
use Rattle.wasm_types.specs.Leb128Texts.{and_then}
use Rattle.wasm_types.specs.Instructions.{val_code, block_code}
use Rattle.wasm_types.specs.ModuleGrammar.{mut_code, number, header}
use Rattle.wasm_types.specs.Profile.{most_elements, most_locals, most_module_bytes, most_nesting, most_pages}
use Rattle.module_writer.specs.Writers.{Written, byte_to, index_to, bits32_to, bits64_to, both_to, vec_to, option_to, tagged_to, bytes_to, sized_to, name_to}

-- ---- types

abbrev pub val_type_to : ValType → List ℕ → Written
val_type_to t out = byte_to (val_code t) out

-- ---- instructions

abbrev pub mem_arg_to : MemArg → List ℕ → Written
mem_arg_to m out = and_then (index_to m.align out) (index_to m.offset)

abbrev pub immediates_to : Immediates → List ℕ → Written
immediates_to Nothing out = Some out
immediates_to (Index n) out = index_to n out
immediates_to (Memory m) out = mem_arg_to m out
immediates_to (Bits32 n) out = bits32_to n out
immediates_to (Bits64 n) out = bits64_to n out
immediates_to (IndexReserved n) out = and_then (index_to n out) (byte_to 0)
immediates_to Reserved out = byte_to 0 out

abbrev pub simple_to : Simple → List ℕ → Written
simple_to p out = and_then (byte_to (opcode p) out) (immediates_to (immediates p))

abbrev pub table_to : List ℕ → ℕ → List ℕ → Written
table_to ns n out = and_then (byte_to 0x0e out) (λ o. and_then (vec_to index_to ns o) (index_to n))

-- what stands behind the first two bytes of a block, which ends with a byte
abbrev pub opened_to : ℕ → Option ValType → (List ℕ → Written) → List ℕ → Written
opened_to b k inner out = and_then (byte_to b out) (λ o. and_then (byte_to (block_code k) o) (λ p. and_then (inner p) (byte_to 0x0b)))

-- a body within d further ones
abbrev pub within_to : ℕ → (ℕ → List ℕ → Written) → List ℕ → Written
within_to d body out = if d == 0 then None else body (d - 1) out

-- nothing for no instructions
abbrev pub else_to : Instructions → (List ℕ → Written) → List ℕ → Written
else_to Done body out = Some out
else_to (Then i is) body out = and_then (byte_to 0x05 out) body

-- instructions nested at most d deep
abbrev mutual
  pub instr_to : ℕ → Instruction → List ℕ → Written
  instr_to d (Plain p) out = simple_to p out
  instr_to d (BrTable ns n) out = table_to ns n out
  instr_to d (Block k is) out = within_to d (λ e. opened_to 0x02 k (instrs_to e is)) out
  instr_to d (Loop k is) out = within_to d (λ e. opened_to 0x03 k (instrs_to e is)) out
  instr_to d (If k is js) out = within_to d (λ e. opened_to 0x04 k (λ o. and_then (instrs_to e is o) (else_to js (instrs_to e js)))) out

  pub instrs_to : ℕ → Instructions → List ℕ → Written
  instrs_to d Done out = Some out
  instrs_to d (Then i is) out = and_then (instr_to d i out) (instrs_to d is)

abbrev pub expr_to : Instructions → List ℕ → Written
expr_to is out = and_then (instrs_to most_nesting is out) (byte_to 0x0b)

-- ---- parts

abbrev pub func_type_to : Signature → List ℕ → Written
func_type_to s out = and_then (byte_to 0x60 out) (λ o. and_then (vec_to val_type_to s.params o) (option_to val_type_to s.result))

abbrev pub import_to : ImportForm → List ℕ → Written
import_to i out = and_then (name_to i.from out) (λ o. and_then (name_to i.name o) (tagged_to 0x00 index_to i.ty))

abbrev pub limits_by : ℕ → Option ℕ → List ℕ → Written
limits_by min None out = tagged_to 0x00 index_to min out
limits_by min (Some n) out = and_then (tagged_to 0x01 index_to min out) (index_to n)

abbrev pub limits_to : ℕ → Limits → List ℕ → Written
limits_to most l out = if nat_le l.min most then limits_by l.min l.max out else None

abbrev pub table_type_to : Limits → List ℕ → Written
table_type_to l out = tagged_to 0x70 (limits_to most_elements) l out

abbrev pub global_to : GlobalForm → List ℕ → Written
global_to g out = and_then (val_type_to g.ty.value out) (λ o. and_then (byte_to (mut_code g.ty.mutable) o) (expr_to g.init))

abbrev pub export_desc_to : ExportDesc → List ℕ → Written
export_desc_to (export.Func n) out = tagged_to 0x00 index_to n out
export_desc_to (export.Table n) out = tagged_to 0x01 index_to n out
export_desc_to (export.Memory n) out = tagged_to 0x02 index_to n out
export_desc_to (export.Global n) out = tagged_to 0x03 index_to n out

abbrev pub export_to : ExportForm → List ℕ → Written
export_to e out = and_then (name_to e.name out) (export_desc_to e.desc)

abbrev pub elem_to : ElemForm → List ℕ → Written
elem_to e out = and_then (index_to e.table out) (λ o. and_then (expr_to e.offset o) (vec_to index_to e.init))

abbrev pub data_to : DataForm → List ℕ → Written
data_to d out = and_then (index_to d.memory out) (λ o. and_then (expr_to d.offset o) (bytes_to d.init))

-- ---- locals

abbrev pub is_same : ValType → ValType → Bool
is_same I32 I32 = true
is_same I64 I64 = true
is_same _ _ = false

-- runs as long as can be, the first one having n of t already
abbrev pub runs_from : ℕ → ValType → List ValType → List (ℕ × ValType)
runs_from n t [] = (n, t) ∷ []
runs_from n t (u ∷ us) = if is_same t u then runs_from (n + 1) t us else (n, t) ∷ runs_from 1 u us

abbrev pub runs_of : List ValType → List (ℕ × ValType)
runs_of [] = []
runs_of (t ∷ ts) = runs_from 1 t ts

abbrev pub locals_to : List ValType → List ℕ → Written
locals_to ts out = if nat_le (length ts) most_locals then vec_to (both_to index_to val_type_to) (runs_of ts) out else None

abbrev pub code_parts_to : FuncForm → List ℕ → Written
code_parts_to f out = and_then (locals_to f.locals out) (expr_to f.body)

abbrev pub code_to : FuncForm → List ℕ → Written
code_to f out = sized_to (code_parts_to f []) out

abbrev pub type_index_to : FuncForm → List ℕ → Written
type_index_to f out = index_to f.ty out

-- ---- sections

abbrev pub section_to : SectionId → Written → List ℕ → Written
section_to k contents out = and_then contents (λ xs. and_then (byte_to (number k) out) (bytes_to xs))

-- a section for a vector that has elements
abbrev pub vec_section_to : {A : Type 0} → SectionId → (A → List ℕ → Written) → List A → List ℕ → Written
vec_section_to k p [] out = Some out
vec_section_to k p (x ∷ xs) out = section_to k (vec_to p (x ∷ xs) []) out

abbrev pub start_to : Option ℕ → List ℕ → Written
start_to None out = Some out
start_to (Some n) out = section_to section.Start (index_to n []) out

-- the sections from each on
abbrev pub from_data_to : ModuleForm → List ℕ → Written
from_data_to m out = vec_section_to section.Data data_to m.data_segments out

abbrev pub from_codes_to : ModuleForm → List ℕ → Written
from_codes_to m out = and_then (vec_section_to section.Code code_to m.funcs out) (from_data_to m)

abbrev pub from_elems_to : ModuleForm → List ℕ → Written
from_elems_to m out = and_then (vec_section_to section.Element elem_to m.elems out) (from_codes_to m)

abbrev pub from_start_to : ModuleForm → List ℕ → Written
from_start_to m out = and_then (start_to m.start out) (from_elems_to m)

abbrev pub from_exports_to : ModuleForm → List ℕ → Written
from_exports_to m out = and_then (vec_section_to section.Export export_to m.exports out) (from_start_to m)

abbrev pub from_globals_to : ModuleForm → List ℕ → Written
from_globals_to m out = and_then (vec_section_to section.Global global_to m.globals out) (from_exports_to m)

abbrev pub from_memory_to : ModuleForm → List ℕ → Written
from_memory_to m out = and_then (vec_section_to section.Memory (limits_to most_pages) m.memories out) (from_globals_to m)

abbrev pub from_table_to : ModuleForm → List ℕ → Written
from_table_to m out = and_then (vec_section_to section.Table table_type_to m.tables out) (from_memory_to m)

abbrev pub from_functions_to : ModuleForm → List ℕ → Written
from_functions_to m out = and_then (vec_section_to section.Function type_index_to m.funcs out) (from_table_to m)

abbrev pub from_imports_to : ModuleForm → List ℕ → Written
from_imports_to m out = and_then (vec_section_to section.Import import_to m.imports out) (from_functions_to m)

abbrev pub from_types_to : ModuleForm → List ℕ → Written
from_types_to m out = and_then (vec_section_to section.Type func_type_to m.types out) (from_imports_to m)

-- bytes that are not too many
abbrev pub fit : List ℕ → Written
fit out = if nat_le (length out) most_module_bytes then Some out else None

abbrev pub module_to : ModuleForm → Written
module_to m = and_then (from_types_to m header) fit
