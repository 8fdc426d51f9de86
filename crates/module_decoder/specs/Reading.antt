-- Reading a module from the left; the first fault is the answer.
use Rattle.std.specs.Prelude.{ℕ, zero, suc, ◌+◌, ◌-◌, List, [], ◌∷◌, ◌++◌, length, take, drop, replicate, Option, Some, None, Result, Ok, Err, Bool, true, false, nat_lt, nat_le, ◌==◌, if◌then◌else◌}
use Rattle.std.specs.Str.{is_utf8}
use Rattle.wasm_types.specs.declared.types.ValType.{ValType}
use Rattle.wasm_types.specs.declared.types.ValType.TheVariants.{I32, I64}
use Rattle.wasm_types.specs.declared.types.Limits.{Limits}
use Rattle.wasm_types.specs.declared.types.GlobalType.{GlobalType}
use Rattle.wasm_types.specs.declared.instr.Simple.TheVariants as simple
use Rattle.wasm_types.specs.declared.instr.MemArg.{MemArg}
use Rattle.wasm_types.specs.declared.module.ExportDesc.{ExportDesc}
use Rattle.wasm_types.specs.declared.module.ExportDesc.TheVariants as export
use Rattle.wasm_types.specs.declared.module.SectionId.{SectionId}
use Rattle.wasm_types.specs.declared.module.SectionId.TheVariants as section
use Rattle.wasm_types.specs.declared.opcodes.Lead.{Lead}
use Rattle.wasm_types.specs.declared.opcodes.Lead.TheVariants as lead
use Rattle.wasm_types.specs.Syntax.{Instruction, Plain, BrTable, Block, Loop, If, Instructions, Done, Then, Signature, ImportForm, GlobalForm, ExportForm, ElemForm, DataForm, ModuleForm}
use Rattle.wasm_types.specs.Leads.{lead_at, indexed}
use Rattle.wasm_types.specs.Leb128Texts.{u32_at}
use Rattle.wasm_types.specs.ModuleGrammar.{CodeForm, Parts, no_parts, number, module_of, header}
use Rattle.wasm_types.specs.Profile.{most_elements, most_locals, most_module_bytes, most_nesting, most_pages}
use Rattle.module_decoder.specs.declared.fault.DecodeFault.{DecodeFault}
use Rattle.module_decoder.specs.declared.fault.DecodeFault.TheVariants.{BadHeader, Truncated, BadSection, BadInteger, BadOpcode, Float, TooLarge}
use Rattle.module_decoder.specs.declared.basics.Span.{Span}
use Rattle.module_decoder.specs.declared.body.Ending.{Ending}
use Rattle.module_decoder.specs.declared.body.Ending.TheVariants as ending
use Rattle.module_decoder.specs.declared.body.Opener.{Opener}
use Rattle.module_decoder.specs.declared.body.Opener.TheVariants as opener
use Rattle.module_decoder.specs.declared.body.Step.{Step}
use Rattle.module_decoder.specs.declared.body.Step.TheVariants.{Ends, Opens}
use Rattle.module_decoder.specs.Readers.{◌>>=◌, Read, both_at, mapped, malformed, place, unfinished, index_at, bits32_at, bits64_at, vec_at, option_at, tagged_at, whole, bytes_at}

-- ---- types

-- by a byte and the bytes from it on
abbrev pub val_type_by : Span → ℕ → List ℕ → Result ValType DecodeFault
val_type_by c b bytes = if b == 0x7f then Ok I32 else if b == 0x7e then Ok I64 else
    if (if b == 0x7d then true else b == 0x7c) then Err (Float (place c bytes)) else malformed c

abbrev pub val_type_at : Span → List ℕ → Read ValType
val_type_at c [] = malformed c
val_type_at c (b ∷ bytes) = val_type_by c b (b ∷ bytes) >>= λ t. Ok (t, bytes)

abbrev pub block_type_at : Span → List ℕ → Read (Option ValType)
block_type_at c [] = malformed c
block_type_at c (b ∷ bytes) = if b == 0x40 then Ok (None, bytes) else (val_type_by c b (b ∷ bytes) >>= λ t. Ok (Some t, bytes))

-- ---- instructions

abbrev pub reserved_at : Span → List ℕ → Read Unit
reserved_at c [] = malformed c
reserved_at c (b ∷ bytes) = if b == 0 then Ok (tt, bytes) else Err (BadOpcode (place c (b ∷ bytes)))

abbrev pub step_by : Lead → Step
step_by lead.End = Ends ending.End
step_by lead.Else = Ends ending.Else
step_by l = Opens l

-- what comes next, and the bytes after it
abbrev pub step_at : List ℕ → Option (Step × List ℕ)
step_at [] = None
step_at (b ∷ bytes) = Some (step_by (lead_at b), bytes)

pub record Body : Type 0 where
  pub instrs : Instructions
  pub ending : Ending
  pub rest : List ℕ

abbrev pub made_body : Instructions → Ending → List ℕ → Body
made_body is e rest = record { instrs = is; ending = e; rest = rest }

abbrev pub ReadBody : Type 0
ReadBody = Result Body DecodeFault

-- the byte before these is an else where only an end may stand
abbrev pub no_end : {A : Type 0} → Span → List ℕ → Result A DecodeFault
no_end c rest = Err (BadOpcode (c.end - (length rest + 1)))

abbrev pub by_end : {A : Type 0} → Span → (Instructions → A) → Body → Read A
by_end c f b = elim b.ending [ ending.End ↦ Ok (f b.instrs, b.rest) | ending.Else ↦ no_end c b.rest ]

abbrev pub block_at : Span → (List ℕ → ReadBody) → List ℕ → Read Instruction
block_at c body bytes = block_type_at c bytes >>= λ k. body k.1 >>= by_end c (Block k.0)

abbrev pub loop_at : Span → (List ℕ → ReadBody) → List ℕ → Read Instruction
loop_at c body bytes = block_type_at c bytes >>= λ k. body k.1 >>= by_end c (Loop k.0)

abbrev pub second_side : Span → (List ℕ → ReadBody) → Option ValType → Body → Read Instruction
second_side c body k b = elim b.ending [ ending.End ↦ Ok (If k b.instrs Done, b.rest) | ending.Else ↦ (body b.rest >>= by_end c (If k b.instrs)) ]

abbrev pub if_at : Span → (List ℕ → ReadBody) → List ℕ → Read Instruction
if_at c body bytes = block_type_at c bytes >>= λ k. body k.1 >>= second_side c body k.0

-- an instruction that holds others, by what opened it
abbrev pub nested_at : Span → (List ℕ → ReadBody) → Opener → List ℕ → Read Instruction
nested_at c body opener.Block bytes = block_at c body bytes
nested_at c body opener.Loop bytes = loop_at c body bytes
nested_at c body opener.If bytes = if_at c body bytes

abbrev pub table_at : Span → List ℕ → Read Instruction
table_at c bytes = vec_at c (index_at c) bytes >>= λ ns. index_at c ns.1 >>= λ n. Ok (BrTable ns.0 n.0, n.1)

abbrev pub mem_arg_at : Span → List ℕ → Read MemArg
mem_arg_at c bytes = index_at c bytes >>= λ a. index_at c a.1 >>= λ o. Ok (record { align = a.0; offset = o.0 }, o.1)

abbrev pub call_indirect_at : Span → List ℕ → Read Instruction
call_indirect_at c bytes = index_at c bytes >>= λ n. reserved_at c n.1 >>= λ r. Ok (Plain (simple.CallIndirect n.0), r.1)

-- an instruction by what its opcode, the byte before these, begins
abbrev pub instr_by : Span → (List ℕ → ReadBody) → Lead → List ℕ → Read Instruction
instr_by c body (lead.Bare p) bytes = Ok (Plain p, bytes)
instr_by c body (lead.Index i) bytes = index_at c bytes >>= λ n. Ok (Plain (indexed i n.0), n.1)
instr_by c body (lead.Load op) bytes = mem_arg_at c bytes >>= λ m. Ok (Plain (simple.Load op m.0), m.1)
instr_by c body (lead.Store op) bytes = mem_arg_at c bytes >>= λ m. Ok (Plain (simple.Store op m.0), m.1)
instr_by c body lead.I32Const bytes = bits32_at c bytes >>= λ n. Ok (Plain (simple.I32Const n.0), n.1)
instr_by c body lead.I64Const bytes = bits64_at c bytes >>= λ n. Ok (Plain (simple.I64Const n.0), n.1)
instr_by c body lead.CallIndirect bytes = call_indirect_at c bytes
instr_by c body lead.MemorySize bytes = reserved_at c bytes >>= λ r. Ok (Plain simple.MemorySize, r.1)
instr_by c body lead.MemoryGrow bytes = reserved_at c bytes >>= λ r. Ok (Plain simple.MemoryGrow, r.1)
instr_by c body lead.BrTable bytes = table_at c bytes
instr_by c body lead.Block bytes = block_at c body bytes
instr_by c body lead.Loop bytes = loop_at c body bytes
instr_by c body lead.If bytes = if_at c body bytes
instr_by c body lead.Float bytes = Err (Float (c.end - (length bytes + 1)))
instr_by c body l bytes = no_end c bytes

abbrev pub with_first : Instruction → Body → Body
with_first i b = record { instrs = Then i b.instrs; ending = b.ending; rest = b.rest }

abbrev pub body_more : Span → (List ℕ → ReadBody) → (List ℕ → ReadBody) → Lead → List ℕ → ReadBody
body_more c body go l bytes = instr_by c body l bytes >>= λ i. go i.1 >>= λ b. Ok (with_first i.0 b)

abbrev pub by_step : Span → (List ℕ → ReadBody) → (List ℕ → ReadBody) → Option (Step × List ℕ) → ReadBody
by_step c body go None = malformed c
by_step c body go (Some (Ends e, bytes)) = Ok (made_body Done e bytes)
by_step c body go (Some (Opens l, bytes)) = body_more c body go l bytes

-- instructions up to what ends them, by at most w of them
abbrev pub body_by : Span → (List ℕ → ReadBody) → ℕ → List ℕ → ReadBody
body_by c body zero bytes = malformed c
body_by c body (suc w) bytes = by_step c body (body_by c body w) (step_at bytes)

unfoldable pub body_at : Span → ℕ → List ℕ → ReadBody
body_at c zero bytes = Err TooLarge
body_at c (suc d) bytes = body_by c (body_at c d) (length bytes) bytes

abbrev pub same : {A : Type 0} → A → A
same x = x

abbrev pub expr_at : Span → List ℕ → Read Instructions
expr_at c bytes = body_at c (most_nesting + 1) bytes >>= by_end c same

-- ---- parts

abbrev pub utf8 : Span → List ℕ × List ℕ → Read (List ℕ)
utf8 c x = if is_utf8 x.0 then Ok x else malformed c

abbrev pub name_at : Span → List ℕ → Read (List ℕ)
name_at c bytes = bytes_at c bytes >>= utf8 c

abbrev pub func_type_at : Span → List ℕ → Read Signature
func_type_at c = mapped (λ x. record { params = x.0; result = x.1 }) (tagged_at c 0x60 (both_at (vec_at c (val_type_at c)) (option_at c (val_type_at c))))

abbrev pub import_at : Span → List ℕ → Read ImportForm
import_at c = mapped (λ x. record { from = x.0; name = x.1.0; ty = x.1.1 }) (both_at (name_at c) (both_at (name_at c) (tagged_at c 0x00 (index_at c))))

abbrev pub within : ℕ → ℕ × List ℕ → Read ℕ
within most n = if nat_le n.0 most then Ok n else Err TooLarge

-- the least size, which is at most this
abbrev pub min_at : Span → ℕ → List ℕ → Read ℕ
min_at c most bytes = index_at c bytes >>= within most

abbrev pub max_at : Span → ℕ → List ℕ → Read Limits
max_at c min bytes = index_at c bytes >>= λ n. Ok (record { min = min; max = Some n.0 }, n.1)

abbrev pub limits_by : Span → ℕ → ℕ → List ℕ → Read Limits
limits_by c most b bytes =
    if b == 0 then (min_at c most bytes >>= λ n. Ok (record { min = n.0; max = None }, n.1)) else
    if b == 1 then (min_at c most bytes >>= λ n. max_at c n.0 n.1) else malformed c

abbrev pub limits_at : Span → ℕ → List ℕ → Read Limits
limits_at c most [] = malformed c
limits_at c most (b ∷ bytes) = limits_by c most b bytes

abbrev pub table_type_at : Span → List ℕ → Read Limits
table_type_at c = tagged_at c 0x70 (limits_at c most_elements)

abbrev pub mut_at : Span → List ℕ → Read Bool
mut_at c [] = malformed c
mut_at c (b ∷ bytes) = if b == 0 then Ok (false, bytes) else if b == 1 then Ok (true, bytes) else malformed c

abbrev pub global_type_at : Span → List ℕ → Read GlobalType
global_type_at c = mapped (λ x. record { value = x.0; mutable = x.1 }) (both_at (val_type_at c) (mut_at c))

abbrev pub global_at : Span → List ℕ → Read GlobalForm
global_at c = mapped (λ x. record { ty = x.0; init = x.1 }) (both_at (global_type_at c) (expr_at c))

abbrev pub export_desc_by : Span → ℕ → List ℕ → Read ExportDesc
export_desc_by c b bytes =
    if b == 0 then mapped export.Func (index_at c) bytes else
    if b == 1 then mapped export.Table (index_at c) bytes else
    if b == 2 then mapped export.Memory (index_at c) bytes else
    if b == 3 then mapped export.Global (index_at c) bytes else malformed c

abbrev pub export_desc_at : Span → List ℕ → Read ExportDesc
export_desc_at c [] = malformed c
export_desc_at c (b ∷ bytes) = export_desc_by c b bytes

abbrev pub export_at : Span → List ℕ → Read ExportForm
export_at c = mapped (λ x. record { name = x.0; desc = x.1 }) (both_at (name_at c) (export_desc_at c))

abbrev pub elem_at : Span → List ℕ → Read ElemForm
elem_at c = mapped (λ x. record { table = x.0; offset = x.1.0; init = x.1.1 }) (both_at (index_at c) (both_at (expr_at c) (vec_at c (index_at c))))

abbrev pub data_at : Span → List ℕ → Read DataForm
data_at c = mapped (λ x. record { memory = x.0; offset = x.1.0; init = x.1.1 }) (both_at (index_at c) (both_at (expr_at c) (bytes_at c)))

-- a run of this many locals, of which so many are left
abbrev pub run_by : Span → (ℕ → List ℕ → Read (List ValType)) → ℕ → ℕ × List ℕ → Read (List ValType)
run_by c go left n = if nat_le n.0 left then (val_type_at c n.1 >>= λ t. go (left - n.0) t.1 >>= λ y. Ok (replicate n.0 t.0 ++ y.0, y.1)) else Err TooLarge

abbrev pub runs_at : Span → ℕ → ℕ → List ℕ → Read (List ValType)
runs_at c zero left bytes = Ok ([], bytes)
runs_at c (suc n) left bytes = index_at c bytes >>= run_by c (runs_at c n) left

abbrev pub locals_at : Span → List ℕ → Read (List ValType)
locals_at c bytes = index_at c bytes >>= λ n. runs_at c n.0 most_locals n.1

abbrev pub code_parts_at : Span → List ℕ → Read CodeForm
code_parts_at c = mapped (λ x. record { locals = x.0; body = x.1 }) (both_at (locals_at c) (expr_at c))

-- the bytes of a part that ends before these
abbrev pub before : Span → List ℕ → Span
before c after = record { section = c.section; end = c.end - length after }

abbrev pub code_in : Span → List ℕ × List ℕ → Read CodeForm
code_in c x = whole (before c x.1) (code_parts_at (before c x.1)) x.0 >>= λ y. Ok (y, x.1)

abbrev pub code_at : Span → List ℕ → Read CodeForm
code_at c bytes = bytes_at c bytes >>= code_in c

-- ---- sections

abbrev pub all_sections : List SectionId
all_sections =
    section.Type ∷ section.Import ∷ section.Function ∷ section.Table ∷ section.Memory ∷ section.Global ∷ section.Export ∷ section.Start
    ∷ section.Element ∷ section.Code ∷
    section.Data ∷ []

abbrev pub find_section : List SectionId → ℕ → Option SectionId
find_section [] b = None
find_section (k ∷ ks) b = if b == number k then Some k else find_section ks b

abbrev pub section_by : ℕ → Option SectionId
section_by b = find_section all_sections b

-- the codes, if there are as many as functions; their number stands before them
abbrev pub codes_by : Span → Parts → List ℕ → ℕ × List ℕ → Result Parts DecodeFault
codes_by c p bytes n = if n.0 == length p.type_indices then (whole c (vec_at c (code_at c)) bytes >>= λ xs. Ok (record p { codes = xs })) else malformed c

abbrev pub part_at : Span → SectionId → Parts → List ℕ → Result Parts DecodeFault
part_at c section.Type p bytes = whole c (vec_at c (func_type_at c)) bytes >>= λ xs. Ok (record p { types = xs })
part_at c section.Import p bytes = whole c (vec_at c (import_at c)) bytes >>= λ xs. Ok (record p { imports = xs })
part_at c section.Function p bytes = whole c (vec_at c (index_at c)) bytes >>= λ xs. Ok (record p { type_indices = xs })
part_at c section.Table p bytes = whole c (vec_at c (table_type_at c)) bytes >>= λ xs. Ok (record p { tables = xs })
part_at c section.Memory p bytes = whole c (vec_at c (limits_at c most_pages)) bytes >>= λ xs. Ok (record p { memories = xs })
part_at c section.Global p bytes = whole c (vec_at c (global_at c)) bytes >>= λ xs. Ok (record p { globals = xs })
part_at c section.Export p bytes = whole c (vec_at c (export_at c)) bytes >>= λ xs. Ok (record p { exports = xs })
part_at c section.Start p bytes = whole c (index_at c) bytes >>= λ x. Ok (record p { start = Some x })
part_at c section.Element p bytes = whole c (vec_at c (elem_at c)) bytes >>= λ xs. Ok (record p { elems = xs })
part_at c section.Code p bytes = index_at c bytes >>= codes_by c p bytes
part_at c section.Data p bytes = whole c (vec_at c (data_at c)) bytes >>= λ xs. Ok (record p { data_segments = xs })

-- what was read: the last id, the parts, and where the function section was
pub record Progress : Type 0 where
  pub last : ℕ
  pub functions : ℕ
  pub parts : Parts

-- the contents of a section and the bytes after it
pub record Frame : Type 0 where
  pub contents : List ℕ
  pub after : List ℕ

abbrev pub made_frame : List ℕ → List ℕ → Frame
made_frame contents after = record { contents = contents; after = after }

abbrev pub framed : ℕ → ℕ × List ℕ → Result Frame DecodeFault
framed total n = if nat_le n.0 (length n.1) then Ok (made_frame (take n.0 n.1) (drop n.0 n.1)) else Err (Truncated total)

-- its size, which the input may end within
abbrev pub size_by : ℕ → List ℕ → Option (ℕ × List ℕ) → Result Frame DecodeFault
size_by total bytes None = if unfinished 5 bytes then Err (Truncated total) else Err (BadInteger (total - length bytes))
size_by total bytes (Some x) = framed total x

abbrev pub frame_at : ℕ → List ℕ → Result Frame DecodeFault
frame_at total bytes = size_by total bytes (u32_at bytes)

abbrev pub span_of : ℕ → ℕ → Frame → Span
span_of total at f = record { section = at; end = total - length f.after }

abbrev pub custom_in : ℕ → ℕ → Progress → Frame → Result (Progress × List ℕ) DecodeFault
custom_in total at s f = name_at (span_of total at f) f.contents >>= λ name. Ok (s, f.after)

abbrev pub custom_at : ℕ → ℕ → Progress → List ℕ → Result (Progress × List ℕ) DecodeFault
custom_at total at s bytes = frame_at total bytes >>= custom_in total at s

abbrev pub functions_at : SectionId → ℕ → ℕ → ℕ
functions_at section.Function at old = at
functions_at k at old = old

abbrev pub known_in : ℕ → ℕ → SectionId → Progress → Frame → Result (Progress × List ℕ) DecodeFault
known_in total at k s f = part_at (span_of total at f) k s.parts f.contents
    >>= λ p. Ok (record { last = number k; functions = functions_at k at s.functions; parts = p }, f.after)

abbrev pub known_by : ℕ → ℕ → Option SectionId → Progress → List ℕ → Result (Progress × List ℕ) DecodeFault
known_by total at None s bytes = Err (BadSection at)
known_by total at (Some k) s bytes = if nat_lt s.last (number k) then (frame_at total bytes >>= known_in total at k s) else Err (BadSection at)

-- a section by its id and the bytes after it
abbrev pub section_at : ℕ → Progress → ℕ → List ℕ → Result (Progress × List ℕ) DecodeFault
section_at total s id bytes =
    let at = total - (length bytes + 1) in
    if id == 0 then custom_at total at s bytes else known_by total at (section_by id) s bytes

-- the sections, of which there are at most as many as bytes
abbrev pub sections_at : ℕ → ℕ → Progress → List ℕ → Result Progress DecodeFault
sections_at total w s [] = Ok s
sections_at total zero s (b ∷ bytes) = Err TooLarge
sections_at total (suc w) s (b ∷ bytes) = section_at total s b bytes >>= λ x. sections_at total w x.0 x.1

abbrev pub no_progress : Progress
no_progress = record { last = 0; functions = 0; parts = no_parts }

abbrev pub finished_by : ℕ → Parts → Result ModuleForm DecodeFault
finished_by functions p = if length p.type_indices == length p.codes then Ok (module_of p) else Err (BadSection functions)

abbrev pub finished : Progress → Result ModuleForm DecodeFault
finished s = finished_by s.functions s.parts

abbrev pub after_header : ℕ → List ℕ → List ℕ → Result (List ℕ) DecodeFault
after_header total [] bytes = Ok bytes
after_header total (h ∷ hs) [] = Err (Truncated total)
after_header total (h ∷ hs) (b ∷ bytes) = if b == h then after_header total hs bytes else Err BadHeader

abbrev pub contents_at : ℕ → List ℕ → Result ModuleForm DecodeFault
contents_at total rest = if nat_le total most_module_bytes then (sections_at total (length rest) no_progress rest >>= finished) else Err TooLarge

abbrev pub module_at : List ℕ → Result ModuleForm DecodeFault
module_at bytes = after_header (length bytes) header bytes >>= contents_at (length bytes)
