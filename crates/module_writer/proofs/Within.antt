-- A module within the limits, whose numbers and names can be spelled, is written: it has bytes, as many as its size says.
use Rattle.std.proofs.Common.{◌≡◌, ℕ, zero, suc, ◌+◌, ◌-◌, ◌^◌, ◌<◌, ◌≤◌, Bool, true, false, cond, List, [], ◌∷◌, ◌++◌, length, Option, Some, None, refl, subst, arith, length-append}
use Rattle.std.specs.List.{AllByRecursion}
use Rattle.std.specs.Str.{IsUtf8}
use Rattle.std.proofs.Math.Dec.{eqb-suc-zero}
use Rattle.std.proofs.lemmas.Bool.{le-leb, lt-ltb}
use Rattle.std.proofs.lemmas.Str.{is_utf8-from_IsUtf8}
use Rattle.wasm_types.specs.declared.types.ValType.{ValType}
use Rattle.wasm_types.specs.declared.types.Limits.{Limits}
use Rattle.wasm_types.specs.declared.module.ExportDesc.{ExportDesc}
use Rattle.wasm_types.specs.declared.module.ExportDesc.TheVariants as export
use Rattle.wasm_types.specs.declared.module.SectionId.{SectionId}
use Rattle.wasm_types.specs.declared.module.SectionId.TheVariants as section
use Rattle.wasm_types.specs.Syntax.{Instruction, Plain, BrTable, Block, Loop, If, Instructions, Done, Then, Signature, ImportForm, FuncForm, GlobalForm, ExportForm, ElemForm, DataForm, ModuleForm}
use Rattle.wasm_types.specs.Opcodes.{opcode}
use Rattle.wasm_types.specs.Immediates.{Immediates, Nothing, Index, Memory, Bits32, Bits64, IndexReserved, Reserved, immediates}
use Rattle.wasm_types.specs.Instructions.{block_code, depth, depths, val_code}
use Rattle.wasm_types.specs.Leb128Texts.{and_then, s32_text, s64_text, u32_text}
use Rattle.wasm_types.specs.ModuleGrammar.{IsModule, header, mut_code, number}
use Rattle.module_writer.specs.Writers.{Written, bits32_to, bits64_to, both_to, byte_to, bytes_to, each_to, index_to, name_to, option_to, sized_to, tagged_to, vec_to}
use Rattle.module_writer.specs.Writing.{code_parts_to, code_to, data_to, elem_to, else_to, export_desc_to, export_to, expr_to, fit, from_codes_to, from_data_to, from_elems_to, from_exports_to, from_functions_to, from_globals_to, from_imports_to, from_memory_to, from_start_to, from_table_to, from_types_to, func_type_to, global_to, immediates_to, import_to, instr_to, instrs_to, is_same, limits_by, limits_to, locals_to, module_to, opened_to, runs_from, runs_of, section_to, start_to, table_type_to, type_index_to, val_type_to, vec_section_to, within_to}
use Rattle.module_writer.proofs.Sizes.{some_index}
use Rattle.module_writer.proofs.Written.{Settles, settled}
use Rattle.module_writer.specs.Limits.{CanBeSpelled, HasNumbers, HaveNumbers, IsDescribed, IsImportable, IsIndexed, IsMost, IsShallow, IsSpellable, IsWithinLimits}
use Rattle.module_writer.specs.Size.{bytes_size, code_size, data_size, desc_size, each_size, elem_size, else_size, export_size, expr_size, global_size, immediates_size, import_size, index_size, instr_size, instrs_size, limits_size, module_size, most_size, option_size, run_size, section_size, signature_size, start_size, table_size, type_index_size, type_size, vec_section_size, vec_size}

-- it is written, in so many bytes
abbrev Adds : ℕ → List ℕ → Written → Type 0
Adds n out None = ⊥
Adds n out (Some new) = length new ≡ length out + n

-- it is written wherever there is room for so many bytes
abbrev Writes : (List ℕ → Written) → ℕ → Type 0
Writes w n = (out : List ℕ) → length out + n ≤ 2 ^ 24 → Adds n out (w out)

both_writes : (p q : List ℕ → Written) (a b : ℕ) → Writes p a → Writes q b → Writes (λ out. and_then (p out) q) (a + b)
both_writes p q a b f g out free = by (p out) (f out (omega (arith, free)))
  where
    by : (r : Written) → Adds a out r → Adds (a + b) out (and_then r q)
    by None h = h
    by (Some mid) h = next (q mid) (g mid (omega (arith, free, h)))
      where
        next : (s : Written) → Adds b mid s → Adds (a + b) out s
        next None k = k
        next (Some new) k = omega (arith, h, k)

same_writes : (w : List ℕ → Written) (a b : ℕ) → a ≡ b → Writes w a → Writes w b
same_writes w a b e f = subst (λ (n : ℕ). Writes w n) e f

nothing_writes : Writes (λ out. Some out) 0
nothing_writes out free = omega arith

byte_writes : (k : ℕ) → Writes (byte_to k) 1
byte_writes k out free = rw (lt-ltb (length out) (2 ^ 24) (omega (arith, free))) (length-append out (k ∷ []))

index_writes : (n : ℕ) → IsIndexed n → Writes (index_to n) (index_size n)
unfolding index_to
index_writes n h out free = rw (lt-ltb n (2 ^ 32) h) (length-append out (u32_text n))

bits32_writes : (n : ℕ) → n < 2 ^ 32 → Writes (bits32_to n) (length (s32_text n))
unfolding bits32_to
bits32_writes n h out free = rw (lt-ltb n (2 ^ 32) h) (length-append out (s32_text n))

bits64_writes : (n : ℕ) → n < 2 ^ 64 → Writes (bits64_to n) (length (s64_text n))
unfolding bits64_to
bits64_writes n h out free = rw (lt-ltb n (2 ^ 64) h) (length-append out (s64_text n))

-- ---- vectors, of parts of a byte at least

pub each_most : {A : Type 0} (f : A → ℕ) → ((x : A) → 1 ≤ f x) → (xs : List A) → length xs ≤ each_size f xs
each_most f some [] = omega arith
each_most f some (x ∷ xs) = let a = some x in let b = each_most f some xs in omega (arith, a, b)

module _ {A : Type 0} (p : A → List ℕ → Written) (f : A → ℕ) (Q : A → Type 0) (writes : (x : A) → Q x → Writes (p x) (f x)) (some : (x : A) → 1 ≤ f x) where
  each_writes : (xs : List A) → AllByRecursion Q xs → Writes (each_to p xs) (each_size f xs)
  each_writes [] h = nothing_writes
  each_writes (x ∷ xs) h = both_writes (p x) (each_to p xs) (f x) (each_size f xs) (writes x h.0) (each_writes xs h.1)

  vec_writes : (xs : List A) → AllByRecursion Q xs → Writes (vec_to p xs) (vec_size f xs)
  vec_writes xs h out free =
      let most = each_most f some xs in
      both_writes (index_to (length xs)) (each_to p xs) (index_size (length xs)) (each_size f xs)
      (index_writes (length xs) (omega (arith, free, most))) (each_writes xs h) out free

tagged_writes : {A : Type 0} (k : ℕ) (p : A → List ℕ → Written) (x : A) (n : ℕ) → Writes (p x) n → Writes (tagged_to k p x) (1 + n)
tagged_writes k p x n g = both_writes (byte_to k) (p x) 1 n (byte_writes k) g

bytes_writes : (xs : List ℕ) → Writes (bytes_to xs) (bytes_size (length xs))
bytes_writes xs out free =
    both_writes (index_to (length xs)) (λ new. Some (new ++ xs)) (index_size (length xs)) (length xs)
    (index_writes (length xs) (omega (arith, free))) (λ new room. length-append new xs) out free

name_writes : (xs : List ℕ) → IsUtf8 xs → Writes (name_to xs) (bytes_size (length xs))
name_writes xs h out free = rw (is_utf8-from_IsUtf8 xs h) (bytes_writes xs out free)

-- ---- what is written on its own, with its size before it

sized_writes : (n : ℕ) (body : Written) → (n ≤ 2 ^ 24 → Adds n [] body) → Writes (sized_to body) (bytes_size n)
sized_writes n body h out free = by body (h (omega (arith, free)))
  where
    by : (r : Written) → Adds n [] r → Adds (bytes_size n) out (sized_to r out)
    by None m = m
    by (Some xs) m =
        let e : length xs ≡ n = omega (arith, m) in
        subst (λ (k : ℕ). length out + bytes_size k ≤ 2 ^ 24 → Adds (bytes_size k) out (bytes_to xs out)) e (bytes_writes xs out) free

section_writes : (k : SectionId) (n : ℕ) (body : Written) → (n ≤ 2 ^ 24 → Adds n [] body) → Writes (section_to k body) (section_size n)
section_writes k n body h out free = by body (h (omega (arith, free)))
  where
    by : (r : Written) → Adds n [] r → Adds (section_size n) out (section_to k r out)
    by None m = m
    by (Some xs) m =
        let e : length xs ≡ n = omega (arith, m) in
        subst (λ (j : ℕ). length out + section_size j ≤ 2 ^ 24 → Adds (section_size j) out (section_to k (Some xs) out)) e
        (both_writes (byte_to (number k)) (bytes_to xs) 1 (bytes_size (length xs)) (byte_writes (number k)) (bytes_writes xs) out) free

vec_section_writes : {A : Type 0} (k : SectionId) (p : A → List ℕ → Written) (f : A → ℕ) (Q : A → Type 0) → ((x : A) → Q x → Writes (p x) (f x)) →
    ((x : A) → 1 ≤ f x) → (xs : List A) → AllByRecursion Q xs → Writes (vec_section_to k p xs) (vec_section_size f xs)
vec_section_writes k p f Q writes some [] h = nothing_writes
vec_section_writes k p f Q writes some (x ∷ xs) h =
    section_writes k (vec_size f (x ∷ xs)) (vec_to p (x ∷ xs) []) (λ room. vec_writes p f Q writes some (x ∷ xs) h [] (omega (arith, room)))

-- ---- instructions

immediates_writes : (i : Immediates) → CanBeSpelled i → Writes (immediates_to i) (immediates_size i)
immediates_writes Nothing h = nothing_writes
immediates_writes (Index n) h = index_writes n h
immediates_writes (Memory m) h =
    both_writes (index_to m.align) (index_to m.offset) (index_size m.align) (index_size m.offset) (index_writes m.align h.0) (index_writes m.offset h.1)
immediates_writes (Bits32 n) h = bits32_writes n h
immediates_writes (Bits64 n) h = bits64_writes n h
immediates_writes (IndexReserved n) h = both_writes (index_to n) (byte_to 0) (index_size n) 1 (index_writes n h) (byte_writes 0)
immediates_writes Reserved h = byte_writes 0

indices_write : (ns : List ℕ) → AllByRecursion IsIndexed ns → Writes (vec_to index_to ns) (vec_size index_size ns)
indices_write ns h = vec_writes index_to index_size IsIndexed index_writes some_index ns h

opened_writes : (b : ℕ) (k : Option ValType) (inner : List ℕ → Written) (n : ℕ) → Writes inner n → Writes (opened_to b k inner) (1 + (1 + (n + 1)))
opened_writes b k inner n g =
    both_writes (byte_to b) (λ o. and_then (byte_to (block_code k) o) (λ p. and_then (inner p) (byte_to 0x0b))) 1 (1 + (n + 1)) (byte_writes b)
    (both_writes (byte_to (block_code k)) (λ p. and_then (inner p) (byte_to 0x0b)) 1 (n + 1) (byte_writes (block_code k))
    (both_writes inner (byte_to 0x0b) n 1 g (byte_writes 0x0b)))

within_writes : (d : ℕ) (body : ℕ → List ℕ → Written) (n : ℕ) → Writes (body d) n → Writes (within_to (suc d) body) n
within_writes d body n g out free =
    let same : suc d - 1 ≡ d = omega arith in
    rw (eqb-suc-zero d, same) (g out free)

else_writes : (js : Instructions) (body : List ℕ → Written) (n : ℕ) → Writes body n → Writes (else_to js body) (else_size js n)
else_writes Done body n g = nothing_writes
else_writes (Then i is) body n g = both_writes (byte_to 0x05) body 1 n (byte_writes 0x05) g

mutual
  instr_writes : (d : ℕ) (i : Instruction) → HasNumbers i → depth i ≤ d → Writes (instr_to d i) (instr_size i)
  instr_writes d (Plain p) h deep =
      both_writes (byte_to (opcode p)) (immediates_to (immediates p)) 1 (immediates_size (immediates p)) (byte_writes (opcode p))
      (immediates_writes (immediates p) h)
  instr_writes d (BrTable ns n) h deep =
      both_writes (byte_to 0x0e) (λ o. and_then (vec_to index_to ns o) (index_to n)) 1 (vec_size index_size ns + index_size n) (byte_writes 0x0e)
      (both_writes (vec_to index_to ns) (index_to n) (vec_size index_size ns) (index_size n) (indices_write ns h.0) (index_writes n h.1))
  instr_writes zero (Block k is) h deep = absurd (omega (arith, deep))
  instr_writes (suc d) (Block k is) h deep =
      within_writes d (λ e. opened_to 0x02 k (instrs_to e is)) (1 + (1 + (instrs_size is + 1)))
      (opened_writes 0x02 k (instrs_to d is) (instrs_size is) (instrs_write d is h (omega (arith, deep))))
  instr_writes zero (Loop k is) h deep = absurd (omega (arith, deep))
  instr_writes (suc d) (Loop k is) h deep =
      within_writes d (λ e. opened_to 0x03 k (instrs_to e is)) (1 + (1 + (instrs_size is + 1)))
      (opened_writes 0x03 k (instrs_to d is) (instrs_size is) (instrs_write d is h (omega (arith, deep))))
  instr_writes zero (If k is js) h deep = absurd (omega (arith, deep))
  instr_writes (suc d) (If k is js) h deep =
      let n = instrs_size is + else_size js (instrs_size js) in
      within_writes d (λ e. opened_to 0x04 k (λ o. and_then (instrs_to e is o) (else_to js (instrs_to e js)))) (1 + (1 + (n + 1)))
      (opened_writes 0x04 k (λ o. and_then (instrs_to d is o) (else_to js (instrs_to d js))) n
      (both_writes (instrs_to d is) (else_to js (instrs_to d js)) (instrs_size is) (else_size js (instrs_size js))
      (instrs_write d is h.0 (omega (arith, deep))) (else_writes js (instrs_to d js) (instrs_size js) (instrs_write d js h.1 (omega (arith, deep))))))

  instrs_write : (d : ℕ) (is : Instructions) → HaveNumbers is → depths is ≤ d → Writes (instrs_to d is) (instrs_size is)
  instrs_write d Done h deep = nothing_writes
  instrs_write d (Then i is) h deep =
      both_writes (instr_to d i) (instrs_to d is) (instr_size i) (instrs_size is) (instr_writes d i h.0 (omega (arith, deep)))
      (instrs_write d is h.1 (omega (arith, deep)))

expr_writes : (is : Instructions) → HaveNumbers is → IsShallow is → Writes (expr_to is) (expr_size is)
expr_writes is h deep = both_writes (instrs_to 4000 is) (byte_to 0x0b) (instrs_size is) 1 (instrs_write 4000 is h deep) (byte_writes 0x0b)

-- ---- parts

type_writes : (t : ValType) → Unit {0} → Writes (val_type_to t) (type_size t)
type_writes t h = byte_writes (val_code t)

any : {A : Type 0} (xs : List A) → AllByRecursion (λ (x : A). Unit {0}) xs
any [] = tt
any (x ∷ xs) = (tt, any xs)

result_writes : (o : Option ValType) → Writes (option_to val_type_to o) (option_size type_size o)
result_writes None = index_writes 0 (omega arith)
result_writes (Some t) = both_writes (index_to 1) (val_type_to t) (index_size 1) 1 (index_writes 1 (omega arith)) (type_writes t tt)

signature_writes : (s : Signature) → Unit {0} → Writes (func_type_to s) (signature_size s)
signature_writes s h =
    both_writes (byte_to 0x60) (λ o. and_then (vec_to val_type_to s.params o) (option_to val_type_to s.result)) 1
    (vec_size type_size s.params + option_size type_size s.result) (byte_writes 0x60)
    (both_writes (vec_to val_type_to s.params) (option_to val_type_to s.result) (vec_size type_size s.params) (option_size type_size s.result)
    (vec_writes val_type_to type_size (λ t. Unit {0}) type_writes (λ t. omega arith) s.params (any s.params)) (result_writes s.result))

import_writes : (i : ImportForm) → IsImportable i → Writes (import_to i) (import_size i)
import_writes i h =
    both_writes (name_to i.from) (λ o. and_then (name_to i.name o) (tagged_to 0x00 index_to i.ty)) (bytes_size (length i.from))
    (bytes_size (length i.name) + (1 + index_size i.ty)) (name_writes i.from h.0)
    (both_writes (name_to i.name) (tagged_to 0x00 index_to i.ty) (bytes_size (length i.name)) (1 + index_size i.ty) (name_writes i.name h.1.0)
    (tagged_writes 0x00 index_to i.ty (index_size i.ty) (index_writes i.ty h.1.1)))

limits_by_writes : (min : ℕ) (max : Option ℕ) → IsIndexed min → IsMost max → Writes (limits_by min max) ((1 + index_size min) + most_size max)
limits_by_writes min None h most =
    same_writes (tagged_to 0x00 index_to min) (1 + index_size min) ((1 + index_size min) + 0) (omega arith)
    (tagged_writes 0x00 index_to min (index_size min) (index_writes min h))
limits_by_writes min (Some n) h most =
    both_writes (tagged_to 0x01 index_to min) (index_to n) (1 + index_size min) (index_size n)
    (tagged_writes 0x01 index_to min (index_size min) (index_writes min h)) (index_writes n most)

limits_writes : (most : ℕ) → most < 2 ^ 32 → (l : Limits) → (l.min ≤ most) × IsMost l.max → Writes (limits_to most l) (limits_size l)
limits_writes most few l h out free =
    let low = h.0 in
    rw (le-leb l.min most low) (limits_by_writes l.min l.max (omega (arith, few, low)) h.1 out free)

table_writes : (l : Limits) → (l.min ≤ 65536) × IsMost l.max → Writes (table_type_to l) (table_size l)
table_writes l h = tagged_writes 0x70 (limits_to 65536) l (limits_size l) (limits_writes 65536 (omega arith) l h)

global_writes : (g : GlobalForm) → HaveNumbers g.init × IsShallow g.init → Writes (global_to g) (global_size g)
global_writes g h =
    both_writes (val_type_to g.ty.value) (λ o. and_then (byte_to (mut_code g.ty.mutable) o) (expr_to g.init)) 1 (1 + expr_size g.init)
    (type_writes g.ty.value tt)
    (both_writes (byte_to (mut_code g.ty.mutable)) (expr_to g.init) 1 (expr_size g.init) (byte_writes (mut_code g.ty.mutable))
    (expr_writes g.init h.0 h.1))

desc_writes : (d : ExportDesc) → IsDescribed d → Writes (export_desc_to d) (desc_size d)
desc_writes (export.Func n) h = tagged_writes 0x00 index_to n (index_size n) (index_writes n h)
desc_writes (export.Table n) h = tagged_writes 0x01 index_to n (index_size n) (index_writes n h)
desc_writes (export.Memory n) h = tagged_writes 0x02 index_to n (index_size n) (index_writes n h)
desc_writes (export.Global n) h = tagged_writes 0x03 index_to n (index_size n) (index_writes n h)

export_writes : (e : ExportForm) → IsUtf8 e.name × IsDescribed e.desc → Writes (export_to e) (export_size e)
export_writes e h =
    both_writes (name_to e.name) (export_desc_to e.desc) (bytes_size (length e.name)) (desc_size e.desc) (name_writes e.name h.0)
    (desc_writes e.desc h.1)

elem_writes : (e : ElemForm) → (IsIndexed e.table × (HaveNumbers e.offset × AllByRecursion IsIndexed e.init)) × IsShallow e.offset →
    Writes (elem_to e) (elem_size e)
elem_writes e h =
    both_writes (index_to e.table) (λ o. and_then (expr_to e.offset o) (vec_to index_to e.init)) (index_size e.table)
    (expr_size e.offset + vec_size index_size e.init) (index_writes e.table h.0.0)
    (both_writes (expr_to e.offset) (vec_to index_to e.init) (expr_size e.offset) (vec_size index_size e.init)
    (expr_writes e.offset h.0.1.0 h.1) (indices_write e.init h.0.1.1))

data_writes : (d : DataForm) → (IsIndexed d.memory × HaveNumbers d.offset) × IsShallow d.offset → Writes (data_to d) (data_size d)
data_writes d h =
    both_writes (index_to d.memory) (λ o. and_then (expr_to d.offset o) (bytes_to d.init)) (index_size d.memory)
    (expr_size d.offset + bytes_size (length d.init)) (index_writes d.memory h.0.0)
    (both_writes (expr_to d.offset) (bytes_to d.init) (expr_size d.offset) (bytes_size (length d.init)) (expr_writes d.offset h.0.1 h.1)
    (bytes_writes d.init))

-- ---- locals

abbrev IsRun : ℕ × ValType → Type 0
IsRun r = IsIndexed r.0

runs_indexed : (n : ℕ) (t : ValType) (ts : List ValType) → n + length ts < 2 ^ 32 → AllByRecursion IsRun (runs_from n t ts)
runs_indexed n t [] h = (omega (arith, h), tt)
runs_indexed n t (u ∷ us) h = by (is_same t u) (runs_indexed (n + 1) t us (omega (arith, h))) (runs_indexed 1 u us (omega (arith, h)))
  where
    by : (b : Bool) → AllByRecursion IsRun (runs_from (n + 1) t us) → AllByRecursion IsRun (runs_from 1 u us) →
        AllByRecursion IsRun (cond b (runs_from (n + 1) t us) ((n, t) ∷ runs_from 1 u us))
    by true more next = more
    by false more next = (omega (arith, h), next)

all_runs : (ts : List ValType) → length ts < 2 ^ 32 → AllByRecursion IsRun (runs_of ts)
all_runs [] h = tt
all_runs (t ∷ ts) h = runs_indexed 1 t ts (omega (arith, h))

run_writes : (r : ℕ × ValType) → IsRun r → Writes (both_to index_to val_type_to r) (run_size r)
run_writes r h = both_writes (index_to r.0) (val_type_to r.1) (index_size r.0) 1 (index_writes r.0 h) (type_writes r.1 tt)

locals_write : (ts : List ValType) → length ts ≤ 50000 → Writes (locals_to ts) (vec_size run_size (runs_of ts))
locals_write ts few out free =
    rw (le-leb (length ts) 50000 few)
    (vec_writes (both_to index_to val_type_to) run_size IsRun run_writes (λ r. omega arith) (runs_of ts) (all_runs ts (omega (arith, few))) out free)

code_writes : (f : FuncForm) → HaveNumbers f.body × ((length f.locals ≤ 50000) × IsShallow f.body) → Writes (code_to f) (code_size f)
code_writes f h =
    sized_writes (vec_size run_size (runs_of f.locals) + expr_size f.body) (code_parts_to f [])
    (λ room. both_writes (locals_to f.locals) (expr_to f.body) (vec_size run_size (runs_of f.locals)) (expr_size f.body) (locals_write f.locals h.1.0)
    (expr_writes f.body h.0 h.1.1) [] (omega (arith, room)))

-- ---- modules

both_all : {A : Type 0} (P Q : A → Type 0) (xs : List A) → AllByRecursion P xs → AllByRecursion Q xs → AllByRecursion (λ (x : A). P x × Q x) xs
both_all P Q [] a b = tt
both_all P Q (x ∷ xs) a b = ((a.0, b.0), both_all P Q xs a.1 b.1)

module _ (m : ModuleForm) (can : IsSpellable m) (within : IsWithinLimits m) where
  start_writes : (o : Option ℕ) → IsMost o → Writes (start_to o) (start_size o)
  start_writes None h = nothing_writes
  start_writes (Some n) h = section_writes section.Start (index_size n) (index_to n []) (λ room. index_writes n h [] (omega (arith, room)))

  types_write : Writes (vec_section_to section.Type func_type_to m.types) (vec_section_size signature_size m.types)
  types_write = vec_section_writes section.Type func_type_to signature_size (λ s. Unit {0}) signature_writes (λ s. omega arith) m.types (any m.types)

  imports_write : Writes (vec_section_to section.Import import_to m.imports) (vec_section_size import_size m.imports)
  imports_write = vec_section_writes section.Import import_to import_size IsImportable import_writes (λ i. omega arith) m.imports can.imports

  functions_write : Writes (vec_section_to section.Function type_index_to m.funcs) (vec_section_size type_index_size m.funcs)
  functions_write =
      vec_section_writes section.Function type_index_to type_index_size (λ f. IsIndexed f.ty) (λ f h. index_writes f.ty h) (λ f. some_index f.ty)
      m.funcs can.types

  tables_write : Writes (vec_section_to section.Table table_type_to m.tables) (vec_section_size table_size m.tables)
  tables_write =
      vec_section_writes section.Table table_type_to table_size (λ l. (l.min ≤ 65536) × IsMost l.max) table_writes (λ l. omega arith) m.tables
      (both_all (λ l. l.min ≤ 65536) (λ l. IsMost l.max) m.tables within.tables can.tables)

  memories_write : Writes (vec_section_to section.Memory (limits_to 256) m.memories) (vec_section_size limits_size m.memories)
  memories_write =
      vec_section_writes section.Memory (limits_to 256) limits_size (λ l. (l.min ≤ 256) × IsMost l.max) (limits_writes 256 (omega arith))
      (λ l. omega arith) m.memories (both_all (λ l. l.min ≤ 256) (λ l. IsMost l.max) m.memories within.memories can.memories)

  globals_write : Writes (vec_section_to section.Global global_to m.globals) (vec_section_size global_size m.globals)
  globals_write =
      vec_section_writes section.Global global_to global_size (λ g. HaveNumbers g.init × IsShallow g.init) global_writes (λ g. omega arith) m.globals
      (both_all (λ g. HaveNumbers g.init) (λ g. IsShallow g.init) m.globals can.globals within.globals)

  exports_write : Writes (vec_section_to section.Export export_to m.exports) (vec_section_size export_size m.exports)
  exports_write =
      vec_section_writes section.Export export_to export_size (λ e. IsUtf8 e.name × IsDescribed e.desc) export_writes
      (λ e. let some = some_index (length e.name) in omega (arith, some)) m.exports can.exports

  elems_write : Writes (vec_section_to section.Element elem_to m.elems) (vec_section_size elem_size m.elems)
  elems_write =
      vec_section_writes section.Element elem_to elem_size
      (λ e. (IsIndexed e.table × (HaveNumbers e.offset × AllByRecursion IsIndexed e.init)) × IsShallow e.offset) elem_writes (λ e. omega arith) m.elems
      (both_all (λ e. IsIndexed e.table × (HaveNumbers e.offset × AllByRecursion IsIndexed e.init)) (λ e. IsShallow e.offset) m.elems can.elems within.elems)

  codes_write : Writes (vec_section_to section.Code code_to m.funcs) (vec_section_size code_size m.funcs)
  codes_write =
      vec_section_writes section.Code code_to code_size (λ f. HaveNumbers f.body × ((length f.locals ≤ 50000) × IsShallow f.body)) code_writes
      (λ f. omega arith) m.funcs
      (both_all (λ f. HaveNumbers f.body) (λ f. (length f.locals ≤ 50000) × IsShallow f.body) m.funcs can.codes
      (both_all (λ f. length f.locals ≤ 50000) (λ f. IsShallow f.body) m.funcs within.locals within.bodies))

  data_write : Writes (vec_section_to section.Data data_to m.data_segments) (vec_section_size data_size m.data_segments)
  data_write =
      vec_section_writes section.Data data_to data_size (λ d. (IsIndexed d.memory × HaveNumbers d.offset) × IsShallow d.offset) data_writes
      (λ d. omega arith) m.data_segments
      (both_all (λ d. IsIndexed d.memory × HaveNumbers d.offset) (λ d. IsShallow d.offset) m.data_segments can.data_segments within.data_segments)

  -- the sizes of the sections from each on

  abbrev from_codes : ℕ
  from_codes = vec_section_size code_size m.funcs + vec_section_size data_size m.data_segments

  abbrev from_elems : ℕ
  from_elems = vec_section_size elem_size m.elems + from_codes

  abbrev from_start : ℕ
  from_start = start_size m.start + from_elems

  abbrev from_exports : ℕ
  from_exports = vec_section_size export_size m.exports + from_start

  abbrev from_globals : ℕ
  from_globals = vec_section_size global_size m.globals + from_exports

  abbrev from_memory : ℕ
  from_memory = vec_section_size limits_size m.memories + from_globals

  abbrev from_table : ℕ
  from_table = vec_section_size table_size m.tables + from_memory

  abbrev from_functions : ℕ
  from_functions = vec_section_size type_index_size m.funcs + from_table

  abbrev from_imports : ℕ
  from_imports = vec_section_size import_size m.imports + from_functions

  abbrev from_types : ℕ
  from_types = vec_section_size signature_size m.types + from_imports

  start_on : Writes (from_start_to m) from_start
  start_on =
      both_writes (start_to m.start) (from_elems_to m) (start_size m.start) from_elems (start_writes m.start can.start)
      (both_writes (vec_section_to section.Element elem_to m.elems) (from_codes_to m) (vec_section_size elem_size m.elems) from_codes elems_write
      (both_writes (vec_section_to section.Code code_to m.funcs) (from_data_to m) (vec_section_size code_size m.funcs)
      (vec_section_size data_size m.data_segments) codes_write data_write))

  table_on : Writes (from_table_to m) from_table
  table_on =
      both_writes (vec_section_to section.Table table_type_to m.tables) (from_memory_to m) (vec_section_size table_size m.tables) from_memory tables_write
      (both_writes (vec_section_to section.Memory (limits_to 256) m.memories) (from_globals_to m) (vec_section_size limits_size m.memories) from_globals
      memories_write
      (both_writes (vec_section_to section.Global global_to m.globals) (from_exports_to m) (vec_section_size global_size m.globals) from_exports
      globals_write
      (both_writes (vec_section_to section.Export export_to m.exports) (from_start_to m) (vec_section_size export_size m.exports) from_start
      exports_write start_on)))

  types_on : Writes (from_types_to m) from_types
  types_on =
      both_writes (vec_section_to section.Type func_type_to m.types) (from_imports_to m) (vec_section_size signature_size m.types) from_imports types_write
      (both_writes (vec_section_to section.Import import_to m.imports) (from_functions_to m) (vec_section_size import_size m.imports) from_functions
      imports_write
      (both_writes (vec_section_to section.Function type_index_to m.funcs) (from_table_to m) (vec_section_size type_index_size m.funcs) from_table
      functions_write table_on))

  written : (bytes : List ℕ) × (module_to m ≡ Some bytes) × (length bytes ≡ module_size m)
  written = by (from_types_to m header) (types_on header within.size)
    where
      by : (r : Written) → Adds from_types header r → (bytes : List ℕ) × (and_then r fit ≡ Some bytes) × (length bytes ≡ module_size m)
      by None h = absurd h
      by (Some bytes) h = let size = within.size in (bytes, rw (le-leb (length bytes) (2 ^ 24) (omega (arith, h, size))) refl, h)

  -- IT HAS BYTES
  pub has_bytes : (bytes : List ℕ) × IsModule bytes m × (length bytes ≡ module_size m)
  has_bytes = let w = written in (w.0, (subst (Settles m) w.1 (settled m)).0, w.2)
