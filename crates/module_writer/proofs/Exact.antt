-- What is written has exactly as many bytes as its size says, and is within the limits. So no bytes of a module are fewer, and one that passes a limit has
-- none.
use Rattle.std.proofs.Common.{◌≡◌, ℕ, zero, suc, ◌+◌, ◌-◌, ◌^◌, ◌<◌, ◌≤◌, Bool, true, false, cond, leb, ltb, List, [], ◌∷◌, ◌++◌, length, max, Option, Some, None, refl, subst, arith, length-append}
use Rattle.std.specs.List.{AllByRecursion, Contains}
use Rattle.std.specs.Str.{is_utf8}
use Rattle.std.proofs.Math.Dec.{eqb-suc-zero}
use Rattle.std.proofs.lemmas.Bool.{leb-true}
use Rattle.std.proofs.lemmas.List.Elements.{All-contains, All-from_recursion}
use Rattle.wasm_types.specs.declared.types.ValType.{ValType}
use Rattle.wasm_types.specs.declared.types.Limits.{Limits}
use Rattle.wasm_types.specs.declared.module.ExportDesc.{ExportDesc}
use Rattle.wasm_types.specs.declared.module.ExportDesc.TheVariants as export
use Rattle.wasm_types.specs.declared.module.SectionId.{SectionId}
use Rattle.wasm_types.specs.declared.module.SectionId.TheVariants as section
use Rattle.wasm_types.specs.Syntax.{Instruction, Plain, BrTable, Block, Loop, If, Instructions, Done, Then, Signature, ImportForm, FuncForm, GlobalForm, ExportForm, ElemForm, DataForm, ModuleForm}
use Rattle.wasm_types.specs.Opcodes.{opcode}
use Rattle.wasm_types.specs.Immediates.{Immediates, Nothing, Index, Memory, Bits32, Bits64, IndexReserved, Reserved, immediates}
use Rattle.wasm_types.specs.Instructions.{block_code, depth, depths, val_code}
use Rattle.wasm_types.specs.Leb128Texts.{and_then, s32_text, s64_text, u32_text}
use Rattle.wasm_types.specs.ModuleGrammar.{IsModule, header, mut_code, number}
use Rattle.module_writer.specs.Writers.{Written, bits32_to, bits64_to, both_to, byte_to, bytes_to, each_to, index_to, name_to, option_to, sized_to, tagged_to, vec_to}
use Rattle.module_writer.specs.Writing.{code_parts_to, code_to, data_to, elem_to, else_to, export_desc_to, export_to, expr_to, fit, from_codes_to, from_data_to, from_elems_to, from_exports_to, from_functions_to, from_globals_to, from_imports_to, from_memory_to, from_start_to, from_table_to, from_types_to, func_type_to, global_to, immediates_to, import_to, instr_to, instrs_to, limits_by, limits_to, locals_to, module_to, opened_to, runs_of, section_to, start_to, table_type_to, type_index_to, val_type_to, vec_section_to, within_to}
use Rattle.module_writer.proofs.Written.{Settles, settled}
use Rattle.module_writer.specs.Limits.{IsShallow, PassesALimit, blocks, bytes, elements, locals, pages}
use Rattle.module_writer.specs.Size.{bytes_size, code_size, data_size, desc_size, each_size, elem_size, else_size, export_size, expr_size, global_size, immediates_size, import_size, index_size, instr_size, instrs_size, limits_size, module_size, most_size, option_size, run_size, section_size, signature_size, start_size, table_size, type_index_size, type_size, vec_section_size, vec_size}

abbrev Nothing_more : Type 0
Nothing_more = Unit {0}

-- if it is written it has so many bytes more, and this holds
abbrev Exact : ℕ → Type 0 → List ℕ → Written → Type 0
Exact n P out None = Unit {0}
Exact n P out (Some new) = (length new ≡ length out + n) × P

abbrev Counts : (List ℕ → Written) → ℕ → Type 0 → Type 0
Counts w n P = (out : List ℕ) → Exact n P out (w out)

weaker : (n : ℕ) (P Q : Type 0) (out : List ℕ) (r : Written) → (P → Q) → Exact n P out r → Exact n Q out r
weaker n P Q out None f h = tt
weaker n P Q out (Some new) f h = (h.0, f h.1)

saying : (w : List ℕ → Written) (n : ℕ) (P Q : Type 0) → (P → Q) → Counts w n P → Counts w n Q
saying w n P Q f g out = weaker n P Q out (w out) f (g out)

both : (p q : List ℕ → Written) (a b : ℕ) (P Q : Type 0) → Counts p a P → Counts q b Q → Counts (λ out. and_then (p out) q) (a + b) (P × Q)
both p q a b P Q f g out = by (p out) (f out)
  where
    by : (r : Written) → Exact a P out r → Exact (a + b) (P × Q) out (and_then r q)
    by None h = tt
    by (Some mid) h = next (q mid) (g mid)
      where
        next : (s : Written) → Exact b Q mid s → Exact (a + b) (P × Q) out s
        next None k = tt
        next (Some new) k = let x = h.0 in let y = k.0 in (omega (arith, x, y), (h.1, k.1))

-- of two parts of which nothing is to be said
two : (p q : List ℕ → Written) (a b : ℕ) → Counts p a Nothing_more → Counts q b Nothing_more → Counts (λ out. and_then (p out) q) (a + b) Nothing_more
two p q a b f g = saying _ (a + b) (Nothing_more × Nothing_more) Nothing_more (λ h. tt) (both p q a b Nothing_more Nothing_more f g)

nothing : Counts (λ out. Some out) 0 Nothing_more
nothing out = (omega arith, tt)

-- the bytes of a text, where a test lets them
tested : (z : Bool) (xs out : List ℕ) → Exact (length xs) Nothing_more out (cond z (Some (out ++ xs)) None)
tested true xs out = (length-append out xs, tt)
tested false xs out = tt

byte : (k : ℕ) → Counts (byte_to k) 1 Nothing_more
byte k out = tested (ltb (length out) (2 ^ 24)) (k ∷ []) out

index : (n : ℕ) → Counts (index_to n) (index_size n) Nothing_more
unfolding index_to
index n out = tested (ltb n (2 ^ 32)) (u32_text n) out

bits32 : (n : ℕ) → Counts (bits32_to n) (length (s32_text n)) Nothing_more
unfolding bits32_to
bits32 n out = tested (ltb n (2 ^ 32)) (s32_text n) out

bits64 : (n : ℕ) → Counts (bits64_to n) (length (s64_text n)) Nothing_more
unfolding bits64_to
bits64 n out = tested (ltb n (2 ^ 64)) (s64_text n) out

-- ---- vectors

module _ {A : Type 0} (p : A → List ℕ → Written) (f : A → ℕ) (Q : A → Type 0) (counts : (x : A) → Counts (p x) (f x) (Q x)) where
  each : (xs : List A) → Counts (each_to p xs) (each_size f xs) (AllByRecursion Q xs)
  each [] = nothing
  each (x ∷ xs) = both (p x) (each_to p xs) (f x) (each_size f xs) (Q x) (AllByRecursion Q xs) (counts x) (each xs)

  vec : (xs : List A) → Counts (vec_to p xs) (vec_size f xs) (AllByRecursion Q xs)
  vec xs =
      saying (vec_to p xs) (vec_size f xs) (Nothing_more × AllByRecursion Q xs) (AllByRecursion Q xs) (λ h. h.1)
      (both (index_to (length xs)) (each_to p xs) (index_size (length xs)) (each_size f xs) Nothing_more (AllByRecursion Q xs) (index (length xs)) (each xs))

-- of elements of which nothing is to be said
plain_vec : {A : Type 0} (p : A → List ℕ → Written) (f : A → ℕ) → ((x : A) → Counts (p x) (f x) Nothing_more) → (xs : List A) →
    Counts (vec_to p xs) (vec_size f xs) Nothing_more
plain_vec p f counts xs = saying (vec_to p xs) (vec_size f xs) _ Nothing_more (λ h. tt) (vec p f (λ x. Nothing_more) counts xs)

tagged : {A : Type 0} (k : ℕ) (p : A → List ℕ → Written) (x : A) (n : ℕ) (P : Type 0) → Counts (p x) n P → Counts (tagged_to k p x) (1 + n) P
tagged k p x n P g = saying (tagged_to k p x) (1 + n) (Nothing_more × P) P (λ h. h.1) (both (byte_to k) (p x) 1 n Nothing_more P (byte k) g)

counted : (xs : List ℕ) → Counts (bytes_to xs) (bytes_size (length xs)) Nothing_more
counted xs = two (index_to (length xs)) (λ new. Some (new ++ xs)) (index_size (length xs)) (length xs) (index (length xs)) (λ new. (length-append new xs, tt))

name : (xs : List ℕ) → Counts (name_to xs) (bytes_size (length xs)) Nothing_more
name xs out = by (is_utf8 xs)
  where
    by : (z : Bool) → Exact (bytes_size (length xs)) Nothing_more out (cond z (bytes_to xs out) None)
    by true = counted xs out
    by false = tt

-- ---- what is written on its own, with its size before it

sized : (n : ℕ) (P : Type 0) (body : Written) → Exact n P [] body → Counts (sized_to body) (bytes_size n) P
sized n P None h out = tt
sized n P (Some xs) h out =
    let m = h.0 in
    let e : length xs ≡ n = omega (arith, m) in
    subst (λ (k : ℕ). Exact (bytes_size k) P out (bytes_to xs out)) e
    (weaker (bytes_size (length xs)) Nothing_more P out (bytes_to xs out) (λ k. h.1) (counted xs out))

a_section : (k : SectionId) (n : ℕ) (P : Type 0) (body : Written) → Exact n P [] body → Counts (section_to k body) (section_size n) P
a_section k n P None h out = tt
a_section k n P (Some xs) h out =
    let m = h.0 in
    let e : length xs ≡ n = omega (arith, m) in
    subst (λ (j : ℕ). Exact (section_size j) P out (section_to k (Some xs) out)) e
    (weaker (section_size (length xs)) Nothing_more P out (section_to k (Some xs) out) (λ w. h.1)
    (two (byte_to (number k)) (bytes_to xs) 1 (bytes_size (length xs)) (byte (number k)) (counted xs) out))

vec_section : {A : Type 0} (k : SectionId) (p : A → List ℕ → Written) (f : A → ℕ) (Q : A → Type 0) → ((x : A) → Counts (p x) (f x) (Q x)) → (xs : List A) →
    Counts (vec_section_to k p xs) (vec_section_size f xs) (AllByRecursion Q xs)
vec_section k p f Q counts [] = nothing
vec_section k p f Q counts (x ∷ xs) =
    a_section k (vec_size f (x ∷ xs)) (AllByRecursion Q (x ∷ xs)) (vec_to p (x ∷ xs) []) (vec p f Q counts (x ∷ xs) [])

plain_section : {A : Type 0} (k : SectionId) (p : A → List ℕ → Written) (f : A → ℕ) → ((x : A) → Counts (p x) (f x) Nothing_more) → (xs : List A) →
    Counts (vec_section_to k p xs) (vec_section_size f xs) Nothing_more
plain_section k p f counts xs =
    saying (vec_section_to k p xs) (vec_section_size f xs) _ Nothing_more (λ h. tt) (vec_section k p f (λ x. Nothing_more) counts xs)

-- ---- instructions

after_opcode : (i : Immediates) → Counts (immediates_to i) (immediates_size i) Nothing_more
after_opcode Nothing = nothing
after_opcode (Index n) = index n
after_opcode (Memory m) = two (index_to m.align) (index_to m.offset) (index_size m.align) (index_size m.offset) (index m.align) (index m.offset)
after_opcode (Bits32 n) = bits32 n
after_opcode (Bits64 n) = bits64 n
after_opcode (IndexReserved n) = two (index_to n) (byte_to 0) (index_size n) 1 (index n) (byte 0)
after_opcode Reserved = byte 0

opened : (b : ℕ) (k : Option ValType) (inner : List ℕ → Written) (n : ℕ) (P : Type 0) → Counts inner n P → Counts (opened_to b k inner) (1 + (1 + (n + 1))) P
opened b k inner n P g =
    let closed = saying (λ p. and_then (inner p) (byte_to 0x0b)) (n + 1) (P × Nothing_more) P (λ h. h.0)
    (both inner (byte_to 0x0b) n 1 P Nothing_more g (byte 0x0b)) in
    let typed = saying (λ o. and_then (byte_to (block_code k) o) (λ p. and_then (inner p) (byte_to 0x0b))) (1 + (n + 1)) (Nothing_more × P) P (λ h. h.1)
    (both (byte_to (block_code k)) (λ p. and_then (inner p) (byte_to 0x0b)) 1 (n + 1) Nothing_more P (byte (block_code k)) closed) in
    saying (opened_to b k inner) (1 + (1 + (n + 1))) (Nothing_more × P) P (λ h. h.1)
    (both (byte_to b) (λ o. and_then (byte_to (block_code k) o) (λ p. and_then (inner p) (byte_to 0x0b))) 1 (1 + (n + 1)) Nothing_more P (byte b) typed)

otherwise : (d : ℕ) (js : Instructions) (body : List ℕ → Written) (n : ℕ) → Counts body n (depths js ≤ d) →
    Counts (else_to js body) (else_size js n) (depths js ≤ d)
otherwise d Done body n g = λ out. (omega arith, omega arith)
otherwise d (Then i is) body n g =
    saying (else_to (Then i is) body) (1 + n) (Nothing_more × (depths (Then i is) ≤ d)) (depths (Then i is) ≤ d) (λ h. h.1)
    (both (byte_to 0x05) body 1 n Nothing_more (depths (Then i is) ≤ d) (byte 0x05) g)

inside : (d : ℕ) (body : ℕ → List ℕ → Written) (n m : ℕ) → ((e : ℕ) → Counts (body e) n (m ≤ e)) → Counts (within_to d body) n (m + 1 ≤ d)
inside zero body n m g out = tt
inside (suc d) body n m g out =
    let same : suc d - 1 ≡ d = omega arith in
    rw (eqb-suc-zero d, same) (weaker n (m ≤ d) (m + 1 ≤ suc d) out (body d out) (λ h. omega (arith, h)) (g d out))

mutual
  instr : (d : ℕ) (i : Instruction) → Counts (instr_to d i) (instr_size i) (depth i ≤ d)
  instr d (Plain p) =
      saying (instr_to d (Plain p)) (instr_size (Plain p)) Nothing_more (0 ≤ d) (λ h. omega arith)
      (two (byte_to (opcode p)) (immediates_to (immediates p)) 1 (immediates_size (immediates p)) (byte (opcode p)) (after_opcode (immediates p)))
  instr d (BrTable ns n) =
      saying (instr_to d (BrTable ns n)) (instr_size (BrTable ns n)) Nothing_more (0 ≤ d) (λ h. omega arith)
      (two (byte_to 0x0e) (λ o. and_then (vec_to index_to ns o) (index_to n)) 1 (vec_size index_size ns + index_size n) (byte 0x0e)
      (two (vec_to index_to ns) (index_to n) (vec_size index_size ns) (index_size n) (plain_vec index_to index_size index ns) (index n)))
  instr d (Block k is) =
      inside d (λ e. opened_to 0x02 k (instrs_to e is)) (instr_size (Block k is)) (depths is)
      (λ e. opened 0x02 k (instrs_to e is) (instrs_size is) (depths is ≤ e) (instrs e is))
  instr d (Loop k is) =
      inside d (λ e. opened_to 0x03 k (instrs_to e is)) (instr_size (Loop k is)) (depths is)
      (λ e. opened 0x03 k (instrs_to e is) (instrs_size is) (depths is ≤ e) (instrs e is))
  instr d (If k is js) =
      let n = instrs_size is + else_size js (instrs_size js) in
      inside d (λ e. opened_to 0x04 k (λ o. and_then (instrs_to e is o) (else_to js (instrs_to e js)))) (instr_size (If k is js)) (max (depths is) (depths js))
      (λ e. opened 0x04 k (λ o. and_then (instrs_to e is o) (else_to js (instrs_to e js))) n (max (depths is) (depths js) ≤ e)
      (saying (λ o. and_then (instrs_to e is o) (else_to js (instrs_to e js))) n ((depths is ≤ e) × (depths js ≤ e)) (max (depths is) (depths js) ≤ e)
      (λ h. let a = h.0 in let b = h.1 in omega (arith, a, b))
      (both (instrs_to e is) (else_to js (instrs_to e js)) (instrs_size is) (else_size js (instrs_size js)) (depths is ≤ e) (depths js ≤ e) (instrs e is)
      (otherwise e js (instrs_to e js) (instrs_size js) (instrs e js)))))

  instrs : (d : ℕ) (is : Instructions) → Counts (instrs_to d is) (instrs_size is) (depths is ≤ d)
  instrs d Done = λ out. (omega arith, omega arith)
  instrs d (Then i is) =
      saying (instrs_to d (Then i is)) (instrs_size (Then i is)) ((depth i ≤ d) × (depths is ≤ d)) (depths (Then i is) ≤ d)
      (λ h. let a = h.0 in let b = h.1 in omega (arith, a, b))
      (both (instr_to d i) (instrs_to d is) (instr_size i) (instrs_size is) (depth i ≤ d) (depths is ≤ d) (instr d i) (instrs d is))

expr : (is : Instructions) → Counts (expr_to is) (expr_size is) (IsShallow is)
expr is =
    saying (expr_to is) (expr_size is) (IsShallow is × Nothing_more) (IsShallow is) (λ h. h.0)
    (both (instrs_to 4000 is) (byte_to 0x0b) (instrs_size is) 1 (IsShallow is) Nothing_more (instrs 4000 is) (byte 0x0b))

constant : (is : Instructions) → Counts (expr_to is) (expr_size is) Nothing_more
constant is = saying (expr_to is) (expr_size is) (IsShallow is) Nothing_more (λ h. tt) (expr is)

-- ---- parts

val_type : (t : ValType) → Counts (val_type_to t) (type_size t) Nothing_more
val_type t = byte (val_code t)

result : (o : Option ValType) → Counts (option_to val_type_to o) (option_size type_size o) Nothing_more
result None = index 0
result (Some t) = two (index_to 1) (val_type_to t) (index_size 1) 1 (index 1) (val_type t)

signature : (s : Signature) → Counts (func_type_to s) (signature_size s) Nothing_more
signature s =
    two (byte_to 0x60) (λ o. and_then (vec_to val_type_to s.params o) (option_to val_type_to s.result)) 1
    (vec_size type_size s.params + option_size type_size s.result) (byte 0x60)
    (two (vec_to val_type_to s.params) (option_to val_type_to s.result) (vec_size type_size s.params) (option_size type_size s.result)
    (plain_vec val_type_to type_size val_type s.params) (result s.result))

an_import : (i : ImportForm) → Counts (import_to i) (import_size i) Nothing_more
an_import i =
    two (name_to i.from) (λ o. and_then (name_to i.name o) (tagged_to 0x00 index_to i.ty)) (bytes_size (length i.from))
    (bytes_size (length i.name) + (1 + index_size i.ty)) (name i.from)
    (two (name_to i.name) (tagged_to 0x00 index_to i.ty) (bytes_size (length i.name)) (1 + index_size i.ty) (name i.name)
    (tagged 0x00 index_to i.ty (index_size i.ty) Nothing_more (index i.ty)))

bounds : (min : ℕ) (max : Option ℕ) → Counts (limits_by min max) ((1 + index_size min) + most_size max) Nothing_more
bounds min None =
    subst (λ (n : ℕ). Counts (tagged_to 0x00 index_to min) n Nothing_more) (omega arith)
    (tagged 0x00 index_to min (index_size min) Nothing_more (index min))
bounds min (Some n) =
    two (tagged_to 0x01 index_to min) (index_to n) (1 + index_size min) (index_size n)
    (tagged 0x01 index_to min (index_size min) Nothing_more (index min)) (index n)

limits : (most : ℕ) (l : Limits) → Counts (limits_to most l) (limits_size l) (l.min ≤ most)
limits most l out = by (leb l.min most) refl
  where
    by : (z : Bool) → leb l.min most ≡ z → Exact (limits_size l) (l.min ≤ most) out (cond z (limits_by l.min l.max out) None)
    by true e = weaker (limits_size l) Nothing_more (l.min ≤ most) out (limits_by l.min l.max out) (λ h. leb-true l.min most e) (bounds l.min l.max out)
    by false e = tt

a_table : (l : Limits) → Counts (table_type_to l) (table_size l) (l.min ≤ 65536)
a_table l = tagged 0x70 (limits_to 65536) l (limits_size l) (l.min ≤ 65536) (limits 65536 l)

global : (g : GlobalForm) → Counts (global_to g) (global_size g) Nothing_more
global g =
    two (val_type_to g.ty.value) (λ o. and_then (byte_to (mut_code g.ty.mutable) o) (expr_to g.init)) 1 (1 + expr_size g.init) (val_type g.ty.value)
    (two (byte_to (mut_code g.ty.mutable)) (expr_to g.init) 1 (expr_size g.init) (byte (mut_code g.ty.mutable)) (constant g.init))

desc : (d : ExportDesc) → Counts (export_desc_to d) (desc_size d) Nothing_more
desc (export.Func n) = tagged 0x00 index_to n (index_size n) Nothing_more (index n)
desc (export.Table n) = tagged 0x01 index_to n (index_size n) Nothing_more (index n)
desc (export.Memory n) = tagged 0x02 index_to n (index_size n) Nothing_more (index n)
desc (export.Global n) = tagged 0x03 index_to n (index_size n) Nothing_more (index n)

an_export : (e : ExportForm) → Counts (export_to e) (export_size e) Nothing_more
an_export e = two (name_to e.name) (export_desc_to e.desc) (bytes_size (length e.name)) (desc_size e.desc) (name e.name) (desc e.desc)

elem : (e : ElemForm) → Counts (elem_to e) (elem_size e) Nothing_more
elem e =
    two (index_to e.table) (λ o. and_then (expr_to e.offset o) (vec_to index_to e.init)) (index_size e.table)
    (expr_size e.offset + vec_size index_size e.init) (index e.table)
    (two (expr_to e.offset) (vec_to index_to e.init) (expr_size e.offset) (vec_size index_size e.init) (constant e.offset)
    (plain_vec index_to index_size index e.init))

data_segment : (d : DataForm) → Counts (data_to d) (data_size d) Nothing_more
data_segment d =
    two (index_to d.memory) (λ o. and_then (expr_to d.offset o) (bytes_to d.init)) (index_size d.memory)
    (expr_size d.offset + bytes_size (length d.init)) (index d.memory)
    (two (expr_to d.offset) (bytes_to d.init) (expr_size d.offset) (bytes_size (length d.init)) (constant d.offset) (counted d.init))

run : (r : ℕ × ValType) → Counts (both_to index_to val_type_to r) (run_size r) Nothing_more
run r = two (index_to r.0) (val_type_to r.1) (index_size r.0) 1 (index r.0) (val_type r.1)

all_locals : (ts : List ValType) → Counts (locals_to ts) (vec_size run_size (runs_of ts)) (length ts ≤ 50000)
all_locals ts out = by (leb (length ts) 50000) refl
  where
    by : (z : Bool) → leb (length ts) 50000 ≡ z →
        Exact (vec_size run_size (runs_of ts)) (length ts ≤ 50000) out (cond z (vec_to (both_to index_to val_type_to) (runs_of ts) out) None)
    by true e =
        weaker (vec_size run_size (runs_of ts)) Nothing_more (length ts ≤ 50000) out (vec_to (both_to index_to val_type_to) (runs_of ts) out)
        (λ h. leb-true (length ts) 50000 e) (plain_vec (both_to index_to val_type_to) run_size run (runs_of ts) out)
    by false e = tt

abbrev IsSmall : FuncForm → Type 0
IsSmall f = (length f.locals ≤ 50000) × IsShallow f.body

code : (f : FuncForm) → Counts (code_to f) (code_size f) (IsSmall f)
code f =
    sized (vec_size run_size (runs_of f.locals) + expr_size f.body) (IsSmall f) (code_parts_to f [])
    (both (locals_to f.locals) (expr_to f.body) (vec_size run_size (runs_of f.locals)) (expr_size f.body) (length f.locals ≤ 50000) (IsShallow f.body)
    (all_locals f.locals) (expr f.body) [])

-- ---- modules

module _ (m : ModuleForm) where
  abbrev Codes : Type 0
  Codes = AllByRecursion IsSmall m.funcs

  abbrev Memories : Type 0
  Memories = AllByRecursion (λ (l : Limits). l.min ≤ 256) m.memories

  abbrev Tables : Type 0
  Tables = AllByRecursion (λ (l : Limits). l.min ≤ 65536) m.tables

  start : (o : Option ℕ) → Counts (start_to o) (start_size o) Nothing_more
  start None = nothing
  start (Some n) = a_section section.Start (index_size n) Nothing_more (index_to n []) (index n [])

  abbrev from_codes : ℕ
  from_codes = vec_section_size code_size m.funcs + vec_section_size data_size m.data_segments

  abbrev from_elems : ℕ
  from_elems = vec_section_size elem_size m.elems + from_codes

  abbrev from_start : ℕ
  from_start = start_size m.start + from_elems

  abbrev from_exports : ℕ
  from_exports = vec_section_size export_size m.exports + from_start

  abbrev from_globals : ℕ
  from_globals = vec_section_size global_size m.globals + from_exports

  abbrev from_memory : ℕ
  from_memory = vec_section_size limits_size m.memories + from_globals

  abbrev from_table : ℕ
  from_table = vec_section_size table_size m.tables + from_memory

  abbrev from_functions : ℕ
  from_functions = vec_section_size type_index_size m.funcs + from_table

  abbrev from_imports : ℕ
  from_imports = vec_section_size import_size m.imports + from_functions

  abbrev from_types : ℕ
  from_types = vec_section_size signature_size m.types + from_imports

  -- a section of which nothing is to be said, before others
  before : (p q : List ℕ → Written) (a b : ℕ) (P : Type 0) → Counts p a Nothing_more → Counts q b P → Counts (λ out. and_then (p out) q) (a + b) P
  before p q a b P f g = saying _ (a + b) (Nothing_more × P) P (λ h. h.1) (both p q a b Nothing_more P f g)

  codes_on : Counts (from_codes_to m) from_codes Codes
  codes_on =
      saying (from_codes_to m) from_codes (Codes × Nothing_more) Codes (λ h. h.0)
      (both (vec_section_to section.Code code_to m.funcs) (from_data_to m) (vec_section_size code_size m.funcs) (vec_section_size data_size m.data_segments)
      Codes Nothing_more (vec_section section.Code code_to code_size IsSmall code m.funcs)
      (plain_section section.Data data_to data_size data_segment m.data_segments))

  globals_on : Counts (from_globals_to m) from_globals Codes
  globals_on =
      before (vec_section_to section.Global global_to m.globals) (from_exports_to m) (vec_section_size global_size m.globals) from_exports Codes
      (plain_section section.Global global_to global_size global m.globals)
      (before (vec_section_to section.Export export_to m.exports) (from_start_to m) (vec_section_size export_size m.exports) from_start Codes
      (plain_section section.Export export_to export_size an_export m.exports)
      (before (start_to m.start) (from_elems_to m) (start_size m.start) from_elems Codes (start m.start)
      (before (vec_section_to section.Element elem_to m.elems) (from_codes_to m) (vec_section_size elem_size m.elems) from_codes Codes
      (plain_section section.Element elem_to elem_size elem m.elems) codes_on)))

  table_on : Counts (from_table_to m) from_table (Tables × (Memories × Codes))
  table_on =
      both (vec_section_to section.Table table_type_to m.tables) (from_memory_to m) (vec_section_size table_size m.tables) from_memory Tables (Memories × Codes)
      (vec_section section.Table table_type_to table_size (λ (l : Limits). l.min ≤ 65536) a_table m.tables)
      (both (vec_section_to section.Memory (limits_to 256) m.memories) (from_globals_to m) (vec_section_size limits_size m.memories) from_globals Memories Codes
      (vec_section section.Memory (limits_to 256) limits_size (λ (l : Limits). l.min ≤ 256) (limits 256) m.memories) globals_on)

  types_on : Counts (from_types_to m) from_types (Tables × (Memories × Codes))
  types_on =
      before (vec_section_to section.Type func_type_to m.types) (from_imports_to m) (vec_section_size signature_size m.types) from_imports
      (Tables × (Memories × Codes)) (plain_section section.Type func_type_to signature_size signature m.types)
      (before (vec_section_to section.Import import_to m.imports) (from_functions_to m) (vec_section_size import_size m.imports) from_functions
      (Tables × (Memories × Codes)) (plain_section section.Import import_to import_size an_import m.imports)
      (before (vec_section_to section.Function type_index_to m.funcs) (from_table_to m) (vec_section_size type_index_size m.funcs) from_table
      (Tables × (Memories × Codes)) (plain_section section.Function type_index_to type_index_size (λ f. index f.ty) m.funcs) table_on))

  -- what is said of a module with bytes
  record Within (text : List ℕ) : Type 0 where
    size : length text ≡ module_size m
    few : length text ≤ 2 ^ 24
    tables : Tables
    memories : Memories
    codes : Codes

  written : (text : List ℕ) → module_to m ≡ Some text → Within text
  written text e = by (from_types_to m header) (types_on header) e
    where
      by : (r : Written) → Exact from_types (Tables × (Memories × Codes)) header r → and_then r fit ≡ Some text → Within text
      by None h k = absurd cc
      by (Some new) h k = end (leb (length new) (2 ^ 24)) refl k
        where
          end : (z : Bool) → leb (length new) (2 ^ 24) ≡ z → cond z (Some new) None ≡ Some text → Within text
          end true q s =
              let same : new ≡ text = cc in
              subst Within same (record { size = h.0; few = leb-true (length new) (2 ^ 24) q; tables = h.1.0; memories = h.1.1.0; codes = h.1.1.1 })
          end false q s = absurd cc

  holds_of : {A : Type 0} (f : A → ℕ) (most : ℕ) (xs : List A) (x : A) → AllByRecursion (λ (y : A). f y ≤ most) xs → Contains xs x → most < f x → ⊥
  holds_of f most xs x all c h =
      let a = All-contains (λ y. f y ≤ most) xs x (All-from_recursion (λ y. f y ≤ most) xs all) c in
      omega (arith, a, h)

  smalls : (fs : List FuncForm) → AllByRecursion IsSmall fs →
      AllByRecursion (λ (f : FuncForm). length f.locals ≤ 50000) fs × AllByRecursion (λ (f : FuncForm). depths f.body ≤ 4000) fs
  smalls [] h = (tt, tt)
  smalls (f ∷ fs) h = let rest = smalls fs h.1 in ((h.0.0, rest.0), (h.0.1, rest.1))

  none_past : (text : List ℕ) → Within text → PassesALimit m → ⊥
  none_past text w (bytes h) = let s = w.size in let f = w.few in omega (arith, s, f, h)
  none_past text w (locals f c h) = holds_of (λ (g : FuncForm). length g.locals) 50000 m.funcs f (smalls m.funcs w.codes).0 c h
  none_past text w (blocks f c h) = holds_of (λ (g : FuncForm). depths g.body) 4000 m.funcs f (smalls m.funcs w.codes).1 c h
  none_past text w (elements l c h) = holds_of (λ (k : Limits). k.min) 65536 m.tables l w.tables c h
  none_past text w (pages l c h) = holds_of (λ (k : Limits). k.min) 256 m.memories l w.memories c h

  -- NO BYTES ARE FEWER, and a module that has bytes passes no limit
  pub no_fewer : (other : List ℕ) → IsModule other m → (module_size m ≤ length other) × (PassesALimit m → ⊥)
  no_fewer other is = by (module_to m) refl (settled m)
    where
      by : (r : Written) → module_to m ≡ r → Settles m r → (module_size m ≤ length other) × (PassesALimit m → ⊥)
      by None e s = absurd (s other is)
      by (Some text) e s =
          let w = written text e in
          let size = w.size in
          let less = s.1 other is in
          (omega (arith, size, less), none_past text w)
