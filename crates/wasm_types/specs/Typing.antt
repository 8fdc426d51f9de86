-- The typing rules, declaratively (Core 1.0, section 3). Lists of types are stacks, the topmost first.
use Rattle.std.specs.Prelude.{ℕ, ◌≡◌, ◌≤◌, ◌<◌, ◌^◌, List, [], ◌∷◌, ◌++◌, length, reverse, map, Option, Some, None, slice_get, Bool, true, false, ◌&&◌, nat_le, Contains, take, get_or}
use Rattle.std.specs.List.{All}
use Rattle.wasm_types.specs.declared.types.ValType.{ValType}
use Rattle.wasm_types.specs.declared.types.ValType.TheVariants.{I32, I64}
use Rattle.wasm_types.specs.declared.types.GlobalType.{GlobalType}
use Rattle.wasm_types.specs.declared.types.Limits.{Limits}
use Rattle.wasm_types.specs.declared.instr.CvtOp.{CvtOp}
use Rattle.wasm_types.specs.declared.instr.CvtOp.TheVariants.{I32WrapI64, I64ExtendI32S, I64ExtendI32U, I32Extend8S, I32Extend16S}
use Rattle.wasm_types.specs.declared.instr.LoadOp.{LoadOp}
use Rattle.wasm_types.specs.declared.instr.LoadOp.TheVariants.{I32Load, I64Load, I32Load8S, I32Load8U, I32Load16S, I32Load16U, I64Load8S, I64Load8U, I64Load16S, I64Load16U, I64Load32S, I64Load32U}
use Rattle.wasm_types.specs.declared.instr.StoreOp.{StoreOp}
use Rattle.wasm_types.specs.declared.instr.StoreOp.TheVariants.{I32Store, I64Store, I32Store8, I32Store16, I64Store8, I64Store16, I64Store32}
use Rattle.wasm_types.specs.declared.instr.Simple.{Simple}
use Rattle.wasm_types.specs.declared.instr.Simple.TheVariants.{Unreachable, Nop, Br, BrIf, Return, Call, CallIndirect, Drop, Select, LocalGet, LocalSet, LocalTee, GlobalGet, GlobalSet, Load, Store, MemorySize, MemoryGrow, I32Const, I64Const, Test, Compare, Unary, Binary, Convert}
use Rattle.wasm_types.specs.declared.module.ExportDesc.{ExportDesc}
use Rattle.wasm_types.specs.declared.module.ExportDesc.TheVariants as export
use Rattle.wasm_types.specs.Syntax.{Instruction, Plain, BrTable, Block, Loop, If, Instructions, Done, Then, Signature, ImportForm, FuncForm, ElemForm, DataForm, ModuleForm}

abbrev pub one : Option ValType → List ValType
one None = []
one (Some k) = k ∷ []

-- What the code of a function stands in.
pub record Context : Type 0 where
  pub locals : List ValType
  pub result : Option ValType
  pub callee : ℕ → Option Signature
  pub typed : ℕ → Option Signature
  pub globals : List GlobalType
  pub memory : Bool
  pub table : Bool

-- How an instruction without a body changes the stack.
pub data Effect : Type 0 where
  Fixed : (takes : List ValType) (gives : Option ValType) → Effect
  Leaves : (takes : List ValType) → Effect
  Drops Selects : Effect

-- [ps] to [rs]: the types of an instruction with such an effect. One that leaves takes anything below its operands, and gives anything.
abbrev pub Types : Effect → List ValType → List ValType → Type 0
Types (Fixed ts g) ps rs = (ps ≡ ts) × (rs ≡ one g)
Types (Leaves ts) ps rs = (under : List ValType) × (ps ≡ ts ++ under)
Types Drops ps rs = (k : ValType) × (ps ≡ k ∷ []) × (rs ≡ [])
Types Selects ps rs = (k : ValType) × (ps ≡ I32 ∷ (k ∷ (k ∷ []))) × (rs ≡ k ∷ [])

-- what an access moves: the type of its value, and how many bytes
abbrev pub loaded : LoadOp → ValType × ℕ
loaded I32Load = (I32, 4)
loaded I64Load = (I64, 8)
loaded I32Load8S = (I32, 1)
loaded I32Load8U = (I32, 1)
loaded I32Load16S = (I32, 2)
loaded I32Load16U = (I32, 2)
loaded I64Load8S = (I64, 1)
loaded I64Load8U = (I64, 1)
loaded I64Load16S = (I64, 2)
loaded I64Load16U = (I64, 2)
loaded I64Load32S = (I64, 4)
loaded I64Load32U = (I64, 4)

abbrev pub stored : StoreOp → ValType × ℕ
stored I32Store = (I32, 4)
stored I64Store = (I64, 8)
stored I32Store8 = (I32, 1)
stored I32Store16 = (I32, 2)
stored I64Store8 = (I64, 1)
stored I64Store16 = (I64, 2)
stored I64Store32 = (I64, 4)

abbrev pub converted : CvtOp → ValType × ValType
converted I32WrapI64 = (I64, I32)
converted I64ExtendI32S = (I32, I64)
converted I64ExtendI32U = (I32, I64)
converted I32Extend8S = (I32, I32)
converted I32Extend16S = (I32, I32)
converted _ = (I64, I64)

abbrev pub set_effect : Bool → ValType → Option Effect
set_effect true k = Some (Fixed (k ∷ []) None)
set_effect false k = None

abbrev pub only : Bool → Effect → Option Effect
only true e = Some e
only false e = None

abbrev pub over : {A : Type 0} → Option A → (A → Effect) → Option Effect
over None f = None
over (Some x) f = Some (f x)

-- The effect of each instruction without a body; None where an index is unknown, a global cannot be written, or an alignment is too large.
-- The outermost label stands last.
abbrev pub effect_of : Context → List (Option ValType) → Simple → Option Effect
effect_of C L Unreachable = Some (Leaves [])
effect_of C L Nop = Some (Fixed [] None)
effect_of C L (Br n) = over (slice_get L n) (λ r. Leaves (one r))
effect_of C L (BrIf n) = over (slice_get L n) (λ r. Fixed (I32 ∷ one r) r)
effect_of C L Return = Some (Leaves (one C.result))
effect_of C L (Call n) = over (C.callee n) (λ t. Fixed (reverse t.params) t.result)
effect_of C L (CallIndirect n) = elim C.table [ false ↦ None | true ↦ over (C.typed n) (λ t. Fixed (I32 ∷ reverse t.params) t.result) ]
effect_of C L Drop = Some Drops
effect_of C L Select = Some Selects
effect_of C L (LocalGet x) = over (slice_get C.locals x) (λ k. Fixed [] (Some k))
effect_of C L (LocalSet x) = over (slice_get C.locals x) (λ k. Fixed (k ∷ []) None)
effect_of C L (LocalTee x) = over (slice_get C.locals x) (λ k. Fixed (k ∷ []) (Some k))
effect_of C L (GlobalGet x) = over (slice_get C.globals x) (λ g. Fixed [] (Some g.value))
effect_of C L (GlobalSet x) = elim (slice_get C.globals x) [ None ↦ None | Some g ↦ set_effect g.mutable g.value ]
effect_of C L (Load op m) = only (C.memory && nat_le (2 ^ m.align) (loaded op).1) (Fixed (I32 ∷ []) (Some (loaded op).0))
effect_of C L (Store op m) = only (C.memory && nat_le (2 ^ m.align) (stored op).1) (Fixed ((stored op).0 ∷ (I32 ∷ [])) None)
effect_of C L MemorySize = only C.memory (Fixed [] (Some I32))
effect_of C L MemoryGrow = only C.memory (Fixed (I32 ∷ []) (Some I32))
effect_of C L (I32Const n) = Some (Fixed [] (Some I32))
effect_of C L (I64Const n) = Some (Fixed [] (Some I64))
effect_of C L (Test k op) = Some (Fixed (k ∷ []) (Some I32))
effect_of C L (Compare k op) = Some (Fixed (k ∷ (k ∷ [])) (Some I32))
effect_of C L (Unary k op) = Some (Fixed (k ∷ []) (Some k))
effect_of C L (Binary k op) = Some (Fixed (k ∷ (k ∷ [])) (Some k))
effect_of C L (Convert op) = Some (Fixed ((converted op).0 ∷ []) (Some (converted op).1))

mutual
  -- Code takes operands of these types to operands of those, inside labels of such types. What lies under an instruction's operands is not touched.
  pub data CodeOk : Context → List (Option ValType) → Instructions → List ValType → List ValType → Type 0 where
    done : {C : Context} {L : List (Option ValType)} {ks : List ValType} → CodeOk C L Done ks ks
    more : {C : Context} {L : List (Option ValType)} {i : Instruction} {is : Instructions} {ks ns : List ValType} (ps rs under : List ValType)
        → InstrOk C L i ps rs → ks ≡ ps ++ under → CodeOk C L is (rs ++ under) ns → CodeOk C L (Then i is) ks ns

  -- [ps] to [rs]
  pub data InstrOk : Context → List (Option ValType) → Instruction → List ValType → List ValType → Type 0 where
    simple : {C : Context} {L : List (Option ValType)} {p : Simple} {ps rs : List ValType} (e : Effect) → effect_of C L p ≡ Some e → Types e ps rs
        → InstrOk C L (Plain p) ps rs
    table : {C : Context} {L : List (Option ValType)} {ns : List ℕ} {n : ℕ} {ps rs : List ValType} (r : Option ValType) → slice_get L n ≡ Some r
        → All (λ k. slice_get L k ≡ Some r) ns → Types (Leaves (I32 ∷ one r)) ps rs → InstrOk C L (BrTable ns n) ps rs
    block : {C : Context} {L : List (Option ValType)} {r : Option ValType} {b : Instructions} {ps rs : List ValType} → CodeOk C (r ∷ L) b [] (one r)
        → Types (Fixed [] r) ps rs → InstrOk C L (Block r b) ps rs
    loop : {C : Context} {L : List (Option ValType)} {r : Option ValType} {b : Instructions} {ps rs : List ValType} → CodeOk C (None ∷ L) b [] (one r)
        → Types (Fixed [] r) ps rs → InstrOk C L (Loop r b) ps rs
    choice : {C : Context} {L : List (Option ValType)} {r : Option ValType} {b c : Instructions} {ps rs : List ValType}
        → CodeOk C (r ∷ L) b [] (one r) → CodeOk C (r ∷ L) c [] (one r) → Types (Fixed (I32 ∷ []) r) ps rs → InstrOk C L (If r b c) ps rs

-- The module level.

-- whether there is one
abbrev pub is_there : {A : Type 0} → List A → Bool
is_there [] = false
is_there (x ∷ xs) = true

-- the types of the functions, imported ones first
abbrev pub function_types : ModuleForm → List ℕ
function_types m = map (λ i. i.ty) m.imports ++ map (λ f. f.ty) m.funcs

abbrev pub typed_in : ModuleForm → ℕ → Option Signature
typed_in m n = slice_get m.types n

abbrev pub callee_in : ModuleForm → ℕ → Option Signature
callee_in m n = elim (slice_get (function_types m) n) [ None ↦ None | Some ty ↦ typed_in m ty ]

abbrev pub context_in : ModuleForm → Signature → List ValType → Context
context_in m t locals = record {
  locals = t.params ++ locals;
  result = t.result;
  callee = callee_in m;
  typed = typed_in m;
  globals = map (λ g. g.ty) m.globals;
  memory = is_there m.memories;
  table = is_there m.tables;
}

-- the function's type is there, and its body gives the result
abbrev pub FuncOk : ModuleForm → FuncForm → Type 0
FuncOk m f = (t : Signature) × (typed_in m f.ty ≡ Some t) × CodeOk (context_in m t f.locals) (t.result ∷ []) f.body [] (one t.result)

-- A constant expression is one constant: globals may be read there only if they are imported, and none are.
abbrev pub constant_of : Instruction → Option ValType
constant_of (Plain (I32Const n)) = Some I32
constant_of (Plain (I64Const n)) = Some I64
constant_of _ = None

abbrev pub constant_type : Instructions → Option ValType
constant_type Done = None
constant_type (Then i Done) = constant_of i
constant_type (Then i (Then j is)) = None

abbrev pub IsConstant : Instructions → ValType → Type 0
IsConstant code k = constant_type code ≡ Some k

-- from so many at first to so many at most, within a bound
abbrev pub GrowsTo : ℕ → ℕ → Option ℕ → Type 0
GrowsTo bound least None = least ≤ bound
GrowsTo bound least (Some most) = (least ≤ most) × (most ≤ bound)

abbrev pub LimitsOk : ℕ → Limits → Type 0
LimitsOk bound l = GrowsTo bound l.min l.max

abbrev pub ImportOk : ModuleForm → ImportForm → Type 0
ImportOk m i = i.ty < length m.types

abbrev pub IsFunction : ModuleForm → ℕ → Type 0
IsFunction m n = n < length (function_types m)

abbrev pub IsTable : ModuleForm → ℕ → Type 0
IsTable m n = n < length m.tables

abbrev pub IsMemory : ModuleForm → ℕ → Type 0
IsMemory m n = n < length m.memories

abbrev pub DescOk : ModuleForm → ExportDesc → Type 0
DescOk m (export.Func n) = IsFunction m n
DescOk m (export.Table n) = IsTable m n
DescOk m (export.Memory n) = IsMemory m n
DescOk m (export.Global n) = n < length m.globals

-- none is among those before it
abbrev pub AreDistinct : List (List ℕ) → Type 0
AreDistinct names = (i : ℕ) → i < length names → Contains (take i names) (get_or names i []) → ⊥

abbrev pub StartOk : ModuleForm → Option ℕ → Type 0
StartOk m None = Unit {0}
StartOk m (Some n) = callee_in m n ≡ Some (record { params = []; result = None })

pub record ElemOk (m : ModuleForm) (e : ElemForm) : Type 0 where
  pub of_table : IsTable m e.table
  pub offset : IsConstant e.offset I32
  pub functions : All (IsFunction m) e.init

pub record DataOk (m : ModuleForm) (d : DataForm) : Type 0 where
  pub of_memory : IsMemory m d.memory
  pub offset : IsConstant d.offset I32

-- Everything but the bodies of functions. There is at most one table, and at most one memory.
pub record LevelOk (m : ModuleForm) : Type 0 where
  pub imports_ok : All (ImportOk m) m.imports
  pub tables_ok : All (LimitsOk (2 ^ 32)) m.tables
  pub one_table : length m.tables ≤ 1
  pub memories_ok : All (LimitsOk 65536) m.memories
  pub one_memory : length m.memories ≤ 1
  pub globals_ok : All (λ g. IsConstant g.init g.ty.value) m.globals
  pub exports_ok : All (λ e. DescOk m e.desc) m.exports
  pub names_ok : AreDistinct (map (λ e. e.name) m.exports)
  pub start_ok : StartOk m m.start
  pub elems_ok : All (ElemOk m) m.elems
  pub data_ok : All (DataOk m) m.data_segments

-- A module that the rules type.
pub record ModuleOk (m : ModuleForm) : Type 0 where
  pub level : LevelOk m
  pub funcs_ok : All (FuncOk m) m.funcs
