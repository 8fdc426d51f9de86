-- Whether a module's code is typed, computed for code of the kind that is emitted: blocks give nothing, and after a branch nothing is on the stack.
use Rattle.std.specs.Prelude.{ℕ, zero, suc, nat_lt, Bool, true, false, ◌&&◌, if◌then◌else◌, List, [], ◌∷◌, ◌++◌, map, reverse, slice_get, Option, Some, None}
use Rattle.wasm_types.specs.Syntax.{Instruction, Plain, Block, Loop, If, Instructions, Done, Then, Signature, ImportForm, FuncForm, GlobalForm, ModuleForm}
use Rattle.wasm_types.specs.declared.types.ValType.{ValType}
use Rattle.wasm_types.specs.declared.types.ValType.TheVariants.{I32, I64}
use Rattle.wasm_types.specs.declared.instr.Simple.{Simple}
use Rattle.wasm_types.specs.declared.instr.Simple.TheVariants.{Nop, Br, BrIf, Call, Drop, LocalGet, LocalSet, LocalTee, GlobalGet, GlobalSet, I32Const, I64Const, Test, Compare, Binary, Convert}
use Rattle.wasm_types.specs.declared.instr.CvtOp.{CvtOp}
use Rattle.wasm_types.specs.declared.instr.CvtOp.TheVariants.{I32WrapI64, I64ExtendI32S, I64ExtendI32U, I32Extend8S, I32Extend16S, I64Extend8S, I64Extend16S, I64Extend32S}

abbrev Stack : Type 0
Stack = List ValType

abbrev same : ValType → ValType → Bool
same I32 I32 = true
same I64 I64 = true
same _ _ = false

-- a type is taken from the stack
abbrev less : ValType → Stack → Option Stack
less t [] = None
less t (s ∷ ss) = if same t s then Some ss else None

abbrev then_stack : Option Stack → (Stack → Option Stack) → Option Stack
then_stack None f = None
then_stack (Some s) f = f s

abbrev less_all : List ValType → Stack → Option Stack
less_all [] ss = Some ss
less_all (t ∷ ts) ss = then_stack (less t ss) (less_all ts)

abbrev more : Option ValType → Stack → Option Stack
more None ss = None
more (Some t) ss = Some (t ∷ ss)

abbrev with_result : Option ValType → Stack → Option Stack
with_result None ss = Some ss
with_result (Some t) ss = Some (t ∷ ss)

abbrev changed_by : Option Signature → Stack → Option Stack
changed_by None ss = None
changed_by (Some s) ss = then_stack (less_all (reverse s.params) ss) (with_result s.result)

abbrev set_to : Option ValType → Stack → Option Stack
set_to None ss = None
set_to (Some t) ss = less t ss

abbrev from_type : CvtOp → ValType
from_type I32WrapI64 = I64
from_type I64ExtendI32S = I32
from_type I64ExtendI32U = I32
from_type I32Extend8S = I32
from_type I32Extend16S = I32
from_type I64Extend8S = I64
from_type I64Extend16S = I64
from_type I64Extend32S = I64

abbrev to_type : CvtOp → ValType
to_type I32WrapI64 = I32
to_type I64ExtendI32S = I64
to_type I64ExtendI32U = I64
to_type I32Extend8S = I32
to_type I32Extend16S = I32
to_type I64Extend8S = I64
to_type I64Extend16S = I64
to_type I64Extend32S = I64

abbrev any_less : Stack → Option Stack
any_less [] = None
any_less (t ∷ ts) = Some ts

abbrev is_empty : Option Stack → Bool
is_empty (Some []) = true
is_empty _ = false

module _ (locals globals : List ValType) (callees : List Signature) where
  abbrev simple_typed : ℕ → Simple → Stack → Option Stack
  simple_typed labels Nop ss = Some ss
  simple_typed labels (Br d) ss = if nat_lt d labels then Some [] else None
  simple_typed labels (BrIf d) ss = if nat_lt d labels then less I32 ss else None
  simple_typed labels (Call n) ss = changed_by (slice_get callees n) ss
  simple_typed labels Drop ss = any_less ss
  simple_typed labels (LocalGet x) ss = more (slice_get locals x) ss
  simple_typed labels (LocalSet x) ss = set_to (slice_get locals x) ss
  simple_typed labels (LocalTee x) ss = then_stack (set_to (slice_get locals x) ss) (more (slice_get locals x))
  simple_typed labels (GlobalGet x) ss = more (slice_get globals x) ss
  simple_typed labels (GlobalSet x) ss = set_to (slice_get globals x) ss
  simple_typed labels (I32Const n) ss = Some (I32 ∷ ss)
  simple_typed labels (I64Const n) ss = Some (I64 ∷ ss)
  simple_typed labels (Test t op) ss = then_stack (less t ss) (λ rest. Some (I32 ∷ rest))
  simple_typed labels (Compare t op) ss = then_stack (less_all (t ∷ (t ∷ [])) ss) (λ rest. Some (I32 ∷ rest))
  simple_typed labels (Binary t op) ss = then_stack (less_all (t ∷ (t ∷ [])) ss) (λ rest. Some (t ∷ rest))
  simple_typed labels (Convert op) ss = then_stack (less (from_type op) ss) (λ rest. Some (to_type op ∷ rest))
  simple_typed labels p ss = None

  abbrev mutual
    code_typed : ℕ → Instructions → Stack → Option Stack
    code_typed labels Done ss = Some ss
    code_typed labels (Then i k) ss = then_stack (one_typed labels i ss) (code_typed labels k)

    one_typed : ℕ → Instruction → Stack → Option Stack
    one_typed labels (Plain p) ss = simple_typed labels p ss
    one_typed labels (Block None a) ss = if is_empty (code_typed (suc labels) a []) then Some ss else None
    one_typed labels (Loop None a) ss = if is_empty (code_typed (suc labels) a []) then Some ss else None
    one_typed labels (If None a b) ss = if is_empty (code_typed (suc labels) a []) && is_empty (code_typed (suc labels) b []) then less I32 ss else None
    one_typed labels _ ss = None

-- what lies there is the answer, and nothing else
abbrev is_answer : Option ValType → Option Stack → Bool
is_answer (Some t) (Some (x ∷ [])) = same t x
is_answer _ _ = false

abbrev types_from : List Signature → List ℕ → List Signature
types_from types [] = []
types_from types (n ∷ ns) = elim (slice_get types n) [ Some t ↦ t ∷ types_from types ns | None ↦ types_from types ns ]

abbrev callees_of : ModuleForm → List Signature
callees_of m = types_from m.types (map (λ (i : ImportForm). i.ty) m.imports ++ map (λ (f : FuncForm). f.ty) m.funcs)

abbrev parameters_of : List Signature → ℕ → List ValType
parameters_of types n = elim (slice_get types n) [ Some t ↦ t.params | None ↦ [] ]

abbrev answer_of : List Signature → ℕ → Option ValType
answer_of types n = elim (slice_get types n) [ Some t ↦ t.result | None ↦ None ]

abbrev all_typed : ModuleForm → List FuncForm → Bool
all_typed m [] = true
all_typed m (f ∷ fs) =
    is_answer (answer_of m.types f.ty) (code_typed (parameters_of m.types f.ty ++ f.locals) (map (λ (g : GlobalForm). g.ty.value) m.globals) (callees_of m) zero f.body [])
    && all_typed m fs

abbrev pub is_typed : ModuleForm → Bool
is_typed m = all_typed m m.funcs
