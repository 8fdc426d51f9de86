-- The specification's own reductions (Core 1.0, sections 4.2.12, 4.2.13 and 4.4): instruction sequences in which labels and frames are
-- nested, and the rules that rewrite them, each under the rule in the specification's notation. Frames.antt and Machines.antt read the same
-- configurations from the innermost instruction outwards; a law says that their steps are reductions of these rules.
--
-- A reduction counts one step or none. It counts none where it only sets off another: a call and the entry of its function up to the block
-- of its body, a branch that is taken and a branch back to a loop, the first half of `local.tee`, leaving a frame whose block is left, and a
-- trap on its way out. Constants are values and take no reduction.
use Rattle.std.specs.Prelude.{ℕ, zero, suc, ◌≡◌, ◌≢◌, ◌+◌, ◌-◌, ◌^◌, ◌<◌, ◌≤◌, List, [], ◌∷◌, ◌++◌, length, map, reverse, Option, Some, None, Ok, Err, true, false, slice_get, slice_set, ⊤}
use Rattle.wasm_types.specs.declared.types.ValType.{ValType}
use Rattle.wasm_types.specs.declared.instr.Simple.{Simple}
use Rattle.wasm_types.specs.declared.instr.Simple.TheVariants.{Unreachable, Nop, Br, BrIf, Return, Call, CallIndirect, Drop, Select, LocalGet, LocalSet, LocalTee, GlobalGet, GlobalSet, Load, Store, MemorySize, MemoryGrow, I32Const, I64Const, Test, Compare, Unary, Binary, Convert}
use Rattle.wasm_types.specs.declared.instr.IBinOp.{IBinOp}
use Rattle.wasm_types.specs.declared.instr.IUnOp.{IUnOp}
use Rattle.wasm_types.specs.declared.instr.IRelOp.{IRelOp}
use Rattle.wasm_types.specs.declared.instr.ITestOp.{ITestOp}
use Rattle.wasm_types.specs.declared.instr.CvtOp.{CvtOp}
use Rattle.wasm_types.specs.declared.instr.LoadOp.{LoadOp}
use Rattle.wasm_types.specs.declared.instr.StoreOp.{StoreOp}
use Rattle.wasm_types.specs.declared.instr.MemArg.{MemArg}
use Rattle.wasm_types.specs.Syntax.{Instruction, Plain, BrTable, Block, Loop, If, Instructions, Done, Then, Signature, ImportForm, FuncForm}
use Rattle.wasm_types.specs.Typing.{typed_in, callee_in, stored}
use Rattle.wasm_store.specs.declared.word.Word.{Word}
use Rattle.wasm_store.specs.declared.word.Word.TheVariants.{I32, I64}
use Rattle.wasm_store.specs.declared.trap.TrapKind.{TrapKind}
use Rattle.wasm_store.specs.declared.trap.TrapKind.TheVariants as trap
use Rattle.wasm_store.specs.Memories.{MemoryForm, load, store, grown, pages_of}
use Rattle.wasm_store.specs.Tables.{element}
use Rattle.wasm_store.specs.Words.{type_of, zero_of, unary_of, binary_of, test_of, compare_of, converted}
use Rattle.wasm_model.specs.declared.host.HostAnswer.TheVariants as answer
use Rattle.wasm_model.specs.declared.ends.End.{End}
use Rattle.wasm_model.specs.declared.ends.End.TheVariants as ends
use Rattle.wasm_model.specs.Hosts.{Meaning}
use Rattle.wasm_model.specs.Frames.{LabelForm, FrameForm}
use Rattle.wasm_model.specs.Machines.{Conf, CallerForm, ProgramForm, agree, most_frames}
use Rattle.wasm_model.specs.declared.ends.MachineEnd.{MachineEnd}
use Rattle.wasm_model.specs.declared.ends.RunEnd.{RunEnd}
use Rattle.wasm_model.specs.declared.ends.RunEnd.TheVariants.{Ended, OutOfSteps, NoMemory}
use Rattle.wasm_model.specs.Runs.{IsWithin, Ran, told_run}

infixr 5 ◌⨾◌
infixr 5 ◌⧺◌
-- Administrative instructions. `Const` is a value. `Looped` is `loop .. end`, whose result type no rule reads and which is left out here;
-- `LabelOf` is `label_n{instr*} instr* end`, `FrameOf` is `frame_n{F} instr* end`, where F is the function's locals: the module is one for all.
mutual
  pub data Admin : Type 0 where
    Const : Word → Admin
    Does : Instruction → Admin
    Looped : Instructions → Admin
    Invoke : (function : ℕ) → Admin
    LabelOf : (arity : ℕ) (continuation inside : Sequence) → Admin
    FrameOf : (arity : ℕ) (locals : List Word) (inside : Sequence) → Admin
    Trapped : TrapKind → Admin

  -- instr*
  pub data Sequence : Type 0 where
    ε : Sequence
    ◌⨾◌ : Admin → Sequence → Sequence

abbrev pub ◌⧺◌ : Sequence → Sequence → Sequence
ε ⧺ es = es
(d ⨾ ds) ⧺ es = d ⨾ (ds ⧺ es)

abbrev pub op : Simple → Admin
op p = Does (Plain p)

-- how many values a result is
abbrev pub arity : Option ValType → ℕ
arity None = 0
arity (Some t) = 1

abbrev pub in_sequence : Instruction → Admin
in_sequence (Plain (I32Const n)) = Const (I32 n)
in_sequence (Plain (I64Const n)) = Const (I64 n)
in_sequence (Loop t b) = Looped b
in_sequence i = Does i

abbrev pub sequence : Instructions → Sequence
sequence Done = ε
sequence (Then i is) = in_sequence i ⨾ sequence is

-- val* instr*: the values are given topmost first
abbrev pub on : List Word → Sequence → Sequence
on [] es = es
on (v ∷ vs) es = on vs (Const v ⨾ es)

-- E ::= [_] | val* E instr* | label_n{instr*} E end
pub data Evaluation : Type 0 where
  Hole : Evaluation
  Among : (before : List Word) → Evaluation → (behind : Sequence) → Evaluation
  Inside : (arity : ℕ) (continuation : Sequence) → Evaluation → Evaluation

abbrev pub filled : Evaluation → Sequence → Sequence
filled Hole es = es
filled (Among vs E is) es = on vs (filled E es ⧺ is)
filled (Inside n c E) es = LabelOf n c (filled E es) ⨾ ε

-- B^0 ::= val* [_] instr* and B^(k+1) ::= val* label_n{instr*} B^k end instr*
pub data Blocks : ℕ → Type 0 where
  Here : (before : List Word) (behind : Sequence) → Blocks zero
  Within : {k : ℕ} (before : List Word) (arity : ℕ) (continuation : Sequence) → Blocks k → (behind : Sequence) → Blocks (suc k)

abbrev pub blocks : {k : ℕ} → Blocks k → Sequence → Sequence
blocks (Here vs is) es = on vs (es ⧺ is)
blocks (Within vs n c B is) es = on vs (LabelOf n c (blocks B es) ⨾ is)

-- A branch back to a loop sets off the loop.
abbrev pub steps_of : (continuation : Sequence) → ℕ
steps_of ε = 1
steps_of (e ⨾ es) = 0

-- Rules that neither read nor change store and frame: instr* ↪ instr'*, which count so many steps.
pub data Rewrites : ℕ → Sequence → Sequence → Type 0 where
  -- (t.const c1) t.unop ↪ (t.const c)
  unary : {t : ValType} {f : IUnOp} {a c : Word} → unary_of t f a ≡ Some c → Rewrites 1 (Const a ⨾ op (Unary t f) ⨾ ε) (Const c ⨾ ε)
  -- (t.const c1) (t.const c2) t.binop ↪ (t.const c), or trap
  binary : {t : ValType} {f : IBinOp} {a b c : Word} →
      binary_of t f a b ≡ Some (Ok c) → Rewrites 1 (Const a ⨾ Const b ⨾ op (Binary t f) ⨾ ε) (Const c ⨾ ε)
  binary_traps : {t : ValType} {f : IBinOp} {a b : Word} {k : TrapKind} →
      binary_of t f a b ≡ Some (Err k) → Rewrites 1 (Const a ⨾ Const b ⨾ op (Binary t f) ⨾ ε) (Trapped k ⨾ ε)
  -- (t.const c1) t.testop ↪ (i32.const c)
  test : {t : ValType} {f : ITestOp} {a c : Word} → test_of t f a ≡ Some c → Rewrites 1 (Const a ⨾ op (Test t f) ⨾ ε) (Const c ⨾ ε)
  -- (t.const c1) (t.const c2) t.relop ↪ (i32.const c)
  compare : {t : ValType} {f : IRelOp} {a b c : Word} →
      compare_of t f a b ≡ Some c → Rewrites 1 (Const a ⨾ Const b ⨾ op (Compare t f) ⨾ ε) (Const c ⨾ ε)
  -- (t1.const c1) t2.cvtop_t1 ↪ (t2.const c2)
  convert : {f : CvtOp} {a c : Word} → converted f a ≡ Some c → Rewrites 1 (Const a ⨾ op (Convert f) ⨾ ε) (Const c ⨾ ε)
  -- val drop ↪ ε
  drop : {a : Word} → Rewrites 1 (Const a ⨾ op Drop ⨾ ε) ε
  -- val1 val2 (i32.const c) select ↪ val1 where c ≠ 0, val2 where c = 0
  select_first : {a b : Word} {c : ℕ} → c ≢ 0 → Rewrites 1 (Const a ⨾ Const b ⨾ Const (I32 c) ⨾ op Select ⨾ ε) (Const a ⨾ ε)
  select_second : {a b : Word} {c : ℕ} → c ≡ 0 → Rewrites 1 (Const a ⨾ Const b ⨾ Const (I32 c) ⨾ op Select ⨾ ε) (Const b ⨾ ε)
  -- val (local.tee x) ↪ val val (local.set x)
  tee : {a : Word} {x : ℕ} → Rewrites 0 (Const a ⨾ op (LocalTee x) ⨾ ε) (Const a ⨾ Const a ⨾ op (LocalSet x) ⨾ ε)
  -- nop ↪ ε
  nop : Rewrites 1 (op Nop ⨾ ε) ε
  -- unreachable ↪ trap
  unreachable : Rewrites 1 (op Unreachable ⨾ ε) (Trapped trap.Unreachable ⨾ ε)
  -- block [t^n] instr* end ↪ label_n{ε} instr* end
  block : {t : Option ValType} {b : Instructions} → Rewrites 1 (Does (Block t b) ⨾ ε) (LabelOf (arity t) ε (sequence b) ⨾ ε)
  -- loop [t^n] instr* end ↪ label_0{loop [t^n] instr* end} instr* end
  loop : {b : Instructions} → Rewrites 1 (Looped b ⨾ ε) (LabelOf 0 (Looped b ⨾ ε) (sequence b) ⨾ ε)
  -- (i32.const c) if [t^n] instr1* else instr2* end ↪ label_n{ε} instr1* end where c ≠ 0, label_n{ε} instr2* end where c = 0
  if_first : {t : Option ValType} {b d : Instructions} {c : ℕ} →
      c ≢ 0 → Rewrites 1 (Const (I32 c) ⨾ Does (If t b d) ⨾ ε) (LabelOf (arity t) ε (sequence b) ⨾ ε)
  if_second : {t : Option ValType} {b d : Instructions} {c : ℕ} →
      c ≡ 0 → Rewrites 1 (Const (I32 c) ⨾ Does (If t b d) ⨾ ε) (LabelOf (arity t) ε (sequence d) ⨾ ε)
  -- label_n{instr*} val* end ↪ val*
  label_ends : {n : ℕ} {c : Sequence} (vs : List Word) → Rewrites 1 (LabelOf n c (on vs ε) ⨾ ε) (on vs ε)
  -- label_n{instr*} B^l[val^n (br l)] end ↪ val^n instr*
  branch : {n l : ℕ} {c : Sequence} (B : Blocks l) (vs : List Word) →
      length vs ≡ n → Rewrites (steps_of c) (LabelOf n c (blocks B (on vs (op (Br l) ⨾ ε))) ⨾ ε) (on vs c)
  -- (i32.const c) (br_if l) ↪ (br l) where c ≠ 0, ε where c = 0
  br_if : {l c : ℕ} → c ≢ 0 → Rewrites 0 (Const (I32 c) ⨾ op (BrIf l) ⨾ ε) (op (Br l) ⨾ ε)
  br_if_not : {l c : ℕ} → c ≡ 0 → Rewrites 1 (Const (I32 c) ⨾ op (BrIf l) ⨾ ε) ε
  -- (i32.const i) (br_table l* l_N) ↪ (br l_i) where l* has an i-th, (br l_N) where it has none
  br_table : {ls : List ℕ} {d l i : ℕ} → slice_get ls i ≡ Some l → Rewrites 0 (Const (I32 i) ⨾ Does (BrTable ls d) ⨾ ε) (op (Br l) ⨾ ε)
  br_table_past : {ls : List ℕ} {d i : ℕ} → slice_get ls i ≡ None → Rewrites 0 (Const (I32 i) ⨾ Does (BrTable ls d) ⨾ ε) (op (Br d) ⨾ ε)
  -- frame_n{F} B^k[val^n return] end ↪ val^n
  return : {n k : ℕ} {F : List Word} (B : Blocks k) (vs : List Word) →
      length vs ≡ n → Rewrites 1 (FrameOf n F (blocks B (on vs (op Return ⨾ ε))) ⨾ ε) (on vs ε)
  -- frame_n{F} val^n end ↪ val^n
  frame_ends : {n : ℕ} {F : List Word} (vs : List Word) → length vs ≡ n → Rewrites 0 (FrameOf n F (on vs ε) ⨾ ε) (on vs ε)
  -- E[trap] ↪ trap where E ≠ [_]
  trap_climbs : {k : TrapKind} (E : Evaluation) → filled E (Trapped k ⨾ ε) ≢ Trapped k ⨾ ε → Rewrites 0 (filled E (Trapped k ⨾ ε)) (Trapped k ⨾ ε)
  -- frame_n{F} trap end ↪ trap
  trap_leaves : {n : ℕ} {F : List Word} {k : TrapKind} → Rewrites 0 (FrameOf n F (Trapped k ⨾ ε) ⨾ ε) (Trapped k ⨾ ε)

-- What the functions of the instance share, the host, and the output so far.
pub record StoreForm (H O : Type 0) : Type 0 where
  pub memory : MemoryForm
  pub table : List (Option ℕ)
  pub globals : List Word
  pub host : H
  pub output : List O

-- the host's part of an imported function's call
abbrev pub after_host : {H O : Type 0} → StoreForm H O → H → MemoryForm → List O → StoreForm H O
after_host S h mem out = record S { memory = mem; host = h; output = S.output ++ out }

abbrev pub results : Option Word → List Word
results None = []
results (Some w) = w ∷ []

-- S; F; instr* ↪ S'; F'; instr'*, which counts so many steps. A function's address is its index in the module; the host has its own number
-- for an import.
pub data Reduces {H O : Type 0} (M : Meaning H O) (m : ProgramForm) : ℕ → StoreForm H O → List Word → Sequence → StoreForm H O → List Word → Sequence
    → Type 0 where
  -- a rule instr* ↪ instr'*, in any store and frame
  rule : {n : ℕ} {S : StoreForm H O} {F : List Word} {es es' : Sequence} → Rewrites n es es' → Reduces M m n S F es S F es'
  -- S; F; E[instr*] ↪ S'; F'; E[instr'*] where S; F; instr* ↪ S'; F'; instr'*
  context : {n : ℕ} {S S' : StoreForm H O} {F F' : List Word} {es es' : Sequence} (E : Evaluation) →
      Reduces M m n S F es S' F' es' → Reduces M m n S F (filled E es) S' F' (filled E es')
  -- S; F; frame_n{F'} instr* end ↪ S'; F; frame_n{F''} instr'* end where S; F'; instr* ↪ S'; F''; instr'*
  frame : {n a : ℕ} {S S' : StoreForm H O} {F F' F'' : List Word} {es es' : Sequence} →
      Reduces M m n S F' es S' F'' es' → Reduces M m n S F (FrameOf a F' es ⨾ ε) S' F (FrameOf a F'' es' ⨾ ε)
  -- F; (local.get x) ↪ F; val where F.locals[x] = val
  local_get : {S : StoreForm H O} {F : List Word} {x : ℕ} {v : Word} →
      slice_get F x ≡ Some v → Reduces M m 1 S F (op (LocalGet x) ⨾ ε) S F (Const v ⨾ ε)
  -- F; val (local.set x) ↪ F'; ε where F' = F with locals[x] = val
  local_set : {S : StoreForm H O} {F : List Word} {x : ℕ} {v : Word} →
      x < length F → Reduces M m 1 S F (Const v ⨾ op (LocalSet x) ⨾ ε) S (slice_set F x v) ε
  -- S; F; (global.get x) ↪ S; F; val
  global_get : {S : StoreForm H O} {F : List Word} {x : ℕ} {v : Word} →
      slice_get S.globals x ≡ Some v → Reduces M m 1 S F (op (GlobalGet x) ⨾ ε) S F (Const v ⨾ ε)
  -- S; F; val (global.set x) ↪ S'; F; ε
  global_set : {S : StoreForm H O} {F : List Word} {x : ℕ} {v : Word} →
      x < length S.globals → Reduces M m 1 S F (Const v ⨾ op (GlobalSet x) ⨾ ε) (record S { globals = slice_set S.globals x v }) F ε
  -- S; F; (i32.const i) (t.load memarg) ↪ S; F; (t.const c), or trap
  load_value : {S : StoreForm H O} {F : List Word} {f : LoadOp} {at : MemArg} {i : ℕ} {v : Word} →
      load f S.memory.bytes (i + at.offset) ≡ Ok v → Reduces M m 1 S F (Const (I32 i) ⨾ op (Load f at) ⨾ ε) S F (Const v ⨾ ε)
  load_traps : {S : StoreForm H O} {F : List Word} {f : LoadOp} {at : MemArg} {i : ℕ} {k : TrapKind} →
      load f S.memory.bytes (i + at.offset) ≡ Err k → Reduces M m 1 S F (Const (I32 i) ⨾ op (Load f at) ⨾ ε) S F (Trapped k ⨾ ε)
  -- S; F; (i32.const i) (t.const c) (t.store memarg) ↪ S'; F; ε, or trap
  store_value : {S : StoreForm H O} {F : List Word} {f : StoreOp} {at : MemArg} {i : ℕ} {v : Word} {u : ⊤} {mem : MemoryForm} →
      type_of v ≡ (stored f).0 → store f S.memory (i + at.offset) v ≡ (Ok u, mem) →
      Reduces M m 1 S F (Const (I32 i) ⨾ Const v ⨾ op (Store f at) ⨾ ε) (record S { memory = mem }) F ε
  store_traps : {S : StoreForm H O} {F : List Word} {f : StoreOp} {at : MemArg} {i : ℕ} {v : Word} {k : TrapKind} {mem : MemoryForm} →
      type_of v ≡ (stored f).0 → store f S.memory (i + at.offset) v ≡ (Err k, mem) →
      Reduces M m 1 S F (Const (I32 i) ⨾ Const v ⨾ op (Store f at) ⨾ ε) S F (Trapped k ⨾ ε)
  -- S; F; memory.size ↪ S; F; (i32.const sz)
  memory_size : {S : StoreForm H O} {F : List Word} → Reduces M m 1 S F (op MemorySize ⨾ ε) S F (Const (I32 (pages_of S.memory)) ⨾ ε)
  -- S; F; (i32.const n) memory.grow ↪ S'; F; (i32.const sz), or S; F; (i32.const -1)
  memory_grow : {S : StoreForm H O} {F : List Word} {n pages : ℕ} {mem : MemoryForm} → grown S.memory n ≡ (Some pages, mem) →
      Reduces M m 1 S F (Const (I32 n) ⨾ op MemoryGrow ⨾ ε) (record S { memory = mem }) F (Const (I32 pages) ⨾ ε)
  memory_grow_fails : {S : StoreForm H O} {F : List Word} {n : ℕ} {mem : MemoryForm} →
      grown S.memory n ≡ (None, mem) → Reduces M m 1 S F (Const (I32 n) ⨾ op MemoryGrow ⨾ ε) S F (Const (I32 (2 ^ 32 - 1)) ⨾ ε)
  -- F; (call x) ↪ F; (invoke F.module.funcaddrs[x])
  call : {S : StoreForm H O} {F : List Word} {x : ℕ} → Reduces M m 0 S F (op (Call x) ⨾ ε) S F (Invoke x ⨾ ε)
  -- S; F; (i32.const i) (call_indirect x) ↪ S; F; (invoke a) where the table's i-th element is a, whose type is F.module.types[x]; else trap
  call_indirect : {S : StoreForm H O} {F : List Word} {x i a : ℕ} →
      element (slice_get S.table i) ≡ Ok a → agree (typed_in m.whole x) (callee_in m.whole a) ≡ true →
      Reduces M m 0 S F (Const (I32 i) ⨾ op (CallIndirect x) ⨾ ε) S F (Invoke a ⨾ ε)
  no_element : {S : StoreForm H O} {F : List Word} {x i : ℕ} {k : TrapKind} →
      element (slice_get S.table i) ≡ Err k → Reduces M m 1 S F (Const (I32 i) ⨾ op (CallIndirect x) ⨾ ε) S F (Trapped k ⨾ ε)
  other_type : {S : StoreForm H O} {F : List Word} {x i a : ℕ} →
      element (slice_get S.table i) ≡ Ok a → agree (typed_in m.whole x) (callee_in m.whole a) ≡ false →
      Reduces M m 1 S F (Const (I32 i) ⨾ op (CallIndirect x) ⨾ ε) S F (Trapped trap.WrongType ⨾ ε)
  -- S; val^n (invoke a) ↪ S; frame_m{F} (block [t2^m] instr* end) end where S.funcs[a] is a function [t1^n] → [t2^m] of the module with
  -- this body, and F.locals = val^n (t.const 0)*
  invoke : {S : StoreForm H O} {F : List Word} (a : ℕ) (f : FuncForm) (t : Signature) (vs : List Word) →
      slice_get m.whole.imports a ≡ None → slice_get m.whole.funcs (a - length m.whole.imports) ≡ Some f →
      typed_in m.whole f.ty ≡ Some t → length vs ≡ length t.params →
      Reduces M m 0 S F (on vs (Invoke a ⨾ ε)) S F (FrameOf (arity t.result) (reverse vs ++ map zero_of f.locals) (Does (Block t.result f.body) ⨾ ε) ⨾ ε)
  -- S; val^n (invoke a) ↪ S'; result where S.funcs[a] is a function [t1^n] → [t2^m] of the host, which may answer so
  invoke_host : {S : StoreForm H O} {F : List Word} (a i : ℕ) (x : ImportForm) (t : Signature) (w : Option Word) (h : H) (mem : MemoryForm)
      (out : List O) (vs : List Word) →
      slice_get m.whole.imports a ≡ Some x → slice_get m.numbers a ≡ Some i → typed_in m.whole x.ty ≡ Some t → length vs ≡ length t.params →
      M S.host i (reverse vs) S.memory (answer.Done w) h mem out →
      Reduces M m 1 S F (on vs (Invoke a ⨾ ε)) (after_host S h mem out) F (on (results w) ε)
  invoke_host_traps : {S : StoreForm H O} {F : List Word} (a i : ℕ) (x : ImportForm) (t : Signature) (k : TrapKind) (h : H) (mem : MemoryForm)
      (out : List O) (vs : List Word) →
      slice_get m.whole.imports a ≡ Some x → slice_get m.numbers a ≡ Some i → typed_in m.whole x.ty ≡ Some t → length vs ≡ length t.params →
      M S.host i (reverse vs) S.memory (answer.Trap k) h mem out →
      Reduces M m 1 S F (on vs (Invoke a ⨾ ε)) (after_host S h mem out) F (Trapped k ⨾ ε)

-- Reductions one after the other, which count so many steps in all.
pub data Chain {H O : Type 0} (M : Meaning H O) (m : ProgramForm) : ℕ → StoreForm H O → List Word → Sequence → StoreForm H O → List Word → Sequence
    → Type 0 where
  none : {S : StoreForm H O} {F : List Word} {es : Sequence} → Chain M m 0 S F es S F es
  more : {n : ℕ} {S S1 S2 : StoreForm H O} {F F1 F2 : List Word} {es es1 es2 : Sequence} (i k : ℕ) →
      n ≡ i + k → Reduces M m i S F es S1 F1 es1 → Chain M m k S1 F1 es1 S2 F2 es2 → Chain M m n S F es S2 F2 es2

-- The specification's form of a configuration.

abbrev pub continuation : Option Instructions → Sequence
continuation None = ε
continuation (Some b) = Looped b ⨾ ε

-- a sequence inside labels, the innermost first
abbrev pub in_labels : List LabelForm → Sequence → Sequence
in_labels [] es = es
in_labels (l ∷ ls) es = in_labels ls (on l.under (LabelOf (arity l.gives) (continuation l.again) es ⨾ sequence l.rest))

-- a sequence in the place of a frame that is reduced next: behind its operands and before its code
abbrev pub in_place : FrameForm → Sequence → Sequence
in_place f es = in_labels f.labels (on f.values (es ⧺ sequence f.code))

-- a function's body is a block in a frame with these locals
abbrev pub in_body : Option ValType → List Word → Sequence → Sequence
in_body r F es = FrameOf (arity r) F (LabelOf (arity r) ε es ⨾ ε) ⨾ ε

-- What is in the innermost of all frames, with these locals, inside those that wait. The first frame is no function's: in it stands the run's own
-- sequence, in which the start function and `main` are called.
abbrev pub in_frames : Option ValType → List Word → List CallerForm → Sequence → Sequence
in_frames r F [] es = es
in_frames r F (w ∷ ws) es = in_frames w.result w.frame.locals ws (in_place w.frame (in_body r F es))

abbrev pub nested : Conf → Sequence
nested c = in_frames c.result c.frame.locals c.callers (in_place c.frame ε)

abbrev pub store_of : {H O : Type 0} → Conf → H → List O → StoreForm H O
store_of c h out = record { memory = c.memory; table = c.table; globals = c.globals; host = h; output = out }

-- From one configuration, with this host and output, to another: reductions that count so many steps.
abbrev pub IsReduced : {H O : Type 0} → Meaning H O → ProgramForm → ℕ → Conf → H → List O → Conf → H → List O → Type 0
IsReduced M m n c h out c' h' out' = Chain M m n (store_of c h out) [] (nested c) (store_of c' h' out') [] (nested c')

-- in the innermost frame the call of a function of the module stands next, with as many frames open besides the first as there may be
abbrev pub CallsDeep : ProgramForm → Sequence → Type 0
CallsDeep m es = (callers : List CallerForm) × (r : Option ValType) × (f : FrameForm) × (a : ℕ) × (g : FuncForm) × (most_frames ≤ length callers)
    × (slice_get m.whole.imports a ≡ None) × (slice_get m.whole.funcs (a - length m.whole.imports) ≡ Some g)
    × (es ≡ in_frames r f.locals callers (in_place f (Invoke a ⨾ ε)))

-- A run that ends after so many steps. Where it returns, reductions that count these lead to the result. Where it traps, reductions that count
-- one more lead to the trap. Where the machine is exhausted they lead to where a call stands next with as many frames open as there may be, a
-- limit that the specification does not have. No run is stuck.
abbrev pub EndsIn : {H O : Type 0} → Meaning H O → ProgramForm → ℕ → Conf → H → List O → End → H → List O → Type 0
EndsIn {H} {O} M m n c h out (ends.Returned w) h' out' = (S : StoreForm H O) × (S.host ≡ h') × (S.output ≡ out')
    × Chain M m n (store_of c h out) [] (nested c) S [] (on (results w) ε)
EndsIn {H} {O} M m n c h out (ends.Trapped k) h' out' = (S : StoreForm H O) × (S.host ≡ h') × (S.output ≡ out')
    × Chain M m (suc n) (store_of c h out) [] (nested c) S [] (Trapped k ⨾ ε)
EndsIn {H} {O} M m n c h out ends.Exhausted h' out' = (S : StoreForm H O) × (S.host ≡ h') × (S.output ≡ out') × (es : Sequence) × CallsDeep m es
    × Chain M m n (store_of c h out) [] (nested c) S [] es
EndsIn M m n c h out ends.Stuck h' out' = ⊥

-- A run of at most n steps, as it ended: reductions that count n; or no more than these, to its end; or fewer, before a step for which memory was wanting.
abbrev pub IsRunReduced : {H O : Type 0} → Meaning H O → ProgramForm → ℕ → Conf → H → List O → List O → RunEnd → Conf → H → Type 0
IsRunReduced M m n c h out new OutOfSteps c' h' = IsReduced M m n c h out c' h' (out ++ new)
IsRunReduced M m n c h out new (Ended e) c' h' = (k : ℕ) × IsWithin k n e × EndsIn M m k c h out e h' (out ++ new)
IsRunReduced {H} {O} M m n c h out new NoMemory c' h' = (k : ℕ) × (k < n) × (c1 : Conf) × (h1 : H) × (before rest : List O) × (new ≡ before ++ rest)
    × IsReduced M m k c h out c1 h1 (out ++ before)

-- what a machine tells of a run, what the run was, and the reductions that it was, whatever had been written before
abbrev pub Reduced : {H O : Type 0} → Meaning H O → ProgramForm → ℕ → Conf → H → MachineEnd → Conf → H → Type 0
Reduced {O = O} M m n c h e c' h' = (new : List O) × (r : RunEnd) × (told_run r ≡ Some e) × Ran M m n c h new r c' h'
    × ((out : List O) → IsRunReduced M m n c h out new r c' h')
