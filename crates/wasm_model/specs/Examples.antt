-- Worked forms and reductions.
use Rattle.std.specs.Prelude.{ℕ, ◌≡◌, refl, List, [], ◌∷◌, Option, Some, None}
use Rattle.std.proofs.Common.{◌++◌, append-nil, sym, ◌∙◌, arith}
use Rattle.wasm_types.specs.declared.types.ValType.TheVariants as ty
use Rattle.wasm_types.specs.declared.instr.Simple.TheVariants.{Unreachable, Br, BrIf, Drop, I32Const, Binary}
use Rattle.wasm_types.specs.declared.instr.IBinOp.TheVariants.{Add}
use Rattle.wasm_types.specs.Syntax.{Plain, Done, Then, ImportForm, FuncForm, ModuleForm}
use Rattle.wasm_store.specs.declared.word.Word.{Word}
use Rattle.wasm_store.specs.declared.word.Word.TheVariants.{I32}
use Rattle.wasm_store.specs.declared.trap.TrapKind.TheVariants as trap
use Rattle.wasm_model.specs.Hosts.{Meaning}
use Rattle.wasm_store.specs.Memories.{MemoryForm}
use Rattle.wasm_model.specs.declared.host.HostAnswer.TheVariants.{Done as Answered}
use Rattle.wasm_model.specs.declared.ends.End.TheVariants.{Returned}
use Rattle.wasm_model.specs.declared.ends.RunEnd.TheVariants.{Ended, OutOfSteps}
use Rattle.wasm_model.specs.Links.{beginning}
use Rattle.wasm_model.specs.Machines.{Conf, ProgramForm}
use Rattle.wasm_model.specs.Runs.{Ran}
use Rattle.wasm_model.specs.Reductions.{Const, Looped, Invoke, LabelOf, FrameOf, Trapped, Sequence, ε, ◌⨾◌, op, sequence, Hole, Inside, Here, StoreForm, Chain, none, more, in_place, in_body}
use Rattle.wasm_model.specs.Reductions as core

-- the operand 1 before `i32.const 2 i32.add`, in a block below whose operands 5 lies and behind which `drop` stands
form : in_body (Some ty.I32) [] (in_place (record {
  values = I32 1
      ∷ [];
  labels = (record { under = I32 5 ∷ []; again = None; gives = Some ty.I32; rest = Then (Plain Drop) Done })
      ∷ [];
  locals = [];
  code = Then (Plain (I32Const 2)) (Then (Plain (Binary ty.I32 Add)) Done);
}) ε)
    ≡ FrameOf 1 [] (LabelOf 1 ε (Const (I32 5) ⨾ LabelOf 1 ε (Const (I32 1) ⨾ Const (I32 2) ⨾ op (Binary ty.I32 Add) ⨾ ε) ⨾ op Drop ⨾ ε) ⨾ ε) ⨾ ε
form = refl

module _ {H O : Type 0} (M : Meaning H O) (m : ProgramForm) (S : StoreForm H O) (F : List Word) where
  sum : Chain M m 1 S F (Const (I32 1) ⨾ Const (I32 2) ⨾ op (Binary ty.I32 Add) ⨾ ε) S F (Const (I32 3) ⨾ ε)
  sum = more 1 0 refl (core.rule (core.binary refl)) none

  -- `loop br 0 end` begins again: one step
  around : Chain M m 1 S F (LabelOf 0 (Looped (Then (Plain (Br 0)) Done) ⨾ ε) (op (Br 0) ⨾ ε) ⨾ ε) S F
      (LabelOf 0 (Looped (Then (Plain (Br 0)) Done) ⨾ ε) (op (Br 0) ⨾ ε) ⨾ ε)
  around = more 0 1 refl (core.rule (core.branch (Here [] ε) [] refl)) (more 1 0 refl (core.rule core.loop) none)

  -- a branch that is taken takes one step, and leaves what lies below its result
  taken : Chain M m 1 S F (LabelOf 1 ε (Const (I32 4) ⨾ Const (I32 7) ⨾ Const (I32 1) ⨾ op (BrIf 0) ⨾ op Drop ⨾ ε) ⨾ ε) S F (Const (I32 7) ⨾ ε)
  taken =
      more 0 1 refl (core.context (Inside 1 ε (core.Among (I32 7 ∷ (I32 4 ∷ [])) Hole (op Drop ⨾ ε))) (core.rule (core.br_if (λ e. cc))))
      (more 1 0 refl (core.rule (core.branch (Here (I32 4 ∷ []) (op Drop ⨾ ε)) (I32 7 ∷ []) refl)) none)

  -- a trap is one step, however deep it is
  trapped : Chain M m 1 S F (FrameOf 0 [] (LabelOf 0 ε (op Unreachable ⨾ ε) ⨾ ε) ⨾ ε) S F (Trapped trap.Unreachable ⨾ ε)
  trapped =
      more 1 0 refl (core.frame (core.context (Inside 0 ε Hole) (core.rule core.unreachable)))
      (more 0 0 refl (core.frame (core.rule (core.trap_climbs (Inside 0 ε Hole) (λ e. cc)))) (more 0 0 refl (core.rule core.trap_leaves) none))

-- A whole run: the calls in its first frame count, and to leave that frame does not.

abbrev module_with : List ImportForm → List FuncForm → Option ℕ → ModuleForm
module_with imports funcs start = record {
  types = (record { params = []; result = Some ty.I32 }) ∷ ((record { params = []; result = None }) ∷ []);
  imports = imports;
  funcs = funcs;
  tables = [];
  memories = [];
  globals = [];
  exports = [];
  start = start;
  elems = [];
  data_segments = [];
}

-- `i32.const 0`, with a result
abbrev constant : FuncForm
constant = record { ty = 0; locals = []; body = Then (Plain (I32Const 0)) Done }

-- no instruction, without a result
abbrev empty : FuncForm
empty = record { ty = 1; locals = []; body = Done }

abbrev alone : ProgramForm
alone = record { whole = module_with [] (constant ∷ []) None; numbers = [] }

abbrev with_start : ProgramForm
with_start = record { whole = module_with [] (constant ∷ (empty ∷ [])) (Some 1); numbers = [] }

-- one import, which the host knows by the number 7
abbrev imported : ProgramForm
imported = record { whole = module_with ((record { from = []; name = []; ty = 0 }) ∷ []) [] None; numbers = 7 ∷ [] }

-- a run from the beginning that returned this, within so many steps
abbrev Returns : {H O : Type 0} → Meaning H O → ProgramForm → ℕ → H → List O → Word → H → Type 0
Returns M m n h out w h' = Ran M m n (beginning m.whole 0) h out (Ended (Returned (Some w))) (beginning m.whole 0) h'

abbrev GoesOn : {H O : Type 0} → Meaning H O → ProgramForm → ℕ → H → Type 0
GoesOn M m n h = (c : Conf) × Ran M m n (beginning m.whole 0) h [] OutOfSteps c h

module _ {H O : Type 0} (M : Meaning H O) (h h' : H) (out : List O) where
  -- the call, and the end of the body
  main_in_two : Returns M alone 2 h [] (I32 0) h
  main_in_two = (
    2,
    omega arith,
    _,
    _,
    _,
    _,
    (_, _, _, _, (refl, refl, refl), (_, _, _, _, (refl, refl, refl), (refl, refl, refl), refl), refl),
    (refl, refl, refl),
    refl,
  )

  main_not_in_one : GoesOn M alone 1 h
  main_not_in_one = (_, ((_, _, _, _, (refl, refl, refl), (refl, refl, refl), refl), tt))

  -- as the specification's invocation of this function
  invoked : (S : StoreForm H O) → Chain M alone 2 S [] (Invoke 0 ⨾ ε) S [] (Const (I32 0) ⨾ ε)
  invoked S =
      more 0 2 refl (core.invoke 0 constant (record { params = []; result = Some ty.I32 }) [] refl refl refl refl)
      (more 1 1 refl (core.frame (core.rule core.block))
      (more 1 0 refl (core.frame (core.rule (core.label_ends (I32 0 ∷ [])))) (more 0 0 refl (core.rule (core.frame_ends (I32 0 ∷ []) refl)) none)))

  -- the start function before it takes two more
  start_in_four : Returns M with_start 4 h [] (I32 0) h
  start_in_four = (
    4,
    omega arith,
    _,
    _,
    _,
    _,
    (
      _,
      _,
      _,
      _,
      (refl, refl, refl),
      (_, _, _, _, (refl, refl, refl), (_, _, _, _, (refl, refl, refl), (_, _, _, _, (refl, refl, refl), (refl, refl, refl), refl), refl), refl),
      refl,
    ),
    (refl, refl, refl),
    refl,
  )

  start_not_in_three : GoesOn M with_start 3 h
  start_not_in_three = (
    _,
    (
      (
        _,
        _,
        _,
        _,
        (refl, refl, refl),
        (_, _, _, _, (refl, refl, refl), (_, _, _, _, (refl, refl, refl), (refl, refl, refl), refl), refl),
        refl,
      ),
      tt,
    ),
  )

  -- a `main` of the host's is one call
  import_in_one : (mem : MemoryForm) → M h 7 [] (beginning imported.whole 0).memory (Answered (Some (I32 5))) h' mem out → Returns M imported 1 h out (I32 5) h'
  import_in_one mem x = (
    1,
    omega arith,
    _,
    _,
    _,
    _,
    (_, _, _, _, (_, x, refl), (refl, refl, refl), refl),
    (refl, refl, refl),
    sym (append-nil (out ++ []) ∙ append-nil out),
  )

  import_not_in_none : GoesOn M imported 0 h
  import_not_in_none = (_, ((refl, refl, refl), tt))
