-- A step of a machine is reductions of the specification's form that count one step.
use Rattle.std.proofs.Common.{◌≡◌, ⊎_elim, ℕ, zero, suc, ◌+◌, ◌-◌, ◌≤◌, List, [], ◌∷◌, ◌++◌, length, take, drop, map, reverse, Option, Some, None, Result, Ok, Err, true, false, refl, sym, ap, ◌∙◌, subst, arith, append-nil, append_assoc, nat_lt, slice_set, if◌then◌else◌}
use Rattle.std.proofs.lemmas.Bool.Decides.{nat_tests}
use Rattle.std.proofs.lemmas.Bool.{ltb-true}
use Rattle.std.proofs.lemmas.List.{take-append-drop, length-take-le}
use Rattle.std.specs.Prelude.{slice_get, ⊤}
use Rattle.wasm_types.specs.declared.types.ValType.{ValType}
use Rattle.wasm_types.specs.declared.types.ValType.TheVariants as ty
use Rattle.wasm_types.specs.declared.instr.MemArg.{MemArg}
use Rattle.wasm_types.specs.declared.instr.LoadOp.{LoadOp}
use Rattle.wasm_types.specs.declared.instr.StoreOp.{StoreOp}
use Rattle.wasm_types.specs.declared.instr.Simple.{Simple}
use Rattle.wasm_types.specs.declared.instr.Simple.TheVariants.{Call, CallIndirect, GlobalGet, GlobalSet, Load, Store, MemoryGrow}
use Rattle.wasm_types.specs.Syntax.{Instructions, Signature, ImportForm, FuncForm}
use Rattle.wasm_types.specs.Typing.{one, Context, typed_in, callee_in, context_in, stored}
use Rattle.wasm_store.specs.declared.trap.TrapKind.{TrapKind}
use Rattle.wasm_store.specs.declared.trap.TrapKind.TheVariants as trap
use Rattle.wasm_store.specs.declared.word.Word.{Word}
use Rattle.wasm_store.specs.declared.word.Word.TheVariants.{I32, I64}
use Rattle.wasm_store.specs.Memories.{MemoryForm, load, store, grown}
use Rattle.wasm_store.specs.Tables.{element}
use Rattle.wasm_store.specs.Words.{type_of, zero_of}
use Rattle.wasm_model.specs.declared.access.Access.{Access}
use Rattle.wasm_model.specs.declared.access.Access.TheVariants as access
use Rattle.wasm_model.specs.declared.host.HostAnswer.TheVariants as answer
use Rattle.wasm_model.specs.declared.ends.End.{End}
use Rattle.wasm_model.specs.declared.ends.End.TheVariants as ends
use Rattle.wasm_model.specs.Hosts.{Meaning, Typed}
use Rattle.wasm_model.specs.Stacks.{taken}
use Rattle.wasm_model.specs.Frames.{LabelForm, FrameForm, Local, local_step, with_values}
use Rattle.wasm_model.specs.Frames as form
use Rattle.wasm_model.specs.Machines.{Conf, CallerForm, ProgramForm, Turn, Goes, Ends, Asks, turn, turn_by, with_frame, with_operands, with_value, with_loaded, with_stored, with_grown, global_set, memory_load, memory_store, memory_grow, worked, asked, asked_if, entered_func, entered_if, call_at, called, called_by, agree, returned_with, answered}
use Rattle.wasm_model.specs.Runs.{TakenAs, OverBy, Steps, Ran}
use Rattle.wasm_model.specs.MachineRuns.{Did}
use Rattle.wasm_model.specs.declared.host.HostAnswer.{HostAnswer}
use Rattle.wasm_model.specs.declared.ends.MachineEnd.{MachineEnd}
use Rattle.wasm_model.specs.declared.ends.RunEnd.{RunEnd}
use Rattle.wasm_model.specs.declared.ends.RunEnd.TheVariants.{Ended, OutOfSteps, NoMemory}
use Rattle.wasm_model.specs.Typed.{AccessOk, IsSafe, IsSafeTurn, SafeEnd, CallersOk, FirstOk, FrameOk, ConfOk, ProgramOk, Linked}
use Rattle.wasm_model.specs.Reductions.{Admin, Const, Does, Invoke, LabelOf, FrameOf, Trapped, Sequence, ε, ◌⨾◌, ◌⧺◌, op, arity, sequence, on, results, StoreForm, after_host, Chain, none, in_labels, in_place, in_body, in_frames, nested, store_of, CallsDeep, EndsIn, IsReduced, IsRunReduced, Reduced}
use Rattle.wasm_model.specs.StepReductions.{IsStepReduced}
use Rattle.wasm_model.specs.Reductions as core
use Rattle.wasm_model.proofs.Safe.{never_stuck}
use Rattle.wasm_model.proofs.First.{Leaving, Calling, first_step, left_with}
use Rattle.wasm_model.proofs.Nesting.{on_parts, once, join, here, within_frames, within_function, out_of_function, trap_here, trap_out}
use Rattle.wasm_model.proofs.Reducing.{Accesses, IsLocal, local_is}
use Rattle.wasm_model.proofs.Whole.{steps_ok, turn_safe}

is_under : (m n : ℕ) → nat_lt m n ≡ false → n ≤ m
is_under m n h = grind (arith, nat_tests)

module _ {H O : Type 0} (M : Meaning H O) (m : ProgramForm) where
  abbrev LeftBy : StoreForm H O → Sequence → End → Type 0
  LeftBy S es (ends.Returned w) = Chain M m 0 S [] es S [] (on (results w) ε)
  LeftBy S es (ends.Trapped k) = Chain M m 1 S [] es S [] (Trapped k ⨾ ε)
  LeftBy S es ends.Exhausted = (ds : Sequence) × CallsDeep m ds × Chain M m 0 S [] es S [] ds
  LeftBy S es ends.Stuck = Unit {0}

  -- from this store and sequence to where a turn leads: reductions that count one step, and none where the run is over
  abbrev IsTurnOf : StoreForm H O → Sequence → Turn → Type 0
  IsTurnOf S es (Goes d) = Chain M m 1 S [] es (store_of d S.host S.output) [] (nested d)
  IsTurnOf S es (Ends e) = LeftBy S es e
  IsTurnOf S es (Asks i args d) =
      ((w : Option Word) (h : H) (mem : MemoryForm) (more : List O) → M S.host i args S.memory (answer.Done w) h mem more →
      Chain M m 1 S [] es (store_of (answered (record d { memory = mem }) w) h (S.output ++ more)) [] (nested (answered (record d { memory = mem }) w)))
      × ((k : TrapKind) (h : H) (mem : MemoryForm) (more : List O) → M S.host i args S.memory (answer.Trap k) h mem more → Chain M m 1 S [] es (after_host S h mem more) [] (Trapped k ⨾ ε))

  before_left : (S : StoreForm H O) (es ds : Sequence) (e : End) → Chain M m 0 S [] es S [] ds → LeftBy S ds e → LeftBy S es e
  before_left S es ds (ends.Returned w) c k = join M m 0 0 0 (omega arith) c k
  before_left S es ds (ends.Trapped t) c k = join M m 0 1 1 (omega arith) c k
  before_left S es ds ends.Exhausted c k = (k.0, k.1, join M m 0 0 0 (omega arith) c k.2)
  before_left S es ds ends.Stuck c k = tt

  before_turn : (S : StoreForm H O) (es ds : Sequence) (t : Turn) → Chain M m 0 S [] es S [] ds → IsTurnOf S ds t → IsTurnOf S es t
  before_turn S es ds (Goes d) c k = join M m 0 1 1 (omega arith) c k
  before_turn S es ds (Ends e) c k = before_left S es ds e c k
  before_turn S es ds (Asks i args d) c k = ((λ w h mem more x. join M m 0 1 1 (omega arith) c (k.0 w h mem more x)), (λ t h mem more x. join M m 0 1 1 (omega arith) c (k.1 t h mem more x)))

  -- Returns from a function.

  returned_is : (c : Conf) (w : CallerForm) (ws : List CallerForm) (h : H) (out : List O) (F : List Word) (es : Sequence) (r : Option ValType) (vs : List Word) →
      ((us : List Word) → taken r vs ≡ Some us → (G : List Word) → Chain M m 1 (store_of c h out) G (in_body r F es) (store_of c h out) G (on us ε)) →
      IsTurnOf (store_of c h out) (in_frames r F (w ∷ ws) es) (returned_with (record c { callers = w ∷ ws }) r vs)
  returned_is c w ws h out F es None vs k = out_of_function M m None w ws (k [] refl)
  returned_is c w ws h out F es (Some t) [] k = tt
  returned_is c w ws h out F es (Some t) (v ∷ vs) k = out_of_function M m (Some t) w ws (k (v ∷ []) refl)

  -- Accesses and calls, in the place of the innermost frame.
  module _ (c : Conf) (h : H) (out : List O) where
    -- this, between operands and code
    abbrev Put : List Word → Sequence → Sequence
    Put vs es = in_frames c.result c.frame.locals c.callers (in_place (with_values c.frame vs) es)

    goes : {n : ℕ} {es ds : Sequence} {T : StoreForm H O} (vs : List Word) → ((G : List Word) → Chain M m n (store_of c h out) G es T G ds) → Chain M m n (store_of c h out) [] (Put vs es) T [] (Put vs ds)
    goes vs k = within_frames M m c.result c.frame.locals c.callers (λ G. here M m c.frame.labels vs (sequence c.frame.code) (k G))

    stops : {es : Sequence} {T : StoreForm H O} (vs : List Word) (k : TrapKind) → ((G : List Word) → Chain M m 1 (store_of c h out) G es T G (Trapped k ⨾ ε)) → Chain M m 1 (store_of c h out) [] (Put vs es) T [] (Trapped k ⨾ ε)
    stops vs k x =
        join M m 1 0 1 (omega arith)
        (within_frames M m c.result c.frame.locals c.callers (λ G. join M m 1 0 1 (omega arith) (here M m c.frame.labels vs (sequence c.frame.code) (x G)) (trap_here M m c.frame.labels vs (sequence c.frame.code) k)))
        (trap_out M m c.result c.frame.locals c.callers k)

    get_is : (x : ℕ) (vs : List Word) (o : Option Word) → slice_get c.globals x ≡ o → IsTurnOf (store_of c h out) (Put vs (op (GlobalGet x) ⨾ ε)) (with_value c vs o)
    get_is x vs None e = tt
    get_is x vs (Some w) e = goes vs (λ G. once M m (core.global_get e))

    set_is : (x : ℕ) (vs : List Word) → IsTurnOf (store_of c h out) (Put vs (op (GlobalSet x) ⨾ ε)) (global_set c x vs)
    set_is x [] = tt
    set_is x (w ∷ vs) =
        elim (nat_lt x (length c.globals)) as (λ z. nat_lt x (length c.globals) ≡ z → IsTurnOf (store_of c h out) (Put (w ∷ vs) (op (GlobalSet x) ⨾ ε)) (if z then Goes (record (with_operands c vs) { globals = slice_set c.globals x w }) else Ends ends.Stuck)) [
          | true ↦ λ e. goes vs (λ G. once M m (core.global_set (ltb-true x (length c.globals) e)))
          | false ↦ λ e. tt
        ] refl

    loaded_is : (g : LoadOp) (at : MemArg) (i : ℕ) (vs : List Word) (o : Result Word TrapKind) → load g c.memory.bytes (i + at.offset) ≡ o → IsTurnOf (store_of c h out) (Put (I32 i ∷ vs) (op (Load g at) ⨾ ε)) (with_loaded c vs o)
    loaded_is g at i vs (Ok w) e = goes vs (λ G. once M m (core.load_value e))
    loaded_is g at i vs (Err k) e = stops vs k (λ G. once M m (core.load_traps e))

    load_is : (g : LoadOp) (at : MemArg) (vs : List Word) → IsTurnOf (store_of c h out) (Put vs (op (Load g at) ⨾ ε)) (memory_load c g at.offset vs)
    load_is g at [] = tt
    load_is g at (I64 i ∷ vs) = tt
    load_is g at (I32 i ∷ vs) = loaded_is g at i vs (load g c.memory.bytes (i + at.offset)) refl

    stored_is : (g : StoreOp) (at : MemArg) (i : ℕ) (w : Word) → type_of w ≡ (stored g).0 → (vs : List Word) (o : Result ⊤ TrapKind × MemoryForm) → store g c.memory (i + at.offset) w ≡ o → IsTurnOf (store_of c h out) (Put (w ∷ (I32 i ∷ vs)) (op (Store g at) ⨾ ε)) (with_stored c vs o)
    stored_is g at i w t vs (Ok u, mem) e = goes vs (λ G. once M m (core.store_value t e))
    stored_is g at i w t vs (Err k, mem) e = stops vs k (λ G. once M m (core.store_traps t e))

    store_is : (g : StoreOp) (at : MemArg) (ks : List ValType) (vs : List Word) → map type_of vs ≡ (stored g).0 ∷ ks → IsTurnOf (store_of c h out) (Put vs (op (Store g at) ⨾ ε)) (memory_store c g at.offset vs)
    store_is g at ks [] t = tt
    store_is g at ks (w ∷ []) t = tt
    store_is g at ks (w ∷ (I64 i ∷ vs)) t = tt
    store_is g at ks (w ∷ (I32 i ∷ vs)) t = stored_is g at i w (cc) vs (store g c.memory (i + at.offset) w) refl

    grown_is : (n : ℕ) (vs : List Word) (o : Option ℕ × MemoryForm) → grown c.memory n ≡ o → IsTurnOf (store_of c h out) (Put (I32 n ∷ vs) (op MemoryGrow ⨾ ε)) (with_grown c vs o)
    grown_is n vs (Some pages, mem) e = goes vs (λ G. once M m (core.memory_grow e))
    grown_is n vs (None, mem) e = goes vs (λ G. once M m (core.memory_grow_fails e))

    grow_is : (vs : List Word) → IsTurnOf (store_of c h out) (Put vs (op MemoryGrow ⨾ ε)) (memory_grow c vs)
    grow_is [] = tt
    grow_is (I64 n ∷ vs) = tt
    grow_is (I32 n ∷ vs) = grown_is n vs (grown c.memory n) refl

    -- what is accessed, and the types of the operands where it is a store
    abbrev Stores : Access → List Word → Type 0
    Stores (access.Store g offset) vs = (ks : List ValType) × (map type_of vs ≡ (stored g).0 ∷ ks)
    Stores _ vs = Unit {0}

    worked_is : (a : Access) (p : Simple) → Accesses a p → Stores a c.frame.values → IsTurnOf (store_of c h out) (Put c.frame.values (op p ⨾ ε)) (worked a c)
    worked_is (access.GlobalGet x) p e t = subst (λ (q : Simple). IsTurnOf (store_of c h out) (Put c.frame.values (op q ⨾ ε)) (worked (access.GlobalGet x) c)) (sym e) (get_is x c.frame.values (slice_get c.globals x) refl)
    worked_is (access.GlobalSet x) p e t = subst (λ (q : Simple). IsTurnOf (store_of c h out) (Put c.frame.values (op q ⨾ ε)) (worked (access.GlobalSet x) c)) (sym e) (set_is x c.frame.values)
    worked_is (access.Load g offset) p e t =
        subst (λ (q : Simple). IsTurnOf (store_of c h out) (Put c.frame.values (op q ⨾ ε)) (worked (access.Load g offset) c)) (sym e.2)
        (subst (λ (i : ℕ). IsTurnOf (store_of c h out) (Put c.frame.values (op (Load g e.0) ⨾ ε)) (memory_load c g i c.frame.values)) (sym e.1) (load_is g e.0 c.frame.values))
    worked_is (access.Store g offset) p e t =
        subst (λ (q : Simple). IsTurnOf (store_of c h out) (Put c.frame.values (op q ⨾ ε)) (worked (access.Store g offset) c)) (sym e.2)
        (subst (λ (i : ℕ). IsTurnOf (store_of c h out) (Put c.frame.values (op (Store g e.0) ⨾ ε)) (memory_store c g i c.frame.values)) (sym e.1) (store_is g e.0 t.0 c.frame.values t.1))
    worked_is access.MemorySize p e t = subst (λ (q : Simple). IsTurnOf (store_of c h out) (Put c.frame.values (op q ⨾ ε)) (worked access.MemorySize c)) (sym e) (goes c.frame.values (λ G. once M m core.memory_size))
    worked_is access.MemoryGrow p e t = subst (λ (q : Simple). IsTurnOf (store_of c h out) (Put c.frame.values (op q ⨾ ε)) (worked access.MemoryGrow c)) (sym e) (grow_is c.frame.values)

    -- Calls, from the invocation of a function on.
    module _ (a : ℕ) (t : Signature) where
      abbrev Args : List Word
      Args = take (length t.params) c.frame.values

      abbrev Below : List Word
      Below = drop (length t.params) c.frame.values

      parts : Put c.frame.values (Invoke a ⨾ ε) ≡ Put Below (on Args (Invoke a ⨾ ε))
      parts =
          ap (λ (ds : Sequence). in_frames c.result c.frame.locals c.callers (in_labels c.frame.labels ds))
          (on_parts c.frame.values Args Below (Invoke a) (sequence c.frame.code) (sym (take-append-drop (length t.params) c.frame.values)))

      many : nat_lt (length c.frame.values) (length t.params) ≡ false → length Args ≡ length t.params
      many e = length-take-le (length t.params) c.frame.values (is_under (length c.frame.values) (length t.params) e)

      answered_is : (w : Option Word) (h' : H) (mem : MemoryForm) (more : List O) → Chain M m 1 (store_of c h out) [] (Put Below (on Args (Invoke a ⨾ ε))) (after_host (store_of c h out) h' mem more) [] (Put Below (on (results w) ε)) →
          Chain M m 1 (store_of c h out) [] (Put c.frame.values (Invoke a ⨾ ε)) (store_of (answered (record (with_operands c Below) { memory = mem }) w) h' (out ++ more)) [] (nested (answered (record (with_operands c Below) { memory = mem }) w))
      answered_is None h' mem more k = subst (λ (ds : Sequence). Chain M m 1 (store_of c h out) [] ds (after_host (store_of c h out) h' mem more) [] (Put Below ε)) (sym parts) k
      answered_is (Some w) h' mem more k = subst (λ (ds : Sequence). Chain M m 1 (store_of c h out) [] ds (after_host (store_of c h out) h' mem more) [] (Put Below (Const w ⨾ ε))) (sym parts) k

      asked_is : (i : ℕ) (x : ImportForm) → slice_get m.whole.imports a ≡ Some x → slice_get m.numbers a ≡ Some i → typed_in m.whole x.ty ≡ Some t → IsTurnOf (store_of c h out) (Put c.frame.values (Invoke a ⨾ ε)) (asked i t c)
      asked_is i x p q y =
          elim (nat_lt (length c.frame.values) (length t.params)) as (λ z. nat_lt (length c.frame.values) (length t.params) ≡ z → IsTurnOf (store_of c h out) (Put c.frame.values (Invoke a ⨾ ε)) (if z then Ends ends.Stuck else Asks i (reverse Args) (with_operands c Below))) [
            | true ↦ λ e. tt
            | false ↦ λ e. (
              (λ w h' mem more u. answered_is w h' mem more (goes Below (λ G. once M m (core.invoke_host a i x t w h' mem more Args p q y (many e) u)))),
              (λ k h' mem more u. subst (λ (ds : Sequence). Chain M m 1 (store_of c h out) [] ds (after_host (store_of c h out) h' mem more) [] (Trapped k ⨾ ε)) (sym parts)
                  (stops Below k (λ G. once M m (core.invoke_host_traps a i x t k h' mem more Args p q y (many e) u)))),
            )
          ] refl

      -- in the function
      abbrev Entry : FuncForm → Conf
      Entry f = record c {
        frame = record { values = []; labels = []; locals = reverse Args ++ map zero_of f.locals; code = f.body };
        result = t.result;
        callers = (record { frame = with_values c.frame Below; result = c.result }) ∷ c.callers;
      }

      entered_is : (f : FuncForm) → slice_get m.whole.imports a ≡ None → slice_get m.whole.funcs (a - length m.whole.imports) ≡ Some f → typed_in m.whole f.ty ≡ Some t → IsTurnOf (store_of c h out) (Put c.frame.values (Invoke a ⨾ ε)) (entered_func t f c)
      entered_is f p q y =
          elim (nat_lt (length c.callers) 10000) as (λ z. nat_lt (length c.callers) 10000 ≡ z → IsTurnOf (store_of c h out) (Put c.frame.values (Invoke a ⨾ ε)) (if z then (if nat_lt (length c.frame.values) (length t.params) then Ends ends.Stuck else Goes (Entry f)) else Ends ends.Exhausted)) [
            | true ↦ λ o. elim (nat_lt (length c.frame.values) (length t.params)) as (λ z. nat_lt (length c.frame.values) (length t.params) ≡ z → IsTurnOf (store_of c h out) (Put c.frame.values (Invoke a ⨾ ε)) (if z then Ends ends.Stuck else Goes (Entry f))) [
              | true ↦ λ e. tt
              | false ↦ λ e. subst (λ (ds : Sequence). Chain M m 1 (store_of c h out) [] ds (store_of c h out) [] (nested (Entry f))) (sym parts)
                  (goes Below (λ G. join M m 0 1 1 (omega arith) (once M m (core.invoke a f t Args p q y (many e))) (once M m (core.frame (core.rule core.block)))))
            ] refl
            | false ↦ λ o. (Put c.frame.values (Invoke a ⨾ ε), (c.callers, c.result, c.frame, a, f, is_under (length c.callers) 10000 o, p, q, refl), none)
          ] refl

    asked_if_is : (a : ℕ) (x : ImportForm) → slice_get m.whole.imports a ≡ Some x → (i : Option ℕ) → slice_get m.numbers a ≡ i → (t : Option Signature) → typed_in m.whole x.ty ≡ t → IsTurnOf (store_of c h out) (Put c.frame.values (Invoke a ⨾ ε)) (asked_if i t c)
    asked_if_is a x p (Some i) q (Some t) y = asked_is a t i x p q y
    asked_if_is a x p None q t y = tt
    asked_if_is a x p (Some i) q None y = tt

    entered_if_is : (a : ℕ) (f : FuncForm) → slice_get m.whole.imports a ≡ None → slice_get m.whole.funcs (a - length m.whole.imports) ≡ Some f → (t : Option Signature) → typed_in m.whole f.ty ≡ t → IsTurnOf (store_of c h out) (Put c.frame.values (Invoke a ⨾ ε)) (entered_if t f c)
    entered_if_is a f p q (Some t) y = entered_is a t f p q y
    entered_if_is a f p q None y = tt

    call_at_is : (a : ℕ) (x : Option ImportForm) → slice_get m.whole.imports a ≡ x → (f : Option FuncForm) → slice_get m.whole.funcs (a - length m.whole.imports) ≡ f → IsTurnOf (store_of c h out) (Put c.frame.values (Invoke a ⨾ ε)) (call_at m a x f c)
    call_at_is a (Some x) p f q = asked_if_is a x p (slice_get m.numbers a) refl (typed_in m.whole x.ty) refl
    call_at_is a None p (Some f) q = entered_if_is a f p q (typed_in m.whole f.ty) refl
    call_at_is a None p None q = tt

    called_is : (a : ℕ) → IsTurnOf (store_of c h out) (Put c.frame.values (Invoke a ⨾ ε)) (called m a c)
    called_is a = call_at_is a (slice_get m.whole.imports a) refl (slice_get m.whole.funcs (a - length m.whole.imports)) refl

    call_is : (n : ℕ) → IsTurnOf (store_of c h out) (Put c.frame.values (op (Call n) ⨾ ε)) (called m n c)
    call_is n = before_turn (store_of c h out) _ _ (called m n c) (goes c.frame.values (λ G. once M m core.call)) (called_is n)

    through_is : (n at : ℕ) (r : Result ℕ TrapKind) → element (slice_get c.table at) ≡ r → IsTurnOf (store_of c h out) (Put c.frame.values (Const (I32 at) ⨾ op (CallIndirect n) ⨾ ε)) (called_by m n r c)
    through_is n at (Err k) e = stops c.frame.values k (λ G. once M m (core.no_element e))
    through_is n at (Ok a) e =
        elim (agree (typed_in m.whole n) (callee_in m.whole a)) as (λ z. agree (typed_in m.whole n) (callee_in m.whole a) ≡ z → IsTurnOf (store_of c h out) (Put c.frame.values (Const (I32 at) ⨾ op (CallIndirect n) ⨾ ε)) (if z then called m a c else Ends (ends.Trapped trap.WrongType))) [
          | true ↦ λ q. before_turn (store_of c h out) _ _ (called m a c) (goes c.frame.values (λ G. once M m (core.call_indirect e q))) (called_is a)
          | false ↦ λ q. stops c.frame.values trap.WrongType (λ G. once M m (core.other_type e q))
        ] refl

  stores_of : (c : Conf) (h : H) (out : List O) (t : Signature) (locals : List ValType) (a : Access) (ps : List ValType) (r : Option ValType) (rest : List ValType) → AccessOk (context_in m.whole t locals) a ps r → map type_of c.frame.values ≡ ps ++ rest → Stores c h out a c.frame.values
  stores_of c h out t locals (access.Store g offset) ps r rest k v = (ty.I32 ∷ rest, v ∙ ap (λ (ks : List ValType). ks ++ rest) k.0)
  stores_of c h out t locals (access.GlobalGet x) ps r rest k v = tt
  stores_of c h out t locals (access.GlobalSet x) ps r rest k v = tt
  stores_of c h out t locals (access.Load g offset) ps r rest k v = tt
  stores_of c h out t locals access.MemorySize ps r rest k v = tt
  stores_of c h out t locals access.MemoryGrow ps r rest k v = tt

  -- A step in a function's frame.

  module _ (d : Conf) (w : CallerForm) (ws : List CallerForm) (h : H) (out : List O) where
    -- behind these that wait
    abbrev Inner : Conf
    Inner = record d { callers = w ∷ ws }

    placed : (F : List Word) (es : Sequence) (f : FrameForm) (ds : Sequence) → f.locals ≡ F → es ≡ in_place f ds → in_frames d.result F (w ∷ ws) es ≡ in_frames d.result f.locals (w ∷ ws) (in_place f ds)
    placed F es f ds p q = ap (in_frames d.result F (w ∷ ws)) q ∙ ap (λ (G : List Word). in_frames d.result G (w ∷ ws) (in_place f ds)) (sym p)

    by_local : (t : Signature) (locals : List ValType) (F : List Word) (es : Sequence) (l : Local) → IsLocal M m d.result F es l → IsSafe (context_in m.whole t locals) l → IsTurnOf (store_of d h out) (in_frames d.result F (w ∷ ws) es) (turn_by m Inner l)
    by_local t locals F es (form.Goes f) k s = within_function M m d.result w ws (k (store_of d h out))
    by_local t locals F es (form.Calls n f) k s = subst (λ (ds : Sequence). IsTurnOf (store_of d h out) ds (called m n (with_frame Inner f))) (sym (placed F es f (op (Call n) ⨾ ε) k.0 k.1)) (call_is (with_frame Inner f) h out n)
    by_local t locals F es (form.CallsThrough n at f) k s =
        subst (λ (ds : Sequence). IsTurnOf (store_of d h out) ds (called_by m n (element (slice_get d.table at)) (with_frame Inner f))) (sym (placed F es f (Const (I32 at) ⨾ op (CallIndirect n) ⨾ ε) k.0 k.1))
        (through_is (with_frame Inner f) h out n at (element (slice_get d.table at)) refl)
    by_local t locals F es (form.Works a f) k s =
        subst (λ (ds : Sequence). IsTurnOf (store_of d h out) ds (worked a (with_frame Inner f))) (sym (placed F es f (op k.1 ⨾ ε) k.0 k.3))
        (worked_is (with_frame Inner f) h out a k.1 k.2 (stores_of (with_frame Inner f) h out t locals a s.0 s.1 s.2 s.3 s.4))
    by_local t locals F es (form.Leaves f) k s = returned_is (with_frame d f) w ws h out F es d.result f.values (λ us e G. k us e (store_of d h out) G)
    by_local t locals F es (form.Traps x) k s = join M m 1 0 1 (omega arith) (within_function M m d.result w ws (k (store_of d h out))) (trap_out M m d.result F (w ∷ ws) x)
    by_local t locals F es form.Stuck k s = absurd s

  -- The first frame: a call, or the end.

  over_with : (c : Conf) (h : H) (out : List O) (vs : List Word) → map type_of vs ≡ one (Some ty.I32) → IsTurnOf (store_of c h out) (on vs ε) (returned_with (record c { callers = [] }) (Some ty.I32) vs)
  over_with c h out [] t = cc
  over_with c h out (v ∷ []) t = none
  over_with c h out (v ∷ (u ∷ vs)) t = cc

  first_is : (c : Conf) (C : Context) (h : H) (out : List O) → FirstOk c.frame [] → c.result ≡ Some ty.I32 → FrameOk C c.frame → C.result ≡ c.result → IsTurnOf (store_of c h out) (in_place c.frame ε) (turn m (record c { callers = [] }))
  first_is c C h out o r k e =
      ⊎_elim
      (λ (x : Leaving c.frame).
      let ended : on c.frame.values ε ≡ in_place c.frame ε =
      ap (λ (is : Instructions). on c.frame.values (sequence is)) (sym x.0) ∙ ap (λ (ls : List LabelForm). in_labels ls (on c.frame.values (sequence c.frame.code))) (sym o.0) in
      subst (λ (l : Local). IsTurnOf (store_of c h out) (in_place c.frame ε) (turn_by m (record c { callers = [] }) l)) (sym x.1)
      (subst (λ (es : Sequence). IsTurnOf (store_of c h out) es (returned_with (record c { callers = [] }) c.result c.frame.values)) ended
      (subst (λ (s : Option ValType). IsTurnOf (store_of c h out) (on c.frame.values ε) (returned_with (record c { callers = [] }) s c.frame.values)) (sym r) (over_with c h out c.frame.values (left_with C c.frame k o.0 x.0 ∙ ap one (e ∙ r))))))
      (λ (x : Calling c.frame).
      let rest = record c { frame = record c.frame { code = x.1 }; callers = [] } in
      subst (λ (l : Local). IsTurnOf (store_of c h out) (in_place c.frame ε) (turn_by m (record c { callers = [] }) l)) (sym x.4)
      (subst (λ (is : Instructions). IsTurnOf (store_of c h out) (in_labels c.frame.labels (on c.frame.values (sequence is))) (called m x.0 rest)) (sym x.2) (call_is rest h out x.0)))
      (first_step c.frame o)

  pub turn_is : (c : Conf) → ConfOk m.whole c → (h : H) (out : List O) → IsTurnOf (store_of c h out) (nested c) (turn m c)
  turn_is c k h out = by c.callers k.callers_ok k.first_ok where
    by : (ws : List CallerForm) → CallersOk m.whole ws c.result → FirstOk c.frame ws → IsTurnOf (store_of c h out) (in_frames c.result c.frame.locals ws (in_place c.frame ε)) (turn m (record c { callers = ws }))
    by [] r o = first_is c (context_in m.whole k.ty k.locals) h out o r k.frame_ok k.result_is
    by (w ∷ ws) r o =
        by_local c w ws h out k.ty k.locals c.frame.locals (in_place c.frame ε) (local_step c.frame)
        (subst (λ (r : Option ValType). IsLocal M m r c.frame.locals (in_place c.frame ε) (local_step c.frame)) k.result_is (local_is M m (context_in m.whole k.ty k.locals) c.frame k.frame_ok))
        (never_stuck (context_in m.whole k.ty k.locals) c.frame k.frame_ok)

  -- Steps with the host's part, and runs.

  taken_is : (S : StoreForm H O) (es : Sequence) (t : Turn) → IsTurnOf S es t → (more : List O) (c' : Conf) (h' : H) → TakenAs M t S.host S.memory more c' h' → Chain M m 1 S [] es (store_of c' h' (S.output ++ more)) [] (nested c')
  taken_is S es (Goes d) k more c' h' t =
      subst (λ (x : Conf). Chain M m 1 S [] es (store_of x h' (S.output ++ more)) [] (nested x)) (sym t.0)
      (subst (λ (x : H). Chain M m 1 S [] es (store_of d x (S.output ++ more)) [] (nested d)) (sym t.1)
      (subst (λ (o : List O). Chain M m 1 S [] es (store_of d S.host o) [] (nested d)) (sym (ap (λ (o : List O). S.output ++ o) t.2 ∙ append-nil S.output)) k))
  taken_is S es (Ends e) k more c' h' t = absurd t
  taken_is S es (Asks i args d) k more c' h' t = subst (λ (x : Conf). Chain M m 1 S [] es (store_of x h' (S.output ++ more)) [] (nested x)) (sym t.2) (k.0 t.0 h' c'.memory more t.1)

  left_is : (c : Conf) (h : H) (out : List O) (e : End) → SafeEnd e → LeftBy (store_of c h out) (nested c) e → (h' : H) (out' : List O) → h' ≡ h → out' ≡ out → EndsIn M m 0 c h out e h' out'
  left_is c h out (ends.Returned w) f k h' out' i j = (store_of c h out, sym i, sym j, k)
  left_is c h out (ends.Trapped t) f k h' out' i j = (store_of c h out, sym i, sym j, k)
  left_is c h out ends.Exhausted f k h' out' i j = (store_of c h out, sym i, sym j, k.0, k.1, k.2)
  left_is c h out ends.Stuck f k h' out' i j = f

  over_is : (c : Conf) (h : H) (out : List O) (t : Turn) → IsSafeTurn m t → IsTurnOf (store_of c h out) (nested c) t → (more : List O) (e : End) (h' : H) → OverBy M t h c.memory more e h' → EndsIn M m 0 c h out e h' (out ++ more)
  over_is c h out (Goes d) f k more e h' t = absurd t
  over_is c h out (Ends x) f k more e h' t =
      subst (λ (y : End). EndsIn M m 0 c h out y h' (out ++ more)) (sym t.0) (left_is c h out x f k h' (out ++ more) t.1 (ap (λ (o : List O). out ++ o) t.2 ∙ append-nil out))
  over_is c h out (Asks i args d) f k more e h' t = subst (λ (y : End). EndsIn M m 0 c h out y h' (out ++ more)) (sym t.2) (after_host (store_of c h out) h' t.1 more, refl, refl, k.1 t.0 h' t.1 more t.3)

  pub step_is : ProgramOk m → (c : Conf) (h : H) → ConfOk m.whole c → IsStepReduced M m (turn m c) c h
  step_is p c h k = (
    λ out more c' h' t. taken_is (store_of c h out) (nested c) (turn m c) (turn_is c k h out) more c' h' t,
    λ out more e h' t. over_is c h out (turn m c) (turn_safe m p c k) (turn_is c k h out) more e h' t,
  )

  module _ (T : ℕ → Option Signature) (law : (h : H) (i : ℕ) (args : List Word) (mem : MemoryForm) (a : HostAnswer) (h' : H) (mem' : MemoryForm) (out : List O) → M h i args mem a h' mem' out → Typed (T i) a) (p : ProgramOk m) (k : Linked T m) where
    steps_are : (n : ℕ) (c : Conf) (h : H) (more : List O) (c' : Conf) (h' : H) → ConfOk m.whole c → Steps M m n c h more c' h' → (out : List O) → IsReduced M m n c h out c' h' (out ++ more)
    steps_are zero c h more c' h' o s out =
        subst (λ (d : Conf). IsReduced M m zero c h out d h' (out ++ more)) (sym s.0)
        (subst (λ (x : H). IsReduced M m zero c h out c x (out ++ more)) (sym s.1)
        (subst (λ (x : List O). IsReduced M m zero c h out c h x) (sym (ap (λ (x : List O). out ++ x) s.2 ∙ append-nil out)) none))
    steps_are (suc n) c h more c' h' o s out =
        let first = (step_is p c h o).0 out s.2 s.0 s.1 s.4 in
        let typed = steps_ok M T m law p k 1 c h s.2 s.0 s.1 o (s.0, s.1, s.2, [], s.4, (refl, refl, refl), sym (append-nil s.2)) in
        let rest = steps_are n s.0 s.1 s.3 c' h' typed s.5 (out ++ s.2) in
        join M m 1 n (suc n) (omega arith) first (subst (λ (x : List O). IsReduced M m n s.0 s.1 (out ++ s.2) c' h' x) (append_assoc out s.2 s.3 ∙ ap (λ (x : List O). out ++ x) (sym s.6)) rest)

    behind : (k : ℕ) (c c1 : Conf) (h h1 h' : H) (out out1 out' : List O) (e : End) → IsReduced M m k c h out c1 h1 out1 → EndsIn M m 0 c1 h1 out1 e h' out' → EndsIn M m k c h out e h' out'
    behind k c c1 h h1 h' out out1 out' (ends.Returned w) a x = (x.0, x.1, x.2, join M m k 0 k (omega arith) a x.3)
    behind k c c1 h h1 h' out out1 out' (ends.Trapped t) a x = (x.0, x.1, x.2, join M m k 1 (suc k) (omega arith) a x.3)
    behind k c c1 h h1 h' out out1 out' ends.Exhausted a x = (x.0, x.1, x.2, x.3, x.4, join M m k 0 k (omega arith) a x.5)
    behind k c c1 h h1 h' out out1 out' ends.Stuck a x = x

    pub ran_is : (n : ℕ) (c : Conf) (h : H) (more : List O) (r : RunEnd) (c' : Conf) (h' : H) → ConfOk m.whole c → Ran M m n c h more r c' h' → (out : List O) → IsRunReduced M m n c h out more r c' h'
    ran_is n c h more OutOfSteps c' h' o r out = steps_are n c h more c' h' o r.0 out
    ran_is n c h more (Ended e) c' h' o r out =
        let last = (step_is p r.2 r.3 (steps_ok M T m law p k r.0 c h r.4 r.2 r.3 o r.6)).1 (out ++ r.4) r.5 e h' r.7 in (
          r.0,
          r.1,
          behind r.0 c r.2 h r.3 h' out (out ++ r.4) (out ++ more) e (steps_are r.0 c h r.4 r.2 r.3 o r.6 out)
              (subst (λ (x : List O). EndsIn M m 0 r.2 r.3 (out ++ r.4) e h' x) (append_assoc out r.4 r.5 ∙ ap (λ (x : List O). out ++ x) (sym r.8)) last),
        )
    ran_is n c h more NoMemory c' h' o r out = (r.0, r.1, r.2, r.3, r.4, r.5, r.9, steps_are r.0 c h r.4 r.2 r.3 o r.7 out)

    pub did_is : (n : ℕ) (c : Conf) (h : H) (e : MachineEnd) (c' : Conf) (h' : H) → ConfOk m.whole c → Did M m n c h e c' h' → Reduced M m n c h e c' h'
    did_is n c h e c' h' o d = (d.0, d.1, d.2, d.3, λ out. ran_is n c h d.0 d.1 c' h' o d.3 out)
