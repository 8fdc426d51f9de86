-- A step of the machine asks for an import by a number of its program's, or for none.
use Rattle.std.proofs.Common.{◌≡◌, ℕ, ◌+◌, ◌-◌, List, [], ◌∷◌, ◌++◌, length, take, drop, reverse, get_or, Option, Some, None, Result, Ok, Err, Bool, true, false, refl, if◌then◌else◌}
use Rattle.std.specs.Prelude.{slice_get, slice_set, nat_eq, nat_lt, ⊤}
use Rattle.wasm_types.specs.Syntax.{Block, BrTable, Done, FuncForm, If, ImportForm, Instruction, Instructions, Loop, Plain, Signature, Then}
use Rattle.wasm_types.specs.Typing.{typed_in, callee_in}
use Rattle.wasm_types.specs.declared.types.ValType.{ValType}
use Rattle.wasm_types.specs.declared.instr.Simple.{Simple}
use Rattle.wasm_types.specs.declared.instr.Simple.TheVariants as op
use Rattle.wasm_types.specs.declared.instr.LoadOp.{LoadOp}
use Rattle.wasm_types.specs.declared.instr.StoreOp.{StoreOp}
use Rattle.wasm_store.specs.Memories.{MemoryForm, grown, load, store}
use Rattle.wasm_store.specs.Tables.{element}
use Rattle.wasm_store.specs.Words.{binary_of, compare_of, converted, test_of, unary_of}
use Rattle.wasm_store.specs.declared.trap.TrapKind.{TrapKind}
use Rattle.wasm_store.specs.declared.trap.TrapKind.TheVariants as trap
use Rattle.wasm_store.specs.declared.word.Word.{Word}
use Rattle.wasm_store.specs.declared.word.Word.TheVariants.{I32, I64}
use Rattle.wasm_model.specs.Machines.{CallerForm, Asks, Conf, Ends, Goes, ProgramForm, Turn, agree, asked, asked_if, call_at, called, called_by, entered_if, global_set, memory_grow, memory_load, memory_store, returned_with, to_caller, turn, turn_by, with_frame, with_grown, with_loaded, with_operands, with_stored, with_value}
use Rattle.wasm_model.specs.Stacks.{taken}
use Rattle.wasm_model.specs.Frames.{FrameForm, LabelForm, Local, act, at_end, branch, branch_at, branch_if, branch_table, branch_to, called_through, chosen, dropped, jump, local_set, local_tee, next_at, of_one, of_two, of_two_or, pushed, pushed_or, selected, settled, simple, with_values}
use Rattle.wasm_model.specs.Frames as form
use Rattle.wasm_model.specs.declared.ends.End.TheVariants as ends
use Rattle.task_pages.specs.Calls.{IsOneOf}

-- where a step asks the host, it asks for one of these numbers
abbrev pub AsksOneOf : List ℕ → Turn → Type 0
AsksOneOf numbers (Asks n words after) = IsOneOf n numbers
AsksOneOf numbers _ = Unit {0}

module _ (numbers : List ℕ) where
  either : (b : Bool) (s t : Turn) → AsksOneOf numbers s → AsksOneOf numbers t → AsksOneOf numbers (if b then s else t)
  either true s t p q = p
  either false s t p q = q

  value_so : (c : Conf) (vs : List Word) (w : Option Word) → AsksOneOf numbers (with_value c vs w)
  value_so c vs None = tt
  value_so c vs (Some w) = tt

  loaded_so : (c : Conf) (vs : List Word) (r : Result Word TrapKind) → AsksOneOf numbers (with_loaded c vs r)
  loaded_so c vs (Ok w) = tt
  loaded_so c vs (Err k) = tt

  stored_so : (c : Conf) (vs : List Word) (r : Result ⊤ TrapKind × MemoryForm) → AsksOneOf numbers (with_stored c vs r)
  stored_so c vs (Ok u, m) = tt
  stored_so c vs (Err k, m) = tt

  grown_so : (c : Conf) (vs : List Word) (r : Option ℕ × MemoryForm) → AsksOneOf numbers (with_grown c vs r)
  grown_so c vs (None, m) = tt
  grown_so c vs (Some n, m) = tt

  set_so : (c : Conf) (x : ℕ) (vs : List Word) → AsksOneOf numbers (global_set c x vs)
  set_so c x [] = tt
  set_so c x (w ∷ vs) =
      either (nat_lt x (length c.globals)) (Goes (record (with_operands c vs) { globals = slice_set c.globals x w })) (Ends ends.Stuck) tt tt

  load_so : (c : Conf) (op : LoadOp) (offset : ℕ) (vs : List Word) → AsksOneOf numbers (memory_load c op offset vs)
  load_so c op offset [] = tt
  load_so c op offset (I32 at ∷ vs) = loaded_so c vs (load op c.memory.bytes (at + offset))
  load_so c op offset (I64 n ∷ vs) = tt

  store_so : (c : Conf) (op : StoreOp) (offset : ℕ) (vs : List Word) → AsksOneOf numbers (memory_store c op offset vs)
  store_so c op offset [] = tt
  store_so c op offset (w ∷ []) = tt
  store_so c op offset (w ∷ (I32 at ∷ vs)) = stored_so c vs (store op c.memory (at + offset) w)
  store_so c op offset (w ∷ (I64 n ∷ vs)) = tt

  grow_so : (c : Conf) (vs : List Word) → AsksOneOf numbers (memory_grow c vs)
  grow_so c [] = tt
  grow_so c (I32 n ∷ vs) = grown_so c vs (grown c.memory n)
  grow_so c (I64 n ∷ vs) = tt

  to_caller_so : (c : Conf) (result : List Word) (w : Option Word) (fs : List CallerForm) → AsksOneOf numbers (to_caller c result w fs)
  to_caller_so c result w [] = tt
  to_caller_so c result w (f ∷ fs) = tt

  returned_so : (c : Conf) (k : Option ValType) (vs : List Word) → AsksOneOf numbers (returned_with c k vs)
  returned_so c None vs = to_caller_so c [] None c.callers
  returned_so c (Some k) [] = tt
  returned_so c (Some k) (v ∷ vs) = to_caller_so c (v ∷ []) (Some v) c.callers

  asked_so : (n : ℕ) (t : Signature) (c : Conf) → IsOneOf n numbers → AsksOneOf numbers (asked n t c)
  asked_so n t c h =
      either (nat_lt (length c.frame.values) (length t.params)) (Ends ends.Stuck)
      (Asks n (reverse (take (length t.params) c.frame.values)) (with_operands c (drop (length t.params) c.frame.values))) tt h

  asked_if_so : (n : Option ℕ) (t : Option Signature) (c : Conf) → ((k : ℕ) → n ≡ Some k → IsOneOf k numbers) → AsksOneOf numbers (asked_if n t c)
  asked_if_so None None c h = tt
  asked_if_so None (Some t) c h = tt
  asked_if_so (Some n) None c h = tt
  asked_if_so (Some n) (Some t) c h = asked_so n t c (h n refl)

entered_so : (numbers : List ℕ) (t : Option Signature) (f : FuncForm) (c : Conf) → AsksOneOf numbers (entered_if t f c)
entered_so numbers None f c = tt
entered_so numbers (Some t) f c =
    either numbers (nat_lt (length c.callers) 10000) _ (Ends ends.Exhausted)
    (either numbers (nat_lt (length c.frame.values) (length t.params)) (Ends ends.Stuck) _ tt tt) tt

module _ (m : ProgramForm) where
  call_so : (n : ℕ) (i : Option ImportForm) (f : Option FuncForm) (c : Conf) → AsksOneOf m.numbers (call_at m n i f c)
  call_so n (Some i) f c = asked_if_so m.numbers (slice_get m.numbers n) (typed_in m.whole i.ty) c (λ k e. (n, e))
  call_so n None (Some f) c = entered_so m.numbers (typed_in m.whole f.ty) f c
  call_so n None None c = tt

  called_so : (n : ℕ) (c : Conf) → AsksOneOf m.numbers (called m n c)
  called_so n c = call_so n (slice_get m.whole.imports n) (slice_get m.whole.funcs (n - length m.whole.imports)) c

  called_by_so : (n : ℕ) (f : Result ℕ TrapKind) (c : Conf) → AsksOneOf m.numbers (called_by m n f c)
  called_by_so n (Err k) c = tt
  called_by_so n (Ok f) c =
      either m.numbers (agree (typed_in m.whole n) (callee_in m.whole f)) (called m f c) (Ends (ends.Trapped trap.WrongType)) (called_so f c) tt

-- What a step within a frame leads to, instruction by instruction: those that work on the store have no names outside of the machine's crate, and compute.
module _ (m : ProgramForm) (c : Conf) where
  abbrev Fine : Local → Type 0
  Fine l = AsksOneOf m.numbers (turn_by m c l)

  choose : (b : Bool) (s t : Local) → Fine s → Fine t → Fine (if b then s else t)
  choose true s t p q = p
  choose false s t p q = q

  leaves_so : (f : FrameForm) → Fine (form.Leaves f)
  leaves_so f = returned_so m.numbers (with_frame c f) c.result f.values

  pushed_so : (f : FrameForm) (vs : List Word) (w : Option Word) → Fine (pushed f vs w)
  pushed_so f vs None = tt
  pushed_so f vs (Some w) = tt

  pushed_or_so : (f : FrameForm) (vs : List Word) (w : Option (Result Word TrapKind)) → Fine (pushed_or f vs w)
  pushed_or_so f vs None = tt
  pushed_or_so f vs (Some (Err k)) = tt
  pushed_or_so f vs (Some (Ok w)) = tt

  one_so : (f : FrameForm) (g : Word → Option Word) (vs : List Word) → Fine (of_one f g vs)
  one_so f g [] = tt
  one_so f g (a ∷ vs) = pushed_so f vs (g a)

  two_so : (f : FrameForm) (g : Word → Word → Option Word) (vs : List Word) → Fine (of_two f g vs)
  two_so f g [] = tt
  two_so f g (b ∷ []) = tt
  two_so f g (b ∷ (a ∷ vs)) = pushed_so f vs (g a b)

  two_or_so : (f : FrameForm) (g : Word → Word → Option (Result Word TrapKind)) (vs : List Word) → Fine (of_two_or f g vs)
  two_or_so f g [] = tt
  two_or_so f g (b ∷ []) = tt
  two_or_so f g (b ∷ (a ∷ vs)) = pushed_or_so f vs (g a b)

  set_local_so : (f : FrameForm) (x : ℕ) (vs : List Word) → Fine (local_set f x vs)
  set_local_so f x [] = tt
  set_local_so f x (w ∷ vs) =
      choose (nat_lt x (length f.locals)) (form.Goes (record f { values = vs; locals = slice_set f.locals x w })) form.Stuck tt tt

  tee_so : (f : FrameForm) (x : ℕ) (vs : List Word) → Fine (local_tee f x vs)
  tee_so f x [] = tt
  tee_so f x (w ∷ vs) = choose (nat_lt x (length f.locals)) (form.Goes (record f { locals = slice_set f.locals x w })) form.Stuck tt tt

  dropped_so : (f : FrameForm) (vs : List Word) → Fine (dropped f vs)
  dropped_so f [] = tt
  dropped_so f (w ∷ vs) = tt

  selected_so : (f : FrameForm) (vs : List Word) → Fine (selected f vs)
  selected_so f [] = tt
  selected_so f (I64 n ∷ vs) = tt
  selected_so f (I32 n ∷ []) = tt
  selected_so f (I32 n ∷ (b ∷ [])) = tt
  selected_so f (I32 n ∷ (b ∷ (a ∷ vs))) = tt

  branch_to_so : (f : FrameForm) (l : LabelForm) (outer : List LabelForm) (vs : Option (List Word)) → Fine (branch_to f l outer vs)
  branch_to_so f l outer None = tt
  branch_to_so f l outer (Some vs) = by l.again
    where
      by : (again : Option Instructions) → Fine (elim again [
        | Some body ↦ form.Goes (record f { values = vs; labels = l ∷ outer; code = body })
        | None ↦ form.Goes (record f { values = vs ++ l.under; labels = outer; code = l.rest })
      ])
      by None = tt
      by (Some body) = tt

  branch_at_so : (f : FrameForm) (ls : List LabelForm) → Fine (branch_at f ls)
  branch_at_so f [] = tt
  branch_at_so f (l ∷ outer) = branch_to_so f l outer (taken l.gives f.values)

  jump_so : (f : FrameForm) (n : ℕ) → Fine (jump f n)
  jump_so f n = choose (nat_eq n (length f.labels)) (form.Leaves f) (branch f n) (leaves_so f) (branch_at_so f (drop n f.labels))

  branch_if_so : (f : FrameForm) (n : ℕ) (vs : List Word) → Fine (branch_if f n vs)
  branch_if_so f n [] = tt
  branch_if_so f n (I64 k ∷ vs) = tt
  branch_if_so f n (I32 k ∷ vs) = choose (nat_eq k 0) (form.Goes (with_values f vs)) (jump (with_values f vs) n) tt (jump_so (with_values f vs) n)

  branch_table_so : (f : FrameForm) (ns : List ℕ) (other : ℕ) (vs : List Word) → Fine (branch_table f ns other vs)
  branch_table_so f ns other [] = tt
  branch_table_so f ns other (I64 k ∷ vs) = tt
  branch_table_so f ns other (I32 k ∷ vs) = jump_so (with_values f vs) (get_or ns k other)

  chosen_so : (f : FrameForm) (gives : Option ValType) (p q : Instructions) (vs : List Word) → Fine (chosen f gives p q vs)
  chosen_so f gives p q [] = tt
  chosen_so f gives p q (I64 k ∷ vs) = tt
  chosen_so f gives p q (I32 k ∷ vs) = tt

  through_so : (f : FrameForm) (n : ℕ) (vs : List Word) → Fine (called_through f n vs)
  through_so f n [] = tt
  through_so f n (I64 k ∷ vs) = tt
  through_so f n (I32 at ∷ vs) = called_by_so m n (element (slice_get c.table at)) (with_frame c (with_values f vs))

  simple_so : (f : FrameForm) (p : Simple) → Fine (simple f p)
  simple_so f op.Unreachable = tt
  simple_so f op.Nop = tt
  simple_so f (op.Br n) = jump_so f n
  simple_so f (op.BrIf n) = branch_if_so f n f.values
  simple_so f op.Return = leaves_so f
  simple_so f (op.Call n) = called_so m n (with_frame c f)
  simple_so f (op.CallIndirect n) = through_so f n f.values
  simple_so f op.Drop = dropped_so f f.values
  simple_so f op.Select = selected_so f f.values
  simple_so f (op.LocalGet x) = pushed_so f f.values (slice_get f.locals x)
  simple_so f (op.LocalSet x) = set_local_so f x f.values
  simple_so f (op.LocalTee x) = tee_so f x f.values
  simple_so f (op.GlobalGet x) = value_so m.numbers (with_frame c f) f.values (slice_get c.globals x)
  simple_so f (op.GlobalSet x) = set_so m.numbers (with_frame c f) x f.values
  simple_so f (op.Load g at) = load_so m.numbers (with_frame c f) g at.offset f.values
  simple_so f (op.Store g at) = store_so m.numbers (with_frame c f) g at.offset f.values
  simple_so f op.MemorySize = tt
  simple_so f op.MemoryGrow = grow_so m.numbers (with_frame c f) f.values
  simple_so f (op.I32Const n) = tt
  simple_so f (op.I64Const n) = tt
  simple_so f (op.Test k g) = one_so f (test_of k g) f.values
  simple_so f (op.Compare k g) = two_so f (compare_of k g) f.values
  simple_so f (op.Unary k g) = one_so f (unary_of k g) f.values
  simple_so f (op.Binary k g) = two_or_so f (binary_of k g) f.values
  simple_so f (op.Convert g) = one_so f (converted g) f.values

  act_so : (f : FrameForm) (i : Instruction) → Fine (act f i)
  act_so f (Plain p) = simple_so f p
  act_so f (BrTable ns n) = branch_table_so f ns n f.values
  act_so f (Block gives b) = tt
  act_so f (Loop gives b) = tt
  act_so f (If gives b d) = chosen_so f gives b d f.values

  end_so : (f : FrameForm) (ls : List LabelForm) → Fine (at_end f ls)
  end_so f [] = leaves_so f
  end_so f (l ∷ outer) = tt

  next_so : (f : FrameForm) (is : Instructions) → Fine (next_at f is)
  next_so f Done = end_so f f.labels
  next_so f (Then i is) = act_so (record f { code = is }) i

pub asks_one_of : (m : ProgramForm) (c : Conf) → AsksOneOf m.numbers (turn m c)
asks_one_of m c = let g = settled c.frame in next_so m c g g.code
