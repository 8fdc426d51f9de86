-- Every step of the machine over values is one of the real machine.
use Rattle.std.proofs.Common.{◌≡◌, ℕ, ◌+◌, ◌-◌, Bool, true, false, ◌||◌, cond, nat_lt, List, ◌∷◌, Option, Some, None, refl, sym, ap, subst, arith, slice_get}
use Rattle.std.proofs.lemmas.Bool.{eq-eqb, ltb-false, or_left, or_right}
use Rattle.world_core.specs.WorldState.{Action}
use Rattle.wasm_types.specs.Syntax.{Instruction, Plain, BrTable, Block, Loop, If, Instructions, Done, Then}
use Rattle.wasm_types.specs.declared.types.ValType.TheVariants as ty
use Rattle.wasm_types.specs.declared.instr.IRelOp.{IRelOp}
use Rattle.wasm_types.specs.declared.instr.Simple.{Simple}
use Rattle.wasm_types.specs.declared.instr.Simple.TheVariants as simple
use Rattle.wasm_store.specs.Words.{compare_of}
use Rattle.wasm_store.specs.declared.word.Word.{Word}
use Rattle.wasm_store.specs.declared.word.Word.TheVariants.{I32}
use Rattle.wasm_model.specs.Frames.{FrameForm, next_at, pushed, settled}
use Rattle.wasm_model.specs.Frames as form
use Rattle.wasm_model.specs.Machines.{Goes, ProgramForm, Turn, called, turn, turn_by, with_frame}
use Rattle.wasm_model.specs.Machines as real
use Rattle.mid_program.specs.Mid.{Kind}
use Rattle.host_step.specs.HostState.{HostState}
use Rattle.lower_model.specs.Cells.{Cell, cell_at}
use Rattle.host_imports.specs.Imports.{import_at, import_count}
use Rattle.lower_model.specs.Machine.{Callee, Code, Conf, Deep, Frame, Label, Look, Over, Run, Store, Stuck, act, ask, ask_looking, at, call_number, enter, guarded, looked_compared, noted, run, run_looking, step, tidy, work}
use Rattle.lower_model.specs.Modules.{is_call, calls_by, calls_in, new_number, renumbered, renumbered_one, renumbered_simple}
use Rattle.host_imports.specs.declared.import.Import.{Import}
use Rattle.agreement.specs.Refined.Growing.{ArraysGrow}
use Rattle.agreement.specs.Refined.Refined.{As, CodeAs, Linked, LookAs, NextAs, RestAs}
use Rattle.agreement.specs.Refined.Words.{WordAs, WordsAs, arrays_made}
use Rattle.agreement.proofs.RefinedLemmas.ImportSteps.{asked_as}
use Rattle.agreement.proofs.RefinedLemmas.Blocks.{br_as, br_if_as, choose_as, entered_as}
use Rattle.agreement.proofs.RefinedLemmas.FunctionCalls as entering
use Rattle.agreement.proofs.RefinedLemmas.Globals.{global_get_as, global_set_as}
use Rattle.agreement.proofs.RefinedLemmas.FrameSteps.{Once, frame_as, framed, stuck_as}
use Rattle.agreement.proofs.RefinedLemmas.FunctionEnds.{leave_as}
use Rattle.agreement.proofs.RefinedLemmas.Locals.{local_get_as, local_set_as, local_tee_as}
use Rattle.agreement.proofs.RefinedLemmas.LookingSteps.{asked_looking_as}
use Rattle.agreement.proofs.RefinedLemmas.StoredCells.{word_at}
use Rattle.agreement.proofs.RefinedLemmas.Operators.{looked_word, operated_as, word_as}

-- where nothing is noted a store stays as it is
noted_nothing : (G : Store) (output : List Action) → output ≡ G.host.shared.output → record G { host = record G.host { shared = record G.host.shared { output = output } } } ≡ G
noted_nothing G output e = ap (λ (o : List Action). record G { host = record G.host { shared = record G.host.shared { output = o } } }) e

module _ {used : ℕ → Bool} {bs : List Bool} {u : Code} {m : ProgramForm} (linked : Linked used bs u m) (grow : ArraysGrow) where
  abbrev UsedOnly : Instructions → Type 0
  UsedOnly code = (n : ℕ) → calls_in n code ≡ true → used n ≡ true

  part : (code : Instructions) → UsedOnly code → CodeAs used bs code (renumbered bs code)
  part code o = record { same = refl; used_only = o }

  module _ {K : List Label} {L : List Cell} {F : List Frame} {k : Instructions} {G : Store} {c : real.Conf} {s : HostState} (ks : List Kind) (rest : RestAs used bs u K L F G c s) (code-is : CodeAs used bs k c.frame.code) where
    abbrev made : ℕ
    made = arrays_made G.host

    abbrev Next : Conf → Turn → Type 0
    Next p t = NextAs used bs u p c s t

    -- a call by its number
    call_as : (n : ℕ) (vs : List Cell) → used n ≡ true → WordsAs made s.names vs c.frame.values → Once rest vs c.frame.values L c.frame.locals → Next (call_number u n ks vs K L F k G) (called m (new_number bs n) c)
    call_as n vs used-n a once = by (nat_lt n import_count) refl
      where
        imported : (o : Option Import) → import_at n ≡ o → Next (ask u.memory o ks vs K L F k G) (called m (new_number bs n) c)
        imported None e = stuck_as c s (called m (new_number bs n) c)
        imported (Some i) e =
            subst (λ t. Next (ask u.memory (Some i) ks vs K L F k G) t) (sym (linked.imported n i c e used-n))
            (asked_as used bs u grow ks vs K L F k G c s (record { operands = a; code-is = code-is; rest = rest; once = once }) n i e)

        own : import_count + (n - import_count) ≡ n → (o : Option Callee) → slice_get u.callees (n - import_count) ≡ o → Next (enter u.deepest o ks vs K L F k G) (called m (new_number bs n) c)
        own q None e = stuck_as c s (called m (new_number bs n) c)
        own q (Some f) e =
            let h = linked.entered (n - import_count) f c e in
            subst (λ j. Next (enter u.deepest (Some f) ks vs K L F k G) (called m (new_number bs j) c)) q
            (subst (λ t. Next (enter u.deepest (Some f) ks vs K L F k G) t) (sym h.3) (entering.entered_as ks rest code-is f h.0 h.1 h.2 vs a once linked.deepest))

        by : (b : Bool) → nat_lt n import_count ≡ b → Next (cond b (ask u.memory (import_at n) ks vs K L F k G) (enter u.deepest (slice_get u.callees (n - import_count)) ks vs K L F k G)) (called m (new_number bs n) c)
        by true e = imported (import_at n) refl
        by false e = own (let h = ltb-false n import_count e in omega arith) (slice_get u.callees (n - import_count)) refl

    -- a statement begins
    nop_as : (vs : List Cell) → WordsAs made s.names vs c.frame.values → Once rest vs c.frame.values L c.frame.locals → Next (act u simple.Nop ks vs K L F k G) (Goes (with_frame c c.frame))
    nop_as vs a once = by (tidy u ks vs K L G) (noted u (Then (Plain simple.Nop) k) G) (noted_nothing G (u.notes (Then (Plain simple.Nop) k) G.host.shared.output) (linked.silent (Then (Plain simple.Nop) k) G.host.shared.output))
      where
        by : (b : Bool) (H : Store) → H ≡ G → Next (guarded b (at ks vs K L F k H)) (Goes (with_frame c c.frame))
        by false H e = stuck_as c s (Goes (with_frame c c.frame))
        by true H e = subst (λ (x : Store). Next (at ks vs K L F k x) (Goes (with_frame c c.frame))) (sym e) (frame_as rest ks vs K L k c.frame rest.labels rest.locals a code-is once)

    act_as : (p : Simple) (vs : List Cell) → UsedOnly (Then (Plain p) k) → WordsAs made s.names vs c.frame.values → Once rest vs c.frame.values L c.frame.locals → Next (act u p ks vs K L F k G) (turn_by m c (form.simple c.frame (renumbered_simple bs p)))
    act_as (simple.LocalGet x) vs o a once = local_get_as m ks rest code-is x vs a once
    act_as (simple.LocalSet x) vs o a once = local_set_as m ks rest code-is x vs c.frame.values a once
    act_as (simple.LocalTee x) vs o a once = local_tee_as m ks rest code-is x vs c.frame.values refl a once
    act_as (simple.GlobalGet x) vs o a once = global_get_as ks rest code-is x vs a once
    act_as (simple.GlobalSet x) vs o a once = global_set_as ks rest code-is x vs c.frame.values a once
    act_as (simple.Br n) vs o a once = br_as m ks rest n vs once
    act_as (simple.BrIf n) vs o a once = br_if_as m ks rest code-is n vs c.frame.values a once
    act_as (simple.Call n) vs o a once = call_as n vs (o n (ap (λ b. b || calls_in n k) (eq-eqb n n refl))) a once
    act_as simple.Nop vs o a once = nop_as vs a once
    act_as p vs o a once = operated_as m ks rest code-is p vs a once

    work_as : (i : Instruction) (vs : List Cell) → UsedOnly (Then i k) → WordsAs made s.names vs c.frame.values → Once rest vs c.frame.values L c.frame.locals → Next (work u i ks vs K L F k G) (turn_by m c (form.act c.frame (renumbered_one bs i)))
    work_as (Plain p) vs o a once = act_as p vs o a once
    work_as (Block None b) vs o a once = entered_as m ks rest code-is None None b (renumbered bs b) vs c.frame.values tt (part b (λ n e. o n (or_left (calls_in n b) (calls_in n k) e))) a once
    work_as (Loop None b) vs o a once =
        let body = part b (λ n e. o n (or_left (calls_in n b) (calls_in n k) e)) in
        entered_as m ks rest code-is (Some b) (Some (renumbered bs b)) b (renumbered bs b) vs c.frame.values body body a once
    work_as (If None p q) vs o a once =
        choose_as m ks rest code-is p q (renumbered bs p) (renumbered bs q) vs c.frame.values (part p (λ n e. o n (or_left (calls_in n p || calls_in n q) (calls_in n k) (or_left (calls_in n p) (calls_in n q) e))))
        (part q (λ n e. o n (or_left (calls_in n p || calls_in n q) (calls_in n k) (or_right (calls_in n p) (calls_in n q) e)))) a once
    work_as (BrTable ns n) vs o a once = stuck_as c s (turn_by m c (form.act c.frame (BrTable ns n)))
    work_as (Block (Some g) b) vs o a once = stuck_as c s (turn_by m c (form.act c.frame (Block (Some g) (renumbered bs b))))
    work_as (Loop (Some g) b) vs o a once = stuck_as c s (turn_by m c (form.act c.frame (Loop (Some g) (renumbered bs b))))
    work_as (If (Some g) p q) vs o a once = stuck_as c s (turn_by m c (form.act c.frame (If (Some g) (renumbered bs p) (renumbered bs q))))

  -- The frame at work is what it is once constants are pushed; it has no part in what a turn does beside.
  turn_frame : (c : real.Conf) (f : FrameForm) (l : form.Local) → turn_by m (with_frame c f) l ≡ turn_by m c l
  turn_frame c f (form.Goes g) = refl
  turn_frame c f (form.Calls n g) = refl
  turn_frame c f (form.CallsThrough n at g) = refl
  turn_frame c f (form.Works op g) = refl
  turn_frame c f (form.Leaves g) = refl
  turn_frame c f (form.Traps k) = refl
  turn_frame c f form.Stuck = refl

  from_frame : (p : Conf) (c : real.Conf) (f : FrameForm) (s : HostState) (l : form.Local) → NextAs used bs u p (with_frame c f) s (turn_by m (with_frame c f) l) → NextAs used bs u p c s (turn_by m c l)
  from_frame p c f s l h = let g = subst (λ t. NextAs used bs u p (with_frame c f) s t) (turn_frame c f l) h in record { taken = g.taken; over = g.over }

  run_as : (ks : List Kind) (vs : List Cell) (K : List Label) (L : List Cell) (F : List Frame) (code : Instructions) (G : Store) (c : real.Conf) (s : HostState) → As used bs u (Run ks vs K L F code G) c s → NextAs used bs u (run u ks vs K L F code G) c s (turn m c)
  run_as ks vs K L F code G c s a =
      subst (λ z. NextAs used bs u (run u ks vs K L F code G) c s (turn_by m c (next_at g z))) (sym a.code-is.same) (by code a.code-is.used_only)
    where
      g : FrameForm
      g = settled c.frame

      by : (code : Instructions) → UsedOnly code → NextAs used bs u (run u ks vs K L F code G) c s (turn_by m c (next_at g (renumbered bs code)))
      by Done o = from_frame (run u ks vs K L F Done G) c g s (form.at_end g g.labels) (leave_as m ks (framed a.rest K L g a.rest.labels a.rest.locals) vs K g.labels a.rest.labels a.operands a.once)
      by (Then i k) o =
          let f = record g { code = renumbered bs k } in
          from_frame (work u i ks vs K L F k G) c f s (form.act f (renumbered_one bs i))
          (work_as ks (framed a.rest K L f a.rest.labels a.rest.locals) (part k (λ n e. o n (or_right (calls_by n i) (calls_in n k) e))) i vs o a.operands a.once)

  run_looking_as : (x : ℕ) (ks : List Kind) (vs : List Cell) (K : List Label) (L : List Cell) (F : List Frame) (code : Instructions) (G : Store) (c : real.Conf) (s : HostState) → LookAs used bs u x vs K L F code G c s →
      NextAs used bs u (run_looking u x ks vs K L F code G) c s (turn m c)
  run_looking_as x ks vs K L F code G c s a =
      subst (λ z. Next code (local c.frame.values z)) (sym a.run.code-is.same) (subst (λ z. Next code (local z (renumbered bs code))) (sym a.values) (by code a.run.code-is.used_only))
    where
      Next : Instructions → form.Local → Type 0
      Next k l = NextAs used bs u (run_looking u x ks vs K L F k G) c s (turn_by m c l)

      local : List Word → Instructions → form.Local
      local ws k = form.local_step (record c.frame { values = ws; code = k })

      -- the frame once the look is on the operands, and this code is next
      frame : List Word → Instructions → FrameForm
      frame ws k = record c.frame { values = ws; code = renumbered bs k }

      here : (ws : List Word) (k : Instructions) → RestAs used bs u K L F G (with_frame c (frame ws k)) s
      here ws k = framed a.run.rest K L (frame ws k) a.run.rest.labels a.run.rest.locals

      same : WordAs (arrays_made G.host) s.names (cell_at L x) a.word
      same = word_at (arrays_made G.host) s.names L c.frame.locals x a.word a.run.rest.locals a.seen

      compared_as : (n : ℕ) (op : IRelOp) (k : Instructions) → UsedOnly k → Next (Then (Plain (simple.I32Const n)) (Then (Plain (simple.Compare ty.I32 op)) k)) (pushed (frame (I32 n ∷ (a.word ∷ a.words)) k) a.words (compare_of ty.I32 op a.word (I32 n)))
      compared_as n op k o =
          from_frame (run_looking u x ks vs K L F (Then (Plain (simple.I32Const n)) (Then (Plain (simple.Compare ty.I32 op)) k)) G) c (frame (I32 n ∷ (a.word ∷ a.words)) k) s
          (pushed (frame (I32 n ∷ (a.word ∷ a.words)) k) a.words (compare_of ty.I32 op a.word (I32 n)))
          (word_as m ks (here (I32 n ∷ (a.word ∷ a.words)) k) (part k o) (looked_compared op (cell_at L x) n) (compare_of ty.I32 op a.word (I32 n)) vs a.words
          (looked_word (arrays_made G.host) s.names op (cell_at L x) a.word n same) a.run.operands a.run.once)

      asked-as : (n : ℕ) (k : Instructions) → UsedOnly k → used n ≡ true → (i : Option Import) → import_at n ≡ i →
          NextAs used bs u (ask_looking i (cell_at L x) ks vs K L F k G) c s (called m (new_number bs n) (with_frame c (frame (a.word ∷ a.words) k)))
      asked-as n k o used-n None e = stuck_as c s (called m (new_number bs n) (with_frame c (frame (a.word ∷ a.words) k)))
      asked-as n k o used-n (Some i) e =
          let c1 = with_frame c (frame (a.word ∷ a.words) k) in
          let h = asked_looking_as grow ks (here (a.word ∷ a.words) k) (part k o) vs a.words a.run.operands a.run.once (cell_at L x) a.word same refl n i e in
          subst (λ t. NextAs used bs u (ask_looking (Some i) (cell_at L x) ks vs K L F k G) c s t) (sym (linked.imported n i c1 e used-n)) (record { taken = h.taken; over = h.over })

      by : (k : Instructions) → UsedOnly k → Next k (local (a.word ∷ a.words) (renumbered bs k))
      by (Then (Plain (simple.I32Const n)) (Then (Plain (simple.Compare ty.I32 op)) k)) o = compared_as n op k (λ j e. o j e)
      by (Then (Plain (simple.Call n)) k) o = asked-as n k (λ j e. o j (or_right (is_call j (simple.Call n)) (calls_in j k) e)) (o n (ap (λ b. b || calls_in n k) (eq-eqb n n refl))) (import_at n) refl
      by k o = stuck_as c s (turn_by m c (local (a.word ∷ a.words) (renumbered bs k)))

  -- where the machine is over it takes no step
  abbrev pub IsOpen : Conf → Type 0
  IsOpen (Over v G) = ⊥
  IsOpen p = Unit {0}

  -- THE STEP
  pub step_as : (p : Conf) (c : real.Conf) (s : HostState) → IsOpen p → As used bs u p c s → NextAs used bs u (step u p) c s (turn m c)
  step_as (Run ks vs K L F code G) c s open-is a = run_as ks vs K L F code G c s a
  step_as (Look x ks vs K L F code G) c s open-is a = run_looking_as x ks vs K L F code G c s a
  step_as (Over v G) c s open-is a = absurd open-is
  step_as (Deep G) c s open-is a = absurd a
  step_as Stuck c s open-is a = stuck_as c s (turn m c)
