-- A run of a module with a probe is one of the machine over values with notes.
use Rattle.std.proofs.Common.{◌≡◌, ℕ, zero, suc, Bool, List, [], ◌∷◌, ◌++◌, Some, None, refl, sym, ap, ap₂, subst, ◌∙◌, append-nil}
use Rattle.world_core.specs.WorldState.{Action}
use Rattle.wasm_types.specs.Syntax.{Instruction, Plain, BrTable, Block, Loop, If, Instructions, Done, Then}
use Rattle.wasm_types.specs.declared.types.ValType.TheVariants as ty
use Rattle.wasm_types.specs.declared.instr.Simple.{Simple}
use Rattle.wasm_types.specs.declared.instr.Simple.TheVariants as simple
use Rattle.wasm_store.specs.Memories.{MemoryForm}
use Rattle.wasm_model.specs.Frames.{settled_code, settled_values}
use Rattle.wasm_model.specs.Machines.{Goes, Ends, Asks, Turn, turn}
use Rattle.wasm_model.specs.Machines as real
use Rattle.wasm_model.specs.Runs.{TakenAs}
use Rattle.wasm_model.specs.declared.host.HostAnswer.TheVariants as told
use Rattle.host_step.specs.HostState.{HostState}
use Rattle.host_imports.specs.Imports.{import_at}
use Rattle.host_step.specs.Worlds.{with_output}
use Rattle.mid_program.specs.Mid.{Kind, Program}
use Rattle.lower_model.specs.Cells.{Cell}
use Rattle.lower_model.specs.Machine.{Code, Conf, Run, Look, Over, Deep, Stuck, Frame, Label, Store, act, go, leave, noted, run, run_looking, step, work}
use Rattle.lower_model.specs.Modules.{called_imports, renumbered}
use Rattle.lower_model.specs.Runs.{code_of, noting_code}
use Rattle.agreement.specs.Refined.Refined.{As, LookAs, RestAs, RunAs}
use Rattle.agreement.specs.Modules.TableMeaning.{table_meaning}
use Rattle.agreement.proofs.RefinedLemmas.Growing.{arrays_grow}
use Rattle.agreement.proofs.RefinedLemmas.Links.{linked, program, stays}
use Rattle.agreement.proofs.RefinedLemmas.Running.{left_turn, taken_as}
use Rattle.host_values.proofs.AnyOutput.{step_free}
use Rattle.agreement.specs.Passed.Passed.{Probe, ProbedSteps, probed_at}
use Rattle.agreement.specs.Passed.Probes.{notes_of}

-- A step over a host, whatever was put out before.

same_output : (o out : List Action) (s s1 : HostState) → s1 ≡ s → out ≡ [] → with_output (o ++ out) s1 ≡ with_output o s
same_output o out s s1 e n = ap₂ (λ (x : List Action) (z : HostState). with_output (o ++ x) z) n e ∙ ap (λ (x : List Action). with_output x s) (append-nil o)

taken_free : (t : Turn) (mem : MemoryForm) (o out : List Action) (s : HostState) (c1 : real.Conf) (s1 : HostState) → TakenAs table_meaning t s mem out c1 s1 → TakenAs table_meaning t (with_output o s) mem out c1 (with_output (o ++ out) s1)
taken_free (Goes c) mem o out s c1 s1 h = (h.0, same_output o out s s1 h.1 h.2, h.2)
taken_free (Ends e) mem o out s c1 s1 h = absurd h
taken_free (Asks i args c) mem o out s c1 s1 h = (h.0, (h.1.0, step_free o (import_at i) s args mem.bytes (told.Done h.0) s1 out h.1.1), h.2)

module _ (p : Program) (probe : Probe) where
  abbrev bs : List Bool
  bs = called_imports p

  abbrev pub quiet : Code
  quiet = code_of p 9999

  abbrev pub noting : Code
  noting = noting_code (notes_of p probe) p 9999

  -- what was put out at a place
  abbrev put : List Action → Store → Store
  put o G = record G { host = record G.host { shared = record G.host.shared { output = o } } }

  abbrev noted_by : Instructions → Store → Store
  noted_by (Then (Plain simple.Nop) k) G = noted noting (Then (Plain simple.Nop) k) G
  noted_by _ G = G

  -- a place, once it is noted that a statement begins there
  abbrev noted_in : Conf → Conf
  noted_in (Run ks vs K L F code G) = Run ks vs K L F code (noted_by code G)
  noted_in c = c

  -- The machine with notes takes the step of the machine without them from there.

  act_alike : (i : Simple) (ks : List Kind) (vs : List Cell) (K : List Label) (L : List Cell) (F : List Frame) (k : Instructions) (G : Store) → act noting i ks vs K L F k G ≡ act quiet i ks vs K L F k (noted_by (Then (Plain i) k) G)
  act_alike simple.Nop ks vs K L F k G = refl
  act_alike (simple.GlobalSet x) ks [] K L F k G = refl
  act_alike (simple.GlobalSet x) ks (v ∷ vs) K L F k G = refl
  act_alike i ks vs K L F k G = refl

  work_alike : (i : Instruction) (ks : List Kind) (vs : List Cell) (K : List Label) (L : List Cell) (F : List Frame) (k : Instructions) (G : Store) → work noting i ks vs K L F k G ≡ work quiet i ks vs K L F k (noted_by (Then i k) G)
  work_alike (Plain i) ks vs K L F k G = act_alike i ks vs K L F k G
  work_alike (BrTable ds d) ks vs K L F k G = refl
  work_alike (Block None b) ks vs K L F k G = refl
  work_alike (Block (Some t) b) ks vs K L F k G = refl
  work_alike (Loop None b) ks vs K L F k G = refl
  work_alike (Loop (Some t) b) ks vs K L F k G = refl
  work_alike (If None a b) ks vs K L F k G = refl
  work_alike (If (Some t) a b) ks vs K L F k G = refl

  leave_alike : (ks : List Kind) (vs : List Cell) (K : List Label) (L : List Cell) (F : List Frame) (G : Store) → leave noting ks vs K L F G ≡ leave quiet ks vs K L F G
  leave_alike ks vs (l ∷ K) L F G = refl
  leave_alike ks [] [] L F G = refl
  leave_alike ks (v ∷ vs) [] L [] G = refl
  leave_alike ks (v ∷ vs) [] L (f ∷ F) G = refl

  pub run_alike : (ks : List Kind) (vs : List Cell) (K : List Label) (L : List Cell) (F : List Frame) (code : Instructions) (G : Store) → run noting ks vs K L F code G ≡ run quiet ks vs K L F code (noted_by code G)
  run_alike ks vs K L F Done G = leave_alike ks vs K L F G
  run_alike ks vs K L F (Then i k) G = work_alike i ks vs K L F k G

  pub looking_alike : (x : ℕ) (ks : List Kind) (vs : List Cell) (K : List Label) (L : List Cell) (F : List Frame) (code : Instructions) (G : Store) → run_looking noting x ks vs K L F code G ≡ run_looking quiet x ks vs K L F code G
  looking_alike x ks vs K L F (Then (Plain (simple.I32Const n)) (Then (Plain (simple.Compare ty.I32 op)) c)) G = refl
  looking_alike x ks vs K L F (Then (Plain (simple.Call n)) c) G = refl
  looking_alike x ks vs K L F c G = refl

  -- Both machines stand to the module's as before.

  module _ {K : List Label} {L : List Cell} {F : List Frame} {G : Store} {c : real.Conf} {s : HostState} where
    rest_put : (o : List Action) → RestAs (stays p) bs quiet K L F G c s → RestAs (stays p) bs quiet K L F (put o G) c (with_output o s)
    rest_put o r = record {
      labels = r.labels;
      locals = r.locals;
      globals = r.globals;
      callers = r.callers;
      result = r.result;
      host = ap (with_output o) r.host;
      arrays = r.arrays;
      behind = r.behind;
      memory = r.memory;
    }

  abbrev Rel : Conf → real.Conf → HostState → Type 0
  Rel q c s = As (stays p) bs quiet q c s

  -- what is noted at a place of the code the probe adds at that of the module
  place_noted : (ks : List Kind) (vs : List Cell) (K : List Label) (L : List Cell) (F : List Frame) (code : Instructions) (G : Store) (c : real.Conf) (s : HostState) (o : List Action) (next : Instructions) → next ≡ renumbered bs code →
      Rel (Run ks vs K L F code G) c (with_output o s) → Rel (Run ks vs K L F code (noted_by code G)) c (with_output (probed_at probe next o) s)
  place_noted ks vs K L F code G c s o next q a =
      subst (λ (x : Instructions). Rel (Run ks vs K L F code (noted_by code G)) c (with_output (probed_at probe x o) s)) (sym q) (by code a)
    where
      by : (code : Instructions) → Rel (Run ks vs K L F code G) c (with_output o s) → Rel (Run ks vs K L F code (noted_by code G)) c (with_output (probed_at probe (renumbered bs code) o) s)
      by (Then (Plain simple.Nop) k) h =
          let o1 : List Action = o ++ probe (Then (Plain simple.Nop) (renumbered bs k)) in
          let was : o ≡ G.host.shared.output = ap (λ (z : HostState). z.shared.output) h.rest.host in
          subst (λ (x : List Action). RunAs (stays p) bs quiet vs K L F (Then (Plain simple.Nop) k) (put (x ++ probe (Then (Plain simple.Nop) (renumbered bs k))) G) (settled_values c.frame.values c.frame.code) (settled_code c.frame.code) c (with_output o1 s)) was
          (record { operands = h.operands; code-is = h.code-is; rest = rest_put o1 h.rest; once = h.once })
      by Done h = h
      by (Then i k) h = h

  -- one step is one step
  probed_step : (q : Conf) (c : real.Conf) (s : HostState) (o : List Action) (c1 : real.Conf) (s1 : HostState) (out : List Action) → Rel q c (with_output o s) → TakenAs table_meaning (turn (program p) c) s c.memory out c1 s1 →
      Rel (step noting q) c1 (with_output (probed_at probe (settled_code c.frame.code) o ++ out) s1)
  probed_step (Run ks vs K L F code G) c s o c1 s1 out a t =
      let o1 = probed_at probe (settled_code c.frame.code) o in
      subst (λ (x : Conf). Rel x c1 (with_output (o1 ++ out) s1)) (sym (run_alike ks vs K L F code G))
      (taken_as (linked p) arrays_grow (Run ks vs K L F code (noted_by code G)) c (with_output o1 s) out c1 (with_output (o1 ++ out) s1) (place_noted ks vs K L F code G c s o (settled_code c.frame.code) a.code-is.same a)
      (taken_free (turn (program p) c) c.memory o1 out s c1 s1 t))
  probed_step (Look x ks vs K L F code G) c s o c1 s1 out a t = by code (c.frame.code) a.run.code-is.same a
    where
      free : TakenAs table_meaning (turn (program p) c) (with_output o s) c.memory out c1 (with_output (o ++ out) s1)
      free = taken_free (turn (program p) c) c.memory o out s c1 s1 t

      by : (code next : Instructions) → next ≡ renumbered bs code → LookAs (stays p) bs quiet x vs K L F code G c (with_output o s) → Rel (run_looking noting x ks vs K L F code G) c1 (with_output (probed_at probe (settled_code next) o ++ out) s1)
      by (Then (Plain (simple.I32Const n)) (Then (Plain (simple.Compare ty.I32 op)) k)) next e h =
          subst (λ (z : Instructions). Rel (run_looking noting x ks vs K L F (Then (Plain (simple.I32Const n)) (Then (Plain (simple.Compare ty.I32 op)) k)) G) c1 (with_output (probed_at probe (settled_code z) o ++ out) s1)) (sym e)
          (taken_as (linked p) arrays_grow (Look x ks vs K L F (Then (Plain (simple.I32Const n)) (Then (Plain (simple.Compare ty.I32 op)) k)) G) c (with_output o s) out c1 (with_output (o ++ out) s1) h free)
      by (Then (Plain (simple.Call n)) k) next e h =
          subst (λ (z : Instructions). Rel (run_looking noting x ks vs K L F (Then (Plain (simple.Call n)) k) G) c1 (with_output (probed_at probe (settled_code z) o ++ out) s1)) (sym e)
          (taken_as (linked p) arrays_grow (Look x ks vs K L F (Then (Plain (simple.Call n)) k) G) c (with_output o s) out c1 (with_output (o ++ out) s1) h free)
      by k next e h = tt
  probed_step (Over v G) c s o c1 s1 out a t = absurd (subst (λ (z : Turn). TakenAs table_meaning z s c.memory out c1 s1) (left_turn (linked p) arrays_grow v G c (with_output o s) a) t)
  probed_step (Deep G) c s o c1 s1 out a t = absurd a
  probed_step Stuck c s o c1 s1 out a t = tt

  -- n steps are n steps
  pub probed_steps : (n : ℕ) (q : Conf) (c : real.Conf) (s : HostState) (o : List Action) (c1 : real.Conf) (s1 : HostState) (o1 : List Action) → As (stays p) (called_imports p) (code_of p 9999) q c (with_output o s) → ProbedSteps probe (program p) n c s o c1 s1 o1 →
      As (stays p) (called_imports p) (code_of p 9999) (go (noting_code (notes_of p probe) p 9999) n q) c1 (with_output o1 s1)
  probed_steps zero q c s o c1 s1 o1 a t = subst (λ (x : List Action). Rel q c1 (with_output x s1)) (sym t.2) (subst (λ (x : HostState). Rel q c1 (with_output o x)) (sym t.1) (subst (λ (x : real.Conf). Rel q x (with_output o s)) (sym t.0) a))
  probed_steps (suc n) q c s o c1 s1 o1 a t =
      probed_steps n (step noting q) t.0 t.1 (probed_at probe (settled_code c.frame.code) o ++ t.2) c1 s1 o1 (probed_step q c s o t.0 t.1 t.2 a t.3) t.4
