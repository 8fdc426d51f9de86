-- Whole runs: so many steps of the real machine are as many of the machine over values.
use Rattle.std.proofs.Common.{◌≡◌, ℕ, zero, suc, Bool, List, [], ◌∷◌, Option, Some, sym, ap, ◌∙◌, subst}
use Rattle.world_core.specs.WorldState.{Action}
use Rattle.wasm_types.specs.Syntax.{Done}
use Rattle.wasm_types.specs.declared.types.ValType.{ValType}
use Rattle.wasm_model.specs.Frames.{FrameForm}
use Rattle.wasm_model.specs.Frames as form
use Rattle.wasm_model.specs.Machines.{CallerForm, Ends, ProgramForm, returned_with, to_caller, turn, turn_by, with_frame}
use Rattle.wasm_model.specs.Machines as real
use Rattle.wasm_model.specs.Runs.{OverBy, Ran, Steps, TakenAs}
use Rattle.wasm_model.specs.declared.ends.End.{End}
use Rattle.wasm_model.specs.declared.ends.End.TheVariants as ends
use Rattle.wasm_model.specs.declared.ends.RunEnd.{RunEnd}
use Rattle.wasm_model.specs.declared.ends.RunEnd.TheVariants.{Ended, OutOfSteps, NoMemory}
use Rattle.host_step.specs.HostState.{HostState}
use Rattle.lower_model.specs.Cells.{Cell}
use Rattle.lower_model.specs.Machine.{Code, Conf, Deep, Look, Over, Run, Store, Stuck, go, step}
use Rattle.agreement.specs.Refined.Growing.{ArraysGrow}
use Rattle.agreement.specs.Refined.Refined.{As, LeftAs, Linked}
use Rattle.agreement.specs.Modules.TableMeaning.{table_meaning}
use Rattle.agreement.specs.Refined.Running.{EndedAs, RanAs}
use Rattle.agreement.proofs.RefinedLemmas.Stepping.{step_as}

module _ {used : ℕ → Bool} {bs : List Bool} {u : Code} {m : ProgramForm} (linked : Linked used bs u m) (grow : ArraysGrow) where
  -- `main` is left: the frame of the entry ends, and the run with it
  pub left_turn : (v : Cell) (G : Store) (c : real.Conf) (s : HostState) (a : LeftAs used bs u v G c s) → turn m c ≡ Ends (ends.Returned (Some a.word))
  left_turn v G c s a =
      ap (λ (f : FrameForm). turn_by m c (form.local_step f)) a.frame
      ∙ (ap (λ (q : Option ValType). returned_with (with_frame c (record { values = a.word ∷ []; labels = []; locals = []; code = Done })) q (a.word ∷ [])) a.result
      ∙ ap (λ (q : List CallerForm). to_caller c (a.word ∷ []) (Some a.word) q) a.callers)

  -- one step is one step
  pub taken_as : (p : Conf) (c : real.Conf) (s : HostState) (out : List Action) (c1 : real.Conf) (s1 : HostState) → As used bs u p c s → TakenAs table_meaning (turn m c) s c.memory out c1 s1 → As used bs u (step u p) c1 s1
  taken_as (Over v G) c s out c1 s1 a t = absurd (subst (λ z. TakenAs table_meaning z s c.memory out c1 s1) (left_turn v G c s a) t)
  taken_as (Run ks vs K L F code G) c s out c1 s1 a t = (step_as linked grow (Run ks vs K L F code G) c s tt a).taken c1 s1 out t
  taken_as (Look x ks vs K L F code G) c s out c1 s1 a t = (step_as linked grow (Look x ks vs K L F code G) c s tt a).taken c1 s1 out t
  taken_as (Deep G) c s out c1 s1 a t = absurd a
  taken_as Stuck c s out c1 s1 a t = tt

  over_as : (p : Conf) (c : real.Conf) (s : HostState) (out : List Action) (e : End) (s1 : HostState) → As used bs u p c s → OverBy table_meaning (turn m c) s c.memory out e s1 → EndedAs used bs u p e s s1 out
  over_as (Over v G) c s out e s1 a t = let h = subst (λ z. OverBy table_meaning z s c.memory out e s1) (left_turn v G c s a) t in (a.word, a.same, h.0, h.1, h.2)
  over_as (Run ks vs K L F code G) c s out e s1 a t = (step_as linked grow (Run ks vs K L F code G) c s tt a).over e s1 out t
  over_as (Look x ks vs K L F code G) c s out e s1 a t = (step_as linked grow (Look x ks vs K L F code G) c s tt a).over e s1 out t
  over_as (Deep G) c s out e s1 a t = absurd a
  over_as Stuck c s out e s1 a t = (step_as linked grow Stuck c s tt a).over e s1 out t

  -- n steps are n steps
  pub steps_as : (n : ℕ) (p : Conf) (c : real.Conf) (s : HostState) (out : List Action) (c1 : real.Conf) (s1 : HostState) → As used bs u p c s → Steps table_meaning m n c s out c1 s1 → As used bs u (go u n p) c1 s1
  steps_as zero p c s out c1 s1 a t = subst (λ z. As used bs u p z s1) (sym t.0) (subst (λ z. As used bs u p c z) (sym t.1) a)
  steps_as (suc n) p c s out c1 s1 a t = steps_as n (step u p) t.0 t.1 t.3 c1 s1 (taken_as p c s t.2 t.0 t.1 a t.4) t.5

  -- THE RUN: whatever the host answers, and whatever numbers it gives out
  pub ran_as : (n : ℕ) (p : Conf) (c : real.Conf) (s : HostState) (out : List Action) (r : RunEnd) (c1 : real.Conf) (s1 : HostState) → As used bs u p c s → Ran table_meaning m n c s out r c1 s1 → RanAs used bs u n p r c1 s1
  ran_as n p c s out OutOfSteps c1 s1 a t = steps_as n p c s out c1 s1 a t.0
  ran_as n p c s out (Ended e) c1 s1 a t =
      let h = steps_as t.0 p c s t.4 t.2 t.3 a t.6 in
      (t.0, t.1, t.2, t.3, t.5, h, over_as (go u t.0 p) t.2 t.3 t.5 e s1 h t.7)
  ran_as n p c s out NoMemory c1 s1 a t = (t.0, t.1, t.2, t.3, steps_as t.0 p c s t.4 t.2 t.3 a t.7)
