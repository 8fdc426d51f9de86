-- A run of a module passes its places as its program executes statements.
use Rattle.std.proofs.Common.{◌≡◌, ℕ, zero, suc, ◌+◌, ◌≤◌, ◌^◌, ◌%◌, Bool, true, false, cond, nat_lt, List, [], ◌++◌, Some, None, Option, inl, inr, refl, sym, ap, ap₂, subst, ◌∙◌, append-nil, arith}
use Rattle.sem_primitives.specs.Jobs.{JobForm, Environment}
use Rattle.world_core.specs.WorldState.{Action, Source}
use Rattle.awk_values.specs.declared.fault.Fault.{Fault}
use Rattle.wasm_types.specs.Syntax.{Plain, Instructions, Done, Then}
use Rattle.wasm_types.specs.declared.instr.Simple.TheVariants as simple
use Rattle.wasm_store.specs.declared.word.Word.TheVariants.{I32, I64}
use Rattle.wasm_model.specs.Frames.{next_at, settled, settled_code}
use Rattle.wasm_model.specs.Machines.{Ends, Goes, ProgramForm, Turn, turn, turn_by}
use Rattle.wasm_model.specs.Machines as real
use Rattle.wasm_model.specs.Runs.{MachineForm, OverBy, TakenAs, told_end}
use Rattle.wasm_model.specs.declared.ends.MachineEnd.{MachineEnd}
use Rattle.wasm_model.specs.declared.ends.End.{End}
use Rattle.host_step.specs.HostState.{HostState}
use Rattle.host_step.specs.Starts.{state_in}
use Rattle.host_step.specs.Worlds.{with_output}
use Rattle.sem_scripts.specs.MoreTurns.{Grows, output_of}
use Rattle.mid_program.specs.Mid.{Program}
use Rattle.mid_program.specs.MidMeaning.{mid_run_in}
use Rattle.sem_scripts.specs.ScriptRun.{Ending, Setting, Ended, FaultedBy, Exhausted, setting_in}
use Rattle.mid_program.specs.Sorted.{IsSorted}
use Rattle.lower_model.specs.Cells.{Cell, Bits, Held, LentArray, OwnedArray, IteratorOf, Gone}
use Rattle.lower_model.specs.Follows.{FollowsNoted}
use Rattle.lower_model.specs.Machine.{Code, Notes, Conf, Run, Look, Over, Deep, Stuck, Store, ending_at, go, status_of, step}
use Rattle.lower_model.specs.Modules.{called_imports, module_of, renumbered}
use Rattle.lower_model.specs.Noted.{noted_run_in}
use Rattle.lower_model.specs.Runs.{begun, code_of, noting_code, noting_run}
use Rattle.lower_model.proofs.CodeFollows.{code_notes}
use Rattle.lower_model.proofs.Runs.{go_add}
use Rattle.lower_model.proofs.Silent.{silent_run}
use Rattle.agreement.specs.Refined.Refined.{As, EndAs}
use Rattle.agreement.specs.Modules.TableMeaning.{table_meaning}
use Rattle.agreement.proofs.RefinedLemmas.Beginning.{begins, begun_as, in_main}
use Rattle.agreement.proofs.RefinedLemmas.Growing.{arrays_grow}
use Rattle.agreement.proofs.RefinedLemmas.Links.{linked, program, program_is, stays}
use Rattle.agreement.proofs.RefinedLemmas.Stepping.{step_as}
use Rattle.agreement.specs.Modules.ValueAgreement.{AgreesWith}
use Rattle.agreement.specs.Modules.Over.{IsOver}
use Rattle.agreement.proofs.ModulesLemmas.Agreeing.{agreement_with}
use Rattle.agreement.proofs.ModulesLemmas.Growing.{shows_put}
use Rattle.agreement.specs.Passed.Passed.{Probe, no_probe, ProbedRun, ProbedSteps, Passes, probed_at}
use Rattle.agreement.specs.Passed.Probes.{notes_of, probed_run}
use Rattle.agreement.proofs.PassedLemmas.Probed.{looking_alike, probed_steps, run_alike}

-- a probe only adds
adds : (p : Program) (probe : Probe) (code : Instructions) (output : List Action) → Grows output (notes_of p probe code output)
adds p probe code output = (probe (renumbered (called_imports p) code), refl)

agree : (p : Program) → IsSorted p → (probe : Probe) → AgreesWith (notes_of p probe) p (probed_run p probe)
agree p sorted probe =
    let f : FollowsNoted p = code_notes p sorted in
    agreement_with (notes_of p probe) (adds p probe) p (probed_run p probe) (record { bound = f.bound; shown = f.shown (notes_of p probe) })

abbrev IsOverIf : Option Ending → Type 0
IsOverIf None = Unit {0}
IsOverIf (Some e) = IsOver e

status_over : (v : Cell) (G : Store) (e : Ending) → status_of v G ≡ Some e → IsOver e
status_over (Bits (I32 n)) G e eq = by (nat_lt n (2 ^ 32)) eq
  where
    by : (b : Bool) → cond b (Some (Ended (n % 256) G.host.shared.output)) None ≡ Some e → IsOver e
    by true q = subst IsOverIf q tt
    by false q = cc
status_over (Bits (I64 n)) G e eq = cc
status_over (Held v) G e eq = cc
status_over (LentArray a) G e eq = cc
status_over (OwnedArray a) G e eq = cc
status_over (IteratorOf t) G e eq = cc
status_over Gone G e eq = cc

over_over : (f : Option Fault) (v : Cell) (G : Store) (e : Ending) → elim f [ Some fault ↦ Some (FaultedBy fault G.host.shared.output) | None ↦ status_of v G ] ≡ Some e → IsOver e
over_over None v G e eq = status_over v G e eq
over_over (Some fault) v G e eq = subst IsOverIf eq tt

no_end : (t : Turn) (c : real.Conf) (e : End) → t ≡ Goes c → t ≡ Ends e → ⊥
no_end t c e a b = let q = sym a ∙ b in cc

go_after : (u : Code) (k : ℕ) (c : Conf) → go u (suc k) c ≡ step u (go u k c)
go_after u k c = ap (λ z. go u z c) (let j : suc k ≡ k + 1 = omega arith in j) ∙ go_add u k 1 c

module _ (p : Program) (probe : Probe) (values : AgreesWith (notes_of p probe) p (probed_run p probe)) (job : JobForm) (input : Source) (outside : Environment) where
  abbrev s : Setting
  s = setting_in job input outside

  abbrev place : ℕ → Conf
  place n = go (noting_code (notes_of p probe) p 9999) n (begun p s)

  abbrev Rel : Conf → real.Conf → HostState → Type 0
  Rel q c h = As (stays p) (called_imports p) (code_of p 9999) q c h

  -- where a run is after the first step, which calls `main`
  record There (n : ℕ) (c : real.Conf) (h : HostState) (o : List Action) : Type 0 where
    it : Rel (place n) c (with_output o h)

  there : (n : ℕ) (a : MachineForm) (c : real.Conf) (h : HostState) (o : List Action) → ProbedRun probe (module_of p) job input outside (suc n) a c h o → There n c h o
  there n a c h o r =
      let t = r.taken in
      let first = subst (λ (z : Turn). TakenAs table_meaning z (state_in job input outside) a.conf.memory t.2 t.0 t.1) (begins p a r.is_new) t.3 in
      let none : probed_at probe (settled_code a.conf.frame.code) [] ++ t.2 ≡ [] = ap₂ (λ (x y : List Action). x ++ y) (ap (λ (z : real.Conf). probed_at probe (settled_code z.frame.code) []) r.is_new.conf) first.2 in
      let steps : ProbedSteps probe (program p) n (in_main p) (state_in job input outside) [] c h o =
      subst (λ (z : List Action). ProbedSteps probe (program p) n (in_main p) (state_in job input outside) z c h o) none
      (subst (λ (z : HostState). ProbedSteps probe (program p) n (in_main p) z (probed_at probe (settled_code a.conf.frame.code) [] ++ t.2) c h o) first.1
      (subst (λ (z : real.Conf). ProbedSteps probe (program p) n z t.1 (probed_at probe (settled_code a.conf.frame.code) [] ++ t.2) c h o) first.0
      (subst (λ (m : ProgramForm). ProbedSteps probe m n t.0 t.1 (probed_at probe (settled_code a.conf.frame.code) [] ++ t.2) c h o) (program_is p a r.is_new) t.4))) in
      record { it = probed_steps p probe n (begun p s) (in_main p) (state_in job input outside) [] c h o (begun_as p s 9999) steps }

  -- what is put out there
  put_there : (q : Conf) (c : real.Conf) (h : HostState) (o : List Action) (e : Ending) → ending_at q ≡ Some e → Rel q c (with_output o h) → output_of e ≡ o
  put_there (Run ks vs K L F code G) c h o e eq a = shows_put (Run ks vs K L F code G) e eq ∙ sym (ap (λ (z : HostState). z.shared.output) a.rest.host)
  put_there (Look x ks vs K L F code G) c h o e eq a = shows_put (Look x ks vs K L F code G) e eq ∙ sym (ap (λ (z : HostState). z.shared.output) a.run.rest.host)
  put_there (Over v G) c h o e eq a = shows_put (Over v G) e eq ∙ sym (ap (λ (z : HostState). z.shared.output) a.host)
  put_there (Deep G) c h o e eq a = absurd a
  put_there Stuck c h o e eq a = cc

  -- so far
  so_far : (n : ℕ) (a : MachineForm) (c : real.Conf) (h : HostState) (o : List Action) → ProbedRun probe (module_of p) job input outside n a c h o → (turns : ℕ) × Grows o (output_of (probed_run p probe s turns))
  so_far zero a c h o r = (zero, subst (λ (z : List Action). Grows z (output_of (probed_run p probe s zero))) (sym r.taken.2) (output_of (probed_run p probe s zero), refl))
  so_far (suc n) a c h o r =
      let g = values.never_stuck s n in
      let w = values.output_machine s n g.0 g.1 in
      (w.0, subst (λ (z : List Action). Grows z (output_of (probed_run p probe s w.0))) (put_there (place n) c h o g.0 g.1 (there n a c h o r).it) w.1)

  -- in time
  in_time : (turns : ℕ) → (enough : ℕ) × ((n : ℕ) (a : MachineForm) (c : real.Conf) (h : HostState) (o : List Action) → enough ≤ n → ProbedRun probe (module_of p) job input outside n a c h o → Grows (output_of (probed_run p probe s turns)) o)
  in_time turns =
      let w = values.output_program s turns in
      (suc w.0, λ n a c h o le r. by n a c h o le r w.0 refl w.2)
    where
      by : (n : ℕ) (a : MachineForm) (c : real.Conf) (h : HostState) (o : List Action) {enough : ℕ} → suc enough ≤ n → ProbedRun probe (module_of p) job input outside n a c h o → (k : ℕ) → k ≡ enough →
          ((m : ℕ) (g : Ending) → k ≤ m → noting_run (notes_of p probe) p s m ≡ Some g → Grows (output_of (probed_run p probe s turns)) (output_of g)) → Grows (output_of (probed_run p probe s turns)) o
      by zero a c h o le r k same later = absurd (omega (arith, le))
      by (suc n) a c h o le r k same later =
          let g = values.never_stuck s n in
          subst (λ (z : List Action). Grows (output_of (probed_run p probe s turns)) z) (put_there (place n) c h o g.0 g.1 (there n a c h o r).it) (later n g.0 (omega (arith, le, same)) g.1)

  -- where a run ends

  abbrev OverAt : List Action → Type 0
  OverAt o = (turns : ℕ) × IsOver (probed_run p probe s turns) × (output_of (probed_run p probe s turns) ≡ o)

  over_by : (n : ℕ) (e : Ending) (o : List Action) → IsOver e → noting_run (notes_of p probe) p s n ≡ Some e → output_of e ≡ o → OverAt o
  over_by n e o over shows put =
      let w = values.backward s n e over shows in
      (w.0, subst IsOver (sym w.1) over, ap output_of w.1 ∙ put)

  abbrev mach : Code
  mach = noting_code (notes_of p probe) p 9999

  -- the step after n steps is the last one
  last : (n : ℕ) (q : Conf) (o : List Action) (c : real.Conf) (h : HostState) (e : End) (t : MachineEnd) → place n ≡ q → step mach q ≡ step (code_of p 9999) q → EndAs (stays p) (called_imports p) (code_of p 9999) (step (code_of p 9999) q) e (with_output o h) (with_output o h) [] → told_end e ≡ Some t → OverAt o
  last n q o c h e t at alike (inl w) told = cc
  last n q o c h e t at alike (inr (inl w)) told =
      let g = values.never_stuck s (suc n) in
      let z : place (suc n) ≡ Stuck = go_after mach n (begun p s) ∙ (ap (step mach) at ∙ (alike ∙ w)) in
      let none = sym (ap ending_at z) ∙ g.1 in cc
  last n q o c h e t at alike (inr (inr w)) told =
      let z : place (suc n) ≡ Deep w.0 = go_after mach n (begun p s) ∙ (ap (step mach) at ∙ (alike ∙ w.1)) in
      over_by (suc n) (Exhausted w.0.host.shared.output) o tt (ap ending_at z) (sym (ap (λ (x : HostState). x.shared.output) w.3))

  -- a statement's place is passed by a step
  nop_goes : (c : real.Conf) (k : Instructions) → settled_code c.frame.code ≡ Then (Plain simple.Nop) k → (x : real.Conf) × (turn (program p) c ≡ Goes x)
  nop_goes c k e = (_, ap (λ (z : Instructions). turn_by (program p) c (next_at (settled c.frame) z)) e)

  ends_at : (n : ℕ) (q : Conf) (c : real.Conf) (h : HostState) (o : List Action) (e : End) (t : MachineEnd) → place n ≡ q → Rel q c (with_output o h) → turn (program p) c ≡ Ends e → told_end e ≡ Some t → OverAt o
  ends_at n (Over v G) c h o e t at a ends told =
      let g = values.never_stuck s n in
      let shows : ending_at (Over v G) ≡ Some g.0 = sym (ap ending_at at) ∙ g.1 in
      over_by n g.0 o (over_over G.host.fault v G g.0 shows) g.1 (put_there (Over v G) c h o g.0 shows a)
  ends_at n (Deep G) c h o e t at a ends told = absurd a
  ends_at n Stuck c h o e t at a ends told =
      let g = values.never_stuck s n in
      let none = sym (ap ending_at at) ∙ g.1 in cc
  ends_at n (Look x ks vs K L F code G) c h o e t at a ends told =
      last n (Look x ks vs K L F code G) o c h e t at (looking_alike p probe x ks vs K L F code G)
      ((step_as (linked p) arrays_grow (Look x ks vs K L F code G) c (with_output o h) tt a).over e (with_output o h) [] (subst (λ (z : Turn). OverBy table_meaning z (with_output o h) c.memory [] e (with_output o h)) (sym ends) (refl, refl, refl))) told
  ends_at n (Run ks vs K L F code G) c h o e t at a ends told = by code at a
    where
      over : (code : Instructions) → Rel (Run ks vs K L F code G) c (with_output o h) → EndAs (stays p) (called_imports p) (code_of p 9999) (step (code_of p 9999) (Run ks vs K L F code G)) e (with_output o h) (with_output o h) []
      over code a = (step_as (linked p) arrays_grow (Run ks vs K L F code G) c (with_output o h) tt a).over e (with_output o h) [] (subst (λ (z : Turn). OverBy table_meaning z (with_output o h) c.memory [] e (with_output o h)) (sym ends) (refl, refl, refl))

      by : (code : Instructions) → place n ≡ Run ks vs K L F code G → Rel (Run ks vs K L F code G) c (with_output o h) → OverAt o
      by (Then (Plain simple.Nop) k) at a =
          let g = nop_goes c (renumbered (called_imports p) k) a.code-is.same in
          absurd (no_end (turn (program p) c) g.0 e g.1 ends)
      by Done at a = last n (Run ks vs K L F Done G) o c h e t at (run_alike p probe ks vs K L F Done G) (over Done a) told
      by (Then i k) at a = last n (Run ks vs K L F (Then i k) G) o c h e t at (run_alike p probe ks vs K L F (Then i k) G) (over (Then i k) a) told

  ended : (n : ℕ) (a : MachineForm) (c : real.Conf) (h : HostState) (o : List Action) → ProbedRun probe (module_of p) job input outside n a c h o → (e : End) (t : MachineEnd) → turn a.program c ≡ Ends e → told_end e ≡ Some t → OverAt o
  ended zero a c h o r e t ends told = absurd (no_end (turn a.program a.conf) (in_main p) e (begins p a r.is_new) (ap (turn a.program) (sym r.taken.0) ∙ ends))
  ended (suc n) a c h o r e t ends told = ends_at n (place n) c h o e t refl (there n a c h o r).it (ap (λ (m : ProgramForm). turn m c) (sym (program_is p a r.is_new)) ∙ ends) told

pub passes : (p : Program) → IsSorted p → Passes (probed_run p) (module_of p)
passes p sorted = record {
  so_far = λ probe job input outside n a c h o r. so_far p probe (agree p sorted probe) job input outside n a c h o r;
  ended = λ probe job input outside n a c h o r e t ends told. ended p probe (agree p sorted probe) job input outside n a c h o r e t ends told;
  in_time = λ probe job input outside turns. in_time p probe (agree p sorted probe) job input outside turns;
}

pub without : (p : Program) (s : Setting) (turns : ℕ) → probed_run p no_probe s turns ≡ mid_run_in p s turns
without p s turns = ap (λ (n : Notes). noted_run_in n p s turns) (λ i. λ code output. append-nil output i) ∙ silent_run p s turns
