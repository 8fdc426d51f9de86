-- A run that was taken a step at a time, over the tables of a host, is one over its states, with whatever probe: what the probe adds is what it has for the moments.
use Rattle.std.proofs.Common.{◌≡◌, ℕ, zero, suc, ◌+◌, ◌≤◌, List, [], ◌∷◌, ◌++◌, Some, None, length, append-nil, length-append, refl, sym, ap, ◌∙◌, subst, arith}
use Rattle.world_core.specs.WorldState.{Action}
use Rattle.wasm_types.specs.Syntax.{Instructions, Plain, Then}
use Rattle.wasm_types.specs.declared.instr.Simple.TheVariants.{Nop}
use Rattle.wasm_store.specs.Memories.{MemoryForm}
use Rattle.wasm_store.specs.declared.word.Word.TheVariants.{I32, I64}
use Rattle.wasm_model.specs.Frames.{next_at, settled, settled_code}
use Rattle.wasm_model.specs.Hosts.{Meaning}
use Rattle.wasm_model.specs.Machines.{Asks, Conf, Ends, Goes, ProgramForm, Turn, turn, turn_by}
use Rattle.wasm_model.specs.Runs.{IsWithin, OverBy, Ran, Steps, TakenAs, told_end, told_run}
use Rattle.wasm_model.specs.declared.ends.End.{End}
use Rattle.wasm_model.specs.declared.ends.End.TheVariants as ends
use Rattle.wasm_model.specs.declared.ends.MachineEnd.{MachineEnd}
use Rattle.wasm_model.specs.declared.ends.MachineEnd.TheVariants as told
use Rattle.wasm_model.specs.declared.ends.RunEnd.{RunEnd}
use Rattle.wasm_model.specs.declared.ends.RunEnd.TheVariants.{Ended, NoMemory, OutOfSteps}
use Rattle.wasm_model.proofs.Chains.{one_more}
use Rattle.host_step.specs.HostState.{HostState}
use Rattle.host_values.specs.Forms.{HostForm}
use Rattle.host_values.specs.FormMeaning.{FormState, Told, Untold, form_meaning}
use Rattle.agreement.specs.Modules.TableMeaning.{table_meaning}
use Rattle.agreement.specs.Passed.Passed.{Probe, ProbedSteps, no_probe, probed_at}
use Rattle.agreement.proofs.RunsLemmas.Carried.{over_untold, same_state, step_carried}
use Rattle.agreement.proofs.RunsLemmas.Following.{ShownAfter, table_follows}
use Rattle.run_modules.specs.Counted.{Stepped}
use Rattle.script_places.specs.Passes.{Moment}
use Rattle.run_modules.specs.Executions.{ComesToEnd}

-- Probes.

-- how much a probe adds where this code comes next
abbrev pub added_at : Probe → Instructions → ℕ
added_at probe code = length (probed_at probe code [])

more_at : (probe : Probe) (code : Instructions) (o : List Action) → length (probed_at probe code o) ≡ length o + added_at probe code
more_at probe (Then (Plain Nop) code) o = length-append o (probe (Then (Plain Nop) code))
more_at probe code o = omega arith

none_at : (code : Instructions) (o : List Action) → probed_at no_probe code o ≡ o
none_at (Then (Plain Nop) code) o = append-nil o
none_at code o = refl

-- one more step with a probe
probed_more : (probe : Probe) (m : ProgramForm) (n : ℕ) (c : Conf) (s : HostState) (o : List Action) (c1 : Conf) (s1 : HostState) (o1 : List Action)
    → ProbedSteps probe m n c s o c1 s1 o1 → (c2 : Conf) (s2 : HostState) (added : List Action) → TakenAs table_meaning (turn m c1) s1 c1.memory added c2 s2
    → ProbedSteps probe m (suc n) c s o c2 s2 (probed_at probe (settled_code c1.frame.code) o1 ++ added)
probed_more probe m zero c s o c1 s1 o1 p c2 s2 added t =
    let after = probed_at probe (settled_code c1.frame.code) o1 ++ added in
    subst (λ (z : List Action). ProbedSteps probe m (suc zero) c s z c2 s2 after) p.2
    (subst (λ (z : HostState). ProbedSteps probe m (suc zero) c z o1 c2 s2 after) p.1
    (subst (λ (z : Conf). ProbedSteps probe m (suc zero) z s1 o1 c2 s2 after) p.0 (c2, s2, added, t, (refl, refl, refl))))
probed_more probe m (suc n) c s o c1 s1 o1 p c2 s2 added t =
    (p.0, p.1, p.2, p.3, probed_more probe m n p.0 p.1 (probed_at probe (settled_code c.frame.code) o ++ p.2) c1 s1 o1 p.4 c2 s2 added t)

-- where a statement is begun the machine goes on, so nothing is added where it ends
ends_add_none : (probe : Probe) (m : ProgramForm) (c : Conf) (e : End) → turn m c ≡ Ends e → added_at probe (settled_code c.frame.code) ≡ 0
ends_add_none probe m c e over = by (settled_code c.frame.code) (over)
  where
    by : (code : Instructions) → turn_by m c (next_at (settled c.frame) code) ≡ Ends e → added_at probe code ≡ 0
    by (Then (Plain Nop) code) q = cc
    by code q = refl

-- Ends.

-- a run that is not over took its steps
module _ {H O : Type 0} (M : Meaning H O) (m : ProgramForm) (n : ℕ) (c : Conf) (h : H) (out : List O) (c1 : Conf) (h1 : H) where
  steps_of : (r : RunEnd) → told_run r ≡ Some told.OutOfSteps → Ran M m n c h out r c1 h1 → Steps M m n c h out c1 h1
  steps_of OutOfSteps t r = r.0
  steps_of NoMemory t r = cc
  steps_of (Ended (ends.Returned (Some (I32 v)))) t r = cc
  steps_of (Ended (ends.Returned (Some (I64 v)))) t r = cc
  steps_of (Ended (ends.Returned None)) t r = cc
  steps_of (Ended (ends.Trapped v)) t r = cc
  steps_of (Ended ends.Exhausted) t r = cc
  steps_of (Ended ends.Stuck) t r = cc

-- no more steps were taken than were given
past : (k n : ℕ) (x : End) → n ≤ k → IsWithin (suc k) n x → ⊥
past k n (ends.Returned w) few within = omega (arith, few, within)
past k n (ends.Trapped kind) few within = omega (arith, few, within)
past k n ends.Exhausted few within = omega (arith, few, within)
past k n ends.Stuck few within = omega (arith, few, within)

-- one that came to its end ended so
by_end : (r : RunEnd) (e : MachineEnd) → told_run r ≡ Some e → ComesToEnd e → (x : End) × (r ≡ Ended x) × (told_end x ≡ Some e)
by_end OutOfSteps e t is = absurd (subst ComesToEnd (same told.OutOfSteps e t) is)
  where
    same : (a b : MachineEnd) → Some a ≡ Some b → b ≡ a
    same a b q = cc
by_end NoMemory e t is = absurd (subst ComesToEnd (same told.NoMemory e t) is)
  where
    same : (a b : MachineEnd) → Some a ≡ Some b → b ≡ a
    same a b q = cc
by_end (Ended x) e t is = (x, refl, t)

-- no host trapped in the last turn
last_turn : {H O : Type 0} (M : Meaning H O) (t : Turn) (h : H) (mem : MemoryForm) (out : List O) (x : End) (h1 : H) (e : MachineEnd) → told_end x ≡ Some e → ComesToEnd e
    → OverBy M t h mem out x h1 → t ≡ Ends x
last_turn M (Goes c) h mem out x h1 e q is r = absurd r
last_turn M (Ends y) h mem out x h1 e q is r = ap Ends (sym r.0)
last_turn M (Asks i args c) h mem out x h1 e q is r = absurd (subst ComesToEnd trapped is)
  where
    trapped : e ≡ told.Trapped r.0
    trapped = let z : Some e ≡ Some (told.Trapped r.0) = sym q ∙ ap told_end r.2 in cc

-- Runs.

-- how much a probe adds before the steps
abbrev pub added : (tells : Type 0) (m : ProgramForm) (c : Conf) (h : HostForm) → Probe → (xs : List Moment) (e : MachineEnd) (c' : Conf) (h' : HostForm)
    → Stepped tells m c h xs e c' h' → ℕ
added tells m c h probe [] e c' h' r = 0
added tells m c h probe (x ∷ xs) e c' h' r = added tells m c h probe xs told.OutOfSteps r.0 r.1 r.2 + added_at probe (settled_code r.0.frame.code)

module _ (tells : Type 0) (t : tells) (m : ProgramForm) (c : Conf) (h : HostForm) (s : HostState) (now : ShownAfter [] h s) where
  abbrev FM : Meaning FormState Action
  FM = form_meaning tells

  -- So many steps lead there over a host that has states, with any probe, which adds so much.
  pub record Leads (c' : Conf) (h' : HostForm) (adds : Probe → ℕ) : Type 0 where
    pub steps : ℕ
    pub state : HostState
    pub output : List Action
    pub shows : ShownAfter output h' state
    pub taken : Steps table_meaning m steps c s output c' state
    pub plain : ProbedSteps no_probe m steps c s [] c' state output
    pub probed : (probe : Probe) → (o : List Action) × ProbedSteps probe m steps c s [] c' state o × (length o ≡ length output + adds probe)

  one_step : (c1 : Conf) (h1 : HostForm) (adds : Probe → ℕ) → Leads c1 h1 adds → (out : List Action) (c' : Conf) (h' : HostForm)
      → TakenAs FM (turn m c1) (Told h1) c1.memory out c' (Told h') → Leads c' h' (λ probe. adds probe + added_at probe (settled_code c1.frame.code))
  one_step c1 h1 adds l out c' h' taken =
      let z = step_carried tells table_meaning ShownAfter (table_follows tells t) (turn m c1) h1 h' c1.memory out l.output c' l.state l.shows taken in
      record {
        steps = suc l.steps;
        state = z.0;
        output = l.output ++ out;
        shows = z.1;
        taken = one_more table_meaning m l.steps c s l.output c1 l.state out c' z.0 l.taken z.2;
        plain = subst (λ (o : List Action). ProbedSteps no_probe m (suc l.steps) c s [] c' z.0 (o ++ out)) (none_at (settled_code c1.frame.code) l.output)
            (probed_more no_probe m l.steps c s [] c1 l.state l.output l.plain c' z.0 out z.2);
        probed = λ probe.
            let p = l.probed probe in
            let o1 = probed_at probe (settled_code c1.frame.code) p.0 in
            let a = length-append o1 out in
            let b = more_at probe (settled_code c1.frame.code) p.0 in
            let d = length-append l.output out in
            let e = p.2 in
            (o1 ++ out, probed_more probe m l.steps c s [] c1 l.state p.0 p.1 c' z.0 out z.2, omega (arith, a, b, d, e));
      }

  taken_one : (c1 : Conf) (h1 : FormState) (out : List Action) (c' : Conf) (h' : FormState) → Steps FM m 1 c1 h1 out c' h'
      → (o : List Action) × TakenAs FM (turn m c1) h1 c1.memory o c' h'
  taken_one c1 h1 out c' h' r = (
    r.2,
    subst (λ (z : FormState). TakenAs FM (turn m c1) h1 c1.memory r.2 c' z) (sym r.5.1)
        (subst (λ (z : Conf). TakenAs FM (turn m c1) h1 c1.memory r.2 z r.1) (sym r.5.0) r.4),
  )

  -- a run that is not over
  pub leads : (xs : List Moment) (c' : Conf) (h' : HostForm) (r : Stepped tells m c h xs told.OutOfSteps c' h')
      → Leads c' h' (λ probe. added tells m c h probe xs told.OutOfSteps c' h' r)
  leads [] c' h' r =
      let z = steps_of FM m 0 c (Told h) r.0 c' (Told h') r.1 r.2 r.3 in
      record {
        steps = 0;
        state = s;
        output = [];
        shows = subst (λ (g : HostForm). ShownAfter [] g s) (sym (same_state h h' z.1)) now;
        taken = (z.0, refl, refl);
        plain = (z.0, refl, refl);
        probed = λ probe. ([], (z.0, refl, refl), omega arith);
      }
  leads (x ∷ xs) c' h' r =
      let did = r.5 in
      let one = taken_one r.0 (Told r.1) did.0 c' (Told h') (steps_of FM m 1 r.0 (Told r.1) did.0 c' (Told h') did.1 did.2 did.3) in
      one_step r.0 r.1 (λ probe. added tells m c h probe xs told.OutOfSteps r.0 r.1 r.2) (leads xs r.0 r.1 r.2) one.0 c' h' one.1

  -- Where it ended: the machine ends there by itself.
  pub record LeadsToEnd (e : MachineEnd) (adds : Probe → ℕ) : Type 0 where
    pub there : Conf
    pub form : HostForm
    pub way : Leads there form adds
    pub end : End
    pub ends : turn m there ≡ Ends end
    pub told_so : told_end end ≡ Some e

  -- where it is over before a step, or after one
  module _ (x : End) (e : MachineEnd) (tells_so : told_end x ≡ Some e) (is : ComesToEnd e) (h' : HostForm) where
    none_taken : (c1 : Conf) (h1 : FormState) (out1 out2 : List Action) (d : Conf) (g : FormState) → Steps FM m 0 c1 h1 out1 d g
        → OverBy FM (turn m d) g d.memory out2 x (Told h') → turn m c1 ≡ Ends x
    none_taken c1 h1 out1 out2 d g steps over =
        ap (turn m) (sym steps.0) ∙ last_turn FM (turn m d) g d.memory out2 x (Told h') e tells_so is over

    one_taken : (c1 : Conf) (h1 : HostForm) (adds : Probe → ℕ) → Leads c1 h1 adds → (out1 out2 : List Action) (d : Conf) (g : FormState)
        → Steps FM m 1 c1 (Told h1) out1 d g → OverBy FM (turn m d) g d.memory out2 x (Told h')
        → LeadsToEnd e (λ probe. adds probe + added_at probe (settled_code c1.frame.code))
    one_taken c1 h1 adds l out1 out2 d Untold steps over = absurd (never (over_untold tells (turn m d) d.memory out2 x (Told h') over))
      where
        never : Told h' ≡ Untold → ⊥
        never q = cc
    one_taken c1 h1 adds l out1 out2 d (Told f) steps over =
        let one = taken_one c1 (Told h1) out1 d (Told f) steps in
        record {
          there = d;
          form = f;
          way = one_step c1 h1 adds l one.0 d f one.1;
          end = x;
          ends = last_turn FM (turn m d) (Told f) d.memory out2 x (Told h') e tells_so is over;
          told_so = tells_so;
        }

  -- a run that came to its end
  pub ended : (xs : List Moment) (e : MachineEnd) (c' : Conf) (h' : HostForm) (r : Stepped tells m c h xs e c' h') → ComesToEnd e
      → LeadsToEnd e (λ probe. added tells m c h probe xs e c' h' r)
  ended [] e c' h' r is =
      let b = by_end r.1 e r.2 is in
      let ran = subst (λ (z : RunEnd). Ran FM m 0 c (Told h) r.0 z c' (Told h')) b.1 r.3 in
      by b.0 b.2 ran.2 ran.3 ran.4 ran.5 ran.0 ran.1 ran.6 ran.7
    where
      by : (x : End) → told_end x ≡ Some e → (d : Conf) (g : FormState) (out1 out2 : List Action) (k : ℕ) → IsWithin k 0 x → Steps FM m k c (Told h) out1 d g
          → OverBy FM (turn m d) g d.memory out2 x (Told h') → LeadsToEnd e (λ probe. 0)
      by x told_so d g out1 out2 zero within steps over = record {
        there = c;
        form = h;
        way = record {
          steps = 0;
          state = s;
          output = [];
          shows = now;
          taken = (refl, refl, refl);
          plain = (refl, refl, refl);
          probed = λ probe. ([], (refl, refl, refl), omega arith);
        };
        end = x;
        ends = none_taken x e told_so is h' c (Told h) out1 out2 d g steps over;
        told_so = told_so;
      }
      by x told_so d g out1 out2 (suc k) within steps over = absurd (past k 0 x (omega arith) within)
  ended (x ∷ xs) e c' h' r is =
      let did = r.5 in
      let b = by_end did.1 e did.2 is in
      let ran = subst (λ (z : RunEnd). Ran FM m 1 r.0 (Told r.1) did.0 z c' (Told h')) b.1 did.3 in
      by b.0 b.2 ran.2 ran.3 ran.4 ran.5 ran.0 ran.1 ran.6 ran.7
    where
      way : Leads r.0 r.1 (λ probe. added tells m c h probe xs told.OutOfSteps r.0 r.1 r.2)
      way = leads xs r.0 r.1 r.2

      by : (y : End) → told_end y ≡ Some e → (d : Conf) (g : FormState) (out1 out2 : List Action) (k : ℕ) → IsWithin k 1 y
          → Steps FM m k r.0 (Told r.1) out1 d g → OverBy FM (turn m d) g d.memory out2 y (Told h')
          → LeadsToEnd e (λ probe. added tells m c h probe xs told.OutOfSteps r.0 r.1 r.2 + added_at probe (settled_code r.0.frame.code))
      by y told_so d g out1 out2 zero within steps over =
          let over_there = none_taken y e told_so is h' r.0 (Told r.1) out1 out2 d g steps over in
          record {
            there = r.0;
            form = r.1;
            way = record {
              steps = way.steps;
              state = way.state;
              output = way.output;
              shows = way.shows;
              taken = way.taken;
              plain = way.plain;
              probed = λ probe.
                  let p = way.probed probe in
                  let none = ends_add_none probe m r.0 y over_there in
                  let size = p.2 in
                  (p.0, p.1, omega (arith, none, size));
            };
            end = y;
            ends = over_there;
            told_so = told_so;
          }
      by y told_so d g out1 out2 (suc zero) within steps over =
          one_taken y e told_so is h' r.0 r.1 (λ probe. added tells m c h probe xs told.OutOfSteps r.0 r.1 r.2) way out1 out2 d g steps over
      by y told_so d g out1 out2 (suc (suc k)) within steps over = absurd (past (suc k) 1 y (omega arith) within)
