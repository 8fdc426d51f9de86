-- A NUMBER STATEMENT IS QUIET, wherever a run of the module stands at one: the module is typed and never traps, so the run lives.
use Rattle.std.proofs.Common.{◌≡◌, ◌⊎◌, inl, inr, ℕ, zero, suc, ◌+◌, true, List, [], ◌++◌, append-nil, map, Some, refl, sym, ap, ap₂, ◌∙◌, subst, arith}
use Rattle.sem_primitives.specs.Jobs.{JobForm, Environment}
use Rattle.world_core.specs.WorldState.{Action, Source}
use Rattle.wasm_types.specs.Syntax.{Instructions}
use Rattle.wasm_types.specs.Typing.{ModuleOk}
use Rattle.wasm_model.specs.Links.{IsNew, numbers_for}
use Rattle.wasm_model.specs.Machines.{Asks, Conf, Ends, Goes, ProgramForm, Turn, turn}
use Rattle.wasm_model.specs.Runs.{MachineForm, OverBy, Steps, TakenAs}
use Rattle.wasm_model.specs.Typed.{ConfOk, IsSafeTurn, ProgramOk}
use Rattle.wasm_model.specs.declared.ends.MachineEnd.TheVariants as machine
use Rattle.wasm_model.specs.declared.ends.End.TheVariants as ends
use Rattle.wasm_model.specs.declared.ends.RunEnd.TheVariants.{Ended}
use Rattle.wasm_model.proofs.Beginning.{begun_ok, linked_is, numbered}
use Rattle.wasm_model.proofs.Chains.{steps_join}
use Rattle.wasm_model.proofs.Whole.{steps_ok, turn_safe}
use Rattle.host_step.specs.HostLaws.{host_found, step_typed}
use Rattle.host_step.specs.HostState.{HostState}
use Rattle.host_imports.specs.Imports.{host_finds, host_types, import_at}
use Rattle.host_step.specs.Starts.{state_in}
use Rattle.mid_program.specs.Mid.{Eval, Program, Set, Then}
use Rattle.mid_program.specs.MidMeaning.{mid_run_in}
use Rattle.mid_program.specs.Sorted.{IsSorted}
use Rattle.lower_model.specs.Emission.{Layout}
use Rattle.lower_model.specs.Functions.{layout_of}
use Rattle.lower_model.specs.Modules.{called_imports, module_of, renumbered}
use Rattle.lower_model.specs.Statements.{step_emitted, steps_emitted}
use Rattle.agreement.specs.Modules.TableMeaning.{table_meaning}
use Rattle.agreement.specs.Modules.Agreement.{Agreement}
use Rattle.agreement.specs.Modules.ValueAgreement.{ValueAgreement}
use Rattle.agreement.specs.Places.NoLeaks.{Reached, begins_statement}
use Rattle.agreement.proofs.PlacesLemmas.Keeping.{statement}
use Rattle.agreement.specs.Quiet.Quiet.{HostCallFree, host_call_free, where_it_goes}
use Rattle.agreement.specs.Quiet.Sums.{AtFault, AtNext, AtSum}
use Rattle.agreement.proofs.QuietLemmas.Flowing.{at, Clear, Flows, IsLiving, IsSound}
use Rattle.agreement.proofs.QuietLemmas.Parts.{Faults}
use Rattle.agreement.proofs.QuietLemmas.Statements.{statement_flows}

-- n quiet steps are n steps of a run, whatever the host is
module _ (m : ProgramForm) (s : HostState) where
  steps_of : (n : ℕ) (c d : Conf) → host_call_free m n c ≡ Some d → Steps table_meaning m n c s [] d s
  steps_of zero c d e = let q : d ≡ c = cc in (q, refl, refl)
  steps_of (suc n) c d e = by (turn m c) refl e (λ c1 h. steps_of n c1 d h)
    where
      by : (t : Turn) → turn m c ≡ t → where_it_goes t (host_call_free m n) ≡ Some d → ((c1 : Conf) → host_call_free m n c1 ≡ Some d → Steps table_meaning m n c1 s [] d s) →
          Steps table_meaning m (suc n) c s [] d s
      by (Goes c1) q h later = (c1, s, [], [], subst (λ t. TakenAs table_meaning t s c.memory [] c1 s) (sym q) (refl, refl, refl), later c1 h, refl)
      by (Ends x) q h later = cc
      by (Asks i args c1) q h later = cc

module _ (p : Program) (agree : Agreement (mid_run_in p) (module_of p)) (typed : ModuleOk (module_of p)) (job : JobForm) (input : Source) (outside : Environment)
    (m : MachineForm) (is_new : IsNew host_finds (module_of p) m) where
  abbrev start : HostState
  start = state_in job input outside

  abbrev Comes : ℕ → List Action → Conf → HostState → Type 0
  Comes n output c s = Steps table_meaning m.program n m.conf start output c s

  found : numbers_for host_finds m.program.whole ≡ map Some m.program.numbers
  found = ap (numbers_for host_finds) is_new.whole ∙ is_new.linked

  program_ok : ProgramOk m.program
  program_ok = record { typed = subst ModuleOk (sym is_new.whole) typed; numbered = numbered host_finds m.program found }

  conf_ok : (n : ℕ) (output : List Action) (c : Conf) (s : HostState) → Comes n output c s → ConfOk m.program.whole c
  conf_ok n output c s t =
      steps_ok table_meaning host_types m.program (λ h i args mem a h1 mem1 out z. step_typed (import_at i) h args mem.bytes a h1 out z.1) program_ok
      (linked_is host_finds host_types host_found m.program found) n m.conf start output c s
      (subst (λ w. ConfOk w m.conf) (sym is_new.whole) (subst (λ z. ConfOk (module_of p) z) (sym is_new.conf)
      (begun_ok (module_of p) typed is_new.main is_new.main_is))) t

  -- no turn of a run is stuck or a trap
  sound : (n : ℕ) (output : List Action) (c : Conf) (s : HostState) → Comes n output c s → IsSound (turn m.program c)
  sound n output c s t = by (turn m.program c) refl (turn_safe m.program program_ok c (conf_ok n output c s t))
    where
      by : (z : Turn) → turn m.program c ≡ z → IsSafeTurn m.program z → IsSound z
      by (Goes d) e h = tt
      by (Asks i args d) e h = tt
      by (Ends (ends.Returned w)) e h = tt
      by (Ends ends.Exhausted) e h = tt
      by (Ends ends.Stuck) e h = absurd h
      by (Ends (ends.Trapped k)) e h =
          agree.never_trapped job input outside (suc n) k output (record {
            machine = m;
            is_new = is_new;
            run-end = Ended (ends.Trapped k);
            told = machine.Trapped k;
            telling = refl;
            conf = c;
            state = s;
            output = output;
            ran = (
              n,
              omega arith,
              c,
              s,
              output,
              [],
              t,
              subst (λ (z : Turn). OverBy table_meaning z s c.memory [] (ends.Trapped k) s) (sym e)
                  (refl, refl, refl),
              sym (append-nil output),
            );
            ending = refl;
          })

  -- so the run lives
  living : (n : ℕ) (output : List Action) (c : Conf) (s : HostState) → Comes n output c s → IsLiving m.program c
  living n output c s t = record {
    it = λ k d e. sound (n + k) (output ++ []) d s
        (steps_join table_meaning m.program n k m.conf start output c s [] d s t (steps_of m.program s k c d e));
  }

  module _ (sorted : IsSorted p) (values : ValueAgreement p) (c : Conf) (s : HostState) (reached : Reached (module_of p) job input outside m c s) (a : AtSum p c) where
    abbrev There : Conf → Type 0
    There d = AtNext p c a d ⊎ AtFault p c d

    fault : Faults m.program There (called_imports p) c
    fault K gs L k = inr (record { after = k; code = refl; operands = refl; callers = refl })

    abbrev y : Layout
    y = layout_of p a.bases

    abbrev here : Instructions
    here = steps_emitted y (Then (Eval (Set a.target a.expression)) (Then a.next a.further)) a.iterators a.out a.breaking a.continuing a.after

    begins : begins_statement (renumbered (called_imports p) here) ≡ true
    unfolding step_emitted steps_emitted
    begins = refl

    clear : c.frame.values ≡ []
    clear = (statement p values job input outside m c s reached sorted (ap begins_statement a.code ∙ begins)).at.operands

    flows : Flows m.program There (called_imports p) c c.frame.labels c.globals c.frame.locals [] here
    flows =
        statement_flows m.program There (called_imports p) c fault y a.target a.expression a.next a.further a.iterators a.out a.breaking a.continuing a.after
        a.target_is a.sum
        (λ gs L. inl (record { code = refl; operands = refl; labels = refl; callers = refl }))

    same : at (called_imports p) c c.frame.labels c.globals c.frame.locals [] here ≡ c
    same = ap₂ (λ vs k. record c { frame = record c.frame { values = vs; code = k } }) (sym clear) (sym a.code)

    pub quietly : HostCallFree m.program c There
    quietly =
        let q = subst (λ z. IsLiving m.program z → HostCallFree m.program z (Clear There)) same flows.it (living reached.steps reached.output c s reached.taken) in
        record { steps = q.steps; place = q.place; goes = q.goes; holds = q.holds.1 }
