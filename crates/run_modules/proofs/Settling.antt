-- Where a run of a program's module comes to a statement, no constant stands before it: nothing is on the operands there.
use Rattle.std.proofs.Common.{◌≡◌, ℕ, zero, suc, ◌&&◌, true, false, nat_eq, List, [], ◌∷◌, drop, Option, Some, None, refl, sym, ap, ◌∙◌, subst}
use Rattle.std.proofs.lemmas.Bool.{and_parts}
use Rattle.sem_primitives.specs.Jobs.{Environment, JobForm}
use Rattle.world_core.specs.WorldState.{Source}
use Rattle.wasm_types.specs.Syntax.{Done, Instructions, Plain, Then}
use Rattle.wasm_types.specs.declared.instr.Simple.TheVariants as simple
use Rattle.wasm_types.specs.declared.types.ValType.TheVariants as ty
use Rattle.wasm_store.specs.declared.word.Word.{Word}
use Rattle.wasm_model.specs.Frames.{FrameForm, constant_of, settled_code, settled_values}
use Rattle.wasm_model.specs.Machines as real
use Rattle.wasm_model.specs.Machines.{ProgramForm}
use Rattle.wasm_model.specs.Runs.{MachineForm, Steps}
use Rattle.host_step.specs.HostState.{HostState, Names}
use Rattle.host_step.specs.Starts.{state_in}
use Rattle.mid_program.specs.Mid.{Kind, Program}
use Rattle.sem_scripts.specs.ScriptRun.{setting_in}
use Rattle.lower_model.specs.Cells.{Cell, globals_by, iterators_in, marks_fit, tidy_locals, tidy_name}
use Rattle.lower_model.specs.Machine.{Code, Conf, Deep, Frame, Label, Look, Over, Run, Store, Stuck, go, is_empty, loops_walked, run_looking, step}
use Rattle.lower_model.specs.Modules.{called_imports, module_of, renumbered}
use Rattle.lower_model.specs.Runs.{begun, code_of}
use Rattle.agreement.specs.Modules.TableMeaning.{table_meaning}
use Rattle.agreement.specs.Modules.ValueAgreement.{ValueAgreement}
use Rattle.agreement.specs.Places.NoLeaks.{Reached, begins_statement}
use Rattle.agreement.specs.Refined.Refined.{As}
use Rattle.agreement.specs.Refined.Words.{WordsAs, arrays_made}
use Rattle.agreement.proofs.PlacesLemmas.Keeping.{alive, begins_same, tidy_there}
use Rattle.agreement.proofs.RefinedLemmas.Beginning.{begins, begun_as, in_main, steps_after}
use Rattle.agreement.proofs.RefinedLemmas.Growing.{arrays_grow}
use Rattle.agreement.proofs.RefinedLemmas.Links.{linked, program_is, stays}
use Rattle.agreement.proofs.RefinedLemmas.Running.{steps_as}

-- Where nothing is on the operands after constants, there were none.

some_left : (w : Word) (vs : List Word) (code : Instructions) → settled_values (w ∷ vs) code ≡ [] → ⊥
some_left w vs Done e = cc
some_left w vs (Then i code) e = by (constant_of i) (λ v. some_left v (w ∷ vs) code) e
  where
    by : (o : Option Word) → ((v : Word) → settled_values (v ∷ (w ∷ vs)) code ≡ [] → ⊥)
        → ◌≡◌ {A = List Word} (elim o [ Some v ↦ settled_values (v ∷ (w ∷ vs)) code | None ↦ w ∷ vs ]) [] → ⊥
    by (Some v) more q = more v q
    by None more q = cc

no_constants : (vs : List Word) (code : Instructions) → settled_values vs code ≡ [] → settled_code code ≡ code
no_constants vs Done e = refl
no_constants vs (Then i code) e = by (constant_of i) e
  where
    by : (o : Option Word) → ◌≡◌ {A = List Word} (elim o [ Some w ↦ settled_values (w ∷ vs) code | None ↦ vs ]) []
        → ◌≡◌ {A = Instructions} (elim o [ Some w ↦ settled_code code | None ↦ Then i code ]) (Then i code)
    by (Some w) q = absurd (some_left w vs code q)
    by None q = refl

no_words : (made : ℕ) (N : Names) (vs : List Cell) (ws : List Word) → is_empty vs ≡ true → WordsAs made N vs ws → ws ≡ []
no_words made N [] [] e a = refl
no_words made N [] (w ∷ ws) e a = absurd a
no_words made N (v ∷ vs) ws e a = cc

-- what looks at a local is a comparison or a call
looks_at_none : (p : Program) (x : ℕ) (ks : List Kind) (vs : List Cell) (K : List Label) (L : List Cell) (F : List Frame) (code : Instructions) (G : Store)
    (next : Instructions) → next ≡ renumbered (called_imports p) code → begins_statement (settled_code next) ≡ true
    → (run_looking (code_of p 9999) x ks vs K L F code G ≡ Stuck → ⊥) → ⊥
looks_at_none p x ks vs K L F (Then (Plain (simple.I32Const n)) (Then (Plain (simple.Compare ty.I32 op)) code)) G next same e alive_is =
    let no : false ≡ true = ap (λ (c : Instructions). begins_statement (settled_code c)) (sym same) ∙ e in cc
looks_at_none p x ks vs K L F (Then (Plain (simple.Call n)) code) G next same e alive_is =
    let no : false ≡ true = ap (λ (c : Instructions). begins_statement (settled_code c)) (sym same) ∙ e in cc
looks_at_none p x ks vs K L F code G next same e alive_is = alive_is refl

module _ (p : Program) where
  abbrev u : Code
  u = code_of p 9999

  settled_as : (P : Conf) (c : real.Conf) (s : HostState) → As (stays p) (called_imports p) u P c s → (step u P ≡ Stuck → ⊥)
      → begins_statement (settled_code c.frame.code) ≡ true → settled_code c.frame.code ≡ c.frame.code
  settled_as (Run ks vs K L F code G) c s a alive_is e =
      let begins-is : begins_statement code ≡ true = sym (begins_same (called_imports p) code) ∙ ap begins_statement (sym a.code-is.same) ∙ e in
      let tidy-is = tidy_there u ks vs K L F code G begins-is alive_is in
      let split = and_parts (is_empty vs && is_empty G.host.arguments) ((tidy_locals ks L && nat_eq (iterators_in L) (loops_walked K))
      && (globals_by tidy_name u.before u.names G.globals && marks_fit u.names (drop u.before G.globals))) tidy-is in
      let none = (and_parts (is_empty vs) (is_empty G.host.arguments) split.0).0 in
      no_constants c.frame.values c.frame.code (no_words (arrays_made G.host) s.names vs (settled_values c.frame.values c.frame.code) none a.operands)
  settled_as (Look x ks vs K L F code G) c s a alive_is e = absurd (looks_at_none p x ks vs K L F code G c.frame.code a.run.code-is.same e alive_is)
  settled_as (Over v G) c s a alive_is e =
      let no : false ≡ true = ap (λ (f : FrameForm). begins_statement (settled_code f.code)) (sym a.frame) ∙ e in cc
  settled_as (Deep G) c s a alive_is e = absurd a
  settled_as Stuck c s a alive_is e = absurd (alive_is refl)

  module _ (agree : ValueAgreement p) (job : JobForm) (input : Source) (outside : Environment) (m : MachineForm) (c : real.Conf) (s : HostState)
      (reached : Reached (module_of p) job input outside m c s) (e : begins_statement (settled_code c.frame.code) ≡ true) where
    abbrev start : HostState
    start = state_in job input outside

    abbrev place : ℕ → Conf
    place n = go u n (begun p (setting_in job input outside))

    there_as : (n : ℕ) → Steps table_meaning m.program (suc n) m.conf start reached.output c s → As (stays p) (called_imports p) u (place n) c s
    there_as n t =
        let later = steps_after table_meaning m.program m.conf (in_main p) (begins p m reached.is_new) n start reached.output c s t in
        steps_as (linked p) arrays_grow n (begun p (setting_in job input outside)) (in_main p) start reached.output c s
        (begun_as p (setting_in job input outside) 9999)
        (subst (λ (z : ProgramForm). Steps table_meaning z n (in_main p) start reached.output c s) (program_is p m reached.is_new) later)

    -- NOTHING IS SETTLED where a statement comes next
    pub none_settled : settled_code c.frame.code ≡ c.frame.code
    none_settled = by reached.steps reached.taken
      where
        by : (n : ℕ) → Steps table_meaning m.program n m.conf start reached.output c s → settled_code c.frame.code ≡ c.frame.code
        by zero t =
            let no : false ≡ true = sym (ap (λ (z : real.Conf). begins_statement (settled_code z.frame.code)) (t.0 ∙ reached.is_new.conf)) ∙ e in cc
        by (suc n) t = settled_as (place n) c s (there_as n t) (alive p agree job input outside m c s reached n) e
