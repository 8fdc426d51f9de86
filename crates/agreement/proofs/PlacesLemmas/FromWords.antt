-- So on a run: an assignment that is pending comes from a word of the command line.
use Rattle.std.proofs.Common.{◌≡◌, ◌⊎◌, inl, inr, ℕ, zero, suc, Bool, List, [], ◌∷◌, Some, None, refl, sym, ap, ◌∙◌, subst, slice_get}
use Rattle.sem_primitives.specs.Assignments.{declared}
use Rattle.sem_primitives.specs.Jobs.{JobForm, Environment}
use Rattle.sem_primitives.specs.declared.constants.NameKind.TheVariants.{Scalar}
use Rattle.awk_values.specs.declared.value.Value.{Value}
use Rattle.world_core.specs.WorldState.{Action, Source}
use Rattle.wasm_model.specs.Machines.{ProgramForm}
use Rattle.wasm_model.specs.Machines as real
use Rattle.wasm_model.specs.Runs.{MachineForm, Steps}
use Rattle.host_step.specs.HostState.{HostState}
use Rattle.host_step.specs.Starts.{state_in}
use Rattle.mid_program.specs.Mid.{Program}
use Rattle.sem_scripts.specs.ScriptRun.{Setting, setting_in}
use Rattle.sem_primitives.specs.SharedState.{Inner}
use Rattle.lower_model.specs.Functions.{main_callee}
use Rattle.lower_model.specs.Machine.{Code, Conf, Deep, Look, Over, Run, Store, Stuck, assigning_after, ending_at, go, step, zeros}
use Rattle.lower_model.specs.Modules.{called_imports, module_of}
use Rattle.lower_model.specs.Runs.{begun, code_of, first_globals, host_at_start}
use Rattle.lower_model.proofs.InputLaws.{IsAmong, IsNamed, IsNamedAmong}
use Rattle.agreement.specs.Refined.Growing.{ArraysGrow}
use Rattle.agreement.specs.Refined.Refined.{As, Linked}
use Rattle.agreement.specs.Modules.TableMeaning.{table_meaning}
use Rattle.agreement.specs.Refined.Words.{state_with}
use Rattle.agreement.proofs.RefinedLemmas.Beginning.{begins, begun_as, in_main, taken_first}
use Rattle.agreement.proofs.RefinedLemmas.Growing.{arrays_grow}
use Rattle.agreement.proofs.RefinedLemmas.Links.{linked, program_is, stays}
use Rattle.agreement.proofs.RefinedLemmas.Running.{taken_as}
use Rattle.agreement.specs.Modules.ValueAgreement.{ValueAgreement}
use Rattle.agreement.proofs.ModulesLemmas.Stores.{InStore, Leads, step_in, store_there}
use Rattle.agreement.specs.Places.Assigned.{HasWord, IsAssigned, IsPending, IsWord, Somewhere}
use Rattle.agreement.specs.Places.NoLeaks.{Reached}
use Rattle.agreement.proofs.PlacesLemmas.Words.{After, call_after, look_after}

abbrev IsName : List ℕ → ℕ → Inner → Type 0
IsName name i z = declared 0 name z.names ≡ Some (i, Scalar)

among_at : (pairs : List (List ℕ × List ℕ)) (name : List ℕ) → IsAmong pairs name → (n : ℕ) × (text : List ℕ) × (slice_get pairs n ≡ Some (name, text))
among_at [] name h = absurd h
among_at (pair ∷ rest) name (inl e) = (zero, pair.1, ap (λ x. Some (x, pair.1)) e)
among_at (pair ∷ rest) name (inr h) = let q = among_at rest name h in (suc q.0, q.1, q.2)

-- in a job; names to which words assign are among some
module _ (u : Code) (job : JobForm) (W : ℕ → Type 0) where
  abbrev inner : Store → Inner
  inner G = G.host.shared.inner

  pub record Worded (G : Store) : Type 0 where
    pub pending : (i : ℕ) (v : Value) → (inner G).pending ≡ Some (i, v) → W i
    pub assigns : (name : List ℕ) → IsAmong (inner G).assigns name → IsAmong job.assigns name

  pub record Here (G : Store) : Type 0 where
    pub worded : Worded G
    pub named : (i : ℕ) → IsNamed (inner G) i ⊎ IsNamedAmong (inner G).assigns (inner G) i → W i

  after : (G H : Store) → Here G → After (inner G) (inner H) → Worded H
  after G H a q = record {
    pending = λ i v e. by i v (q.pending i v e);
    assigns = λ name h. a.worded.assigns name (q.assigns name h);
  }
    where
      by : (i : ℕ) (v : Value) → ((inner G).pending ≡ Some (i, v)) ⊎ (IsNamed (inner G) i ⊎ IsNamedAmong (inner G).assigns (inner G) i) → W i
      by i v (inl e) = a.worded.pending i v e
      by i v (inr h) = a.named i h

  leads : Leads u Here Worded
  leads = record {
    same = λ G a. a.worded;
    noted = λ code G a. record { pending = a.worded.pending; assigns = a.worded.assigns };
    called = λ i cs r G e a. after G (record G { host = r.1; assigning = assigning_after i G }) a (call_after G.host u.memory i cs r e);
    looked = λ i c r G e a. after G (record G { host = r.1 }) a (look_after G.host i c r e);
    read = λ x G a. record { pending = a.worded.pending; assigns = a.worded.assigns };
    written = λ x v G e a. record { pending = a.worded.pending; assigns = a.worded.assigns };
  }

  module _ {used : ℕ → Bool} {bs : List Bool} {m : ProgramForm} (links : Linked used bs u m) (grow : ArraysGrow) where
    here : (G : Store) (s : HostState) → s ≡ state_with s.names G.host → Worded G → ((i : ℕ) → IsWord job i s → W i) → Here G
    here G s e h f = record { worded = h; named = λ i q. f i (by i q) }
      where
        same : inner G ≡ s.shared.inner
        same = ap (λ (z : HostState). z.shared.inner) (sym e)

        by : (i : ℕ) → IsNamed (inner G) i ⊎ IsNamedAmong (inner G).assigns (inner G) i → IsWord job i s
        by i (inl q) = let r = subst (λ (z : Inner). IsNamed z i) same q in (r.1, r.4, inr (r.0, r.2, r.3))
        by i (inr q) = (q.0, subst (λ (z : Inner). IsName q.0 i z) same q.2, inl (among_at job.assigns q.0 (h.assigns q.0 q.1)))

    here_in : (P : Conf) (c : real.Conf) (s : HostState) → As used bs u P c s → InStore Worded P → ((i : ℕ) → IsWord job i s → W i) → InStore Here P
    here_in (Run ks vs K L F code G) c s a h f = here G s a.rest.host h f
    here_in (Look x ks vs K L F code G) c s a h f = here G s a.run.rest.host h f
    here_in (Over v G) c s a h f = here G s a.host h f
    here_in (Deep G) c s a h f = absurd a
    here_in Stuck c s a h f = tt

    -- what is pending at a place that is not stuck
    pends : (G : Store) (s : HostState) → s ≡ state_with s.names G.host → Worded G → (i : ℕ) → IsPending i s → W i
    pends G s e h i q = h.pending i q.0 (ap (λ (z : HostState). z.shared.inner.pending) (sym e) ∙ q.1)

    pends_in : (P : Conf) (c : real.Conf) (s : HostState) → As used bs u P c s → InStore Worded P → (P ≡ Stuck → ⊥) → (i : ℕ) → IsPending i s → W i
    pends_in (Run ks vs K L F code G) c s a h alive i q = pends G s a.rest.host h i q
    pends_in (Look x ks vs K L F code G) c s a h alive i q = pends G s a.run.rest.host h i q
    pends_in (Over v G) c s a h alive i q = pends G s a.host h i q
    pends_in (Deep G) c s a h alive i q = absurd a
    pends_in Stuck c s a h alive i q = absurd (alive refl)

    pub worded_on : (n : ℕ) (P : Conf) (c : real.Conf) (s : HostState) (out : List Action) (c1 : real.Conf) (s1 : HostState) (way : Steps table_meaning m n c s out c1 s1) → As used bs u P c s → InStore Worded P →
        ((k : ℕ) → go u k P ≡ Stuck → ⊥) → ((i : ℕ) → Somewhere (IsWord job i) m n c s out c1 s1 way → W i) → (i : ℕ) → Somewhere (IsPending i) m n c s out c1 s1 way → W i
    worded_on zero P c s out c1 s1 way a h alive f i q = pends_in P c s a h (alive zero) i q
    worded_on (suc n) P c s out c1 s1 way a h alive f i (inl q) = pends_in P c s a h (alive zero) i q
    worded_on (suc n) P c s out c1 s1 way a h alive f i (inr q) =
        worded_on n (step u P) way.0 way.1 way.3 c1 s1 way.5 (taken_as links grow P c s way.2 way.0 way.1 a way.4)
        (step_in u Here Worded leads P (here_in P c s a h (λ j w. f j (inl w)))) (λ k. alive (suc k)) (λ j w. f j (inr w)) i q

-- FROM A WORD: each assignment of a run
pub from_words : (p : Program) → ValueAgreement p → (job : JobForm) (input : Source) (outside : Environment) (m : MachineForm) (c : real.Conf) (s : HostState) (reached : Reached (module_of p) job input outside m c s) →
    (i : ℕ) → IsAssigned reached i → HasWord reached i
from_words p agree job input outside m c s reached i = by reached.steps reached.taken (λ j q. q)
  where
    start : HostState
    start = state_in job input outside

    set : Setting
    set = setting_in job input outside

    W : ℕ → Type 0
    W j = HasWord reached j

    none : (j : ℕ) → IsPending j start → ⊥
    none j q = let e = q.1 in cc

    not_stuck : (n : ℕ) → go (code_of p 9999) n (begun p set) ≡ Stuck → ⊥
    not_stuck n h = let shows = agree.never_stuck set n in let q = sym (ap ending_at h) ∙ shows.1 in cc

    first_worded : InStore (Worded (code_of p 9999) job W) (begun p set)
    first_worded =
        let f = main_callee p in
        store_there (Worded (code_of p 9999) job W) [] [] [] (zeros f.locals) [] f.body (record { globals = first_globals p; host = host_at_start set; assigning = None })
        (record { pending = λ j v e. cc; assigns = λ name h. h })

    by : (n : ℕ) (way : Steps table_meaning m.program n m.conf start reached.output c s) → ((j : ℕ) → Somewhere (IsWord job j) m.program n m.conf start reached.output c s way → W j) → Somewhere (IsPending i) m.program n m.conf start reached.output c s way → W i
    by zero way f q = absurd (none i q)
    by (suc n) way f (inl q) = absurd (none i q)
    by (suc n) way f (inr q) =
        let first = taken_first table_meaning m.program m.conf (in_main p) (begins p m reached.is_new) start way.2 way.0 way.1 way.4 in
        let links = subst (λ (z : ProgramForm). Linked (stays p) (called_imports p) (code_of p 9999) z) (sym (program_is p m reached.is_new)) (linked p) in
        let at_first = subst (λ (z : real.Conf). As (stays p) (called_imports p) (code_of p 9999) (begun p set) z way.1) (sym first.0)
        (subst (λ (z : HostState). As (stays p) (called_imports p) (code_of p 9999) (begun p set) (in_main p) z) (sym first.1) (begun_as p set 9999)) in
        worded_on (code_of p 9999) job W links arrays_grow n (begun p set) way.0 way.1 way.3 c s way.5 at_first first_worded not_stuck (λ j w. f j (inr w)) i q
