-- What a machine tells of a run whose host is told by its tables.
use Rattle.std.proofs.Common.{◌≡◌, ◌≢◌, ℕ, ℤ, List, [], ◌++◌, Option, Some, None, refl, sym, ap, ◌∙◌, subst}
use Rattle.std.specs.Int.{w32, cast_signed}
use Rattle.awk_values.specs.declared.fault.Fault.{Fault}
use Rattle.sem_primitives.specs.InputParts.{to_come}
use Rattle.sem_primitives.specs.Jobs.{Opened, JobForm, Closed, Environment}
use Rattle.world_core.specs.WorldState.{Action, Outside, Source}
use Rattle.wasm_types.specs.Syntax.{ModuleForm}
use Rattle.wasm_types.specs.Typing.{ModuleOk}
use Rattle.wasm_store.specs.Memories.{MemoryForm}
use Rattle.wasm_store.specs.declared.word.Word.{Word}
use Rattle.wasm_store.specs.declared.word.Word.TheVariants.{I32, I64}
use Rattle.wasm_model.specs.Hosts.{Typed}
use Rattle.wasm_model.specs.Links.{IsNew, beginning}
use Rattle.wasm_model.specs.Machines.{Conf, ProgramForm}
use Rattle.wasm_model.specs.Runs.{MachineForm, Ran, told_run}
use Rattle.wasm_model.specs.MachineRuns.{Did, HasMore}
use Rattle.wasm_model.specs.Typed.{SafeRun}
use Rattle.wasm_model.specs.declared.host.HostAnswer.{HostAnswer}
use Rattle.wasm_model.specs.declared.ends.MachineEnd.{MachineEnd}
use Rattle.wasm_model.specs.declared.ends.MachineEnd.TheVariants as machine
use Rattle.wasm_model.specs.declared.ends.End.TheVariants as ends
use Rattle.wasm_model.specs.declared.ends.RunEnd.{RunEnd}
use Rattle.wasm_model.specs.declared.ends.RunEnd.TheVariants.{Ended, NoMemory, OutOfSteps}
use Rattle.wasm_model.proofs.Beginning.{begun_ok, linked_is, numbered}
use Rattle.wasm_model.proofs.Whole.{ran_safe}
use Rattle.host_step.specs.HostLaws.{host_found, step_typed}
use Rattle.host_step.specs.HostState.{HostState}
use Rattle.host_imports.specs.Imports.{host_finds, host_types, import_at}
use Rattle.host_step.specs.Starts.{state_at_start, state_in}
use Rattle.host_values.specs.Forms.{HostForm}
use Rattle.host_values.specs.FormMeaning.{Told, form_meaning}
use Rattle.host_values.specs.Findings.{ShownFirst}
use Rattle.host_values.specs.Shown.{Shown, form_with_output}
use Rattle.host_values.proofs.Showing.{shown_fault, shown_outside, shown_output}
use Rattle.agreement.specs.Modules.TableMeaning.{table_meaning}
use Rattle.agreement.specs.Modules.Agreement.{Like, MayEnd, ModuleEnding, Trapped, ended_with, ending_told, output_in}
use Rattle.sem_scripts.specs.ScriptRun.{Exhausted, GoesOn}
use Rattle.sem_scripts.specs.MoreTurns.{output_of}
use Rattle.agreement.specs.Runs.ToldRuns.{FoundRun, Tells, TellsEnding, ToldRun, done_output}
use Rattle.agreement.proofs.RunsLemmas.Carried.{run_carried}
use Rattle.agreement.proofs.RunsLemmas.Finding.{finds_more, finds_run, from_start}
use Rattle.agreement.proofs.RunsLemmas.Following.{ShownAfter, table_follows}
use Rattle.agreement.proofs.RunsLemmas.Outsides.{run_makes}
use Rattle.agreement.proofs.RunsLemmas.Wanting.{wanted}

-- an answer of a host of the table is of its import's type
table_typed : (s : HostState) (i : ℕ) (args : List Word) (mem : MemoryForm) (a : HostAnswer) (s' : HostState) (mem' : MemoryForm) (out : List Action) → table_meaning s i args mem a s' mem' out → Typed (host_types i) a
table_typed s i args mem a s' mem' out m = step_typed (import_at i) s args mem.bytes a s' out m.1

ended_output : (kept : Option Fault) (n : ℤ) (out : List Action) → output_of (ended_with kept n out) ≡ out
ended_output (Some fault) n out = refl
ended_output None n out = refl

module _ (m : ModuleForm) (typed : ModuleOk m) (a : MachineForm) (new : IsNew host_finds m a) (job : JobForm) (input : Source) (outside : Environment) where
  abbrev start : HostState
  start = state_in job input outside

  abbrev program : ProgramForm
  program = record { whole = m; numbers = a.program.numbers }

  -- a run of a typed module ends as a typed module's does
  safe : (k : ℕ) (out : List Action) (e : RunEnd) (c1 : Conf) (s1 : HostState) → Ran table_meaning a.program k a.conf start out e c1 s1 → SafeRun e
  safe k out e c1 s1 r =
      ran_safe table_meaning host_types program table_typed (record { typed = typed; numbered = numbered host_finds program new.linked }) (linked_is host_finds host_types host_found program new.linked) k (beginning m new.main) start out e c1 s1
      (begun_ok m typed new.main new.main_is)
      (subst (λ (x : Conf). Ran table_meaning program k x start out e c1 s1) new.conf
      (subst (λ (x : ProgramForm). Ran table_meaning x k a.conf start out e c1 s1) (ap (λ (w : ModuleForm). record { whole = w; numbers = a.program.numbers }) new.whole) r))

  may_end : (k : ℕ) (out : List Action) (r : RunEnd) (c1 : Conf) (s1 : HostState) → Ran table_meaning a.program k a.conf start out r c1 s1 → (t : MachineEnd) → told_run r ≡ Some t
      → (e : ModuleEnding) → ending_told s1.fault t out ≡ Some e → MayEnd m job input outside k e
  may_end k out r c1 s1 ran t told e ending = record { machine = a; is_new = new; run-end = r; told = t; telling = told; conf = c1; state = s1; output = out; ran = ran; ending = ending }

  -- there is an ending with this output
  abbrev Has : ℕ → List Action → Type 0
  Has k out = (e : ModuleEnding) × (output_in e ≡ out) × MayEnd m job input outside k e

  has_ending : (k : ℕ) (out : List Action) (r : RunEnd) (c1 : Conf) (s1 : HostState) → r ≢ NoMemory → SafeRun r → Ran table_meaning a.program k a.conf start out r c1 s1 → Has k out
  has_ending k out OutOfSteps c1 s1 ne s ran = (Like (GoesOn out), refl, may_end k out OutOfSteps c1 s1 ran machine.OutOfSteps refl (Like (GoesOn out)) refl)
  has_ending k out NoMemory c1 s1 ne s ran = absurd (ne refl)
  has_ending k out (Ended (ends.Returned (Some (I32 w)))) c1 s1 ne s ran =
      (Like (ended_with s1.fault (cast_signed w32 w) out), ended_output s1.fault (cast_signed w32 w) out, may_end k out (Ended (ends.Returned (Some (I32 w)))) c1 s1 ran (machine.Returned (cast_signed w32 w)) refl (Like (ended_with s1.fault (cast_signed w32 w) out)) refl)
  has_ending k out (Ended (ends.Returned (Some (I64 w)))) c1 s1 ne s ran = absurd s
  has_ending k out (Ended (ends.Returned None)) c1 s1 ne s ran = absurd s
  has_ending k out (Ended (ends.Trapped kind)) c1 s1 ne s ran = (Trapped kind out, refl, may_end k out (Ended (ends.Trapped kind)) c1 s1 ran (machine.Trapped kind) refl (Trapped kind out) refl)
  has_ending k out (Ended ends.Exhausted) c1 s1 ne s ran = (Like (Exhausted out), refl, may_end k out (Ended ends.Exhausted) c1 s1 ran machine.Exhausted refl (Like (Exhausted out)) refl)
  has_ending k out (Ended ends.Stuck) c1 s1 ne s ran = absurd s

  -- what is told, where this fault is kept
  tells_ending : (k : ℕ) (out : List Action) (r : RunEnd) (c1 : Conf) (s1 : HostState) (kept : Option Fault) → s1.fault ≡ kept → Ran table_meaning a.program k a.conf start out r c1 s1
      → (t : MachineEnd) → told_run r ≡ Some t → t ≢ machine.NoMemory → Tells m job input outside k kept t out
  tells_ending k out r c1 s1 kept e ran t told ne = by t told ne
    where
      ends_so : (x : MachineEnd) → told_run r ≡ Some x → (d : ModuleEnding) → ending_told kept x out ≡ Some d → TellsEnding m job input outside k kept x out
      ends_so x q d is = (d, is, may_end k out r c1 s1 ran x q d (ap (λ (o : Option Fault). ending_told o x out) e ∙ is))

      by : (x : MachineEnd) → told_run r ≡ Some x → x ≢ machine.NoMemory → Tells m job input outside k kept x out
      by (machine.Returned n) q ne = ends_so (machine.Returned n) q (Like (ended_with kept n out)) refl
      by (machine.Trapped kind) q ne = ends_so (machine.Trapped kind) q (Trapped kind out) refl
      by machine.OutOfSteps q ne = ends_so machine.OutOfSteps q (Like (GoesOn out)) refl
      by machine.Exhausted q ne = ends_so machine.Exhausted q (Like (Exhausted out)) refl
      by machine.NoMemory q ne = absurd (ne refl)

not_wanting : (r : RunEnd) (e : MachineEnd) → told_run r ≡ Some e → r ≢ NoMemory → e ≢ machine.NoMemory
not_wanting OutOfSteps e q ne is = let z : Some machine.OutOfSteps ≡ Some machine.NoMemory = q ∙ ap Some is in cc
not_wanting NoMemory e q ne is = ne refl
not_wanting (Ended (ends.Returned (Some (I32 w)))) e q ne is = let z : Some (machine.Returned (cast_signed w32 w)) ≡ Some machine.NoMemory = q ∙ ap Some is in cc
not_wanting (Ended (ends.Returned (Some (I64 w)))) e q ne is = cc
not_wanting (Ended (ends.Returned None)) e q ne is = cc
not_wanting (Ended (ends.Trapped kind)) e q ne is = let z : Some (machine.Trapped kind) ≡ Some machine.NoMemory = q ∙ ap Some is in cc
not_wanting (Ended ends.Exhausted) e q ne is = let z : Some machine.Exhausted ≡ Some machine.NoMemory = q ∙ ap Some is in cc
not_wanting (Ended ends.Stuck) e q ne is = cc

-- over a modelled world
module _ (m : ModuleForm) (typed : ModuleOk m) (a : MachineForm) (new : IsNew host_finds m a) (job : JobForm) (input : Source) (outside : Outside)
    (tells : Type 0) (t : tells) (f : HostForm) (begins : Shown f (state_at_start job input outside)) where
  abbrev first : HostState
  first = state_at_start job input outside

  -- the form at the start keeps no output
  begins_so : ShownAfter [] f first
  begins_so = subst (λ (o : List Action). Shown (form_with_output o f) first) (sym (shown_output f first begins)) begins

  wanted_run : (k : ℕ) (out : List Action) (c1 : Conf) (f1 : HostForm) → Ran (form_meaning tells) a.program k a.conf (Told f) out NoMemory c1 (Told f1)
      → ToldRun m job input outside k machine.NoMemory f1
  wanted_run k out c1 f1 r =
      let x = wanted tells t a.program k a.conf f [] first begins_so out c1 f1 r in
      let h = x.0 in
      let y = has_ending m typed a new job input (Closed outside) h.0 (out ++ h.2) h.3 h.4 h.5 h.6 (safe m typed a new job input (Closed outside) h.0 (out ++ h.2) h.3 h.4 h.5 h.7) h.7 in
      record { output = out; tells = (h.0, h.1, y.0, h.2, y.1, y.2); applied = x.1 }

  told_run_by : (k : ℕ) (out : List Action) (r : RunEnd) (c1 : Conf) (f1 : HostForm) → r ≢ NoMemory → Ran (form_meaning tells) a.program k a.conf (Told f) out r c1 (Told f1)
      → (e : MachineEnd) → told_run r ≡ Some e → e ≢ machine.NoMemory → ToldRun m job input outside k e f1
  told_run_by k out r c1 f1 ne ran e told other =
      let x = run_carried tells table_meaning ShownAfter (table_follows tells t) a.program k a.conf f out c1 f1 [] first begins_so r ne ran in
      record {
        output = out;
        tells = tells_ending m typed a new job input (Closed outside) k out r c1 x.state f1.fault (shown_fault (form_with_output out f1) x.state x.shows) x.ran e told other;
        applied = sym (shown_outside (form_with_output out f1) x.state x.shows) ∙ run_makes a.program k a.conf first out r c1 x.state x.ran;
      }

  -- WHAT A MACHINE DID
  pub did_tell : (k : ℕ) (e : MachineEnd) (c1 : Conf) (f1 : HostForm) → Did (form_meaning tells) a.program k a.conf (Told f) e c1 (Told f1)
      → ToldRun m job input outside k e f1
  did_tell k e c1 f1 d = by d.1 d.2 d.3
    where
      told_so : machine.NoMemory ≡ e → ToldRun m job input outside k machine.NoMemory f1 → ToldRun m job input outside k e f1
      told_so q x = subst (λ (z : MachineEnd). ToldRun m job input outside k z f1) q x

      some_same : (x y : MachineEnd) → Some x ≡ Some y → x ≡ y
      some_same x y q = cc

      by : (r : RunEnd) → told_run r ≡ Some e → Ran (form_meaning tells) a.program k a.conf (Told f) d.0 r c1 (Told f1) → ToldRun m job input outside k e f1
      by NoMemory q ran = told_so (some_same machine.NoMemory e q) (wanted_run k d.0 c1 f1 ran)
      by OutOfSteps q ran = told_run_by k d.0 OutOfSteps c1 f1 (λ z. cc) ran e q (not_wanting OutOfSteps e q (λ z. cc))
      by (Ended x) q ran = told_run_by k d.0 (Ended x) c1 f1 (λ z. cc) ran e q (not_wanting (Ended x) e q (λ z. cc))

-- A run over any world, as one in an environment that others change too.
module _ (m : ModuleForm) (typed : ModuleOk m) (a : MachineForm) (new : IsNew host_finds m a) (job : JobForm) (input : Source) (outside : Outside)
    (tells : Type 0) (f : HostForm) (begins : ShownFirst f job input outside) where
  wanted_there : (k : ℕ) (out : List Action) (c1 : Conf) (f1 : HostForm) (r : Ran (form_meaning tells) a.program k a.conf (Told f) out NoMemory c1 (Told f1))
      → FoundRun m job k machine.NoMemory f1 r.4
  wanted_there k out c1 f1 r =
      let w = finds_more tells a.program k a.conf f out c1 f1 r in
      let x = from_start f w.0 (λ s o s1. HasMore table_meaning a.program k a.conf s o) job input outside begins r.4 w.1 in
      let h = x.3 in
      let y = has_ending m typed a new job to_come (Opened x.0) h.0 (r.4 ++ h.2) h.3 h.4 h.5 h.6
      (safe m typed a new job to_come (Opened x.0) h.0 (r.4 ++ h.2) h.3 h.4 h.5 h.7) h.7 in
      record { finds = x.0; tells = (h.0, h.1, y.0, h.2, y.1, y.2) }

  found_there : (k : ℕ) (out : List Action) (r : RunEnd) (c1 : Conf) (f1 : HostForm) → r ≢ NoMemory → Ran (form_meaning tells) a.program k a.conf (Told f) out r c1 (Told f1)
      → (e : MachineEnd) → told_run r ≡ Some e → e ≢ machine.NoMemory → FoundRun m job k e f1 out
  found_there k out r c1 f1 ne ran e told other =
      let x = from_start f f1 (λ s o s1. Ran table_meaning a.program k a.conf s o r c1 s1) job input outside begins out (finds_run tells a.program k a.conf f out c1 f1 r ne ran) in
      record { finds = x.0; tells = tells_ending m typed a new job to_come (Opened x.0) k out r c1 x.1 f1.fault x.2 x.3 e told other }

  -- WHAT A MACHINE DID, over any world
  pub did_find : (k : ℕ) (e : MachineEnd) (c1 : Conf) (f1 : HostForm) (d : Did (form_meaning tells) a.program k a.conf (Told f) e c1 (Told f1))
      → FoundRun m job k e f1 (done_output (form_meaning tells) a.program k a.conf (Told f) d.0 d.1 c1 (Told f1) d.3)
  did_find k e c1 f1 d = by d.1 d.2 d.3
    where
      found_so : (out : List Action) → machine.NoMemory ≡ e → FoundRun m job k machine.NoMemory f1 out → FoundRun m job k e f1 out
      found_so out q x = subst (λ (z : MachineEnd). FoundRun m job k z f1 out) q x

      some_same : (x y : MachineEnd) → Some x ≡ Some y → x ≡ y
      some_same x y q = cc

      by : (r : RunEnd) → told_run r ≡ Some e → (ran : Ran (form_meaning tells) a.program k a.conf (Told f) d.0 r c1 (Told f1))
          → FoundRun m job k e f1 (done_output (form_meaning tells) a.program k a.conf (Told f) d.0 r c1 (Told f1) ran)
      by NoMemory q ran = found_so ran.4 (some_same machine.NoMemory e q) (wanted_there k d.0 c1 f1 ran)
      by OutOfSteps q ran = found_there k d.0 OutOfSteps c1 f1 (λ z. cc) ran e q (not_wanting OutOfSteps e q (λ z. cc))
      by (Ended x) q ran = found_there k d.0 (Ended x) c1 f1 (λ z. cc) ran e q (not_wanting (Ended x) e q (λ z. cc))
