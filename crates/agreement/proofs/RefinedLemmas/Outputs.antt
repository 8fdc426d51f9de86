-- What a call puts out is what it adds to the output of the shared state; so too what a run puts out.
use Rattle.std.proofs.Common.{◌≡◌, ℕ, zero, suc, Bool, true, false, List, [], ◌++◌, Option, Some, None, Result, Ok, Err, refl, sym, ap, ◌∙◌, append-nil}
use Rattle.std.proofs.Common.{append_assoc}
use Rattle.awk_values.specs.declared.fault.Fault.{Fault}
use Rattle.sem_primitives.specs.Sorts.{InAnswer}
use Rattle.sem_primitives.specs.declared.sorts.Answer.{Answer}
use Rattle.wasm_store.specs.Memories.{MemoryForm}
use Rattle.wasm_store.specs.declared.word.Word.{Word}
use Rattle.wasm_model.specs.Machines.{Conf, Ends, Goes, Asks, ProgramForm, Turn, turn}
use Rattle.wasm_model.specs.Runs.{OverBy, Ran, RefusedAs, Steps, TakenAs}
use Rattle.wasm_model.specs.declared.host.HostAnswer.{HostAnswer}
use Rattle.wasm_model.specs.declared.ends.End.{End}
use Rattle.wasm_model.specs.declared.ends.RunEnd.{RunEnd}
use Rattle.wasm_model.specs.declared.ends.RunEnd.TheVariants.{Ended, NoMemory, OutOfSteps}
use Rattle.world_core.specs.WorldState.{Action}
use Rattle.host_step.specs.HostState.{HostState, Names}
use Rattle.host_step.specs.HostStep as host
use Rattle.host_step.specs.HostStep.{Acts, Comes, Goes as Carried, HostStep, Refuses, Settles, StepBy, StepIf, Traps, comes}
use Rattle.host_imports.specs.Imports.{import_answer, import_at}
use Rattle.host_imports.specs.declared.import.Import.{Import}
use Rattle.agreement.specs.Modules.TableMeaning.{table_meaning}

abbrev pub Adds : HostState → HostState → List Action → Type 0
Adds before after output = after.shared.output ≡ before.shared.output ++ output

adds_none : (before after : HostState) (output : List Action) → after ≡ before → output ≡ [] → Adds before after output
adds_none before after output e n = ap (λ (s : HostState). s.shared.output) e ∙
    (sym (append-nil before.shared.output) ∙ ap (λ z. before.shared.output ++ z) (sym n))

adds_so : (before after after1 : HostState) (output added : List Action) → after ≡ after1 → output ≡ added → Adds before after1 added → Adds before after output
adds_so before after after1 output added e n h = ap (λ (s : HostState). s.shared.output) e ∙ (h ∙ ap (λ z. before.shared.output ++ z) (sym n))

adds_then : (s s1 s2 : HostState) (out1 out2 : List Action) → Adds s s1 out1 → Adds s1 s2 out2 → Adds s s2 (out1 ++ out2)
adds_then s s1 s2 out1 out2 a b = b ∙ (ap (λ z. z ++ out2) a ∙ append_assoc s.shared.output out1 out2)

settled_adds : (a : Answer) (before : HostState) (left : Names) (d : Acts (InAnswer a)) (r : Result (InAnswer a) Fault) (v : HostAnswer) (after : HostState)
    (output : List Action) → Settles a before left d r v after output → Adds before after output
settled_adds a before left d (Ok x) v after output h = adds_so before after
    (host.answered h.0 a before left d x).after output d.does.added h.2.state h.2.added refl
settled_adds a before left d (Err f) v after output h = adds_so before after (host.faulted a before left d f).after output d.does.added h.state h.added refl

come_adds : (a : Answer) (before : HostState) (c : Comes (InAnswer a)) (v : HostAnswer) (after : HostState) (output : List Action) →
    StepBy a before c v after output → Adds before after output
come_adds a before (Traps k) v after output h = adds_none before after output h.state h.added
come_adds a before Refuses v after output h = adds_none before after output h.state h.added
come_adds a before (Carried left d) v after output h = settled_adds a before left d d.does.answer v after output h

-- ONE CALL, whichever it is and however it ends
pub call_adds : (n : ℕ) (before : HostState) (words : List Word) (memory : List ℕ) (v : HostAnswer) (after : HostState) (output : List Action) →
    HostStep n before words memory v after output → Adds before after output
call_adds n before words memory v after output h = by (import_at n) h
  where
    by : (o : Option Import) → StepIf o before words memory v after output → Adds before after output
    by None t = adds_none before after output t.state t.added
    by (Some i) t = come_adds (import_answer i) before (comes i words memory before) v after output t

-- a step of the machine
pub step_adds : (t : Turn) (s : HostState) (mem : MemoryForm) (output : List Action) (c1 : Conf) (s1 : HostState) → TakenAs table_meaning t s mem output c1 s1 →
    Adds s s1 output
step_adds (Goes c) s mem output c1 s1 h = adds_none s s1 output h.1 h.2
step_adds (Ends e) s mem output c1 s1 h = absurd h
step_adds (Asks n ws c) s mem output c1 s1 h = call_adds n s ws mem.bytes _ s1 output h.1.1

-- its last turn
pub end_adds : (t : Turn) (s : HostState) (mem : MemoryForm) (output : List Action) (e : End) (s1 : HostState) → OverBy table_meaning t s mem output e s1 →
    Adds s s1 output
end_adds (Goes c) s mem output e s1 h = absurd h
end_adds (Ends x) s mem output e s1 h = adds_none s s1 output h.1 h.2
end_adds (Asks n ws c) s mem output e s1 h = call_adds n s ws mem.bytes _ s1 output h.3.1

pub steps_add : (m : ProgramForm) (n : ℕ) (c : Conf) (s : HostState) (output : List Action) (c1 : Conf) (s1 : HostState) →
    Steps table_meaning m n c s output c1 s1 → Adds s s1 output
steps_add m zero c s output c1 s1 h = adds_none s s1 output h.1 h.2
steps_add m (suc n) c s output c1 s1 h =
    adds_so s s1 s1 output (h.2 ++ h.3) refl h.6 (adds_then s h.1 s1 h.2 h.3 (step_adds (turn m c) s c.memory h.2 h.0 h.1 h.4)
    (steps_add m n h.0 h.1 h.3 c1 s1 h.5))

refused_adds : (asked : Bool) (t : Turn) (s : HostState) (mem : MemoryForm) (output : List Action) (s1 : HostState) →
    RefusedAs table_meaning asked t s mem output s1 → Adds s s1 output
refused_adds false t s mem output s1 h = adds_none s s1 output h.0 h.1
refused_adds true (Goes c) s mem output s1 h = absurd h
refused_adds true (Ends e) s mem output s1 h = absurd h
refused_adds true (Asks n ws c) s mem output s1 h = call_adds n s ws mem.bytes h.0 s1 output h.2.1

-- A RUN, however it ends
pub run_adds : (m : ProgramForm) (n : ℕ) (c : Conf) (s : HostState) (output : List Action) (r : RunEnd) (c1 : Conf) (s1 : HostState) →
    Ran table_meaning m n c s output r c1 s1 → Adds s s1 output
run_adds m n c s output OutOfSteps c1 s1 h = steps_add m n c s output c1 s1 h.0
run_adds m n c s output (Ended e) c1 s1 h =
    adds_so s s1 s1 output (h.4 ++ h.5) refl h.8 (adds_then s h.3 s1 h.4 h.5 (steps_add m h.0 c s h.4 h.2 h.3 h.6)
    (end_adds (turn m h.2) h.3 h.2.memory h.5 e s1 h.7))
run_adds m n c s output NoMemory c1 s1 h =
    adds_so s s1 s1 output (h.4 ++ h.5) refl h.9 (adds_then s h.3 s1 h.4 h.5 (steps_add m h.0 c s h.4 h.2 h.3 h.7)
    (refused_adds h.6 (turn m h.2) h.3 h.2.memory h.5 s1 h.8))
