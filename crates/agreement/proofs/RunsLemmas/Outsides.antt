-- Over a host of the table, what the names outside hold after a run is what its output makes of it.
use Rattle.std.proofs.Common.{◌≡◌, ℕ, zero, suc, Bool, true, false, List, [], ◌∷◌, ◌++◌, Option, Some, None, Result, Ok, Err, refl, sym, ap, ◌∙◌}
use Rattle.awk_values.specs.declared.fault.Fault.{Fault}
use Rattle.sem_primitives.specs.Sorts.{InAnswer}
use Rattle.sem_primitives.specs.declared.sorts.Answer.{Answer}
use Rattle.wasm_store.specs.Memories.{MemoryForm}
use Rattle.wasm_store.specs.declared.word.Word.{Word}
use Rattle.wasm_model.specs.Machines.{Asks, Conf, Ends, Goes, ProgramForm, Turn, turn}
use Rattle.wasm_model.specs.Runs.{OverBy, Ran, RefusedAs, Steps, TakenAs}
use Rattle.wasm_model.specs.declared.host.HostAnswer.{HostAnswer}
use Rattle.wasm_model.specs.declared.ends.End.{End}
use Rattle.wasm_model.specs.declared.ends.RunEnd.{RunEnd}
use Rattle.wasm_model.specs.declared.ends.RunEnd.TheVariants.{Ended, NoMemory, OutOfSteps}
use Rattle.world_core.specs.WorldState.{Action, Outside, after, step}
use Rattle.host_step.specs.HostState.{HostState, Names}
use Rattle.host_step.specs.HostStep.{Acts, Comes, Goes as Carried, Refuses, Settles, StepBy, StepIf, Traps, comes}
use Rattle.host_imports.specs.Imports.{import_answer, import_at}
use Rattle.host_imports.specs.declared.import.Import.{Import}
use Rattle.agreement.specs.Modules.TableMeaning.{table_meaning}

abbrev pub Makes : HostState → List Action → HostState → Type 0
Makes s output s1 = s1.shared.outside ≡ after output s.shared.outside

pub after_both : (a b : List Action) (o : Outside) → after (a ++ b) o ≡ after b (after a o)
after_both [] b o = refl
after_both (x ∷ a) b o = after_both a b (step x o)

pub makes_none : (s s1 : HostState) (output : List Action) → s1 ≡ s → output ≡ [] → Makes s output s1
makes_none s s1 output e n = ap (λ (z : HostState). z.shared.outside) e ∙ ap (λ (o : List Action). after o s.shared.outside) (sym n)

pub makes_both : (s s1 s2 : HostState) (a b output : List Action) → output ≡ a ++ b → Makes s a s1 → Makes s1 b s2 → Makes s output s2
makes_both s s1 s2 a b output e p q =
    q ∙ (ap (after b) p ∙ (sym (after_both a b s.shared.outside) ∙ ap (λ (o : List Action). after o s.shared.outside) (sym e)))

settled_makes : (a : Answer) (before : HostState) (left : Names) (d : Acts (InAnswer a)) (r : Result (InAnswer a) Fault) (v : HostAnswer) (s1 : HostState)
    (output : List Action) → Settles a before left d r v s1 output → Makes before output s1
settled_makes a before left d (Ok x) v s1 output h =
    ap (λ (z : HostState). z.shared.outside) h.2.state ∙ ap (λ (o : List Action). after o before.shared.outside) (sym h.2.added)
settled_makes a before left d (Err f) v s1 output h =
    ap (λ (z : HostState). z.shared.outside) h.state ∙ ap (λ (o : List Action). after o before.shared.outside) (sym h.added)

come_makes : (a : Answer) (before : HostState) (c : Comes (InAnswer a)) (v : HostAnswer) (s1 : HostState) (output : List Action)
    → StepBy a before c v s1 output → Makes before output s1
come_makes a before (Traps k) v s1 output h = makes_none before s1 output h.state h.added
come_makes a before Refuses v s1 output h = makes_none before s1 output h.state h.added
come_makes a before (Carried left d) v s1 output h = settled_makes a before left d d.does.answer v s1 output h

-- a call
pub call_makes : (o : Option Import) (before : HostState) (words : List Word) (memory : List ℕ) (v : HostAnswer) (s1 : HostState) (output : List Action)
    → StepIf o before words memory v s1 output → Makes before output s1
call_makes None before words memory v s1 output h = makes_none before s1 output h.state h.added
call_makes (Some i) before words memory v s1 output h = come_makes (import_answer i) before (comes i words memory before) v s1 output h

step_makes : (t : Turn) (s : HostState) (mem : MemoryForm) (output : List Action) (c1 : Conf) (s1 : HostState) → TakenAs table_meaning t s mem output c1 s1
    → Makes s output s1
step_makes (Goes c) s mem output c1 s1 h = makes_none s s1 output h.1 h.2
step_makes (Ends e) s mem output c1 s1 h = absurd h
step_makes (Asks n ws c) s mem output c1 s1 h = call_makes (import_at n) s ws mem.bytes _ s1 output h.1.1

end_makes : (t : Turn) (s : HostState) (mem : MemoryForm) (output : List Action) (e : End) (s1 : HostState) → OverBy table_meaning t s mem output e s1
    → Makes s output s1
end_makes (Goes c) s mem output e s1 h = absurd h
end_makes (Ends x) s mem output e s1 h = makes_none s s1 output h.1 h.2
end_makes (Asks n ws c) s mem output e s1 h = call_makes (import_at n) s ws mem.bytes _ s1 output h.3.1

pub steps_make : (m : ProgramForm) (n : ℕ) (c : Conf) (s : HostState) (output : List Action) (c1 : Conf) (s1 : HostState)
    → Steps table_meaning m n c s output c1 s1 → Makes s output s1
steps_make m zero c s output c1 s1 h = makes_none s s1 output h.1 h.2
steps_make m (suc n) c s output c1 s1 h =
    makes_both s h.1 s1 h.2 h.3 output h.6 (step_makes (turn m c) s c.memory h.2 h.0 h.1 h.4) (steps_make m n h.0 h.1 h.3 c1 s1 h.5)

refused_makes : (asked : Bool) (t : Turn) (s : HostState) (mem : MemoryForm) (output : List Action) (s1 : HostState)
    → RefusedAs table_meaning asked t s mem output s1 → Makes s output s1
refused_makes false t s mem output s1 h = makes_none s s1 output h.0 h.1
refused_makes true (Goes c) s mem output s1 h = absurd h
refused_makes true (Ends e) s mem output s1 h = absurd h
refused_makes true (Asks n ws c) s mem output s1 h = call_makes (import_at n) s ws mem.bytes h.0 s1 output h.2.1

-- a run, however it ends
pub run_makes : (m : ProgramForm) (n : ℕ) (c : Conf) (s : HostState) (output : List Action) (r : RunEnd) (c1 : Conf) (s1 : HostState)
    → Ran table_meaning m n c s output r c1 s1 → Makes s output s1
run_makes m n c s output OutOfSteps c1 s1 h = steps_make m n c s output c1 s1 h.0
run_makes m n c s output (Ended e) c1 s1 h =
    makes_both s h.3 s1 h.4 h.5 output h.8 (steps_make m h.0 c s h.4 h.2 h.3 h.6) (end_makes (turn m h.2) h.3 h.2.memory h.5 e s1 h.7)
run_makes m n c s output NoMemory c1 s1 h =
    makes_both s h.3 s1 h.4 h.5 output h.9 (steps_make m h.0 c s h.4 h.2 h.3 h.7) (refused_makes h.6 (turn m h.2) h.3 h.2.memory h.5 s1 h.8)
