-- Calls that are told by tables are calls over a host of the table, where the world tells what it holds.
use Rattle.std.proofs.Common.{◌≢◌, ℕ, List, ◌++◌, Option, Some, None, Result, Ok, Err, refl}
use Rattle.awk_values.specs.declared.fault.Fault.{Fault}
use Rattle.sem_primitives.specs.Sorts.{InAnswer}
use Rattle.sem_primitives.specs.declared.sorts.Answer.{Answer}
use Rattle.wasm_store.specs.Memories.{MemoryForm}
use Rattle.wasm_store.specs.declared.word.Word.{Word}
use Rattle.wasm_model.specs.HostAnswers.{GoesOn}
use Rattle.wasm_model.specs.declared.host.HostAnswer.{HostAnswer}
use Rattle.wasm_model.specs.declared.host.HostAnswer.TheVariants as told
use Rattle.world_core.specs.WorldState.{Action}
use Rattle.host_step.specs.HostState.{HostState, Names}
use Rattle.host_step.specs.HostStep.{Acts, Comes, Goes, Refuses, Settles, StepBy, StepIf, Traps, comes}
use Rattle.host_imports.specs.Imports.{import_answer, import_at}
use Rattle.host_imports.specs.declared.import.Import.{Import}
use Rattle.host_values.specs.Forms.{HostForm}
use Rattle.host_values.specs.FormMeaning.{FormCalled, FormMeans, Told, form_meaning}
use Rattle.host_values.specs.Shown.{Shown, form_with_output}
use Rattle.agreement.specs.Modules.TableMeaning.{table_meaning}

-- so much came before
abbrev pub ShownAfter : List Action → HostForm → HostState → Type 0
ShownAfter so_far f s = Shown (form_with_output so_far f) s

pub means_called : (tells : Type 0) (o : Option Import) (f : HostForm) (words : List Word) (memory : List ℕ) (a : HostAnswer) (f1 : HostForm) (output : List Action)
    → a ≢ told.NoMemory → FormMeans tells o f words memory a f1 output → FormCalled tells o f words memory a f1 output
means_called tells o f words memory (told.Done w) f1 output ne m = m
means_called tells o f words memory (told.Trap k) f1 output ne m = m
means_called tells o f words memory told.NoMemory f1 output ne m = absurd (ne refl)

-- a call over a host of the table
pub table_follows : (tells : Type 0) → tells → (f f1 : HostForm) (n : ℕ) (words : List Word) (mem : MemoryForm) (a : HostAnswer) (mem1 : MemoryForm)
    (output so_far : List Action) (s : HostState) → a ≢ told.NoMemory → form_meaning tells (Told f) n words mem a (Told f1) mem1 output → ShownAfter so_far f s
    → (s1 : HostState) × ShownAfter (so_far ++ output) f1 s1 × table_meaning s n words mem a s1 mem1 output
table_follows tells t f f1 n words mem a mem1 output so_far s ne m h =
    let x = (means_called tells (import_at n) f words mem.bytes a f1 output ne m.1).step t so_far s h in
    (x.state, x.shown, (m.0, x.step))

-- A host of the table wants no memory.

settled_wants : (a : Answer) (s : HostState) (left : Names) (d : Acts (InAnswer a)) (r : Result (InAnswer a) Fault) (s1 : HostState) (output : List Action)
    → Settles a s left d r told.NoMemory s1 output → ⊥
settled_wants a s left d (Ok x) s1 output h = let q = h.2.word in cc
settled_wants a s left d (Err f) s1 output h = let q = h.word in cc

step_wants : (a : Answer) (s : HostState) (c : Comes (InAnswer a)) (s1 : HostState) (output : List Action) → StepBy a s c told.NoMemory s1 output → ⊥
step_wants a s (Traps k) s1 output h = let q = h.trap in cc
step_wants a s Refuses s1 output h = let q = h.word in cc
step_wants a s (Goes left d) s1 output h = settled_wants a s left d d.does.answer s1 output h

call_wants : (o : Option Import) (s : HostState) (words : List Word) (memory : List ℕ) (s1 : HostState) (output : List Action)
    → StepIf o s words memory told.NoMemory s1 output → ⊥
call_wants None s words memory s1 output h = let q = h.trap in cc
call_wants (Some i) s words memory s1 output h = step_wants (import_answer i) s (comes i words memory s) s1 output h

pub table_refused : (s : HostState) (n : ℕ) (words : List Word) (mem : MemoryForm) (s1 : HostState) (mem1 : MemoryForm) (output : List Action)
    → table_meaning s n words mem told.NoMemory s1 mem1 output → GoesOn table_meaning s n words mem output
table_refused s n words mem s1 mem1 output m = absurd (call_wants (import_at n) s words mem.bytes s1 output m.1)
