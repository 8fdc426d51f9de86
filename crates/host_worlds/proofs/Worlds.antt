-- From the steps of an import that writes, to what is said of its call over a world.
use Rattle.std.proofs.Common.{◌≡◌, ◌≢◌, ℕ, List, [], ◌++◌, take, drop, Some, Result, Ok, Err, sym, ap, subst}
use Rattle.std.proofs.lemmas.List.{append-nil, take-append-drop}
use Rattle.awk_values.specs.declared.fault.Fault.{Fault}
use Rattle.awk_values.specs.declared.value.Value.{Value}
use Rattle.sem_primitives.specs.SharedState.{Shared}
use Rattle.wasm_model.specs.declared.host.HostAnswer.{HostAnswer}
use Rattle.wasm_model.specs.declared.host.HostAnswer.TheVariants as told
use Rattle.wasm_store.specs.declared.trap.TrapKind.{TrapKind}
use Rattle.wasm_store.specs.declared.word.Word.{Word}
use Rattle.world_core.specs.WorldState.{Action, Entry, after}
use Rattle.host_step.specs.HostLaws.{step_typed}
use Rattle.host_step.specs.HostState.{HostState}
use Rattle.host_step.specs.HostStep.{StepOf}
use Rattle.host_step.specs.Worlds.{Called, Wanted, with_output}
use Rattle.host_imports.specs.declared.import.Import.{Import}
use Rattle.host_worlds.specs.OutputCalls.{finding}
use Rattle.host_worlds.proofs.Puts.{so_far_in}
use Rattle.host_worlds.proofs.Steps.{Puts, after_put, done_by}

-- a state with this shared state
abbrev pub sharing : HostState → Shared → HostState
sharing s shared = record s { shared = shared }

-- A call that puts nothing out; some step, over any state, gives its answer.
pub silent_called : (tells : Type 0) (i : Import) (s s' old new : HostState) (words : List Word) (memory : List ℕ) (a : HostAnswer) → StepOf i old words memory a new []
    → (tells → (so_far : List Action) → StepOf i (with_output so_far s) words memory a (with_output so_far s') [])
    → Called tells (Some i) s words memory a s' []
silent_called tells i s s' old new words memory a some step = record {
  typed = step_typed (Some i) old words memory a new [] some;
  step = λ t so_far. subst (λ (out : List Action). StepOf i (with_output so_far s) words memory a (with_output out s') []) (sym (append-nil so_far)) (step t so_far);
}

-- a trap
pub trap_called : (tells : Type 0) (i : Import) (s : HostState) (words : List Word) (memory : List ℕ) (k : TrapKind)
    → ((so_far : List Action) → StepOf i (with_output so_far s) words memory (told.Trap k) (with_output so_far s) []) → Called tells (Some i) s words memory (told.Trap k) s []
trap_called tells i s words memory k step =
    silent_called tells i s s (with_output [] s) (with_output [] s) words memory (told.Trap k) (step []) (λ t. step)

-- What putting a text out does, over the shared states of one state.
module _ (i : Import) (s : HostState) (words : List Word) (memory : List ℕ) (left : List Value) (does : Shared → Puts)
    (steps : (shared : Shared) → StepOf i (sharing s shared) words memory (done_by (does shared).answer) (after_put (sharing s shared) (does shared) left) (does shared).added)
    (same : (shared : Shared) (output : List Action) → does (so_far_in output shared) ≡ does shared) where
  -- it ends so
  abbrev pub Ends : HostAnswer → HostState → Type 0
  Ends a s' = (a ≡ done_by (does s.shared).answer) × (with_output [] s' ≡ with_output [] (after_put s (does s.shared) left))

  step_so : (a : HostAnswer) (s' : HostState) → Ends a s' → (so_far : List Action)
      → StepOf i (with_output so_far s) words memory a (with_output (so_far ++ (does s.shared).added) s') (does s.shared).added
  step_so a s' (answer, state) so_far =
      subst (λ (x : HostAnswer). StepOf i (with_output so_far s) words memory x (with_output (so_far ++ (does s.shared).added) s') (does s.shared).added) (sym answer)
      (subst (λ (x : HostState). StepOf i (with_output so_far s) words memory (done_by (does s.shared).answer) x (does s.shared).added) (sym (ap (with_output (so_far ++ (does s.shared).added)) state))
      (subst (λ (d : Puts). StepOf i (with_output so_far s) words memory (done_by d.answer) (after_put (with_output so_far s) d left) d.added) (same s.shared so_far)
      (steps (so_far_in so_far s.shared))))

  -- in every world, with the answer that it gives if these are found
  pub called_found : (tells : Type 0) (a : HostAnswer) (s' : HostState) (finds : List Entry) → (tells → Ends a s') → a ≡ done_by (does (finding finds s.shared)).answer
      → Called tells (Some i) s words memory a s' (does s.shared).added
  called_found tells a s' finds ends answer =
      let there = finding finds s.shared in
      let new = after_put (sharing s there) (does there) left in
      record {
        typed = step_typed (Some i) (sharing s there) words memory a new (does there).added
            (subst (λ (x : HostAnswer). StepOf i (sharing s there) words memory x new (does there).added) (sym answer) (steps there));
        step = λ t. step_so a s' (ends t);
      }

  -- what is not done yet, where memory was wanting
  pub wanted_part : (s' : HostState) (n : ℕ) → s'.shared.outside ≡ after (take n (does s.shared).added) s.shared.outside → Wanted (Some i) s words memory s' (take n (does s.shared).added)
  wanted_part s' n outside = record {
    outside = outside;
    answer = done_by (does s.shared).answer;
    answered = some (does s.shared).answer;
    state = after_put s (does s.shared) left;
    rest = drop n (does s.shared).added;
    step = subst (λ (out : List Action). StepOf i s words memory (done_by (does s.shared).answer) (after_put s (does s.shared) left) out) (sym (take-append-drop n (does s.shared).added)) (steps s.shared);
  } where
    some : (r : Result (Unit {0}) Fault) → done_by r ≢ told.NoMemory
    some (Ok u) e = cc
    some (Err fault) e = cc
