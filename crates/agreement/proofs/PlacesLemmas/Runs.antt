-- THERE IS A RUN of each number of steps: the host never lacks a free number, and what a run of a typed module ends with is told.
use Rattle.std.proofs.Common.{◌≡◌, ◌≢◌, ℕ, zero, suc, List, Option, Some, None, refl, sym, ap, ◌∙◌, subst, arith}
use Rattle.std.specs.Int.{cast_signed, w32}
use Rattle.awk_values.specs.declared.fault.Fault.{Fault}
use Rattle.sem_primitives.specs.Jobs.{JobForm, Environment}
use Rattle.world_core.specs.WorldState.{Action, Source}
use Rattle.wasm_types.specs.Typing.{ModuleOk}
use Rattle.wasm_store.specs.declared.word.Word.TheVariants.{I32, I64}
use Rattle.wasm_model.specs.Links.{IsNew, beginning}
use Rattle.wasm_model.specs.Machines.{Conf, Goes, ProgramForm, turn}
use Rattle.wasm_model.specs.Runs.{MachineForm, told_run}
use Rattle.wasm_model.specs.Typed.{ProgramOk, SafeRun}
use Rattle.wasm_model.specs.declared.ends.MachineEnd.{MachineEnd}
use Rattle.wasm_model.specs.declared.ends.MachineEnd.TheVariants as machine
use Rattle.wasm_model.specs.declared.ends.End.TheVariants as ends
use Rattle.wasm_model.specs.declared.ends.RunEnd.{RunEnd}
use Rattle.wasm_model.specs.declared.ends.RunEnd.TheVariants.{Ended as HasEnded, NoMemory, OutOfSteps}
use Rattle.wasm_model.proofs.Beginning.{begun_ok, linked_is, numbered}
use Rattle.wasm_model.proofs.Whole.{ran_safe}
use Rattle.host_step.specs.HostLaws.{host_found, step_typed}
use Rattle.host_step.specs.HostState.{HostState}
use Rattle.host_imports.specs.Imports.{host_finds, host_types, import_at}
use Rattle.host_step.specs.Starts.{first_names, state_in}
use Rattle.mid_program.specs.Mid.{Program}
use Rattle.sem_scripts.specs.ScriptRun.{GoesOn, Exhausted, setting_in}
use Rattle.mid_program.specs.Sorted.{IsSorted}
use Rattle.lower_model.specs.Machine.{Stuck, ending_at, go}
use Rattle.lower_model.specs.Modules.{module_of}
use Rattle.lower_model.specs.Runs.{begun, code_of}
use Rattle.agreement.proofs.TypedLemmas.Links.{main_exported, segments_fit}
use Rattle.agreement.proofs.TypedLemmas.Whole.{module_ok}
use Rattle.agreement.specs.Modules.TableMeaning.{table_meaning}
use Rattle.agreement.proofs.RefinedLemmas.Beginning.{begins, in_main, main_number, steps_after}
use Rattle.agreement.proofs.RefinedLemmas.Existing.{FreeFrom, HasRun, runs}
use Rattle.agreement.proofs.RefinedLemmas.Links.{numbers_are, program}
use Rattle.agreement.proofs.RefinedLemmas.Room.{HasFree}
use Rattle.agreement.specs.Modules.Agreement.{Like, MayEnd, ModuleEnding, Trapped, ended_with, ending_told}
use Rattle.agreement.specs.Modules.ValueAgreement.{ValueAgreement}
use Rattle.agreement.specs.Places.Existence.{HasRuns}
use Rattle.agreement.specs.Places.Places.{IsSmall}
use Rattle.agreement.proofs.PlacesLemmas.Free.{free_from}

-- at the start no value and no iterator is there, and two arrays are
free_at_start : HasFree first_names
free_at_start = record {
  values = (0, record { below = omega arith; free = refl });
  arrays = (2, record { below = omega arith; free = refl });
  iterators = (0, record { below = omega arith; free = refl });
}

-- from the step that calls `main`
free_before : (m : ProgramForm) (c c0 : Conf) (s : HostState) → turn m c ≡ Goes c0 → HasFree s.names → FreeFrom m c0 s → FreeFrom m c s
free_before m c c0 s first here later zero out c1 s1 h = subst (λ (z : HostState). HasFree z.names) (sym h.1) here
free_before m c c0 s first here later (suc k) out c1 s1 h = later k out c1 s1 (steps_after table_meaning m c c0 first k s out c1 s1 h)

-- what is told of a run
record IsTold (r : RunEnd) (kept : Option Fault) (output : List Action) : Type 0 where
  end : MachineEnd
  telling : told_run r ≡ Some end
  shown : ModuleEnding
  ending : ending_told kept end output ≡ Some shown

told : (r : RunEnd) (kept : Option Fault) (output : List Action) → SafeRun r → r ≢ NoMemory → IsTold r kept output
told OutOfSteps kept output safe ne = record { end = machine.OutOfSteps; telling = refl; shown = Like (GoesOn output); ending = refl }
told NoMemory kept output safe ne = absurd (ne refl)
told (HasEnded (ends.Returned (Some (I32 n)))) kept output safe ne = record { end = machine.Returned (cast_signed w32 n); telling = refl; shown = Like (ended_with kept (cast_signed w32 n) output); ending = refl }
told (HasEnded (ends.Returned (Some (I64 n)))) kept output safe ne = absurd safe
told (HasEnded (ends.Returned None)) kept output safe ne = absurd safe
told (HasEnded (ends.Trapped kind)) kept output safe ne = record { end = machine.Trapped kind; telling = refl; shown = Trapped kind output; ending = refl }
told (HasEnded ends.Exhausted) kept output safe ne = record { end = machine.Exhausted; telling = refl; shown = Like (Exhausted output); ending = refl }
told (HasEnded ends.Stuck) kept output safe ne = absurd safe

module _ (p : Program) (sorted : IsSorted p) (small : IsSmall p) where
  -- the module, linked with a host of the table
  abbrev at_first : MachineForm
  at_first = record { program = program p; conf = beginning (module_of p) (main_number p); ended = None }

  is_new : IsNew host_finds (module_of p) at_first
  is_new = record {
    main = main_number p;
    main_is = main_exported p;
    whole = refl;
    linked = numbers_are p;
    fit = segments_fit p;
    conf = refl;
    ended = refl;
  }

  typed : ModuleOk (module_of p)
  typed = (module_ok p sorted).0 small.texts

  program_ok : ProgramOk (program p)
  program_ok = record { typed = typed; numbered = numbered host_finds (program p) (numbers_are p) }

  module _ (agree : ValueAgreement p) (job : JobForm) (input : Source) (outside : Environment) where
    abbrev start : HostState
    start = state_in job input outside

    not_stuck : (n : ℕ) → go (code_of p 9999) n (begun p (setting_in job input outside)) ≡ Stuck → ⊥
    not_stuck n h = let shows = agree.never_stuck (setting_in job input outside) n in let q = sym (ap ending_at h) ∙ shows.1 in cc

    free : FreeFrom (program p) at_first.conf start
    free = free_before (program p) at_first.conf (in_main p) start (begins p at_first is_new) free_at_start (free_from p small (setting_in job input outside) not_stuck)

    there : (steps : ℕ) → (e : ModuleEnding) × MayEnd (module_of p) job input outside steps e
    there steps = by (runs (program p) steps at_first.conf start free)
      where
        by : HasRun (program p) steps at_first.conf start → (e : ModuleEnding) × MayEnd (module_of p) job input outside steps e
        by r =
            let safe = ran_safe table_meaning host_types (program p) (λ h i args mem a h1 mem1 out s. step_typed (import_at i) h args mem.bytes a h1 out s.1) program_ok
            (linked_is host_finds host_types host_found (program p) (numbers_are p)) steps at_first.conf start r.output r.how r.conf r.state
            (begun_ok (module_of p) typed (main_number p) (main_exported p)) r.ran in
            let t = told r.how r.state.fault r.output safe r.enough in (
              t.shown,
              record {
                machine = at_first;
                is_new = is_new;
                run-end = r.how;
                told = t.end;
                telling = t.telling;
                conf = r.conf;
                state = r.state;
                output = r.output;
                ran = r.ran;
                ending = t.ending;
              },
            )

-- THE MODULE RUNS
pub has_runs : (p : Program) → IsSorted p → IsSmall p → ValueAgreement p → (job : JobForm) (input : Source) (outside : Environment) → HasRuns (module_of p) job input outside
has_runs p sorted small agree job input outside steps = there p sorted small agree job input outside steps
