-- The laws of runs, of mid code and of scripts.
use Rattle.std.proofs.Common.{Option, Some, None, subst}
use Rattle.awk_values.specs.declared.fault.Fault.{Fault}
use Rattle.sem_primitives.specs.Jobs.{fault_of_job}
use Rattle.sem_scripts.specs.Names.{Resolved}
use Rattle.sem_scripts.specs.ScriptState.{State, Faulted, OutOfTurns, TooDeep, Nexted, Exited, Returned, Outcome, Gives, Stops, Execution}
use Rattle.sem_scripts.specs.ScriptRun.{Ending, all_parts, ending, resolved_run, start, unless}
use Rattle.sem_scripts.specs.Names.{names_length}
use Rattle.std.specs.Prelude.{map}
use Rattle.sem_scripts.specs.MoreTurns.{IsKept, IsNoExhaustion, MoreTurnsKeep, NeverTooDeep}
use Rattle.mid_program.specs.Mid.{Program}
use Rattle.mid_program.specs.MidMeaning.{global_name, mid_parts, mid_run_in}
use Rattle.mid_program.specs.Translation.{program_of}
use Rattle.mid_meaning.proofs.Scripts.{code_ends_as}
use Rattle.mid_meaning.proofs.OutputGrows.{Fits, program_shallow}
use Rattle.mid_meaning.proofs.FuelMonotone.{more_turns_keep}

pub code_keeps : (p : Program) → MoreTurnsKeep (mid_run_in p)
code_keeps p setting few many l = more_turns_keep p setting few many l

pub script_keeps : (script : Resolved) → MoreTurnsKeep (resolved_run script)
script_keeps script setting few many l =
    subst (λ (x : Ending). IsKept x (resolved_run script setting many)) (code_ends_as script setting few)
    (subst (λ (x : Ending). IsKept (mid_run_in (program_of script) setting few) x) (code_ends_as script setting many) (more_turns_keep (program_of script) setting few many l))

no_exhaustion : (before : State) (o : Outcome (Unit {0})) → Fits before o → IsNoExhaustion (ending o)
no_exhaustion before (Gives u state) f = tt
no_exhaustion before (Stops (Faulted fault) state) f = tt
no_exhaustion before (Stops OutOfTurns state) f = tt
no_exhaustion before (Stops TooDeep state) f = absurd f
no_exhaustion before (Stops Nexted state) f = tt
no_exhaustion before (Stops Exited state) f = tt
no_exhaustion before (Stops (Returned x) state) f = tt

unless_fits : (fault : Option Fault) (m : Execution (Unit {0})) (state : State) → Fits state (m state) → IsNoExhaustion (ending (unless fault m state))
unless_fits (Some fault) m state f = tt
unless_fits None m state f = no_exhaustion state (m state) f

pub code_is_shallow : (p : Program) → NeverTooDeep (mid_run_in p)
code_is_shallow p setting turns l =
    let globals = names_length (map global_name p.globals) in
    unless_fits (fault_of_job setting.job) (all_parts turns (mid_parts turns p)) (start setting globals turns) (program_shallow p turns (start setting globals turns) l)

pub script_is_shallow : (script : Resolved) → NeverTooDeep (resolved_run script)
script_is_shallow script setting turns l = subst (λ (x : Ending). IsNoExhaustion x) (code_ends_as script setting turns) (code_is_shallow (program_of script) setting turns l)
