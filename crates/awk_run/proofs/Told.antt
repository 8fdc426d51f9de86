-- What is told of the run of a module is told of the script that it was compiled from.
use Rattle.std.specs.Prelude.{IfSome}
use Rattle.std.proofs.Common.{◌≡◌, ℕ, List, Option, Some, None, subst}
use Rattle.sem_primitives.specs.Jobs.{JobForm}
use Rattle.world_core.specs.WorldState.{State}
use Rattle.run_report.specs.declared.counts.RunCounts.{RunCounts}
use Rattle.run_report.specs.declared.whereabouts.Whereabouts.{Whereabouts}
use Rattle.script_compiler.specs.Compiled.{IsCompiled}
use Rattle.run_modules.specs.Counted.{IsCountedOfBytes}
use Rattle.run_modules.specs.Seen.{IsSeenOfBytes}
use Rattle.awk_run.specs.Counted.{IsCountedIn}
use Rattle.awk_run.specs.Seen.{IsSeenIn}

pub counted_in : (tells : Type 0) (bytes compiled read : List ℕ) (job : JobForm) (steps : ℕ) (before : State) (counts : Option RunCounts) → read ≡ compiled → IsCompiled bytes compiled → IfSome counts (IsCountedOfBytes tells bytes read job steps before) → IfSome counts (IsCountedIn tells bytes job steps before)
counted_in tells bytes compiled read job steps before None e c h = h
counted_in tells bytes compiled read job steps before (Some counts) e c h =
    record { compiled = compiled; is_compiled = c; run = subst (λ (m : List ℕ). IsCountedOfBytes tells bytes m job steps before counts) e h }

pub seen_in : (tells : Type 0) (bytes compiled read : List ℕ) (job : JobForm) (steps : ℕ) (before : State) (found : Option Whereabouts) → read ≡ compiled → IsCompiled bytes compiled → IfSome found (IsSeenOfBytes tells bytes read job steps before) → IfSome found (IsSeenIn tells bytes job steps before)
seen_in tells bytes compiled read job steps before None e c h = h
seen_in tells bytes compiled read job steps before (Some found) e c h =
    record { compiled = compiled; is_compiled = c; run = subst (λ (m : List ℕ). IsSeenOfBytes tells bytes m job steps before found) e h }
