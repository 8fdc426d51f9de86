-- What a world of real files was given within its limits, its outlets got.
use Rattle.std.proofs.Common.{◌≡◌, ℕ, Bool, List, [], ◌∷◌, Option, ap, inl, inr, refl}
use Rattle.world_core.specs.Traces.{Call, Opened, Other, Trace, Wrote}
use Rattle.world_core.specs.TraceParts.{IsHandedOn}
use Rattle.world_core.specs.WorldState.{Action, State}
use Rattle.world_os.specs.OsStreams.{Gives}
use Rattle.world_os.specs.declared.world.OsStream.{OsStream}
use Rattle.command_line.specs.declared.Task.{Task}
use Rattle.run_report.specs.declared.end.RunEnd.{RunEnd}
use Rattle.run_modules.specs.ModuleRun.{Answers, IsGiven}
use Rattle.awk_run.specs.ScriptRuns.{ScriptAnswers}
use Rattle.run_modules.proofs.Gave.{none_given}
use Rattle.run_modules.proofs.Runs.{answers_so}
use Rattle.awk_run.proofs.ScriptRuns.{script_answers_so}
use Rattle.task_pages.specs.Jobs.{files_of_task, job_of_task}
use Rattle.run_tasks.specs.Outlets.{Gets, IsGivenOut, Outlets}
use Rattle.run_tasks.specs.Runs.{GivesModule, GivesText, Told}

-- nothing was given
pub none_out : {F : Type 0} (contents : F → Option (List ℕ)) (named : Bool) (output errors : Option (List ℕ)) → IsGivenOut contents named output errors []
none_out {F = F} contents named output errors =
    let start : Outlets F = record { streams = []; named = named; output = output; errors = errors } in
    record {
      first = start;
      last = start;
      none_open = refl;
      names = refl;
      on_output = refl;
      on_errors = refl;
      gave = none_given (IsHandedOn (Gets contents)) start start refl;
    }

-- of a world, the streams and what its own two hold; and a world around it
module _ {F V X : Type 0} (contents : F → Option (List ℕ)) (old new : V) (inside : V → X) (streams : X → List (OsStream F)) (named : X → Bool)
    (output errors : X → Option (List ℕ)) where
  abbrev shown : X → Outlets F
  shown w = record { streams = streams w; named = named w; output = output w; errors = errors w }

  abbrev outlets : V → Outlets F
  outlets w = shown (inside w)

  abbrev Did : X → Call → X → Type 0
  Did a call b = Gives contents (named a) call (streams a) (streams b) (output a) (output b) (errors a) (errors b)

  abbrev Within : V → Call → V → Type 0
  Within a call b = IsHandedOn Did (inside a) call (inside b)

  got : (a : V) (call : Call) (b : V) → IsHandedOn Within a call b → IsHandedOn (Gets contents) (outlets a) call (outlets b)
  got a (Opened name append id) b r = r
  got a (Wrote id bytes) b r = r
  got a Other b (inl (inl r)) = inl r
  got a Other b (inl (inr same)) = inr (ap shown same)
  got a Other b (inr same) = inr (ap outlets same)

  traced : (first : V) (calls : List Call) (last : V) → Trace (IsHandedOn Within) first calls last → Trace (IsHandedOn (Gets contents)) (outlets first) calls (outlets last)
  traced first [] last r = ap outlets r
  traced first (call ∷ calls) last r = (outlets r.0, got first call r.0 r.1, traced r.0 calls last r.2)

  -- nothing was open at first, and the world's own streams are these
  module _ (n : Bool) (o e : Option (List ℕ)) (none_open : streams (inside old) ≡ []) (names : named (inside old) ≡ n) (on_output : output (inside old) ≡ o)
      (on_errors : errors (inside old) ≡ e) where
    given_out : (given : List Action) → IsGiven (IsHandedOn Within) old new given → IsGivenOut contents n o e given
    given_out given x = record {
      first = outlets old;
      last = outlets new;
      none_open = none_open;
      names = names;
      on_output = on_output;
      on_errors = on_errors;
      gave = record { calls = x.calls; made = traced old x.calls new x.made; are = x.are };
    }

    pub text_out : (task : Task) (script : List ℕ) (environment : List (List ℕ × List ℕ)) (after : State) (end : RunEnd)
        → ScriptAnswers Told (IsGiven (IsHandedOn Within) old new) script (job_of_task task environment) task.steps (files_of_task task) end after
        → GivesText (IsGivenOut contents n o e) task script environment end
    text_out task script environment after end r = record {
      after = after;
      answers = script_answers_so Told (IsGiven (IsHandedOn Within) old new) (IsGivenOut contents n o e) given_out script (job_of_task task environment) task.steps
          (files_of_task task) after end r;
    }

    pub module_out : (task : Task) (bytes : List ℕ) (environment : List (List ℕ × List ℕ)) (after : State) (end : RunEnd)
        → Answers Told (IsGiven (IsHandedOn Within) old new) bytes (job_of_task task environment) task.steps (files_of_task task) end after
        → GivesModule (IsGivenOut contents n o e) task bytes environment end
    module_out task bytes environment after end r = record {
      after = after;
      answers = answers_so Told (IsGiven (IsHandedOn Within) old new) (IsGivenOut contents n o e) given_out bytes (job_of_task task environment) task.steps
          (files_of_task task) after end r;
    }
