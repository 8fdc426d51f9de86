-- A host in an environment that others change too: each time that something is opened, read or written it finds the next of a list.
use Rattle.std.specs.Prelude.{◌≡◌, List, [], ◌++◌, Option, Some, None}
use Rattle.awk_values.specs.declared.fault.Fault.{Fault}
use Rattle.sem_primitives.specs.InputParts.{to_come}
use Rattle.sem_primitives.specs.Jobs.{JobForm, Opened}
use Rattle.world_core.specs.WorldState.{Action, Entry, Outside, Source, absent}
use Rattle.host_step.specs.Starts.{state_at_start, state_in}
use Rattle.host_values.specs.Forms.{HostForm}
use Rattle.host_values.specs.Shown.{Shown, form_with_output}

-- The tables of a host that is going to find these. What the output made of names, of which nothing is known, and the output so far stand beside it.
abbrev pub form_finding : List Entry → Outside → List Action → HostForm → HostForm
form_finding finds outside so_far f = record f {
  shared = record { inner = record f.shared.inner { readers = f.coming.readers; main = f.coming.main; finds = Some finds }; outside = outside; output = so_far };
}

-- These are found now, and those later. Once a fault is kept nothing is looked at.
abbrev pub IsFound : Option Fault → List Entry → List Entry → List Entry → Type 0
IsFound None found later finds = finds ≡ found ++ later
IsFound (Some fault) found later finds = Unit {0}

-- what a host shows of what is not its own: what came before; or that others change what names hold
pub data View : Type 0 where
  After : List Action → View
  Finding : List Entry → Outside → List Action → View

abbrev pub viewed : View → HostForm → HostForm
viewed (After so_far) f = form_with_output so_far f
viewed (Finding finds outside so_far) f = form_finding finds outside so_far f

-- names of which nothing is said
abbrev pub nowhere : Outside
nowhere = λ target. absent

-- The host shows the state at the start of a job, with this input and outside; and where others change what names hold too, with an input that is to come.
pub record ShownFirst (f : HostForm) (job : JobForm) (input : Source) (outside : Outside) : Type 0 where
  pub kept : Shown f (state_at_start job input outside)
  pub found : (finds : List Entry) → Shown (form_finding finds nowhere [] f) (state_in job to_come (Opened finds))
