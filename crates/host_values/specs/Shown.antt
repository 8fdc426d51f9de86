-- Which states of the definition a host shows, by its tables.
use Rattle.std.specs.Prelude.{◌≡◌, List, Option, Some, None}
use Rattle.awk_values.specs.declared.fault.Fault.{Fault}
use Rattle.world_core.specs.WorldState.{Action}
use Rattle.host_step.specs.HostState.{HostState}
use Rattle.host_values.specs.Forms.{HostForm, Stands}

-- the host keeps no output: tables, where this much came before
abbrev pub form_with_output : List Action → HostForm → HostForm
form_with_output so_far f = record f { shared = record f.shared { output = so_far } }

-- what two forms share of which one is taken for the other once a fault is kept
pub record SharesTables (form f : HostForm) : Type 0 where
  pub values : form.values ≡ f.values
  pub arrays : form.arrays ≡ f.arrays
  pub iterators : form.iterators ≡ f.iterators
  pub fault : form.fault ≡ f.fault
  pub outside : form.shared.outside ≡ f.shared.outside
  pub output : form.shared.output ≡ f.shared.output

-- Once a fault is kept, values, arrays and iterators are let go and nothing else is done. So what else is shared counts only while none is kept: a
-- call that faults may have changed a table that the definition leaves as it was.
abbrev pub SharesBy : Option Fault → HostForm → HostForm → Type 0
SharesBy None form f = form ≡ f
SharesBy (Some fault) form f = SharesTables form f

-- the host shows this state
pub record Shown (f : HostForm) (s : HostState) : Type 0 where
  pub form : HostForm
  pub same : SharesBy f.fault form f
  pub stands : Stands form s
