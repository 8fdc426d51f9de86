-- All tables but those of files and the main input, as a form of the host; what a run is started with.
use Rattle.std.specs.Prelude.{◌||◌, Bool, [], ◌∷◌, codes, map as map_list, pos}
use Rattle.std.specs.FinMap as map
use Rattle.sem_primitives.specs.Jobs.{JobForm, is_long, arguments_from, environment_in}
use Rattle.sem_primitives.specs.SharedState.{Shared}
use Rattle.host_values.specs.Forms.{Arrays, Coming, HostForm}
use Rattle.host_texts.specs.NameForms.{pair_of, with_all}
use Rattle.host_texts.specs.declared.names.NamedText.{NamedText}
use Rattle.host_tables.specs.declared.job.Job.{Job}
use Rattle.host_tables.specs.declared.start.FirstTables.{FirstTables}

abbrev pub job_of : Job → JobForm
job_of job = record { operands = job.operands.items; assigns = map_list pair_of job.assigns.items; environment = map_list pair_of job.environment.items }

-- nothing at all
abbrev pub empty_job : JobForm
empty_job = record { operands = []; assigns = []; environment = [] }

-- one of both is past the limit
abbrev pub is_long_pair : NamedText → Bool
is_long_pair p = is_long p.name || is_long p.text

-- these tables, where all else that is shared is that of a state
abbrev pub form_of : FirstTables → Shared → Coming → HostForm
form_of t shared coming = record {
  values = t.handles;
  arrays = t.arrays;
  iterators = t.iterators;
  shared = record shared { inner = with_all t.texts t.names shared.inner };
  coming = coming;
  arguments = t.arguments.items;
  fault = t.fault;
}

-- ARGV and ENVIRON of a job, by their numbers
abbrev pub argv_and_environ : JobForm → Arrays
argv_and_environ job = map.insert (map.insert map.empty (pos 0) (arguments_from 0 (codes "awk" ∷ job.operands))) (pos 1) (environment_in [] job.environment)
