-- Tallies: what the steps of a run are counted in. It serves contracts inside the crate.
use Rattle.std.specs.Prelude.{◌≡◌, ◌≤◌, ℕ, List, length, map, max}
use Rattle.wasm_model.specs.Machines.{Conf, ProgramForm}
use Rattle.wasm_model.specs.declared.ends.MachineEnd.{MachineEnd}
use Rattle.wasm_model.specs.declared.ends.MachineEnd.TheVariants.{OutOfSteps}
use Rattle.host_values.specs.Forms.{HostForm}
use Rattle.awk_values.specs.Values.{text_of_value}
use Rattle.sem_primitives.specs.declared.constants.Special.TheVariants.{Nr}
use Rattle.run_report.specs.declared.counts.RunCounts.{RunCounts}
use Rattle.run_modules.specs.Counted.{Stepped, greatest, values_in}
use Rattle.script_places.specs.Passes.{AreFirsts, Moment, places_counted}
use Rattle.script_places.specs.Sites.{OfSource}
use Rattle.script_places.specs.Tallies.{AreTallied}

-- What is tallied of a run, of which so many steps were taken.
pub record IsTallied (tells : Type 0) (program : ProgramForm) (steps taken : ℕ) (start : Conf) (first : HostForm) (end : MachineEnd) (conf : Conf) (left : HostForm) (rows : List (List ℕ)) (values : ℕ) : Type 0 where
  pub moments : List Moment
  pub stepped : Stepped tells program start first moments end conf left
  pub count : length moments ≡ taken
  pub within : taken ≤ steps
  pub over : end ≡ OutOfSteps → taken ≡ steps
  pub tallied : AreTallied moments rows
  pub most : values ≡ greatest (map (λ x. x.values) moments)

-- what is told of a run of these moments, which left the host so; this was the greatest number of values before its steps
pub record IsTold (bytes : List ℕ) (left : HostForm) (nops : List (List ℕ)) (values steps : ℕ) (moments : List Moment) (counts : RunCounts) : Type 0 where
  pub steps_taken : counts.steps ≡ steps
  pub most : counts.values ≡ max (values_in left) values
  pub records : counts.records ≡ text_of_value (left.shared.inner.specials Nr)
  pub lines : OfSource bytes (λ tokens tree. AreFirsts tokens (places_counted tree nops moments) counts.lines.items)
