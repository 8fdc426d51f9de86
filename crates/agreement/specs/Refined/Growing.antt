-- What a call does to the numbers of arrays in the shared state: none is given up, and a new array has a number that none had.
use Rattle.std.specs.Prelude.{ℕ, ◌≡◌, ◌<◌, ◌≤◌, length, Some, Result, Ok}
use Rattle.awk_values.specs.declared.fault.Fault.{Fault}
use Rattle.sem_primitives.specs.SharedState.{HostResult}
use Rattle.sem_primitives.specs.Sorts.{InAnswer, Row}
use Rattle.sem_primitives.specs.declared.sorts.Answer.{Answer}
use Rattle.sem_primitives.specs.declared.sorts.Answer.TheVariants as answer
use Rattle.sem_primitives.specs.declared.sorts.Sort.TheVariants as sort
use Rattle.lower_model.specs.ImportCalls.{Acts, Host, acts}
use Rattle.host_imports.specs.Imports.{import_answer, import_arguments}
use Rattle.host_imports.specs.declared.import.Import.{Import}
use Rattle.agreement.specs.Refined.Words.{arrays_made}

abbrev pub NewIn : ℕ → ℕ → (a : Answer) → Result (InAnswer a) Fault → Type 0
NewIn made made1 (answer.Of sort.Array) (Ok x) = (made ≤ x) × (x < made1)
NewIn made made1 _ _ = Unit {0}

pub record GrowsBy (made : ℕ) (a : Answer) (d : HostResult (Result (InAnswer a) Fault)) : Type 0 where
  pub longer : made ≤ length d.inner.arrays
  pub fresh : NewIn made (length d.inner.arrays) a d.answer

abbrev pub ArraysGrow : Type 0
ArraysGrow = (i : Import) (r : Row (import_arguments i)) (h : Host) (d : Acts (InAnswer (import_answer i))) → acts i r h ≡ Some d
    → GrowsBy (arrays_made h) (import_answer i) d.does
