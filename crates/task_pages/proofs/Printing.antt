-- What keeps a text from being printed keeps a name from being explained.
use Rattle.std.specs.Prelude.{List, Option, ℕ}
use Rattle.std.specs.Borrow.{Bor}
use Rattle.task_pages.specs.Outcomes.{IsNotExplained, IsUnwritten}
use Rattle.task_pages.specs.declared.task_error.TaskError.{TaskError}
use Rattle.task_pages.specs.declared.task_error.TaskError.TheVariants.{File, NoMemory}

pub unprinted : (name : Option (Bor (List ℕ))) (undone : TaskError) → IsUnwritten undone → IsNotExplained name undone
unprinted name (File fault) is = is
unprinted name NoMemory is = tt
unprinted name _ is = absurd is
