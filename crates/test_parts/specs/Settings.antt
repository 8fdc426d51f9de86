-- The jobs, inputs and worlds of the rows.
use Rattle.std.specs.Prelude.{ℕ, true, false, List, [], codes, Some, None}
use Rattle.world_core.specs.WorldState.{Standard, Named, Outside, Source, absent, replaced}
use Rattle.world_core.specs.declared.world.Ending.{Ending}
use Rattle.world_core.specs.declared.world.Ending.TheVariants.{End}
use Rattle.sem_primitives.specs.Jobs.{JobForm}

abbrev pub no_job : JobForm
no_job = record { operands = []; assigns = []; environment = [] }

abbrev pub no_input : Source
no_input = record { rest = []; ending = End }

abbrev pub empty : Outside
empty = λ target. absent

-- where standard output has room for so many bytes
abbrev pub narrow : ℕ → Outside
narrow room = replaced Standard (record { bytes = Some []; ending = End; room = Some room; opens = true }) empty

abbrev pub with_file : List ℕ → List ℕ → Ending → Outside → Outside
with_file name bytes ending outside = replaced (Named name) (record { bytes = Some bytes; ending = ending; room = None; opens = true }) outside

-- where a name holds bytes and has room for so many
abbrev pub with_room : List ℕ → List ℕ → ℕ → Outside → Outside
with_room name bytes room outside = replaced (Named name) (record { bytes = Some bytes; ending = End; room = Some room; opens = true }) outside

-- two files, of three lines and of one
abbrev pub two_files : Outside
two_files = with_file (codes "f") (codes "p\nq\nr\n") End (with_file (codes "g") (codes "s\n") End empty)

abbrev pub without_opening : List ℕ → Outside → Outside
without_opening name outside = replaced (Named name) (record { bytes = Some []; ending = End; room = None; opens = false }) outside
