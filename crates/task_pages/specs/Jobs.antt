-- What a script or a module is run with, as the words of the command line say it.
use Rattle.std.specs.Prelude.{ℕ, Bool, ◌==◌, List, [], ◌++◌, if◌then◌else◌, codes, map, Some, None}
use Rattle.std.specs.List.{list_any, before_first, after_first}
use Rattle.sem_primitives.specs.Jobs.{JobForm}
use Rattle.world_core.specs.WorldState.{State}
use Rattle.world_os.specs.Behind.{behind}
use Rattle.world_os.specs.Fences.{FenceForm, lets_read}
use Rattle.world_os.specs.OsStreams.{no_state}
use Rattle.command_line.specs.Request.{texts}
use Rattle.command_line.specs.declared.Task.{Task}

abbrev pub is_equals : ℕ → Bool
is_equals c = c == 61

-- A word of `-v`: a name before the first `=`, and a text after it. A word without `=` is the text of an empty name.
abbrev pub assignment : List ℕ → List ℕ × List ℕ
assignment word = if list_any is_equals word then (before_first is_equals word, after_first is_equals word) else ([], word)

-- a separator of `-F`: an assignment to FS
abbrev pub separator : List ℕ → List ℕ × List ℕ
separator text = (codes "FS", text)

-- the words as operands, every `-v` in order and then every `-F`, and an environment
abbrev pub job_of_task : Task → List (List ℕ × List ℕ) → JobForm
job_of_task task environment = record {
  operands = texts task.words.items;
  assigns = map assignment (texts task.assigns.items) ++ map separator (texts task.separators.items);
  environment = environment;
}

-- The fence that the options set up. Where operands alone may be read, these are all words after the script or module.
abbrev pub fence_of_task : Task → FenceForm
fence_of_task task = record {
  no_files = task.fences.no_files;
  read_only = task.fences.read_only;
  operands = if task.fences.only_operands then Some (texts task.words.items) else None;
  may_read = texts task.may_read.items;
  may_write = texts task.may_write.items;
  streams = task.streams;
}

-- What is told of real files behind the fence of a task: the fence alone. Nothing is told of what they hold.
abbrev pub files_of_task : Task → State
files_of_task task = behind (lets_read (fence_of_task task)) no_state
