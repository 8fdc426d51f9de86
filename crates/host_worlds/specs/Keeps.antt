-- What reading leaves alone, in every world.
use Rattle.std.specs.Prelude.{◌≡◌, ℕ, Bool, Option}
use Rattle.awk_values.specs.declared.value.Value.{Value}
use Rattle.host_streams.specs.declared.main_input.MainInput.{MainInput}
use Rattle.host_streams.specs.declared.streams.Streams.{Streams}
use Rattle.host_texts.specs.NameForms.{with_pending as names_pending}
use Rattle.host_worlds.specs.declared.input.Input.{Input}
use Rattle.host_worlds.specs.declared.input.ReadInto.{ReadInto}
use Rattle.host_worlds.specs.declared.input.ReadInto.TheVariants.{Record}
use Rattle.host_worlds.specs.declared.input.MainRead.{MainRead}
use Rattle.host_worlds.specs.declared.input.MainRead.TheVariants.{Loop, Getline}

-- nothing changes but these

abbrev pub with_pending : Option (ℕ × Value) → Input → Input
with_pending pending i = record i { names = names_pending pending i.names }

abbrev pub with_main_input : MainInput → Input → Input
with_main_input main i = record i { main = main }

abbrev pub with_files : Streams → Input → Input
with_files files i = record i { files = files }

abbrev pub with_line : Option Value → Input → Input
with_line line i = record i { line = line }

abbrev pub with_end : Bool → Input → Input
with_end in_end i = record i { in_end = in_end }

-- main input and what is pending, at most
abbrev pub IsMoved : Input → Input → Type 0
IsMoved old new = new ≡ with_pending new.names.pending (with_main_input new.main old)

-- and a line
abbrev pub IsMovedOn : Input → Input → Type 0
IsMovedOn old new = new ≡ with_line new.line (with_pending new.names.pending (with_main_input new.main old))

-- files and a line, at most
abbrev pub IsReadOn : Input → Input → Type 0
IsReadOn old new = new ≡ with_line new.line (with_files new.files old)

-- where an import keeps what it read
abbrev pub keep_of : MainRead → ReadInto
keep_of Loop = Record
keep_of (Getline to) = to
