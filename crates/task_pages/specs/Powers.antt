-- What a module may read and write, by the calls that it imports.
use Rattle.std.specs.Prelude.{Bool, true, false, List, if◌then◌else◌}
use Rattle.std.specs.List.{list_any}
use Rattle.sem_primitives.specs.declared.table.Primitive.TheVariants as row
use Rattle.host_step.specs.Worlds.{reads_main}
use Rattle.host_imports.specs.declared.import.Import.{Import}
use Rattle.host_imports.specs.declared.import.Import.TheVariants.{OfPrimitive, Variadic}
use Rattle.host_imports.specs.declared.import.VariadicImport.TheVariants.{Print, Printf}
use Rattle.task_pages.specs.declared.powers.Reads.{Reads}
use Rattle.task_pages.specs.declared.powers.Reads.TheVariants as reading
use Rattle.task_pages.specs.declared.powers.Writes.{Writes}
use Rattle.task_pages.specs.declared.powers.Writes.TheVariants as writing

-- a file is read whose name the module gives
abbrev pub reads_named : Import → Bool
reads_named (OfPrimitive row.GetlineFile) = true
reads_named (OfPrimitive row.GetlineVarFile) = true
reads_named _ = false

-- An element of an array gets a value, which may be an operand in ARGV. `elem` makes elements too; without a value they are no operands.
abbrev pub sets_elements : Import → Bool
sets_elements (OfPrimitive row.SetElem) = true
sets_elements (OfPrimitive row.Split) = true
sets_elements _ = false

abbrev pub writes : Import → Bool
writes (Variadic Print) = true
writes (Variadic Printf) = true
writes _ = false

-- the main input is that of the operands alone, where none but the command line names them
abbrev pub reads_of : List Import → Reads
reads_of found =
    if list_any reads_named found then reading.AnyName else
    if list_any reads_main found then (if list_any sets_elements found then reading.AnyName else reading.Operands) else
    reading.Nothing

abbrev pub writes_of : List Import → Writes
writes_of found = if list_any writes found then writing.AnyName else writing.Nothing
