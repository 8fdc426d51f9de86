-- Which calls may keep a fault, and which may trap.
use Rattle.std.specs.Prelude.{Bool, true, false}
use Rattle.sem_primitives.specs.Table as table
use Rattle.sem_primitives.specs.declared.table.Primitive.TheVariants as row
use Rattle.host_imports.specs.declared.import.Import.{Import}
use Rattle.host_imports.specs.declared.import.Import.TheVariants.{OfPrimitive, Variadic}

-- whether a call may keep a fault
abbrev pub can_fault : Import → Bool
can_fault (OfPrimitive p) = table.can_fault p
can_fault (Variadic l) = true
can_fault _ = false

-- whether a call with words of its types may trap: what takes no argument and is always in turn never does
abbrev pub can_trap : Import → Bool
can_trap (OfPrimitive row.Uninit) = false
can_trap (OfPrimitive row.NewArray) = false
can_trap (OfPrimitive row.BeginEnd) = false
can_trap (OfPrimitive row.NextFile) = false
can_trap _ = true
