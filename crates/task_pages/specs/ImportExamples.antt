-- What imports tell, computed: of a module that sums a column, of one that names a file, of one that sets an element.
use Rattle.std.specs.Prelude.{◌≡◌, List, [], ◌∷◌, refl}
use Rattle.sem_primitives.specs.declared.table.Primitive.TheVariants as row
use Rattle.host_imports.specs.declared.import.Import.{Import}
use Rattle.host_imports.specs.declared.import.Import.TheVariants.{Arg, OfPrimitive, Variadic}
use Rattle.host_imports.specs.declared.import.VariadicImport.TheVariants.{Print, Sprintf}
use Rattle.task_pages.specs.Powers.{reads_of, writes_of}
use Rattle.task_pages.specs.declared.powers.Reads.TheVariants as reading
use Rattle.task_pages.specs.declared.powers.Writes.TheVariants as writing

abbrev sums : List Import
sums = OfPrimitive row.Num ∷ OfPrimitive row.ToNum ∷ OfPrimitive row.Pow ∷ OfPrimitive row.Field ∷ OfPrimitive row.NextMain ∷ Arg ∷ Variadic Print ∷ []

pub sums_operands : reads_of sums ≡ reading.Operands
sums_operands = refl

pub sum_is_written : writes_of sums ≡ writing.AnyName
sum_is_written = refl

pub named_file : reads_of (OfPrimitive row.Lit ∷ OfPrimitive row.GetlineVarFile ∷ []) ≡ reading.AnyName
named_file = refl

pub operands_may_be_set : reads_of (OfPrimitive row.SetElem ∷ sums) ≡ reading.AnyName
operands_may_be_set = refl

pub split_may_set_them : reads_of (OfPrimitive row.Split ∷ sums) ≡ reading.AnyName
split_may_set_them = refl

pub elements_alone : reads_of (OfPrimitive row.Elem ∷ OfPrimitive row.SetElem ∷ []) ≡ reading.Nothing
elements_alone = refl

pub sprintf_writes_nothing : writes_of (Arg ∷ Variadic Sprintf ∷ OfPrimitive row.Close ∷ []) ≡ writing.Nothing
sprintf_writes_nothing = refl

-- a flush puts nothing out, and what is given up is not read
pub flush_writes_nothing : writes_of (OfPrimitive row.NextFile ∷ OfPrimitive row.Clear ∷ OfPrimitive row.Flush ∷ []) ≡ writing.Nothing
flush_writes_nothing = refl

pub next_file_reads_nothing : reads_of (OfPrimitive row.NextFile ∷ OfPrimitive row.Clear ∷ OfPrimitive row.Flush ∷ []) ≡ reading.Nothing
next_file_reads_nothing = refl
