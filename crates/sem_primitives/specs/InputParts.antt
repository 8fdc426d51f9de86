-- What the main input is made of: sources, readers and operands (POSIX.1-2017 awk, "INPUT FILES").
use Rattle.std.specs.Prelude.{ℕ, ◌+◌, nat_le, Bool, true, false, if◌then◌else◌, List, [], ◌∷◌, codes, Option, Some, None, Result, ℤ, pos, negsuc, decimal}
use Rattle.awk_values.specs.Values.{text_of_value}
use Rattle.awk_values.specs.declared.fault.Fault.{Fault}
use Rattle.awk_values.specs.declared.value.Value.{Value}
use Rattle.awk_values.specs.declared.value.Value.TheVariants.{Num, StrNum}
use Rattle.world_core.specs.declared.world.Ending.TheVariants.{End}
use Rattle.world_core.specs.WorldState.{Outside, Entry, Named, Source, bytes_of}
use Rattle.sem_primitives.specs.SharedState.{Inner, MainReader, Standard, File, Operands, SomeFile, with_special}
use Rattle.sem_primitives.specs.Finds.{first_found, observed}
use Rattle.sem_primitives.specs.Texts.{same_text}
use Rattle.sem_primitives.specs.Records.{Got, record_separator, first_record}
use Rattle.sem_primitives.specs.FieldMeaning.{special_text}
use Rattle.sem_primitives.specs.ArrayMeaning.{array, element}
use Rattle.sem_primitives.specs.declared.constants.Special.TheVariants.{Filename, Fnr, Rs}

-- at its end, where nothing is left
abbrev pub nothing_left : Source
nothing_left = record { rest = []; ending = End }

abbrev pub source_found : Entry → Source
source_found entry = record { rest = bytes_of entry.bytes; ending = entry.ending }

-- Something is to come, where others change what names hold too. Which bytes these are does not matter, since a read finds them anew.
abbrev pub to_come : Source
to_come = record { rest = 0 ∷ []; ending = End }

-- What a read finds in the place of what was left. Where nothing was left nothing is found: at its end, or failing, a source stays so.
abbrev pub found_anew : List ℕ → Source → Entry → Source
found_anew [] source entry = source
found_anew (b ∷ bs) source entry = source_found entry

-- Of what is left; or of what is found in its place, and then what that leaves is left.
abbrev pub record_by : Option (List Entry) → Option ℕ → Source → Result (Got × Source) Fault
record_by None rs source = first_record rs source
record_by (Some finds) rs source = first_record rs (found_anew source.rest source (first_found finds))

-- RS as it is now says what the next record is
abbrev pub next_record : Inner → Source → Result (Got × Source) Fault
next_record inner source = record_by inner.finds (record_separator (special_text Rs inner)) source

-- a name opens for reading if it is there, and what it holds then is read
abbrev pub source_if : Bool → Option (List ℕ) → Entry → Option Source
source_if true (Some bytes) e = Some (record { rest = bytes; ending = e.ending })
source_if true None e = None
source_if false bytes e = None

abbrev pub source_of : Entry → Option Source
source_of e = source_if e.opens e.bytes e

pub data Main : Type 0 where
  Taken : List ℕ → Main
  Over Pending NotOpened Failed : Main

abbrev pub reader_source : MainReader → Inner → Source
reader_source Standard inner = inner.main.standard
reader_source (File source) inner = source

-- what is left in the reader at hand
abbrev pub with_left : MainReader → Source → Inner → Inner
with_left Standard left inner = record inner { main = record inner.main { standard = left; reading = Some Standard } }
with_left (File source) left inner = record inner { main = record inner.main { reading = Some (File left) } }

-- after it was read
abbrev pub leaves : MainReader → Source → Inner → Inner
leaves reader left inner = observed (with_left reader left inner)

abbrev pub stops_reading : Inner → Inner
stops_reading inner = record inner { main = record inner.main { reading = None } }

-- a file, or the standard input, is opened: FILENAME and FNR are set
abbrev pub begins_reading : List ℕ → MainReader → Inner → Inner
begins_reading name reader inner =
    with_special Fnr (Num (pos 0)) (with_special Filename (StrNum name) (record inner { main = record inner.main { reading = Some reader } }))

abbrev pub with_operands : Operands → Inner → Inner
with_operands operands inner = record inner { main = record inner.main { operands = operands } }

-- an operand named a file, and what it names was looked for
abbrev pub file_named : Inner → Inner
file_named inner = observed (with_operands SomeFile inner)

-- `-` is the standard input
abbrev pub file_or_none : Option Source → Option MainReader
file_or_none None = None
file_or_none (Some source) = Some (File source)

abbrev pub reader_of : Outside → List ℕ → Option MainReader
reader_of outside name = if same_text name (codes "-") then Some Standard else file_or_none (source_of (outside (Named name)))

abbrev pub text_or_none : Option Value → List ℕ
text_or_none None = []
text_or_none (Some v) = text_of_value v

-- a missing one too, and it is not made
abbrev pub operand_text : ℕ → Inner → List ℕ
operand_text n inner = text_or_none (element (decimal n) (array 0 inner))

abbrev pub passes_operand : Inner → Inner
passes_operand inner = record inner { main = record inner.main { next = inner.main.next + 1 } }

abbrev pub is_below : ℕ → ℤ → Bool
is_below n (pos argc) = nat_le (n + 1) argc
is_below n (negsuc k) = false
