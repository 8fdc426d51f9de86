-- Printing, computed.
use Rattle.std.specs.Prelude.{◌≡◌, ℕ, List, [], ◌∷◌, codes, replicate, false, Some, Ok, Err, pos, refl}
use Rattle.std.specs.Fmt.{digits}
use Rattle.awk_values.specs.declared.fault.Fault.TheVariants.{Format, OpenOutput, TooManyStreams, WriteFailed}
use Rattle.awk_values.specs.declared.value.Value.{Value}
use Rattle.awk_values.specs.declared.value.Value.TheVariants as value
use Rattle.world_core.specs.declared.world.Ending.TheVariants.{End}
use Rattle.world_core.specs.WorldState.{Standard, Named, absent, replaced, Open, puts}
use Rattle.sem_primitives.specs.SharedState.{Shared}
use Rattle.sem_primitives.specs.ClosedJobs.{shared_at_start}
use Rattle.sem_primitives.specs.Table.{listed_meaning}
use Rattle.sem_primitives.specs.ExampleStates.{job_of, nothing, empty, with_file, at_start, after_call, after_list, answered, setting}
use Rattle.sem_primitives.specs.declared.table.Primitive.TheVariants.{Close, Flush, GetlineFile, GetlineVarFile, Line}
use Rattle.sem_primitives.specs.declared.table.Listed.TheVariants.{Sprintf, Print, Printf}
use Rattle.sem_primitives.specs.declared.answers.StreamAnswer.TheVariants as stream
use Rattle.sem_primitives.specs.declared.answers.InputAnswer.TheVariants as input
use Rattle.sem_primitives.specs.declared.constants.Destination.TheVariants as destination
use Rattle.sem_primitives.specs.declared.constants.Special.TheVariants.{Ofs, Ors}

abbrev pub words : List Value
words = value.Text (codes "a") ∷ value.Text (codes "b") ∷ []

pub separators : (after_list (Print destination.Standard) words (setting Ors (codes ".") (setting Ofs (codes "-") at_start))).output
    ≡ puts Standard (codes "a-b.")
separators = refl

pub without_newline : (after_list (Printf destination.Standard) (value.Text (codes "%s") ∷ value.Text (codes "x") ∷ []) at_start).output
    ≡ puts Standard (codes "x")
without_newline = refl

pub formatted_value : (listed_meaning Sprintf (value.Text (codes "<%s>") ∷ words) at_start).answer ≡ Ok (value.Text (codes "<a>"))
formatted_value = refl

-- where the standard output has room for four bytes

abbrev pub four : Shared
four = shared_at_start (job_of []) nothing (replaced Standard (record absent { room = Some 4 }) empty)

abbrev pub once : Shared
once = after_list (Print destination.Standard) (value.Text (codes "ab") ∷ []) four

pub full : (listed_meaning (Print destination.Standard) (value.Text (codes "cd") ∷ []) once).answer ≡ Err WriteFailed
full = refl

pub what_went_out : ((after_list (Print destination.Standard) (value.Text (codes "cd") ∷ []) once).outside Standard).bytes ≡ Some (codes "ab\nc")
what_went_out = refl

-- nothing is written of an empty text, so a full device is not met
pub nothing_written : (listed_meaning (Printf destination.Standard) (value.Text [] ∷ [])
    (after_list (Print destination.Standard) (value.Text (codes "abc") ∷ []) four)).answer ≡ Ok tt
nothing_written = refl

-- print "a" > "f"; print "b" > "f"; close("f"), close("f"); getline x < "f"; print "c" >> "f"

abbrev pub named : List ℕ → List Value
named text = value.Text text ∷ value.Text (codes "f") ∷ []

abbrev pub two_lines : Shared
two_lines = after_list (Print destination.Emptied) (named (codes "b")) (after_list (Print destination.Emptied) (named (codes "a")) at_start)

pub opened_once : two_lines.output ≡ Open (codes "f") false ∷ puts (Named (codes "f")) (codes "a\nb\n")
opened_once = refl

pub closed : answered Close (value.Text (codes "f"), tt) two_lines ≡ stream.Done
closed = refl

abbrev pub after_close : Shared
after_close = after_call Close (value.Text (codes "f"), tt) two_lines

pub nothing_open : answered Close (value.Text (codes "f"), tt) after_close ≡ stream.NotOpen
nothing_open = refl

pub read_again : answered GetlineVarFile (value.Text (codes "f"), tt) after_close ≡ Ok input.Read
read_again = refl

pub line_read : answered Line tt (after_call GetlineVarFile (value.Text (codes "f"), tt) after_close) ≡ value.StrNum (codes "a")
line_read = refl

pub appended : ((after_list (Print destination.Appended) (named (codes "c")) after_close).outside (Named (codes "f"))).bytes ≡ Some (codes "a\nb\nc\n")
appended = refl

-- fflush("f"), fflush("g"), fflush("") and fflush(7): a reader is none that is flushed, nor a writer that was closed
pub flushed : answered Flush (value.Text (codes "f"), tt) two_lines ≡ stream.Done
flushed = refl

pub nothing_flushed : answered Flush (value.Text (codes "g"), tt) two_lines ≡ stream.NotOpen
nothing_flushed = refl

pub all_flushed : answered Flush (value.Text [], tt) at_start ≡ stream.Done
all_flushed = refl

pub flushed_by_number : answered Flush (value.Num (pos 7), tt)
    (after_list (Print destination.Emptied) (value.Text (codes "b") ∷ value.Text (codes "7") ∷ []) at_start) ≡ stream.Done
unfolding digits
flushed_by_number = refl

pub closed_not_flushed : answered Flush (value.Text (codes "f"), tt) after_close ≡ stream.NotOpen
closed_not_flushed = refl

pub reader_not_flushed : answered Flush (value.Text (codes "f"), tt) (after_call GetlineFile (value.Text (codes "f"), tt) after_close) ≡ stream.NotOpen
reader_not_flushed = refl

pub flush_adds_nothing : (after_call Flush (value.Text (codes "f"), tt) two_lines).output ≡ two_lines.output
flush_adds_nothing = refl

-- a stream that is open is not emptied again, whatever follows
pub not_emptied : ((after_list (Print destination.Emptied) (named (codes "c")) two_lines).outside (Named (codes "f"))).bytes ≡ Some (codes "a\nb\nc\n")
not_emptied = refl

-- an empty text opens its file
pub opened_for_nothing : ((after_list (Printf destination.Emptied) (named [])
    (shared_at_start (job_of []) nothing (with_file (codes "f") (codes "old") End empty))).outside (Named (codes "f"))).bytes ≡ Some []
opened_for_nothing = refl

abbrev pub shut : Shared
shut = shared_at_start (job_of []) nothing (replaced (Named (codes "f")) (record absent { opens = false }) empty)

pub does_not_open : (listed_meaning (Print destination.Emptied) (named (codes "x")) shut).answer ≡ Err OpenOutput
does_not_open = refl

-- a format's fault comes before the file is opened
pub format_first : (listed_meaning (Printf destination.Emptied) (named (codes "%q")) shut).answer ≡ Err Format
format_first = refl

pub not_opened : (listed_meaning (Printf destination.Emptied) (named (codes "%q")) at_start).added ≡ []
not_opened = refl

-- with 256 streams open

abbrev pub many : ℕ → Shared
many n = record at_start { inner = record at_start.inner { writers = replicate n (codes "g") } }

pub too_many : (listed_meaning (Print destination.Emptied) (named (codes "x")) (many 256)).answer ≡ Err TooManyStreams
too_many = refl

pub none_opened : (listed_meaning (Print destination.Emptied) (named (codes "x")) (many 256)).added ≡ []
none_opened = refl

pub last_one : (listed_meaning (Print destination.Emptied) (named (codes "x")) (many 255)).answer ≡ Ok tt
last_one = refl

pub open_one_goes_on : (listed_meaning (Print destination.Emptied) (value.Text (codes "x") ∷ value.Text (codes "g") ∷ []) (many 256)).answer ≡ Ok tt
open_one_goes_on = refl

-- for reading too, even of a name that is not there
pub too_many_to_read : answered GetlineVarFile (value.Text (codes "f"), tt) (many 256) ≡ Err TooManyStreams
too_many_to_read = refl
