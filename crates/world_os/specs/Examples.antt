-- What fences let through, what is seen behind them, and what calls give to streams, computed.
use Rattle.std.specs.Prelude.{◌≡◌, ℕ, List, [], ◌∷◌, codes, true, false, None, Some, refl}
use Rattle.world_core.specs.WorldState.{Named, Standard}
use Rattle.world_core.specs.Examples.{with_small}
use Rattle.world_core.specs.Traces.{Opened, Wrote}
use Rattle.world_os.specs.Behind.{outside_behind}
use Rattle.world_os.specs.Fences.{FenceForm, lets_read, lets_write, no_name}
use Rattle.world_os.specs.OsStreams.{ToErrors, ToFile, ToOutput, bytes_to, sink_meant, written_as}
use Rattle.world_os.specs.declared.world.OsStream.{OsStream}
use Rattle.world_os.specs.declared.world.OsStream.TheVariants.{Errors, Output, Writer}

-- `f` holds `ab`, and opens
pub it_opens : (with_small (Named (codes "f"))).opens ≡ true
it_opens = refl

pub kept_out : (outside_behind no_name with_small (Named (codes "f"))).opens ≡ false
kept_out = refl

-- what it holds stays
pub bytes_stay : (outside_behind no_name with_small (Named (codes "f"))).bytes ≡ Some (codes "ab")
bytes_stay = refl

-- the standard output is seen as it is
pub standard_output : (outside_behind no_name with_small Standard).opens ≡ true
standard_output = refl

pub let_through : (outside_behind (λ name. true) with_small (Named (codes "f"))).opens ≡ true
let_through = refl

-- the fences of `--no-files`, `--read-only` and `--only-operands f`
abbrev pub unset : FenceForm
unset = record { no_files = false; read_only = false; operands = None; may_read = []; may_write = []; streams = false }

abbrev pub no_files : FenceForm
no_files = record unset { no_files = true }

abbrev pub read_only : FenceForm
read_only = record unset { read_only = true }

abbrev pub only_f : FenceForm
only_f = record unset { operands = Some (codes "f" ∷ []) }

pub unset_read : lets_read unset (codes "g") ≡ true
unset_read = refl

pub unset_write : lets_write unset (codes "g") ≡ true
unset_write = refl

pub no_files_read : lets_read no_files (codes "f") ≡ false
no_files_read = refl

pub no_files_write : lets_write no_files (codes "f") ≡ false
no_files_write = refl

pub read_only_read : lets_read read_only (codes "g") ≡ true
read_only_read = refl

pub read_only_write : lets_write read_only (codes "g") ≡ false
read_only_write = refl

pub operand_read : lets_read only_f (codes "f") ≡ true
operand_read = refl

-- a name is let through as it is written
pub other_read : lets_read only_f (codes "./f") ≡ false
other_read = refl

pub operand_write : lets_write only_f (codes "f") ≡ false
operand_write = refl

-- of two fences each takes names away
pub both_read : lets_read (record only_f { no_files = true }) (codes "f") ≡ false
both_read = refl

-- a name that is listed is let through by every fence
pub listed_read : lets_read (record no_files { may_read = codes "f" ∷ [] }) (codes "f") ≡ true
listed_read = refl

pub listed_write : lets_write (record read_only { may_write = codes "f" ∷ [] }) (codes "f") ≡ true
listed_write = refl

-- of no fence beside it a list keeps all others out, one way
pub unlisted_read : lets_read (record unset { may_read = codes "f" ∷ [] }) (codes "g") ≡ false
unlisted_read = refl

pub unlisted_write : lets_write (record unset { may_write = codes "f" ∷ [] }) (codes "g") ≡ false
unlisted_write = refl

pub written_not_read : lets_read (record no_files { may_write = codes "f" ∷ [] }) (codes "f") ≡ false
written_not_read = refl

pub read_where_written : lets_read (record unset { may_write = codes "f" ∷ [] }) (codes "g") ≡ true
read_where_written = refl

-- operands stay, beside a list
pub operand_beside_list : lets_read (record only_f { may_read = codes "g" ∷ [] }) (codes "f") ≡ true
operand_beside_list = refl

-- the program's own streams are no files: they are let through one way, by every fence
abbrev pub with_streams : FenceForm
with_streams = record no_files { streams = true }

pub stream_read : lets_read with_streams (codes "/dev/stdin") ≡ true
stream_read = refl

pub stream_written : lets_write with_streams (codes "/dev/stdout") ≡ true
stream_written = refl

pub errors_written : lets_write with_streams (codes "/dev/stderr") ≡ true
errors_written = refl

pub input_not_written : lets_write with_streams (codes "/dev/stdin") ≡ false
input_not_written = refl

pub stream_is_a_file : lets_write no_files (codes "/dev/stdout") ≡ false
stream_is_a_file = refl

-- The bytes that a call gives, where stream 2 is the program's own output, 3 a file, and 4 the standard error.
abbrev pub three : List (OsStream ℕ)
three = Output ∷ Writer 7 ∷ Errors ∷ []

pub own_output : bytes_to ToOutput three (Wrote 2 (codes "a")) ≡ codes "a"
own_output = refl

pub standard_too : bytes_to ToOutput three (Wrote 1 (codes "b")) ≡ codes "b"
standard_too = refl

pub its_file : bytes_to (ToFile 3) three (Wrote 3 (codes "c")) ≡ codes "c"
its_file = refl

pub no_other_file : bytes_to (ToFile 3) three (Wrote 2 (codes "a")) ≡ []
no_other_file = refl

pub not_the_output : bytes_to ToOutput three (Wrote 3 (codes "c")) ≡ []
not_the_output = refl

pub its_errors : bytes_to ToErrors three (Wrote 4 (codes "d")) ≡ codes "d"
its_errors = refl

pub nothing_opened : bytes_to (ToFile 3) three (Opened (codes "f") false 3) ≡ []
nothing_opened = refl

-- where names mean streams, `/dev/stdout` is the output
pub output_named : sink_meant 5 (written_as true (codes "/dev/stdout")) ≡ ToOutput
output_named = refl

pub output_is_a_file : sink_meant 5 (written_as false (codes "/dev/stdout")) ≡ ToFile 5
output_is_a_file = refl
