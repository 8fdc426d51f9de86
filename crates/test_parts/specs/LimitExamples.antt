-- Limits and conversions by the bytes of scripts: how each runs.
use Rattle.std.specs.Prelude.{◌≡◌, codes, Option, Some, None, Result, Ok, Err, refl}
use Rattle.awk_values.specs.declared.fault.Fault.{Fault}
use Rattle.awk_values.specs.declared.fault.Fault.TheVariants.{EreTooLarge, TooManyStreams}
use Rattle.world_core.specs.WorldState.{Standard, puts}
use Rattle.ere_syntax.specs.Scan.{table}
use Rattle.ere_syntax.specs.Readers.{sign_of}
use Rattle.sem_primitives.specs.Eres.{expression_of}
use Rattle.sem_scripts.specs.ScriptRun.{Ending, Ended, FaultedBy, setting_of}
use Rattle.test_parts.specs.Settings.{no_job, no_input, empty}
use Rattle.test_parts.specs.Jobs.{input}
use Rattle.test_parts.specs.Sources.{Refused, Runs, run_in, computed}

-- Expressions that are made at run time.

pub counts_past_the_limit : Runs
    (codes "BEGIN { print (\"xxx\" ~ \"x{3}\"); print (\"x\" ~ \"(a{100}){101}\"); print \"no\" }")
    no_job no_input empty 20 (FaultedBy EreTooLarge (puts Standard (codes "1\n")))
unfolding computed
counts_past_the_limit = refl

-- the fault of an expression's text
abbrev pub refused : {A : Type 0} → Result A Fault → Option Fault
refused (Ok t) = None
refused (Err fault) = Some fault

pub positions_at_the_limit : refused (expression_of (codes "(a{100}){100}")) ≡ None
unfolding table sign_of
positions_at_the_limit = refl

pub positions_past_the_limit : refused (expression_of (codes "(a{100}){100}b")) ≡ Some EreTooLarge
unfolding table sign_of
positions_past_the_limit = refl

-- `{m,}` counts m times, but at least once, and `{m,n}` n times
pub open_counts : refused (expression_of (codes "((a{100,}){0,}){1,101}")) ≡ Some EreTooLarge
unfolding table sign_of
open_counts = refl

-- Numbers in formats.

pub whole_numbers : Runs
    (codes "BEGIN { printf \"%i|%5i|%-5i|%05i|%+i|%.3i|% i\\n\", 42, -7, 8, -9, \"3.9\", 5, 6 }")
    no_job no_input empty 20 (Ended 0 (puts Standard (codes "42|   -7|8    |-0009|+3|005| 6\n")))
unfolding computed
whole_numbers = refl

-- Parts of texts from places below 1.

pub places_below_one : Runs
    (codes "BEGIN { s = \"hello\"; print substr(s, 0) \"|\" substr(s, -3, 5) \"|\" substr(s, 0, 1) \"|\" substr(s, 0, 2) \"|\" substr(s, -1, -1) \"|\" }")
    no_job no_input empty 20 (Ended 0 (puts Standard (codes "hello|h||h||\n")))
unfolding computed
places_below_one = refl

-- A newline next to a match, where empty lines end records: the earlier counts, and at one place the longer.

pub newline_and_match : Runs
    (codes "BEGIN { RS = \"\"; FS = \",\\n|\\n;\" } { print NF, $1 $2 $3 $4 }")
    no_job (input (codes "a,\nb\n;c\nd\n\n")) empty 20 (Ended 0 (puts Standard (codes "4 abcd\n")))
unfolding computed
newline_and_match = refl

-- Streams: 256 of them are open, and one more is asked for.

abbrev pub fault_of : Result Ending Refused → Option Fault
fault_of (Ok (FaultedBy fault output)) = Some fault
fault_of (Ok ending) = None
fault_of (Err why) = None

pub streams_past_the_limit : fault_of (run_in (codes "BEGIN { for (; i < 257; i++) printf \"\" > i }") (setting_of no_job no_input empty) 600)
    ≡ Some TooManyStreams
unfolding computed
streams_past_the_limit = refl

pub streams_at_the_limit : fault_of (run_in (codes "BEGIN { for (; i < 256; i++) printf \"\" > i }") (setting_of no_job no_input empty) 600) ≡ None
unfolding computed
streams_at_the_limit = refl
