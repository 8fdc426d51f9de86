-- Reading, computed.
use Rattle.std.specs.Prelude.{◌≡◌, ◌^◌, ℕ, List, [], ◌∷◌, codes, Some, None, Ok, Err, pos, refl}
use Rattle.std.specs.Fmt.{digits}
use Rattle.awk_text.specs.Escapes.{unescaped, escaped, octal}
use Rattle.awk_text.specs.Reading.{numeral_at, sign_at, fraction_at, exponent_at}
use Rattle.awk_text.specs.Number.{numerator, denominator}
use Rattle.awk_tokens.specs.Words.{keywords, builtins, left_out_words}
use Rattle.awk_values.specs.declared.fault.Fault.TheVariants.{BadAssignment, BadEre, Fraction, OpenInput, Range, ReadFailed}
use Rattle.awk_values.specs.declared.value.Value.{Value}
use Rattle.awk_values.specs.declared.value.Value.TheVariants as value
use Rattle.ere_syntax.specs.Scan.{table}
use Rattle.ere_syntax.specs.Readers.{sign_of}
use Rattle.world_core.specs.declared.world.Ending.TheVariants.{End, Fails}
use Rattle.world_core.specs.WorldState.{Outside}
use Rattle.sem_primitives.specs.SharedState.{Shared}
use Rattle.sem_primitives.specs.ClosedJobs.{shared_at_start}
use Rattle.sem_primitives.specs.Records.{first_record, Record, AtEnd, Broken}
use Rattle.sem_primitives.specs.Assignments.{assignment_of}
use Rattle.sem_primitives.specs.ArrayMeaning.{array, element}
use Rattle.sem_primitives.specs.ExampleStates.{job_of, source, nothing, empty, with_file, reading, after_call, answered, setting, special}
use Rattle.sem_primitives.specs.declared.table.Primitive.TheVariants.{NextMain, NextFile, Getline, GetlineVar, GetlineFile, Line, SetElem, SetSpecial, Declare, StartAssign, PendingName, PendingValue, BeginEnd, Close}
use Rattle.sem_primitives.specs.declared.constants.NameKind.TheVariants.{Scalar, ArrayOrFunction}
use Rattle.sem_primitives.specs.declared.constants.Special.TheVariants.{Argc, Filename, Fnr, Fs, Nr, Rs}
use Rattle.sem_primitives.specs.declared.answers.AssignAnswer.TheVariants as assign
use Rattle.sem_primitives.specs.declared.answers.StreamAnswer.TheVariants as stream
use Rattle.sem_primitives.specs.declared.answers.InputAnswer.TheVariants as input

-- Records.

-- bytes after the last separator are a record, unless reading fails behind them
pub last_record : first_record (Some 10) (source (codes "b") End) ≡ Ok (Record (codes "b"), source [] End)
last_record = refl

pub unfinished_record : first_record (Some 10) (source (codes "b") Fails) ≡ Ok (Broken, source [] Fails)
unfinished_record = refl

pub record_before_failure : first_record (Some 10) (source (codes "a\nb") Fails) ≡ Ok (Record (codes "a"), source (codes "b") Fails)
record_before_failure = refl

pub empty_record : first_record (Some 10) (source (codes "\nb") End) ≡ Ok (Record [], source (codes "b") End)
empty_record = refl

-- empty lines: those before a record are skipped, two newlines end it, and a newline at the end is dropped
pub paragraph : first_record None (source (codes "\n\na,b\nc\n\n\nd\n") End) ≡ Ok (Record (codes "a,b\nc"), source (codes "\nd\n") End)
paragraph = refl

pub last_paragraph : first_record None (source (codes "\nd\n") End) ≡ Ok (Record (codes "d"), source [] End)
last_paragraph = refl

pub only_newlines : first_record None (source (codes "\n\n") End) ≡ Ok (AtEnd, source [] End)
only_newlines = refl

pub unfinished_paragraph : first_record None (source (codes "a\n") Fails) ≡ Ok (Broken, source [] Fails)
unfinished_paragraph = refl

-- The main input.

abbrev pub record_of : Shared → Value
record_of state = state.inner.whole

abbrev pub second : Shared → Shared
second state = after_call NextMain tt (after_call NextMain tt state)

pub record_read : answered NextMain tt (reading (codes "a\nb") Fails) ≡ Ok input.Read
record_read = refl

pub read_failed : answered NextMain tt (after_call NextMain tt (reading (codes "a\nb") Fails)) ≡ Err ReadFailed
read_failed = refl

pub counted : special Nr (second (reading (codes "a\nb\n") End)) ≡ value.Num (pos 2)
counted = refl

pub at_the_end : answered NextMain tt (second (reading (codes "a\nb\n") End)) ≡ Ok input.End
at_the_end = refl

-- the standard input that follows has the empty name
pub name_of_input : special Filename (after_call NextMain tt (reading (codes "a") End)) ≡ value.StrNum []
name_of_input = refl

-- RS = ""; FS = ","
abbrev pub paragraphs : Shared
paragraphs = setting Fs (codes ",") (setting Rs [] (reading (codes "\n\na,b\nc\n\n\nd\n") End))

pub fields_of_paragraph : (after_call NextMain tt paragraphs).inner.fields ≡ value.StrNum (codes "a") ∷ value.StrNum (codes "b") ∷ value.StrNum (codes "c") ∷ []
fields_of_paragraph = refl

pub fields_of_second : (second paragraphs).inner.fields ≡ value.StrNum (codes "d") ∷ []
fields_of_second = refl

pub no_third_paragraph : answered NextMain tt (second paragraphs) ≡ Ok input.End
no_third_paragraph = refl

-- NR counts from its own number, and before the record is set
pub count_past_range : answered NextMain tt (after_call SetSpecial (Nr, (value.Num (pos (2 ^ 53)), tt)) (reading (codes "a") End)) ≡ Err Range
count_past_range = refl

pub count_of_text : special Nr (after_call NextMain tt (setting Nr (codes "x") (reading (codes "a") End))) ≡ value.Num (pos 1)
unfolding numeral_at sign_at fraction_at exponent_at numerator denominator
count_of_text = refl

pub count_before_fields : answered NextMain tt (setting Fs (codes "((") (setting Nr (codes "0.5") (reading (codes "a") End))) ≡ Err Fraction
unfolding numeral_at sign_at fraction_at exponent_at numerator denominator table sign_of
count_before_fields = refl

pub fields_fault : answered NextMain tt (setting Fs (codes "((") (reading (codes "a") End)) ≡ Err BadEre
unfolding table sign_of
fields_fault = refl

-- getline

abbrev pub three_lines : Shared
three_lines = reading (codes "a\nb\nc\n") End

-- getline; getline x
abbrev pub twice_more : Shared
twice_more = after_call GetlineVar tt (after_call Getline tt (after_call NextMain tt three_lines))

pub getline_sets_record : record_of twice_more ≡ value.StrNum (codes "b")
getline_sets_record = refl

pub getline_counts : special Nr twice_more ≡ value.Num (pos 3)
getline_counts = refl

pub line_kept : answered Line tt twice_more ≡ value.StrNum (codes "c")
line_kept = refl

pub line_given_once : (after_call Line tt twice_more).inner.line ≡ None
line_given_once = refl

pub getline_at_the_end : answered Getline tt twice_more ≡ Ok input.End
getline_at_the_end = refl

pub getline_in_end : answered Getline tt (after_call BeginEnd tt three_lines) ≡ Ok input.End
getline_in_end = refl

pub getline_fails : answered Getline tt (after_call Getline tt (reading (codes "a\nb") Fails)) ≡ Ok input.Failed
getline_fails = refl

-- (getline < "f"), $0; (getline < "f"), where f fails behind `a\nb`
abbrev pub failing : Shared
failing = shared_at_start (job_of []) nothing (with_file (codes "f") (codes "a\nb") Fails empty)

abbrev pub from_f : Shared → Shared
from_f state = after_call GetlineFile (value.Text (codes "f"), tt) state

pub file_read : answered GetlineFile (value.Text (codes "f"), tt) failing ≡ Ok input.Read
file_read = refl

pub file_record : record_of (from_f failing) ≡ value.StrNum (codes "a")
file_record = refl

pub file_not_counted : special Nr (from_f failing) ≡ value.Num (pos 0)
file_not_counted = refl

pub file_failed : answered GetlineFile (value.Text (codes "f"), tt) (from_f failing) ≡ Ok input.Failed
file_failed = refl

-- it goes on failing, also where another RS would cut a record from the bytes before the failure
pub goes_on_failing : answered GetlineFile (value.Text (codes "f"), tt) (setting Rs (codes "b") (from_f (from_f failing))) ≡ Ok input.Failed
goes_on_failing = refl

-- and is open until it is closed
pub failed_is_open : answered Close (value.Text (codes "f"), tt) (from_f (from_f failing)) ≡ stream.Done
failed_is_open = refl

pub no_such_file : answered GetlineFile (value.Text (codes "g"), tt) failing ≡ Ok input.Failed
no_such_file = refl

pub no_stream : (after_call GetlineFile (value.Text (codes "g"), tt) failing).inner.readers ≡ []
no_stream = refl

-- opening fixes the bytes: what is written later is not read
pub bytes_fixed : (from_f (shared_at_start (job_of []) nothing (with_file (codes "f") (codes "a\nb\n") End empty))).inner.readers
    ≡ (codes "f", source (codes "b\n") End) ∷ []
bytes_fixed = refl

-- two newlines are used up by a paragraph, and no more
abbrev pub two_paragraphs : Shared
two_paragraphs = setting Rs (codes "\n") (from_f (setting Rs [] (shared_at_start (job_of []) nothing (with_file (codes "f") (codes "a\n\n\nb\n") End empty))))

pub third_newline_left : record_of (from_f two_paragraphs) ≡ value.StrNum []
third_newline_left = refl

-- newlines at the end are dropped for good
pub newlines_gone : answered GetlineFile (value.Text (codes "f"), tt)
    (setting Rs (codes "\n") (from_f (setting Rs [] (shared_at_start (job_of []) nothing (with_file (codes "f") (codes "\n\n") End empty))))) ≡ Ok input.End
newlines_gone = refl

-- Operands: v=1 f v=a\tb g h, with f `p\n`, g `q`, and no h; the script has a variable v.

abbrev pub files : Outside
files = with_file (codes "f") (codes "p\n") End (with_file (codes "g") (codes "q") End empty)

abbrev pub operands : Shared
operands = after_call Declare (codes "v", (Scalar, tt))
    (after_call Declare (codes "a", (ArrayOrFunction, tt))
    (shared_at_start (job_of (codes "v=1" ∷ codes "f" ∷ codes "v=a\\tb" ∷ codes "g" ∷ codes "h" ∷ [])) nothing files))

pub assignment_first : answered NextMain tt operands ≡ Ok input.Pending
unfolding digits keywords builtins left_out_words unescaped escaped octal
assignment_first = refl

abbrev pub pending : Shared
pending = after_call NextMain tt operands

pub pending_name : answered PendingName tt pending ≡ 1
unfolding digits keywords builtins left_out_words unescaped escaped octal
pending_name = refl

pub pending_value : answered PendingValue tt pending ≡ value.StrNum (codes "1")
unfolding digits keywords builtins left_out_words unescaped escaped octal
pending_value = refl

pub pending_once : (after_call PendingValue tt pending).inner.pending ≡ None
unfolding digits keywords builtins left_out_words unescaped escaped octal
pending_once = refl

abbrev pub of_f : Shared
of_f = after_call NextMain tt (after_call PendingValue tt pending)

pub record_of_f : record_of of_f ≡ value.StrNum (codes "p")
unfolding digits keywords builtins left_out_words unescaped escaped octal
record_of_f = refl

pub name_of_f : special Filename of_f ≡ value.StrNum (codes "f")
unfolding digits keywords builtins left_out_words unescaped escaped octal
name_of_f = refl

pub second_value : answered PendingValue tt (after_call NextMain tt of_f) ≡ value.StrNum (codes "a\tb")
unfolding digits keywords builtins left_out_words unescaped escaped octal
second_value = refl

abbrev pub of_g : Shared
of_g = after_call NextMain tt (after_call PendingValue tt (after_call NextMain tt of_f))

pub counts_of_g : special Nr of_g ≡ value.Num (pos 2)
unfolding digits keywords builtins left_out_words unescaped escaped octal
counts_of_g = refl

pub counts_in_g : special Fnr of_g ≡ value.Num (pos 1)
unfolding digits keywords builtins left_out_words unescaped escaped octal
counts_in_g = refl

pub no_h : answered NextMain tt of_g ≡ Err OpenInput
unfolding digits keywords builtins left_out_words unescaped escaped octal
no_h = refl

-- for getline it is an answer, and the operand is passed over; it was a file, so the standard input does not follow
pub passed_over : answered Getline tt (after_call Getline tt (shared_at_start (job_of (codes "h" ∷ [])) (source (codes "a") End) empty)) ≡ Ok input.End
unfolding digits
passed_over = refl

-- empty and missing operands are skipped, and a missing one is not made
pub skipped : record_of (after_call NextMain tt (shared_at_start (job_of ([] ∷ codes "g" ∷ [])) nothing files)) ≡ value.StrNum (codes "q")
unfolding digits
skipped = refl

abbrev pub three_more : Shared
three_more = after_call NextMain tt (after_call SetSpecial (Argc, (value.Num (pos 4), tt)) (reading (codes "a") End))

pub missing_skipped : record_of three_more ≡ value.StrNum (codes "a")
unfolding digits
missing_skipped = refl

pub missing_not_made : element (codes "1") (array 0 three_more.inner) ≡ None
unfolding digits
missing_not_made = refl

-- `-` is the standard input, and at its second place is at its end
pub standard_input : record_of (after_call NextMain tt (shared_at_start (job_of (codes "-" ∷ [])) (source (codes "a") End) files)) ≡ value.StrNum (codes "a")
unfolding digits
standard_input = refl

pub standard_input_again : record_of (second (shared_at_start (job_of (codes "-" ∷ codes "-" ∷ codes "g" ∷ [])) (source (codes "a") End) files))
    ≡ value.StrNum (codes "q")
unfolding digits
standard_input_again = refl

-- ARGC is converted when an operand is to be reached
pub operands_of_fraction : answered NextMain tt (setting Argc (codes "1.5") (reading (codes "a") End)) ≡ Err Fraction
unfolding numeral_at sign_at fraction_at exponent_at numerator denominator
operands_of_fraction = refl

-- behind the standard input that follows no operand is reached
pub nothing_behind : answered NextMain tt
    (after_call SetSpecial (Argc, (value.Num (pos 2), tt))
    (after_call SetElem (0, (value.Num (pos 1), (value.Text (codes "g"), tt)))
    (after_call NextMain tt (shared_at_start (job_of []) (source (codes "a") End) files)))) ≡ Ok input.End
unfolding digits
nothing_behind = refl

-- The rest of what is being read is given up.

-- nextfile, and the next record of the main loop
abbrev pub next_of_file : Shared → Shared
next_of_file state = after_call NextMain tt (after_call NextFile tt state)

abbrev pub first : Shared → Shared
first state = after_call NextMain tt state

pub rest_given_up : answered NextMain tt (after_call NextFile tt (first three_lines)) ≡ Ok input.End
rest_given_up = refl

pub failure_given_up : answered NextMain tt (after_call NextFile tt (first (reading (codes "a\n") Fails))) ≡ Ok input.End
failure_given_up = refl

-- also one that getline has met
pub failed_given_up : answered NextMain tt (after_call NextFile tt (after_call Getline tt (first (reading (codes "a\n") Fails)))) ≡ Ok input.End
failed_given_up = refl

-- record and fields stay
pub record_stays : record_of (after_call NextFile tt (first three_lines)) ≡ value.StrNum (codes "a")
record_stays = refl

-- where nothing is being read nothing is given up
pub none_given_up : record_of (next_of_file three_lines) ≡ value.StrNum (codes "a")
none_given_up = refl

-- f g, with f `p\nq\nr\n`, g `s\n`
abbrev pub two_files : Shared
two_files = shared_at_start (job_of (codes "f" ∷ codes "g" ∷ [])) nothing
    (with_file (codes "f") (codes "p\nq\nr\n") End (with_file (codes "g") (codes "s\n") End empty))

abbrev pub in_second_file : Shared
in_second_file = next_of_file (second two_files)

pub record_of_next_file : record_of in_second_file ≡ value.StrNum (codes "s")
unfolding digits
record_of_next_file = refl

pub name_of_next_file : special Filename in_second_file ≡ value.StrNum (codes "g")
unfolding digits
name_of_next_file = refl

pub counts_of_next_file : special Nr in_second_file ≡ value.Num (pos 3)
unfolding digits
counts_of_next_file = refl

pub no_file_left : answered NextMain tt (after_call NextFile tt in_second_file) ≡ Ok input.End
unfolding digits
no_file_left = refl

-- nextfile; nextfile gives up no file that was not reached
pub twice_given_up : record_of (next_of_file (after_call NextFile tt (first two_files))) ≡ value.StrNum (codes "s")
unfolding digits
twice_given_up = refl

-- `-` is at its end at its second place, whatever was left of it
pub standard_input_given_up : record_of (next_of_file (first (shared_at_start (job_of (codes "-" ∷ codes "-" ∷ codes "g"
    ∷ [])) (source (codes "a\nb\n") Fails) files)))
    ≡ value.StrNum (codes "q")
unfolding digits
standard_input_given_up = refl

-- what is read by its own name goes on
pub reader_goes_on : record_of (from_f (after_call NextFile tt (first (from_f (shared_at_start (job_of []) (source (codes "a") End)
    (with_file (codes "f") (codes "p\nq\n") End empty)))))) ≡ value.StrNum (codes "q")
reader_goes_on = refl

-- Assignments of the command line.

abbrev pub assigning : List ℕ → List ℕ → Shared
assigning name text = after_call Declare (codes "f", (ArrayOrFunction, tt))
    (after_call Declare (codes "v", (Scalar, tt))
    (shared_at_start (record { operands = []; assigns = (name, text) ∷ []; environment = [] }) (source (codes "a:b") End) empty))

pub special_at_once : answered StartAssign tt (assigning (codes "FS") (codes ":")) ≡ Ok assign.NoneLeft
unfolding keywords builtins left_out_words unescaped escaped octal
special_at_once = refl

pub special_assigned : special Fs (after_call StartAssign tt (assigning (codes "FS") (codes ":"))) ≡ value.StrNum (codes ":")
unfolding keywords builtins left_out_words unescaped escaped octal
special_assigned = refl

pub text_kept : answered PendingValue tt (after_call StartAssign tt (assigning (codes "v") (codes "007"))) ≡ value.StrNum (codes "007")
unfolding keywords builtins left_out_words unescaped escaped octal
text_kept = refl

pub last_backslash : answered PendingValue tt (after_call StartAssign tt (assigning (codes "v") (codes "a\\"))) ≡ value.StrNum (codes "a\\")
unfolding keywords builtins left_out_words unescaped escaped octal
last_backslash = refl

pub unused_name : answered StartAssign tt (assigning (codes "w") (codes "1")) ≡ Ok assign.NoneLeft
unfolding keywords builtins left_out_words unescaped escaped octal
unused_name = refl

pub function_name : answered StartAssign tt (assigning (codes "f") (codes "1")) ≡ Err BadAssignment
unfolding keywords builtins left_out_words unescaped escaped octal
function_name = refl

pub reserved_word : answered StartAssign tt (assigning (codes "sin") (codes "1")) ≡ Err BadAssignment
unfolding keywords builtins left_out_words unescaped escaped octal
reserved_word = refl

pub array_of_awk : answered StartAssign tt (assigning (codes "ARGV") (codes "1")) ≡ Err BadAssignment
unfolding keywords builtins left_out_words unescaped escaped octal
array_of_awk = refl

pub no_name : answered StartAssign tt (assigning [] (codes "v")) ≡ Err BadAssignment
no_name = refl

pub is_assignment : assignment_of (codes "a_1=x=y") ≡ Some (codes "a_1", codes "x=y")
is_assignment = refl

pub begins_with_digit : assignment_of (codes "1x=3") ≡ None
begins_with_digit = refl

pub without_name : assignment_of (codes "=x") ≡ None
without_name = refl

pub is_file : assignment_of (codes "a.b=c") ≡ None
is_file = refl
