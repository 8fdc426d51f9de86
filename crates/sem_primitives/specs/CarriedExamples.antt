-- Assignments that calls carry out, and calls that are in turn, computed.
use Rattle.std.specs.Prelude.{◌≡◌, true, false, [], ◌∷◌, codes, refl}
use Rattle.std.specs.Fmt.{digits}
use Rattle.awk_text.specs.Escapes.{unescaped, escaped, octal}
use Rattle.awk_tokens.specs.Words.{keywords, builtins, left_out_words}
use Rattle.awk_values.specs.declared.value.Value.TheVariants as value
use Rattle.sem_primitives.specs.SharedState.{Shared}
use Rattle.sem_primitives.specs.ClosedJobs.{shared_at_start}
use Rattle.sem_primitives.specs.Carried.{carried_out}
use Rattle.sem_primitives.specs.InTurn.{in_turn, listed_in_turn, values_taken}
use Rattle.sem_primitives.specs.ExampleStates.{job_of, nothing, empty, at_start, after_call}
use Rattle.sem_primitives.specs.InputExamples.{files}
use Rattle.sem_primitives.specs.declared.table.Primitive.TheVariants.{NextMain, Getline, GetlineVar, GetlineFile, SubResult, Line, Declare, StartAssign, PendingName, PendingValue, BeginEnd}
use Rattle.sem_primitives.specs.declared.table.Listed.TheVariants.{Sprintf, Print, Printf}
use Rattle.sem_primitives.specs.declared.constants.Destination.TheVariants.{Standard, Emptied, Appended}
use Rattle.sem_primitives.specs.declared.constants.NameKind.TheVariants.{Scalar}

-- -v FS=q -v nobody=3 -v v=1 -v OFS=-, where the script has v
abbrev pub before_begin : Shared
before_begin = after_call Declare (codes "v", (Scalar, tt)) (shared_at_start (record {
  operands = [];
  assigns = (codes "FS", codes "q") ∷ (codes "nobody", codes "3") ∷ (codes "v", codes "1") ∷ (codes "OFS", codes "-") ∷ [];
  environment = [];
}) nothing empty)

-- those before the one that is left pending
pub two_carried : carried_out StartAssign before_begin ≡ 2
unfolding keywords builtins left_out_words unescaped escaped octal
two_carried = refl

pub one_more_carried : carried_out StartAssign (after_call PendingValue tt (after_call StartAssign tt before_begin)) ≡ 1
unfolding keywords builtins left_out_words unescaped escaped octal
one_more_carried = refl

-- FS=q f sin=1 OFS=-
abbrev pub among_operands : Shared
among_operands = shared_at_start (job_of (codes "FS=q" ∷ codes "f" ∷ codes "sin=1" ∷ codes "OFS=-" ∷ [])) nothing files

pub before_a_file : carried_out NextMain among_operands ≡ 1
unfolding digits keywords builtins left_out_words unescaped escaped octal
before_a_file = refl

-- the one that faults was reached, and none after it is
pub up_to_a_fault : carried_out NextMain (after_call NextMain tt among_operands) ≡ 1
unfolding digits keywords builtins left_out_words unescaped escaped octal
up_to_a_fault = refl

-- none in the actions of END
pub none_in_end : carried_out Getline (after_call BeginEnd tt among_operands) ≡ 0
none_in_end = refl

-- none while a file gives records
pub none_while_reading : carried_out GetlineVar (shared_at_start (job_of (codes "f" ∷ codes "FS=q" ∷ [])) nothing files) ≡ 0
unfolding digits
none_while_reading = refl

-- a file by its name meets none
pub none_for_a_file : carried_out GetlineFile among_operands ≡ 0
none_for_a_file = refl

-- Calls that are in turn.

pub nothing_pending : in_turn PendingName tt at_start ≡ false
nothing_pending = refl

pub nothing_kept : in_turn SubResult tt at_start ≡ false
nothing_kept = refl

pub no_line_kept : in_turn Line tt at_start ≡ false
no_line_kept = refl

pub one_is_pending : in_turn NextMain tt (after_call StartAssign tt before_begin) ≡ false
unfolding keywords builtins left_out_words unescaped escaped octal
one_is_pending = refl

pub declared_twice : in_turn Declare (codes "v", (Scalar, tt)) before_begin ≡ false
declared_twice = refl

pub format_wanted : listed_in_turn Sprintf [] ≡ false
format_wanted = refl

pub name_wanted : listed_in_turn (Printf Appended) (value.Text (codes "%d") ∷ []) ≡ false
name_wanted = refl

pub name_alone : listed_in_turn (Print Emptied) (value.Text (codes "f") ∷ []) ≡ true
name_alone = refl

pub empty_line : listed_in_turn (Print Standard) [] ≡ true
empty_line = refl

pub one_more_taken : values_taken (Print Emptied) 2 ≡ 3
one_more_taken = refl
