-- Reading and printing where others change what names hold, computed.
use Rattle.std.specs.Prelude.{◌≡◌, ℕ, List, [], ◌∷◌, codes, false, Some, Result, Ok, Err, refl}
use Rattle.std.specs.Fmt.{digits}
use Rattle.awk_values.specs.declared.fault.Fault.{Fault}
use Rattle.awk_values.specs.declared.fault.Fault.TheVariants.{OpenInput, OpenOutput, ReadFailed, WriteFailed}
use Rattle.awk_values.specs.declared.value.Value.{Value}
use Rattle.awk_values.specs.declared.value.Value.TheVariants as value
use Rattle.world_core.specs.declared.world.Ending.TheVariants.{Fails}
use Rattle.world_core.specs.WorldState.{Entry, Named, absent, Open, puts}
use Rattle.sem_primitives.specs.Finds.{shut}
use Rattle.sem_primitives.specs.SharedState.{Shared}
use Rattle.sem_primitives.specs.InputParts.{to_come}
use Rattle.sem_primitives.specs.Jobs.{Opened, shared_in}
use Rattle.sem_primitives.specs.Table.{listed_meaning}
use Rattle.sem_primitives.specs.ExampleStates.{job_of, after_call, after_list, answered}
use Rattle.sem_primitives.specs.declared.table.Primitive.TheVariants.{Close, GetlineFile, NextFile, NextMain}
use Rattle.sem_primitives.specs.declared.table.Listed.TheVariants.{Print}
use Rattle.sem_primitives.specs.declared.answers.InputAnswer.{InputAnswer}
use Rattle.sem_primitives.specs.declared.answers.InputAnswer.TheVariants as input
use Rattle.sem_primitives.specs.declared.constants.Destination.TheVariants as destination

-- these are found, one after the other
abbrev finding : List (List ℕ) → List Entry → Shared
finding operands finds = shared_in (job_of operands) to_come (Opened finds)

abbrev holding : List ℕ → Entry
holding bytes = record absent { bytes = Some bytes }

abbrev failing : List ℕ → Entry
failing bytes = record (holding bytes) { ending = Fails }

-- it opens, and something is to come
abbrev opens : Entry
opens = holding to_come.rest

abbrev f : Value
f = value.Text (codes "f")

-- getline < "f"; close("f"); getline < "f": the file holds something else when it is opened again
abbrev read_once : Shared
read_once = after_call GetlineFile (f, tt) (finding [] (opens ∷ holding (codes "a\nb\n") ∷ opens ∷ holding (codes "c") ∷ []))

abbrev read_again : Shared
read_again = after_call GetlineFile (f, tt) (after_call Close (f, tt) read_once)

pub first_line : read_once.inner.whole ≡ value.StrNum (codes "a")
first_line = refl

pub other_line : read_again.inner.whole ≡ value.StrNum (codes "c")
other_line = refl

pub all_found : read_again.inner.finds ≡ Some []
all_found = refl

-- behind the list nothing opens, and no read succeeds
pub opens_no_more : answered GetlineFile (f, tt) (after_call Close (f, tt) read_again) ≡ Ok input.Failed
opens_no_more = refl

pub reads_no_more : answered NextMain tt (finding [] []) ≡ Err ReadFailed
reads_no_more = refl

-- Readers remember: (getline < "f"), (getline < "f"), where reading has failed, or met the end, also where more is found later.
abbrev reading_twice : Entry → Shared
reading_twice entry = finding [] (opens ∷ entry ∷ holding (codes "a\n") ∷ [])

abbrev answers_twice : Entry → List (Result InputAnswer Fault)
answers_twice entry = answered GetlineFile (f, tt) (reading_twice entry) ∷ answered GetlineFile (f, tt) (after_call GetlineFile (f, tt) (reading_twice entry)) ∷ []

pub failure_stays : answers_twice (failing (codes "b")) ≡ Ok input.Failed ∷ Ok input.Failed ∷ []
failure_stays = refl

pub end_stays : answers_twice (holding []) ≡ Ok input.End ∷ Ok input.End ∷ []
end_stays = refl

-- the end that a record without its newline met
pub end_after_record : answers_twice (holding (codes "b")) ≡ Ok input.Read ∷ Ok input.End ∷ []
end_after_record = refl

-- of what is to come nothing is known but that it is there
pub more_to_come : answers_twice (holding (codes "b\nc")) ≡ Ok input.Read ∷ Ok input.Read ∷ []
more_to_come = refl

-- the operands - -: `nextfile` gives up the standard input, and it is at its end at its second place
pub given_up_stays : answered NextMain tt (after_call NextFile tt (after_call NextMain tt
    (finding (codes "-" ∷ codes "-" ∷ []) (opens ∷ holding (codes "a\nb\n") ∷ opens ∷ holding (codes "c\n") ∷ []))))
    ≡ Ok input.End
unfolding digits
given_up_stays = refl

-- the operands f f: the first is empty, the second is not
abbrev operands : Shared
operands = after_call NextMain tt (finding (codes "f" ∷ codes "f" ∷ []) (opens ∷ holding [] ∷ opens ∷ holding (codes "x y") ∷ []))

pub second_operand : operands.inner.whole ≡ value.StrNum (codes "x y")
unfolding digits
second_operand = refl

pub not_there : answered NextMain tt (finding (codes "f" ∷ []) (shut ∷ [])) ≡ Err OpenInput
unfolding digits
not_there = refl

-- print "a" > "f"; print "a" > "f": there is room for the first line, and for one byte of the second
abbrev line : List Value
line = value.Text (codes "a") ∷ f ∷ []

abbrev printed_once : Shared
printed_once = after_list (Print destination.Emptied) line (finding [] (absent ∷ record absent { room = Some 1 } ∷ []))

pub went_out : printed_once.output ≡ Open (codes "f") false ∷ puts (Named (codes "f")) (codes "a\n")
went_out = refl

pub no_more_room : (listed_meaning (Print destination.Emptied) line printed_once).answer ≡ Err WriteFailed
no_more_room = refl

pub a_part : (listed_meaning (Print destination.Emptied) line printed_once).added ≡ puts (Named (codes "f")) (codes "a")
a_part = refl

pub opens_not : (listed_meaning (Print destination.Emptied) line (finding [] [])).answer ≡ Err OpenOutput
opens_not = refl

pub output_fails : (listed_meaning (Print destination.Standard) (f ∷ []) (finding [] [])).answer ≡ Err WriteFailed
output_fails = refl
