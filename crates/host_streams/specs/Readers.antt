-- What a reader has left, and what asking it for a record does.
use Rattle.std.specs.Prelude.{◌≡◌, ◌≢◌, ℕ, ◌+◌, ◌-◌, ◌%◌, ◌^◌, ◌<◌, List, [], ◌++◌, length, take, drop, Bool, true, false, Option, Result, Ok, Err}
use Rattle.awk_values.specs.declared.fault.Fault.TheVariants.{TextLimit}
use Rattle.awk_values.specs.declared.fault.Stop.{Stop}
use Rattle.awk_values.specs.declared.fault.Stop.TheVariants.{Fault as IsFault, NoMemory as OutOfMemory}
use Rattle.world_core.specs.declared.world.Ending.TheVariants.{End as IsEnd, Fails as IsFailure}
use Rattle.world_core.specs.declared.world.WorldFault.{WorldFault}
use Rattle.world_core.specs.declared.world.WorldFault.TheVariants.{Failed as DeviceFailed, NoMemory}
use Rattle.world_core.specs.WorldState.{State, Source, Standard, absent}
use Rattle.sem_primitives.specs.InputParts.{to_come}
use Rattle.sem_primitives.specs.Limits.{most_text}
use Rattle.sem_primitives.specs.Records.{first_record}
use Rattle.sem_primitives.specs.Records.{Record as GotRecord, AtEnd as GotEnd, Broken as GotFailure}
use Rattle.host_streams.specs.Looks.{IsScanned}
use Rattle.host_streams.specs.declared.reader.Phase.{Phase}
use Rattle.host_streams.specs.declared.reader.Phase.TheVariants.{Open, Ended, Broken}
use Rattle.host_streams.specs.declared.reader.Reader.{Reader}
use Rattle.host_streams.specs.declared.reader.FileNext.{FileNext}
use Rattle.host_streams.specs.declared.reader.FileNext.TheVariants.{Record, End, Failed}
use Rattle.host_streams.specs.declared.reader.Turn.{Turn}
use Rattle.host_streams.specs.declared.reader.Turn.TheVariants.{Answer, Again}

-- the bytes that it keeps and that no record used
abbrev pub unread : Reader → List ℕ
unread r = drop r.start r.kept.items

-- nothing was read of it
abbrev pub fresh : Reader → Type 0
fresh r = (r.phase ≡ Open) × (unread r ≡ [])

-- what it has left: the bytes that it keeps, and those that the world has for it
abbrev pub left_in : Phase → List ℕ → Source → Source
left_in Open kept source = record { rest = kept ++ source.rest; ending = source.ending }
left_in Ended kept source = record { rest = kept; ending = IsEnd }
left_in Broken kept source = record { rest = []; ending = IsFailure }

abbrev pub left : Reader → Source → Source
left r source = left_in r.phase (unread r) source

-- A state of which nothing is known but that for each reader something is to come.
abbrev pub coming : State
coming = record { outside = λ target. absent; readers = λ id. to_come; writers = λ id. Standard }

-- no other reader moves, and nothing outside changes
pub record OnlyReads (id : ℕ) (old new : State) : Type 0 where
  pub outside : new.outside ≡ old.outside
  pub writers : new.writers ≡ old.writers
  pub others : (k : ℕ) → k ≢ id → new.readers k ≡ old.readers k

-- the answer is that of the whole bytes; where it is refused no byte is lost
abbrev pub Answers : Option ℕ → Source → Result FileNext Stop → Source → Type 0
Answers rs old (Ok (Record text)) new = first_record rs old ≡ Ok (GotRecord text, new)
Answers rs old (Ok End) new = first_record rs old ≡ Ok (GotEnd, new)
Answers rs old (Ok Failed) new = first_record rs old ≡ Ok (GotFailure, new)
Answers rs old (Err (IsFault fault)) new = (first_record rs old ≡ Err fault) × (new ≡ old)
Answers rs old (Err OutOfMemory) new = new ≡ old

-- what a stream had, where it handed over some bytes: these, and then what is to come, the end, or a failure, by how far its reader is then
abbrev pub handed : List ℕ → Phase → Source → Source
handed bytes Open later = record { rest = bytes ++ later.rest; ending = later.ending }
handed bytes Ended later = record { rest = bytes; ending = IsEnd }
handed bytes Broken later = record { rest = bytes; ending = IsFailure }

-- In every world: the stream handed over some bytes, and whatever is to come after them, the answer is that of the whole bytes.
pub record HandsOver (rs : Option ℕ) (old_phase : Phase) (old_kept : List ℕ) (answer : Result FileNext Stop) (new_phase : Phase)
    (new_kept : List ℕ) : Type 0 where
  pub bytes : List ℕ
  pub answers : (later : Source) → Answers rs (left_in old_phase old_kept (handed bytes new_phase later)) answer (left_in new_phase new_kept later)

-- one turn, after which there may be no answer yet
abbrev pub Turns : Option ℕ → Source → Result Turn Stop → Source → Type 0
Turns rs old (Ok (Answer answer)) new = Answers rs old (Ok answer) new
Turns rs old (Ok (Again known)) new = new ≡ old
Turns rs old (Err stop) new = Answers rs old (Err stop) new

-- what is known is known of the bytes that it keeps now
abbrev pub ScannedAgain : Option ℕ → Result Turn Stop → Reader → Type 0
ScannedAgain rs (Ok (Answer answer)) r = Unit {0}
ScannedAgain rs (Ok (Again known)) r = IsScanned rs (unread r) known
ScannedAgain rs (Err stop) r = Unit {0}

-- the same of one turn
pub record HandsTurn (rs : Option ℕ) (old_phase : Phase) (old_kept : List ℕ) (answer : Result Turn Stop) (new_phase : Phase) (new_kept : List ℕ) : Type 0 where
  pub bytes : List ℕ
  pub answers : (later : Source) → Turns rs (left_in old_phase old_kept (handed bytes new_phase later)) answer (left_in new_phase new_kept later)

-- at the end, what is left is given, and nothing is left
abbrev pub IsLast : List ℕ → Result Turn Stop → Reader → Reader → Type 0
IsLast text (Ok (Answer (Record t))) old new = (t ≡ text) × (0 < length text) × (unread new ≡ [])
IsLast text (Ok (Answer End)) old new = (text ≡ []) × (unread new ≡ [])
IsLast text (Ok (Answer Failed)) old new = ⊥
IsLast text (Ok (Again known)) old new = ⊥
IsLast text (Err stop) old new = (stop ≡ OutOfMemory) × (new ≡ old)

-- one piece is read
abbrev pub Fills : ℕ → State → List ℕ → Result Bool WorldFault → List ℕ → State → Type 0
Fills id old kept (Ok true) now new = (now ++ (new.readers id).rest ≡ kept ++ (old.readers id).rest)
    × ((new.readers id).ending ≡ (old.readers id).ending) × OnlyReads id old new
Fills id old kept (Ok false) now new = ((old.readers id).rest ≡ []) × ((old.readers id).ending ≡ IsEnd) × OnlyReads id old new
Fills id old kept (Err DeviceFailed) now new = (new ≡ old) × ((old.readers id).rest ≡ []) × ((old.readers id).ending ≡ IsFailure)
Fills id old kept (Err NoMemory) now new = new ≡ old

-- a piece more is there, or reading failed
abbrev pub MoreIs : List ℕ → Source → Result Bool Stop → Source → Type 0
MoreIs kept old (Ok true) new = new ≡ old
MoreIs kept old (Ok false) new = (old ≡ record { rest = kept; ending = IsFailure }) × (new ≡ record { rest = []; ending = IsFailure })
MoreIs kept old (Err stop) new = new ≡ old

-- the same of a piece more
pub record HandsMore (old_phase : Phase) (old_kept : List ℕ) (answer : Result Bool Stop) (new_phase : Phase) (new_kept : List ℕ) : Type 0 where
  pub bytes : List ℕ
  pub is : (later : Source) → MoreIs old_kept (left_in old_phase old_kept (handed bytes new_phase later)) answer (left_in new_phase new_kept later)

-- once the end was met the stream is not read again
abbrev pub EndStays : Phase → Phase → Type 0
EndStays old new = old ≡ Ended → new ≡ Ended

-- how much there is left to do
abbrev pub work_in : Phase → ℕ → ℕ
work_in Open n = most_text + 4 - n
work_in Ended n = 0
work_in Broken n = 0

abbrev pub work : Reader → ℕ
work r = work_in r.phase (length (unread r))

abbrev pub MoreKeeps : Reader → Result Bool Stop → Reader → Type 0
MoreKeeps old (Ok true) new = (take (length (unread old)) (unread new) ≡ unread old) × (new.phase ≢ Broken) × (work new < work old)
MoreKeeps old (Ok false) new = new.phase ≡ Broken
MoreKeeps old (Err stop) new = (stop ≡ OutOfMemory) × (new.phase ≡ Open)

-- failing is told once the reader is broken, and then for ever
abbrev pub TurnPhase : Result Turn Stop → Phase → Type 0
TurnPhase (Ok (Answer Failed)) p = p ≡ Broken
TurnPhase r p = p ≢ Broken

abbrev pub NextPhase : Phase → Result FileNext Stop → Phase → Type 0
NextPhase p (Ok Failed) q = q ≡ Broken
NextPhase p r q = (p ≢ Broken) × (q ≢ Broken)

-- a reader breaks where a call of the device has failed: that one is counted, and no other fails
abbrev pub MoreCounts : Result Bool Stop → ℕ → ℕ → Type 0
MoreCounts (Ok false) n m = m ≡ (n + 1) % 2 ^ 64
MoreCounts r n m = m ≡ n

abbrev pub TurnCounts : Result Turn Stop → ℕ → ℕ → Type 0
TurnCounts (Ok (Answer Failed)) n m = m ≡ (n + 1) % 2 ^ 64
TurnCounts r n m = m ≡ n

abbrev pub NextCounts : Phase → Result FileNext Stop → ℕ → ℕ → Type 0
NextCounts Broken (Ok Failed) n m = m ≡ n
NextCounts p (Ok Failed) n m = m ≡ (n + 1) % 2 ^ 64
NextCounts p r n m = m ≡ n

-- no other fault than this
abbrev pub OnlyLimit : {A : Type 0} → Result A Stop → Type 0
OnlyLimit (Err (IsFault fault)) = fault ≡ TextLimit
OnlyLimit r = Unit {0}

-- no answer: something was read
abbrev pub GoesOn : Result Turn Stop → ℕ → ℕ → Type 0
GoesOn (Ok (Again known)) old new = new < old
GoesOn r old new = Unit {0}
