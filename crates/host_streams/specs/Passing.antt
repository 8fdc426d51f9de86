-- What a call of the main input reads and passes, in every world, whether it tells what it holds or not.
use Rattle.std.specs.Prelude.{◌≡◌, ◌≢◌, ◌⊎◌, ℕ, ◌+◌, ◌<◌, ◌≤◌, ℤ, List, [], Bool, true, false, Option, Some, None, Result, Ok, Err}
use Rattle.awk_values.specs.declared.fault.Fault.{Fault}
use Rattle.awk_values.specs.declared.fault.Fault.TheVariants.{Fraction, OpenInput, Range, ReadFailed, TextLimit}
use Rattle.awk_values.specs.declared.fault.Stop.{Stop}
use Rattle.awk_values.specs.declared.fault.Stop.TheVariants.{Fault as IsFault, NoMemory}
use Rattle.sem_primitives.specs.Assignments.{assignment_of}
use Rattle.host_streams.specs.declared.main_input.Found.{Found}
use Rattle.host_streams.specs.declared.main_input.Found.TheVariants.{NoFile, SomeFile, NoneLeft}
use Rattle.host_streams.specs.declared.main_input.MainNext.{MainNext}
use Rattle.host_streams.specs.declared.main_input.MainNext.TheVariants.{Record, Assign, Opened, End}
use Rattle.host_streams.specs.declared.main_input.MainInput.{MainInput as Mains}
use Rattle.host_streams.specs.declared.main_input.Reading.{Reading}
use Rattle.host_streams.specs.declared.main_input.Reading.TheVariants as reading
use Rattle.host_streams.specs.declared.reader.FileNext.{FileNext}
use Rattle.host_streams.specs.declared.reader.FileNext.TheVariants as file
use Rattle.host_streams.specs.declared.reader.Phase.{Phase}
use Rattle.host_streams.specs.declared.reader.Phase.TheVariants.{Ended}
use Rattle.host_streams.specs.declared.reader.Reader.{Reader}
use Rattle.host_streams.specs.Mains.{has_operand, phase_at}
use Rattle.host_streams.specs.Readers.{HandsOver, unread}

-- the bytes that the reader at hand keeps
abbrev pub kept_at : Reading → Reader → List ℕ
kept_at reading.Nothing standard = []
kept_at reading.Standard standard = unread standard
kept_at (reading.File r) standard = unread r

-- the answer is that of the bytes that the reader at hand kept, and of those that were handed to it
abbrev pub HandsAt : Option ℕ → Reading → Reader → Result FileNext Stop → Reading → Reader → Type 0
HandsAt rs was standard answer is standard' = HandsOver rs (phase_at was standard) (kept_at was standard) answer (phase_at is standard') (kept_at is standard')

-- the reader of the standard input stays as it was, unless it is read
abbrev pub StandardStays : Reading → Reader → Reader → Type 0
StandardStays reading.Standard old new = Unit {0}
StandardStays r old new = new ≡ old

-- it is at its end where it was read, and else stays as it was
abbrev pub StandardSkips : Reading → Reader → Reader → Type 0
StandardSkips reading.Standard old new = (new.id ≡ old.id) × (new.phase ≡ Ended) × (unread new ≡ [])
StandardSkips r old new = new ≡ old

-- the reader at hand has no record left
abbrev pub IsAtEnd : Option ℕ → Reading → Reader → Reader → Type 0
IsAtEnd rs reading.Nothing old new = Unit {0}
IsAtEnd rs reading.Standard old new = HandsOver rs old.phase (unread old) (Ok file.End) new.phase (unread new)
IsAtEnd rs (reading.File r) old new = (phase : Phase) × (kept : List ℕ) × HandsOver rs r.phase (unread r) (Ok file.End) phase kept

-- this is what the reader at hand answers
pub record ReadsAt (rs : Option ℕ) (old : Mains) (answer : Result FileNext Stop) (new : Mains) : Type 0 where
  pub live : old.ended ≡ false
  pub busy : old.reading ≢ reading.Nothing
  pub handed : HandsAt rs old.reading old.standard answer new.reading new.standard

-- the end was told, or no reader is at hand that had a record left
abbrev pub NoRecord : Option ℕ → Mains → Mains → Type 0
NoRecord rs old new = (old.ended ≡ true) ⊎ IsAtEnd rs old.reading old.standard new.standard

-- a record, a failed read and a text that is too long are answers of the reader at hand; before any other answer it has no record left; short of
-- memory it may be as it was
abbrev pub HandsMain : Option ℕ → Mains → Result MainNext Stop → Mains → Type 0
HandsMain rs old (Ok (Record text)) new = ReadsAt rs old (Ok (file.Record text)) new
HandsMain rs old (Err (IsFault ReadFailed)) new = ReadsAt rs old (Ok file.Failed) new
HandsMain rs old (Err (IsFault TextLimit)) new = ReadsAt rs old (Err (IsFault TextLimit)) new
HandsMain rs old (Err NoMemory) new = ReadsAt rs old (Err NoMemory) new ⊎ NoRecord rs old new
HandsMain rs old answer new = NoRecord rs old new

-- the same of one step, after which there may be no answer yet: then nothing is read
abbrev pub HandsStep : Option ℕ → Mains → Result (Option MainNext) Stop → Mains → Type 0
HandsStep rs old (Ok None) new = (new.reading ≡ reading.Nothing) × NoRecord rs old new
HandsStep rs old (Ok (Some answer)) new = HandsMain rs old (Ok answer) new
HandsStep rs old (Err stop) new = HandsMain rs old (Err stop) new

-- the operands from one number to another are empty
pub record Skips (texts : ℕ → List ℕ) (from to : ℕ) : Type 0 where
  pub order : from ≤ to
  pub empty : (n : ℕ) → from ≤ n → n < to → texts n ≡ []

-- one operand is taken after some that are empty
pub record Takes (texts : ℕ → List ℕ) (from : ℕ) (found : Found) (text : List ℕ) (to : ℕ) : Type 0 where
  pub at : ℕ
  pub skips : Skips texts from at
  pub found_at : texts at ≡ text
  pub next : to ≡ at + 1
  pub left : found ≢ NoneLeft

-- an operand that names a file
pub record TakesFile (texts : ℕ → List ℕ) (from : ℕ) (found : Found) (name : List ℕ) (to : ℕ) : Type 0 where
  pub takes : Takes texts from found name to
  pub named : name ≢ []
  pub file : assignment_of name ≡ None

-- Which operands are passed: those that are empty, and at most one that is told, or that names a file that does not open. Whether one of them named a
-- file is kept; where none did the standard input follows.
abbrev pub Passes : (ℕ → List ℕ) → ℕ → Found → Result MainNext Stop → ℕ → Found → Type 0
Passes texts n f (Ok (Record text)) m g = (m ≡ n) × (g ≡ f)
Passes texts n f (Ok (Assign name value)) m g = (text : List ℕ) × Takes texts n f text m × (assignment_of text ≡ Some (name, value)) × (g ≡ f)
Passes texts n f (Ok (Opened name)) m g = (TakesFile texts n f name m × (g ≡ SomeFile)) ⊎ (Skips texts n m × (name ≡ []) × (f ≡ NoFile) × (g ≡ NoneLeft))
Passes texts n f (Ok End) m g = Skips texts n m × (g ≡ f)
Passes texts n f (Err (IsFault OpenInput)) m g = (name : List ℕ) × TakesFile texts n f name m × (g ≡ SomeFile)
Passes texts n f (Err (IsFault ReadFailed)) m g = (m ≡ n) × (g ≡ f)
Passes texts n f (Err (IsFault TextLimit)) m g = (m ≡ n) × (g ≡ f)
Passes texts n f (Err stop) m g = Skips texts n m × (g ≡ f)

abbrev pub StepPasses : (ℕ → List ℕ) → ℕ → Found → Result (Option MainNext) Stop → ℕ → Found → Type 0
StepPasses texts n f (Ok None) m g = Skips texts n m × (g ≡ f)
StepPasses texts n f (Ok (Some answer)) m g = Passes texts n f (Ok answer) m g
StepPasses texts n f (Err stop) m g = Passes texts n f (Err stop) m g

-- each operand that is passed is one by ARGC's number
abbrev pub AreThere : Result ℤ Fault → ℕ → ℕ → Type 0
AreThere count from to = (n : ℕ) → from ≤ n → n < to → has_operand n count ≡ Ok true

-- at the end, and before the standard input that follows, none is left
abbrev pub NoneMore : Result ℤ Fault → Bool → Found → Result MainNext Stop → ℕ → Found → Type 0
NoneMore count ended f (Ok End) m g = (ended ≡ true) ⊎ ((f ≡ NoneLeft) ⊎ ((f ≡ SomeFile) × (has_operand m count ≡ Ok false)))
NoneMore count ended f (Ok (Opened name)) m g = (g ≡ NoneLeft) → has_operand m count ≡ Ok false
NoneMore count ended f (Err (IsFault Range)) m g = has_operand m count ≡ Err Range
NoneMore count ended f (Err (IsFault Fraction)) m g = has_operand m count ≡ Err Fraction
NoneMore count ended f answer m g = Unit {0}

abbrev pub StepNoneMore : Result ℤ Fault → Bool → Found → Result (Option MainNext) Stop → ℕ → Found → Type 0
StepNoneMore count ended f (Ok None) m g = Unit {0}
StepNoneMore count ended f (Ok (Some answer)) m g = NoneMore count ended f (Ok answer) m g
StepNoneMore count ended f (Err stop) m g = NoneMore count ended f (Err stop) m g

-- what the reader at hand may answer, and what may be answered of operands
abbrev pub IsOfReader : Result (Option MainNext) Stop → Type 0
IsOfReader (Ok None) = Unit {0}
IsOfReader (Ok (Some (Record text))) = Unit {0}
IsOfReader (Err (IsFault fault)) = (fault ≡ ReadFailed) ⊎ (fault ≡ TextLimit)
IsOfReader (Err NoMemory) = Unit {0}
IsOfReader answer = ⊥

abbrev pub IsNotRead : Result MainNext Stop → Type 0
IsNotRead (Ok (Record text)) = ⊥
IsNotRead (Err (IsFault ReadFailed)) = ⊥
IsNotRead (Err (IsFault TextLimit)) = ⊥
IsNotRead answer = Unit {0}

abbrev pub IsOfOperands : Result (Option MainNext) Stop → Type 0
IsOfOperands (Ok None) = Unit {0}
IsOfOperands (Ok (Some answer)) = IsNotRead (Ok answer)
IsOfOperands (Err stop) = IsNotRead (Err stop)

-- without an answer nothing is at hand
abbrev pub IdleAfter : Result (Option MainNext) Stop → Reading → Type 0
IdleAfter (Ok None) r = r ≡ reading.Nothing
IdleAfter answer r = Unit {0}

-- after an assignment nothing is at hand, and operands may follow
abbrev pub RestsAfter : Result MainNext Stop → Reading → Found → Type 0
RestsAfter (Ok (Assign name text)) r f = (r ≡ reading.Nothing) × (f ≢ NoneLeft)
RestsAfter answer r f = Unit {0}

abbrev pub StepRests : Result (Option MainNext) Stop → Reading → Found → Type 0
StepRests (Ok (Some answer)) r f = RestsAfter (Ok answer) r f
StepRests answer r f = Unit {0}

-- the standard input follows the operands, or the end
abbrev pub FollowsAll : Found → Result (Option MainNext) Stop → Found → Type 0
FollowsAll f (Ok (Some (Opened name))) g = (name ≡ []) × (f ≡ NoFile) × (g ≡ NoneLeft)
FollowsAll f (Ok (Some End)) g = (f ≢ NoFile) × (g ≡ f)
FollowsAll f (Err NoMemory) g = g ≡ f
FollowsAll f answer g = ⊥

-- one operand at most is passed
abbrev pub IsOne : ℕ → ℕ → Type 0
IsOne from to = (from ≤ to) × (to ≤ from + 1)
