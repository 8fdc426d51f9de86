-- What the main input gives (POSIX.1-2017 awk, "INPUT FILES" and "OPERANDS"), as one walk over the reader at hand and the operands.
use Rattle.std.specs.Prelude.{◌≡◌, ◌≢◌, ◌⊎◌, ℕ, suc, ◌<◌, ◌≤◌, true, false, List, [], ◌∷◌, Some, None, Result, Ok, Err, ℤ}
use Rattle.awk_values.specs.Values.{number_of_value}
use Rattle.awk_values.specs.declared.fault.Fault.{Fault}
use Rattle.world_core.specs.WorldState.{Outside, Source}
use Rattle.sem_primitives.specs.Limits.{most_operands}
use Rattle.sem_primitives.specs.SharedState.{Inner, MainReader, Standard, NoFile, SomeFile, NoneLeft, special_of}
use Rattle.sem_primitives.specs.Finds.{seen}
use Rattle.sem_primitives.specs.Assignments.{assignment_of, assigned}
use Rattle.sem_primitives.specs.Records.{Record, AtEnd, Broken}
use Rattle.sem_primitives.specs.InputParts.{Main, Taken, Over, Pending, NotOpened, Failed, next_record, reader_source, leaves, stops_reading, begins_reading, with_operands, file_named, reader_of, operand_text, passes_operand, is_below}
use Rattle.sem_primitives.specs.declared.constants.Special.TheVariants.{Argc}

-- the state afterwards and what is given, or a fault
abbrev pub Given : Type 0
Given = Result (Inner × Main) Fault

-- what is looked at next: the reader at hand, or the next operand
pub data Stage : Type 0 where
  Reader : MainReader → Stage
  Operand : Stage

-- the end is told, and stays
abbrev pub ends : Inner → Inner
ends inner = record inner { main = record inner.main { ended = true } }

-- the operands are gone through: ARGC is the number of the next one or less, or this number is past 1,048,576
pub record IsPast (inner : Inner) : Type 0 where
  pub argc : ℤ
  pub count : number_of_value (special_of inner Argc) ≡ Ok argc
  pub past : (most_operands < inner.main.next) ⊎ (is_below inner.main.next argc ≡ false)

-- this is the text of the next operand; one that is missing is empty
pub record IsNext (inner : Inner) (text : List ℕ) : Type 0 where
  pub looked : inner.main.operands ≢ NoneLeft
  pub within : inner.main.next ≤ most_operands
  pub argc : ℤ
  pub count : number_of_value (special_of inner Argc) ≡ Ok argc
  pub below : is_below inner.main.next argc ≡ true
  pub here : operand_text inner.main.next inner ≡ text

-- what is given from here, and how many assignments are carried out on the way
pub data Gives (outside : Outside) : Stage → Inner → Given → (made : ℕ) → Type 0 where
  -- the reader gives a record
  one_record : {reader : MainReader} {inner : Inner} (text : List ℕ) (left : Source) →
      next_record inner (reader_source reader inner) ≡ Ok (Record text, left) →
      Gives outside (Reader reader) inner (Ok (leaves reader left inner, Taken text)) 0
  -- or cannot be read on
  broken : {reader : MainReader} {inner : Inner} (left : Source) → next_record inner (reader_source reader inner) ≡ Ok (Broken, left) →
      Gives outside (Reader reader) inner (Ok (leaves reader left inner, Failed)) 0
  -- or its record is too long
  too_long : {reader : MainReader} {inner : Inner} {fault : Fault} →
      next_record inner (reader_source reader inner) ≡ Err fault → Gives outside (Reader reader) inner (Err fault) 0
  -- at its end the next operand is looked at
  at_end : {reader : MainReader} {inner : Inner} {given : Given} {made : ℕ} (left : Source) →
      next_record inner (reader_source reader inner) ≡ Ok (AtEnd, left) →
      Gives outside Operand (stops_reading (leaves reader left inner)) given made → Gives outside (Reader reader) inner given made
  -- the standard input has followed the operands: that was the end
  followed : {inner : Inner} → inner.main.operands ≡ NoneLeft → Gives outside Operand inner (Ok (ends inner, Over)) 0
  -- ARGC is no number of the language
  no_count : {inner : Inner} {fault : Fault} → inner.main.operands ≢ NoneLeft →
      number_of_value (special_of inner Argc) ≡ Err fault → Gives outside Operand inner (Err fault) 0
  -- there is none left, and one of them named a file: that was the end
  none_left : {inner : Inner} → inner.main.operands ≡ SomeFile → IsPast inner → Gives outside Operand inner (Ok (ends inner, Over)) 0
  -- there is none left, and none of them named a file: the standard input follows, under the empty name
  standard_input : {inner : Inner} {given : Given} {made : ℕ} → inner.main.operands ≡ NoFile → IsPast inner →
      Gives outside (Reader Standard) (begins_reading [] Standard (with_operands NoneLeft inner)) given made → Gives outside Operand inner given made
  -- an empty operand is skipped
  skipped : {inner : Inner} {given : Given} {made : ℕ} → IsNext inner [] →
      Gives outside Operand (passes_operand inner) given made → Gives outside Operand inner given made
  -- `name=text` is an assignment: one that is not allowed is counted too
  not_allowed : {inner : Inner} {fault : Fault} (c : ℕ) (cs name text : List ℕ) → IsNext inner (c ∷ cs) →
      assignment_of (c ∷ cs) ≡ Some (name, text) → assigned name text (passes_operand inner) ≡ Err fault → Gives outside Operand inner (Err fault) 1
  -- one to a variable of the script is left to the script
  left_to_script : {inner : Inner} (c : ℕ) (cs name text : List ℕ) (after : Inner) → IsNext inner (c ∷ cs) →
      assignment_of (c ∷ cs) ≡ Some (name, text) → assigned name text (passes_operand inner) ≡ Ok (after, true) →
      Gives outside Operand inner (Ok (after, Pending)) 0
  -- any other is carried out here, and the next operand is looked at
  carried_out : {inner : Inner} {given : Given} {made : ℕ} (c : ℕ) (cs name text : List ℕ) (after : Inner) → IsNext inner (c ∷ cs) →
      assignment_of (c ∷ cs) ≡ Some (name, text) → assigned name text (passes_operand inner) ≡ Ok (after, false) →
      Gives outside Operand after given made → Gives outside Operand inner given (suc made)
  -- any other operand is a file, and `-` the standard input: it does not open
  not_opened : {inner : Inner} (c : ℕ) (cs : List ℕ) → IsNext inner (c ∷ cs) → assignment_of (c ∷ cs) ≡ None → reader_of (seen inner outside) (c ∷ cs) ≡ None →
      Gives outside Operand inner (Ok (file_named (passes_operand inner), NotOpened)) 0
  -- or is opened, and read
  opened : {inner : Inner} {given : Given} {made : ℕ} (c : ℕ) (cs : List ℕ) (reader : MainReader) → IsNext inner (c ∷ cs) →
      assignment_of (c ∷ cs) ≡ None → reader_of (seen inner outside) (c ∷ cs) ≡ Some reader →
      Gives outside (Reader reader) (begins_reading (c ∷ cs) reader (file_named (passes_operand inner))) given made →
      Gives outside Operand inner given made

-- what a call of the main input gives: its end, once that was told; or what comes from the reader at hand, or from the next operand
pub data GivesNext (outside : Outside) : Inner → Given → (made : ℕ) → Type 0 where
  ended : {inner : Inner} → inner.main.ended ≡ true → GivesNext outside inner (Ok (inner, Over)) 0
  from_reader : {inner : Inner} {given : Given} {made : ℕ} (reader : MainReader) → inner.main.ended ≡ false → inner.main.reading ≡ Some reader →
      Gives outside (Reader reader) inner given made → GivesNext outside inner given made
  from_operand : {inner : Inner} {given : Given} {made : ℕ} → inner.main.ended ≡ false → inner.main.reading ≡ None →
      Gives outside Operand inner given made → GivesNext outside inner given made
