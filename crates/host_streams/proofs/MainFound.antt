-- What is found by a step of the main input, in an environment that others change too.
use Rattle.std.proofs.Common.{◌≡◌, ◌≢◌, ℕ, ◌+◌, ◌++◌, append_assoc, List, [], ◌∷◌, Option, Some, None, Result, Ok, Err, true, false, refl, sym, ap, ◌∙◌, subst, inl, inr}
use Rattle.awk_values.specs.declared.fault.Fault.{Fault}
use Rattle.awk_values.specs.declared.fault.Fault.TheVariants.{OpenInput, ReadFailed, TextLimit}
use Rattle.awk_values.specs.declared.fault.Stop.{Stop}
use Rattle.awk_values.specs.declared.fault.Stop.TheVariants.{Fault as IsFault, NoMemory}
use Rattle.awk_values.specs.declared.value.Value.{Value}
use Rattle.world_core.specs.WorldState.{Entry, Outside, Source}
use Rattle.sem_primitives.specs.Assignments.{assignment_of}
use Rattle.sem_primitives.specs.Finds.{shut}
use Rattle.sem_primitives.specs.MainInput.{follows, go_on, got_main, main_input, next_operand, taken}
use Rattle.sem_primitives.specs.InputParts.{Main, NotOpened, Taken, found_anew, leaves, reader_of, reader_source, record_by, stops_reading, to_come, Failed as ReadingFailed}
use Rattle.sem_primitives.specs.FieldMeaning.{special_text}
use Rattle.sem_primitives.specs.Records.{Got, Record, AtEnd, Broken, first_record, record_separator}
use Rattle.sem_primitives.specs.declared.constants.Special.TheVariants.{Rs}
use Rattle.sem_primitives.specs.SharedState.{Inner, MainInput, MainReader, SomeFile, Standard, File, ◌>>=◌}
use Rattle.host_streams.specs.declared.main_input.Found.{Found}
use Rattle.host_streams.specs.declared.main_input.Found.TheVariants as found
use Rattle.host_streams.specs.declared.main_input.MainInput.{MainInput as Mains}
use Rattle.host_streams.specs.declared.main_input.MainNext.{MainNext}
use Rattle.host_streams.specs.declared.main_input.MainNext.TheVariants as main
use Rattle.host_streams.specs.declared.main_input.Reading.{Reading}
use Rattle.host_streams.specs.declared.main_input.Reading.TheVariants as reading
use Rattle.host_streams.specs.declared.reader.FileNext.{FileNext}
use Rattle.host_streams.specs.declared.reader.FileNext.TheVariants as file
use Rattle.host_streams.specs.declared.reader.Phase.{Phase}
use Rattle.host_streams.specs.declared.reader.Phase.TheVariants.{Open, Ended, Broken as IsBroken}
use Rattle.host_streams.specs.declared.reader.Reader.{Reader}
use Rattle.host_streams.specs.Mains.{IsAsked, IsOffered, IsOfNumber, begun, idle, left_main, operands_of, passed, phase_at, rest_of, with_file, with_main}
use Rattle.host_streams.specs.MainFinds.{FaultFound, FindsOperand, FindsSomeOn, FindsStep, StepFound, entry_of, entry_of_reading, found_by_name, found_by_operand, found_in, left_at, left_found, main_finding, main_found, reader_at, reading_found}
use Rattle.host_streams.specs.Passing.{FollowsAll, HandsAt, kept_at}
use Rattle.host_streams.specs.Readers.{OnlyLimit, coming, handed, left, left_in}
use Rattle.host_streams.proofs.MainSteps.{opens_at, opens_not, resting, rests, skips_at}

-- What a reader has left is found anew, where it has something left.
found_anew_is : (p : Phase) (kept : List ℕ) (source : Source) → found_anew (left_in p kept to_come).rest (left_in p kept to_come) (entry_of (left_in p kept source)) ≡ left_in p kept source
found_anew_is Open [] source = refl
found_anew_is Open (b ∷ bs) source = refl
found_anew_is Ended [] source = refl
found_anew_is Ended (b ∷ bs) source = refl
found_anew_is IsBroken kept source = refl

-- so it gives what it has in any world, where that is found
pub record_found : (rs : Option ℕ) (p : Phase) (kept : List ℕ) (source : Source) (later : List Entry)
    → record_by (Some (entry_of (left_in p kept source) ∷ later)) rs (left_in p kept to_come) ≡ first_record rs (left_in p kept source)
record_found rs p kept source later = ap (first_record rs) (found_anew_is p kept source)

-- The reader at hand.

is_at : (r : Reading) → r ≢ reading.Nothing → reading_found r ≡ Some (reader_at r)
is_at reading.Nothing busy = absurd (busy refl)
is_at reading.Standard busy = refl
is_at (reading.File r) busy = refl

leaves_is : (reader : MainReader) (left : Source) (m : MainInput) (entry : Entry) (later : List Entry) (inner : Inner)
    → leaves reader left (with_main m (found_in (entry ∷ later) inner)) ≡ with_main (left_main reader left m) (found_in later inner)
leaves_is Standard left m entry later inner = refl
leaves_is (File source) left m entry later inner = refl

stays_ended : (reader : MainReader) (left : Source) (m : MainInput) → (left_main reader left m).ended ≡ m.ended
stays_ended Standard left m = refl
stays_ended (File source) left m = refl

module _ (rs : Option ℕ) (old : Mains) (had : Source) (live : old.ended ≡ false) (busy : old.reading ≢ reading.Nothing) (later : List Entry) (outside : Outside) (inner : Inner)
    (asked : IsAsked rs inner) where
  abbrev source : Source
  source = left_in (phase_at old.reading old.standard) (kept_at old.reading old.standard) had

  abbrev before : Inner
  before = main_finding (entry_of source ∷ later) old inner

  abbrev given : Result (Inner × Main) Fault
  given = main_input outside before

  has_left : (r : Reading) → r ≢ reading.Nothing → reader_source (reader_at r) before ≡ left_at r old.standard
  has_left reading.Nothing some = absurd (some refl)
  has_left reading.Standard some = refl
  has_left (reading.File r) some = refl

  given_found : (r : Result (Got × Source) Fault) → first_record rs source ≡ r → given ≡ (r >>= λ got. got_main (next_operand outside) (reader_at old.reading) before got)
  given_found r e =
      ap (λ b. go_on b (reading_found old.reading) (next_operand outside) before) live
      ∙ ap (λ x. go_on false x (next_operand outside) before) (is_at old.reading busy)
      ∙ ap (λ x. record_by (Some (entry_of source ∷ later)) (record_separator (special_text Rs inner)) x >>= λ got. got_main (next_operand outside) (reader_at old.reading) before got)
      (has_left old.reading busy)
      ∙ ap (λ q. record_by (Some (entry_of source ∷ later)) q (left_at old.reading old.standard) >>= λ got. got_main (next_operand outside) (reader_at old.reading) before got) asked.separator
      ∙ ap (λ x. x >>= λ got. got_main (next_operand outside) (reader_at old.reading) before got)
      (record_found rs (phase_at old.reading old.standard) (kept_at old.reading old.standard) had later ∙ e)

  left_so : (left : Source) → leaves (reader_at old.reading) left before ≡ with_main (left_main (reader_at old.reading) left (main_found old)) (found_in later inner)
  left_so left = leaves_is (reader_at old.reading) left (main_found old) (entry_of source) later inner

  found_record : (text : List ℕ) (left : Source) (new : Mains) → first_record rs source ≡ Ok (Record text, left) → main_found new ≡ left_main (reader_at old.reading) left (main_found old)
      → given ≡ Ok (main_finding later new inner, Taken text)
  found_record text left new e is =
      given_found _ e ∙ ap (λ i. Ok (i, Taken text)) (left_so left) ∙ ap (λ m. Ok (with_main m (found_in later inner), Taken text)) (sym is)

  found_failure : (left : Source) (new : Mains) → first_record rs source ≡ Ok (Broken, left) → main_found new ≡ left_main (reader_at old.reading) left (main_found old)
      → given ≡ Ok (main_finding later new inner, ReadingFailed)
  found_failure left new e is =
      given_found _ e ∙ ap (λ i. Ok (i, ReadingFailed)) (left_so left) ∙ ap (λ m. Ok (with_main m (found_in later inner), ReadingFailed)) (sym is)

  found_end : (left : Source) (new : Mains) → first_record rs source ≡ Ok (AtEnd, left) → main_found new ≡ idle (left_main (reader_at old.reading) left (main_found old))
      → given ≡ main_input outside (main_finding later new inner)
  found_end left new e is =
      let m : MainInput = left_main (reader_at old.reading) left (main_found old) in
      given_found _ e ∙ ap (λ i. next_operand outside (stops_reading i)) (left_so left)
      ∙ sym (ap (λ b. go_on b None (next_operand outside) (with_main (idle m) (found_in later inner))) (stays_ended (reader_at old.reading) left (main_found old) ∙ live))
      ∙ ap (λ n. main_input outside (with_main n (found_in later inner))) (sym is)

  found_fault : (fault : Fault) → first_record rs source ≡ Err fault → given ≡ Err fault
  found_fault fault e = given_found _ e

-- what the reader at hand answers in every world is what is found
module _ (rs : Option ℕ) (old new : Mains) (live : old.ended ≡ false) (busy : old.reading ≢ reading.Nothing) (reader : Reading) (standard : Reader) where
  abbrev Hands : Result FileNext Stop → Type 0
  Hands answer = HandsAt rs old.reading old.standard answer reader standard

  -- these bytes were handed over, and then it is to come what follows
  abbrev had : (answer : Result FileNext Stop) → Hands answer → Source
  had answer h = handed h.bytes (phase_at reader standard) to_come

  abbrev finds : (answer : Result FileNext Stop) → Hands answer → List Entry
  finds answer h = entry_of (left_in (phase_at old.reading old.standard) (kept_at old.reading old.standard) (had answer h)) ∷ []

  pub record_finds : (text : List ℕ) → Hands (Ok (file.Record text)) → main_found new ≡ left_found old reader standard → FindsSomeOn rs old (Ok (Some (main.Record text))) new
  record_finds text h is = (
    finds (Ok (file.Record text)) h,
    λ later outside inner asked. found_record rs old (had (Ok (file.Record text)) h) live busy later outside inner asked text (left_at reader standard) new (h.answers to_come) is,
  )

  pub end_finds : Hands (Ok file.End) → main_found new ≡ idle (left_found old reader standard) → FindsSomeOn rs old (Ok None) new
  end_finds h is = (
    finds (Ok file.End) h,
    λ later outside inner asked. found_end rs old (had (Ok file.End) h) live busy later outside inner asked (left_at reader standard) new (h.answers to_come) is,
  )

  pub failure_finds : Hands (Ok file.Failed) → main_found new ≡ left_found old reader standard → FindsSomeOn rs old (Err (IsFault ReadFailed)) new
  failure_finds h is = (
    finds (Ok file.Failed) h,
    λ later outside inner asked. found_failure rs old (had (Ok file.Failed) h) live busy later outside inner asked (left_at reader standard) new (h.answers to_come) is,
  )

  pub refusal_finds : (stop : Stop) → OnlyLimit {A = FileNext} (Err stop) → Hands (Err stop) → FindsSomeOn rs old (Err stop) new
  refusal_finds (IsFault fault) limit h = (
    finds (Err (IsFault fault)) h,
    λ later outside inner asked. limit_found _ _ fault limit (found_fault rs old (had (Err (IsFault fault)) h) live busy later outside inner asked fault (h.answers to_come).0),
  )
    where
      limit_found : (given : Result (Inner × Main) Fault) (new : Inner) (f : Fault) → f ≡ TextLimit → given ≡ Err f → FaultFound given f new
      limit_found given new f e is = subst (λ (x : Fault). FaultFound given x new) (sym e) (is ∙ ap (λ x. Err x) e)
  refusal_finds NoMemory limit h = ([], λ later outside inner asked. tt)

-- nothing is read any more, and the standard input may have been given up
pub found_rest : (old new : Mains) → new.reading ≡ reading.Nothing → new.ended ≡ old.ended → new.next ≡ old.next → new.found ≡ old.found
    → main_found new ≡ record (idle (main_found old)) { standard = left new.standard to_come }
found_rest old new nothing ended next found =
    ap (λ r. record (main_found new) { reading = reading_found r }) nothing
    ∙ ap (λ b. record (main_found new) { reading = None; ended = b }) ended
    ∙ ap (λ n. record (main_found new) { reading = None; ended = old.ended; next = n }) next
    ∙ ap (λ f. record (main_found new) { reading = None; ended = old.ended; next = old.next; operands = operands_of f }) found

-- the file that was read is closed
pub found_idle : (old new : Mains) → new.reading ≡ reading.Nothing → new.ended ≡ old.ended → new.next ≡ old.next → new.found ≡ old.found → new.standard ≡ old.standard
    → main_found new ≡ idle (main_found old)
found_idle old new nothing ended next found standard =
    found_rest old new nothing ended next found ∙ ap (λ r. record (idle (main_found old)) { standard = left r to_come }) standard

-- An operand, or what follows the operands.

pub rests_found : (m : Mains) → m.reading ≡ reading.Nothing → m.ended ≡ false → main_found m ≡ resting (left m.standard to_come) m.next m.found
rests_found m nothing live = rests m coming nothing live

-- a file is opened
module _ (old new : Mains) (name : List ℕ) (live : old.ended ≡ false) (plain : name ≢ []) (none : assignment_of name ≡ None)
    (opens : reader_of (λ target. entry_of_reading new.reading) name ≡ reading_found new.reading) (next : new.next ≡ old.next + 1) (found : new.found ≡ found.SomeFile)
    (ended : new.ended ≡ old.ended) (same : new.standard ≡ old.standard) where
  abbrev standard : Source
  standard = left old.standard to_come

  pub file_found : main_found new ≡ record { standard = standard; next = old.next + 1; operands = SomeFile; reading = reading_found new.reading; ended = false }
  file_found =
      ap (λ r. record { standard = left r to_come; next = new.next; operands = operands_of new.found; reading = reading_found new.reading; ended = new.ended }) same
      ∙ ap (λ n. record { standard = standard; next = n; operands = operands_of new.found; reading = reading_found new.reading; ended = new.ended }) next
      ∙ ap (λ f. record { standard = standard; next = old.next + 1; operands = operands_of f; reading = reading_found new.reading; ended = new.ended }) found
      ∙ ap (λ b. record { standard = standard; next = old.next + 1; operands = SomeFile; reading = reading_found new.reading; ended = b }) (ended ∙ live)

  passed_found : passed (main_found old) ≡ record { standard = standard; next = old.next + 1; operands = operands_of old.found; reading = reading_found old.reading; ended = false }
  passed_found = ap (λ b. record { standard = standard; next = old.next + 1; operands = operands_of old.found; reading = reading_found old.reading; ended = b }) live

  pub open_finds : new.reading ≢ reading.Nothing → FindsOperand name old (Ok (Some (main.Opened name))) new
  open_finds busy = λ later outside inner. by name plain none opens later outside inner
    where
      by : (text : List ℕ) → text ≢ [] → assignment_of text ≡ None → reader_of (λ target. entry_of_reading new.reading) text ≡ reading_found new.reading
          → FindsOperand text old (Ok (Some (main.Opened text))) new
      by [] plain none opens later outside inner = absurd (plain refl)
      by (c ∷ cs) plain none opens later outside inner =
          let entry : Entry = entry_of_reading new.reading in
          ap (λ m. taken (rest_of m outside) outside (c ∷ cs) (with_main m (found_in (entry ∷ later) inner))) passed_found
          ∙ opens_at outside (found_in (entry ∷ later) inner) standard (old.next + 1) (operands_of old.found) (reading_found old.reading) (c ∷ cs) (reader_at new.reading) plain none
          (opens ∙ is_at new.reading busy)
          ∙ ap (λ r. main_input outside (begun (c ∷ cs) (with_main (record { standard = standard; next = old.next + 1; operands = SomeFile; reading = r; ended = false }) (found_in later inner))))
          (sym (is_at new.reading busy))
          ∙ ap (λ m. main_input outside (begun (c ∷ cs) (with_main m (found_in later inner)))) (sym file_found)

  pub no_file_finds : old.reading ≡ reading.Nothing → new.reading ≡ reading.Nothing → FindsOperand name old (Err (IsFault OpenInput)) new
  no_file_finds idle nothing = λ later outside inner.
      opens_not outside (found_in (shut ∷ later) inner) (passed (main_found old)) name plain none
      (ap (λ r. reader_of (λ target. entry_of_reading r) name) (sym nothing) ∙ opens ∙ ap reading_found nothing)
      ∙ ap (λ m. Ok (with_main (with_file m) (found_in later inner), NotOpened)) passed_found
      ∙ ap (λ r. Ok (with_main (record { standard = standard; next = old.next + 1; operands = SomeFile; reading = r; ended = false }) (found_in later inner), NotOpened))
      (ap reading_found idle ∙ sym (ap reading_found nothing))
      ∙ ap (λ m. Ok (with_main m (found_in later inner), NotOpened)) (sym file_found)

-- an empty operand is skipped
pub skip_finds : (old new : Mains) (text : List ℕ) → old.reading ≡ reading.Nothing → old.ended ≡ false → old.found ≢ found.NoneLeft → text ≡ [] → new ≡ record old { next = old.next + 1 }
    → FindsOperand text old (Ok None) new
skip_finds old new text nothing live some none is = λ later outside inner.
    let at : passed (main_found old) ≡ resting (left old.standard to_come) (old.next + 1) old.found = ap passed (rests_found old nothing live) in
    ap (λ m. taken (rest_of m outside) outside text (with_main m (found_in later inner))) at
    ∙ skips_at outside (found_in later inner) (left old.standard to_come) (old.next + 1) old.found some text none
    ∙ ap (λ m. main_input outside (with_main m (found_in later inner))) (sym at)
    ∙ ap (λ n. main_input outside (main_finding later n inner)) (sym is)

pub found_later : (wanted later : Result (Inner × Main) Fault) (r : Result (Option MainNext) Stop) (outside : Outside) (new : Inner) → wanted ≡ later → StepFound later r outside new → StepFound wanted r outside new
found_later wanted later r outside new e h = subst (λ (x : Result (Inner × Main) Fault). StepFound x r outside new) (sym e) h

-- a step that gave nothing, and then more
pub found_since : (outside : Outside) (wanted : Result (Inner × Main) Fault) (new : Inner) {o : Option MainNext} → o ≡ None → StepFound wanted (Ok o) outside new → wanted ≡ main_input outside new
found_since outside wanted new e h = subst (λ x. StepFound wanted (Ok x) outside new) e h

-- ARGC is no number
pub number_found : (wanted : Result (Inner × Main) Fault) (fault : Fault) (new : Inner) → IsOfNumber fault → wanted ≡ Err fault → FaultFound wanted fault new
number_found wanted fault new (inl e) is = subst (λ (x : Fault). FaultFound wanted x new) (sym e) (is ∙ ap (λ x. Err x) e)
number_found wanted fault new (inr e) is = subst (λ (x : Fault). FaultFound wanted x new) (sym e) (is ∙ ap (λ x. Err x) e)

-- what follows the operands takes nothing of what is found
pub follow_finds : (outside : Outside) (m : MainInput) (answer : Result (Option MainNext) Stop) (new : Mains) (inner : Inner) (later : List Entry) (f g : Found) → FollowsAll f answer g
    → ((finds : List Entry) → main_input outside (with_main m (found_in finds inner)) ≡ follows m.operands (with_main m (found_in finds inner)))
    → StepFound (follows m.operands (with_main m (found_in later inner))) answer outside (main_finding later new inner)
    → StepFound (main_input outside (with_main m (found_in (found_by_operand answer new.reading ++ later) inner))) answer outside (main_finding later new inner)
follow_finds outside m (Ok None) new inner later f g h reaches is = absurd h
follow_finds outside m (Ok (Some (main.Record text))) new inner later f g h reaches is = absurd h
follow_finds outside m (Ok (Some (main.Assign name text))) new inner later f g h reaches is = absurd h
follow_finds outside m (Ok (Some (main.Opened name))) new inner later f g h reaches is =
    ap (λ (n : List ℕ). main_input outside (with_main m (found_in (found_by_name n new.reading ++ later) inner))) h.0 ∙ reaches later ∙ is
follow_finds outside m (Ok (Some main.End)) new inner later f g h reaches is = reaches later ∙ is
follow_finds outside m (Err (IsFault fault)) new inner later f g h reaches is = absurd h
follow_finds outside m (Err NoMemory) new inner later f g h reaches is = tt

-- Some steps that gave nothing, and then one more.
abbrev pub FoundSoFar : Option ℕ → Value → (ℕ → List ℕ) → Mains → Mains → Type 0
FoundSoFar rs argc texts first old = (found : List Entry) × ((later : List Entry) (outside : Outside) (inner : Inner) → IsAsked rs inner → IsOffered argc texts inner
    → main_input outside (main_finding (found ++ later) first inner) ≡ main_input outside (main_finding later old inner))

pub found_on : (rs : Option ℕ) (argc : Value) (texts : ℕ → List ℕ) (first old new : Mains) {o : Option MainNext} → o ≡ None → FoundSoFar rs argc texts first old → FindsStep rs argc texts old (Ok o) new
    → FoundSoFar rs argc texts first new
found_on rs argc texts first old new e before step = (
  before.0 ++ step.0,
  λ later outside inner asked offered. ap (λ finds. main_input outside (main_finding finds first inner)) (append_assoc before.0 step.0 later)
      ∙ before.1 (step.0 ++ later) outside inner asked offered ∙ found_since outside _ _ e (step.1 later outside inner asked offered),
)

pub finds_since : (rs : Option ℕ) (argc : Value) (texts : ℕ → List ℕ) (first old new : Mains) (answer : Result (Option MainNext) Stop) → FoundSoFar rs argc texts first old → FindsStep rs argc texts old answer new
    → FindsStep rs argc texts first answer new
finds_since rs argc texts first old new answer before step = (
  before.0 ++ step.0,
  λ later outside inner asked offered. found_later _ _ answer outside _
      (ap (λ finds. main_input outside (main_finding finds first inner)) (append_assoc before.0 step.0 later) ∙ before.1 (step.0 ++ later) outside inner asked offered)
      (step.1 later outside inner asked offered),
)

-- the end is told again
pub ended_finds : (rs : Option ℕ) (argc : Value) (texts : ℕ → List ℕ) (m : Mains) → m.ended ≡ true → FindsStep rs argc texts m (Ok (Some main.End)) m
ended_finds rs argc texts m ended =
    ([], λ later outside inner asked offered. ap (λ b. go_on b (reading_found m.reading) (next_operand outside) (main_finding later m inner)) ended)
