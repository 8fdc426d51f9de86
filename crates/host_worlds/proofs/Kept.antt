-- Where a record goes, as the definition has it.
use Rattle.std.proofs.Common.{◌≡◌, ℕ, List, false, Result, Ok, Err, refl, ap, subst, sym, ◌∙◌}
use Rattle.awk_values.specs.declared.fault.Fault.{Fault}
use Rattle.awk_values.specs.declared.fault.Stop.{Stop}
use Rattle.awk_values.specs.declared.fault.Stop.TheVariants.{Fault as IsFault, NoMemory}
use Rattle.world_core.specs.WorldState.{Outside}
use Rattle.sem_primitives.specs.InputMeaning.{counted_record, getline_by}
use Rattle.sem_primitives.specs.MainInput.{main_input}
use Rattle.sem_primitives.specs.InputParts.{Taken}
use Rattle.sem_primitives.specs.SharedState.{Inner, ◌>>=◌}
use Rattle.sem_primitives.specs.declared.answers.InputAnswer.{InputAnswer}
use Rattle.sem_primitives.specs.declared.answers.InputAnswer.TheVariants.{Read}
use Rattle.host_bytes.specs.Outcomes.{IsStopOf}
use Rattle.host_worlds.specs.Givens.{GivesMain, RowGives, answer_of, is_over, kept_by, main_of_given, main_row}
use Rattle.host_worlds.specs.Keeps.{keep_of}
use Rattle.host_worlds.specs.declared.input.Given.{Given}
use Rattle.host_worlds.specs.declared.input.ReadInto.{ReadInto}
use Rattle.host_worlds.specs.declared.input.ReadInto.TheVariants.{Variable, Record}
use Rattle.host_worlds.specs.declared.input.MainRead.{MainRead}
use Rattle.host_worlds.specs.declared.input.MainRead.TheVariants.{Loop, Getline}

pub stop_then : {A B : Type 0} (r : Result A Fault) (f : A → Result B Fault) (stop : Stop) → IsStopOf r stop → IsStopOf (r >>= f) stop
stop_then r f (IsFault fault) e = ap (λ y. y >>= f) e
stop_then r f NoMemory e = tt

pub stop_gives : (wanted : Result (Inner × InputAnswer) Fault) (stop : Stop) (new : Inner) → IsStopOf wanted stop → RowGives wanted (Err stop) new
stop_gives wanted (IsFault fault) new e = e
stop_gives wanted NoMemory new e = tt

-- a record is counted, and then kept
taken : (how : MainRead) (text : List ℕ) (i : Inner) → answer_of how (i, Taken text) ≡ (counted_record i >>= λ j. kept_by (keep_of how) text j)
taken Loop text i = refl
taken (Getline to) text i = refl

module _ (how : MainRead) (text : List ℕ) (i : Inner) where
  pub taken_fault : (fault : Fault) → counted_record i ≡ Err fault → answer_of how (i, Taken text) ≡ Err fault
  taken_fault fault e = taken how text i ∙ ap (λ r. r >>= λ j. kept_by (keep_of how) text j) e

  taken_by : (to : ReadInto) (j : Inner) → to ≡ keep_of how → counted_record i ≡ Ok j → answer_of how (i, Taken text) ≡ kept_by to text j
  taken_by to j same e = taken how text i ∙ ap (λ r. r >>= λ j. kept_by (keep_of how) text j) e ∙ ap (λ k. kept_by k text j) (sym same)

  pub taken_ok : (to : ReadInto) (j k : Inner) → to ≡ keep_of how → counted_record i ≡ Ok j → kept_by to text j ≡ Ok (k, Read) → answer_of how (i, Taken text) ≡ Ok (k, Read)
  taken_ok to j k same e h = taken_by to j same e ∙ h

  pub taken_stops : (to : ReadInto) (j : Inner) (stop : Stop) → to ≡ keep_of how → counted_record i ≡ Ok j → IsStopOf (kept_by to text j) stop → IsStopOf (answer_of how (i, Taken text)) stop
  taken_stops to j stop same e h = subst (λ r. IsStopOf r stop) (sym (taken_by to j same e)) h

-- what the main input gives is answered
row_is : (how : MainRead) (outside : Outside) (inner : Inner) → is_over how inner.in_end ≡ false → main_row how outside inner ≡ (main_input outside inner >>= λ x. answer_of how x)
row_is Loop outside inner e = refl
row_is (Getline Record) outside inner e = ap (λ b. getline_by b (kept_by Record) outside inner) e
row_is (Getline Variable) outside inner e = ap (λ b. getline_by b (kept_by Variable) outside inner) e

module _ (how : MainRead) (outside : Outside) (inner : Inner) where
  pub given_gives : (given : Given) (mid new : Inner) (r : Result InputAnswer Stop) → is_over how inner.in_end ≡ false → main_input outside inner ≡ Ok (mid, main_of_given given)
      → RowGives (answer_of how (mid, main_of_given given)) r new → RowGives (main_row how outside inner) r new
  given_gives given mid new r e is h = subst (λ w. RowGives w r new) (sym (row_is how outside inner e ∙ ap (λ y. y >>= λ x. answer_of how x) is)) h

  pub stop_row : (stop : Stop) (new : Inner) → is_over how inner.in_end ≡ false → GivesMain (main_input outside inner) (Err stop) new → RowGives (main_row how outside inner) (Err stop) new
  stop_row (IsFault fault) new e is = row_is how outside inner e ∙ ap (λ y. y >>= λ x. answer_of how x) is
  stop_row NoMemory new e is = tt
