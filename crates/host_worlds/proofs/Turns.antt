-- One turn of the main input, as the definition has it.
use Rattle.std.proofs.Common.{◌≡◌, ◌≢◌, ℕ, ℤ, ◌+◌, ◌*◌, ◌-◌, ◌^◌, ◌<◌, ◌≤◌, nat_le, List, Bool, true, false, Option, Some, None, Result, Ok, Err, inl, inr, refl, sym, ap, subst, ◌∙◌, arith}
use Rattle.std.specs.Prelude.{◌&&◌}
use Rattle.std.proofs.lemmas.Bool.{leb-true}
use Rattle.awk_values.specs.declared.fault.Fault.{Fault}
use Rattle.awk_values.specs.declared.fault.Fault.TheVariants.{Range, Fraction, DivisionByZero, Inexact, FieldNumber, Format, BadEre, EreTooLarge, TextLimit, OpenInput, ReadFailed, OpenOutput, WriteFailed, TooManyStreams, NextOutside, BadAssignment}
use Rattle.awk_values.specs.declared.fault.Stop.{Stop}
use Rattle.awk_values.specs.declared.fault.Stop.TheVariants.{Fault as IsFault, NoMemory}
use Rattle.world_core.specs.WorldState.{Outside}
use Rattle.sem_primitives.specs.Assignments.{assigned}
use Rattle.sem_primitives.specs.MainInput.{go_on, made, main_input, next_operand, reach, reach_by}
use Rattle.sem_primitives.specs.InputParts.{Main, Pending as IsPending}
use Rattle.sem_primitives.specs.SharedState.{Inner, ◌>>=◌}
use Rattle.host_bytes.specs.Outcomes.{IsStopOf}
use Rattle.host_streams.specs.MainFinds.{FaultFound, StepFound, as_step, reading_found}
use Rattle.host_streams.specs.Mains.{AnswerIs, FaultIs, MainEnds, has_operand, operands_of, reading_of, rest_of}
use Rattle.host_streams.specs.Passing.{AreThere, Passes, RestsAfter, Takes}
use Rattle.host_streams.specs.declared.main_input.Found.{Found}
use Rattle.host_streams.specs.declared.main_input.Found.TheVariants as found
use Rattle.host_streams.specs.declared.main_input.MainInput.{MainInput as Mains}
use Rattle.host_streams.specs.declared.main_input.MainNext.{MainNext}
use Rattle.host_streams.specs.declared.main_input.MainNext.TheVariants.{Record, Assign, Opened, End}
use Rattle.host_streams.specs.declared.main_input.Reading.TheVariants as reading
use Rattle.host_texts.specs.NameForms.{with_pending as names_pending}
use Rattle.host_texts.specs.declared.names.Names.{Names}
use Rattle.host_worlds.specs.Givens.{AssignLive, GivesMain, NextPasses, TurnGives, faulted_by, stopped_by, may_follow}
use Rattle.host_worlds.specs.Keeps.{IsMoved, with_main_input, with_pending}
use Rattle.host_worlds.specs.States.{Around, Finding, Over, main_by}
use Rattle.host_worlds.specs.declared.input.Given.{Given}
use Rattle.host_worlds.specs.declared.input.Input.{Input}

-- What is left to do.

weight_most : (f : Found) → may_follow f ≤ 1
weight_most found.NoFile = omega arith
weight_most found.SomeFile = omega arith
weight_most found.NoneLeft = omega arith

both_left : (a b : Bool) → (a && b) ≡ true → a ≡ true
both_left true b e = refl
both_left false b e = cc

abbrev bool_or : Bool → Result Bool Fault → Bool
bool_or other (Ok b) = b
bool_or other (Err fault) = other

operand_within : (n : ℕ) (count : Result ℤ Fault) → has_operand n count ≡ Ok true → n ≤ 2 ^ 20
operand_within n (Ok z) e = leb-true n (2 ^ 20) (both_left (nat_le n (2 ^ 20)) _ (ap (bool_or false) e))
operand_within n (Err fault) e = cc

less_left : (n m : ℕ) (f g : Found) → n < m → n ≤ 2 ^ 20 → 2 * (2 ^ 20 + 1 - m) + may_follow g < 2 * (2 ^ 20 + 1 - n) + may_follow f
less_left n m f g less within =
    let most = weight_most g in
    omega (arith, less, within, most)

takes_less : (texts : ℕ → List ℕ) (count : Result ℤ Fault) (n m : ℕ) (f g : Found) (text : List ℕ) → Takes texts n f text m → AreThere count n m → 2 * (2 ^ 20 + 1 - m) + may_follow g < 2 * (2 ^ 20 + 1 - n) + may_follow f
takes_less texts count n m f g text t there =
    let low = t.skips.order in
    let next = t.next in
    let within = operand_within t.at count (there t.at low (omega (arith, next))) in
    less_left n m f g (omega (arith, low, next)) (omega (arith, low, within))

pub next_passes : (texts : ℕ → List ℕ) (count : Result ℤ Fault) (old new : Mains) (r : Result MainNext Stop) → Passes texts old.next old.found r new.next new.found → AreThere count old.next new.next → NextPasses old r new
next_passes texts count old new (Ok (Record text)) p there = tt
next_passes texts count old new (Ok (Assign name text)) p there = takes_less texts count old.next new.next old.found new.found p.0 p.1 there
next_passes texts count old new (Ok (Opened name)) (inl p) there = takes_less texts count old.next new.next old.found new.found name p.0.takes there
next_passes texts count old new (Ok (Opened name)) (inr p) there = last_left old.next new.next old.found new.found p.0.order p.2 p.3
  where
    last_left : (n m : ℕ) (f g : Found) → n ≤ m → f ≡ found.NoFile → g ≡ found.NoneLeft → 2 * (2 ^ 20 + 1 - m) + may_follow g < 2 * (2 ^ 20 + 1 - n) + may_follow f
    last_left n m f g le a b =
        let first = ap may_follow a in
        let last = ap may_follow b in
        omega (arith, le, first, last)
next_passes texts count old new (Ok End) p there = tt
next_passes texts count old new (Err stop) p there = tt

-- An assignment is told before the end.

pub assign_live : (was : Bool) (r : Result MainNext Stop) (m : Mains) → MainEnds was r m.ended → AssignLive r m
assign_live was (Ok (Record text)) m h = tt
assign_live was (Ok (Assign name text)) m h = h.1
assign_live was (Ok (Opened name)) m h = tt
assign_live was (Ok End) m h = tt
assign_live was (Err stop) m h = tt

-- what is told, as what it is
pub next_told : {a : MainNext} (b : MainNext) (given : Result (Inner × Main) Fault) (outside : Outside) (old new : Inner) → a ≡ b → AnswerIs given (Ok a) outside old new → AnswerIs given (Ok b) outside old new
next_told b given outside old new e h = subst (λ (x : MainNext). AnswerIs given (Ok x) outside old new) e h

-- Faults.

faulted_gives : (fault : Fault) (given : Result (Inner × Main) Fault) (outside : Outside) (new : Inner) → FaultIs given fault outside new → TurnGives given (faulted_by fault) outside new
faulted_gives Range given outside new h = h.0
faulted_gives Fraction given outside new h = h.0
faulted_gives DivisionByZero given outside new h = h.0
faulted_gives Inexact given outside new h = h.0
faulted_gives FieldNumber given outside new h = h.0
faulted_gives Format given outside new h = h.0
faulted_gives BadEre given outside new h = h.0
faulted_gives EreTooLarge given outside new h = h.0
faulted_gives TextLimit given outside new h = h.0
faulted_gives OpenInput given outside new h = h
faulted_gives ReadFailed given outside new h = h
faulted_gives OpenOutput given outside new h = h.0
faulted_gives WriteFailed given outside new h = h.0
faulted_gives TooManyStreams given outside new h = h.0
faulted_gives NextOutside given outside new h = h.0
faulted_gives BadAssignment given outside new h = h.0

-- After an assignment that was made, the operands go on.

pub goes_on : (outside : Outside) (m : Mains) (around : Around) (inner : Inner) → inner.main ≡ main_by m around → m.ended ≡ false → m.reading ≡ reading.Nothing → m.found ≢ found.NoneLeft
    → rest_of (main_by m around) outside inner ≡ main_input outside inner
goes_on outside m around inner same live nothing some =
    sym (ap (λ x. go_on x.ended x.reading (next_operand outside) inner) same
    ∙ at_rest around live nothing ∙ ap (λ x. reach_by x.operands outside inner) same ∙ operands_at around ∙ by m.found some)
  where
    at_rest : (a : Around) → m.ended ≡ false → m.reading ≡ reading.Nothing → go_on (main_by m a).ended (main_by m a).reading (next_operand outside) inner ≡ next_operand outside inner
    at_rest (Over state) live nothing =
        ap (λ b. go_on b (reading_of m.reading state) (next_operand outside) inner) live ∙ ap (λ r. go_on false (reading_of r state) (next_operand outside) inner) nothing
    at_rest (Finding finds) live nothing =
        ap (λ b. go_on b (reading_found m.reading) (next_operand outside) inner) live ∙ ap (λ r. go_on false (reading_found r) (next_operand outside) inner) nothing

    operands_at : (a : Around) → reach_by (main_by m a).operands outside inner ≡ reach_by (operands_of m.found) outside inner
    operands_at (Over state) = refl
    operands_at (Finding finds) = refl

    by : (f : Found) → f ≢ found.NoneLeft → reach_by (operands_of f) outside inner ≡ rest_of (main_by m around) outside inner
    by found.NoFile h = ap (λ x. reach (2 ^ 20 + 1 - x.next) outside inner) same
    by found.SomeFile h = ap (λ x. reach (2 ^ 20 + 1 - x.next) outside inner) same
    by found.NoneLeft h = absurd (h refl)

-- an assignment is made here, is pending, or faults
module _ (given : Result (Inner × Main) Fault) (on : Inner → Result (Inner × Main) Fault) (name text : List ℕ) (inner new : Inner) (is : given ≡ (assigned name text inner >>= λ x. made on x)) where
  pub assign_made : assigned name text inner ≡ Ok (new, false) → given ≡ on new
  assign_made e = is ∙ ap (λ r. r >>= λ x. made on x) e

  pub assign_pends : assigned name text inner ≡ Ok (new, true) → given ≡ Ok (new, IsPending)
  assign_pends e = is ∙ ap (λ r. r >>= λ x. made on x) e

  pub assign_stops : (stop : Stop) → IsStopOf (assigned name text inner) stop → GivesMain given (Err stop) new
  assign_stops (IsFault fault) e = is ∙ ap (λ r. r >>= λ x. made on x) e
  assign_stops NoMemory e = tt

-- Turns as they are told.

pub turn_some : {o : Option Given} (given : Given) (wanted : Result (Inner × Main) Fault) (outside : Outside) (new : Inner) → o ≡ Some given → TurnGives wanted (Ok o) outside new → GivesMain wanted (Ok given) new
turn_some given wanted outside new e h = subst (λ (x : Option Given). TurnGives wanted (Ok x) outside new) e h

pub turn_none : {o : Option Given} (wanted : Result (Inner × Main) Fault) (outside : Outside) (new : Inner) → o ≡ None → TurnGives wanted (Ok o) outside new → wanted ≡ main_input outside new
turn_none wanted outside new e h = subst (λ (x : Option Given). TurnGives wanted (Ok x) outside new) e h

pub moved_on : (first now then : Input) → IsMoved first now → IsMoved now then → IsMoved first then
moved_on first now then a b = b ∙ ap (λ x. with_pending then.names.pending (with_main_input then.main x)) a

pub renamed : (n t name text : List ℕ) (b d : Bool) (inner new : Inner) → n ≡ name → t ≡ text → b ≡ d → assigned n t inner ≡ Ok (new, b) → assigned name text inner ≡ Ok (new, d)
renamed n t name text b d inner new a f g e =
    ap (λ x. assigned x text inner) (sym a) ∙ ap (λ y. assigned n y inner) (sym f) ∙ e ∙ ap (λ x. Ok (new, x)) g

pub renamed_stop : (n t name text : List ℕ) (inner : Inner) (stop : Stop) → n ≡ name → t ≡ text → IsStopOf (assigned n t inner) stop → IsStopOf (assigned name text inner) stop
renamed_stop n t name text inner stop a f h = subst (λ x. IsStopOf (assigned x text inner) stop) a (subst (λ y. IsStopOf (assigned n y inner) stop) f h)

pub told_live : {a : MainNext} (name text : List ℕ) (m : Mains) → a ≡ Assign name text → AssignLive (Ok a) m → m.ended ≡ false
told_live name text m e h = subst (λ (x : MainNext). AssignLive (Ok x) m) e h

pub told_rests : {a : MainNext} (name text : List ℕ) (m : Mains) → a ≡ Assign name text → RestsAfter (Ok a) m.reading m.found → (m.reading ≡ reading.Nothing) × (m.found ≢ found.NoneLeft)
told_rests name text m e h = subst (λ (x : MainNext). RestsAfter (Ok x) m.reading m.found) e h

pub stopped_gives : (stop : Stop) (given : Result (Inner × Main) Fault) (outside : Outside) (old new : Inner) → AnswerIs given (Err stop) outside old new → TurnGives given (stopped_by stop) outside new
stopped_gives (IsFault fault) given outside old new h = faulted_gives fault given outside new h
stopped_gives NoMemory given outside old new h = tt

-- The same where others change what names hold too.

pub next_found : {a : MainNext} (b : MainNext) (given : Result (Inner × Main) Fault) (outside : Outside) (new : Inner) → a ≡ b → StepFound given (as_step (Ok a)) outside new → StepFound given (as_step (Ok b)) outside new
next_found b given outside new e h = subst (λ (x : MainNext). StepFound given (as_step (Ok x)) outside new) e h

fault_found : (fault : Fault) (given : Result (Inner × Main) Fault) (outside : Outside) (new : Inner) → FaultFound given fault new → TurnGives given (faulted_by fault) outside new
fault_found Range given outside new h = h
fault_found Fraction given outside new h = h
fault_found DivisionByZero given outside new h = h
fault_found Inexact given outside new h = h
fault_found FieldNumber given outside new h = h
fault_found Format given outside new h = h
fault_found BadEre given outside new h = h
fault_found EreTooLarge given outside new h = h
fault_found TextLimit given outside new h = h
fault_found OpenInput given outside new h = h
fault_found ReadFailed given outside new h = h
fault_found OpenOutput given outside new h = h
fault_found WriteFailed given outside new h = h
fault_found TooManyStreams given outside new h = h
fault_found NextOutside given outside new h = h
fault_found BadAssignment given outside new h = h

pub stop_found : (stop : Stop) (given : Result (Inner × Main) Fault) (outside : Outside) (new : Inner) → StepFound given (as_step (Err stop)) outside new → TurnGives given (stopped_by stop) outside new
stop_found (IsFault fault) given outside new h = fault_found fault given outside new h
stop_found NoMemory given outside new h = tt

-- where the main input alone changes
pub moved_main : (old new : Input) → new ≡ with_main_input new.main old → IsMoved old new
moved_main old new is = is ∙ ap (λ p. with_pending p (with_main_input new.main old)) (sym (ap (λ (i : Input). i.names.pending) is))

-- and what is pending
pub moved_names : (old mid : Input) (n : Names) → mid ≡ with_main_input mid.main old → n ≡ names_pending n.pending mid.names → IsMoved old (record mid { names = n })
moved_names old mid n main is = ap (λ (m : Names). record mid { names = m }) is ∙ ap (with_pending n.pending) main
