-- Operands that are passed, one after the other.
use Rattle.std.proofs.Common.{◌≡◌, ◌≢◌, ℕ, ◌+◌, ◌<◌, ◌≤◌, ℤ, List, [], Bool, true, false, Option, Some, None, Result, Ok, Err, refl, sym, ap, ◌∙◌, ◌⊎◌, inl, inr, subst, arith}
use Rattle.std.proofs.lemmas.Bool.{cases_lt}
use Rattle.awk_values.specs.declared.fault.Fault.{Fault}
use Rattle.awk_values.specs.declared.fault.Fault.TheVariants.{OpenInput, ReadFailed, TextLimit}
use Rattle.host_streams.specs.declared.main_input.Found.{Found}
use Rattle.awk_values.specs.declared.fault.Stop.{Stop}
use Rattle.awk_values.specs.declared.fault.Stop.TheVariants.{Fault as IsFault, NoMemory}
use Rattle.host_streams.specs.declared.main_input.Found.TheVariants.{NoFile, SomeFile, NoneLeft}
use Rattle.host_streams.specs.declared.main_input.MainNext.{MainNext}
use Rattle.host_streams.specs.declared.main_input.MainNext.TheVariants.{Record, Assign, Opened, End}
use Rattle.host_streams.specs.declared.main_input.MainInput.{MainInput as Mains}
use Rattle.host_streams.specs.declared.main_input.Reading.{Reading}
use Rattle.host_streams.specs.declared.main_input.Reading.TheVariants as reading
use Rattle.host_streams.specs.declared.reader.Reader.{Reader}
use Rattle.host_streams.specs.Mains.{IsOfNumber, has_operand}
use Rattle.host_streams.specs.declared.reader.FileNext.{FileNext}
use Rattle.host_streams.specs.Readers.{OnlyLimit}
use Rattle.host_streams.specs.Passing.{AreThere, FollowsAll, HandsMain, HandsStep, IdleAfter, IsAtEnd, IsNotRead, IsOfOperands, IsOfReader, NoRecord, NoneMore, Passes, ReadsAt, Skips, StandardStays, StepNoneMore, StepPasses, Takes, TakesFile}

pub none_skipped : (texts : ℕ → List ℕ) (n : ℕ) → Skips texts n n
none_skipped texts n = record { order = omega arith; empty = λ k low high. absurd (omega arith) }

pub one_skipped : (texts : ℕ → List ℕ) (n : ℕ) → texts n ≡ [] → Skips texts n (n + 1)
one_skipped texts n e = record {
  order = omega arith;
  empty = λ k low high. let here : n ≡ k = omega arith in subst (λ (i : ℕ). texts i ≡ []) here e;
}

pub one_taken : (texts : ℕ → List ℕ) (n : ℕ) (found : Found) (text : List ℕ) → texts n ≡ text → found ≢ NoneLeft → Takes texts n found text (n + 1)
one_taken texts n found text e left = record { at = n; skips = none_skipped texts n; found_at = e; next = refl; left = left }

pub one_there : (count : Result ℤ Fault) (n m : ℕ) → has_operand n count ≡ Ok true → m ≤ n + 1 → AreThere count n m
one_there count n m e within = λ k low high. let here : n ≡ k = omega arith in subst (λ (i : ℕ). has_operand i count ≡ Ok true) here e

pub none_there : (count : Result ℤ Fault) (n m : ℕ) → m ≤ n → AreThere count n m
none_there count n m within = λ k low high. absurd (omega arith)

-- what follows the operands
pub follow_passes : (texts : ℕ → List ℕ) (f g : Found) (n m : ℕ) (answer : Result (Option MainNext) Stop) → m ≡ n → FollowsAll f answer g → StepPasses texts n f answer m g
follow_passes texts f g n m answer e h = subst (λ (k : ℕ). StepPasses texts n f answer k g) (sym e) (here answer h)
  where
    here : (r : Result (Option MainNext) Stop) → FollowsAll f r g → StepPasses texts n f r n g
    here (Ok None) h = absurd h
    here (Ok (Some (Record text))) h = absurd h
    here (Ok (Some (Assign name text))) h = absurd h
    here (Ok (Some (Opened name))) h = inr (none_skipped texts n, h.0, h.1, h.2)
    here (Ok (Some End)) h = (none_skipped texts n, h.1)
    here (Err (IsFault fault)) h = absurd h
    here (Err NoMemory) h = (none_skipped texts n, h)

last_left : (count : Result ℤ Fault) (f : Found) (m : ℕ) → (f ≢ NoneLeft → has_operand m count ≡ Ok false) → f ≢ NoFile → (f ≡ NoneLeft) ⊎ ((f ≡ SomeFile) × (has_operand m count ≡ Ok false))
last_left count NoFile m none named = absurd (named refl)
last_left count SomeFile m none named = inr (refl, none (λ e. cc))
last_left count NoneLeft m none named = inl refl

pub follow_more : (count : Result ℤ Fault) (f g : Found) (m : ℕ) (answer : Result (Option MainNext) Stop) → (f ≢ NoneLeft → has_operand m count ≡ Ok false) → FollowsAll f answer g → StepNoneMore count false f answer m g
follow_more count f g m (Ok None) none h = absurd h
follow_more count f g m (Ok (Some (Record text))) none h = absurd h
follow_more count f g m (Ok (Some (Assign name text))) none h = absurd h
follow_more count f g m (Ok (Some (Opened name))) none h = λ left. none (λ e. let same : NoFile ≡ NoneLeft = sym h.1 ∙ e in cc)
follow_more count f g m (Ok (Some End)) none h = inr (last_left count f m none h.0)
follow_more count f g m (Err (IsFault fault)) none h = absurd h
follow_more count f g m (Err NoMemory) none h = tt

pub follow_answers : (f g : Found) (answer : Result (Option MainNext) Stop) → FollowsAll f answer g → IsOfOperands answer
follow_answers f g (Ok None) h = absurd h
follow_answers f g (Ok (Some (Record text))) h = absurd h
follow_answers f g (Ok (Some (Assign name text))) h = absurd h
follow_answers f g (Ok (Some (Opened name))) h = tt
follow_answers f g (Ok (Some End)) h = tt
follow_answers f g (Err (IsFault fault)) h = absurd h
follow_answers f g (Err NoMemory) h = tt

pub follow_idle : (f g : Found) (r : Reading) (answer : Result (Option MainNext) Stop) → FollowsAll f answer g → IdleAfter answer r
follow_idle f g r (Ok None) h = absurd h
follow_idle f g r (Ok (Some answer)) h = tt
follow_idle f g r (Err stop) h = tt

-- ARGC is no number
pub number_passes : (texts : ℕ → List ℕ) (n : ℕ) (f : Found) (fault : Fault) → IsOfNumber fault → StepPasses texts n f (Err (IsFault fault)) n f
number_passes texts n f fault (inl e) = subst (λ (x : Fault). StepPasses texts n f (Err (IsFault x)) n f) (sym e) (none_skipped texts n, refl)
number_passes texts n f fault (inr e) = subst (λ (x : Fault). StepPasses texts n f (Err (IsFault x)) n f) (sym e) (none_skipped texts n, refl)

pub number_more : (count : Result ℤ Fault) (n : ℕ) (f : Found) (fault : Fault) → IsOfNumber fault → has_operand n count ≡ Err fault → StepNoneMore count false f (Err (IsFault fault)) n f
number_more count n f fault (inl e) h = subst (λ (x : Fault). StepNoneMore count false f (Err (IsFault x)) n f) (sym e) (h ∙ ap (λ x. Err x) e)
number_more count n f fault (inr e) h = subst (λ (x : Fault). StepNoneMore count false f (Err (IsFault x)) n f) (sym e) (h ∙ ap (λ x. Err x) e)

pub number_answers : (fault : Fault) → IsOfNumber fault → IsOfOperands (Err (IsFault fault))
number_answers fault (inl e) = subst (λ (x : Fault). IsOfOperands (Err (IsFault x))) (sym e) tt
number_answers fault (inr e) = subst (λ (x : Fault). IsOfOperands (Err (IsFault x))) (sym e) tt

-- the reader at hand refuses a text that is too long, or there is no memory
pub refused_hands : (rs : Option ℕ) (old new : Mains) (stop : Stop) → OnlyLimit {A = FileNext} (Err stop) → ReadsAt rs old (Err stop) new → HandsStep rs old (Err stop) new
refused_hands rs old new (IsFault fault) limit h =
    subst (λ (f : Fault). HandsStep rs old (Err (IsFault f)) new) (sym limit) (subst (λ (f : Fault). ReadsAt rs old (Err (IsFault f)) new) limit h)
refused_hands rs old new NoMemory limit h = inl h

-- Steps before the last one of a call: nothing is done, or nothing is read any more.
abbrev pub SoFarMain : Option ℕ → Mains → Mains → Type 0
SoFarMain rs first now = (now ≡ first) ⊎ ((now.reading ≡ reading.Nothing) × NoRecord rs first now)

idle_stays : (r : Reading) (old new : Reader) → r ≡ reading.Nothing → StandardStays r old new → new ≡ old
idle_stays r old new e h = subst (λ (x : Reading). StandardStays x old new) e h

no_record_since : (rs : Option ℕ) (first now then : Mains) → then.standard ≡ now.standard → NoRecord rs first now → NoRecord rs first then
no_record_since rs first now then e (inl ended) = inl ended
no_record_since rs first now then e (inr h) = inr (subst (λ (r : Reader). IsAtEnd rs first.reading first.standard r) (sym e) h)

pub standard_since : (rs : Option ℕ) (first now then : Mains) → SoFarMain rs first now → StandardStays first.reading first.standard now.standard → StandardStays now.reading now.standard then.standard →
    StandardStays first.reading first.standard then.standard
standard_since rs first now then (inl e) was h = subst (λ (m : Mains). StandardStays m.reading m.standard then.standard) e h
standard_since rs first now then (inr idle) was h = subst (λ (r : Reader). StandardStays first.reading first.standard r) (sym (idle_stays now.reading now.standard then.standard idle.0 h)) was

pub so_far_on : (rs : Option ℕ) (first now then : Mains) → SoFarMain rs first now → StandardStays now.reading now.standard then.standard → HandsStep rs now (Ok None) then → SoFarMain rs first then
so_far_on rs first now then (inl e) h step = inr (step.0, subst (λ (m : Mains). NoRecord rs m then) e step.1)
so_far_on rs first now then (inr idle) h step = inr (step.0, no_record_since rs first now then (idle_stays now.reading now.standard then.standard idle.0 h) idle.1)

-- nothing was read, so this is no answer of a reader
not_read : (rs : Option ℕ) (now then : Mains) (answer : Result MainNext Stop) → now.reading ≡ reading.Nothing → HandsMain rs now answer then → IsNotRead answer
not_read rs now then (Ok (Record text)) idle h = absurd (h.busy idle)
not_read rs now then (Ok (Assign name text)) idle h = tt
not_read rs now then (Ok (Opened name)) idle h = tt
not_read rs now then (Ok End) idle h = tt
not_read rs now then (Err (IsFault ReadFailed)) idle h = absurd (h.busy idle)
not_read rs now then (Err (IsFault TextLimit)) idle h = absurd (h.busy idle)
not_read rs now then (Err stop) idle h = tt

hands_idle : (rs : Option ℕ) (first now then : Mains) (answer : Result MainNext Stop) → IsNotRead answer → NoRecord rs first then → HandsMain rs first answer then
hands_idle rs first now then (Ok (Record text)) not h = absurd not
hands_idle rs first now then (Ok (Assign name text)) not h = h
hands_idle rs first now then (Ok (Opened name)) not h = h
hands_idle rs first now then (Ok End) not h = h
hands_idle rs first now then (Err (IsFault ReadFailed)) not h = absurd not
hands_idle rs first now then (Err (IsFault TextLimit)) not h = absurd not
hands_idle rs first now then (Err NoMemory) not h = inr h
hands_idle rs first now then (Err (IsFault fault)) not h = h

-- a step that reads nothing, by what it answers of operands
pub reach_hands : (rs : Option ℕ) (old new : Mains) (answer : Result (Option MainNext) Stop) → IsOfOperands answer → IdleAfter answer new.reading → NoRecord rs old new → HandsStep rs old answer new
reach_hands rs old new (Ok None) of_operands idle none = (idle, none)
reach_hands rs old new (Ok (Some answer)) of_operands idle none = hands_idle rs old new new (Ok answer) of_operands none
reach_hands rs old new (Err stop) of_operands idle none = hands_idle rs old new new (Err stop) of_operands none

-- a step of the reader at hand passes no operand
pub read_passes : (texts : ℕ → List ℕ) (n m : ℕ) (f g : Found) (answer : Result (Option MainNext) Stop) → m ≡ n → g ≡ f → IsOfReader answer → StepPasses texts n f answer m g
read_passes texts n m f g (Ok None) same still h = (subst (Skips texts n) (sym same) (none_skipped texts n), still)
read_passes texts n m f g (Ok (Some (Record text))) same still h = (same, still)
read_passes texts n m f g (Ok (Some (Assign name text))) same still h = absurd h
read_passes texts n m f g (Ok (Some (Opened name))) same still h = absurd h
read_passes texts n m f g (Ok (Some End)) same still h = absurd h
read_passes texts n m f g (Err (IsFault fault)) same still (inl e) = subst (λ (x : Fault). StepPasses texts n f (Err (IsFault x)) m g) (sym e) (same, still)
read_passes texts n m f g (Err (IsFault fault)) same still (inr e) = subst (λ (x : Fault). StepPasses texts n f (Err (IsFault x)) m g) (sym e) (same, still)
read_passes texts n m f g (Err NoMemory) same still h = (subst (Skips texts n) (sym same) (none_skipped texts n), still)

pub read_more : (count : Result ℤ Fault) (ended : Bool) (f g : Found) (m : ℕ) (answer : Result (Option MainNext) Stop) → IsOfReader answer → StepNoneMore count ended f answer m g
read_more count ended f g m (Ok None) h = tt
read_more count ended f g m (Ok (Some (Record text))) h = tt
read_more count ended f g m (Ok (Some (Assign name text))) h = absurd h
read_more count ended f g m (Ok (Some (Opened name))) h = absurd h
read_more count ended f g m (Ok (Some End)) h = absurd h
read_more count ended f g m (Err (IsFault fault)) (inl e) = subst (λ (x : Fault). StepNoneMore count ended f (Err (IsFault x)) m g) (sym e) tt
read_more count ended f g m (Err (IsFault fault)) (inr e) = subst (λ (x : Fault). StepNoneMore count ended f (Err (IsFault x)) m g) (sym e) tt
read_more count ended f g m (Err NoMemory) h = tt

pub hands_since : (rs : Option ℕ) (first now then : Mains) (answer : Result MainNext Stop) → SoFarMain rs first now → StandardStays now.reading now.standard then.standard → HandsMain rs now answer then → HandsMain rs first answer then
hands_since rs first now then answer (inl e) stays h = subst (λ (m : Mains). HandsMain rs m answer then) e h
hands_since rs first now then answer (inr idle) stays h =
    hands_idle rs first now then answer (not_read rs now then answer idle.0 h) (no_record_since rs first now then (idle_stays now.reading now.standard then.standard idle.0 stays) idle.1)

pub skips_since : (texts : ℕ → List ℕ) (n k m : ℕ) → Skips texts n k → Skips texts k m → Skips texts n m
skips_since texts n k m h i = record {
  order = (let a = h.order in let b = i.order in omega arith);
  empty = λ j low high. by j low high (cases_lt j k);
}
  where
    by : (j : ℕ) → n ≤ j → j < m → ((j < k) ⊎ (k ≤ j)) → texts j ≡ []
    by j low high (inl below) = h.empty j low below
    by j low high (inr above) = i.empty j above high

takes_since : (texts : ℕ → List ℕ) (n k : ℕ) (f : Found) (text : List ℕ) (m : ℕ) → Skips texts n k → Takes texts k f text m → Takes texts n f text m
takes_since texts n k f text m h t = record { at = t.at; skips = skips_since texts n k t.at h t.skips; found_at = t.found_at; next = t.next; left = t.left }

file_since : (texts : ℕ → List ℕ) (n k : ℕ) (f : Found) (name : List ℕ) (m : ℕ) → Skips texts n k → TakesFile texts k f name m → TakesFile texts n f name m
file_since texts n k f name m h t = record { takes = takes_since texts n k f name m h t.takes; named = t.named; file = t.file }

passes_on : (texts : ℕ → List ℕ) (n k m : ℕ) (f g : Found) (answer : Result MainNext Stop) → IsNotRead answer → Skips texts n k → Passes texts k f answer m g → Passes texts n f answer m g
passes_on texts n k m f g (Ok (Record text)) not h p = absurd not
passes_on texts n k m f g (Ok (Assign name value)) not h p = (p.0, takes_since texts n k f p.0 m h p.1, p.2, p.3)
passes_on texts n k m f g (Ok (Opened name)) not h (inl p) = inl (file_since texts n k f name m h p.0, p.1)
passes_on texts n k m f g (Ok (Opened name)) not h (inr p) = inr (skips_since texts n k m h p.0, p.1, p.2, p.3)
passes_on texts n k m f g (Ok End) not h p = (skips_since texts n k m h p.0, p.1)
passes_on texts n k m f g (Err (IsFault OpenInput)) not h p = (p.0, file_since texts n k f p.0 m h p.1, p.2)
passes_on texts n k m f g (Err (IsFault ReadFailed)) not h p = absurd not
passes_on texts n k m f g (Err (IsFault TextLimit)) not h p = absurd not
passes_on texts n k m f g (Err stop) not h p = (skips_since texts n k m h p.0, p.1)

pub passes_since : (rs : Option ℕ) (texts : ℕ → List ℕ) (first now then : Mains) (answer : Result MainNext Stop) → SoFarMain rs first now → Skips texts first.next now.next → now.found ≡ first.found →
    HandsMain rs now answer then → Passes texts now.next now.found answer then.next then.found → Passes texts first.next first.found answer then.next then.found
passes_since rs texts first now then answer (inl e) skips same h p = subst (λ (m : Mains). Passes texts m.next m.found answer then.next then.found) e p
passes_since rs texts first now then answer (inr idle) skips same h p =
    passes_on texts first.next now.next then.next first.found then.found answer (not_read rs now then answer idle.0 h) skips (subst (λ (f : Found). Passes texts now.next f answer then.next then.found) same p)

pub there_since : (count : Result ℤ Fault) (n k m : ℕ) → AreThere count n k → AreThere count k m → AreThere count n m
there_since count n k m h i = λ j low high. by j low high (cases_lt j k)
  where
    by : (j : ℕ) → n ≤ j → j < m → ((j < k) ⊎ (k ≤ j)) → has_operand j count ≡ Ok true
    by j low high (inl below) = h j low below
    by j low high (inr above) = i j above high

pub more_since : (count : Result ℤ Fault) (first now then : Mains) (answer : Result MainNext Stop) → now.ended ≡ first.ended → now.found ≡ first.found → NoneMore count now.ended now.found answer then.next then.found →
    NoneMore count first.ended first.found answer then.next then.found
more_since count first now then answer e f h =
    subst (λ (b : Bool). NoneMore count b first.found answer then.next then.found) e (subst (λ (x : Found). NoneMore count now.ended x answer then.next then.found) f h)

-- no answer yet
pub none_skips : (texts : ℕ → List ℕ) (n m : ℕ) (f g : Found) {answer : Option MainNext} → answer ≡ None → StepPasses texts n f (Ok answer) m g → Skips texts n m × (g ≡ f)
none_skips texts n m f g e h = subst (λ (a : Option MainNext). StepPasses texts n f (Ok a) m g) e h

pub none_hands : (rs : Option ℕ) (old new : Mains) {answer : Option MainNext} → answer ≡ None → HandsStep rs old (Ok answer) new → HandsStep rs old (Ok None) new
none_hands rs old new e h = subst (λ (a : Option MainNext). HandsStep rs old (Ok a) new) e h

-- an answer
pub some_passes : (texts : ℕ → List ℕ) (n m : ℕ) (f g : Found) (answer : MainNext) {a : Option MainNext} → a ≡ Some answer → StepPasses texts n f (Ok a) m g → Passes texts n f (Ok answer) m g
some_passes texts n m f g answer e h = subst (λ (x : Option MainNext). StepPasses texts n f (Ok x) m g) e h

pub some_hands : (rs : Option ℕ) (old new : Mains) (answer : MainNext) {a : Option MainNext} → a ≡ Some answer → HandsStep rs old (Ok a) new → HandsMain rs old (Ok answer) new
some_hands rs old new answer e h = subst (λ (x : Option MainNext). HandsStep rs old (Ok x) new) e h
