-- From what printing does, to the step of its import.
use Rattle.std.proofs.Common.{◌≡◌, ℕ, Bool, true, false, cond, List, [], ◌∷◌, Option, Some, None, Result, Ok, Err, refl, sym, ap, subst, ◌∙◌}
use Rattle.awk_values.specs.declared.fault.Fault.{Fault}
use Rattle.awk_values.specs.declared.value.Value.{Value}
use Rattle.sem_primitives.specs.ConstantPlaces.{destination_at}
use Rattle.sem_primitives.specs.InTurn.{with_name}
use Rattle.sem_primitives.specs.Rows.{print_row, printf_row}
use Rattle.sem_primitives.specs.SharedState.{HostResult, shared_after}
use Rattle.sem_primitives.specs.Sorts.{InAnswer, Row}
use Rattle.sem_primitives.specs.declared.constants.Destination.{Destination}
use Rattle.sem_primitives.specs.declared.sorts.Answer.TheVariants as answer
use Rattle.sem_primitives.specs.declared.sorts.Argument.TheVariants as argument
use Rattle.sem_primitives.specs.declared.sorts.Constant.TheVariants as constant
use Rattle.sem_primitives.specs.declared.sorts.Sort.{Sort}
use Rattle.wasm_model.specs.declared.host.HostAnswer.{HostAnswer}
use Rattle.wasm_model.specs.declared.host.HostAnswer.TheVariants as told
use Rattle.wasm_store.specs.declared.trap.TrapKind.{TrapKind}
use Rattle.wasm_store.specs.declared.trap.TrapKind.TheVariants.{BadArgument}
use Rattle.wasm_store.specs.declared.word.Word.{Word}
use Rattle.wasm_store.specs.declared.word.Word.TheVariants.{I32, I64}
use Rattle.world_core.specs.WorldState.{Action}
use Rattle.host_step.specs.Answers.{refusal}
use Rattle.host_step.specs.Arguments.{and_then, decode, no_more, said}
use Rattle.host_step.specs.HostState.{HostState, Names}
use Rattle.host_step.specs.HostStep.{Acts, Refuses, Settles, StepBy, StepOf, before_last_of, carried, come, last_of, refuses, where_fit}
use Rattle.host_imports.specs.Imports.{import_answer, spends}
use Rattle.host_imports.specs.declared.import.Import.{Import}
use Rattle.host_imports.specs.declared.import.Import.TheVariants.{Variadic}
use Rattle.host_imports.specs.declared.import.VariadicImport.TheVariants.{Print, Printf}
use Rattle.host_values.proofs.ElementSteps.{unrefused}
use Rattle.host_worlds.specs.Lists.{enough, listed, listing_words}

-- what putting a text out does, and comes to
abbrev pub Puts : Type 0
Puts = HostResult (Result (Unit {0}) Fault)

abbrev pub acts_so : Puts → List Value → Acts (Unit {0})
acts_so d left = record { does = d; arguments = left }

-- The words.

abbrev Decides : Type 0
Decides = ℕ → Destination → Result (Acts (Unit {0})) TrapKind

abbrev decided : Names → Decides → Result (Row (argument.Constant constant.Count ∷ argument.Constant constant.Destination ∷ []) × Names) TrapKind → Result (Names × Acts (Unit {0})) TrapKind
decided names f r = and_then r (λ x. and_then (f x.0.0 x.0.1.0) (λ d. Ok (x.1, d)))

abbrev decided_by : Names → Decides → Result (ℕ × Destination) TrapKind → Result (Names × Acts (Unit {0})) TrapKind
decided_by names f r = and_then r (λ x. and_then (f x.0 x.1) (λ d. Ok (names, d)))

abbrev PlaceRow : Type 0
PlaceRow = Row (argument.Constant constant.Destination ∷ []) × Names

abbrev with_count : ℕ → Result PlaceRow TrapKind → Result (Row (argument.Constant constant.Count ∷ argument.Constant constant.Destination ∷ []) × Names) TrapKind
with_count n r = and_then r (λ z. Ok ((n, z.0), z.1))

abbrev place_only : ℕ → Result (Destination × List Word) TrapKind → Result (ℕ × Destination) TrapKind
place_only n r = and_then r (λ y. and_then (no_more y.1) (λ end. Ok (n, y.0)))

module _ (spent : Sort → Bool) (memory : List ℕ) (names : Names) (f : Decides) where
  abbrev place_row : Result (Destination × List Word) TrapKind → Result PlaceRow TrapKind
  place_row r = and_then r (λ y. and_then (decode spent memory names [] y.1) (λ z. Ok ((y.0, z.0), z.1)))

  by_place : (n : ℕ) (o : Option Destination) (rest : List Word)
      → decided names f (with_count n (place_row (said BadArgument o rest))) ≡ decided_by names f (place_only n (said BadArgument o rest))
  by_place n None rest = refl
  by_place n (Some to) [] = refl
  by_place n (Some to) (w ∷ rest) = refl

  pub read_words : (words : List Word)
      → decided names f (decode spent memory names (argument.Constant constant.Count ∷ argument.Constant constant.Destination ∷ []) words) ≡ decided_by names f (listing_words words)
  read_words [] = refl
  read_words (I64 n ∷ rest) = refl
  read_words (I32 n ∷ []) = refl
  read_words (I32 n ∷ I64 m ∷ rest) = refl
  read_words (I32 n ∷ I32 m ∷ rest) = by_place n (destination_at m) rest

-- What is taken.

-- where enough values are there, this is done with them
abbrev Enough : (ℕ × Destination → Bool) → (ℕ × Destination → Acts (Unit {0})) → Decides
Enough fits acts n to = where_fit (fits (n, to)) (acts (with_name to n, to))

abbrev named_acts : Names → Result (Acts (Unit {0})) TrapKind → Result (Names × Acts (Unit {0})) TrapKind
named_acts names r = and_then r (λ d. Ok (names, d))

abbrev acts_taken : Names → (ℕ × Destination → Acts (Unit {0})) → Result (ℕ × Destination) TrapKind → Result (Names × Acts (Unit {0})) TrapKind
acts_taken names acts r = and_then r (λ n. Ok (names, acts n))

abbrev taken_if : (ℕ × Destination → Bool) → Result (ℕ × Destination) TrapKind → Result (ℕ × Destination) TrapKind
taken_if fits r = and_then r (λ x. where_fit (fits x) (with_name x.1 x.0, x.1))

fit_by : (names : Names) (acts : ℕ × Destination → Acts (Unit {0})) (b : Bool) (x : ℕ × Destination) → named_acts names (where_fit b (acts x)) ≡ acts_taken names acts (where_fit b x)
fit_by names acts true x = refl
fit_by names acts false x = refl

taken_by : (names : Names) (fits : ℕ × Destination → Bool) (acts : ℕ × Destination → Acts (Unit {0})) (r : Result (ℕ × Destination) TrapKind)
    → decided_by names (Enough fits acts) r ≡ acts_taken names acts (taken_if fits r)
taken_by names fits acts (Ok x) = fit_by names acts (fits x) (with_name x.1 x.0, x.1)
taken_by names fits acts (Err k) = refl

-- what a call comes to with what it takes
abbrev taking : HostState → (ℕ × Destination → Puts) → ℕ × Destination → Acts (Unit {0})
taking s does n = acts_so (does n) (before_last_of n.0 s.arguments)

abbrev Comes : HostState → (ℕ × Destination → Puts) → Result (ℕ × Destination) TrapKind → Result (Names × Acts (Unit {0})) TrapKind
Comes s does r = and_then r (λ n. Ok (s.names, taking s does n))

abbrev pub prints : HostState → ℕ × Destination → Puts
prints s n = print_row n.1 (last_of n.0 s.arguments) s.shared

abbrev pub formats : HostState → ℕ × Destination → Puts
formats s n = printf_row n.1 (last_of n.0 s.arguments) s.shared

print_carried : (s : HostState) (words : List Word) (memory : List ℕ) → carried (Variadic Print) words memory s ≡ Comes s (prints s) (listed 0 s.arguments words)
print_carried s words memory =
    read_words (spends (Variadic Print)) memory s.names (Enough (enough 0 s.arguments) (taking s (prints s))) words
    ∙ taken_by s.names (enough 0 s.arguments) (taking s (prints s)) (listing_words words)

printf_carried : (s : HostState) (words : List Word) (memory : List ℕ) → carried (Variadic Printf) words memory s ≡ Comes s (formats s) (listed 1 s.arguments words)
printf_carried s words memory =
    read_words (spends (Variadic Printf)) memory s.names (Enough (enough 1 s.arguments) (taking s (formats s))) words
    ∙ taken_by s.names (enough 1 s.arguments) (taking s (formats s)) (listing_words words)

-- The step.

abbrev pub done_by : Result (Unit {0}) Fault → HostAnswer
done_by (Ok u) = told.Done (Some (I32 0))
done_by (Err fault) = told.Done (refusal answer.Done)

abbrev pub fault_by : Option Fault → Result (Unit {0}) Fault → Option Fault
fault_by kept (Ok u) = kept
fault_by kept (Err fault) = Some fault

-- the state after it
abbrev pub after_put : HostState → Puts → List Value → HostState
after_put s d left = record { names = s.names; shared = shared_after s.shared d; arguments = left; fault = fault_by s.fault d.answer }

settles : (s : HostState) (d : Acts (Unit {0})) (r : Result (Unit {0}) Fault)
    → Settles answer.Done s s.names d r (done_by r) (record { names = s.names; shared = shared_after s.shared d.does; arguments = d.arguments; fault = fault_by s.fault r }) d.does.added
settles s d (Ok u) = (0, tt, record { word = refl; state = refl; added = refl })
settles s d (Err fault) = record { word = refl; state = refl; added = refl }

-- an import that answers so, where no fault is kept
module _ (i : Import) (s : HostState) (words : List Word) (memory : List ℕ) (a : HostAnswer) (after : HostState) (out : List Action) (fits : refuses i s.fault ≡ false) where
  step_by : (c : Result (Names × Acts (InAnswer (import_answer i))) TrapKind) → carried i words memory s ≡ c → StepBy (import_answer i) s (come c) a after out → StepOf i s words memory a after out
  step_by c is h =
      subst (λ (b : Bool). StepBy (import_answer i) s (cond b Refuses (come (carried i words memory s))) a after out) (sym fits)
      (subst (λ (x : Result (Names × Acts (InAnswer (import_answer i))) TrapKind). StepBy (import_answer i) s (come x) a after out) (sym is) h)

pub print_step : (s : HostState) (words : List Word) (memory : List ℕ) (n : ℕ × Destination) → s.fault ≡ None → listed 0 s.arguments words ≡ Ok n
    → StepOf (Variadic Print) s words memory (done_by (prints s n).answer) (after_put s (prints s n) (before_last_of n.0 s.arguments)) (prints s n).added
print_step s words memory n none is =
    step_by (Variadic Print) s words memory _ _ _ (unrefused (Variadic Print) s.fault none) (Comes s (prints s) (Ok n)) (print_carried s words memory ∙ ap (Comes s (prints s)) is)
    (settles s (taking s (prints s) n) (prints s n).answer)

pub printf_step : (s : HostState) (words : List Word) (memory : List ℕ) (n : ℕ × Destination) → s.fault ≡ None → listed 1 s.arguments words ≡ Ok n
    → StepOf (Variadic Printf) s words memory (done_by (formats s n).answer) (after_put s (formats s n) (before_last_of n.0 s.arguments)) (formats s n).added
printf_step s words memory n none is =
    step_by (Variadic Printf) s words memory _ _ _ (unrefused (Variadic Printf) s.fault none) (Comes s (formats s) (Ok n)) (printf_carried s words memory ∙ ap (Comes s (formats s)) is)
    (settles s (taking s (formats s) n) (formats s n).answer)

pub print_trap : (s : HostState) (words : List Word) (memory : List ℕ) (k : TrapKind) → s.fault ≡ None → listed 0 s.arguments words ≡ Err k → StepOf (Variadic Print) s words memory (told.Trap k) s []
print_trap s words memory k none is =
    step_by (Variadic Print) s words memory _ _ _ (unrefused (Variadic Print) s.fault none) (Err k) (print_carried s words memory ∙ ap (Comes s (prints s)) is) (record { trap = refl; state = refl; added = refl })

pub printf_trap : (s : HostState) (words : List Word) (memory : List ℕ) (k : TrapKind) → s.fault ≡ None → listed 1 s.arguments words ≡ Err k → StepOf (Variadic Printf) s words memory (told.Trap k) s []
printf_trap s words memory k none is =
    step_by (Variadic Printf) s words memory _ _ _ (unrefused (Variadic Printf) s.fault none) (Err k) (printf_carried s words memory ∙ ap (Comes s (formats s)) is) (record { trap = refl; state = refl; added = refl })
