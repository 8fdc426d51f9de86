-- What the definition makes of the words of a split, where tables show its state.
use Rattle.std.proofs.Common.{◌≡◌, ℕ, ℤ, Bool, true, false, List, [], ◌∷◌, Option, Some, None, Result, Ok, Err, refl, ap, ◌∙◌}
use Rattle.std.specs.Int.{w32, cast_signed}
use Rattle.std.specs.FinMap as map
use Rattle.awk_values.specs.declared.value.Value.{Value}
use Rattle.sem_primitives.specs.Sorts.{Row}
use Rattle.sem_primitives.specs.declared.sorts.Argument.{Argument}
use Rattle.sem_primitives.specs.declared.sorts.Argument.TheVariants as argument
use Rattle.sem_primitives.specs.declared.sorts.Constant.TheVariants as constant
use Rattle.sem_primitives.specs.declared.sorts.Sort.{Sort}
use Rattle.sem_primitives.specs.declared.sorts.Sort.TheVariants as sort
use Rattle.wasm_store.specs.declared.trap.TrapKind.{TrapKind}
use Rattle.wasm_store.specs.declared.trap.TrapKind.TheVariants.{BadHandle}
use Rattle.wasm_store.specs.declared.word.Word.{Word}
use Rattle.wasm_store.specs.declared.word.Word.TheVariants.{I32, I64}
use Rattle.host_step.specs.Arguments.{and_then, constant_front, decode, named_front, no_more, said, spent_if}
use Rattle.host_step.specs.HostState.{HostState, Names}
use Rattle.host_step.specs.Tables.{Table}
use Rattle.host_values.specs.Calls.{names_with}
use Rattle.host_values.specs.Evaluations.{Values}
use Rattle.host_values.specs.Fronts.{found, handle_front}
use Rattle.host_values.proofs.Entries.{entries_remove, look_entries}
use Rattle.host_values.specs.Forms.{HostForm, IsHeld, Past, state_of}
use Rattle.host_values.specs.Reads.{number_front}
use Rattle.host_values.proofs.Reading.{before, ended, named, place_at, placed}
use Rattle.host_tables.specs.Splits.{Said, split_front}

abbrev pub Decoded : List Argument → Type 0
Decoded wanted = Result (Row wanted × Names) TrapKind

-- a value that is spent, and what stands behind it

module _ (spent : Sort → Bool) (takes : spent sort.Value ≡ true) (s : HostState) (memory : List ℕ) (wanted : List Argument) where
  abbrev behind_value : Values → ℤ × Value × List Word → Decoded (argument.Of sort.Value ∷ wanted)
  behind_value m x = and_then (decode spent memory (names_with (map.remove m x.0) s) wanted x.2) (before x.1)

  found_first : (m : Values) (h : ℤ) (rest : List Word) (o : Option Value)
      → and_then (said BadHandle o rest) (λ x. and_then (decode spent memory (names_with (map.remove m h) s) wanted x.1) (before x.0)) ≡ and_then (found h o rest) (behind_value m)
  found_first m h rest None = refl
  found_first m h rest (Some v) = refl

  pub value_first : (m : Values) (words : List Word) → decode spent memory (names_with m s) (argument.Of sort.Value ∷ wanted) words ≡ and_then (handle_front m words) (behind_value m)
  value_first m [] = refl
  value_first m (I64 n ∷ rest) = refl
  value_first m (I32 n ∷ rest) =
      let h = cast_signed w32 n in
      ap (λ (o : Option Value). and_then (said BadHandle o rest) (λ x. and_then (decode spent memory (spent_if (spent sort.Value) sort.Value (I32 n ∷ rest) (names_with m s)) wanted x.1) (before x.0))) (look_entries m h)
      ∙ ap (λ (b : Bool). and_then (said BadHandle (map.get m h) rest) (λ x. and_then (decode spent memory (spent_if b sort.Value (I32 n ∷ rest) (names_with m s)) wanted x.1) (before x.0))) takes
      ∙ ap (λ (t : Table Value). and_then (said BadHandle (map.get m h) rest) (λ x. and_then (decode spent memory (record s.names { values = t }) wanted x.1) (before x.0))) (entries_remove m h)
      ∙ found_first m h rest (map.get m h)

-- a split's

abbrev behind_array : List Argument
behind_array = argument.Of sort.Value ∷ argument.Constant constant.Flag ∷ []

abbrev behind_text : List Argument
behind_text = argument.Of sort.Array ∷ behind_array

abbrev pub split_wanted : List Argument
split_wanted = argument.Of sort.Value ∷ behind_text

module _ (f : HostForm) (p : Past) (spent : Sort → Bool) (takes : spent sort.Value ≡ true) (looks : spent sort.Array ≡ false) (memory : List ℕ) (is : IsHeld f.arrays p.array_places p.arrays) where
  abbrev here : HostState
  here = state_of f p

  -- the row of what is said, and the tables without the two values
  abbrev pub said_row : Result Said TrapKind → Decoded split_wanted
  said_row (Ok x) = Ok ((x.1, (place_at p.array_places x.2, (x.4, (x.5, tt)))), names_with (map.remove (map.remove f.values x.0) x.3) here)
  said_row (Err k) = Err k

  -- behind the second value
  abbrev flag_row : ℤ × Value × List Word → ℤ × Value × List Word → Result (Bool × List Word) TrapKind → Decoded (argument.Constant constant.Flag ∷ [])
  flag_row x y r = and_then r (λ b. and_then (ended (names_with (map.remove (map.remove f.values x.0) y.0) here) b.1) (before b.0))

  abbrev flag_said : ℤ × Value × List Word → ℤ × List Word → ℤ × Value × List Word → Result (Bool × List Word) TrapKind → Result Said TrapKind
  flag_said x a y r = and_then r (λ b. and_then (no_more b.1) (λ end. Ok (x.0, x.1, a.0, y.0, y.1, b.0)))

  flag_by : (x : ℤ × Value × List Word) (a : ℤ × List Word) (y : ℤ × Value × List Word) (r : Result (Bool × List Word) TrapKind)
      → and_then (and_then (and_then (flag_row x y r) (before y.1)) (before (place_at p.array_places a.0))) (before x.1) ≡ said_row (flag_said x a y r)
  flag_by x a y (Ok (b, [])) = refl
  flag_by x a y (Ok (b, w ∷ rest)) = refl
  flag_by x a y (Err k) = refl

  -- behind the array
  abbrev second_row : ℤ × Value × List Word → Result (ℤ × Value × List Word) TrapKind → Decoded behind_array
  second_row x r = and_then r (λ y. and_then (flag_row x y (constant_front constant.Flag y.2)) (before y.1))

  abbrev second_said : ℤ × Value × List Word → ℤ × List Word → Result (ℤ × Value × List Word) TrapKind → Result Said TrapKind
  second_said x a r = and_then r (λ y. flag_said x a y (constant_front constant.Flag y.2))

  second_by : (x : ℤ × Value × List Word) (a : ℤ × List Word) (r : Result (ℤ × Value × List Word) TrapKind)
      → and_then (and_then (second_row x r) (before (place_at p.array_places a.0))) (before x.1) ≡ said_row (second_said x a r)
  second_by x a (Ok y) = flag_by x a y (constant_front constant.Flag y.2)
  second_by x a (Err k) = refl

  -- behind the text
  abbrev array_row : ℤ × Value × List Word → Result (ℤ × List Word) TrapKind → Decoded behind_text
  array_row x r = and_then (placed p.array_places r) (λ a. and_then (second_row x (handle_front (map.remove f.values x.0) a.1)) (before a.0))

  abbrev array_said : ℤ × Value × List Word → Result (ℤ × List Word) TrapKind → Result Said TrapKind
  array_said x r = and_then r (λ a. second_said x a (handle_front (map.remove f.values x.0) a.1))

  array_by : (x : ℤ × Value × List Word) (r : Result (ℤ × List Word) TrapKind) → and_then (array_row x r) (before x.1) ≡ said_row (array_said x r)
  array_by x (Ok a) = second_by x a (handle_front (map.remove f.values x.0) a.1)
  array_by x (Err k) = refl

  text_by : (r : Result (ℤ × Value × List Word) TrapKind)
      → and_then r (λ x. and_then (array_row x (number_front f.arrays x.2)) (before x.1)) ≡ said_row (and_then r (λ x. array_said x (number_front f.arrays x.2)))
  text_by (Ok x) = array_by x (number_front f.arrays x.2)
  text_by (Err k) = refl

  -- the array and what follows it, over the values that are left
  behind_first : (x : ℤ × Value × List Word) → decode spent memory (names_with (map.remove f.values x.0) here) behind_text x.2 ≡ array_row x (number_front f.arrays x.2)
  behind_first x =
      let m = map.remove f.values x.0 in
      ap (λ (b : Bool). and_then (named_front (map.entries p.array_places) x.2) (λ a. and_then (decode spent memory (spent_if b sort.Array x.2 (names_with m here)) behind_array a.1) (before a.0))) looks
      ∙ ap (λ (r : Result (ℕ × List Word) TrapKind). and_then r (λ a. and_then (decode spent memory (names_with m here) behind_array a.1) (before a.0))) (named f.arrays p.array_places p.arrays x.2 is)
      ∙ (λ i. and_then (placed p.array_places (number_front f.arrays x.2)) (λ a. and_then (value_first spent takes here memory (argument.Constant constant.Flag ∷ []) m a.1 i) (before a.0)))

  pub split_decoded : (words : List Word) → decode spent memory (state_of f p).names split_wanted words ≡ said_row (split_front f.arrays f.values words)
  split_decoded words =
      value_first spent takes here memory behind_text f.values words
      ∙ (λ i. and_then (handle_front f.values words) (λ x. and_then (behind_first x i) (before x.1)))
      ∙ text_by (handle_front f.values words)
