-- What the definition makes of words, where tables show its state: what is read over the tables, with places for numbers.
use Rattle.std.proofs.Common.{◌≡◌, ℕ, ℤ, Bool, true, false, List, [], ◌∷◌, Option, Some, None, is_some, Result, Ok, Err, refl, sym, ap, ◌∙◌}
use Rattle.std.specs.Int.{w32, cast_signed}
use Rattle.std.specs.Ordering.{int_cmp}
use Rattle.std.specs.FinMap as map
use Rattle.std.specs.FinMap.{FinMap}
use Rattle.awk_values.specs.declared.value.Value.{Value}
use Rattle.sem_primitives.specs.Sorts.{Row}
use Rattle.sem_primitives.specs.declared.sorts.Argument.{Argument}
use Rattle.sem_primitives.specs.declared.sorts.Argument.TheVariants as argument
use Rattle.sem_primitives.specs.declared.sorts.Sort.{Sort}
use Rattle.sem_primitives.specs.declared.sorts.Sort.TheVariants as sort
use Rattle.wasm_store.specs.declared.trap.TrapKind.{TrapKind}
use Rattle.wasm_store.specs.declared.trap.TrapKind.TheVariants.{BadHandle}
use Rattle.wasm_store.specs.declared.word.Word.{Word}
use Rattle.wasm_store.specs.declared.word.Word.TheVariants.{I32, I64}
use Rattle.host_step.specs.Arguments.{and_then, decode, named_front, no_more, removed_front, said, spent_if}
use Rattle.host_step.specs.HostState.{HostState, Names}
use Rattle.host_step.specs.Tables.{Table, without}
use Rattle.host_values.specs.Calls.{names_with}
use Rattle.host_values.specs.Evaluations.{Values}
use Rattle.host_values.specs.Fronts.{found}
use Rattle.host_values.specs.Singles.{only_handle}
use Rattle.host_values.proofs.Entries.{entries_remove, look_entries}
use Rattle.host_values.proofs.OneHandle as one
use Rattle.host_values.specs.Forms.{HostForm, IsHeld, Past, Shows, state_of}
use Rattle.host_values.specs.Reads.{array_and_two, array_and_value, known, number_front, only_number, two_handles}

-- the place of a number
abbrev pub place_or_first : Option ℕ → ℕ
place_or_first None = 0
place_or_first (Some n) = n

abbrev pub place_at : FinMap int_cmp ℕ → ℤ → ℕ
place_at places q = place_or_first (map.get places q)

abbrev pub placed : FinMap int_cmp ℕ → Result (ℤ × List Word) TrapKind → Result (ℕ × List Word) TrapKind
placed places (Ok x) = Ok (place_at places x.0, x.1)
placed places (Err k) = Err k

-- a number, and the words behind it

known_by : {A : Type 0} (places : FinMap int_cmp ℕ) (all : List A) (q : ℤ) (rest : List Word) (o : Option ℕ) (w : Option A) → map.get places q ≡ o → Shows all o w
    → said BadHandle o rest ≡ placed places (known (is_some w) q rest)
known_by places all q rest None None e h = refl
known_by places all q rest None (Some x) e h = absurd h
known_by places all q rest (Some n) None e h = absurd h
known_by places all q rest (Some n) (Some x) e h = ap (λ (o : Option ℕ). Ok (place_or_first o, rest)) (sym e)

pub named : {A : Type 0} (held : FinMap int_cmp A) (places : FinMap int_cmp ℕ) (all : List A) (words : List Word) → IsHeld held places all
    → named_front (map.entries places) words ≡ placed places (number_front held words)
named held places all [] is = refl
named held places all (I64 n ∷ rest) is = refl
named held places all (I32 n ∷ rest) is =
    let q = cast_signed w32 n in
    ap (λ (o : Option ℕ). said BadHandle o rest) (look_entries places q) ∙ known_by places all q rest (map.get places q) (map.get held q) refl (is.shows q)

-- Rows of arguments.

-- an argument before the others
abbrev pub before : {A R N : Type 0} → A → R × N → Result ((A × R) × N) TrapKind
before a rest = Ok ((a, rest.0), rest.1)

abbrev then_rest : {A R N : Type 0} → Result (A × List Word) TrapKind → (List Word → Result (R × N) TrapKind) → Result ((A × R) × N) TrapKind
then_rest r d = and_then r (λ x. and_then (d x.1) (before x.0))

abbrev pub ended : {N : Type 0} → N → List Word → Result (Unit {0} × N) TrapKind
ended names words = and_then (no_more words) (λ end. Ok (end, names))

abbrev pub number_row : {A : Type 0} → FinMap int_cmp ℕ → Result ℤ TrapKind → A → Result ((ℕ × Unit {0}) × A) TrapKind
number_row places (Ok q) names = Ok ((place_at places q, tt), names)
number_row places (Err k) names = Err k

abbrev only_by : Result (ℤ × List Word) TrapKind → Result ℤ TrapKind
only_by r = and_then r (λ x. and_then (no_more x.1) (λ end. Ok x.0))

number_by : {A : Type 0} (places : FinMap int_cmp ℕ) (r : Result (ℤ × List Word) TrapKind) (names : A)
    → then_rest (placed places r) (ended names) ≡ number_row places (only_by r) names
number_by places (Err k) names = refl
number_by places (Ok (q, [])) names = refl
number_by places (Ok (q, w ∷ rest)) names = refl

-- an array or an iterator alone

abbrev pub freed_row : FinMap int_cmp ℕ → (Table ℕ → Names) → Result ℤ TrapKind → Result ((ℕ × Unit {0}) × Names) TrapKind
freed_row places put (Ok q) = Ok ((place_at places q, tt), put (map.entries (map.remove places q)))
freed_row places put (Err k) = Err k

freed_by : (places : FinMap int_cmp ℕ) (put : Table ℕ → Names) (b : Bool) (q : ℤ) (rest : List Word)
    → then_rest (placed places (known b q rest)) (ended (put (without q (map.entries places)))) ≡ freed_row places put (only_by (known b q rest))
freed_by places put false q rest = refl
freed_by places put true q [] = ap (λ (t : Table ℕ). Ok ((place_at places q, tt), put t)) (entries_remove places q)
freed_by places put true q (w ∷ rest) = refl

-- one that is spent
pub freed_alone : {A : Type 0} (held : FinMap int_cmp A) (places : FinMap int_cmp ℕ) (all : List A) (put : Table ℕ → Names) (words : List Word) → IsHeld held places all
    → then_rest (named_front (map.entries places) words) (ended (put (removed_front (map.entries places) words))) ≡ freed_row places put (only_number held words)
freed_alone held places all put [] is = refl
freed_alone held places all put (I64 n ∷ rest) is = refl
freed_alone held places all put (I32 n ∷ rest) is =
    let q = cast_signed w32 n in
    ap (λ (r : Result (ℕ × List Word) TrapKind). then_rest r (ended (put (without q (map.entries places))))) (named held places all (I32 n ∷ rest) is)
    ∙ freed_by places put (map.contains_key held q) q rest

-- one that is only looked at

pub array_alone : (f : HostForm) (p : Past) (spent : Sort → Bool) → spent sort.Array ≡ false → (memory : List ℕ) (words : List Word) → IsHeld f.arrays p.array_places p.arrays
    → decode spent memory (state_of f p).names (argument.Of sort.Array ∷ []) words ≡ number_row p.array_places (only_number f.arrays words) (state_of f p).names
array_alone f p spent looks memory words is =
    ap (λ (b : Bool). then_rest (named_front (map.entries p.array_places) words) (ended (spent_if b sort.Array words (state_of f p).names))) looks
    ∙ ap (λ (r : Result (ℕ × List Word) TrapKind). then_rest r (ended (state_of f p).names)) (named f.arrays p.array_places p.arrays words is)
    ∙ number_by p.array_places (number_front f.arrays words) (state_of f p).names

pub iterator_alone : (f : HostForm) (p : Past) (spent : Sort → Bool) → spent sort.Iterator ≡ false → (memory : List ℕ) (words : List Word) → IsHeld f.iterators p.iterator_places p.iterators
    → decode spent memory (state_of f p).names (argument.Of sort.Iterator ∷ []) words ≡ number_row p.iterator_places (only_number f.iterators words) (state_of f p).names
iterator_alone f p spent looks memory words is =
    ap (λ (b : Bool). then_rest (named_front (map.entries p.iterator_places) words) (ended (spent_if b sort.Iterator words (state_of f p).names))) looks
    ∙ ap (λ (r : Result (ℕ × List Word) TrapKind). then_rest r (ended (state_of f p).names)) (named f.iterators p.iterator_places p.iterators words is)
    ∙ number_by p.iterator_places (number_front f.iterators words) (state_of f p).names

-- two values

abbrev pub two_row : HostState → Values → Result (ℤ × Value × ℤ × Value) TrapKind → Result (Row (argument.Of sort.Value ∷ argument.Of sort.Value ∷ []) × Names) TrapKind
two_row s m (Ok x) = Ok ((x.1, (x.3, tt)), names_with (map.remove (map.remove m x.0) x.2) s)
two_row s m (Err k) = Err k

abbrev both_handles : ℤ → Value → Result (ℤ × Value) TrapKind → Result (ℤ × Value × ℤ × Value) TrapKind
both_handles h v r = and_then r (λ y. Ok (h, v, y.0, y.1))

two_behind : (s : HostState) (m : Values) (h : ℤ) (v : Value) (r : Result (ℤ × Value) TrapKind)
    → and_then (one.as_row s (map.remove m h) r) (before v) ≡ two_row s m (both_handles h v r)
two_behind s m h v (Ok x) = refl
two_behind s m h v (Err k) = refl

abbrev one_more : (Sort → Bool) → List ℕ → Names → List Word → Result (Row (argument.Of sort.Value ∷ []) × Names) TrapKind
one_more spent memory names words = decode spent memory names (argument.Of sort.Value ∷ []) words

two_of : (spent : Sort → Bool) → spent sort.Value ≡ true → (s : HostState) (m : Values) (memory : List ℕ) (h : ℤ) (rest : List Word) (o : Option Value)
    → then_rest (said BadHandle o rest) (one_more spent memory (names_with (map.remove m h) s))
    ≡ two_row s m (and_then (found h o rest) (λ x. both_handles x.0 x.1 (only_handle (map.remove m x.0) x.2)))
two_of spent takes s m memory h rest None = refl
two_of spent takes s m memory h rest (Some v) =
    ap (λ (r : Result (Row (argument.Of sort.Value ∷ []) × Names) TrapKind). and_then r (before v)) (one.decoded spent takes s (map.remove m h) memory rest)
    ∙ two_behind s m h v (only_handle (map.remove m h) rest)

pub two_decoded : (spent : Sort → Bool) → spent sort.Value ≡ true → (s : HostState) (m : Values) (memory : List ℕ) (words : List Word)
    → decode spent memory (names_with m s) (argument.Of sort.Value ∷ argument.Of sort.Value ∷ []) words ≡ two_row s m (two_handles m words)
two_decoded spent takes s m memory [] = refl
two_decoded spent takes s m memory (I64 n ∷ rest) = refl
two_decoded spent takes s m memory (I32 n ∷ rest) =
    let h = cast_signed w32 n in
    ap (λ (o : Option Value). then_rest (said BadHandle o rest) (one_more spent memory (spent_if (spent sort.Value) sort.Value (I32 n ∷ rest) (names_with m s)))) (look_entries m h)
    ∙ ap (λ (names : Names). then_rest (said BadHandle (map.get m h) rest) (one_more spent memory names))
    (ap (λ b. spent_if b sort.Value (I32 n ∷ rest) (names_with m s)) takes ∙ ap (λ (t : Table Value). record s.names { values = t }) (entries_remove m h))
    ∙ two_of spent takes s m memory h rest (map.get m h)

-- an array that is only looked at, and values that are spent

module _ (f : HostForm) (p : Past) (spent : Sort → Bool) (takes : spent sort.Value ≡ true) (looks : spent sort.Array ≡ false) (memory : List ℕ) (is : IsHeld f.arrays p.array_places p.arrays) where
  abbrev Decoded : List Argument → Type 0
  Decoded wanted = Result (Row wanted × Names) TrapKind

  -- the values behind the array
  abbrev values_behind : (wanted : List Argument) → List Word → Decoded wanted
  values_behind wanted words = decode spent memory (state_of f p).names wanted words

  array_first : (wanted : List Argument) (words : List Word) → decode spent memory (state_of f p).names (argument.Of sort.Array ∷ wanted) words
      ≡ then_rest (placed p.array_places (number_front f.arrays words)) (values_behind wanted)
  array_first wanted words =
      ap (λ (b : Bool). then_rest (named_front (map.entries p.array_places) words) (λ rest. decode spent memory (spent_if b sort.Array words (state_of f p).names) wanted rest)) looks
      ∙ ap (λ (r : Result (ℕ × List Word) TrapKind). then_rest r (values_behind wanted)) (named f.arrays p.array_places p.arrays words is)

  abbrev pub key_row : Result (ℤ × ℤ × Value) TrapKind → Decoded (argument.Of sort.Array ∷ argument.Of sort.Value ∷ [])
  key_row (Ok x) = Ok ((place_at p.array_places x.0, (x.2, tt)), names_with (map.remove f.values x.1) (state_of f p))
  key_row (Err k) = Err k

  abbrev with_key : ℤ → Result (ℤ × Value) TrapKind → Result (ℤ × ℤ × Value) TrapKind
  with_key a r = and_then r (λ y. Ok (a, y.0, y.1))

  key_behind : (a : ℤ) (r : Result (ℤ × Value) TrapKind) → and_then (one.as_row (state_of f p) f.values r) (before (place_at p.array_places a)) ≡ key_row (with_key a r)
  key_behind a (Ok x) = refl
  key_behind a (Err k) = refl

  key_by : (r : Result (ℤ × List Word) TrapKind) → then_rest (placed p.array_places r) (values_behind (argument.Of sort.Value ∷ []))
      ≡ key_row (and_then r (λ x. with_key x.0 (only_handle f.values x.1)))
  key_by (Ok x) =
      ap (λ (d : Decoded (argument.Of sort.Value ∷ [])). and_then d (before (place_at p.array_places x.0))) (one.decoded spent takes (state_of f p) f.values memory x.1)
      ∙ key_behind x.0 (only_handle f.values x.1)
  key_by (Err k) = refl

  pub key_decoded : (words : List Word) → decode spent memory (state_of f p).names (argument.Of sort.Array ∷ argument.Of sort.Value ∷ []) words
      ≡ key_row (array_and_value f.arrays f.values words)
  key_decoded words = array_first (argument.Of sort.Value ∷ []) words ∙ key_by (number_front f.arrays words)

  abbrev pub both_row : Result (ℤ × ℤ × Value × ℤ × Value) TrapKind → Decoded (argument.Of sort.Array ∷ argument.Of sort.Value ∷ argument.Of sort.Value ∷ [])
  both_row (Ok x) = Ok ((place_at p.array_places x.0, (x.2, (x.4, tt))), names_with (map.remove (map.remove f.values x.1) x.3) (state_of f p))
  both_row (Err k) = Err k

  abbrev with_both : ℤ → Result (ℤ × Value × ℤ × Value) TrapKind → Result (ℤ × ℤ × Value × ℤ × Value) TrapKind
  with_both a r = and_then r (λ y. Ok (a, y.0, y.1, y.2, y.3))

  both_behind : (a : ℤ) (r : Result (ℤ × Value × ℤ × Value) TrapKind) → and_then (two_row (state_of f p) f.values r) (before (place_at p.array_places a)) ≡ both_row (with_both a r)
  both_behind a (Ok x) = refl
  both_behind a (Err k) = refl

  both_by : (r : Result (ℤ × List Word) TrapKind) → then_rest (placed p.array_places r) (values_behind (argument.Of sort.Value ∷ argument.Of sort.Value ∷ []))
      ≡ both_row (and_then r (λ x. with_both x.0 (two_handles f.values x.1)))
  both_by (Ok x) =
      ap (λ (d : Decoded (argument.Of sort.Value ∷ argument.Of sort.Value ∷ [])). and_then d (before (place_at p.array_places x.0))) (two_decoded spent takes (state_of f p) f.values memory x.1)
      ∙ both_behind x.0 (two_handles f.values x.1)
  both_by (Err k) = refl

  pub both_decoded : (words : List Word) → decode spent memory (state_of f p).names (argument.Of sort.Array ∷ argument.Of sort.Value ∷ argument.Of sort.Value ∷ []) words
      ≡ both_row (array_and_two f.arrays f.values words)
  both_decoded words = array_first (argument.Of sort.Value ∷ argument.Of sort.Value ∷ []) words ∙ both_by (number_front f.arrays words)
