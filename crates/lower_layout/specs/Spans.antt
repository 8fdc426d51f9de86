-- Where the texts and the arrays of a script stand, and which scripts are small enough.
use Rattle.std.specs.Prelude.{ℕ, suc, ◌+◌, ◌++◌, ◌≡◌, ◌≤◌, ◌<◌, ◌^◌, List, [], ◌∷◌, length, map}
use Rattle.mid_program.specs.Mid.{Kind, Boxed, Declared, ArrayKind, Program, Routine, Unboxed}
use Rattle.wasm_types.specs.Profile.{most_module_bytes}
use Rattle.lower_model.specs.Places.{memory_of}
use Rattle.lower_model.specs.Functions.{texts_of}
use Rattle.lower_layout.specs.declared.spans.Span.{Span}

abbrev pub global_names : List Declared → List (List ℕ)
global_names ds = map (λ (d : Declared). d.name) ds

abbrev pub routine_names : List Routine → List (List ℕ)
routine_names rs = map (λ (r : Routine). r.name) rs

-- one text after the other, from a place on
abbrev pub spans_from : ℕ → List (List ℕ) → List Span
spans_from at [] = []
spans_from at (s ∷ ss) = (record { place = at; size = length s }) ∷ spans_from (at + length s) ss

-- the places of the arrays among names, of which the first has this one
abbrev pub arrays_from : ℕ → List Kind → List ℕ
arrays_from at [] = []
arrays_from at (ArrayKind ∷ ks) = at ∷ arrays_from (suc at) ks
arrays_from at (Boxed ∷ ks) = arrays_from (suc at) ks
arrays_from at (Unboxed ∷ ks) = arrays_from (suc at) ks

-- more names or ranges a script does not have: each takes a byte of the module
abbrev pub most_names : ℕ
most_names = most_module_bytes

-- few enough names and ranges, and texts that fit in memory
abbrev pub IsSmall : Program → Type 0
IsSmall p =
    (length p.globals ≤ most_names)
    × ((p.ranges ≤ most_names)
    × (length (memory_of (texts_of p)) < 2 ^ 32))

-- a text of so many bytes was placed, and the next one goes to `end`
abbrev pub IsPlaced : (end place size : ℕ) → List Span → List Span → Type 0
IsPlaced end place size before after =
    (end ≡ place + size)
    × ((end < 2 ^ 32)
    × (after ≡ before ++ (record { place = place; size = size }) ∷ []))

-- a text of so many bytes ends where memory has no more
abbrev pub IsPast : (place size : ℕ) → Type 0
IsPast place size = 2 ^ 32 ≤ place + size

-- texts were placed one after the other, from a place on, and the next one goes to `end`
abbrev pub ArePlaced : (end place : ℕ) → List (List ℕ) → List Span → List Span → Type 0
ArePlaced end place texts before after =
    (end ≡ place + length (memory_of texts))
    × ((end < 2 ^ 32)
    × (after ≡ before ++ spans_from place texts))

-- texts from a place on end where memory has no more
abbrev pub ArePast : ℕ → List (List ℕ) → Type 0
ArePast place texts = 2 ^ 32 ≤ place + length (memory_of texts)
