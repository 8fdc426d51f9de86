-- What stands on the stack, in locals and in globals of the machine over values: a word, or what the number of a handle, of an array or of an
-- iterator stands for. A cell that is owned has one place: who reads it moves it, and nothing may be put over it.
use Rattle.std.specs.Prelude.{ℕ, zero, ◌+◌, ◌-◌, Bool, true, false, not, ◌&&◌, ◌||◌, nat_eq, nat_lt, List, [], ◌∷◌, map, take, drop, get_or, length, suc, cond, Option, Some, None}
use Rattle.awk_values.specs.declared.value.Value.{Value as AnyValue}
use Rattle.wasm_store.specs.declared.word.Word.{Word}
use Rattle.wasm_store.specs.declared.word.Word.TheVariants.{I32, I64}
use Rattle.mid_program.specs.Mid.{Kind, Boxed, Unboxed, ArrayKind, Declared}
use Rattle.mid_program.specs.Sorted.{same_kind}
use Rattle.lower_model.specs.Small.{minus_one, text_beside}

pub data Cell : Type 0 where
  Bits : Word → Cell
  -- a value
  Held : AnyValue → Cell
  -- the keys of an array that are still to be visited
  IteratorOf : ℕ → Cell
  -- an array, with the right to free it, and one that is lent
  OwnedArray : ℕ → Cell
  LentArray : ℕ → Cell
  -- what was moved away
  Gone : Cell

abbrev pub is_owned : Cell → Bool
is_owned (Bits word) = false
is_owned (Held value) = true
is_owned (IteratorOf keys) = true
is_owned (OwnedArray array) = true
is_owned (LentArray array) = false
is_owned Gone = false

-- what stays in a local where it was read
abbrev pub left_by : Cell → Cell
left_by (Bits word) = Bits word
left_by (Held value) = Gone
left_by (IteratorOf keys) = Gone
left_by (OwnedArray array) = Gone
left_by (LentArray array) = LentArray array
left_by Gone = Gone

-- what is read from a global, and what stays there: a global array is only lent
abbrev pub read_global : Cell → Cell
read_global (OwnedArray array) = LentArray array
read_global cell = cell

abbrev pub left_in_global : Cell → Cell
left_in_global (OwnedArray array) = OwnedArray array
left_in_global cell = left_by cell

-- nothing is past the last place
abbrev pub cell_at : List Cell → ℕ → Cell
cell_at cells place = get_or cells place Gone

-- there is such a place, and nothing in it would be lost
abbrev pub has_room : List Cell → ℕ → Bool
has_room cells place = nat_lt place (length cells) && not (is_owned (cell_at cells place))

abbrev pub none_owned : List Cell → Bool
none_owned [] = true
none_owned (cell ∷ cells) = not (is_owned cell) && none_owned cells

-- Arrays that are lent are there: somebody owns them. ARGV and ENVIRON are always there.

abbrev pub owns : ℕ → Cell → Bool
owns array (OwnedArray other) = nat_eq array other
owns array _ = false

abbrev pub has_owner : ℕ → List Cell → Bool
has_owner array [] = false
has_owner array (cell ∷ cells) = owns array cell || has_owner array cells

-- Boundaries: where a statement begins.

abbrev pub is_held : Cell → Bool
is_held (Held value) = true
is_held _ = false

abbrev pub is_array : Cell → Bool
is_array (OwnedArray array) = true
is_array _ = false

abbrev pub is_iterator : Cell → Bool
is_iterator (IteratorOf keys) = true
is_iterator _ = false

-- no value, and no array that is to be freed
abbrev pub no_temporary : List Cell → Bool
no_temporary [] = true
no_temporary (cell ∷ cells) = (not (is_held cell) && not (is_array cell)) && no_temporary cells

abbrev pub count_cells : (Cell → Bool) → List Cell → ℕ
count_cells holds [] = 0
count_cells holds (cell ∷ cells) = cond (holds cell) (suc (count_cells holds cells)) (count_cells holds cells)

abbrev pub iterators_in : List Cell → ℕ
iterators_in cells = count_cells is_iterator cells

-- arrays that are to be freed
abbrev pub arrays_owned : List Cell → ℕ
arrays_owned cells = count_cells is_array cells

-- the number of an unboxed name, beside which no text stands
abbrev pub is_bare : Cell → Bool
is_bare (Bits (I64 number)) = not (nat_eq number text_beside)
is_bare _ = false

-- the first locals are parameters of these kinds; the others hold nothing, iterators aside
abbrev pub tidy_locals : List Kind → List Cell → Bool
tidy_locals [] cells = no_temporary cells
tidy_locals (Boxed ∷ kinds) (cell ∷ cells) = is_held cell && tidy_locals kinds cells
tidy_locals (Unboxed ∷ kinds) (cell ∷ cells) = is_bare cell && tidy_locals kinds cells
tidy_locals (ArrayKind ∷ kinds) (cell ∷ cells) = not (is_owned cell) && tidy_locals kinds cells
tidy_locals (kind ∷ kinds) [] = false

-- Where a caller waits for the answer of a call: its parameters have what they are to have, temporaries before the answer's may have a value each,
-- and no other local has one.

abbrev pub no_value : List Cell → Bool
no_value [] = true
no_value (cell ∷ cells) = not (is_held cell) && no_value cells

abbrev pub is_operand : Cell → Bool
is_operand cell = is_held cell || not (is_owned cell)

-- so many locals of temporaries, one for a handle and one for a number each
abbrev pub operands_wait : ℕ → List Cell → Bool
operands_wait zero cells = no_value cells
operands_wait (suc zero) cells = false
operands_wait (suc (suc count)) [] = false
operands_wait (suc (suc count)) (handle ∷ []) = false
operands_wait (suc (suc count)) (handle ∷ (number ∷ cells)) = (is_operand handle && not (is_owned number)) && operands_wait count cells

-- `answer` is the local that the call's answer goes to
abbrev pub locals_wait : (answer : ℕ) → List Kind → List Cell → Bool
locals_wait zero kinds cells = false
locals_wait (suc answer) kinds [] = false
locals_wait (suc answer) [] (cell ∷ cells) = not (is_owned cell) && operands_wait answer cells
locals_wait (suc answer) (Boxed ∷ kinds) (cell ∷ cells) = is_held cell && locals_wait answer kinds cells
locals_wait (suc answer) (Unboxed ∷ kinds) (cell ∷ cells) = not (is_owned cell) && locals_wait answer kinds cells
locals_wait (suc answer) (ArrayKind ∷ kinds) (cell ∷ cells) = not (is_owned cell) && locals_wait answer kinds cells

-- A name has two globals, for a handle and for a number. A boxed name's handle is there; beside a number there may be one of a text.

abbrev pub tidy_name : Kind → Cell → Bool
tidy_name Boxed cell = is_held cell
tidy_name Unboxed cell = not (is_array cell) && not (is_iterator cell)
tidy_name ArrayKind cell = is_array cell

-- the number of an unboxed name says whether a text stands beside it
abbrev pub is_marked : Cell → Bool
is_marked (Bits (I64 number)) = nat_eq number text_beside
is_marked _ = false

abbrev pub mark_fits : Kind → (handle number : Cell) → Bool
mark_fits Unboxed (Held value) number = is_marked number
mark_fits Unboxed (Bits (I32 word)) number = nat_eq word minus_one && is_bare number
mark_fits Unboxed cell number = false
mark_fits Boxed cell number = true
mark_fits ArrayKind cell number = true

abbrev pub marks_fit : List Kind → List Cell → Bool
marks_fit [] cells = true
marks_fit (kind ∷ kinds) (cell ∷ (number ∷ cells)) = mark_fits kind cell number && marks_fit kinds cells
marks_fit (kind ∷ kinds) _ = false

-- A handle comes into the global of an unboxed name to which nothing is copied only while the command line assigns to that name, or back to where it was
-- moved from.

abbrev pub is_word : Cell → Bool
is_word (Bits word) = true
is_word _ = false

abbrev pub is_gone : Cell → Bool
is_gone Gone = true
is_gone _ = false

-- of each name whether it is such a one
abbrev pub bare_names : List Declared → List Bool
bare_names names = map (λ (name : Declared). same_kind name.kind Unboxed && not name.mixed) names

-- whether a global of names, by its place among them, is the handle of such a one
abbrev pub is_bare_handle : List Bool → (place : ℕ) → Bool
is_bare_handle [] place = false
is_bare_handle (bare ∷ rest) zero = bare
is_bare_handle (bare ∷ rest) (suc zero) = false
is_bare_handle (bare ∷ rest) (suc (suc place)) = is_bare_handle rest place

abbrev pub is_handle_of : Option ℕ → (place : ℕ) → Bool
is_handle_of None place = false
is_handle_of (Some name) place = nat_eq place (name + name)

-- names begin with global `before`
abbrev pub may_come : (before : ℕ) → (bare : List Bool) → (assigning : Option ℕ) → (place : ℕ) → (old new : Cell) → Bool
may_come before bare assigning place old new =
    is_word new || (is_gone old || (not (is_bare_handle bare (place - before)) || is_handle_of assigning (place - before)))

-- once a fault is kept this is a bound from above: a name may have nothing
abbrev pub ended_name : Kind → Cell → Bool
ended_name Boxed cell = not (is_array cell) && not (is_iterator cell)
ended_name Unboxed cell = not (is_array cell) && not (is_iterator cell)
ended_name ArrayKind cell = not (is_held cell) && not (is_iterator cell)

abbrev pub each_name : (Kind → Cell → Bool) → List Kind → List Cell → Bool
each_name fits [] [] = true
each_name fits (kind ∷ kinds) (cell ∷ (number ∷ cells)) = (fits kind cell && not (is_owned number)) && each_name fits kinds cells
each_name fits _ _ = false

-- before the names stand so many that hold no handle
abbrev pub globals_by : (Kind → Cell → Bool) → ℕ → List Kind → List Cell → Bool
globals_by fits before kinds cells = none_owned (take before cells) && each_name fits kinds (drop before cells)
