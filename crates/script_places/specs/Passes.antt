-- How often a run passed the places of its module, and the first of them on each line of its script.
use Rattle.std.specs.Prelude.{◌≡◌, ◌<◌, ◌≤◌, ◌+◌, ◌&&◌, ℕ, zero, suc, Bool, cond, List, [], ◌∷◌, ◌++◌, Option, Some, None, length, map, nat_eq, option_and_then, slice_get}
use Rattle.std.specs.List.{All, count_by}
use Rattle.awk_grammar.specs.Trees.{Item}
use Rattle.awk_tokens.specs.Cutting.{Spelled}
use Rattle.awk_tree.specs.Lines.{line_at, places_in}
use Rattle.wasm_types.specs.Syntax.{FuncForm, ModuleForm}
use Rattle.wasm_loader.specs.Flat.{Form, Plain, flat}
use Rattle.wasm_machine.specs.declared.places.Place.{Place}
use Rattle.lower_model.specs.Boundaries.{is_nop}
use Rattle.run_report.specs.CountTexts.{at_line}
use Rattle.run_report.specs.declared.counts.PlaceCount.{PlaceCount}

-- before a step: where the frame at work stands, and how many values there are
pub record Moment : Type 0 where
  pub place : Place
  pub values : ℕ

-- Places of the module. A statement, or a part of one, begins with a `nop`: its place is the number of this `nop` among those of the function's code.

-- where the `nop`s are in flat code, which begins at a place
abbrev pub nop_at : ℕ → Form → List ℕ
nop_at at (Plain p) = cond (nat_eq (is_nop p) 0) [] (at ∷ [])
nop_at at _ = []

abbrev pub nops_from : ℕ → List Form → List ℕ
nops_from at [] = []
nops_from at (f ∷ fs) = nop_at at f ++ nops_from (at + 1) fs

abbrev pub nops_of : FuncForm → List ℕ
nops_of func = nops_from 0 (flat 0 func.body)

-- of each function of the module
abbrev pub nops_in : ModuleForm → List (List ℕ)
nops_in whole = map nops_of whole.funcs

-- the entry of a table of rows
abbrev pub entry : List (List ℕ) → ℕ → ℕ → Option ℕ
entry rows f n = option_and_then (λ row. slice_get row n) (slice_get rows f)

-- the frame at work stands there, in a function's flat code
abbrev pub stood : ℕ → ℕ → Moment → Bool
stood f at x = nat_eq x.place.function f && nat_eq x.place.at at

-- before how many steps it stood at a `nop`
abbrev pub times_at : List Moment → ℕ → Option ℕ → ℕ
times_at moments f None = 0
times_at moments f (Some at) = count_by (stood f at) moments

-- HOW OFTEN A PLACE WAS PASSED: before so many steps of the run the frame at work stood at it
abbrev pub passes : List (List ℕ) → List Moment → (function place : ℕ) → ℕ
passes nops moments f k = times_at moments f (entry nops f k)

-- Lines.

-- the places of a function from one on, each with how many tokens of the script stand before it, and how often it was passed
abbrev pub counted_from : List (List ℕ) → List Moment → (function place : ℕ) → List ℕ → List PlaceCount
counted_from nops moments f k [] = []
counted_from nops moments f k (before ∷ rest) = record { before = before; count = passes nops moments f k } ∷ counted_from nops moments f (k + 1) rest

-- the places of so many functions of the script's module
abbrev pub counted_in : List Item → List (List ℕ) → List Moment → (functions : ℕ) → List PlaceCount
counted_in script nops moments zero = []
counted_in script nops moments (suc f) = counted_in script nops moments f ++ counted_from nops moments f 0 (places_in script f)

abbrev pub places_counted : List Item → List (List ℕ) → List Moment → List PlaceCount
places_counted script nops moments = counted_in script nops moments (length nops)

-- a place begins on a line
abbrev pub BeginsOn : List Spelled → ℕ → PlaceCount → Type 0
BeginsOn tokens n p = line_at tokens (Some p.before) ≡ Some n

-- The first of these places that begins on a line: no other one on the line has fewer tokens before it, and it comes before those that have as many.
pub record IsFirst (tokens : List Spelled) (places : List PlaceCount) (n : ℕ) (first : PlaceCount) : Type 0 where
  pub earlier : List PlaceCount
  pub later : List PlaceCount
  pub among : places ≡ earlier ++ first ∷ later
  pub begins : BeginsOn tokens n first
  pub before : All (λ p. BeginsOn tokens n p → first.before < p.before) earlier
  pub after : All (λ p. BeginsOn tokens n p → first.before ≤ p.before) later

abbrev pub IsFirstOf : List Spelled → List PlaceCount → ℕ → Option PlaceCount → Type 0
IsFirstOf tokens places n None = All (λ p. BeginsOn tokens n p → ⊥) places
IsFirstOf tokens places n (Some first) = IsFirst tokens places n first

-- each line has the first place that begins on it, with how often that was passed
abbrev pub AreFirsts : List Spelled → List PlaceCount → List (Option PlaceCount) → Type 0
AreFirsts tokens places lines = (n : ℕ) → IsFirstOf tokens places n (at_line lines n)
