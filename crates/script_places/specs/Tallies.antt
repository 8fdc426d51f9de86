-- Tallies: what the steps of a run are counted in. It serves contracts.
use Rattle.std.specs.Prelude.{◌≡◌, ◌+◌, ◌-◌, ◌^◌, ◌++◌, ℕ, zero, suc, List, [], ◌∷◌, Option, Some, None, IfSome, if◌then◌else◌, length, map, min, nat_le}
use Rattle.std.specs.List.{count_by}
use Rattle.std.specs.declared.alloc.Global.{Global}
use Rattle.std.specs.declared.vec.Vec.{Vec}
use Rattle.wasm_loader.specs.Flat.{Form}
use Rattle.wasm_machine.specs.declared.places.Place.{Place}
use Rattle.run_report.specs.declared.counts.PlaceCount.{PlaceCount}
use Rattle.script_places.specs.Passes.{Moment, entry, nops_from, stood}

-- the items of each row
abbrev pub rows_of : {A : Type 0} → List (Vec A Global) → List (List A)
rows_of rows = map (λ row. row.items) rows

-- A walk over flat code, from one place on: to the `nop`s before it those in it are added, and it comes to the place after it.
pub record IsWalked (before : List ℕ) (at : ℕ) (code : List Form) (after : List ℕ) (next : ℕ) : Type 0 where
  pub places : after ≡ before ++ nops_from at code
  pub past : next ≡ at + length code

-- a table says before how many steps the frame at work stood at each place
abbrev pub AreTallied : List Moment → List (List ℕ) → Type 0
AreTallied moments rows = (f at : ℕ) → IfSome (entry rows f at) (λ n. n ≡ count_by (stood f at) moments)

-- a number is one more, up to the greatest of 64 bits
abbrev pub one_more : ℕ → ℕ
one_more n = min (n + 1) (2 ^ 64 - 1)

abbrev pub more_at : List ℕ → ℕ → List ℕ
more_at [] at = []
more_at (n ∷ ns) zero = one_more n ∷ ns
more_at (n ∷ ns) (suc at) = n ∷ more_at ns at

abbrev pub more_in : List (List ℕ) → ℕ → ℕ → List (List ℕ)
more_in [] f at = []
more_in (row ∷ rows) zero at = more_at row at ∷ rows
more_in (row ∷ rows) (suc f) at = row ∷ more_in rows f at

-- of a place that is told, if one is
abbrev pub more_if : List (List ℕ) → Option Place → List (List ℕ)
more_if rows None = rows
more_if rows (Some place) = more_in rows place.function place.at

-- the earlier of two places, the first where as many tokens stand before both
abbrev pub earlier_of : Option PlaceCount → PlaceCount → PlaceCount
earlier_of None p = p
earlier_of (Some first) p = if nat_le first.before p.before then first else p
