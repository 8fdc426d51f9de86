-- The walk over code that marks what the code stores.
use Rattle.std.specs.Prelude.{ℕ, List, [], ◌∷◌, ◌++◌, length, map}
use Rattle.mid_program.specs.Mid.{Code, Form, Kind, Routine}
use Rattle.value_kinds.specs.Lanes.{Lanes, Scan, all_visited, marked, routines_visited, seen}
use Rattle.mid_program.specs.Stores.{Store, stores}

pub record Walk : Type 0 where
  -- the names whose copies count
  pub numbers : Lanes
  pub lanes : Lanes
  pub scan : Scan
  -- in which function the code stands
  pub function : ℕ

-- these stores are marked
abbrev pub after : Walk → List Store → Walk
after w ss = record w { lanes = all_visited (marked w.numbers) w.function w.lanes ss; scan = all_visited seen w.function w.scan ss }

-- of codes, one after the other, where things of these forms are kept
abbrev pub stores_each : List Form → List Code → List Store
stores_each fs [] = []
stores_each fs (e ∷ es) = stores fs e ++ stores_each fs es

abbrev pub parameters_in : List Routine → List (List Kind)
parameters_in rs = map (λ (r : Routine). r.parameters) rs

-- over the bodies of a program's functions; what comes next stands in none of them
abbrev pub after_routines : Walk → List Routine → Walk
after_routines w rs = record w {
  lanes = routines_visited (marked w.numbers) 0 w.lanes rs;
  scan = routines_visited seen 0 w.scan rs;
  function = length rs;
}
