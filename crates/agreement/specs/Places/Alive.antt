-- How much callers that wait may hold: for the theorems of how much is alive where a statement begins.
use Rattle.std.specs.Prelude.{ℕ, ◌+◌, List, [], ◌∷◌, Option}
use Rattle.sem_primitives.specs.declared.sorts.Sort.{Sort}
use Rattle.wasm_model.specs.Machines.{CallerForm}
use Rattle.mid_program.specs.Mid.{Program}
use Rattle.agreement.specs.Places.NoLeaks.{CallersWait, boxed, count, walks}

-- what their locals hold of a sort
abbrev pub count_waiting : Sort → List (List (Option Sort)) → ℕ
count_waiting t [] = 0
count_waiting t (os ∷ rest) = count t os + count_waiting t rest

-- their loops over keys
abbrev pub walks_waiting : List ℕ → List CallerForm → ℕ
walks_waiting numbers [] = 0
walks_waiting numbers (r ∷ rs) = walks numbers r.frame.labels + walks_waiting numbers rs

-- their boxed parameters, and operands that are pending
abbrev pub values_waiting : (p : Program) (rest : List (List (Option Sort))) (rs : List CallerForm) → CallersWait p rest rs → ℕ
values_waiting p [] rs h = 0
values_waiting p (os ∷ rest) [] h = 0
values_waiting p (os ∷ rest) (r ∷ rs) h = (boxed h.0.function.kinds + h.0.operands) + values_waiting p rest rs h.1
