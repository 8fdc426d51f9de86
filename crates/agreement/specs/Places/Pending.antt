-- How many operands callers that wait have pending: at most as many as limits say, one for each function by its number, and the last one for `main`.
use Rattle.std.specs.Prelude.{ℕ, ◌+◌, ◌≡◌, ◌≤◌, List, [], ◌∷◌, Option, Some, get_or, slice_get}
use Rattle.sem_primitives.specs.declared.sorts.Sort.{Sort}
use Rattle.wasm_model.specs.Machines.{CallerForm, Conf}
use Rattle.host_step.specs.HostState.{HostState}
use Rattle.host_step.specs.Live.{live_values}
use Rattle.mid_program.specs.Mid.{Program}
use Rattle.mid_program.specs.Sorted.{kinds_of}
use Rattle.lower_model.specs.Modules.{all_callees}
use Rattle.agreement.specs.Places.NoLeaks.{AtStatement, CallerWaits, CallersWait, boxed, scalars}

pub record FewPending (limits : List ℕ) (p : Program) (os : List (Option Sort)) (r : CallerForm) (w : CallerWaits p os r) : Type 0 where
  pub number : ℕ
  pub is_number : slice_get (all_callees p) number ≡ Some w.function
  pub few : w.operands ≤ get_or limits number 0

abbrev pub AllFewPending : (limits : List ℕ) (p : Program) (rest : List (List (Option Sort))) (rs : List CallerForm) → CallersWait p rest rs → Type 0
AllFewPending limits p [] rs h = Unit {0}
AllFewPending limits p (os ∷ rest) [] h = Unit {0}
AllFewPending limits p (os ∷ rest) (r ∷ rs) h = FewPending limits p os r h.0 × AllFewPending limits p rest rs h.1

-- of each caller its boxed parameters, and as many operands as the limit of its function says
abbrev pub values_within : (limits : List ℕ) (p : Program) (rest : List (List (Option Sort))) (rs : List CallerForm) (h : CallersWait p rest rs)
    → AllFewPending limits p rest rs h → ℕ
values_within limits p [] rs h few = 0
values_within limits p (os ∷ rest) [] h few = 0
values_within limits p (os ∷ rest) (r ∷ rs) h few = (boxed h.0.function.kinds + get_or limits few.0.number 0) + values_within limits p rest rs h.1 few.1

-- WHERE A STATEMENT BEGINS callers have few operands pending; so at most so many values are alive.
pub record FewAlive (limits : List ℕ) (p : Program) (c : Conf) (s : HostState) (here : AtStatement p c s) : Type 0 where
  pub pending : AllFewPending limits p here.held.waiting c.callers here.called_by.waits
  pub few_values : live_values s ≤ scalars (kinds_of p.globals) + (boxed here.at.function.kinds + values_within limits p here.held.waiting c.callers here.called_by.waits pending)
