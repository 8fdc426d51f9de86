-- Nothing is ever under the greatest number.
use Rattle.std.proofs.Common.{◌≡◌, ◌<ℤ◌, ℤ, Bool, true, false, cond, List, Some, None, Result, Ok, Err, IfOk, OnErr, refl, ap, ◌∙◌, arith}
use Rattle.std.specs.Ordering.{eq_by_cmp, int_cmp, int_eq}
use Rattle.std.specs.Cmp.{int_cmp_total, signed_Decides}
use Rattle.std.specs.FinMap as map
use Rattle.std.specs.FinMap.{FinMap}
use Rattle.awk_values.specs.declared.value.Value.{Value}
use Rattle.wasm_store.specs.declared.trap.TrapKind.{TrapKind}
use Rattle.wasm_store.specs.declared.word.Word.{Word}
use Rattle.host_step.specs.HostStep.{where_fit}
use Rattle.host_values.specs.Calls.{reserved_handle}
use Rattle.host_values.specs.Evaluations.{Evaluation, Outcome, Values, ends_then, front_then, handle_then, left_by}
use Rattle.host_values.specs.declared.spent.Spent.{Spent}
use Rattle.host_values.specs.declared.spent.Spent.TheVariants.{Nothing, One, Two, Three}

put_by : {V : Type 0} (m : FinMap int_cmp V) (h : ℤ) (v : V) → h <ℤ reserved_handle → map.get m reserved_handle ≡ None → map.get (map.insert m h v) reserved_handle ≡ None
put_by m h v below free = map.get-insert int_cmp_total m h v reserved_handle ∙ by (int_eq reserved_handle h) refl
  where
    by : (b : Bool) → int_eq reserved_handle h ≡ b → cond b (Some v) (map.get m reserved_handle) ≡ None
    by true e = let same : reserved_handle ≡ h = (signed_Decides reserved_handle h).0 e in absurd (grind (arith, same, below))
    by false e = free

-- what was put
pub reserved_put : {E V : Type 0} (r : Result ℤ E) (old new : FinMap int_cmp V) (v : V) → IfOk r (λ h. h <ℤ reserved_handle) → IfOk r (λ h. new
    ≡ map.insert old h v) → OnErr r (new ≡ old) → map.get old reserved_handle ≡ None → map.get new reserved_handle ≡ None
reserved_put (Ok h) old new v below stored refused free = ap (λ m. map.get m reserved_handle) stored ∙ put_by old h v below free
reserved_put (Err e) old new v below stored refused free = ap (λ m. map.get m reserved_handle) refused ∙ free

-- a number that is spent
pub reserved_removed : {V : Type 0} (m : FinMap int_cmp V) (h : ℤ) → map.get m reserved_handle ≡ None → map.get (map.remove m h) reserved_handle ≡ None
reserved_removed m h free = map.get-remove int_cmp_total m h reserved_handle ∙ by (eq_by_cmp int_cmp reserved_handle h)
  where
    by : (b : Bool) → cond b None (map.get m reserved_handle) ≡ None
    by true = refl
    by false = free

pub reserved_left : (t : Spent) (m : Values) → map.get m reserved_handle ≡ None → map.get (left_by t m) reserved_handle ≡ None
reserved_left Nothing m free = free
reserved_left (One h) m free = reserved_removed m h free
reserved_left (Two a b) m free = reserved_removed (map.remove m a) b (reserved_removed m a free)
reserved_left (Three a b c) m free = reserved_removed (map.remove (map.remove m a) b) c (reserved_removed (map.remove m a) b (reserved_removed m a free))

-- What an evaluation leaves.

abbrev pub KeepsFree : Evaluation → Type 0
KeepsFree (Ok y) = map.get y.0 reserved_handle ≡ None
KeepsFree (Err k) = Unit {0}

pub front : {A : Type 0} (r : Result (A × List Word) TrapKind) (g : A → List Word → Evaluation) → ((x : A) (rest : List Word) → KeepsFree (g x rest))
    → KeepsFree (front_then r g)
front (Ok x) g h = h x.0 x.1
front (Err k) g h = tt

pub handle : (r : Result (ℤ × Value × List Word) TrapKind) (g : ℤ → Value → List Word → Evaluation) → ((h : ℤ) (v : Value) (rest : List Word)
    → KeepsFree (g h v rest)) → KeepsFree (handle_then r g)
handle (Ok x) g h = h x.0 x.1 x.2
handle (Err k) g h = tt

pub end : (r : Result (Unit {0}) TrapKind) (m : Values) (o : Outcome) → map.get m reserved_handle ≡ None → KeepsFree (ends_then r (Ok (m, o)))
end (Ok u) m o free = free
end (Err k) m o free = tt

fitting : (b : Bool) (m : Values) (o : Outcome) → map.get m reserved_handle ≡ None → KeepsFree (where_fit b (m, o))
fitting true m o free = free
fitting false m o free = tt

pub end_fitting : (r : Result (Unit {0}) TrapKind) (b : Bool) (m : Values) (o : Outcome) → map.get m reserved_handle ≡ None → KeepsFree (ends_then r (where_fit b (m, o)))
end_fitting (Ok u) b m o free = fitting b m o free
end_fitting (Err k) b m o free = tt
