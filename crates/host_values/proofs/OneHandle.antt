-- Calls with one handle are steps.
use Rattle.std.proofs.Common.{◌≡◌, ◌≢◌, ℕ, ℤ, Bool, true, false, cond, List, [], ◌∷◌, ◌++◌, Option, Some, None, Result, Ok, Err, refl, sym, ap, subst, ◌∙◌}
use Rattle.std.specs.Int.{w32, cast_signed}
use Rattle.std.specs.Prelude.{is_some, ◌&&◌}
use Rattle.std.specs.FinMap as map
use Rattle.awk_values.specs.declared.fault.Fault.{Fault}
use Rattle.awk_values.specs.declared.value.Value.{Value}
use Rattle.sem_primitives.specs.Sorts.{Row}
use Rattle.sem_primitives.specs.declared.sorts.Argument.TheVariants as argument
use Rattle.sem_primitives.specs.declared.sorts.Answer.TheVariants as answer
use Rattle.sem_primitives.specs.declared.sorts.Sort.{Sort}
use Rattle.sem_primitives.specs.declared.sorts.Sort.TheVariants as sort
use Rattle.wasm_model.specs.declared.host.HostAnswer.{HostAnswer}
use Rattle.wasm_model.specs.declared.host.HostAnswer.TheVariants as told
use Rattle.wasm_store.specs.declared.trap.TrapKind.{TrapKind}
use Rattle.wasm_store.specs.declared.trap.TrapKind.TheVariants.{BadHandle}
use Rattle.wasm_store.specs.declared.word.Word.{Word}
use Rattle.wasm_store.specs.declared.word.Word.TheVariants.{I32, I64}
use Rattle.host_step.specs.Arguments.{and_then, decode, said, spent_if}
use Rattle.host_step.specs.HostState.{HostState, Names}
use Rattle.host_step.specs.HostStep.{Acts, Refuses, StepBy, StepOf, acts, carried, come}
use Rattle.host_imports.specs.Imports.{spends}
use Rattle.host_step.specs.Tables.{Table}
use Rattle.host_imports.specs.declared.import.Import.TheVariants.{Arg, Drop}
use Rattle.host_values.specs.Calls.{names_with, reserved_handle, with_values}
use Rattle.host_values.specs.Evaluations.{Values}
use Rattle.host_values.specs.Fronts.{found}
use Rattle.host_step.specs.Outcomes.{IsCall}
use Rattle.host_values.specs.Singles.{IsPushed, left_one, only_by, only_handle, only_value, with_arguments}
use Rattle.host_step.specs.declared.refusal.Refusal.{Refusal}
use Rattle.host_step.specs.declared.refusal.Refusal.TheVariants as why
use Rattle.host_values.proofs.Entries.{entries_remove, look_entries}
use Rattle.host_values.proofs.ReservedHandle.{reserved_removed}
use Rattle.host_values.proofs.Steps.{unshared}

-- a value and the tables without its handle
abbrev pub as_row : HostState → Values → Result (ℤ × Value) TrapKind → Result (Row (argument.Of sort.Value ∷ []) × Names) TrapKind
as_row s m (Ok x) = Ok ((x.1, tt), names_with (map.remove m x.0) s)
as_row s m (Err k) = Err k

rest_of : (s : HostState) (m : Values) (h : ℤ) (names : Names) (spent : Sort → Bool) (memory : List ℕ) (rest : List Word) (o : Option Value)
    → names ≡ names_with (map.remove m h) s →
    and_then (said BadHandle o rest) (λ x. and_then (decode spent memory names [] x.1) (λ y. Ok ((x.0, y.0), y.1)))
    ≡ as_row s m (only_by (found h o rest))
rest_of s m h names spent memory rest None same = refl
rest_of s m h names spent memory [] (Some v) same = ap (λ (n : Names). Ok ((v, tt), n)) same
rest_of s m h names spent memory (w ∷ rest) (Some v) same = refl

pub decoded : (spent : Sort → Bool) → spent sort.Value ≡ true → (s : HostState) (m : Values) (memory : List ℕ) (words : List Word)
    → decode spent memory (names_with m s) (argument.Of sort.Value ∷ []) words ≡ as_row s m (only_handle m words)
decoded spent takes s m memory [] = refl
decoded spent takes s m memory (I64 n ∷ rest) = refl
decoded spent takes s m memory (I32 n ∷ rest) =
    let h = cast_signed w32 n in
    ap (λ (o : Option Value). and_then (said BadHandle o rest) (λ x. and_then (decode spent memory (spent_if (spent sort.Value) sort.Value (I32 n
    ∷ rest) (names_with m s)) [] x.1) (λ y. Ok ((x.0, y.0), y.1)))) (look_entries m h)
    ∙ rest_of s m h (spent_if (spent sort.Value) sort.Value (I32 n ∷ rest) (names_with m s)) spent memory rest (map.get m h)
    (ap (λ b. spent_if b sort.Value (I32 n
    ∷ rest) (names_with m s)) takes ∙ ap (λ (t : Table Value). record s.names { values = t }) (entries_remove m h))

-- Letting go.

never : (o : Option Fault) → is_some o && false ≡ false
never None = refl
never (Some f) = refl

release_by : (s : HostState) (m m' : Values) (words : List Word) (memory : List ℕ) (a : HostAnswer)
    → StepBy answer.Nothing (with_values m s) (come (carried Drop words memory (with_values m s))) a (with_values m' s) []
    → StepOf Drop (with_values m s) words memory a (with_values m' s) []
release_by s m m' words memory a h = subst (λ (b : Bool). StepBy answer.Nothing (with_values m s) (cond b Refuses (come (carried Drop words memory (with_values m s)))) a (with_values m' s) []) (sym (never s.fault)) h

abbrev dropped : HostState → Result (Row (argument.Of sort.Value ∷ []) × Names) TrapKind → Result (Names × Acts (Unit {0})) TrapKind
dropped s r = and_then r (λ x. and_then (acts Drop x.0 s) (λ d. Ok (x.1, d)))

pub released : (s : HostState) (m m' : Values) (words : List Word) (memory : List ℕ) (h : ℤ) (v : Value) → only_handle m words ≡ Ok (h, v) → m'
    ≡ map.remove m h → IsCall Drop (with_values m s) words memory (Ok None) (with_values m' s)
released s m m' words memory h v is left = release_by s m m' words memory (told.Done None)
    (subst (λ (r : Result (Row (argument.Of sort.Value
    ∷ []) × Names) TrapKind). StepBy answer.Nothing (with_values m s) (come (dropped (with_values m s) r)) (told.Done None) (with_values m' s) []) (sym (decoded (spends Drop) refl s m memory words ∙ ap (as_row s m) is))
    (0, tt, record { word = refl; state = ap (λ t. with_values t s) left ∙ sym (unshared (names_with (map.remove m h) s) s s.fault); added = refl }))

pub release_trapped : (s : HostState) (m : Values) (words : List Word) (memory : List ℕ) (k : TrapKind) → only_handle m words
    ≡ Err k → IsCall Drop (with_values m s) words memory (Err (why.Trap k)) (with_values m s)
release_trapped s m words memory k is = release_by s m m words memory (told.Trap k)
    (subst (λ (r : Result (Row (argument.Of sort.Value
    ∷ []) × Names) TrapKind). StepBy answer.Nothing (with_values m s) (come (dropped (with_values m s) r)) (told.Trap k) (with_values m s) []) (sym (decoded (spends Drop) refl s m memory words ∙ ap (as_row s m) is))
    (record { trap = refl; state = refl; added = refl }))

-- Appending.

abbrev holding : List Value → Values → HostState → HostState
holding arguments m s = with_arguments arguments (with_values m s)

append_by : (s : HostState) (arguments : List Value) (m : Values) (words : List Word) (memory : List ℕ) (a : HostAnswer) (after : HostState)
    → s.fault ≡ None → StepBy answer.Nothing (holding arguments m s) (come (carried Arg words memory (holding arguments m s))) a after []
    → StepOf Arg (holding arguments m s) words memory a after []
append_by s arguments m words memory a after none h = subst (λ (f : Option Fault). StepBy answer.Nothing (holding arguments m s) (cond (is_some f && true) Refuses (come (carried Arg words memory (holding arguments m s)))) a after []) (sym none) h

abbrev added : HostState → Result (Row (argument.Of sort.Value ∷ []) × Names) TrapKind → Result (Names × Acts (Unit {0})) TrapKind
added s r = and_then r (λ x. and_then (acts Arg x.0 s) (λ d. Ok (x.1, d)))

append_step : (s : HostState) (arguments : List Value) (m m' : Values) (words : List Word) (memory : List ℕ) (h : ℤ) (v : Value) → s.fault
    ≡ None → only_handle m words ≡ Ok (h, v) → m' ≡ map.remove m h
    → StepOf Arg (holding arguments m s) words memory (told.Done None) (holding (arguments ++ v ∷ []) m' s) []
append_step s arguments m m' words memory h v none is left = append_by s arguments m words memory (told.Done None) (holding (arguments ++ v
    ∷ []) m' s) none
    (subst (λ (r : Result (Row (argument.Of sort.Value
    ∷ []) × Names) TrapKind). StepBy answer.Nothing (holding arguments m s) (come (added (holding arguments m s) r)) (told.Done None) (holding (arguments ++ v ∷ []) m' s) []) (sym (decoded (spends Arg) refl (with_arguments arguments s) m memory words ∙ ap (as_row s m) is)) (
      0,
      tt,
      record {
        word = refl;
        state = ap (λ t. holding (arguments ++ v
            ∷ []) t s) left ∙ sym (unshared (names_with (map.remove m h) s) (with_arguments (arguments ++ v ∷ []) s) s.fault);
        added = refl;
      },
    ))

pub appended : (s : HostState) (arguments now : List Value) (m m' : Values) (words : List Word) (memory : List ℕ) (h : ℤ) (v : Value) → s.fault
    ≡ None → only_handle m words ≡ Ok (h, v) → m' ≡ map.remove m h → now ≡ arguments ++ v ∷ [] → IsCall Arg (holding arguments m s) words memory (Ok None) (holding now m' s)
appended s arguments now m m' words memory h v none is left same = subst (λ (xs : List Value). StepOf Arg (holding arguments m s) words memory (told.Done None) (holding xs m' s) []) (sym same) (append_step s arguments m m' words memory h v none is left)

pub append_refused : (s : HostState) (arguments now : List Value) (m m' : Values) (words : List Word) (memory : List ℕ) (h : ℤ) (v : Value)
    → s.fault ≡ None → only_handle m words ≡ Ok (h, v) → IsCall Arg (holding arguments m s) words memory (Err why.NoMemory) (holding now m' s)
append_refused s arguments now m m' words memory h v none is = (
  told.Done None,
  apart,
  holding (arguments ++ v
      ∷ []) (map.remove m h) s,
  append_step s arguments m (map.remove m h) words memory h v none is refl,
) where
  apart : told.Done None ≢ told.NoMemory
  apart e = cc

pub append_trapped : (s : HostState) (arguments : List Value) (m : Values) (words : List Word) (memory : List ℕ) (k : TrapKind) → s.fault
    ≡ None → only_handle m words ≡ Err k → IsCall Arg (holding arguments m s) words memory (Err (why.Trap k)) (holding arguments m s)
append_trapped s arguments m words memory k none is = append_by s arguments m words memory (told.Trap k) (holding arguments m s) none
    (subst (λ (r : Result (Row (argument.Of sort.Value
    ∷ []) × Names) TrapKind). StepBy answer.Nothing (holding arguments m s) (come (added (holding arguments m s) r)) (told.Trap k) (holding arguments m s) []) (sym (decoded (spends Arg) refl (with_arguments arguments s) m memory words ∙ ap (as_row s m) is))
    (record { trap = refl; state = refl; added = refl }))

-- What was taken, and what became of it.

found_value : (r : Result (ℤ × Value) TrapKind) (v : Value) → Ok v ≡ only_value r → (h : ℤ) × (r ≡ Ok (h, v))
found_value (Ok x) v e = (x.0, ap (λ (y : Value). Ok (x.0, y)) (same_ok x.1 v e)) where
  same_ok : (a b : Value) → ◌≡◌ {A = Result Value TrapKind} (Ok b) (Ok a) → a ≡ b
  same_ok a b q = cc
found_value (Err k) v e = cc

found_trap : (r : Result (ℤ × Value) TrapKind) (k : TrapKind) → Err k ≡ only_value r → r ≡ Err k
found_trap (Ok x) k e = cc
found_trap (Err j) k e = cc

pub release_well : (s : HostState) (m m' : Values) (words : List Word) (memory : List ℕ) (v : Value) → Ok v
    ≡ only_value (only_handle m words) → m' ≡ left_one m (only_handle m words) → IsCall Drop (with_values m s) words memory (Ok None) (with_values m' s)
release_well s m m' words memory v e left = let h = found_value (only_handle m words) v e in released s m m' words memory h.0 v h.1 (left ∙ ap (left_one m) h.1)

pub release_badly : (s : HostState) (m m' : Values) (words : List Word) (memory : List ℕ) (k : TrapKind) → Err k
    ≡ only_value (only_handle m words) → m' ≡ left_one m (only_handle m words) → IsCall Drop (with_values m s) words memory (Err (why.Trap k)) (with_values m' s)
release_badly s m m' words memory k e left =
    let is = found_trap (only_handle m words) k e in
    subst (λ (x : Values). IsCall Drop (with_values m s) words memory (Err (why.Trap k)) (with_values x s)) (sym (left ∙ ap (left_one m) is)) (release_trapped s m words memory k is)

pub append_well : (s : HostState) (arguments now : List Value) (m m' : Values) (words : List Word) (memory : List ℕ) (v : Value) (r : Result (Option Word) Refusal) → s.fault ≡ None → Ok v ≡ only_value (only_handle m words) → m' ≡ left_one m (only_handle m words) → IsPushed arguments v r now → IsCall Arg (holding arguments m s) words memory r (holding now m' s)
append_well s arguments now m m' words memory v (Ok w) none e left pushed =
    let h = found_value (only_handle m words) v e in
    subst (λ (x : Option Word). IsCall Arg (holding arguments m s) words memory (Ok x) (holding now m' s)) (sym pushed.0)
    (appended s arguments now m m' words memory h.0 v none h.1 (left ∙ ap (left_one m) h.1) pushed.1)
append_well s arguments now m m' words memory v (Err why.NoMemory) none e left pushed = let h = found_value (only_handle m words) v e in append_refused s arguments now m m' words memory h.0 v none h.1
append_well s arguments now m m' words memory v (Err (why.Trap k)) none e left pushed = absurd pushed
append_well s arguments now m m' words memory v (Err (why.Fault f)) none e left pushed = absurd pushed

pub append_badly : (s : HostState) (arguments : List Value) (m m' : Values) (words : List Word) (memory : List ℕ) (k : TrapKind) → s.fault
    ≡ None → Err k ≡ only_value (only_handle m words) → m' ≡ left_one m (only_handle m words)
    → IsCall Arg (holding arguments m s) words memory (Err (why.Trap k)) (holding arguments m' s)
append_badly s arguments m m' words memory k none e left =
    let is = found_trap (only_handle m words) k e in
    subst (λ (x : Values). IsCall Arg (holding arguments m s) words memory (Err (why.Trap k)) (holding arguments x s)) (sym (left ∙ ap (left_one m) is)) (append_trapped s arguments m words memory k none is)

reserved_by : (m : Values) (r : Result (ℤ × Value) TrapKind) → map.get m reserved_handle ≡ None → map.get (left_one m r) reserved_handle ≡ None
reserved_by m (Ok x) free = reserved_removed m x.0 free
reserved_by m (Err k) free = free

pub reserved_one : (m m' : Values) (words : List Word) → m' ≡ left_one m (only_handle m words) → map.get m reserved_handle ≡ None → map.get m' reserved_handle ≡ None
reserved_one m m' words left free = ap (λ x. map.get x reserved_handle) left ∙ reserved_by m (only_handle m words) free
