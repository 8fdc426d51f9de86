-- Calls with one handle.
use Rattle.std.specs.Prelude.{◌≡◌, ℤ, List, [], ◌∷◌, ◌++◌, Option, None, Result, Ok, Err}
use Rattle.std.specs.Borrow.{Bor}
use Rattle.std.specs.FinMap as map
use Rattle.awk_values.specs.declared.value.Value.{Value}
use Rattle.wasm_store.specs.declared.trap.TrapKind.{TrapKind}
use Rattle.wasm_store.specs.declared.word.Word.{Word}
use Rattle.host_step.specs.Arguments.{no_more}
use Rattle.host_step.specs.HostState.{HostState}
use Rattle.host_values.specs.Evaluations.{Values}
use Rattle.host_values.specs.Fronts.{handle_front}
use Rattle.host_step.specs.declared.refusal.Refusal.{Refusal}
use Rattle.host_step.specs.declared.refusal.Refusal.TheVariants as refusal

abbrev pub only_end : ℤ → Value → Result (Unit {0}) TrapKind → Result (ℤ × Value) TrapKind
only_end h v (Ok u) = Ok (h, v)
only_end h v (Err k) = Err k

abbrev pub only_by : Result (ℤ × Value × List Word) TrapKind → Result (ℤ × Value) TrapKind
only_by (Ok x) = only_end x.0 x.1 (no_more x.2)
only_by (Err k) = Err k

-- the one handle that words name, with its value
abbrev pub only_handle : Values → List Word → Result (ℤ × Value) TrapKind
only_handle values words = only_by (handle_front values words)

abbrev pub only_number : Result (ℤ × Value) TrapKind → Result ℤ TrapKind
only_number (Ok x) = Ok x.0
only_number (Err k) = Err k

abbrev pub only_value : Result (ℤ × Value) TrapKind → Result Value TrapKind
only_value (Ok x) = Ok x.1
only_value (Err k) = Err k

-- the map without it
abbrev pub left_one : Values → Result (ℤ × Value) TrapKind → Values
left_one values (Ok x) = map.remove values x.0
left_one values (Err k) = values

-- a value goes last
abbrev pub IsPushed : List Value → Value → Result (Option Word) Refusal → List Value → Type 0
IsPushed before v (Ok w) after = (w ≡ None) × (after ≡ before ++ v ∷ [])
IsPushed before v (Err refusal.NoMemory) after = Unit {0}
IsPushed before v (Err (refusal.Trap k)) after = ⊥
IsPushed before v (Err (refusal.Fault f)) after = ⊥

abbrev pub lent_only : Result (ℤ × Bor Value) TrapKind → Result (ℤ × Value) TrapKind
lent_only (Ok x) = Ok (x.0, x.1.now)
lent_only (Err k) = Err k

abbrev pub with_arguments : List Value → HostState → HostState
with_arguments arguments s = record s { arguments = arguments }
