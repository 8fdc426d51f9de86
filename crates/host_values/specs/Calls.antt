-- What calls give, and states of the host with a map of values.
use Rattle.std.specs.Prelude.{◌≡◌, ◌<◌, ◌^◌, pos, ℕ, ℤ, Option, Some, Result, Ok, Err, None}
use Rattle.std.specs.Int.{w64, cast_unsigned}
use Rattle.std.specs.FinMap as map
use Rattle.awk_values.specs.declared.fault.Fault.{Fault}
use Rattle.sem_primitives.specs.ConstantNumbers.{flag_number}
use Rattle.host_handles.specs.Tables.{most_slots}
use Rattle.wasm_store.specs.declared.word.Word.{Word}
use Rattle.wasm_store.specs.declared.word.Word.TheVariants.{I32, I64}
use Rattle.host_step.specs.HostState.{HostState, Names}
use Rattle.host_step.specs.declared.refusal.Refusal.{Refusal}
use Rattle.host_step.specs.declared.refusal.Refusal.TheVariants as refusal
use Rattle.host_values.specs.Evaluations.{Evaluates, Evaluation, Values, left_by}
use Rattle.host_values.specs.declared.reply.Evaluated.{Evaluated}
use Rattle.host_values.specs.declared.reply.Reply.{Reply}
use Rattle.host_values.specs.declared.reply.Reply.TheVariants as reply

-- the number that is never a handle
abbrev pub reserved_handle : ℤ
reserved_handle = pos most_slots

-- tables, and a state, with these values
abbrev pub names_with : Values → HostState → Names
names_with values s = record s.names { values = map.entries values }

abbrev pub with_values : Values → HostState → HostState
with_values values s = record s { names = names_with values s }

-- an answer is given: a value under a free handle
abbrev pub Gives : Reply → Values → Result (Option Word) Refusal → Values → Type 0
Gives (reply.Value v) before (Ok w) after = (q : ℕ) × (q < 2 ^ 31) × (map.get before (pos q) ≡ None) × (w ≡ Some (I32 q)) × (after
    ≡ map.insert before (pos q) v)
Gives (reply.Number n) before (Ok w) after = (w ≡ Some (I64 (cast_unsigned w64 n))) × (after ≡ before)
Gives (reply.Truth b) before (Ok w) after = (w ≡ Some (I32 (flag_number b))) × (after ≡ before)
Gives reply.Done before (Ok w) after = (w ≡ Some (I32 0)) × (after ≡ before)
Gives r before (Err refusal.NoMemory) after = after ≡ before
Gives r before (Err (refusal.Trap k)) after = ⊥
Gives r before (Err (refusal.Fault f)) after = ⊥

-- what is spent is gone, and an answer is given, or a fault
abbrev pub SettlesTo : Result Reply Fault → Values → Result (Option Word) Refusal → Values → Type 0
SettlesTo (Ok x) left r after = Gives x left r after
SettlesTo (Err f) left r after = (r ≡ Err (refusal.Fault f)) × (after ≡ left)

-- a call that came to this is carried out; one that was refused leaves the values
abbrev pub CarriesOut : Result Evaluated Refusal → Values → Result (Option Word) Refusal → Values → Type 0
CarriesOut (Ok e) before r after = SettlesTo e.outcome (left_by e.spent before) r after
CarriesOut (Err x) before r after = (r ≡ Err x) × (after ≡ before)

-- what a call comes to, whatever else the state is, is carried out
pub record IsCarriedOut (e : HostState → Evaluation) (before : Values) (r : Result (Option Word) Refusal) (after : Values) : Type 0 where
  pub evaluated : Result Evaluated Refusal
  pub evaluates : (s : HostState) → Evaluates before s evaluated s (e s)
  pub carried : CarriesOut evaluated before r after
