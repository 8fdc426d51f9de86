-- Calls one after another, for examples.
use Rattle.std.specs.Prelude.{ℕ, suc, pos, List, [], ◌∷◌, codes, Option, Some, None, Result, Ok, Err}
use Rattle.awk_values.specs.declared.fault.Fault.{Fault}
use Rattle.awk_values.specs.declared.value.Value.{Value}
use Rattle.sem_primitives.specs.Jobs.{JobForm}
use Rattle.sem_primitives.specs.declared.table.Primitive.{Primitive}
use Rattle.wasm_model.specs.declared.host.HostAnswer.{HostAnswer}
use Rattle.wasm_model.specs.declared.host.HostAnswer.TheVariants.{Done, Trap}
use Rattle.wasm_store.specs.declared.trap.TrapKind.{TrapKind}
use Rattle.wasm_store.specs.declared.word.Word.{Word}
use Rattle.wasm_store.specs.declared.word.Word.TheVariants.{I32, I64}
use Rattle.world_core.specs.declared.world.Ending.TheVariants.{End}
use Rattle.world_core.specs.WorldState.{Action, Entry, Outside, Named, Source, absent, replaced}
use Rattle.host_step.specs.HostState.{HostState}
use Rattle.host_step.specs.HostStep.{Given}
use Rattle.host_step.specs.NumberedStep.{step}
use Rattle.host_step.specs.Starts.{state_at_start}
use Rattle.host_step.specs.Tables.{entered}
use Rattle.host_imports.specs.declared.import.Import.{Import}
use Rattle.host_imports.specs.declared.import.Import.TheVariants.{OfPrimitive}

-- an import with its words; what is new gets this number
pub record Call : Type 0 where
  pub number : ℕ
  pub import : Import
  pub words : List Word

abbrev pub new : ℕ → Import → List Word → Call
new q i words = record { number = q; import = i; words = words }

-- where nothing new comes
abbrev pub call : Import → List Word → Call
call i words = new 0 i words

abbrev pub shown : Result Given TrapKind → HostAnswer
shown (Ok g) = Done g.word
shown (Err kind) = Trap kind

abbrev pub left : HostState → Result Given TrapKind → HostState
left s (Ok g) = g.after
left s (Err kind) = s

abbrev pub result_of : List ℕ → HostState → Call → Result Given TrapKind
result_of memory s c = step c.number c.import c.words memory s

-- what the calls answer, and the state after them; a trap changes nothing, and the calls after it are made all the same
abbrev pub answers : List ℕ → HostState → List Call → List HostAnswer
answers memory s [] = []
answers memory s (c ∷ cs) = shown (result_of memory s c) ∷ answers memory (left s (result_of memory s c)) cs

abbrev pub after : List ℕ → HostState → List Call → HostState
after memory s [] = s
after memory s (c ∷ cs) = after memory (left s (result_of memory s c)) cs

-- answers

abbrev pub done : HostAnswer
done = Done None

abbrev pub gives : ℕ → HostAnswer
gives n = Done (Some (I32 n))

abbrev pub counts : ℕ → HostAnswer
counts n = Done (Some (I64 n))

-- -1, and the least number of 64 bits
abbrev pub fails : HostAnswer
fails = gives 4294967295

abbrev pub fails_wide : HostAnswer
fails_wide = counts 9223372036854775808

-- states

abbrev pub no_job : JobForm
no_job = record { operands = []; assigns = []; environment = [] }

abbrev pub input : List ℕ → Source
input bytes = record { rest = bytes; ending = End }

abbrev pub nowhere : Outside
nowhere = λ target. absent

-- no operand, no input, no file
abbrev pub start : HostState
start = state_at_start no_job (input []) nowhere

-- the values have the handles from n on
abbrev pub with_handles : ℕ → List Value → HostState → HostState
with_handles n [] s = s
with_handles n (v ∷ vs) s = with_handles (suc n) vs (record s { names = record s.names { values = entered (pos n) v s.names.values } })

abbrev pub holding : List Value → HostState
holding values = with_handles 0 values start

abbrev pub with_fault : Fault → HostState → HostState
with_fault f s = record s { fault = Some f }

abbrev pub file : List ℕ → Entry
file bytes = record absent { bytes = Some bytes }

abbrev pub with_outside : Outside → HostState → HostState
with_outside outside s = record s { shared = record s.shared { outside = outside } }
