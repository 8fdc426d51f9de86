-- Answers as they are handed on: a kind, and the bits of a word.
use Rattle.std.specs.Prelude.{ℕ, ◌^◌, ◌<◌, Bool, true, false, Option, Some, None}
use Rattle.wasm_store.specs.declared.trap.TrapKind.{TrapKind}
use Rattle.wasm_store.specs.declared.trap.TrapKind.TheVariants as trap
use Rattle.wasm_store.specs.declared.word.Word.{Word}
use Rattle.wasm_store.specs.declared.word.Word.TheVariants.{I32, I64}
use Rattle.wasm_model.specs.declared.host.HostAnswer.{HostAnswer}
use Rattle.wasm_model.specs.declared.host.HostAnswer.TheVariants.{Done, NoMemory, Trap}
use Rattle.wasm_model.specs.declared.brief.AnswerKind.{AnswerKind}
use Rattle.wasm_model.specs.declared.brief.AnswerKind.TheVariants as of

abbrev pub answer_of : AnswerKind → ℕ → HostAnswer
answer_of of.I32 bits = Done (Some (I32 bits))
answer_of of.I64 bits = Done (Some (I64 bits))
answer_of of.Nothing bits = Done None
answer_of of.NoMemory bits = NoMemory
answer_of of.Unreachable bits = Trap trap.Unreachable
answer_of of.DivideByZero bits = Trap trap.DivideByZero
answer_of of.IntegerOverflow bits = Trap trap.IntegerOverflow
answer_of of.MemoryBounds bits = Trap trap.MemoryBounds
answer_of of.TableBounds bits = Trap trap.TableBounds
answer_of of.EmptyElement bits = Trap trap.EmptyElement
answer_of of.WrongType bits = Trap trap.WrongType
answer_of of.BadHandle bits = Trap trap.BadHandle
answer_of of.BadPointer bits = Trap trap.BadPointer
answer_of of.BadArgument bits = Trap trap.BadArgument

-- the bits of a word of 32 bits are so many
abbrev pub IsBrief : AnswerKind → ℕ → Type 0
IsBrief of.I32 bits = bits < 2 ^ 32
IsBrief _ bits = Unit {0}

abbrev pub kind_of_trap : TrapKind → AnswerKind
kind_of_trap trap.Unreachable = of.Unreachable
kind_of_trap trap.DivideByZero = of.DivideByZero
kind_of_trap trap.IntegerOverflow = of.IntegerOverflow
kind_of_trap trap.MemoryBounds = of.MemoryBounds
kind_of_trap trap.TableBounds = of.TableBounds
kind_of_trap trap.EmptyElement = of.EmptyElement
kind_of_trap trap.WrongType = of.WrongType
kind_of_trap trap.BadHandle = of.BadHandle
kind_of_trap trap.BadPointer = of.BadPointer
kind_of_trap trap.BadArgument = of.BadArgument

-- the result, where it is done with one
abbrev pub result_of : HostAnswer → Option Word
result_of (Done w) = w
result_of _ = None

-- done, without one
abbrev pub is_nothing : HostAnswer → Bool
is_nothing (Done None) = true
is_nothing _ = false
