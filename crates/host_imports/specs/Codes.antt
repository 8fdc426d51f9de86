-- What stands for an answer that is none of a sort: the codes of streams, and the words below 0.
use Rattle.std.specs.Prelude.{ℕ, ◌-◌, ◌^◌}
use Rattle.sem_primitives.specs.declared.answers.InputAnswer.{InputAnswer}
use Rattle.sem_primitives.specs.declared.answers.InputAnswer.TheVariants as input
use Rattle.sem_primitives.specs.declared.answers.AssignAnswer.{AssignAnswer}
use Rattle.sem_primitives.specs.declared.answers.AssignAnswer.TheVariants as assign
use Rattle.sem_primitives.specs.declared.answers.StreamAnswer.{StreamAnswer}
use Rattle.sem_primitives.specs.declared.answers.StreamAnswer.TheVariants as stream
use Rattle.wasm_store.specs.declared.word.Word.{Word}
use Rattle.wasm_store.specs.declared.word.Word.TheVariants.{I32}

abbrev pub input_code : InputAnswer → ℕ
input_code input.End = 0
input_code input.Read = 1
input_code input.Pending = 2
input_code input.Failed = 3

abbrev pub assign_code : AssignAnswer → ℕ
assign_code assign.NoneLeft = 0
assign_code assign.Pending = 2

abbrev pub stream_code : StreamAnswer → ℕ
stream_code stream.Done = 0
stream_code stream.NotOpen = 3

-- -1
abbrev pub minus_one : Word
minus_one = I32 (2 ^ 32 - 1)

-- -2: that no key is left
abbrev pub end_word : Word
end_word = I32 (2 ^ 32 - 2)
