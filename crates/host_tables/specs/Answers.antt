-- What is answered to a call, as the code has it.
use Rattle.std.specs.Prelude.{Bool, true, false, cond, Option, Some, None, Result, Ok, Err}
use Rattle.sem_primitives.specs.declared.sorts.Answer.{Answer}
use Rattle.sem_primitives.specs.declared.sorts.Answer.TheVariants as answer
use Rattle.sem_primitives.specs.declared.sorts.Sort.TheVariants.{Number}
use Rattle.wasm_model.specs.declared.host.HostAnswer.{HostAnswer}
use Rattle.wasm_model.specs.declared.host.HostAnswer.TheVariants as told
use Rattle.wasm_store.specs.declared.trap.TrapKind.TheVariants.{BadArgument}
use Rattle.wasm_store.specs.declared.word.Word.{Word}
use Rattle.wasm_store.specs.declared.word.Word.TheVariants.{I32, I64}
use Rattle.host_imports.specs.Imports.{import_answer}
use Rattle.host_imports.specs.declared.import.Import.{Import}
use Rattle.host_step.specs.declared.refusal.Refusal.{Refusal}
use Rattle.host_values.specs.TableCalls.{answer_of_call}

abbrev pub is_narrow : Option Word → Bool
is_narrow (Some (I32 n)) = true
is_narrow _ = false

abbrev pub is_wide : Option Word → Bool
is_wide (Some (I64 n)) = true
is_wide _ = false

abbrev pub is_nothing : Option Word → Bool
is_nothing None = true
is_nothing (Some w) = false

-- a word is as wide as the answer's
abbrev pub fits : Answer → Option Word → Bool
fits answer.Nothing w = is_nothing w
fits (answer.Of Number) w = is_wide w
fits _ w = is_narrow w

abbrev pub told_as : Import → Result (Option Word) Refusal → HostAnswer
told_as i (Ok w) = cond (fits (import_answer i) w) (told.Done w) (told.Trap BadArgument)
told_as i (Err r) = answer_of_call i (Err r)
