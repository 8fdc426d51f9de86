-- What these calls answer, and what the tables show after them.
use Rattle.std.specs.Prelude.{Option, Some, Result, Ok, Err}
use Rattle.wasm_store.specs.declared.word.Word.{Word}
use Rattle.wasm_store.specs.declared.word.Word.TheVariants.{I32}
use Rattle.awk_values.specs.declared.fault.Stop.{Stop}
use Rattle.awk_values.specs.declared.fault.Stop.TheVariants.{Fault as IsFault, NoMemory}
use Rattle.sem_primitives.specs.declared.answers.InputAnswer.{InputAnswer}
use Rattle.host_imports.specs.Codes.{input_code}
use Rattle.host_values.specs.Evaluations.{Values}
use Rattle.host_step.specs.declared.refusal.Refusal.{Refusal}
use Rattle.host_step.specs.declared.refusal.Refusal.TheVariants as why
use Rattle.host_values.specs.Forms.{HostForm}

-- What the tables show after a call. At a fault the definition changes nothing but what the call spends, whatever was read by then: a host that keeps a
-- fault looks at nothing else any more.
abbrev pub shown_after : Result (Option Word) Refusal → HostForm → HostForm → HostForm
shown_after (Err (why.Fault f)) before after = record before { values = after.values }
shown_after result before after = after

abbrev pub with_values : Values → HostForm → HostForm
with_values values f = record f { values = values }

-- what a call answers where this was read
abbrev pub answered_by : Result InputAnswer Stop → Result (Option Word) Refusal
answered_by (Ok answer) = Ok (Some (I32 (input_code answer)))
answered_by (Err (IsFault fault)) = Err (why.Fault fault)
answered_by (Err NoMemory) = Err why.NoMemory
