use Rattle.std.proofs.Common.{◌≡◌, drop}
use Rattle.wasm_types.specs.View.{views}
use Rattle.lower_model.specs.Modules.{calls_in}
use Rattle.lower_modules.specs.Calls.{noted}
use Rattle.lower_modules.proofs.called_imports.+calls.Given as goal

abbrev pub invariant-note_calls_in-loop-instr : goal.invariant-note_calls_in-loop-instr
invariant-note_calls_in-loop-instr l = noted (λ i. calls_in i (views (drop l.instr-index l.code))) l.called ≡ noted (λ i. calls_in i (views l.code)) l.initial.called
