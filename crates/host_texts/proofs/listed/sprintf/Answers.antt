use Rattle.std.proofs.Common.{Ok, Err, refl, subst}
use Rattle.host_imports.specs.declared.import.Import.TheVariants.{Variadic}
use Rattle.host_imports.specs.declared.import.VariadicImport.TheVariants.{Sprintf}
use Rattle.host_values.specs.Singles.{with_arguments}
use Rattle.host_texts.specs.LastFormatted.{Formats, formatting}
use Rattle.host_texts.proofs.LastFormats.{matched_last, matching_last, refused_last, reserved_last, taken_last}
use Rattle.host_values.proofs.Steps.{fault_step, given_step, refused_step}
use Rattle.host_texts.proofs.listed.sprintf.Goals as goal

pub returns-in-Err-clause-step : goal.returns-in-Err-clause-step
returns-in-Err-clause-step c = λ s memory none.
    let t = with_arguments c.args.arguments.now.items s in
    refused_step (Variadic Sprintf) t c.args.handles.now c.args.words.now memory none (formatting c.args.handles.now t c.args.words.now) t c.in-Err.refusal
    (reserved_last c.args.handles.now t c.args.words.now c.requires) (matching_last t c.args.handles.now c.args.words.now memory)
    (refused_last c.args.handles.now t c.in-Err.refusal (formatting c.args.handles.now t c.args.words.now) (subst (λ xs. Formats c.args.handles.now (with_arguments xs s) (Err c.in-Err.refusal) (formatting c.args.handles.now (with_arguments xs s) c.args.words.now)) c.as_slice.ensures (c.in-Err.ensures.step c.args.handles.now s)))

pub returns-in-Ok-outcome-clause-step : goal.returns-in-Ok-outcome-clause-step
returns-in-Ok-outcome-clause-step c = λ s memory none.
    let t = with_arguments c.args.arguments.now.items s in
    let u = with_arguments c.truncate.new.self.items s in
    given_step (Variadic Sprintf) t c.args.handles.now c.args.words.now memory none u c.args.handles.now _ c.in-Ok-outcome.reply c.give.result c.requires
    (matched_last t c.args.handles.now c.args.words.now memory (Ok (c.args.handles.now, (u, Ok c.in-Ok-outcome.reply)))
    (taken_last c.args.handles.now s c.as_slice.result.now c.args.arguments.now.items c.truncate.new.self.items c.len.result c.in-Ok.evaluated (Ok c.in-Ok-outcome.reply) c.args.words.now c.as_slice.ensures c.len.ensures.value c.truncate.ensures.items c.in-Ok-outcome.is (c.in-Ok.ensures.step c.args.handles.now s)))
    c.give.ensures.answer

pub returns-in-Err-outcome-clause-step : goal.returns-in-Err-outcome-clause-step
returns-in-Err-outcome-clause-step c = λ s memory none.
    let t = with_arguments c.args.arguments.now.items s in
    let u = with_arguments c.truncate.new.self.items s in
    fault_step (Variadic Sprintf) t c.args.handles.now c.args.words.now memory none u c.args.handles.now c.args.handles.now c.in-Err-outcome.fault
    (matched_last t c.args.handles.now c.args.words.now memory (Ok (c.args.handles.now, (u, Err c.in-Err-outcome.fault)))
    (taken_last c.args.handles.now s c.as_slice.result.now c.args.arguments.now.items c.truncate.new.self.items c.len.result c.in-Ok.evaluated (Err c.in-Err-outcome.fault) c.args.words.now c.as_slice.ensures c.len.ensures.value c.truncate.ensures.items c.in-Err-outcome.is (c.in-Ok.ensures.step c.args.handles.now s)))
    refl
