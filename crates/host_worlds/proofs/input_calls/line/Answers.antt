use Rattle.std.proofs.Common.{Err, subst, sym, ◌∙◌}
use Rattle.sem_primitives.specs.declared.table.Primitive.TheVariants as row
use Rattle.wasm_store.specs.declared.trap.TrapKind.TheVariants.{BadArgument}
use Rattle.host_imports.specs.declared.import.Import.TheVariants.{OfPrimitive}
use Rattle.host_step.specs.declared.refusal.Refusal.TheVariants as why
use Rattle.host_values.specs.ElementCalls.{IsTableCall}
use Rattle.host_worlds.specs.States.{form_line}
use Rattle.host_worlds.proofs.LineCalls.{line_answers, line_missing, line_trapped}
use Rattle.host_worlds.proofs.input_calls.line.Goals as goal

pub returns-in-Err-clause-step : goal.returns-in-Err-clause-step
returns-in-Err-clause-step c = λ f memory none.
    line_trapped (form_line c.args.handles.now c.args.input.now.line f) memory none c.args.words.now c.in-Err.kind (sym c.in-Err.ensures)

pub returns-in-Some-clause-step : goal.returns-in-Some-clause-step
returns-in-Some-clause-step c = λ f memory none.
    let before = form_line c.args.handles.now c.args.input.now.line f in
    subst (λ l. IsTableCall (OfPrimitive row.Line) before c.args.words.now memory c.give.result (form_line c.give.new.handles l f)) (sym c.take.ensures.after)
    (line_answers before memory none c.in-Some.value (sym c.in-Some.ensures.value) c.args.words.now (sym c.in_default.ensures) c.give.new.handles c.give.result c.requires c.give.ensures.answer)

pub returns-in-None-clause-step : goal.returns-in-None-clause-step
returns-in-None-clause-step c = λ f memory none.
    let before = form_line c.args.handles.now c.args.input.now.line f in
    subst (λ l. IsTableCall (OfPrimitive row.Line) before c.args.words.now memory (Err (why.Trap BadArgument)) (form_line c.args.handles.now l f)) (sym c.in-None.ensures.value ∙ sym c.take.ensures.after)
    (line_missing before memory none c.args.words.now (sym c.in_default.ensures) (sym c.in-None.ensures.value))
