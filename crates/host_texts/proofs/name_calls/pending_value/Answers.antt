use Rattle.std.proofs.Common.{ℕ, Option, sym, subst, ◌∙◌}
use Rattle.awk_values.specs.declared.value.Value.{Value}
use Rattle.sem_primitives.specs.declared.table.Primitive.TheVariants as row
use Rattle.host_imports.specs.declared.import.Import.TheVariants.{OfPrimitive}
use Rattle.host_values.specs.ElementCalls.{IsTableCall}
use Rattle.host_texts.specs.NameForms.{of_names}
use Rattle.host_texts.proofs.NameSteps.{value_call}
use Rattle.host_texts.proofs.name_calls.pending_value.Goals as goal

pub returns-in-Some-clause-step : goal.returns-in-Some-clause-step
returns-in-Some-clause-step c f memory none =
    let names = c.args.names.now in
    let before = of_names names c.args.handles.now f in
    subst (λ (o : Option (ℕ × Value)). IsTableCall (OfPrimitive row.PendingValue) before c.args.words.now memory c.give.result (of_names (record names { pending = o }) c.give.new.handles f)) (sym c.take.ensures.after)
    (value_call before c.args.words.now memory none (sym c.in-Ok.ensures) (c.in-Some.field-0-0, c.in-Some.value) c.give.new.handles c.give.result (sym c.take.ensures.value ∙ c.in-Some.is) c.requires c.give.ensures.answer)
