use Rattle.std.proofs.Common.{◌∙◌, List, ℕ, ap}
use Rattle.awk_values.specs.declared.value.Value.{Value}
use Rattle.awk_values.specs.declared.value.Value.TheVariants.{StrNum}
use Rattle.sem_primitives.specs.FieldMeaning.{joined}
use Rattle.host_fields.proofs.Assigned.{built}
use Rattle.host_fields.proofs.record.Record.build.Goals as goal

pub returns-in_ok-whole : goal.returns-in_ok-whole
returns-in_ok-whole c =
    let inside = c.self.inside in
    built inside.form inside.whole c.put_text.new.whole inside.spans.items inside.own.items inside.between.items c.in-Unbuilt.field-0 c.in-Unbuilt.is
    (c.put_text.ensures ∙ ap StrNum (c.in_ok-whole.ensures ∙ ap (λ (bytes : List ℕ). joined bytes c.as_slice.result.now) c.as_slice-in-Unbuilt.ensures.value ∙ ap (λ (vs : List Value). joined inside.between.items vs) c.as_slice.ensures.value))
    ∙ c.self.view_is
