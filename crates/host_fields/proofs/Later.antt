-- A record that was split when it was asked for has the fields that it had.
use Rattle.std.proofs.Common.{◌≡◌, ℕ, Bool, List, map, refl, ap, sym, ◌∙◌}
use Rattle.awk_values.specs.Values.{text_of_value}
use Rattle.awk_values.specs.declared.value.Value.{Value}
use Rattle.awk_values.specs.declared.value.Value.TheVariants.{StrNum}
use Rattle.sem_primitives.specs.Fields.{pieces_of}
use Rattle.host_format.specs.Spans.{AreSpans}
use Rattle.host_format.specs.declared.span.Span.{Span}
use Rattle.host_fields.specs.Held.{Held, fields_in, held_in}
use Rattle.host_format.specs.Separators.{separator_by}
use Rattle.host_fields.specs.declared.fields.Form.{Form}
use Rattle.host_fields.specs.declared.fields.Form.TheVariants.{Later, Parts}
use Rattle.host_format.specs.declared.sep.Plain.{Plain}
use Rattle.host_fields.proofs.Splitting.{fields_are}

same_fields : (form : Form) (by : Plain) (newlines : Bool) (whole : Value) (before spans : List Span) (own : List Value) → form ≡ Later by newlines → AreSpans (text_of_value whole) spans (pieces_of (separator_by by) newlines (text_of_value whole)) → fields_in Parts whole spans own ≡ fields_in form whole before own
same_fields form by newlines whole before spans own is are =
    sym (fields_are (text_of_value whole) spans) ∙ ap (λ texts. map StrNum texts) are.texts ∙ ap (λ f. fields_in f whole before own) (sym is)

pub same_held : (form : Form) (by : Plain) (newlines : Bool) (whole : Value) (before spans : List Span) (own : List Value) (between : List ℕ) → form ≡ Later by newlines → AreSpans (text_of_value whole) spans (pieces_of (separator_by by) newlines (text_of_value whole)) → held_in Parts whole spans own between ≡ held_in form whole before own between
same_held form by newlines whole before spans own between is are =
    let split : List Value → Held = λ vs. record { whole = whole; fields = vs } in
    let later : fields_in Parts whole spans own ≡ fields_in (Later by newlines) whole before own = same_fields (Later by newlines) by newlines whole before spans own refl are in
    ap split later ∙ ap (λ f. held_in f whole before own between) (sym is)
