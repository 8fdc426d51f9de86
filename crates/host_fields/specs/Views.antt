-- What is lent of a field.
use Rattle.std.specs.Prelude.{◌≡◌, Option, Some, None, unwrap_or}
use Rattle.awk_values.specs.declared.value.Value.{Value}
use Rattle.awk_values.specs.declared.value.Value.TheVariants.{StrNum, Uninit}
use Rattle.host_fields.specs.declared.view.FieldView.{FieldView}
use Rattle.host_fields.specs.declared.view.FieldView.TheVariants.{Missing, Own, Part, Whole}

-- the value that is lent, if there is one
abbrev pub lent : FieldView → Option Value
lent Missing = None
lent (Whole value) = Some value
lent (Own value) = Some value.now
lent (Part text) = Some (StrNum text)

-- a field that is missing has no value
abbrev pub viewed : FieldView → Value
viewed view = unwrap_or (lent view) Uninit

abbrev pub IsMissing : FieldView → Type 0
IsMissing view = lent view ≡ None
