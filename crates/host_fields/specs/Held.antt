-- What contracts see of the record, and the state that it is a part of.
use Rattle.std.specs.Prelude.{◌≡◌, ℕ, List, length, map, refl}
use Rattle.std.specs.Coded.{Coded, code_by, coded×, coded_list}
use Rattle.std.specs.List.{All, sum_by}
use Rattle.awk_values.specs.contracts.value.Value as stored
use Rattle.awk_values.specs.declared.value.Value.{Value}
use Rattle.awk_values.specs.declared.value.Value.TheVariants.{StrNum}
use Rattle.sem_primitives.specs.SharedState.{Inner}
use Rattle.awk_values.specs.Values.{text_of_value}
use Rattle.sem_primitives.specs.FieldMeaning.{joined}
use Rattle.sem_primitives.specs.Fields.{pieces_of}
use Rattle.host_format.specs.Separators.{separator_by}
use Rattle.host_format.specs.Spans.{IsInside, span_text}
use Rattle.host_format.specs.declared.span.Span.{Span}
use Rattle.host_fields.specs.declared.fields.Form.{Form}
use Rattle.host_fields.specs.declared.fields.Form.TheVariants.{Later, Own, Parts, Unbuilt}

-- `$0`, and the fields from `$1` on
pub record Held : Type 0 where
  pub whole : Value
  pub fields : List Value

abbrev pub held_code : Coded Held
held_code =
    code_by (Value × List Value) (coded× stored.the_row.coded (coded_list stored.the_row.coded)) (λ r. (
      r.whole,
      r.fields,
    )) (λ p. record { whole = p.0; fields = p.1 }) (λ _. refl)

-- the shared state with this record, where nothing else is another
abbrev pub with_held : Held → Inner → Inner
with_held r inner = record inner { whole = r.whole; fields = r.fields }

-- the field that a part of a text is
abbrev pub field_at : List ℕ → Span → Value
field_at text span = StrNum (span_text text span)

-- a part of `$0`, which was split, so that it is a numeric string
abbrev pub IsPartOf : (whole : Value) → Span → Type 0
IsPartOf (StrNum text) span = IsInside text span
IsPartOf whole span = ⊥

-- `$0` is a numeric string, as one that was read or set is
abbrev pub IsNumericText : Value → Type 0
IsNumericText (StrNum text) = Unit {0}
IsNumericText whole = ⊥

-- the fields: those that `$0` is to be split into, parts of `$0`, or values of their own
abbrev pub fields_in : Form → (whole : Value) → List Span → List Value → List Value
fields_in (Later by newlines) whole spans own = map StrNum (pieces_of (separator_by by) newlines (text_of_value whole))
fields_in Parts whole spans own = map (field_at (text_of_value whole)) spans
fields_in Own whole spans own = own
fields_in (Unbuilt size) whole spans own = own

-- `$0`: a value, or what is to be built of the fields, with a text between them
abbrev pub whole_in : Form → Value → List Value → List ℕ → Value
whole_in (Later by newlines) whole own between = whole
whole_in Parts whole own between = whole
whole_in Own whole own between = whole
whole_in (Unbuilt size) whole own between = StrNum (joined between own)

abbrev pub held_in : Form → (whole : Value) → List Span → (own : List Value) → (between : List ℕ) → Held
held_in form whole spans own between = record { whole = whole_in form whole own between; fields = fields_in form whole spans own }

-- fields that are parts of `$0` are so each; what is to be split can be
abbrev pub AreHeld : Form → (whole : Value) → List Span → Type 0
AreHeld (Later by newlines) whole spans = IsNumericText whole
AreHeld Parts whole spans = All (IsPartOf whole) spans
AreHeld Own whole spans = Unit {0}
AreHeld (Unbuilt size) whole spans = Unit {0}

-- how many bytes the text of a value has
abbrev pub text_size : Value → ℕ
text_size value = length (text_of_value value)

-- fields of which `$0` is to be built have texts of that size together
abbrev pub IsMeasured : Form → (own : List Value) → Type 0
IsMeasured (Later by newlines) own = Unit {0}
IsMeasured Parts own = Unit {0}
IsMeasured Own own = Unit {0}
IsMeasured (Unbuilt size) own = size ≡ sum_by text_size own

-- no split is put off
abbrev pub IsSplit : Form → Type 0
IsSplit (Later by newlines) = ⊥
IsSplit Parts = Unit {0}
IsSplit Own = Unit {0}
IsSplit (Unbuilt size) = Unit {0}

-- the fields are values of their own
abbrev pub IsOwn : Form → Type 0
IsOwn (Later by newlines) = ⊥
IsOwn Parts = ⊥
IsOwn Own = Unit {0}
IsOwn (Unbuilt size) = Unit {0}
