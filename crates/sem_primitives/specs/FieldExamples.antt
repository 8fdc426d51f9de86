-- The record, its fields and special variables, computed.
use Rattle.std.specs.Prelude.{◌≡◌, [], ◌∷◌, codes, true, false, Ok, Err, pos, neg_ℤ, refl}
use Rattle.awk_text.specs.Reading.{numeral_at, sign_at, fraction_at, exponent_at}
use Rattle.awk_text.specs.Number.{numerator, denominator}
use Rattle.awk_values.specs.declared.comparison.CompareOp.TheVariants.{Equal}
use Rattle.awk_values.specs.declared.fault.Fault.TheVariants.{BadEre, FieldNumber, Fraction}
use Rattle.awk_values.specs.declared.value.Value.TheVariants as value
use Rattle.ere_syntax.specs.Scan.{table}
use Rattle.ere_syntax.specs.Readers.{sign_of}
use Rattle.sem_primitives.specs.SharedState.{Shared}
use Rattle.sem_primitives.specs.Fields.{fields_of}
use Rattle.sem_primitives.specs.ExampleStates.{number, at_start, after_call, answered, setting, setting_record, special, plain}
use Rattle.sem_primitives.specs.declared.table.Primitive.TheVariants.{SetSpecial, Field, SetField, ToNum, IntOf, Compare}
use Rattle.sem_primitives.specs.declared.constants.Special.TheVariants.{Fs, Nf, Nr, Ofs, Rlength, Subsep, Filename}

-- Splitting.

pub blanks : fields_of (codes " ") (codes "\n") (codes " a \tb\nc ") ≡ Ok (codes "a" ∷ codes "b" ∷ codes "c" ∷ [])
blanks = refl

pub each_byte : fields_of [] (codes "\n") (codes "a b") ≡ Ok (codes "a" ∷ codes " " ∷ codes "b" ∷ [])
each_byte = refl

pub a_byte : fields_of (codes "|") (codes "\n") (codes "a||b|") ≡ Ok (codes "a" ∷ [] ∷ codes "b" ∷ [] ∷ [])
a_byte = refl

-- an empty match never separates
pub an_expression : fields_of (codes "x*") (codes "\n") (codes "axxbc") ≡ Ok (codes "a" ∷ codes "bc" ∷ [])
unfolding table sign_of
an_expression = refl

-- where empty lines end records, a newline separates too, and at one place the longer counts
pub newline_too : fields_of (codes ",") [] (codes "a,b\nc") ≡ Ok (codes "a" ∷ codes "b" ∷ codes "c" ∷ [])
newline_too = refl

pub longer_than_newline : fields_of (codes "\n,|;;") [] (codes "a\n,b\nc") ≡ Ok (codes "a" ∷ codes "b" ∷ codes "c" ∷ [])
unfolding table sign_of
longer_than_newline = refl

pub newline_as_byte : fields_of [] [] (codes "a\nb") ≡ Ok (codes "a" ∷ codes "\n" ∷ codes "b" ∷ [])
newline_as_byte = refl

pub no_fields : fields_of (codes ",") (codes "\n") [] ≡ Ok []
no_fields = refl

-- a bad expression is one even for an empty record
pub bad_separator : fields_of (codes "((") (codes "\n") [] ≡ Err BadEre
unfolding table sign_of
bad_separator = refl

-- Fields are set, and NF.

abbrev pub letters : Shared
letters = setting Ofs (codes "-") (setting_record (codes "a b c") at_start)

abbrev pub fifth : Shared
fifth = after_call SetField (number (pos 5) tt, (value.Text (codes "e"), tt)) letters

pub record_rebuilt : answered Field (number (pos 0) tt, tt) fifth ≡ Ok (value.StrNum (codes "a-b-c--e"))
record_rebuilt = refl

pub count_raised : special Nf fifth ≡ value.Num (pos 5)
count_raised = refl

pub between_uninit : answered Field (number (pos 4) tt, tt) fifth ≡ Ok value.Uninit
between_uninit = refl

pub field_keeps_value : answered Field (number (pos 5) tt, tt) fifth ≡ Ok (value.Text (codes "e"))
field_keeps_value = refl

abbrev pub cut_off : Shared
cut_off = after_call SetSpecial (Nf, (value.Num (pos 2), tt)) fifth

pub record_cut : answered Field (number (pos 0) tt, tt) cut_off ≡ Ok (value.StrNum (codes "a-b"))
record_cut = refl

pub count_from_text : special Nf (after_call SetSpecial (Nf, (value.Text (codes "02"), tt)) letters) ≡ value.Num (pos 2)
unfolding numeral_at sign_at fraction_at exponent_at numerator denominator
count_from_text = refl

pub count_of_fraction : answered SetSpecial (Nf, (value.Text (codes "0.5"), tt)) letters ≡ Err Fraction
unfolding numeral_at sign_at fraction_at exponent_at numerator denominator
count_of_fraction = refl

pub past_the_fields : answered Field (number (pos 4) tt, tt) letters ≡ Ok value.Uninit
past_the_fields = refl

-- field numbers are from 0 to 1,048,576
pub field_too_far : answered Field (number (pos 1048577) tt, tt) at_start ≡ Err FieldNumber
field_too_far = refl

pub field_at_limit : answered Field (number (pos 1048576) tt, tt) at_start ≡ Ok value.Uninit
field_at_limit = refl

pub field_below : answered Field (number (neg_ℤ (pos 1)) tt, tt) at_start ≡ Err FieldNumber
field_below = refl

pub field_set_too_far : answered SetField (number (pos 1048577) tt, (value.Uninit, tt)) at_start ≡ Err FieldNumber
field_set_too_far = refl

pub count_too_great : answered SetSpecial (Nf, (value.Num (pos 1048577), tt)) at_start ≡ Err FieldNumber
count_too_great = refl

pub count_below : answered SetSpecial (Nf, (value.Num (neg_ℤ (pos 1)), tt)) at_start ≡ Err FieldNumber
count_below = refl

-- a changed FS takes effect when the record is next set, and the text of a number may be one
abbrev pub separated : Shared
separated = setting Fs (codes ",") (setting_record (codes "a,b c") at_start)

pub not_split_again : special Nf separated ≡ value.Num (pos 2)
not_split_again = refl

pub split_when_set : answered Field (number (pos 1) tt, tt) (setting_record (codes "a,b c") separated) ≡ Ok (value.StrNum (codes "a"))
split_when_set = refl

-- Values of fields.

abbrev pub half : Shared
half = setting_record (codes "0.5") at_start

pub field_text : answered Field (number (pos 1) tt, tt) half ≡ Ok (value.StrNum (codes "0.5"))
field_text = refl

pub field_truncated : plain (answered IntOf (value.StrNum (codes "0.5"), tt) half) ≡ Ok (pos 0)
unfolding numeral_at sign_at fraction_at exponent_at numerator denominator
field_truncated = refl

pub field_is_fraction : plain (answered ToNum (value.StrNum (codes "0.5"), tt) half) ≡ Err Fraction
unfolding numeral_at sign_at fraction_at exponent_at numerator denominator
field_is_fraction = refl

pub field_equals_number : answered Compare (Equal, (value.StrNum (codes "1.0"), (value.Num (pos 1), tt))) half ≡ Ok true
unfolding numeral_at sign_at fraction_at exponent_at numerator denominator
field_equals_number = refl

pub field_differs_from_text : answered Compare (Equal, (value.StrNum (codes "1.0"), (value.Text (codes "1"), tt))) half ≡ Ok false
unfolding numeral_at sign_at fraction_at exponent_at numerator denominator
field_differs_from_text = refl

pub no_value_equals_zero : answered Compare (Equal, (value.Uninit, (value.Num (pos 0), tt))) half ≡ Ok true
no_value_equals_zero = refl

pub no_value_equals_empty : answered Compare (Equal, (value.Uninit, (value.Text [], tt))) half ≡ Ok true
no_value_equals_empty = refl

-- At the start.

pub start_of_length : special Rlength at_start ≡ value.Num (neg_ℤ (pos 1))
start_of_length = refl

pub start_of_subsep : special Subsep at_start ≡ value.Text (28 ∷ [])
start_of_subsep = refl

pub start_of_file_name : special Filename at_start ≡ value.Uninit
start_of_file_name = refl

pub start_of_record : answered Field (number (pos 0) tt, tt) at_start ≡ Ok value.Uninit
start_of_record = refl

pub special_takes_value : special Nr (after_call SetSpecial (Nr, (value.Text (codes "x"), tt)) at_start) ≡ value.Text (codes "x")
special_takes_value = refl
