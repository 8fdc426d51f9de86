-- The number, the text and the truth of a value.
use Rattle.std.specs.Prelude.{ℕ, Bool, false, not, ◌==◌, if◌then◌else◌, Result, Ok, Err, List, [], length, ℤ, pos}
use Rattle.std.specs.Fmt.{signed_decimal}
use Rattle.awk_text.specs.Number.{is_nonzero_text, looks_numeric_text, number_of_text, truncated_of_text}
use Rattle.awk_text.specs.declared.number.NumberFault.{NumberFault}
use Rattle.awk_text.specs.declared.number.NumberFault.TheVariants as number
use Rattle.awk_values.specs.Operators.{Outcome, is_zero}
use Rattle.awk_values.specs.declared.fault.Fault.TheVariants.{Fraction, Range}
use Rattle.awk_values.specs.declared.value.Value.{Value}
use Rattle.awk_values.specs.declared.value.Value.TheVariants.{Uninit, Num, Text, StrNum}

abbrev pub as_fault : Result ℤ NumberFault → Outcome
as_fault (Ok n) = Ok n
as_fault (Err number.Range) = Err Range
as_fault (Err number.Fraction) = Err Fraction

abbrev pub number_of_value : Value → Outcome
number_of_value Uninit = Ok (pos 0)
number_of_value (Num n) = Ok n
number_of_value (Text text) = as_fault (number_of_text text)
number_of_value (StrNum text) = as_fault (number_of_text text)

-- the number of a text is truncated towards 0
abbrev pub truncated_of_value : Value → Outcome
truncated_of_value Uninit = Ok (pos 0)
truncated_of_value (Num n) = Ok n
truncated_of_value (Text text) = as_fault (truncated_of_text text)
truncated_of_value (StrNum text) = as_fault (truncated_of_text text)

abbrev pub text_of_value : Value → List ℕ
text_of_value Uninit = []
text_of_value (Num n) = signed_decimal n
text_of_value (Text text) = text
text_of_value (StrNum text) = text

-- a numeric string that looks numeric is true where a digit of its mantissa is not 0
abbrev pub truth_of_value : Value → Bool
truth_of_value Uninit = false
truth_of_value (Num n) = not (is_zero n)
truth_of_value (Text text) = not (length text == 0)
truth_of_value (StrNum text) = if looks_numeric_text text then is_nonzero_text text else not (length text == 0)
