-- The comparison of two values: by number where each side is one, is uninitialised or looks numeric, and else by the bytes of the texts.
use Rattle.std.specs.Prelude.{Bool, if◌then◌else◌, Option, Some, None, Result, Ok, Err, pos}
use Rattle.std.specs.declared.cmp.Ordering.{Ordering}
use Rattle.std.specs.Ordering.{int_cmp, nat_cmp, is_eq, is_ge, is_gt, is_le, is_lt, is_ne}
use Rattle.std.specs.Cmp.Lexicographic.{slice_cmp}
use Rattle.awk_text.specs.Number.{looks_numeric_text, number_of_text}
use Rattle.awk_values.specs.Operators.{Outcome}
use Rattle.awk_values.specs.Values.{as_fault, text_of_value}
use Rattle.awk_values.specs.declared.fault.Fault.{Fault}
use Rattle.awk_values.specs.declared.value.Value.{Value}
use Rattle.awk_values.specs.declared.value.Value.TheVariants.{Uninit, Num, Text, StrNum}
use Rattle.awk_values.specs.declared.comparison.CompareOp.{CompareOp}
use Rattle.awk_values.specs.declared.comparison.CompareOp.TheVariants.{Less, LessOrEqual, Equal, NotEqual, Greater, GreaterOrEqual}

-- the number of a side that may be compared as one
abbrev pub numeric_side : Value → Option Outcome
numeric_side Uninit = Some (Ok (pos 0))
numeric_side (Num n) = Some (Ok n)
numeric_side (Text text) = None
numeric_side (StrNum text) = if looks_numeric_text text then Some (as_fault (number_of_text text)) else None

abbrev pub holds : CompareOp → Ordering → Bool
holds Less o = is_lt o
holds LessOrEqual o = is_le o
holds Equal o = is_eq o
holds NotEqual o = is_ne o
holds Greater o = is_gt o
holds GreaterOrEqual o = is_ge o

abbrev pub order_of_texts : Value → Value → Result Ordering Fault
order_of_texts a b = Ok (slice_cmp nat_cmp (text_of_value a) (text_of_value b))

-- the left number's fault, then the right one's
abbrev pub order_of_numbers : Outcome → Outcome → Result Ordering Fault
order_of_numbers (Ok a) (Ok b) = Ok (int_cmp a b)
order_of_numbers (Ok a) (Err f) = Err f
order_of_numbers (Err f) b = Err f

abbrev pub order_by : Value → Value → Option Outcome → Option Outcome → Result Ordering Fault
order_by a b (Some m) (Some n) = order_of_numbers m n
order_by a b (Some m) None = order_of_texts a b
order_by a b None right = order_of_texts a b

abbrev pub order_of : Value → Value → Result Ordering Fault
order_of a b = order_by a b (numeric_side a) (numeric_side b)

abbrev pub held : CompareOp → Result Ordering Fault → Result Bool Fault
held op (Ok o) = Ok (holds op o)
held op (Err f) = Err f

abbrev pub comparison : Value → Value → CompareOp → Result Bool Fault
comparison a b op = held op (order_of a b)
