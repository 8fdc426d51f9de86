-- What the parts of an expression do once their operands are evaluated.
use Rattle.std.specs.Prelude.{ℕ, Bool, true, false, nat_le, if◌then◌else◌, List, [], ◌∷◌, Result, Ok, Err, ℤ, pos, neg_ℤ}
use Rattle.awk_text.specs.Escapes.{between}
use Rattle.awk_text.specs.Number.{number_of_text}
use Rattle.awk_values.specs.Comparison.{comparison}
use Rattle.awk_values.specs.Operators.{Outcome as Checked, is_zero, sum, difference, product, quotient, remainder}
use Rattle.awk_values.specs.Values.{as_fault}
use Rattle.awk_values.specs.declared.comparison.CompareOp.{CompareOp}
use Rattle.awk_values.specs.declared.comparison.CompareOp.TheVariants as compare
use Rattle.awk_values.specs.declared.fault.Fault.{Fault}
use Rattle.awk_values.specs.declared.fault.Fault.TheVariants.{FieldNumber}
use Rattle.awk_values.specs.declared.value.Value.{Value}
use Rattle.awk_values.specs.declared.value.Value.TheVariants as value
use Rattle.sem_primitives.specs.Limits.{most_fields}
use Rattle.sem_primitives.specs.Numbers.{Number, outcome_of}
use Rattle.sem_primitives.specs.ValueMeaning.{number_of_row}
use Rattle.sem_primitives.specs.declared.answers.InputAnswer.{InputAnswer}
use Rattle.sem_primitives.specs.declared.answers.InputAnswer.TheVariants as input
use Rattle.sem_primitives.specs.declared.answers.StreamAnswer.{StreamAnswer}
use Rattle.sem_primitives.specs.declared.answers.StreamAnswer.TheVariants as stream
use Rattle.sem_primitives.specs.declared.table.Primitive.TheVariants.{Pow, GetSpecial, SetSpecial, Field, SetField, NewArray, Elem, SetElem, Sub, SubResult, Line}
use Rattle.awk_grammar.specs.Token.{Sign, Plus, Minus, Step, Increment, Decrement, Comparison, Less, LessEqual, Equal, NotEqual, Greater, GreaterEqual, Product, Times, Over, Modulo, Literal, Ere}
use Rattle.awk_grammar.specs.Trees.{Tree, Leaf, Group}
use Rattle.sem_scripts.specs.Names.{Name, Variable, Global, Parameter, Reserved, ArrayName, Numbered, Given}
use Rattle.sem_scripts.specs.ScriptState.{Local, Scalar, Array, Execution, ◌>>=◌, ◌>>◌, give, nothing, look, change, settled, call, global_value, local_value, local_array, with_global, with_local}

-- Numbers and truth.

-- the number that a constant of the script stands for
abbrev pub constant : List ℕ → Result Number Fault
constant text = outcome_of (as_fault (number_of_text text))

-- a script's constants are in range; of others nothing is said
abbrev pub or_nought : Result Number Fault → Number
or_nought (Ok n) = n
or_nought (Err fault) = record { number = pos 0; in_range = tt }

abbrev pub numeric : Number → Value
numeric n = value.Num n.number

abbrev pub zero_number : Number
zero_number = record { number = pos 0; in_range = tt }

abbrev pub one_number : Number
one_number = record { number = pos 1; in_range = tt }

abbrev pub minus_one : Number
minus_one = record { number = neg_ℤ (pos 1); in_range = tt }

-- true is 1, false is 0
abbrev pub truth_number : Bool → Number
truth_number true = one_number
truth_number false = zero_number

abbrev pub truth_value : Bool → Value
truth_value b = numeric (truth_number b)

abbrev pub number_in : Value → Execution Number
number_in v = settled (number_of_row v)

-- Operators on numbers.

abbrev pub Operator : Type 0
Operator = Number → Number → Execution Number

abbrev pub arithmetic : (ℤ → ℤ → Checked) → Operator
arithmetic f m n = settled (outcome_of (f m.number n.number))

abbrev pub sign_operator : Sign → Operator
sign_operator Plus = arithmetic sum
sign_operator Minus = arithmetic difference

abbrev pub product_operator : Product → Operator
product_operator Times = arithmetic product
product_operator Over = arithmetic quotient
product_operator Modulo = arithmetic remainder

abbrev pub power_operator : Operator
power_operator m n = call Pow (m, (n, tt))

abbrev pub step_operator : Step → Operator
step_operator Increment = arithmetic sum
step_operator Decrement = arithmetic difference

-- both are converted, the left one first
abbrev pub computed : Operator → Value → Value → Execution Value
computed operator x y = do m ← number_in x; n ← number_in y; result ← operator m n; give (numeric result)

abbrev pub comparison_of : Comparison → CompareOp
comparison_of Less = compare.Less
comparison_of LessEqual = compare.LessOrEqual
comparison_of Equal = compare.Equal
comparison_of NotEqual = compare.NotEqual
comparison_of Greater = compare.Greater
comparison_of GreaterEqual = compare.GreaterOrEqual

-- no primitive: values are compared as they are
abbrev pub compared : CompareOp → Value → Value → Execution Bool
compared c x y = settled (comparison x y c)

-- Variables, elements and fields.

abbrev pub array_number : ArrayName → Execution ℕ
array_number (Numbered i) = give i
array_number (Given i) = look (local_array i)

abbrev pub read_variable : Variable → Execution Value
read_variable (Global i) = look (global_value i)
read_variable (Parameter i) = look (local_value i)
read_variable (Reserved special) = call GetSpecial (special, tt)

abbrev pub store_variable : Variable → Value → Execution (Unit {0})
store_variable (Global i) v = change (with_global i v)
store_variable (Parameter i) v = change (with_local i v)
store_variable (Reserved special) v = call SetSpecial (special, (v, tt))

-- a field's number is from 0 to that of the last one
abbrev pub is_field_number : ℤ → Bool
is_field_number (pos n) = nat_le n most_fields
is_field_number z = is_zero z

abbrev pub field_checked : Number → Result Number Fault
field_checked n = if is_field_number n.number then Ok n else Err FieldNumber

-- where a value is stored: it is found once, with its key or its field's number
pub data Place : Type 0 where
  Named : Variable → Place
  Element : ArrayName → (key : Value) → Place
  FieldAt : Number → Place

abbrev pub read_place : Place → Execution Value
read_place (Named x) = read_variable x
read_place (Element a key) = array_number a >>= λ i. call Elem (i, (key, tt))
read_place (FieldAt n) = call Field (n, tt)

abbrev pub store_place : Place → Value → Execution (Unit {0})
store_place (Named x) v = store_variable x v
store_place (Element a key) v = array_number a >>= λ i. call SetElem (i, (key, (v, tt)))
store_place (FieldAt n) v = call SetField (n, (v, tt))

abbrev pub stored : Place → Value → Execution Value
stored place v = store_place place v >> give v

-- Constant expressions that are matched: an ERE token as an operand, parentheses aside.

abbrev pub ere_text : List ℕ → List ℕ
ere_text token = between token

abbrev pub ere_token : Literal → List (List ℕ)
ere_token (Ere token) = ere_text token ∷ []
ere_token _ = []

-- at most one
abbrev pub ere_in : Tree → List (List ℕ)
ere_in (Leaf c) = ere_token c
ere_in (Group t) = ere_in t
ere_in _ = []

abbrev pub ere_or : List (List ℕ) → Execution Value → Execution Value
ere_or [] other = other
ere_or (text ∷ rest) other = give (value.Text text)

abbrev pub is_ere : List (List ℕ) → Bool
is_ere [] = false
is_ere (text ∷ rest) = true

-- Answers as numbers.

abbrev pub input_number : InputAnswer → Number
input_number input.Read = one_number
input_number input.Failed = minus_one
input_number _ = zero_number

abbrev pub stream_number : StreamAnswer → Number
stream_number stream.Done = zero_number
stream_number stream.NotOpen = minus_one

-- the text that was read goes into a variable
abbrev pub received : Place → InputAnswer → Execution Value
received place input.Read = do text ← call Line tt; u ← store_place place text; give (numeric one_number)
received place answer = give (numeric (input_number answer))

-- with what was replaced, if anything was
abbrev pub replaced_in : Place → Number → Execution Value
replaced_in place count = (if is_zero count.number then nothing else (call SubResult tt >>= store_place place)) >> give (numeric count)

-- a parameter for which no argument is given
abbrev pub fresh : Name → Execution Local
fresh p = if p.is_array then (call NewArray tt >>= λ i. give (Array i)) else give (Scalar value.Uninit)

-- a value that is given for a parameter
abbrev pub given_value : Name → Value → Local
given_value p x = if p.is_array then Array 0 else Scalar x

abbrev pub fresh_all : List Name → Execution (List Local)
fresh_all [] = give []
fresh_all (p ∷ ps) = do l ← fresh p; ls ← fresh_all ps; give (l ∷ ls)

-- An assignment with an operator: the place, the right side, and then the old value.
abbrev pub updated : Operator → Execution Place → Execution Value → Execution Value
updated operator where_to right = do place ← where_to; x ← right; old ← read_place place; result ← computed operator old x; stored place result

-- expression, replacement, place; then the old value
abbrev pub substituted : Bool → Execution Value → Execution Value → Execution Place → Execution Value
substituted all ere replacement where_to = do
  e ← ere
  r ← replacement
  place ← where_to
  old ← read_place place
  count ← call Sub (e, (r, (old, (all, tt))))
  replaced_in place count
