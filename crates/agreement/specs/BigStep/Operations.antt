-- Expressions by their operands: which operands a form has, from left to right, and what is done once all of them are evaluated. The order itself is
-- in Rules. What primitives do is in the table of sem_primitives.
use Rattle.std.specs.Prelude.{ℕ, Bool, true, false, not, List, Option, Some, None}
use Rattle.awk_text.specs.Escapes.{string_text}
use Rattle.awk_values.specs.Operators.{difference, truncated_quotient}
use Rattle.awk_values.specs.Values.{truth_of_value}
use Rattle.awk_values.specs.declared.value.Value.{Value}
use Rattle.awk_values.specs.declared.value.Value.TheVariants as value
use Rattle.sem_primitives.specs.declared.constants.Special.TheVariants.{Fs}
use Rattle.sem_primitives.specs.declared.table.Primitive.TheVariants as row
use Rattle.awk_tokens.specs.declared.reserved_words.Builtin.{Builtin}
use Rattle.awk_tokens.specs.declared.reserved_words.Builtin.TheVariants as builtin
use Rattle.awk_grammar.specs.Token as token
use Rattle.awk_grammar.specs.Trees.{Tree, Leaf, Length, Var, Index, Field, Group, Apply, Unary, Pre, Post, Bin, Join, Add, Other, GetFrom, GetIntoFrom, Trees, NoTree, Then}
use Rattle.sem_scripts.specs.Names.{ArrayName, Numbered, Given, Scope, variable_of, array_of}
use Rattle.sem_scripts.specs.ScriptState.{State, Execution, ◌>>=◌, give, settled, call, local_array}
use Rattle.sem_scripts.specs.Steps.{Operator, constant, or_nought, numeric, zero_number, one_number, truth_value, number_in, arithmetic, sign_operator, product_operator, power_operator, step_operator, computed, comparison_of, compared, array_number, read_variable, field_checked, Place, FieldAt, read_place, store_place, stored, ere_text, input_number, stream_number, received, replaced_in}
use Rattle.sem_scripts.specs.Meaning.{matched}

-- the number of an array, as it is in a state: of a parameter, the number that the call was given
abbrev pub array_in : ArrayName → State → ℕ
array_in (Numbered i) s = i
array_in (Given i) s = local_array i s

abbrev pub array_at : Scope → List ℕ → State → ℕ
array_at scope x s = array_in (array_of scope x) s

-- What is done.

-- an ERE token by itself is matched with the record
abbrev pub record_matches : List ℕ → Execution Value
record_matches text = do
  x ← call row.Field (zero_number, tt)
  b ← call row.Matches (x, (value.Text (ere_text text), tt))
  give (truth_value b)

abbrev pub record_length : Execution Value
record_length = do x ← call row.Field (zero_number, tt); m ← call row.Length (x, tt); give (numeric m)

abbrev pub text_length : Value → Execution Value
text_length x = do m ← call row.Length (x, tt); give (numeric m)

abbrev pub field_read : Value → Execution Value
field_read x = do m ← number_in x; call row.Field (m, tt)

abbrev pub as_number : Value → Execution Value
as_number x = do m ← number_in x; give (numeric m)

abbrev pub negative : Value → Execution Value
negative x = do m ← number_in x; result ← arithmetic difference zero_number m; give (numeric result)

abbrev pub whole_part : Value → Execution Value
whole_part x = do m ← call row.IntOf (x, tt); give (numeric m)

abbrev pub closed : Value → Execution Value
closed x = do answer ← call row.Close (x, tt); give (numeric (stream_number answer))

abbrev pub flushed : Value → Execution Value
flushed x = do answer ← call row.Flush (x, tt); give (numeric (stream_number answer))

-- where no separator is given, it is FS
abbrev pub split_by_fs : Scope → List ℕ → Value → Execution Value
split_by_fs scope a x = do
  i ← array_number (array_of scope a)
  separator ← call row.GetSpecial (Fs, tt)
  m ← call row.Split (x, (i, (separator, (false, tt))))
  give (numeric m)

abbrev pub split_by : ℕ → Bool → Value → Value → Execution Value
split_by i is_ere x separator = do m ← call row.Split (x, (i, (separator, (is_ere, tt)))); give (numeric m)

abbrev pub file_read : Value → Execution Value
file_read file = do answer ← call row.GetlineFile (file, tt); give (numeric (input_number answer))

abbrev pub file_read_into : Place → Value → Execution Value
file_read_into place file = do answer ← call row.GetlineVarFile (file, tt); received place answer

abbrev pub in_order : token.Comparison → Value → Value → Execution Value
in_order c x y = do truth ← compared (comparison_of c) x y; give (truth_value truth)

abbrev pub rest_of : Value → Value → Execution Value
rest_of x y = do m ← number_in y; call row.SubstrFrom (x, (m, tt))

abbrev pub part_of : Value → Value → Value → Execution Value
part_of x y z = do m ← number_in y; l ← number_in z; call row.Substr (x, (m, (l, tt)))

abbrev pub index_of : Value → Value → Execution Value
index_of x y = do m ← call row.Index (x, (y, tt)); give (numeric m)

abbrev pub matching_of : token.Matching → Value → Value → Execution Value
matching_of m x ere = do found ← call row.Matches (x, (ere, tt)); give (truth_value (matched m found))

abbrev pub first_match_of : Value → Value → Execution Value
first_match_of x ere = do m ← call row.Match (x, (ere, tt)); give (numeric m)

-- `++` and `--` before a place give the new value, and after it the old number
abbrev pub stepped_before : token.Step → Place → Execution Value
stepped_before s place = do
  old ← read_place place
  m ← number_in old
  result ← step_operator s m one_number
  stored place (numeric result)

abbrev pub stepped_after : token.Step → Place → Execution Value
stepped_after s place = do
  old ← read_place place
  m ← number_in old
  result ← step_operator s m one_number
  u ← store_place place (numeric result)
  give (numeric m)

-- the old value is read once the right side is evaluated
abbrev pub updated_by : Operator → Place → Value → Execution Value
updated_by operator place x = do old ← read_place place; result ← computed operator old x; stored place result

abbrev pub replaced : Bool → Value → Value → Place → Execution Value
replaced all ere by place = do
  old ← read_place place
  count ← call row.Sub (ere, (by, (old, (all, tt))))
  replaced_in place count

-- whether an array has a key, which is not made
abbrev pub has_key : ℕ → Value → Execution Value
has_key i key = do b ← call row.Has (i, (key, tt)); give (truth_value b)

abbrev pub has_joined : ℕ → Value → Value → Execution Value
has_joined i first rest = do
  key ← call row.Join (first, (rest, tt))
  b ← call row.Has (i, (key, tt))
  give (truth_value b)

-- a field's number is converted and checked where the place is found
abbrev pub field_place : Value → Execution Place
field_place x = do m ← number_in x; checked ← settled (field_checked m); give (FieldAt checked)

-- a quotient, parentheses aside
pub data IsQuotient (a b : Tree) : Tree → Type 0 where
  quotient : IsQuotient a b (Bin (Other (token.Mul token.Over)) a b)
  grouped : {t : Tree} → IsQuotient a b t → IsQuotient a b (Group t)

abbrev pub IsNoQuotient : Tree → Type 0
IsNoQuotient (Group t) = IsNoQuotient t
IsNoQuotient (Bin (Other (token.Mul token.Over)) a b) = ⊥
IsNoQuotient _ = Unit {0}

abbrev pub IsNoName : Tree → Type 0
IsNoName (Var x) = ⊥
IsNoName _ = Unit {0}

-- Arguments that no script has: the parser refuses them, and nothing is meant by what they do.
pub data IsMisused : Builtin → Trees → Type 0 where
  substr_of_none : IsMisused builtin.Substr NoTree
  substr_of_one : {a : Tree} → IsMisused builtin.Substr (Then a NoTree)
  index_of_none : IsMisused builtin.Index NoTree
  index_of_one : {a : Tree} → IsMisused builtin.Index (Then a NoTree)
  split_of_none : IsMisused builtin.Split NoTree
  split_of_one : {a : Tree} → IsMisused builtin.Split (Then a NoTree)
  split_into_none : {a b : Tree} {ts : Trees} → IsNoName b → IsMisused builtin.Split (Then a (Then b ts))
  sub_of_none : IsMisused builtin.Sub NoTree
  sub_of_one : {a : Tree} → IsMisused builtin.Sub (Then a NoTree)
  gsub_of_none : IsMisused builtin.Gsub NoTree
  gsub_of_one : {a : Tree} → IsMisused builtin.Gsub (Then a NoTree)
  match_of_none : IsMisused builtin.Match NoTree
  match_of_one : {a : Tree} → IsMisused builtin.Match (Then a NoTree)
  lower_of_none : IsMisused builtin.ToLower NoTree
  upper_of_none : IsMisused builtin.ToUpper NoTree
  int_of_none : IsMisused builtin.Int NoTree
  close_of_none : IsMisused builtin.Close NoTree

-- The tables: a tree, its operands from left to right, and what is done with their values.

pub data NoOperand (scope : Scope) : Tree → Execution Value → Type 0 where
  a_number : {text : List ℕ} → NoOperand scope (Leaf (token.Number text)) (give (numeric (or_nought (constant text))))
  a_string : {text : List ℕ} → NoOperand scope (Leaf (token.Quoted text)) (give (value.Text (string_text text)))
  an_ere : {text : List ℕ} → NoOperand scope (Leaf (token.Ere text)) (record_matches text)
  a_name : {x : List ℕ} → NoOperand scope (Var x) (read_variable (variable_of scope x))
  bare_length : NoOperand scope Length record_length
  empty_length : NoOperand scope (Apply builtin.Length NoTree) record_length
  flush_all : NoOperand scope (Apply builtin.Fflush NoTree) (give (numeric zero_number))
  -- arguments that no script has
  long_length : {a b : Tree} {ts : Trees} → NoOperand scope (Apply builtin.Length (Then a (Then b ts))) record_length
  misused : {f : Builtin} {ts : Trees} → IsMisused f ts → NoOperand scope (Apply f ts) (give value.Uninit)

pub data OneOperand (scope : Scope) : Tree → Tree → (Value → Execution Value) → Type 0 where
  field : {t : Tree} → OneOperand scope (Field t) t field_read
  negation : {t : Tree} → OneOperand scope (Unary token.Not t) t (λ x. give (truth_value (not (truth_of_value x))))
  plus : {t : Tree} → OneOperand scope (Unary (token.Signed token.Plus) t) t as_number
  minus : {t : Tree} → OneOperand scope (Unary (token.Signed token.Minus) t) t negative
  length : {t : Tree} → OneOperand scope (Apply builtin.Length (Then t NoTree)) t text_length
  lower : {t : Tree} {ts : Trees} → OneOperand scope (Apply builtin.ToLower (Then t ts)) t (λ x. call row.Lower (x, tt))
  upper : {t : Tree} {ts : Trees} → OneOperand scope (Apply builtin.ToUpper (Then t ts)) t (λ x. call row.Upper (x, tt))
  int : {t : Tree} {ts : Trees} → IsNoQuotient t → OneOperand scope (Apply builtin.Int (Then t ts)) t whole_part
  close : {t : Tree} {ts : Trees} → OneOperand scope (Apply builtin.Close (Then t ts)) t closed
  flush : {t : Tree} {ts : Trees} → OneOperand scope (Apply builtin.Fflush (Then t ts)) t flushed
  split_at_fs : {t : Tree} {a : List ℕ} → OneOperand scope (Apply builtin.Split (Then t (Then (Var a) NoTree))) t (split_by_fs scope a)
  getline_file : {t : Tree} → OneOperand scope (GetFrom t) t file_read

pub data TwoOperands : Tree → Tree → Tree → (Value → Value → Execution Value) → Type 0 where
  concatenation : {a b : Tree} → TwoOperands (Bin Join a b) a b (λ x y. call row.Concat (x, (y, tt)))
  addition : {s : token.Sign} {a b : Tree} → TwoOperands (Bin (Add s) a b) a b (computed (sign_operator s))
  multiplication : {p : token.Product} {a b : Tree} → TwoOperands (Bin (Other (token.Mul p)) a b) a b (computed (product_operator p))
  power : {a b : Tree} → TwoOperands (Bin (Other token.Pow) a b) a b (computed power_operator)
  comparison : {c : token.Comparison} {a b : Tree} → TwoOperands (Bin (Other (token.Compare c)) a b) a b (in_order c)
  -- `int` of a quotient is the truncated quotient
  int_quotient : {t a b : Tree} {ts : Trees} → IsQuotient a b t
      → TwoOperands (Apply builtin.Int (Then t ts)) a b (computed (arithmetic truncated_quotient))
  substr_from : {a b : Tree} → TwoOperands (Apply builtin.Substr (Then a (Then b NoTree))) a b rest_of
  index : {a b : Tree} {ts : Trees} → TwoOperands (Apply builtin.Index (Then a (Then b ts))) a b index_of

pub data ThreeOperands : Tree → Tree → Tree → Tree → (Value → Value → Value → Execution Value) → Type 0 where
  substr : {a b c : Tree} {ts : Trees} → ThreeOperands (Apply builtin.Substr (Then a (Then b (Then c ts)))) a b c part_of

-- the second operand is used as an ERE
pub data WithPattern : Tree → Tree → Tree → (Value → Value → Execution Value) → Type 0 where
  matching : {m : token.Matching} {a b : Tree} → WithPattern (Bin (Other (token.Match m)) a b) a b (matching_of m)
  match : {a b : Tree} {ts : Trees} → WithPattern (Apply builtin.Match (Then a (Then b ts))) a b first_match_of

-- the operand is a place
pub data AtPlace : Tree → Tree → (Place → Execution Value) → Type 0 where
  step_before : {s : token.Step} {t : Tree} → AtPlace (Pre s t) t (stepped_before s)
  step_after : {s : token.Step} {t : Tree} → AtPlace (Post s t) t (stepped_after s)

-- the first operand is a place, and the second a value
pub data PlaceAndValue : Tree → Tree → Tree → (Place → Value → Execution Value) → Type 0 where
  set : {a b : Tree} → PlaceAndValue (Bin (Other (token.Assign token.Set)) a b) a b stored
  set_sum : {s : token.Sign} {a b : Tree} → PlaceAndValue (Bin (Other (token.Assign (token.SetSum s))) a b) a b (updated_by (sign_operator s))
  set_product : {p : token.Product} {a b : Tree}
      → PlaceAndValue (Bin (Other (token.Assign (token.SetProduct p))) a b) a b (updated_by (product_operator p))
  set_power : {a b : Tree} → PlaceAndValue (Bin (Other (token.Assign token.SetPower)) a b) a b (updated_by power_operator)
  getline_into_from : {v file : Tree} → PlaceAndValue (GetIntoFrom v file) v file file_read_into

-- `sub` and `gsub`: whether all matches are replaced, the ERE, the replacement and the target
pub data Replacing : Tree → Bool → Tree → Tree → Option Tree → Type 0 where
  sub_record : {e r : Tree} → Replacing (Apply builtin.Sub (Then e (Then r NoTree))) false e r None
  sub : {e r t : Tree} {ts : Trees} → Replacing (Apply builtin.Sub (Then e (Then r (Then t ts)))) false e r (Some t)
  gsub_record : {e r : Tree} → Replacing (Apply builtin.Gsub (Then e (Then r NoTree))) true e r None
  gsub : {e r t : Tree} {ts : Trees} → Replacing (Apply builtin.Gsub (Then e (Then r (Then t ts)))) true e r (Some t)

-- a tree that is no place; no script has one where a place is wanted
abbrev pub IsNoPlace : Tree → Type 0
IsNoPlace (Var x) = ⊥
IsNoPlace (Index x ts) = ⊥
IsNoPlace (Field t) = ⊥
IsNoPlace _ = Unit {0}
