-- The table of primitives: for each the sorts of its arguments, of its answer, whether it may fault, and its meaning.
use Rattle.std.specs.Prelude.{Bool, true, false, List, [], ◌∷◌, Err, Result, if◌then◌else◌, ◌++◌, length, Ok, map, get_or, pos, None, is_some, ◌&&◌, ◌+ℤ◌, int_le, int_lt}
use Rattle.awk_values.specs.Values.{truth_of_value, text_of_value, truncated_of_value}
use Rattle.awk_values.specs.declared.fault.Fault.{Fault}
use Rattle.awk_values.specs.declared.value.Value.{Value}
use Rattle.awk_values.specs.declared.value.Value.TheVariants as value
use Rattle.sem_primitives.specs.Sorts.{Row, InAnswer, OrFault}
use Rattle.sem_primitives.specs.SharedState.{Shared, HostResult, gives, changes, settles, special_of, ◌>>=◌}
use Rattle.sem_primitives.specs.ValueMeaning.{number_of_row, power_row, within_limit}
use Rattle.sem_primitives.specs.FieldMeaning.{special_text, field_number, with_field, field_of, set_special, done}
use Rattle.sem_primitives.specs.ArrayMeaning.{element, stored, without, keys, with_array, found, visited, array}
use Rattle.sem_primitives.specs.TextMeaning.{match_row, substitute_row, split_row, chosen, place_of, lower, upper, given}
use Rattle.sem_primitives.specs.InputMeaning.{close_row, gives_up, as_record, as_line, next_of, getline_by, getline_file_by, name_of, value_of}
use Rattle.sem_primitives.specs.MainInput.{start_assign_row, main_input}
use Rattle.sem_primitives.specs.OutputMeaning.{printed, put_text, file_name, operands_of, formatted_values, printf_by, all_out}
use Rattle.awk_values.specs.Comparison.{comparison}
use Rattle.sem_primitives.specs.Numbers.{outcome_of}
use Rattle.sem_primitives.specs.declared.constants.Special.TheVariants.{Subsep}
use Rattle.sem_primitives.specs.Texts.{counted}
use Rattle.sem_primitives.specs.FirstMatch.{has_match}
use Rattle.sem_primitives.specs.Eres.{expression_of}
use Rattle.sem_primitives.specs.declared.answers.StreamAnswer.TheVariants as stream
use Rattle.sem_primitives.specs.declared.sorts.Sort.TheVariants as sort
use Rattle.sem_primitives.specs.declared.sorts.Constant.TheVariants as constant
use Rattle.sem_primitives.specs.declared.sorts.Argument.{Argument}
use Rattle.sem_primitives.specs.declared.sorts.Argument.TheVariants.{Of, Constant, Place}
use Rattle.sem_primitives.specs.declared.sorts.Answer.{Answer}
use Rattle.sem_primitives.specs.declared.sorts.Answer.TheVariants as answer
use Rattle.sem_primitives.specs.declared.table.Primitive.{Primitive}
use Rattle.sem_primitives.specs.declared.table.Primitive.TheVariants.{Num, Lit, Uninit, Dup, ToNum, IntOf, Truth, Compare, Concat, Pow, Fail, GetSpecial, SetSpecial, Field, SetField, NewArray, Elem, SetElem, Has, Delete, Join, Iter, IterNext, Length, Matches, Match, Sub, SubResult, Split, Substr, SubstrFrom, Index, Lower, Upper, NextMain, Getline, GetlineVar, GetlineFile, GetlineVarFile, Line, Declare, StartAssign, PendingName, PendingValue, BeginEnd, Close, NextFile, Clear, Flush}
use Rattle.sem_primitives.specs.declared.table.Listed.{Listed}
use Rattle.sem_primitives.specs.declared.table.Listed.TheVariants.{Sprintf, Print, Printf}

pub record Signature : Type 0 where
  pub arguments : List Argument
  pub answer : Answer
  pub can_fault : Bool

abbrev pub signature : List Argument → Answer → Bool → Signature
signature arguments a can_fault = record { arguments = arguments; answer = a; can_fault = can_fault }

abbrev pub signature_of : Primitive → Signature
signature_of Num = signature (Of sort.Number ∷ []) (answer.Of sort.Value) false
signature_of Lit = signature (Place ∷ []) (answer.Of sort.Value) false
signature_of Uninit = signature [] (answer.Of sort.Value) false
signature_of Dup = signature (Of sort.Value ∷ []) (answer.Of sort.Value) false
signature_of ToNum = signature (Of sort.Value ∷ []) (answer.Of sort.Number) true
signature_of IntOf = signature (Of sort.Value ∷ []) (answer.Of sort.Number) true
signature_of Truth = signature (Of sort.Value ∷ []) answer.Truth false
signature_of Compare = signature (Constant constant.Comparison ∷ Of sort.Value ∷ Of sort.Value ∷ []) answer.Truth true
signature_of Concat = signature (Of sort.Value ∷ Of sort.Value ∷ []) (answer.Of sort.Value) true
signature_of Pow = signature (Of sort.Number ∷ Of sort.Number ∷ []) (answer.Of sort.Number) true
signature_of Fail = signature (Constant constant.Fault ∷ []) answer.Nothing true
signature_of GetSpecial = signature (Constant constant.Special ∷ []) (answer.Of sort.Value) false
signature_of SetSpecial = signature (Constant constant.Special ∷ Of sort.Value ∷ []) answer.Done true
signature_of Field = signature (Of sort.Number ∷ []) (answer.Of sort.Value) true
signature_of SetField = signature (Of sort.Number ∷ Of sort.Value ∷ []) answer.Done true
signature_of NewArray = signature [] (answer.Of sort.Array) false
signature_of Elem = signature (Of sort.Array ∷ Of sort.Value ∷ []) (answer.Of sort.Value) false
signature_of SetElem = signature (Of sort.Array ∷ Of sort.Value ∷ Of sort.Value ∷ []) answer.Done false
signature_of Has = signature (Of sort.Array ∷ Of sort.Value ∷ []) answer.Truth false
signature_of Delete = signature (Of sort.Array ∷ Of sort.Value ∷ []) answer.Done false
signature_of Join = signature (Of sort.Value ∷ Of sort.Value ∷ []) (answer.Of sort.Value) true
signature_of Iter = signature (Of sort.Array ∷ []) (answer.Of sort.Iterator) false
signature_of IterNext = signature (Of sort.Iterator ∷ []) answer.ValueOrEnd false
signature_of Length = signature (Of sort.Value ∷ []) (answer.Of sort.Number) false
signature_of Matches = signature (Of sort.Value ∷ Of sort.Value ∷ []) answer.Truth true
signature_of Match = signature (Of sort.Value ∷ Of sort.Value ∷ []) (answer.Of sort.Number) true
signature_of Sub = signature (Of sort.Value ∷ Of sort.Value ∷ Of sort.Value ∷ Constant constant.Flag ∷ []) (answer.Of sort.Number) true
signature_of SubResult = signature [] (answer.Of sort.Value) false
signature_of Split = signature (Of sort.Value ∷ Of sort.Array ∷ Of sort.Value ∷ Constant constant.Flag ∷ []) (answer.Of sort.Number) true
signature_of Substr = signature (Of sort.Value ∷ Of sort.Number ∷ Of sort.Number ∷ []) (answer.Of sort.Value) false
signature_of SubstrFrom = signature (Of sort.Value ∷ Of sort.Number ∷ []) (answer.Of sort.Value) false
signature_of Index = signature (Of sort.Value ∷ Of sort.Value ∷ []) (answer.Of sort.Number) false
signature_of Lower = signature (Of sort.Value ∷ []) (answer.Of sort.Value) false
signature_of Upper = signature (Of sort.Value ∷ []) (answer.Of sort.Value) false
signature_of NextMain = signature [] answer.Input true
signature_of Getline = signature [] answer.Input true
signature_of GetlineVar = signature [] answer.Input true
signature_of GetlineFile = signature (Of sort.Value ∷ []) answer.Input true
signature_of GetlineVarFile = signature (Of sort.Value ∷ []) answer.Input true
signature_of Line = signature [] (answer.Of sort.Value) false
signature_of Declare = signature (Place ∷ Constant constant.NameKind ∷ []) answer.Nothing false
signature_of StartAssign = signature [] answer.Assign true
signature_of PendingName = signature [] answer.Name false
signature_of PendingValue = signature [] (answer.Of sort.Value) false
signature_of BeginEnd = signature [] answer.Nothing false
signature_of Close = signature (Of sort.Value ∷ []) answer.Stream false
signature_of NextFile = signature [] answer.Done false
signature_of Clear = signature (Of sort.Array ∷ []) answer.Done false
signature_of Flush = signature (Of sort.Value ∷ []) answer.Stream false

abbrev pub arguments_of : Primitive → List Argument
arguments_of p = (signature_of p).arguments

abbrev pub answer_of : Primitive → Answer
answer_of p = (signature_of p).answer

abbrev pub can_fault : Primitive → Bool
can_fault p = (signature_of p).can_fault

-- what a primitive does with a row of its arguments
abbrev pub meaning : (p : Primitive) → Row (arguments_of p) → Shared → HostResult (OrFault (can_fault p) (InAnswer (answer_of p)))
meaning Num (n, _) state = gives state (value.Num n.number)
meaning Lit (text, _) state = gives state (value.Text text)
meaning Uninit _ state = gives state value.Uninit
meaning Dup (v, _) state = gives state v
meaning ToNum (v, _) state = gives state (number_of_row v)
meaning IntOf (v, _) state = gives state (outcome_of (truncated_of_value v))
meaning Truth (v, _) state = gives state (truth_of_value v)
meaning Compare (operator, (left, (right, _))) state = gives state (comparison left right operator)
meaning Concat (left, (right, _)) state = gives state (within_limit (text_of_value left ++ text_of_value right))
meaning Pow (base, (exponent, _)) state = gives state (power_row base exponent)
meaning Fail (fault, _) state = gives state (Err fault)
meaning GetSpecial (special, _) state = gives state (special_of state.inner special)
meaning SetSpecial (special, (v, _)) state = settles state (done (set_special special v state.inner))
meaning Field (n, _) state = gives state (field_number n.number >>= λ k. Ok (field_of k state.inner))
meaning SetField (n, (v, _)) state = settles state (field_number n.number >>= λ k. done (with_field k v state.inner))
meaning NewArray _ state = changes (record state.inner { arrays = state.inner.arrays ++ ([] ∷ []) }, length state.inner.arrays)
meaning Elem (a, (key, _)) state = changes (found a (text_of_value key) state.inner (element (text_of_value key) (array a state.inner)))
meaning SetElem (a, (key, (v, _))) state = changes (with_array a (stored (text_of_value key) v (array a state.inner)) state.inner, tt)
meaning Has (a, (key, _)) state = gives state (is_some (element (text_of_value key) (array a state.inner)))
meaning Delete (a, (key, _)) state = changes (with_array a (without (text_of_value key) (array a state.inner)) state.inner, tt)
meaning Join (left, (right, _)) state = gives state (within_limit (text_of_value left ++ (special_text Subsep state.inner ++ text_of_value right)))
meaning Iter (a, _) state = changes (record state.inner { iterators = state.inner.iterators ++ (keys (array a state.inner) ∷ []) }, length state.inner.iterators)
meaning IterNext (iterator, _) state = changes (visited iterator state.inner (get_or state.inner.iterators iterator []))
meaning Length (text, _) state = gives state (counted (length (text_of_value text)))
meaning Matches (text, (ere, _)) state = gives state (expression_of (text_of_value ere) >>= λ t. Ok (has_match t (text_of_value text)))
meaning Match (text, (ere, _)) state = settles state (match_row text ere state.inner)
meaning Sub (ere, (replacement, (target, (all, _)))) state = settles state (substitute_row ere replacement target all state.inner)
meaning SubResult _ state = changes (record state.inner { substituted = None }, given state.inner.substituted)
meaning Split (text, (array, (separator, (is_ere, _)))) state = settles state (split_row text array separator is_ere state.inner)
-- the bytes at the places from the start on, and below the start and the count
meaning Substr (text, (start, (count, _))) state =
    gives state (value.Text (chosen (λ p. int_le start.number (pos p) && int_lt (pos p) (start.number +ℤ count.number)) 1 (text_of_value text)))
meaning SubstrFrom (text, (start, _)) state = gives state (value.Text (chosen (λ p. int_le start.number (pos p)) 1 (text_of_value text)))
meaning Index (text, (part, _)) state = gives state (counted (place_of (text_of_value text) (text_of_value part)))
meaning Lower (text, _) state = gives state (value.Text (map lower (text_of_value text)))
meaning Upper (text, _) state = gives state (value.Text (map upper (text_of_value text)))
meaning NextMain _ state = settles state (main_input state.outside state.inner >>= λ x. next_of x)
meaning Getline _ state = settles state (getline_by state.inner.in_end as_record state.outside state.inner)
meaning GetlineVar _ state = settles state (getline_by state.inner.in_end as_line state.outside state.inner)
meaning GetlineFile (name, _) state = settles state (getline_file_by as_record name state.outside state.inner)
meaning GetlineVarFile (name, _) state = settles state (getline_file_by as_line name state.outside state.inner)
meaning Line _ state = changes (record state.inner { line = None }, given state.inner.line)
meaning Declare (name, (kind, _)) state = changes (record state.inner { names = state.inner.names ++ ((name, kind) ∷ []) }, tt)
meaning StartAssign _ state = settles state (start_assign_row state.inner)
meaning PendingName _ state = gives state (name_of state.inner.pending)
meaning PendingValue _ state = changes (record state.inner { pending = None }, given (value_of state.inner.pending))
meaning BeginEnd _ state = changes (record state.inner { in_end = true }, tt)
meaning Close (name, _) state = changes (close_row name state.inner)
meaning NextFile _ state = changes (gives_up state.inner.main.reading state.inner, tt)
meaning Clear (a, _) state = changes (with_array a [] state.inner, tt)
meaning Flush (name, _) state = gives state (if all_out (text_of_value name) state.inner.writers then stream.Done else stream.NotOpen)

-- of those that take a list of values
abbrev pub listed_answer : Listed → Answer
listed_answer Sprintf = answer.Of sort.Value
listed_answer (Print to) = answer.Done
listed_answer (Printf to) = answer.Done

abbrev pub listed_meaning : (l : Listed) → List Value → Shared → HostResult (Result (InAnswer (listed_answer l)) Fault)
listed_meaning Sprintf values state = gives state (formatted_values values >>= λ text. Ok (value.Text text))
listed_meaning (Print to) values state = put_text to (file_name to values) (printed state.inner (operands_of to values)) state
listed_meaning (Printf to) values state = printf_by (formatted_values (operands_of to values)) to (file_name to values) state
