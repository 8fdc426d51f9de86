-- What primitives mean whose meaning the table has in a line, by names.
use Rattle.std.specs.Prelude.{Bool, ◌++◌, Result, Ok, ℕ, [], ◌∷◌, length, get_or, Option, is_some, ◌&&◌, map, None, pos, ◌+ℤ◌, int_le, int_lt, true, List, if◌then◌else◌}
use Rattle.awk_values.specs.Comparison.{comparison}
use Rattle.awk_values.specs.Values.{text_of_value, truncated_of_value}
use Rattle.awk_values.specs.declared.comparison.CompareOp.{CompareOp}
use Rattle.awk_values.specs.declared.fault.Fault.{Fault}
use Rattle.awk_values.specs.declared.value.Value.{Value}
use Rattle.sem_primitives.specs.Numbers.{Number, outcome_of}
use Rattle.sem_primitives.specs.ValueMeaning.{within_limit}
use Rattle.sem_primitives.specs.SharedState.{Inner, ◌>>=◌, Shared, HostResult}
use Rattle.sem_primitives.specs.FieldMeaning.{field_number, with_field, field_of, set_special, done, special_text}
use Rattle.sem_primitives.specs.ArrayMeaning.{element, stored, without, keys, array, with_array, found, visited}
use Rattle.sem_primitives.specs.declared.constants.Special.{Special}
use Rattle.sem_primitives.specs.declared.constants.Special.TheVariants.{Subsep}
use Rattle.awk_values.specs.declared.value.Value.TheVariants.{Text}
use Rattle.sem_primitives.specs.Texts.{counted}
use Rattle.sem_primitives.specs.FirstMatch.{has_match}
use Rattle.sem_primitives.specs.Eres.{expression_of}
use Rattle.sem_primitives.specs.TextMeaning.{chosen, place_of, lower, upper, given}
use Rattle.world_core.specs.WorldState.{Outside}
use Rattle.sem_primitives.specs.MainInput.{main_input}
use Rattle.sem_primitives.specs.InputMeaning.{gives_up, as_record, as_line, next_of, getline_by, getline_file_by, name_of, value_of}
use Rattle.sem_primitives.specs.OutputMeaning.{printed, put_text, file_name, operands_of, formatted_values, printf_by, all_out}
use Rattle.sem_primitives.specs.declared.answers.InputAnswer.{InputAnswer}
use Rattle.sem_primitives.specs.declared.constants.NameKind.{NameKind}
use Rattle.sem_primitives.specs.declared.answers.StreamAnswer.{StreamAnswer}
use Rattle.sem_primitives.specs.declared.answers.StreamAnswer.TheVariants as stream
use Rattle.sem_primitives.specs.declared.constants.Destination.{Destination}

abbrev pub truncated_row : Value → Result Number Fault
truncated_row value = outcome_of (truncated_of_value value)

abbrev pub comparison_row : CompareOp → Value → Value → Result Bool Fault
comparison_row op left right = comparison left right op

abbrev pub concat_row : Value → Value → Result Value Fault
concat_row left right = within_limit (text_of_value left ++ text_of_value right)

abbrev pub set_special_row : Special → Value → Inner → Result (Inner × Unit {0}) Fault
set_special_row s v inner = done (set_special s v inner)

abbrev pub field_row : Number → Inner → Result Value Fault
field_row n inner = field_number n.number >>= λ k. Ok (field_of k inner)

abbrev pub set_field_row : Number → Value → Inner → Result (Inner × Unit {0}) Fault
set_field_row n v inner = field_number n.number >>= λ k. done (with_field k v inner)

abbrev pub new_array_row : Inner → Inner × ℕ
new_array_row inner = (record inner { arrays = inner.arrays ++ ([] ∷ []) }, length inner.arrays)

abbrev pub element_row : ℕ → Value → Inner → Inner × Value
element_row a key inner = found a (text_of_value key) inner (element (text_of_value key) (array a inner))

abbrev pub set_element_row : ℕ → Value → Value → Inner → Inner × Unit {0}
set_element_row a key v inner = (with_array a (stored (text_of_value key) v (array a inner)) inner, tt)

abbrev pub has_row : ℕ → Value → Inner → Bool
has_row a key inner = is_some (element (text_of_value key) (array a inner))

abbrev pub delete_row : ℕ → Value → Inner → Inner × Unit {0}
delete_row a key inner = (with_array a (without (text_of_value key) (array a inner)) inner, tt)

-- nothing is left in an array, which is there all the same
abbrev pub clear_row : ℕ → Inner → Inner × Unit {0}
clear_row a inner = (with_array a [] inner, tt)

-- two parts of a key
abbrev pub join_row : Value → Value → Inner → Result Value Fault
join_row left right inner = within_limit (text_of_value left ++ (special_text Subsep inner ++ text_of_value right))

-- the keys that are there now are visited, whatever becomes of them
abbrev pub iterate_row : ℕ → Inner → Inner × ℕ
iterate_row a inner = (record inner { iterators = inner.iterators ++ (keys (array a inner) ∷ []) }, length inner.iterators)

abbrev pub next_key_row : ℕ → Inner → Inner × Option Value
next_key_row t inner = visited t inner (get_or inner.iterators t [])

abbrev pub length_row : Value → Number
length_row v = counted (length (text_of_value v))

-- the bytes at the places from m on, and below m + n
abbrev pub substr_row : Value → Number → Number → Value
substr_row v m n = Text (chosen (λ p. int_le m.number (pos p) && int_lt (pos p) (m.number +ℤ n.number)) 1 (text_of_value v))

abbrev pub substr_from_row : Value → Number → Value
substr_from_row v m = Text (chosen (λ p. int_le m.number (pos p)) 1 (text_of_value v))

abbrev pub index_row : Value → Value → Number
index_row v wanted = counted (place_of (text_of_value v) (text_of_value wanted))

abbrev pub lower_row : Value → Value
lower_row v = Text (map lower (text_of_value v))

abbrev pub upper_row : Value → Value
upper_row v = Text (map upper (text_of_value v))

abbrev pub matches_row : Value → Value → Result Bool Fault
matches_row v ere = expression_of (text_of_value ere) >>= λ t. Ok (has_match t (text_of_value v))

abbrev pub substituted_row : Inner → Inner × Value
substituted_row inner = (record inner { substituted = None }, given inner.substituted)

abbrev pub next_file_row : Inner → Inner × Unit {0}
next_file_row inner = (gives_up inner.main.reading inner, tt)

abbrev pub next_main_row : Outside → Inner → Result (Inner × InputAnswer) Fault
next_main_row outside inner = main_input outside inner >>= λ x. next_of x

abbrev pub getline_row : Outside → Inner → Result (Inner × InputAnswer) Fault
getline_row outside inner = getline_by inner.in_end as_record outside inner

abbrev pub getline_line_row : Outside → Inner → Result (Inner × InputAnswer) Fault
getline_line_row outside inner = getline_by inner.in_end as_line outside inner

abbrev pub getline_file_row : Value → Outside → Inner → Result (Inner × InputAnswer) Fault
getline_file_row name outside inner = getline_file_by as_record name outside inner

abbrev pub getline_line_file_row : Value → Outside → Inner → Result (Inner × InputAnswer) Fault
getline_line_file_row name outside inner = getline_file_by as_line name outside inner

-- what was read for a variable is given once
abbrev pub line_row : Inner → Inner × Value
line_row inner = (record inner { line = None }, given inner.line)

abbrev pub declare_row : List ℕ → NameKind → Inner → Inner × Unit {0}
declare_row name kind inner = (record inner { names = inner.names ++ ((name, kind) ∷ []) }, tt)

abbrev pub pending_name_row : Inner → ℕ
pending_name_row inner = name_of inner.pending

abbrev pub pending_value_row : Inner → Inner × Value
pending_value_row inner = (record inner { pending = None }, given (value_of inner.pending))

abbrev pub begin_end_row : Inner → Inner × Unit {0}
begin_end_row inner = (record inner { in_end = true }, tt)

abbrev pub print_row : Destination → List Value → Shared → HostResult (Result (Unit {0}) Fault)
print_row to values state = put_text to (file_name to values) (printed state.inner (operands_of to values)) state

abbrev pub sprintf_row : List Value → Result Value Fault
sprintf_row values = formatted_values values >>= λ text. Ok (Text text)

abbrev pub printf_row : Destination → List Value → Shared → HostResult (Result (Unit {0}) Fault)
printf_row to values state = printf_by (formatted_values (operands_of to values)) to (file_name to values) state

abbrev pub flush_row : Value → Inner → StreamAnswer
flush_row name inner = if all_out (text_of_value name) inner.writers then stream.Done else stream.NotOpen
