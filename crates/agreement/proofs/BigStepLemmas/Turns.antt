-- What is done leaves at most the turns that there were: primitives, and all that operations do.
use Rattle.std.proofs.Common.{◌≡◌, ℕ, zero, suc, ◌≤◌, Bool, true, false, List, [], ◌∷◌, Result, Ok, Err, ℤ, refl, arith}
use Rattle.std.specs.Prelude.{if◌then◌else◌}
use Rattle.awk_values.specs.Comparison.{comparison as order}
use Rattle.awk_values.specs.Operators.{Outcome as Checked, is_zero, sum, difference, product, quotient, remainder, truncated_quotient}
use Rattle.awk_values.specs.declared.fault.Fault.{Fault}
use Rattle.awk_values.specs.declared.value.Value.{Value}
use Rattle.awk_values.specs.declared.value.Value.TheVariants as value
use Rattle.sem_primitives.specs.Carried.{carried_out}
use Rattle.sem_primitives.specs.Numbers.{Number as AnyNumber, outcome_of}
use Rattle.sem_primitives.specs.SharedState.{Shared, HostResult, shared_after}
use Rattle.sem_primitives.specs.Sorts.{Row, InAnswer, OrFault}
use Rattle.sem_primitives.specs.Table.{arguments_of, answer_of, can_fault, meaning, listed_answer, listed_meaning}
use Rattle.sem_primitives.specs.ValueMeaning.{number_of_row}
use Rattle.sem_primitives.specs.declared.answers.InputAnswer.{InputAnswer}
use Rattle.sem_primitives.specs.declared.answers.InputAnswer.TheVariants as input
use Rattle.sem_primitives.specs.declared.constants.Special.TheVariants.{Fs}
use Rattle.sem_primitives.specs.declared.table.Listed.{Listed}
use Rattle.sem_primitives.specs.declared.table.Listed.TheVariants as listed
use Rattle.sem_primitives.specs.declared.table.Primitive.{Primitive}
use Rattle.sem_primitives.specs.declared.table.Primitive.TheVariants as row
use Rattle.awk_grammar.specs.Token as token
use Rattle.awk_grammar.specs.Trees.{Tree}
use Rattle.sem_scripts.specs.Names.{Name, ArrayName, Numbered, Given, Scope, Variable, Global, Parameter, Reserved, is_array, variable_of, array_of}
use Rattle.sem_scripts.specs.ScriptState.{Scalar, Array, State, Stop, Outcome, Gives, Stops, Execution, go_on, ◌>>=◌, give, stop, look, change, settled, or_fault, perform, call, call_listed, spent, spend, spend_all, asks, global_value, local_value, local_array, with_global, with_local}
use Rattle.sem_scripts.specs.Steps.{Operator, numeric, zero_number, one_number, truth_value, number_in, arithmetic, sign_operator, product_operator, power_operator, step_operator, computed, comparison_of, array_number, read_variable, store_variable, field_checked, Place, Named, Element, FieldAt, read_place, store_place, stored, ere_text, input_number, stream_number, received, replaced_in, fresh, fresh_all}
use Rattle.sem_scripts.specs.Meaning.{matched, assign_pending, name_passed}
use Rattle.sem_scripts.specs.Statements.{put}
use Rattle.agreement.specs.BigStep.Operations.{record_length, field_place, has_key, has_joined, replaced, split_by, updated_by, NoOperand, a_number, a_string, an_ere, a_name, bare_length, empty_length, flush_all, long_length, misused, OneOperand, field, negation, plus, minus, length, lower, upper, int, close, flush, split_at_fs, getline_file, TwoOperands, concatenation, addition, multiplication, power, comparison, int_quotient, substr_from, index, ThreeOperands, substr, WithPattern, matching, match, AtPlace, step_before, step_after, PlaceAndValue, set, set_sum, set_product, set_power, getline_into_from}

abbrev pub state_of : {A : Type 0} → Outcome A → State
state_of (Gives a s) = s
state_of (Stops why s) = s

pub record Spends {A : Type 0} (m : Execution A) : Type 0 where
  pub falls : (s : State) → (state_of (m s)).turns ≤ s.turns

pub below : {a b c : ℕ} → b ≤ a → c ≤ b → c ≤ a
below p q = omega (arith, p, q)

pub same : (n : ℕ) → n ≤ n
same n = omega arith

-- One thing after another.

then_falls : {A B : Type 0} (o : Outcome A) (f : A → Execution B) → ((a : A) → Spends (f a)) → (state_of (go_on o f)).turns ≤ (state_of o).turns
then_falls (Gives a s) f h = (h a).falls s
then_falls (Stops why s) f h = same s.turns

pub then_spends : {A B : Type 0} {m : Execution A} {f : A → Execution B} → Spends m → ((a : A) → Spends (f a)) → Spends (m >>= f)
then_spends {m} {f} p h = record { falls = λ s. below (p.falls s) (then_falls (m s) f h) }

pub give_spends : {A : Type 0} (a : A) → Spends (give a)
give_spends a = record { falls = λ s. same s.turns }

pub stop_spends : {A : Type 0} (why : Stop) → Spends {A = A} (stop why)
stop_spends why = record { falls = λ s. same s.turns }

pub look_spends : {A : Type 0} (f : State → A) → Spends (look f)
look_spends f = record { falls = λ s. same s.turns }

change_spends : (f : State → State) → ((s : State) → (f s).turns ≡ s.turns) → Spends (change f)
change_spends f h = record { falls = λ s. (let e = h s in omega (arith, e)) }

settled_falls : {A : Type 0} (r : Result A Fault) (s : State) → (state_of (settled r s)).turns ≤ s.turns
settled_falls (Ok a) s = same s.turns
settled_falls (Err fault) s = same s.turns

pub settled_spends : {A : Type 0} (r : Result A Fault) → Spends (settled r)
settled_spends r = record { falls = λ s. settled_falls r s }

perform_falls : (A : Type 0) (b : Bool) (f : Shared → HostResult (OrFault b A)) (s : State) → (state_of (perform b f s)).turns ≤ s.turns
perform_falls A b f s =
    let after : State = record s { shared = shared_after s.shared (f s.shared) } in
    settled_falls (or_fault b (f s.shared).answer) after

perform_spends : {A : Type 0} (b : Bool) (f : Shared → HostResult (OrFault b A)) → Spends (perform b f)
perform_spends {A} b f = record { falls = λ s. perform_falls A b f s }

pub call_spends : (p : Primitive) (given : Row (arguments_of p)) → Spends (call p given)
call_spends p given = perform_spends {A = InAnswer (answer_of p)} (can_fault p) (meaning p given)

pub listed_spends : (l : Listed) (xs : List Value) → Spends (call_listed l xs)
listed_spends l xs = perform_spends {A = InAnswer (listed_answer l)} true (listed_meaning l xs)

spent_falls : (n : ℕ) (s : State) → n ≡ s.turns → (state_of (spent n s)).turns ≤ s.turns
spent_falls zero s e = same s.turns
spent_falls (suc n) s e = omega (arith, e)

spend_spends : Spends spend
spend_spends = record { falls = λ s. spent_falls s.turns s refl }

spend_all_spends : (k : ℕ) → Spends (spend_all k)
unfolding spend_all
spend_all_spends zero = give_spends tt
spend_all_spends (suc k) = then_spends spend_spends (λ u. spend_all_spends k)

pub asks_spends : (p : Primitive) (given : Row (arguments_of p)) → Spends (asks p given)
asks_spends p given = then_spends (look_spends (λ s. carried_out p s.shared)) (λ k. then_spends (spend_all_spends k) (λ u. call_spends p given))

pub choose_spends : {A : Type 0} {m k : Execution A} (b : Bool) → Spends m → Spends k → Spends (if b then m else k)
choose_spends true p q = p
choose_spends false p q = q

-- Numbers.

pub number_spends : (x : Value) → Spends (number_in x)
number_spends x = settled_spends (number_of_row x)

abbrev Frugal : Operator → Type 0
Frugal operator = (m n : AnyNumber) → Spends (operator m n)

arithmetic_spends : (f : ℤ → ℤ → Checked) → Frugal (arithmetic f)
arithmetic_spends f m n = settled_spends (outcome_of (f m.number n.number))

sign_spends : (s : token.Sign) → Frugal (sign_operator s)
sign_spends token.Plus = arithmetic_spends sum
sign_spends token.Minus = arithmetic_spends difference

product_spends : (p : token.Product) → Frugal (product_operator p)
product_spends token.Times = arithmetic_spends product
product_spends token.Over = arithmetic_spends quotient
product_spends token.Modulo = arithmetic_spends remainder

power_spends : Frugal power_operator
power_spends m n = call_spends row.Pow (m, (n, tt))

step_spends : (s : token.Step) → Frugal (step_operator s)
step_spends token.Increment = arithmetic_spends sum
step_spends token.Decrement = arithmetic_spends difference

computed_spends : (operator : Operator) → Frugal operator → (x y : Value) → Spends (computed operator x y)
computed_spends operator h x y = then_spends (number_spends x) (λ m. then_spends (number_spends y) (λ n. then_spends (h m n) (λ r. give_spends (numeric r))))

-- Variables, elements and fields.

array_spends : (a : ArrayName) → Spends (array_number a)
array_spends (Numbered i) = give_spends i
array_spends (Given i) = look_spends (local_array i)

read_variable_spends : (x : Variable) → Spends (read_variable x)
read_variable_spends (Global i) = look_spends (global_value i)
read_variable_spends (Parameter i) = look_spends (local_value i)
read_variable_spends (Reserved special) = call_spends row.GetSpecial (special, tt)

pub store_variable_spends : (x : Variable) (v : Value) → Spends (store_variable x v)
store_variable_spends (Global i) v = change_spends (with_global i v) (λ s. refl)
store_variable_spends (Parameter i) v = change_spends (with_local i v) (λ s. refl)
store_variable_spends (Reserved special) v = call_spends row.SetSpecial (special, (v, tt))

read_place_spends : (place : Place) → Spends (read_place place)
read_place_spends (Named x) = read_variable_spends x
read_place_spends (Element a key) = then_spends (array_spends a) (λ i. call_spends row.Elem (i, (key, tt)))
read_place_spends (FieldAt n) = call_spends row.Field (n, tt)

store_place_spends : (place : Place) (v : Value) → Spends (store_place place v)
store_place_spends (Named x) v = store_variable_spends x v
store_place_spends (Element a key) v = then_spends (array_spends a) (λ i. call_spends row.SetElem (i, (key, (v, tt))))
store_place_spends (FieldAt n) v = call_spends row.SetField (n, (v, tt))

stored_spends : (place : Place) (v : Value) → Spends (stored place v)
stored_spends place v = then_spends (store_place_spends place v) (λ u. give_spends v)

pub received_spends : (place : Place) (answer : InputAnswer) → Spends (received place answer)
received_spends place input.Read =
    then_spends (call_spends row.Line tt) (λ text. then_spends (store_place_spends place text) (λ u. give_spends (numeric one_number)))
received_spends place input.End = give_spends (numeric (input_number input.End))
received_spends place input.Pending = give_spends (numeric (input_number input.Pending))
received_spends place input.Failed = give_spends (numeric (input_number input.Failed))

replaced_in_spends : (place : Place) (count : AnyNumber) → Spends (replaced_in place count)
replaced_in_spends place count =
    then_spends (choose_spends (is_zero count.number) (give_spends tt) (then_spends (call_spends row.SubResult tt) (λ v. store_place_spends place v)))
    (λ u. give_spends (numeric count))

pub replaced_spends : (all : Bool) (ere by : Value) (place : Place) → Spends (replaced all ere by place)
replaced_spends all ere by place =
    then_spends (read_place_spends place) (λ old. then_spends (call_spends row.Sub (ere, (by, (old, (all, tt))))) (λ count. replaced_in_spends place count))

fresh_spends : (p : Name) → Spends (fresh p)
fresh_spends p = choose_spends p.is_array (then_spends (call_spends row.NewArray tt) (λ i. give_spends (Array i))) (give_spends (Scalar value.Uninit))

pub fresh_all_spends : (ps : List Name) → Spends (fresh_all ps)
fresh_all_spends [] = give_spends []
fresh_all_spends (p ∷ ps) = then_spends (fresh_spends p) (λ l. then_spends (fresh_all_spends ps) (λ ls. give_spends (l ∷ ls)))

pub name_passed_spends : (scope : Scope) (p : Name) (x : List ℕ) → Spends (name_passed scope p x)
name_passed_spends scope p x =
    choose_spends p.is_array (then_spends (array_spends (array_of scope x)) (λ i. give_spends (Array i)))
    (choose_spends (is_array scope x) (give_spends (Scalar value.Uninit))
    (then_spends (read_variable_spends (variable_of scope x)) (λ v. give_spends (Scalar v))))

pub assign_pending_spends : Spends assign_pending
assign_pending_spends =
    then_spends (call_spends row.PendingName tt) (λ i. then_spends (call_spends row.PendingValue tt) (λ v. change_spends (with_global i v) (λ s. refl)))

pub put_spends : (l : Listed) (xs : List Value) → Spends (put l xs)
put_spends (listed.Print d) xs = listed_spends (listed.Print d) xs
put_spends (listed.Printf d) xs = listed_spends (listed.Printf d) xs
put_spends listed.Sprintf xs = give_spends tt

record_length_spends : Spends record_length
record_length_spends = then_spends (call_spends row.Field (zero_number, tt)) (λ x. then_spends (call_spends row.Length (x, tt)) (λ m. give_spends (numeric m)))

pub split_spends : (i : ℕ) (is_ere : Bool) (x separator : Value) → Spends (split_by i is_ere x separator)
split_spends i is_ere x separator = then_spends (call_spends row.Split (x, (i, (separator, (is_ere, tt))))) (λ m. give_spends (numeric m))

pub has_spends : (i : ℕ) (key : Value) → Spends (has_key i key)
has_spends i key = then_spends (call_spends row.Has (i, (key, tt))) (λ b. give_spends (truth_value b))

pub has_joined_spends : (i : ℕ) (first rest : Value) → Spends (has_joined i first rest)
has_joined_spends i first rest =
    then_spends (call_spends row.Join (first, (rest, tt))) (λ key. then_spends (call_spends row.Has (i, (key, tt))) (λ b. give_spends (truth_value b)))

pub field_place_spends : (x : Value) → Spends (field_place x)
field_place_spends x = then_spends (number_spends x) (λ m. then_spends (settled_spends (field_checked m)) (λ n. give_spends (FieldAt n)))

-- The tables.

pub none_spends : {scope : Scope} {t : Tree} {m : Execution Value} → NoOperand scope t m → Spends m
none_spends a_number = give_spends _
none_spends a_string = give_spends _
none_spends (an_ere {text}) =
    then_spends (call_spends row.Field (zero_number, tt))
    (λ x. then_spends (call_spends row.Matches (x, (value.Text (ere_text text), tt))) (λ b. give_spends (truth_value b)))
none_spends {scope} (a_name {x}) = read_variable_spends (variable_of scope x)
none_spends bare_length = record_length_spends
none_spends empty_length = record_length_spends
none_spends flush_all = give_spends _
none_spends long_length = record_length_spends
none_spends (misused q) = give_spends _

pub one_spends : {scope : Scope} {t a : Tree} {f : Value → Execution Value} → OneOperand scope t a f → (x : Value) → Spends (f x)
one_spends field x = then_spends (number_spends x) (λ m. call_spends row.Field (m, tt))
one_spends negation x = give_spends _
one_spends plus x = then_spends (number_spends x) (λ m. give_spends (numeric m))
one_spends minus x = then_spends (number_spends x) (λ m. then_spends (arithmetic_spends difference zero_number m) (λ r. give_spends (numeric r)))
one_spends length x = then_spends (call_spends row.Length (x, tt)) (λ m. give_spends (numeric m))
one_spends lower x = call_spends row.Lower (x, tt)
one_spends upper x = call_spends row.Upper (x, tt)
one_spends (int q) x = then_spends (call_spends row.IntOf (x, tt)) (λ m. give_spends (numeric m))
one_spends close x = then_spends (call_spends row.Close (x, tt)) (λ answer. give_spends (numeric (stream_number answer)))
one_spends flush x = then_spends (call_spends row.Flush (x, tt)) (λ answer. give_spends (numeric (stream_number answer)))
one_spends {scope} (split_at_fs {a}) x =
    then_spends (array_spends (array_of scope a))
    (λ i. then_spends (call_spends row.GetSpecial (Fs, tt)) (λ separator. split_spends i false x separator))
one_spends getline_file x = then_spends (call_spends row.GetlineFile (x, tt)) (λ answer. give_spends (numeric (input_number answer)))

pub two_spends : {t a b : Tree} {f : Value → Value → Execution Value} → TwoOperands t a b f → (x y : Value) → Spends (f x y)
two_spends concatenation x y = call_spends row.Concat (x, (y, tt))
two_spends (addition {s}) x y = computed_spends (sign_operator s) (sign_spends s) x y
two_spends (multiplication {p}) x y = computed_spends (product_operator p) (product_spends p) x y
two_spends power x y = computed_spends power_operator power_spends x y
two_spends (comparison {c}) x y = then_spends (settled_spends (order x y (comparison_of c))) (λ b. give_spends (truth_value b))
two_spends (int_quotient q) x y = computed_spends (arithmetic truncated_quotient) (arithmetic_spends truncated_quotient) x y
two_spends substr_from x y = then_spends (number_spends y) (λ m. call_spends row.SubstrFrom (x, (m, tt)))
two_spends index x y = then_spends (call_spends row.Index (x, (y, tt))) (λ m. give_spends (numeric m))

pub three_spends : {t a b c : Tree} {f : Value → Value → Value → Execution Value} → ThreeOperands t a b c f → (x y z : Value) → Spends (f x y z)
three_spends substr x y z = then_spends (number_spends y) (λ m. then_spends (number_spends z) (λ l. call_spends row.Substr (x, (m, (l, tt)))))

pub pattern_spends : {t a b : Tree} {f : Value → Value → Execution Value} → WithPattern t a b f → (x y : Value) → Spends (f x y)
pattern_spends (matching {m}) x y = then_spends (call_spends row.Matches (x, (y, tt))) (λ found. give_spends (truth_value (matched m found)))
pattern_spends match x y = then_spends (call_spends row.Match (x, (y, tt))) (λ m. give_spends (numeric m))

pub place_spends : {t a : Tree} {f : Place → Execution Value} → AtPlace t a f → (place : Place) → Spends (f place)
place_spends (step_before {s}) place =
    then_spends (read_place_spends place)
    (λ old. then_spends (number_spends old) (λ m. then_spends (step_spends s m one_number) (λ r. stored_spends place (numeric r))))
place_spends (step_after {s}) place =
    then_spends (read_place_spends place)
    (λ old. then_spends (number_spends old)
    (λ m. then_spends (step_spends s m one_number) (λ r. then_spends (store_place_spends place (numeric r)) (λ u. give_spends (numeric m)))))

updated_spends : (operator : Operator) → Frugal operator → (place : Place) (x : Value) → Spends (updated_by operator place x)
updated_spends operator h place x =
    then_spends (read_place_spends place) (λ old. then_spends (computed_spends operator h old x) (λ r. stored_spends place r))

pub assigned_spends : {t a b : Tree} {f : Place → Value → Execution Value} → PlaceAndValue t a b f → (place : Place) (x : Value) → Spends (f place x)
assigned_spends set place x = stored_spends place x
assigned_spends (set_sum {s}) place x = updated_spends (sign_operator s) (sign_spends s) place x
assigned_spends (set_product {p}) place x = updated_spends (product_operator p) (product_spends p) place x
assigned_spends set_power place x = updated_spends power_operator power_spends place x
assigned_spends getline_into_from place x = then_spends (call_spends row.GetlineVarFile (x, tt)) (λ answer. received_spends place answer)
