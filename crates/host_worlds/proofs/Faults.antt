-- The faults of a format are none of writing.
use Rattle.std.proofs.Common.{ℕ, ℤ, Bool, true, false, if◌then◌else◌, List, [], ◌∷◌, Result, Ok, Err, refl, subst}
use Rattle.awk_text.specs.Number.{looks_numeric_text, number_of_text, truncated_of_text}
use Rattle.awk_text.specs.declared.number.NumberFault.{NumberFault}
use Rattle.awk_text.specs.declared.number.NumberFault.TheVariants as number
use Rattle.awk_values.specs.Values.{as_fault, number_of_value, text_of_value, truncated_of_value}
use Rattle.awk_values.specs.declared.fault.Fault.{Fault}
use Rattle.awk_values.specs.declared.fault.Fault.TheVariants.{OpenOutput, TextLimit, WriteFailed}
use Rattle.awk_values.specs.declared.fault.Stop.{Stop}
use Rattle.awk_values.specs.declared.fault.Stop.TheVariants as stop
use Rattle.awk_values.specs.declared.value.Value.{Value}
use Rattle.awk_values.specs.declared.value.Value.TheVariants.{Num, StrNum, Text, Uninit}
use Rattle.sem_primitives.specs.Formats.{Conversion, Converts, Fixed, Char, Specifier, Signed, String, LowerHex, Malformed, Octal, Ordinary, Piece, Unsigned, UpperHex, byte_of_number, char_of, converted, formatted_from, pieces_of, sized, then_text}
use Rattle.sem_primitives.specs.OutputMeaning.{formatted_values}
use Rattle.sem_primitives.specs.SharedState.{◌>>=◌}
use Rattle.host_bytes.specs.Outcomes.{IsStopOf}
use Rattle.host_worlds.specs.OutputCalls.{CountsFailure, answer_of}

abbrev IsOther : Fault → Type 0
IsOther WriteFailed = ⊥
IsOther OpenOutput = ⊥
IsOther _ = Unit {0}

abbrev Others : {A : Type 0} → Result A Fault → Type 0
Others (Ok x) = Unit {0}
Others (Err fault) = IsOther fault

then_others : {A B : Type 0} (r : Result A Fault) (f : A → Result B Fault) → Others r → ((x : A) → Others (f x)) → Others (r >>= f)
then_others (Ok x) f h g = g x
then_others (Err fault) f h g = h

number_others : (r : Result ℤ NumberFault) → Others (as_fault r)
number_others (Ok n) = tt
number_others (Err number.Range) = tt
number_others (Err number.Fraction) = tt

truncated_others : (v : Value) → Others (truncated_of_value v)
truncated_others Uninit = tt
truncated_others (Num n) = tt
truncated_others (Text text) = number_others (truncated_of_text text)
truncated_others (StrNum text) = number_others (truncated_of_text text)

value_others : (v : Value) → Others (number_of_value v)
value_others Uninit = tt
value_others (Num n) = tt
value_others (Text text) = number_others (number_of_text text)
value_others (StrNum text) = number_others (number_of_text text)

char_by : (b : Bool) (x y : Result (List ℕ) Fault) → Others x → Others y → Others (elim b [ true ↦ x | false ↦ y ])
char_by true x y h k = h
char_by false x y h k = k

byte_others : (v : Value) → Others (byte_of_number v)
byte_others v = then_others (truncated_of_value v) _ (truncated_others v) (λ z. tt)

char_others : (v : Value) → Others (char_of v)
char_others Uninit = tt
char_others (Num n) = byte_others (Num n)
char_others (Text text) = tt
char_others (StrNum text) = char_by (looks_numeric_text text) _ _ (byte_others (StrNum text)) tt

converted_others : (d : Conversion) (s : Specifier) (v : Value) → Others (converted d s v)
converted_others d Signed v = then_others (truncated_of_value v) _ (truncated_others v) (λ z. tt)
converted_others d Octal v = then_others (truncated_of_value v) _ (truncated_others v) (λ z. tt)
converted_others d Unsigned v = then_others (truncated_of_value v) _ (truncated_others v) (λ z. tt)
converted_others d LowerHex v = then_others (truncated_of_value v) _ (truncated_others v) (λ z. tt)
converted_others d UpperHex v = then_others (truncated_of_value v) _ (truncated_others v) (λ z. tt)
converted_others d Fixed v = then_others (number_of_value v) _ (value_others v) (λ z. tt)
converted_others d String v = tt
converted_others d Char v = then_others (char_of v) _ (char_others v) (λ text. tt)

limit_others : {A : Type 0} (b : Bool) (x : A) → Others (if b then Ok x else Err TextLimit)
limit_others true x = tt
limit_others false x = tt

text_others : (before : ℕ) (text : List ℕ) (go : ℕ → Result (List ℕ) Fault) → ((n : ℕ) → Others (go n)) → Others (then_text before text go)
text_others before text go h = then_others (sized before text) _ (limit_others _ _) (λ n. then_others (go n) _ (h n) (λ rest. tt))

formatted_others : (pieces : List Piece) (before : ℕ) (values : List Value) → Others (formatted_from before pieces values)
formatted_others [] before values = tt
formatted_others (Ordinary c ∷ pieces) before values = text_others before (c ∷ []) _ (λ n. formatted_others pieces n values)
formatted_others (Converts d ∷ pieces) before [] = tt
formatted_others (Converts d ∷ pieces) before (v ∷ values) =
    then_others (converted d _ v) _ (converted_others d _ v) (λ text. text_others before text _ (λ n. formatted_others pieces n values))
formatted_others (Malformed ∷ pieces) before values = tt

values_others : (values : List Value) → Others (formatted_values values)
values_others [] = tt
values_others (format ∷ values) = formatted_others (pieces_of (text_of_value format)) 0 values

-- no failure is counted then
other_counts : (fault : Fault) (n : ℕ) → IsOther fault → CountsFailure (answer_of (Err (stop.Fault fault))) n n
other_counts WriteFailed n h = absurd h
other_counts OpenOutput n h = absurd h
other_counts fault n h = refl

pub stop_counts : (values : List Value) (why : Stop) (n : ℕ) → IsStopOf (formatted_values values) why → CountsFailure (answer_of (Err why)) n n
stop_counts values (stop.Fault fault) n is = other_counts fault n (subst (λ (r : Result (List ℕ) Fault). Others r) is (values_others values))
stop_counts values stop.NoMemory n is = refl
