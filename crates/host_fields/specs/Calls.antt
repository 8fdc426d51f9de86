-- What calls on the record do, in every state that it may be a part of.
use Rattle.std.specs.Prelude.{◌≡◌, ◌<◌, ℕ, List, Result, Ok, length, ℤ}
use Rattle.awk_values.specs.declared.fault.Fault.{Fault}
use Rattle.awk_values.specs.declared.fault.Stop.{Stop}
use Rattle.awk_values.specs.declared.value.Value.{Value}
use Rattle.sem_primitives.specs.SharedState.{Inner, ◌>>=◌}
use Rattle.sem_primitives.specs.FieldMeaning.{field_number, field_of, special_text, with_count, with_field, with_record}
use Rattle.sem_primitives.specs.declared.constants.Special.TheVariants.{Fs, Ofs, Rs}
use Rattle.host_bytes.specs.Outcomes.{IsStopOf}
use Rattle.host_fields.specs.Held.{Held, with_held}

-- a field is set by a number that a script gives, or NF is, or a field is read
abbrev pub field_set : ℤ → Value → Inner → Result Inner Fault
field_set n v inner = field_number n >>= λ k. with_field k v inner

abbrev pub count_set : ℤ → Inner → Result Inner Fault
count_set n inner = field_number n >>= λ k. with_count k inner

abbrev pub field_read : ℤ → Inner → Result Value Fault
field_read n inner = field_number n >>= λ k. Ok (field_of k inner)

-- with this FS and RS the record of a text is this one, or it stops
abbrev pub IsRecordOf : (fs rs text : List ℕ) → Held → Type 0
IsRecordOf fs rs text new = (inner : Inner) → special_text Fs inner ≡ fs → special_text Rs inner ≡ rs → with_record text inner ≡ Ok (with_held new inner)

abbrev pub IsStopOfRecord : (fs rs text : List ℕ) → Stop → Type 0
IsStopOfRecord fs rs text stop = (inner : Inner) → special_text Fs inner ≡ fs → special_text Rs inner ≡ rs → IsStopOf (with_record text inner) stop

-- with this OFS a change makes the one record of the other, or it stops
abbrev pub Makes : (ofs : List ℕ) → (Inner → Result Inner Fault) → (old new : Held) → Type 0
Makes ofs change old new = (inner : Inner) → special_text Ofs inner ≡ ofs → change (with_held old inner) ≡ Ok (with_held new inner)

abbrev pub IsStopOfChange : (ofs : List ℕ) → (Inner → Result Inner Fault) → (old : Held) → Stop → Type 0
IsStopOfChange ofs change old stop = (inner : Inner) → special_text Ofs inner ≡ ofs → IsStopOf (change (with_held old inner)) stop

-- reading a field gives this value
abbrev pub Reads : ℤ → Held → Value → Type 0
Reads n held value = (inner : Inner) → field_read n (with_held held inner) ≡ Ok value

-- the number is past that of the last field
abbrev pub IsBeyond : ℤ → Held → Type 0
IsBeyond n held = (number : ℕ) × (field_number n ≡ Ok number) × (length held.fields < number)
