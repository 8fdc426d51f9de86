-- What primitives on special variables, the record and its fields mean (POSIX.1-2017 awk, "Variables and Special Variables").
use Rattle.std.specs.Prelude.{ℕ, zero, suc, ◌-◌, nat_le, if◌then◌else◌, List, [], ◌∷◌, ◌++◌, map, length, take, get_or, replicate, slice_set, Result, Ok, Err, ℤ, pos, negsuc}
use Rattle.awk_values.specs.Values.{number_of_value, text_of_value}
use Rattle.awk_values.specs.declared.fault.Fault.{Fault}
use Rattle.awk_values.specs.declared.fault.Fault.TheVariants.{FieldNumber}
use Rattle.awk_values.specs.declared.value.Value.{Value}
use Rattle.awk_values.specs.declared.value.Value.TheVariants.{Uninit, StrNum}
use Rattle.sem_primitives.specs.Limits.{most_fields}
use Rattle.sem_primitives.specs.SharedState.{Inner, ◌>>=◌, special_of, with_special}
use Rattle.sem_primitives.specs.Texts.{limited}
use Rattle.sem_primitives.specs.Fields.{fields_of}
use Rattle.sem_primitives.specs.declared.constants.Special.{Special}
use Rattle.sem_primitives.specs.declared.constants.Special.TheVariants.{Fs, Nf, Ofs, Rs}

-- the texts of values with another text between them, however long
abbrev pub joined : List ℕ → List Value → List ℕ
joined between [] = []
joined between (v ∷ []) = text_of_value v
joined between (v ∷ w ∷ rest) = text_of_value v ++ (between ++ joined between (w ∷ rest))

abbrev pub special_text : Special → Inner → List ℕ
special_text s inner = text_of_value (special_of inner s)

-- the number of a field, or a count of fields, is from 0 to that of the last one
abbrev pub field_number : ℤ → Result ℕ Fault
field_number (pos n) = if nat_le n most_fields then Ok n else Err FieldNumber
field_number (negsuc n) = Err FieldNumber

-- the record is set and its fields are split at once
abbrev pub with_record : List ℕ → Inner → Result Inner Fault
with_record text inner = fields_of (special_text Fs inner) (special_text Rs inner) text >>= λ texts. field_number (pos (length texts)) >>= λ n.
    Ok (record inner { whole = StrNum text; fields = map StrNum texts })

-- the record is made anew of its fields
abbrev pub with_fields : List Value → Inner → Result Inner Fault
with_fields values inner = limited (joined (special_text Ofs inner) values) >>= λ text. Ok (record inner { whole = StrNum text; fields = values })

-- exactly so many fields: those beyond are cut, those that are missing have no value
abbrev pub resized : ℕ → List Value → List Value
resized n values = take n values ++ replicate (n - length values) Uninit

abbrev pub at_least : ℕ → List Value → List Value
at_least n values = values ++ replicate (n - length values) Uninit

abbrev pub with_count : ℕ → Inner → Result Inner Fault
with_count n inner = with_fields (resized n inner.fields) inner

-- field 0 is the record
abbrev pub with_field : ℕ → Value → Inner → Result Inner Fault
with_field zero v inner = with_record (text_of_value v) inner
with_field (suc n) v inner = with_fields (slice_set (at_least (suc n) inner.fields) n v) inner

abbrev pub field_of : ℕ → Inner → Value
field_of zero inner = inner.whole
field_of (suc n) inner = get_or inner.fields n Uninit

-- NF takes a number, and cuts or extends the fields
abbrev pub set_special : Special → Value → Inner → Result Inner Fault
set_special Nf v inner = number_of_value v >>= λ z. field_number z >>= λ n. with_count n inner
set_special s v inner = Ok (with_special s v inner)

abbrev pub done : Result Inner Fault → Result (Inner × Unit {0}) Fault
done (Ok inner) = Ok (inner, tt)
done (Err fault) = Err fault
