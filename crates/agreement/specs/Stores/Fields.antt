-- The record after an assignment to a field or to NF (POSIX.1-2017 awk, "Variables and Special Variables", NF; "Expressions in awk", fields).
use Rattle.std.specs.Prelude.{◌≡◌, ◌≢◌, ℕ, suc, ◌<◌, ◌≤◌, max, length}
use Rattle.awk_values.specs.declared.value.Value.{Value}
use Rattle.awk_values.specs.declared.value.Value.TheVariants.{StrNum, Uninit}
use Rattle.sem_primitives.specs.SharedState.{Inner}
use Rattle.sem_primitives.specs.FieldMeaning.{field_of, joined, special_text}
use Rattle.sem_primitives.specs.declared.constants.Special.TheVariants.{Ofs}

-- `$0` is the texts of the fields with OFS between them, and nothing but the record and its fields has changed
pub record IsJoinedAnew (before after : Inner) : Type 0 where
  pub whole : after.whole ≡ StrNum (joined (special_text Ofs before) after.fields)
  pub others : after ≡ record before { whole = after.whole; fields = after.fields }

-- a field is assigned to: it has the value, every other field what it had, and NF is its number at least
pub record FieldIsAssigned (n : ℕ) (v : Value) (before after : Inner) : Type 0 where
  pub itself : field_of (suc n) after ≡ v
  pub others : (m : ℕ) → m ≢ n → field_of (suc m) after ≡ field_of (suc m) before
  pub count : length after.fields ≡ max (length before.fields) (suc n)
  pub joined_anew : IsJoinedAnew before after

-- NF is assigned to: fields up to it have what they had, and there are no others
pub record CountIsAssigned (n : ℕ) (before after : Inner) : Type 0 where
  pub kept : (m : ℕ) → m < n → field_of (suc m) after ≡ field_of (suc m) before
  pub cut : (m : ℕ) → n ≤ m → field_of (suc m) after ≡ Uninit
  pub count : length after.fields ≡ n
  pub joined_anew : IsJoinedAnew before after
