-- What is lent of a record.
use Rattle.awk_values.specs.declared.value.Value.{Value}
use Rattle.awk_values.specs.declared.value.Value.TheVariants.{StrNum}
use Rattle.sem_primitives.specs.FieldMeaning.{joined}
use Rattle.host_fields.specs.declared.view.Place.{Place}
use Rattle.host_fields.specs.declared.view.Place.TheVariants.{Held, Joined}

-- the value that a place has
abbrev pub shown : Place → Value
shown (Held value) = value.now
shown (Joined values between) = StrNum (joined between.now values.now)
