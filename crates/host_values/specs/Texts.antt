-- The text of a value that is lent or was made.
use Rattle.std.specs.Prelude.{ℕ, List, []}
use Rattle.host_values.specs.declared.element_keys.KeyText.{KeyText}
use Rattle.host_values.specs.declared.element_keys.KeyText.TheVariants.{Lent, Digits, Empty}
use Rattle.host_values.specs.declared.text.ValueText.{ValueText}
use Rattle.host_values.specs.declared.text.ValueText.TheVariants.{Own, Made}

abbrev pub shown : ValueText → List ℕ
shown (Own text) = text.now
shown (Made text) = text

-- the bytes of a key
abbrev pub key_bytes : KeyText → List ℕ
key_bytes (Lent text) = text.now
key_bytes (Digits digits) = digits
key_bytes Empty = []
