-- The limits of the profile: how much a script may hold, read and open at most.
use Rattle.std.specs.Prelude.{ℕ, ◌^◌}

-- bytes of a text
abbrev pub most_text : ℕ
most_text = 2 ^ 26

-- fields of a record; so the number of the last one
abbrev pub most_fields : ℕ
most_fields = 2 ^ 20

-- the number of the last operand that is reached
abbrev pub most_operands : ℕ
most_operands = 2 ^ 20

-- streams that are open by their names
abbrev pub most_streams : ℕ
most_streams = 256
