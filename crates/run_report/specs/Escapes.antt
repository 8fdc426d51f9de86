-- How a text is shown on a terminal: no byte of it is a command to the terminal, but for the ends of lines.
use Rattle.std.specs.Prelude.{ℕ, ◌+◌, ◌-◌, ◌/◌, ◌%◌, ◌==◌, ◌&&◌, ◌||◌, Bool, not, nat_lt, nat_le, List, [], ◌∷◌, ◌++◌, if◌then◌else◌}

-- A control character: one byte below 32 that ends no line, the byte 127, or a byte from 128 to 159 after the byte 194.
abbrev pub is_control : ℕ → ℕ → Bool
is_control before byte = (nat_lt byte 32 && not (byte == 10)) || (byte == 127 || (before == 194 && (nat_le 128 byte && nat_lt byte 160)))

-- a digit of 16, as `0` to `9` and `a` to `f`
abbrev pub hex_digit : ℕ → ℕ
hex_digit n = if nat_lt n 10 then 48 + n else 87 + n

-- `\x` and two digits
abbrev pub escape : ℕ → List ℕ
escape byte = 92 ∷ (120 ∷ (hex_digit (byte / 16) ∷ (hex_digit (byte % 16) ∷ [])))

abbrev pub shown_byte : ℕ → ℕ → List ℕ
shown_byte before byte = if is_control before byte then escape byte else byte ∷ []

-- the text after a byte
unfoldable pub shown_after : ℕ → List ℕ → List ℕ
shown_after before [] = []
shown_after before (byte ∷ rest) = shown_byte before byte ++ shown_after byte rest

abbrev pub shown : List ℕ → List ℕ
shown text = shown_after 0 text
