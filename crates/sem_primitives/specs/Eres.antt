-- The expression of a text, within the limits (POSIX XBD 9.4).
use Rattle.std.specs.Prelude.{ℕ, ◌&&◌, nat_le, if◌then◌else◌, List, Option, Some, None, Result, Ok, Err}
use Rattle.awk_values.specs.declared.fault.Fault.{Fault}
use Rattle.awk_values.specs.declared.fault.Fault.TheVariants.{BadEre, EreTooLarge}
use Rattle.ere_syntax.specs.Tree.{Tree, positions, nesting, most_positions, most_ere_nesting}
use Rattle.ere_syntax.specs.EreOf.{ere_of}

abbrev pub within_limits : Tree → Result Tree Fault
within_limits t = if nat_le (positions t) most_positions && nat_le (nesting t) most_ere_nesting then Ok t else Err EreTooLarge

abbrev pub or_bad : Option Tree → Result Tree Fault
or_bad None = Err BadEre
or_bad (Some t) = within_limits t

abbrev pub expression_of : List ℕ → Result Tree Fault
expression_of text = or_bad (ere_of text)
