-- The text that a view gives.
use Rattle.std.specs.Prelude.{ℕ, List}
use Rattle.awk_values.specs.declared.comparison.TextView.{TextView}
use Rattle.awk_values.specs.declared.comparison.TextView.TheVariants.{Number, Text}

abbrev pub viewed : TextView → List ℕ
viewed (Number text) = text
viewed (Text text) = text.now
