-- Texts one after another.
use Rattle.std.specs.Prelude.{ℕ, List, [], ◌∷◌, ◌++◌}
use Rattle.awk_values.specs.Values.{text_of_value}
use Rattle.awk_values.specs.declared.value.Value.{Value}

-- the texts of values, another in front of each
abbrev pub followed : List ℕ → List Value → List ℕ
followed between [] = []
followed between (v ∷ rest) = (between ++ text_of_value v) ++ followed between rest
