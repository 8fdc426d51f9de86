-- What one piece of a format adds, and what is left of the values.
use Rattle.std.specs.Prelude.{◌≡◌, ℕ, ◌≤◌, List, [], ◌∷◌, ◌++◌, length, Result, Ok, Err}
use Rattle.awk_values.specs.declared.fault.Fault.{Fault}
use Rattle.awk_values.specs.declared.fault.Fault.TheVariants.{Format}
use Rattle.awk_values.specs.declared.value.Value.{Value}
use Rattle.sem_primitives.specs.SharedState.{◌>>=◌}
use Rattle.sem_primitives.specs.Formats.{Piece, Ordinary, Converts, Malformed, converted, formatted, formatted_from, pieces_from}

-- the text of a piece, and the values after it
abbrev pub step : Piece → List Value → Result (List ℕ × List Value) Fault
step (Ordinary c) values = Ok (c ∷ [], values)
step (Converts d) [] = Err Format
step (Converts d) (v ∷ values) = converted d d.specifier v >>= λ text. Ok (text, values)
step Malformed values = Err Format

-- these values are left
abbrev pub IsLeftBy : Result (List ℕ × List Value) Fault → List Value → Type 0
IsLeftBy (Ok x) values = values ≡ x.1
IsLeftBy (Err fault) values = Unit {0}

abbrev pub text_of_step : Result (List ℕ × List Value) Fault → Result (List ℕ) Fault
text_of_step x = x >>= λ y. Ok y.0

-- what a text and an outcome behind it come to
abbrev pub behind_text : List ℕ → Result (List ℕ) Fault → Result (List ℕ) Fault
behind_text out outcome = outcome >>= λ text. Ok (out ++ text)

-- the text so far, and what is left of the format and of the values, come to the whole
pub record IsLeftOf (format : List ℕ) (values : List Value) (out rest : List ℕ) (left : List Value) : Type 0 where
  pub count : ℕ
  pub enough : length rest ≤ count
  pub outcome : behind_text out (formatted_from (length out) (pieces_from count rest) left) ≡ formatted format values
