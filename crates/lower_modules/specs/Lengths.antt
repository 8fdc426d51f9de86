-- How many bytes code takes at least.
use Rattle.std.specs.Prelude.{ℕ, ◌+◌, List, [], ◌∷◌}
use Rattle.wasm_types.specs.Immediates.{Immediates, Nothing, immediates}
use Rattle.wasm_types.specs.Syntax.{Instruction, Plain, BrTable, Block, Loop, If, Instructions, Done, Then}
use Rattle.lower_model.specs.Machine.{Callee}

-- an opcode alone, or a byte at least behind it
abbrev pub least_with : Immediates → ℕ
least_with Nothing = 1
least_with immediate = 2

-- a block and a loop have an opcode, a kind and an end; so has a choice
abbrev mutual
  pub least_in : Instructions → ℕ
  least_in Done = 0
  least_in (Then instruction after) = least_of instruction + least_in after

  pub least_of : Instruction → ℕ
  least_of (Plain simple) = least_with (immediates simple)
  least_of (BrTable targets other) = 1
  least_of (Block result inside) = least_in inside + 3
  least_of (Loop result inside) = least_in inside + 3
  least_of (If result so otherwise) = least_in so + least_in otherwise + 3

abbrev pub least_among : List Callee → ℕ
least_among [] = 0
least_among (function ∷ functions) = least_in function.body + least_among functions
