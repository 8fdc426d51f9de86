-- Words that name one value or two, and nothing else.
use Rattle.std.specs.Prelude.{ℤ, List, Result, Ok, Err}
use Rattle.std.specs.Borrow.{Bor}
use Rattle.std.specs.FinMap as map
use Rattle.awk_values.specs.declared.value.Value.{Value}
use Rattle.wasm_store.specs.declared.trap.TrapKind.{TrapKind}
use Rattle.wasm_store.specs.declared.word.Word.{Word}
use Rattle.host_step.specs.Arguments.{no_more}
use Rattle.host_values.specs.Evaluations.{Evaluation, Values, ends_then, value_then}

-- what the values give, and the map without them
abbrev pub one_then : Values → List Word → (Value → Values → Evaluation) → Evaluation
one_then m words f = value_then m words (λ v left rest. ends_then (no_more rest) (f v left))

abbrev pub two_then : Values → List Word → (Value → Value → Values → Evaluation) → Evaluation
two_then m words f = value_then m words (λ v without_v behind. value_then without_v behind (λ w left rest. ends_then (no_more rest) (f v w left)))

-- the same of the values that were read
abbrev pub one_given : Values → (Value → Values → Evaluation) → Result (ℤ × Bor Value) TrapKind → Evaluation
one_given m f (Ok x) = f x.1.now (map.remove m x.0)
one_given m f (Err k) = Err k

abbrev pub two_given : Values → (Value → Value → Values → Evaluation) → Result (ℤ × Bor Value × ℤ × Bor Value) TrapKind → Evaluation
two_given m f (Ok x) = f x.1.now x.3.now (map.remove (map.remove m x.0) x.2)
two_given m f (Err k) = Err k
