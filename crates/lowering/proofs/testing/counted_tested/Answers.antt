use Rattle.wasm_types.specs.Syntax.{Done}
use Rattle.lower_pieces.proofs.Appended.{◌⨟◌}
use Rattle.lowering.proofs.testing.counted_tested.Goals as goal

pub returns : goal.returns
returns c = λ k. c.emit_if.ensures _ _ (c.test_code-all_cases.ensures Done) (c.counted_code-quick.ensures Done) k ⨟ c.unnumbered.ensures _
