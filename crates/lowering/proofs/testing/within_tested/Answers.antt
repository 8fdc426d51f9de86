use Rattle.wasm_types.specs.Syntax.{Done}
use Rattle.lower_pieces.proofs.Appended.{◌⨟◌}
use Rattle.lowering.proofs.testing.within_tested.Goals as goal

pub returns : goal.returns
returns c = λ k. c.when.ensures _ (c.test_code-all_cases.ensures Done) k ⨟ c.unsure.ensures _
