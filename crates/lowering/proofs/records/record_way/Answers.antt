use Rattle.lower_pieces.proofs.Appended.{◌⨟◌}
use Rattle.wasm_types.specs.Syntax.{Done}
use Rattle.lowering.proofs.records.record_way.Goals as goal

pub returns : goal.returns
returns c = λ k. c.emit.ensures k ⨟ c.block.ensures _ (c.record_added.ensures Done _ (c.new-inside.ensures _)) _
